-- The number of each fault.
use Rattle.std.specs.Prelude.{ℕ}
use Rattle.fault.specs.declared.fault.Fault.{Fault}
use Rattle.fault.specs.declared.fault.Fault.TheVariants.{AccountCount, KindCount, OpeningSum, FirstDay, UnknownSide, UnknownKind, UnknownAccount, AmountRange, SumRange, HoldsLess, TradeNumber, UnknownClass, UnknownSecurity, QuantityRange, UnknownCurrency, TradeSum, SettlementDay, NoTerms, UnknownCategory, ClearingField, ClearingLetter, ClearingParticipant, BookFull, UnknownMember, TermsCategory, TermsCustodian, NotOnBook, NoDuty, AlreadyConsented, CancelTooLate, NoFrame, UnknownCode, FrameLength, RegisterUnknownKind, RegisterUnknownAccount, RegisterHoldsLess, RegisterOverLimit}

-- the number by which a refused call is answered; a register's are its own
abbrev pub fault_number : Fault → ℕ
fault_number AccountCount = 1
fault_number KindCount = 2
fault_number OpeningSum = 3
fault_number FirstDay = 4
fault_number UnknownSide = 10
fault_number UnknownKind = 11
fault_number UnknownAccount = 12
fault_number AmountRange = 13
fault_number SumRange = 14
fault_number HoldsLess = 15
fault_number TradeNumber = 20
fault_number UnknownClass = 21
fault_number UnknownSecurity = 22
fault_number QuantityRange = 23
fault_number UnknownCurrency = 24
fault_number TradeSum = 25
fault_number SettlementDay = 26
fault_number NoTerms = 27
fault_number UnknownCategory = 28
fault_number ClearingField = 29
fault_number ClearingLetter = 30
fault_number ClearingParticipant = 31
fault_number BookFull = 32
fault_number UnknownMember = 40
fault_number TermsCategory = 41
fault_number TermsCustodian = 42
fault_number NotOnBook = 50
fault_number NoDuty = 51
fault_number AlreadyConsented = 52
fault_number CancelTooLate = 53
fault_number NoFrame = 80
fault_number UnknownCode = 81
fault_number FrameLength = 82
fault_number RegisterUnknownKind = 91
fault_number RegisterUnknownAccount = 92
fault_number RegisterHoldsLess = 93
fault_number RegisterOverLimit = 94
