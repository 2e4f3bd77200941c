-- A register's refusal, as it passes up.
use Rattle.register.specs.declared.refusal.Refusal.{Refusal}
use Rattle.register.specs.declared.refusal.Refusal.TheVariants.{UnknownKind, UnknownAccount, HoldsLess, OverLimit}
use Rattle.fault.specs.declared.fault.Fault.{Fault}
use Rattle.fault.specs.declared.fault.Fault.TheVariants.{RegisterUnknownKind, RegisterUnknownAccount, RegisterHoldsLess, RegisterOverLimit}

-- the fault by which a refusal passes up
abbrev pub passed_up : Refusal → Fault
passed_up UnknownKind = RegisterUnknownKind
passed_up UnknownAccount = RegisterUnknownAccount
passed_up HoldsLess = RegisterHoldsLess
passed_up OverLimit = RegisterOverLimit
