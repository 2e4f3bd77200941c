-- The codes of frames, and how long a frame of each is.
use Rattle.std.specs.Prelude.{ℕ, Ok, Err, Result, if◌then◌else◌, ◌==◌}
use Rattle.fault.specs.declared.fault.Fault.{Fault}
use Rattle.fault.specs.declared.fault.Fault.TheVariants.{UnknownCode}
use Rattle.frames.specs.declared.code.Code.{Code}
use Rattle.frames.specs.declared.code.Code.TheVariants.{PayIn, PayOut, Terms, Trade, Consent, Cancel, Tell}

-- 01 pay in, 02 pay out, 03 terms, 04 trade, 05 consent, 06 cancel, 0A tell
abbrev pub code_of : ℕ → Result Code Fault
code_of byte =
    if byte == 1 then Ok PayIn
    else (if byte == 2 then Ok PayOut
    else (if byte == 3 then Ok Terms
    else (if byte == 4 then Ok Trade
    else (if byte == 5 then Ok Consent
    else (if byte == 6 then Ok Cancel
    else (if byte == 10 then Ok Tell
    else Err UnknownCode))))))

-- the bytes of its frame, the code counted
abbrev pub frame_len : Code → ℕ
frame_len PayIn = 12
frame_len PayOut = 12
frame_len Terms = 5
frame_len Trade = 38
frame_len Consent = 6
frame_len Cancel = 5
frame_len Tell = 4
