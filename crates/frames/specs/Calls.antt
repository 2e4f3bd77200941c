-- The call that a frame says.
use Rattle.std.specs.Prelude.{ℕ, ◌+◌, List, [], ◌∷◌, length, drop, Some, None, Ok, Err, Option, Result, if◌then◌else◌, ◌==◌, slice_index}
use Rattle.std.specs.Int.{w16, w32, w64}
use Rattle.fault.specs.declared.fault.Fault.{Fault}
use Rattle.fault.specs.declared.fault.Fault.TheVariants.{NoFrame, FrameLength}
use Rattle.movement.specs.declared.terms.Setting.{Setting}
use Rattle.movement.specs.declared.trade.Trade.{Trade as Report}
use Rattle.movement.specs.declared.trade.TradeSide.{TradeSide}
use Rattle.book.specs.declared.place.Place.{Place}
use Rattle.history.specs.declared.call.Call.{Call}
use Rattle.history.specs.declared.call.Call.TheVariants.{PayIn, PayOut, Terms, Trade, Consent, Cancel, Tell}
use Rattle.frames.specs.declared.code.Code.{Code}
use Rattle.frames.specs.declared.code.Code.TheVariants as codes
use Rattle.frames.specs.Bytes.{number_at}
use Rattle.frames.specs.Codes.{code_of, frame_len}
use Rattle.frames.specs.Hex.{line_bytes}

-- Below, the fields of a frame are its bytes after the code.

-- a place: side, kind and account, a byte each
abbrev pub place_in : List ℕ → Place
place_in fields = record {
  side = slice_index fields 0;
  kind = slice_index fields 1;
  account = slice_index fields 2;
}

-- terms: member, category, custodian of securities, custodian of cash, a byte each
abbrev pub setting_in : List ℕ → Setting
setting_in fields = record {
  member = slice_index fields 0;
  category = slice_index fields 1;
  securities = slice_index fields 2;
  cash = slice_index fields 3;
}

-- a side of a trade from a place on: member and category, a byte each, and four bytes of clearing field
abbrev pub side_at : ℕ → List ℕ → TradeSide
side_at place fields = record {
  member = slice_index fields place;
  category = slice_index fields (place + 1);
  clearing = slice_index fields (place + 2) ∷ slice_index fields (place + 3)
      ∷ slice_index fields (place + 4) ∷ slice_index fields (place + 5) ∷ [];
}

-- a trade: number 4, class 1, security 1, quantity 8, currency 1, sum 8, day 2, seller 6, buyer 6
abbrev pub trade_in : List ℕ → Report
trade_in fields = record {
  number = number_at w32 0 fields;
  class = slice_index fields 4;
  security = slice_index fields 5;
  quantity = number_at w64 6 fields;
  currency = slice_index fields 14;
  sum = number_at w64 15 fields;
  day = number_at w16 23 fields;
  seller = side_at 25 fields;
  buyer = side_at 31 fields;
}

-- the call of a code
abbrev pub call_in : Code → List ℕ → Call
call_in codes.PayIn fields = PayIn (place_in fields) (number_at w64 3 fields)
call_in codes.PayOut fields = PayOut (place_in fields) (number_at w64 3 fields)
call_in codes.Terms fields = Terms (setting_in fields)
call_in codes.Trade fields = Trade (trade_in fields)
call_in codes.Consent fields = Consent (number_at w32 0 fields) (slice_index fields 4)
call_in codes.Cancel fields = Cancel (number_at w32 0 fields)
call_in codes.Tell fields = Tell (place_in fields)

-- the call, where the code is one and the frame has as many bytes as it asks
abbrev pub call_with : List ℕ → Result Code Fault → Result Call Fault
call_with bytes (Ok code) =
    if length bytes == frame_len code then Ok (call_in code (drop 1 bytes)) else Err FrameLength
call_with bytes (Err fault) = Err fault

-- the first byte of a frame is its code
abbrev pub frame_call : List ℕ → Result Call Fault
frame_call bytes = call_with bytes (code_of (slice_index bytes 0))

abbrev pub call_of : Option (List ℕ) → Result Call Fault
call_of None = Err NoFrame
call_of (Some bytes) = frame_call bytes

-- the call that a line says
abbrev pub line_call : List ℕ → Result Call Fault
line_call line = call_of (line_bytes line)
