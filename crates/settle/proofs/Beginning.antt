-- A book on registers with nothing in them.
use Rattle.std.proofs.Common.{◌≡◌, ap, ◌∙◌}
use Rattle.register.specs.Holdings.{Holdings, zero_holdings}
use Rattle.register.specs.Joined.{joined_holdings}
use Rattle.register.proofs.Zeros.{joined_zero}
use Rattle.book.specs.State.{State}
use Rattle.book.specs.Opening.{opened, opens_on}
use Rattle.settle.specs.Opening.{from_nothing}

pub begins_with_nothing : (securities cash litas euro : Holdings) (s : State) → s ≡ opened (opens_on securities cash 0) → securities ≡ zero_holdings 4 8
    → cash ≡ joined_holdings litas euro → litas ≡ zero_holdings 1 8 → euro ≡ zero_holdings 1 8 → s ≡ opened from_nothing
begins_with_nothing securities cash litas euro s opens none joined no_litas no_euro =
    rw (none, joined, no_litas, no_euro) at opens ∙ ap (λ held. opened (opens_on (zero_holdings 4 8) held 0)) (joined_zero 1 1 8 8)
