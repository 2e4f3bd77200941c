-- Consent.
use Rattle.std.specs.Prelude.{ℕ, Bool, true, false, not, ◌&&◌, ◌||◌, ◌==◌}
use Rattle.movement.specs.declared.half.Half.{Half}
use Rattle.movement.specs.declared.half.Half.TheVariants.{Morning, Afternoon}
use Rattle.movement.specs.declared.movement.Movement.{Movement}
use Rattle.movement.specs.declared.party.Party.{Party}
use Rattle.movement.specs.Movements.{giver, payer}

-- the participant is giver or payer
abbrev pub has_duty : Movement → ℕ → Bool
has_duty m p = giver m == p || payer m == p

-- .. and one of these duties is still without consent
abbrev pub silent : Movement → ℕ → Bool
silent m p = (giver m == p && not m.seller.consented) || (payer m == p && not m.buyer.consented)

-- the half is the afternoon
abbrev pub is_afternoon : Half → Bool
is_afternoon Morning = false
is_afternoon Afternoon = true

-- a party whose custodian consents, if it does
abbrev pub agreeing : Party → Bool → Party
agreeing x b = record x { consented = x.consented || b }

-- the participant consents to every duty that it has; ready from then on, it is late if that is in the afternoon
abbrev pub consented : Movement → ℕ → Half → Movement
consented m p half = record m {
  seller = agreeing m.seller (giver m == p);
  buyer = agreeing m.buyer (payer m == p);
  late = m.late || (is_afternoon half && ((m.seller.consented || giver m == p) && (m.buyer.consented || payer m == p)));
}
