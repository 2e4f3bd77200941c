use Rattle.std.proofs.Common.{◌<◌, length, refl, rules, ◌∙◌, arith}
use Rattle.std.proofs.lemmas.List.{take_more_set}
use Rattle.frames.proofs.Pairs.{after_none, next_byte}
use Rattle.frames.proofs.line.paired.Goals as goal

pub loop-rest-init : goal.loop-rest-init
loop-rest-init c = (refl, search rules, after_none _)

pub loop-rest-preserved : goal.loop-rest-preserved
loop-rest-preserved c =
    let room : c.loop-rest.len < length c.loop-rest.bytes = omega arith in (
      search rules,
      search rules,
      rw (take_more_set c.loop-rest.bytes c.loop-rest.len c.in_ok-bytes.field-0 room) (next_byte _ c.loop-rest.rest.now _ (search rules) (search rules))
          ∙ c.loop-rest.invariant.2,
    )
