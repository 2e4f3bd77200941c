use Rattle.std.proofs.Common.{refl, ◌∙◌, arith}
use Rattle.std.specs.Int.{w16, w32, w64}
use Rattle.frames.proofs.Fields.{byte_on, left_on, number_on, side_on}
use Rattle.frames.proofs.decoding.trade_in.Goals as goal

pub returns : goal.returns
returns c =
    let fields = c.args.fields.now in
    let at_4 = c.field.ensures.rest in
    let at_6 = left_on fields 4 2 at_4 c.field-2.ensures.rest in
    let at_14 = left_on fields 6 8 at_6 c.field-3.ensures.rest in
    let at_15 = left_on fields 14 1 at_14 c.field-4.ensures.rest in
    let at_23 = left_on fields 15 8 at_15 c.field-5.ensures.rest in
    let at_25 = left_on fields 23 2 at_23 c.field-6.ensures.rest in
    let at_31 = left_on fields 25 6 at_25 c.side_in.ensures.rest in
    let number = c.from_be_bytes.ensures ∙ number_on fields 0 w32 refl c.field.ensures.field in
    let class = byte_on fields 4 2 0 at_4 c.field-2.ensures.field (omega arith) in
    let security = byte_on fields 4 2 1 at_4 c.field-2.ensures.field (omega arith) in
    let quantity = c.from_be_bytes-2.ensures ∙ number_on fields 6 w64 at_6 c.field-3.ensures.field in
    let currency = byte_on fields 14 1 0 at_14 c.field-4.ensures.field (omega arith) in
    let sum = c.from_be_bytes-3.ensures ∙ number_on fields 15 w64 at_15 c.field-5.ensures.field in
    let day = c.from_be_bytes-4.ensures ∙ number_on fields 23 w16 at_23 c.field-6.ensures.field in
    let seller = c.side_in.ensures.side ∙ side_on fields 25 at_25 in
    let buyer = c.side_in-2.ensures.side ∙ side_on fields 31 at_31 in
    cc
