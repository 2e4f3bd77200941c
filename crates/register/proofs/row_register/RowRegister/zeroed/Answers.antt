use Rattle.std.proofs.Common.{◌∙◌}
use Rattle.register.proofs.Zeros.{zero_rows}
use Rattle.register.proofs.row_register.RowRegister.zeroed.Goals as goal

pub returns-clause-shows : goal.returns-clause-shows
returns-clause-shows g c =
    let rows = c.in_ok-rows.ensures.items_if_clones_equal (g.met.X.Cell.copied _) in
    c.new.ensures.shows
    ∙ zero_rows g.X.Cell.amount g.X.Cell.empty c.empty.result c.args.kinds c.args.accounts c.in_ok-rows.rows.items c.empty.ensures.amount rows c.requires.some_kinds c.requires.few_kinds c.requires.few_accounts
