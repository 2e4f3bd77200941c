use Rattle.std.proofs.Common.{◌≡◌, ◌≤◌, length, sym, subst, arith, rules}
use Rattle.netting.specs.Rejoins.{settling}
use Rattle.netting.specs.Theorems.{OnlyTried}
use Rattle.netting.proofs.Within.{bounded_facts}
use Rattle.netting.proofs.Tried.{settling_only_tried}
use Rattle.netting.proofs.Laws.{some_taker, step_1_ends, settling_none_short, settling_none_covered}
use Rattle.netting.proofs.Rising.{highest_struck, lowest_rejoins}
use Rattle.netting.proofs.Balance.{balanced}
use Rattle.netting.proofs.Rejoining.{strikes_sound}
use Rattle.netting.proofs.settle.settled.Goals as goal

pub rejoin_all-requires : goal.rejoin_all-requires
rejoin_all-requires c =
    let fitting = (bounded_facts c.args.movements.now c.args.amounts.now c.requires).fitting in
    let struck = strikes_sound c.args.movements.now c.args.amounts.now c.args.tried.now c.args.tried.now fitting (omega (arith, fitting.few)) in
    rw (c.strike_all.ensures, c.new-package.ensures) struck

pub returns : goal.returns
returns c =
    let movements = c.args.movements.now in
    let amounts = c.args.amounts.now in
    let tried = c.args.tried.now in
    let bounded = bounded_facts movements amounts c.requires in
    let fitting = bounded.fitting in
    let long : length movements ≤ length tried = omega (arith, fitting.few) in
    let is : c.marks.result ≡ settling movements amounts tried = search rules in
    record {
      settling = is;
      some_taker = some_taker movements amounts fitting;
      strikes_end = step_1_ends movements amounts fitting;
      none_short = settling_none_short movements amounts fitting tried _ long is;
      none_covered = settling_none_covered movements amounts fitting tried _ long is;
      only_tried = subst (OnlyTried tried) (sym is) (settling_only_tried movements amounts tried);
      highest_struck = highest_struck movements amounts bounded;
      lowest_rejoins = lowest_rejoins movements amounts bounded tried;
      balanced = balanced movements c.marks.result fitting;
    }
