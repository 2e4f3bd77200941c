use Rattle.std.proofs.Common.{rules}
use Rattle.netting.proofs.Striking.{next_struck_none, next_struck_by}
use Rattle.netting.proofs.package.Package.next_to_strike.Goals as goal

pub returns-in_err-place : goal.returns-in_err-place
returns-in_err-place c = let none = next_struck_none c.args.self.now in search rules

pub returns : goal.returns
returns c = let by = next_struck_by c.args.self.now c.in_ok-place.place c.last_taker.result in search rules
