use Rattle.std.proofs.Common.{arith}
use Rattle.std.proofs.lemmas.Bool.Decides.{nat_tests}
use Rattle.book.proofs.paying.payable.Goals as goal

pub overflow_add-sum : goal.overflow_add-sum
overflow_add-sum g c = let bound = c.sum.ensures.bound in let movable = c.in_ok-ask-3.ensures in grind (arith, nat_tests)
