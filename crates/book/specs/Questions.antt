-- The answer of a call: the failed opening first, then the call's own questions.
use Rattle.std.specs.Prelude.{List, Result}
use Rattle.fault.specs.declared.fault.Fault.{Fault}
use Rattle.fault.specs.Questions.{Question, unless, asked}
use Rattle.book.specs.State.{State}

-- v in the state s, unless the opening failed or a question is answered no
abbrev pub answer_to : {A : Type 0} → State → List Question → A → Result A Fault
answer_to s qs v = unless s.failed (asked qs v)
