-- What a book over any two registers is made of.
use Rattle.std.specs.Prelude.{Option}
use Rattle.fault.specs.declared.fault.Fault.{Fault}
use Rattle.book.specs.declared.daybook.Daybook.{Daybook}

pub record Parts (S C : Type 0) : Type 0 where
  -- the opening question that failed, if one did
  pub failed : Option Fault
  -- the day, the members and the movements
  pub daybook : Daybook
  pub securities : S
  pub cash : C
