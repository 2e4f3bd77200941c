-- How large the numbers of a book may be. The code has constants of its own; that they are these is proved.
use Rattle.std.specs.Prelude.{ℕ}

-- the largest amount of a movement, a pay-in or a pay-out: 10^12
abbrev pub most_moved : ℕ
most_moved = 1000000000000

-- the most accounts of a book, the depository's own account 0 among them
abbrev pub most_accounts : ℕ
most_accounts = 32

-- the most securities of a book
abbrev pub most_securities : ℕ
most_securities = 16

-- litas and euro
abbrev pub currencies : ℕ
currencies = 2

-- the most movements on a book
abbrev pub most_movements : ℕ
most_movements = 128

-- the categories that a member sets terms for
abbrev pub categories : ℕ
categories = 5

-- the members who set terms, numbered from 1
abbrev pub members : ℕ
members = 16
