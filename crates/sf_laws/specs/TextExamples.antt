-- Places and rows whose lines are written out (our own).
use Rattle.std.specs.Prelude.{ℕ, List, [], ◌∷◌, codes, replicate}
use Rattle.sf_types.specs.declared.place.Place.{Place}
use Rattle.sf_types.specs.declared.reply.Fault.{Fault}
use Rattle.sf_types.specs.declared.reply.Reply.TheVariants as reply
use Rattle.sf_types.specs.declared.row_end.RowEnd.{RowEnd}
use Rattle.sf_types.specs.Orders.Texts.{text_of_reply}

-- The digest `ab` 32 times.
abbrev digest : List ℕ
digest = replicate 32 171

-- A place of one run, and one of two.
abbrev pub one_run : Place
one_run = record { birth = 2; len = 512; sum = digest; runs = record { first = 5; blocks = 1 } ∷ [] }

abbrev pub two_runs : Place
two_runs = record { birth = 7; len = 1025; sum = digest; runs = record { first = 3; blocks = 2 } ∷ record { first = 0; blocks = 1 } ∷ [] }

-- A row.
abbrev pub invoice : RowEnd
invoice = record { name = codes "invoice-7"; len = 1025; sum = digest }

-- The text of a refusal.
abbrev pub refusal_text : Fault → List ℕ
refusal_text f = text_of_reply (reply.Refused f)
