-- Refusals: a call is refused by the first test of its list that holds, and then changes nothing (our own).
use Rattle.std.specs.Prelude.{Bool, List, [], ◌∷◌, Option, Some, None, if◌then◌else◌}
use Rattle.sf_types.specs.declared.reply.Fault.{Fault}
use Rattle.sf_types.specs.declared.reply.Reply.{Reply}
use Rattle.sf_types.specs.declared.reply.Reply.TheVariants.{Refused}

-- The refusal of the first test of a list that holds, or none.
abbrev pub first_refusal : List (Bool × Fault) → Option Fault
first_refusal [] = None
first_refusal (t ∷ ts) = if t.0 then Some t.1 else first_refusal ts

-- A refused call leaves what was before and answers the refusal; where nothing refuses it, it is done.
abbrev pub refusal_or : {A : Type 0} → Option Fault → A → A × Reply → A × Reply
refusal_or None before done = done
refusal_or (Some f) before done = (before, Refused f)
