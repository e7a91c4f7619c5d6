-- Buffers, sizes and answers for the examples of refused arguments (our own).
use Rattle.std.specs.Prelude.{ℕ, true, List, [], ◌∷◌, Option, Some, None, codes, replicate}
use Rattle.sf_types.specs.declared.call.Call.{Call}
use Rattle.sf_types.specs.declared.reply.Fault.{Fault}
use Rattle.sf_types.specs.declared.reply.Fault.TheVariants as fault
use Rattle.sf_types.specs.declared.reply.Reply.{Reply}
use Rattle.sf_types.specs.declared.reply.Reply.TheVariants as reply
use Rattle.sf_types.specs.Limits.{standard_options}
use Rattle.sf_types.specs.Values.Marks.{Value}
use Rattle.sf_types.specs.Table.Parts.{Locator, Table, new_session, opening_table}
use Rattle.sf_types.specs.Table.Sessions.{with_session}
use Rattle.sf_types.specs.Calls.LocatorCalls.{no_locator}
use Rattle.sf_types.specs.Calls.Refusals.{first_refusal}
use Rattle.sf_types.specs.Calls.Arguments.{argument_refusals}

-- A buffer of so many bytes.
abbrev pub buffer : ℕ → List ℕ
buffer count = replicate count 75

-- The answers of the examples in short.
abbrev pub done : Reply
done = reply.Done

abbrev pub out_of_range : Reply
out_of_range = reply.Refused fault.ArgOutOfRange

abbrev pub too_long : Reply
too_long = reply.Refused fault.TooLong

-- A refusal as a reply, or that a call is done.
abbrev pub refused_or_done : Option Fault → Reply
refused_or_done (Some f) = reply.Refused f
refused_or_done None = done

-- What a writing call's arguments answer on a value of so many bytes, and a source of so many: for sizes too large to write
-- their values out.
abbrev pub at_size : ℕ → ℕ → Call → Reply
at_size size source made = refused_or_done (first_refusal (argument_refusals made size source))

-- A locator of a row in the open transaction, with this value.
abbrev working_locator : List ℕ → Value → Locator
working_locator row v = record no_locator { row = row; value = v; transaction = 1; is_dirty = true }

-- Session 1 works on the rows a and b with these values, and has the locators p and q of them.
abbrev pub working_on : Value → Value → Table
working_on v w = record (with_session (opening_table standard_options 1) 1 (record new_session {
  opened = 1;
  is_open = true;
  working = (codes "a", Some v) ∷ (codes "b", Some w) ∷ [];
  locators = (codes "p", working_locator (codes "a") v) ∷ (codes "q", working_locator (codes "b") w) ∷ [];
})) { locks = (codes "a", 1) ∷ (codes "b", 1) ∷ [] }

-- The refusal that a reply is, or none.
abbrev pub refusal_in : Reply → Option Fault
refusal_in (reply.Refused f) = Some f
refusal_in _ = None
