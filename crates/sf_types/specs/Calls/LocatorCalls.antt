-- Locator calls that write nothing: Assign, Free, and GETLENGTH, READ, INSTR and COMPARE of DBMS_LOB. What such a call does
-- is a function of the session's own part. (The order of refusals, Assign, Free, and the ranges of INSTR and COMPARE are our
-- own.)
use Rattle.std.specs.Prelude.{ℕ, ◌+◌, ◌-◌, Bool, false, nat_eq, List, [], ◌∷◌, ◌++◌, map, length, drop, find, bytes_eq, Option, is_none, unwrap_or}
use Rattle.std.specs.List.{range_with_len, starts_with}
use Rattle.sf_types.specs.declared.reply.Fault.{Fault}
use Rattle.sf_types.specs.declared.reply.Fault.TheVariants as fault
use Rattle.sf_types.specs.declared.reply.Reply.{Reply}
use Rattle.sf_types.specs.declared.reply.Reply.TheVariants as reply
use Rattle.sf_types.specs.Inside.NameMaps.{get, with_entry, without_entry}
use Rattle.sf_types.specs.Values.Marks.{Value, empty_value, strip, size_of}
use Rattle.sf_types.specs.Values.Edits.{part}
use Rattle.sf_types.specs.Calls.Arguments.{read_arguments, instr_arguments, compare_arguments}
use Rattle.sf_types.specs.Table.Parts.{Locator, Session}
use Rattle.sf_types.specs.Table.Sessions.{lacks_room}
use Rattle.sf_types.specs.Calls.Refusals.{first_refusal, refusal_or}

-- The locator of a name, where there is one.
abbrev pub locator_named : Session → List ℕ → Option Locator
locator_named p at = get p.locators at

-- A locator that stands for none.
abbrev pub no_locator : Locator
no_locator = record {
  row = [];
  value = empty_value;
  transaction = 0;
  epoch = 0;
  is_dirty = false;
  is_lost = false;
  is_read_only = false;
}

-- The locator of a name, or one that stands for none.
abbrev pub locator : Session → List ℕ → Locator
locator p at = unwrap_or (locator_named p at) no_locator

-- A locator that a call names isn't there.
abbrev pub unknown_refusals : Session → List (List ℕ) → List (Bool × Fault)
unknown_refusals p names = map (λ at. (is_none (locator_named p at), fault.UnknownLocator)) names

-- A locator that a call names is lost.
abbrev pub lost_refusals : Session → List (List ℕ) → List (Bool × Fault)
lost_refusals p names = map (λ at. ((locator p at).is_lost, fault.Lost)) names

-- The refusals of every call through locators but Free: a locator isn't there, then one is lost.
abbrev pub locator_refusals : Session → List (List ℕ) → List (Bool × Fault)
locator_refusals p names = unknown_refusals p names ++ lost_refusals p names

-- Assign: its source isn't there or is lost, then TooManyLocators.
abbrev pub assign_refusal : Session → List ℕ → List ℕ → Option Fault
assign_refusal p to from =
    first_refusal (locator_refusals p (from ∷ []) ++ (lacks_room p to, fault.TooManyLocators) ∷ [])

-- Assign sets a locator to a copy of another, with all its marks and its epoch.
abbrev pub assign_call : Session → List ℕ → List ℕ → Session × Reply
assign_call p to from =
    refusal_or (assign_refusal p to from) p (record p { locators = with_entry p.locators to (locator p from) }, reply.Done)

-- Free: there is no such locator. A lost one is taken away like any other.
abbrev pub free_refusal : Session → List ℕ → Option Fault
free_refusal p at = first_refusal (unknown_refusals p (at ∷ []))

-- Free takes the locator away.
abbrev pub free_call : Session → List ℕ → Session × Reply
free_call p at = refusal_or (free_refusal p at) p (record p { locators = without_entry p.locators at }, reply.Done)

-- Length: the locator isn't there or is lost.
abbrev pub length_refusal : Session → List ℕ → Option Fault
length_refusal p at = first_refusal (locator_refusals p (at ∷ []))

-- Length answers the number of bytes of the locator's own value.
abbrev pub length_call : Session → List ℕ → Session × Reply
length_call p at = refusal_or (length_refusal p at) p (p, reply.Number (size_of (locator p at).value))

-- Read: the locator isn't there or is lost, then the arguments.
abbrev pub read_refusal : Session → List ℕ → ℕ → ℕ → Option Fault
read_refusal p at amount offset =
    first_refusal (locator_refusals p (at ∷ []) ++ read_arguments amount offset (size_of (locator p at).value))

-- The bytes of a value from an offset, counted from 1, amount of them or up to the end.
abbrev pub read_bytes : Value → ℕ → ℕ → List ℕ
read_bytes value amount offset = part (strip value) amount offset

-- Read answers bytes of the locator's own value, as many as it asks for or up to the end.
abbrev pub read_call : Session → List ℕ → ℕ → ℕ → Session × Reply
read_call p at amount offset =
    refusal_or (read_refusal p at amount offset) p (p, reply.Bytes (read_bytes (locator p at).value amount offset))

-- Whether a pattern stands whole at an offset, counted from 1.
abbrev pub matches_at : List ℕ → List ℕ → ℕ → Bool
matches_at bytes pattern offset = starts_with nat_eq (drop (offset - 1) bytes) pattern

-- The least offset from a given one on where a pattern stands whole, or 0.
abbrev pub match_offset : List ℕ → List ℕ → ℕ → ℕ
match_offset bytes pattern offset =
    unwrap_or (find (matches_at bytes pattern) (range_with_len offset (length bytes + 1 - offset))) 0

-- Instr: the locator isn't there or is lost, then the arguments.
abbrev pub instr_refusal : Session → List ℕ → List ℕ → ℕ → Option Fault
instr_refusal p at pattern offset =
    first_refusal (locator_refusals p (at ∷ []) ++ instr_arguments pattern offset)

-- Instr answers the least offset from its own on at which the pattern stands in the locator's own value, or 0.
abbrev pub instr_call : Session → List ℕ → List ℕ → ℕ → Session × Reply
instr_call p at pattern offset =
    refusal_or (instr_refusal p at pattern offset) p
    (p, reply.Number (match_offset (strip (locator p at).value) pattern offset))

-- Compare: a locator isn't there or is lost, the left one first, then the arguments.
abbrev pub compare_refusal : Session → List ℕ → List ℕ → ℕ → ℕ → ℕ → Option Fault
compare_refusal p left right amount left_offset right_offset =
    first_refusal (locator_refusals p (left ∷ right ∷ []) ++ compare_arguments amount left_offset right_offset)

-- Compare answers whether two parts are equal. A part is the bytes from its offset, amount of them or up to the end, and
-- nothing where the offset is past the end.
abbrev pub compare_call : Session → List ℕ → List ℕ → ℕ → ℕ → ℕ → Session × Reply
compare_call p left right amount left_offset right_offset =
    refusal_or (compare_refusal p left right amount left_offset right_offset) p (
      p,
      reply.Equal (bytes_eq
          (part (strip (locator p left).value) amount left_offset)
          (part (strip (locator p right).value) amount right_offset)),
    )
