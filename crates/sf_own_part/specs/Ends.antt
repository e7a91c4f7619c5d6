-- What a call's end needs beside the call (our own).
use Rattle.std.specs.Prelude.{◌≡◌, ℕ, List, Option, Some, None, unwrap_or}
use Rattle.sf_types.specs.declared.call.Call.{Call}
use Rattle.sf_types.specs.declared.call.Call.TheVariants as call
use Rattle.sf_types.specs.declared.reply.Fault.{Fault}
use Rattle.sf_types.specs.Values.Marks.{Value}
use Rattle.sf_types.specs.Table.Parts.{Rows}
use Rattle.sf_types.specs.Calls.Savepoints.{savepoint_named, no_savepoint}
use Rattle.sf_types.specs.Calls.WritingCalls.{written_name}
use Rattle.sf_types.specs.Halves.Own.{Own}
use Rattle.sf_types.specs.Halves.Asks.{Known, request_of, working_value}
use Rattle.sf_versions.specs.declared.asks.Answer.{Answer}
use Rattle.sf_versions.specs.declared.asks.Answer.TheVariants as answer
use Rattle.sf_own_part.specs.declared.answers.Prepared.{Prepared}
use Rattle.sf_own_part.specs.declared.answers.Prepared.TheVariants as prepared
use Rattle.sf_own_part.specs.OwnWrites.{write_refusal, written}

-- A second name of a row.
abbrev pub IsNamed : List ℕ → Prepared → Type 0
IsNamed row (prepared.Row name map) = name ≡ row
IsNamed row _ = ⊥

-- A second name of a row, and a value.
abbrev pub IsNamedWith : List ℕ → Value → Prepared → Type 0
IsNamedWith row value (prepared.Row name map) = (name ≡ row) × (map ≡ value)
IsNamedWith row value _ = ⊥

-- The working values of a savepoint.
abbrev pub IsRestored : Rows → Prepared → Type 0
IsRestored working (prepared.Restored rows) = rows ≡ working
IsRestored working _ = ⊥

-- The refusal of a writing call, or what it writes; and nothing for another call.
abbrev pub IsPreparedWrite : Own → Call → Option (List ℕ) → Prepared → Type 0
IsPreparedWrite o c None prepared.Nothing = Unit {0}
IsPreparedWrite o c None _ = ⊥
IsPreparedWrite o c (Some at) (prepared.Refused fault) = write_refusal o at c ≡ Some fault
IsPreparedWrite o c (Some at) (prepared.Written w) = (write_refusal o at c ≡ None) × (w ≡ written o at c)
IsPreparedWrite o c (Some at) _ = ⊥

-- What the end of a call needs, by the own part on which the call begins to stand.
abbrev pub IsPrepared : Own → Call → Prepared → Type 0
IsPrepared o (call.Insert row) p = IsNamed row p
IsPrepared o (call.Delete row) p = IsNamed row p
IsPrepared o (call.Lock to row) p = IsNamedWith row (working_value o row) p
IsPrepared o (call.Select to row) p = IsNamedWith row (working_value o row) p
IsPrepared o (call.RollbackTo name) p = IsRestored (unwrap_or (savepoint_named o.part name) no_savepoint).working p
IsPrepared o c p = IsPreparedWrite o c (written_name c) p

-- A writing call that is refused before the want of space has nothing prepared but its refusal.
abbrev pub IsRefusal : Prepared → Type 0
IsRefusal (prepared.Refused fault) = Unit {0}
IsRefusal _ = ⊥

-- An answer that refuses.
abbrev pub IsRefusing : Answer → Type 0
IsRefusing (answer.Refused fault) = Unit {0}
IsRefusing _ = ⊥

-- A value that is answered is answered twice.
abbrev pub IsTwin : Answer → Type 0
IsTwin (answer.Value map twin) = twin ≡ map
IsTwin _ = Unit {0}

-- A call of which the session knows the refusal.
pub record IsKnown (o : Own) (c : Call) : Type 0 where
  pub fault : Fault
  pub known : request_of o c ≡ Known fault
