-- The generated script of the bench (our own).
use Rattle.std.specs.Prelude.{ℕ, zero, suc, ◌+◌, ◌/◌, ◌%◌, List, [], ◌∷◌, ◌++◌, replicate, slice_index_or, slice_set, true, false}
use Rattle.sf_types.specs.declared.call.Call.{Call}
use Rattle.sf_types.specs.declared.options.Options.{Options}
use Rattle.sf_script.specs.Parts.{ScriptParts}
use Rattle.sf_script_generate.specs.GeneratedCalls.{generated_call}

-- The calls of each session that were made, and the generator's number after them.
pub record CallsMade : Type 0 where
  pub calls : List (List Call)
  pub number : ℕ

-- What was made with one more call, the last of a session.
abbrev pub with_made : CallsMade → ℕ → Call × ℕ → CallsMade
with_made before at made =
    record { calls = slice_set before.calls at (slice_index_or before.calls at [] ++ made.0 ∷ []); number = made.1 }

-- The first calls. Call i, counted from 0, belongs to session 1 + i mod the number of sessions, and stands there behind
-- i div that number of calls. The calls are made in the order of i.
unfoldable pub calls_made : ℕ → ℕ → ℕ → CallsMade
calls_made start sessions zero = record { calls = replicate sessions []; number = start }
calls_made start sessions (suc count) =
    let before = calls_made start sessions count in
    with_made before (count % sessions) (generated_call (1 + count % sessions) (count / sessions) before.number)

-- The options of the generated script. The others have their defaults.
abbrev pub generated_options : Options
generated_options = record { capacity = 65536; dedup = true; retention = 2; max = false; gather = 4096; dispensers = 4 }

-- The generated script of a start, so many sessions and so many calls. It has no schedule.
abbrev pub generated_script : ℕ → ℕ → ℕ → ScriptParts
generated_script start sessions count =
    record { options = generated_options; sessions = sessions; calls = (calls_made start sessions count).calls; turns = [] }
