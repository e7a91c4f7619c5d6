-- What the program answers (our own).
use Rattle.std.specs.Prelude.{◌≡◌, ℕ, ◌⊎◌, Bool, false, IsTrue, List, [], ◌∷◌, ◌++◌, map, codes, Option, Some, Result, Ok, Err, String, string_bytes, if◌then◌else◌}
use Rattle.std.specs.Str.{bytes_eq}
use Rattle.std.specs.Fmt.{decimal}
use Rattle.std.specs.declared.alloc.Global.{Global}
use Rattle.sf_outside.specs.Causes.{EndsAtFault}
use Rattle.sf_outside.specs.Sink.{GrowsBy}
use Rattle.sf_script.specs.Faults.{word_of}
use Rattle.sf_script.specs.Parts.{ScriptParts}
use Rattle.sf_script.specs.Scripts.{script_of}
use Rattle.sf_script.specs.declared.fault.ScriptFault.{ScriptFault}
use Rattle.sf_program.specs.declared.status.Status.{Status}
use Rattle.sf_program.specs.declared.status.Status.TheVariants as status
use Rattle.sf_program.specs.Inputs.{IsReadFor, IsReadAs}
use Rattle.sf_program.specs.Outputs.{GrowsByFront}
use Rattle.sf_plain_store.specs.Plays.{order_of, places_of, transcript_of}
use Rattle.sf_types.specs.Orders.Transcripts.{IsRight, birth_blocks, line}

-- The words are the one word `play`, the only command today.
abbrev pub is_play : List (String Global) → Bool
is_play [] = false
is_play (word ∷ []) = bytes_eq (string_bytes word) (codes "play")
is_play (word ∷ other ∷ others) = false

-- The line that says how the program is used.
abbrev pub usage_line : List ℕ
usage_line = line (codes "usage: securefiles_cli play | run | check | bench SEED SESSIONS CALLS")

-- The line of a refused script: its first wrong line, and the reason.
abbrev pub refusal_line : ScriptFault → List ℕ
refusal_line fault = line (codes "script refused: line " ++ decimal fault.line ++ codes ": " ++ word_of fault.reason)

-- The status that an input is due under `play`, and the output that belongs to it.
abbrev pub status_of : Result ScriptParts ScriptFault → Status
status_of (Ok script) = status.Done
status_of (Err fault) = status.ScriptRefused

-- The output that an input is due under `play`.
abbrev pub output_of : Result ScriptParts ScriptFault → List ℕ
output_of (Ok script) = transcript_of script
output_of (Err fault) = refusal_line fault

-- The status that any words and an input are due. The input isn't looked at where the words are no command.
abbrev pub due_status : List (String Global) → List ℕ → Status
due_status words input = if is_play words then status_of (script_of input) else status.Usage

-- The output that any words are due.
abbrev pub due_output : List (String Global) → List ℕ → List ℕ
due_output words input = if is_play words then output_of (script_of input) else usage_line

-- The headline of `play`: the source was read to its end, its bytes are a script, and what the sink took is right for that
-- script: a transcript of one order that is whole for it, with the replies, rows, free number and number of commits of the
-- run of that order, and with a safe placing. The order is that of the script's turns of play, and the places are those
-- that these turns leave. So what the sink took is a function of what was read.
pub record IsPlayedOut (input : List ℕ) (left before after : Option (List ℕ)) : Type 0 where
  pub script : ScriptParts
  pub ended : left ≡ Some []
  pub reads : script_of input ≡ Ok script
  pub bytes : List ℕ
  pub written : GrowsBy before after bytes
  pub right : IsRight script.options script.calls bytes
  pub order : right.order ≡ order_of script
  pub places : map birth_blocks right.places ≡ places_of script
  pub text : bytes ≡ transcript_of script

-- A refused script: the bytes of the source are no script, they were read as far as the reason asks, and what the sink
-- took is the line that says so.
pub record IsRefusedOut (input : List ℕ) (left before after : Option (List ℕ)) : Type 0 where
  pub fault : ScriptFault
  pub reads : script_of input ≡ Err fault
  pub ended : IsReadFor fault.reason input left
  pub written : GrowsBy before after (refusal_line fault)

-- An output of `play` that the sink didn't take whole: the bytes of the source were read as far as for the whole
-- output, and a front of it was taken.
pub record IsCutOff (input : List ℕ) (left before after : Option (List ℕ)) : Type 0 where
  pub ended : IsReadAs (script_of input) input left
  pub written : GrowsByFront before after (output_of (script_of input))

-- Where the answer stops before the output, memory was wanted and no call of the source failed, or under `play` the last
-- call of the source failed, and no other did.
abbrev pub IsStop : List (String Global) → ℕ → ℕ → Bool → Status → Type 0
IsStop words before now has_failed status.OutOfMemory = now ≡ before
IsStop words before now has_failed status.ReadFault = IsTrue (is_play words) × EndsAtFault before now has_failed
IsStop words before now has_failed status.Done = ⊥
IsStop words before now has_failed status.Usage = ⊥
IsStop words before now has_failed status.ScriptRefused = ⊥
IsStop words before now has_failed status.WriteFault = ⊥

-- An answer of the words alone: `play` is never answered by the usage line, and other words always are.
pub record IsOfWords (words : List (String Global)) (answer : Status) (text : List ℕ) : Type 0 where
  pub play : IsTrue (is_play words) → (answer ≡ status.Done) ⊎ (answer ≡ status.ScriptRefused)
  pub others : is_play words ≡ false → (answer ≡ status.Usage) × (text ≡ usage_line)

-- The status is the one that is due, or a fault of the source or of the sink, or want of memory.
abbrev pub IsDue : Status → Status → Type 0
IsDue status.OutOfMemory due = Unit {0}
IsDue status.ReadFault due = Unit {0}
IsDue status.WriteFault due = Unit {0}
IsDue status.Done due = due ≡ status.Done
IsDue status.Usage due = due ≡ status.Usage
IsDue status.ScriptRefused due = due ≡ status.ScriptRefused
