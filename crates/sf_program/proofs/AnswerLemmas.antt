-- What was read is as good as the whole input, and how far that is.
use Rattle.std.proofs.Common.{◌≡◌, ℕ, ◌+◌, ◌<◌, Bool, true, false, true≢false, List, [], ◌∷◌, length, take, drop, Option, Some, None, IfSome, IfOk, Result, Ok, Err, String, refl, sym, ap, subst, ◌∙◌, arith, inl, inr}
use Rattle.std.proofs.lemmas.Bool.Decides.{leb_tells}
use Rattle.std.proofs.lemmas.List.{length-take, take_all, drop_all}
use Rattle.std.specs.Prelude.{nat_lt}
use Rattle.sf_script.specs.declared.fault.Reason.{Reason}
use Rattle.sf_script.specs.declared.fault.Reason.TheVariants as reasons
use Rattle.sf_script.specs.declared.fault.ScriptFault.{ScriptFault}
use Rattle.sf_script.specs.declared.reading.Reading.{Reading}
use Rattle.sf_script.specs.declared.reading.Reading.TheVariants as reads
use Rattle.sf_script.specs.declared.limits.TheConstants.{SCRIPT_BYTES}
use Rattle.sf_script.specs.Lines.{Line, lines_of}
use Rattle.sf_script.specs.Parts.{ScriptParts, IsScript}
use Rattle.sf_script.specs.Reasons.{first_reason, reason_of, has_wrong_bytes, is_misplaced, names_no_session, has_no_form, passes_limit, after_line}
use Rattle.sf_script.specs.Scripts.{fault_at, fault_or, script_at_end, script_from, script_of}
use Rattle.std.specs.declared.alloc.Global.{Global}
use Rattle.sf_outside.specs.Sink.{GrowsBy}
use Rattle.sf_plain_store.specs.Plays.{transcript_of}
use Rattle.sf_program.specs.declared.input.TheConstants.{READ_LIMIT}
use Rattle.sf_program.specs.declared.status.Status.{Status}
use Rattle.sf_program.specs.declared.status.Status.TheVariants as status
use Rattle.sf_program.specs.Inputs.{IsRead, IsReadFor, IsReadAs}
use Rattle.sf_program.specs.Program.{is_play, status_of, output_of, due_status, due_output, IsOfWords, IsPlayedOut, IsRefusedOut}
use Rattle.sf_program.proofs.RightLemmas.{right_play}

-- a fact for the value that is there, from another
pub if_some : {A : Type 0} (o : Option A) (P Q : A → Type 0) → ((x : A) → P x → Q x) → IfSome o P → IfSome o Q
if_some None P Q f h = tt
if_some (Some x) P Q f h = f x h

pub if_both : {A : Type 0} (o : Option A) (P Q R : A → Type 0) → ((x : A) → P x → Q x → R x) → IfSome o P → IfSome o Q → IfSome o R
if_both None P Q R f h k = tt
if_both (Some x) P Q R f h k = f x h k

pub if_all : {A : Type 0} (o : Option A) (P Q R S : A → Type 0) → ((x : A) → P x → Q x → R x → S x) → IfSome o P → IfSome o Q → IfSome o R → IfSome o S
if_all None P Q R S f h k l = tt
if_all (Some x) P Q R S f h k l = f x h k l

-- an input with too many bytes, and one without
too_long : (bytes : List ℕ) → nat_lt SCRIPT_BYTES (length bytes) ≡ true → script_of bytes ≡ fault_at 0 reasons.Size
unfolding script_of
too_long bytes is = rw is refl

not_too_long : (bytes : List ℕ) → nat_lt SCRIPT_BYTES (length bytes) ≡ false → script_of bytes ≡ script_from 1 reads.Nothing (lines_of bytes)
unfolding script_of
not_too_long bytes is = rw is refl

-- the first bytes of an input are a script where the input is that script, and are refused as the input is
pub script_first : (input : List ℕ) → script_of (take READ_LIMIT input) ≡ script_of input
script_first input =
    elim (leb_tells READ_LIMIT (length input)) [
      | inl (long, more) ↦
          let full : length (take READ_LIMIT input) ≡ READ_LIMIT = length-take READ_LIMIT input ∙ omega (arith, more) in
          too_long (take READ_LIMIT input) (rw full refl) ∙ sym (too_long input long)
      | inr (short, less) ↦ ap script_of (take_all READ_LIMIT input (omega (arith, less)))
    ]

pub script_read : (input bytes : List ℕ) (after : Option (List ℕ)) → IsRead input after bytes → script_of bytes ≡ script_of input
script_read input bytes after read = ap script_of read.first ∙ script_first input

-- whether a reason is the size, and whether a script is refused for it
abbrev is_size : Reason → Bool
is_size reasons.Size = true
is_size _ = false

abbrev size_among : Option Reason → Bool
size_among None = false
size_among (Some reason) = is_size reason

abbrev size_in : Result ScriptParts ScriptFault → Bool
size_in (Ok script) = false
size_in (Err fault) = is_size fault.reason

-- no line is refused for the size
first_reason-size : (a b c d f : Bool) → size_among (first_reason ((a, reasons.Bytes) ∷ (b, reasons.Place) ∷ (c, reasons.Session) ∷ (d, reasons.Form) ∷ (f, reasons.Limit) ∷ [])) ≡ false
first_reason-size true b c d f = refl
first_reason-size false true c d f = refl
first_reason-size false false true d f = refl
first_reason-size false false false true f = refl
first_reason-size false false false false true = refl
first_reason-size false false false false false = refl

reason-size : (reading : Reading) (line : Line) → size_among (reason_of reading line) ≡ false
reason-size reading line =
    first_reason-size (has_wrong_bytes line) (is_misplaced reading line.text) (names_no_session reading line.text) (has_no_form reading line.text) (passes_limit reading line.text)

fault_or-size : (number : ℕ) (reason : Option Reason) (script : Result ScriptParts ScriptFault) → size_among reason ≡ false → size_in script ≡ false → size_in (fault_or number reason script) ≡ false
fault_or-size number None script none other = other
fault_or-size number (Some reason) script none other = none

at_end-size : (number : ℕ) (reading : Reading) → size_in (script_at_end number reading) ≡ false
at_end-size number reads.Nothing = refl
at_end-size number (reads.Options read) = refl
at_end-size number (reads.Sessions parts) = refl

script_from-size : (number : ℕ) (reading : Reading) (lines : List Line) → size_in (script_from number reading lines) ≡ false
unfolding script_from
script_from-size number reading [] = at_end-size number reading
script_from-size number reading (line ∷ lines) =
    fault_or-size number (reason_of reading line) (script_from (number + 1) (after_line reading line.text) lines) (reason-size reading line) (script_from-size (number + 1) (after_line reading line.text) lines)

-- an input that isn't refused for its size was read to its end
read_whole : (input : List ℕ) (after : Option (List ℕ)) (r : Result ScriptParts ScriptFault) → script_of input ≡ r → size_in r ≡ false → after ≡ Some (drop READ_LIMIT input) → after ≡ Some []
read_whole input after r is other left =
    elim (leb_tells READ_LIMIT (length input)) [
      | inl (long, more) ↦ absurd (true≢false (ap size_in (sym (too_long input long) ∙ is) ∙ other))
      | inr (short, less) ↦ left ∙ ap Some (drop_all READ_LIMIT input (omega (arith, less)))
    ]

-- one that is refused for its size has too many bytes
size_long : (input : List ℕ) (at : ℕ) → script_of input ≡ fault_at at reasons.Size → SCRIPT_BYTES < length input
size_long input at is =
    elim (leb_tells READ_LIMIT (length input)) [
      | inl (long, more) ↦ omega (arith, more)
      | inr (short, less) ↦
          let none : size_in (script_of input) ≡ false = ap size_in (not_too_long input short) ∙ script_from-size 1 reads.Nothing (lines_of input) in
          absurd (true≢false (sym (ap size_in is) ∙ none))
    ]

read_for : (input : List ℕ) (after : Option (List ℕ)) (at : ℕ) (reason : Reason) → script_of input ≡ fault_at at reason → after ≡ Some (drop READ_LIMIT input) → IsReadFor reason input after
read_for input after at reasons.Size is left = (size_long input at is, left)
read_for input after at reasons.Bytes is left = read_whole input after _ is refl left
read_for input after at reasons.Place is left = read_whole input after _ is refl left
read_for input after at reasons.Session is left = read_whole input after _ is refl left
read_for input after at reasons.Form is left = read_whole input after _ is refl left
read_for input after at reasons.Limit is left = read_whole input after _ is refl left
read_for input after at reasons.Short is left = read_whole input after _ is refl left

-- how far an input was read, by what it is
pub read_as : (input : List ℕ) (after : Option (List ℕ)) (r : Result ScriptParts ScriptFault) → script_of input ≡ r → after ≡ Some (drop READ_LIMIT input) → IsReadAs r input after
read_as input after (Ok script) is left = read_whole input after (Ok script) is refl left
read_as input after (Err fault) is left = read_for input after fault.line fault.reason is left

-- a script that is refused, by the status and the output that it is due
refused_by : (input : List ℕ) (left before after : Option (List ℕ)) (r : Result ScriptParts ScriptFault) → script_of input ≡ r → status_of r ≡ status.ScriptRefused → IsReadAs r input left → GrowsBy before after (output_of r) → IsRefusedOut input left before after
refused_by input left before after (Ok script) is due read grew = absurd (cc due)
refused_by input left before after (Err fault) is due read grew = record { fault = fault; reads = is; ended = read; written = grew }

pub refused_out : (words : List (String Global)) (input : List ℕ) (left before after : Option (List ℕ)) (answer : Status) (text : List ℕ) → is_play words ≡ true → answer ≡ status.ScriptRefused → (answer ≡ due_status words input) × (text ≡ due_output words input) → IsReadAs (script_of input) input left → GrowsBy before after text → IsRefusedOut input left before after
refused_out words input left before after answer text play refused due read grew =
    let answers : answer ≡ status_of (script_of input) = rw play at due.0 in
    let writes : text ≡ output_of (script_of input) = rw play at due.1 in
    refused_by input left before after (script_of input) refl (sym answers ∙ refused) read (subst (λ (xs : List ℕ). GrowsBy before after xs) writes grew)

-- a play that is done, by the status and the output that it is due
played_by : (input : List ℕ) (left before after : Option (List ℕ)) (r : Result ScriptParts ScriptFault) → script_of input ≡ r → status_of r ≡ status.Done → IfOk r IsScript → IsReadAs r input left → GrowsBy before after (output_of r) → IsPlayedOut input left before after
played_by input left before after (Ok script) is due holds read grew =
    let right = right_play script holds in
    record { script = script; ended = read; reads = is; bytes = transcript_of script; written = grew; right = right.right; order = right.order; places = right.places; text = refl }
played_by input left before after (Err fault) is due holds read grew = absurd (cc due)

pub played_out : (words : List (String Global)) (input : List ℕ) (left before after : Option (List ℕ)) (answer : Status) (text : List ℕ) → is_play words ≡ true → answer ≡ status.Done → (answer ≡ due_status words input) × (text ≡ due_output words input) → IfOk (script_of input) IsScript → IsReadAs (script_of input) input left → GrowsBy before after text → IsPlayedOut input left before after
played_out words input left before after answer text play done due holds read grew =
    let answers : answer ≡ status_of (script_of input) = rw play at due.0 in
    let writes : text ≡ output_of (script_of input) = rw play at due.1 in
    played_by input left before after (script_of input) refl (sym answers ∙ done) holds read (subst (λ (xs : List ℕ). GrowsBy before after xs) writes grew)

-- a script is refused, and a play is done, under `play` alone
other_words : (words : List (String Global)) (answer : Status) (text : List ℕ) (b : Bool) → is_play words ≡ b → IsOfWords words answer text → (answer ≡ status.Usage → ⊥) → is_play words ≡ true
other_words words answer text true is of other = is
other_words words answer text false is of other = absurd (other (of.others is).0)

pub refused_play : (words : List (String Global)) (answer : Status) (text : List ℕ) → IsOfWords words answer text → answer ≡ status.ScriptRefused → is_play words ≡ true
refused_play words answer text of refused = other_words words answer text (is_play words) refl of (λ usage. absurd (cc (sym refused ∙ usage)))

pub done_play : (words : List (String Global)) (answer : Status) (text : List ℕ) → IsOfWords words answer text → answer ≡ status.Done → is_play words ≡ true
done_play words answer text of done = other_words words answer text (is_play words) refl of (λ usage. absurd (cc (sym done ∙ usage)))
