-- The words that the program is given. The rules are our own.
use Rattle.std.specs.Prelude.{◌≡◌, List, drop, Option}
use Rattle.std.specs.Iterator.{Drains}
use Rattle.std.specs.declared.io.ErrorKind.{ErrorKind}
use Rattle.std.specs.declared.io.ErrorKind.TheVariants as kinds
use Rattle.sf_program.specs.declared.status.Status.{Status}
use Rattle.sf_program.specs.declared.status.Status.TheVariants as status

-- The words are the items of an iterator without the first, which is the program's own name.
abbrev pub AreWordsOf : {I T : Type 0} → (I → Option T → I → Type 0) → I → List T → Type 0
AreWordsOf {T = T} next_gives items words = (all : List T) × Drains next_gives items all × (words ≡ drop 1 all)

-- The status where there are no words: memory was wanted for them, or else one of them is no text.
abbrev pub status_without_words : ErrorKind → Status
status_without_words kinds.OutOfMemory = status.OutOfMemory
status_without_words _ = status.Usage
