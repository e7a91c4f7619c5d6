-- Histories about edits (our own).
use Rattle.std.specs.Prelude.{ℕ, List, [], ◌∷◌, codes}
use Rattle.sf_types.specs.declared.call.Call.{Call}
use Rattle.sf_types.specs.declared.call.Call.TheVariants as call
use Rattle.sf_types.specs.declared.history.Entry.{Entry}
use Rattle.sf_laws.specs.Histories.{calls}

-- A new object gets some bytes, and then other calls through the locator p are made.
abbrev pub on_bytes : List ℕ → List Call → List Entry
on_bytes bytes others =
    calls (call.Insert (codes "a") ∷ call.Lock (codes "p") (codes "a") ∷ call.WriteAppend (codes "p") bytes ∷ others)

-- A part of `abcdef` is moved, and the value is read.
abbrev pub move_history : ℕ → ℕ → ℕ → List Entry
move_history amount from to =
    on_bytes (codes "abcdef") (call.FragMove (codes "p") amount from to ∷ call.Read (codes "p") 9 1 ∷ [])

-- A write past the end.
abbrev pub padding_history : List Entry
padding_history =
    on_bytes (codes "ab") (call.Write (codes "p") 5 (codes "x") ∷ call.Read (codes "p") 9 1 ∷ [])

-- An erasing that reaches past the end, and one that begins there.
abbrev pub erasing_history : List Entry
erasing_history =
    on_bytes (codes "abcdef")
    (call.Erase (codes "p") 10 5 ∷ call.Read (codes "p") 9 1 ∷ call.Erase (codes "p") 1 7 ∷ [])
