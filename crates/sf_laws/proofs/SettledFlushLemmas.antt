-- What the publication of a writing call settles: its result alone.
use Rattle.std.proofs.Common.{◌≡◌, ℕ, List, [], ◌∷◌, length, take, Some, refl, ap, ◌∙◌}
use Rattle.std.specs.Prelude.{unwrap_or}
use Rattle.sf_types.specs.declared.call.Call.{Call}
use Rattle.sf_types.specs.Inside.NameMaps.{get}
use Rattle.sf_types.specs.Values.Marks.{Value}
use Rattle.sf_types.specs.Table.Parts.{Rows, Table}
use Rattle.sf_types.specs.Table.Versions.{value_or_absent}
use Rattle.sf_types.specs.Table.Sessions.{session_of}
use Rattle.sf_types.specs.Space.Cuts.{contents_of_value, settle, settle_value}
use Rattle.sf_types.specs.Space.Due.{written_row, result_in, flush_of}
use Rattle.sf_types.specs.Space.Reach.{reach}
use Rattle.sf_types.specs.Space.Promises.{flush_cuts}
use Rattle.sf_types.specs.Space.Publications.{births_for, settled_flush, settled_result}
use Rattle.sf_laws.proofs.LockLemmas.{own_name}

-- The result with its first cuts stored by the births of the publication.
abbrev pub settled_value : Table → ℕ → List ℕ → Call → Value
settled_value t s at c =
    let result = result_in t (session_of t s) at c in
    settle_value result (take (length (contents_of_value result)) (births_for t.contents (reach t) (flush_cuts t s c)))

pub settled_row : (t : Table) (s : ℕ) (at : List ℕ) (c : Call) → flush_of t (session_of t s) c ≡ (written_row (session_of t s) at, Some (result_in t (session_of t s) at c)) ∷ []
    → settled_flush t s c ≡ (written_row (session_of t s) at, Some (settled_value t s at c)) ∷ []
settled_row t s at c flush = ap (λ (m : Rows). settle m (births_for t.contents (reach t) (flush_cuts t s c))) flush

pub settled_alone : (t : Table) (s : ℕ) (at : List ℕ) (c : Call) → flush_of t (session_of t s) c ≡ (written_row (session_of t s) at, Some (result_in t (session_of t s) at c)) ∷ []
    → settled_result t s (session_of t s) at c ≡ settled_value t s at c
settled_alone t s at c flush =
    let p = session_of t s in
    ap (λ (m : Rows). unwrap_or (value_or_absent (get m (written_row p at))) (result_in t p at c)) (settled_row t s at c flush) ∙ rw (own_name (written_row p at)) refl
