-- Versions that later ones have displaced.
use Rattle.std.proofs.Common.{◌≡◌, ◌<◌, ℕ, List, [], ◌∷◌, Option, sym, subst, arith, rules}
use Rattle.std.specs.Prelude.{IsSome, IfSome}
use Rattle.std.specs.Ordering.{nat_cmp}
use Rattle.std.specs.Cmp.Lexicographic.{nat_list_cmp_total}
use Rattle.std.proofs.lemmas.Cmp.{tied_itself}
use Rattle.sf_types.specs.Values.Marks.{Value}
use Rattle.sf_room_map.specs.Entries.{value_for}
use Rattle.sf_versions.specs.RowChanges.{RowChanges, last_number}
use Rattle.sf_versions.specs.VersionTables.{no_versions, versions_of, after_commit, IsDisplaced}

-- two commits of one row make two versions
two_versions : (name : List ℕ) (first second : Option Value) → versions_of (after_commit (after_commit no_versions ((name, first) ∷ [])) ((name, second) ∷ [])).rows name ≡ (1, first) ∷ (2, second) ∷ []
two_versions name first second = simp (tied_itself nat_list_cmp_total name)

-- of two commits of one row the second displaces the version of the first
pub displaced : (name : List ℕ) (first second : Option Value) → IsDisplaced (after_commit (after_commit no_versions ((name, first) ∷ [])) ((name, second) ∷ [])).rows name 1
displaced name first second = record {
  made = subst (λ (vs : RowChanges). IsSome (value_for nat_cmp vs 1)) (sym (two_versions name first second)) (search rules);
  later = subst (λ (vs : RowChanges). IfSome (last_number vs) (λ last. 1 < last)) (sym (two_versions name first second)) (omega arith);
}
