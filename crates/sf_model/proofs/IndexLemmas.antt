-- What follows where an index has what the rows hold.
use Rattle.std.proofs.Common.{◌≡◌, ℕ, List, [], ◌∷◌, ◌++◌, Option, Some, None, refl, sym, ap, ◌∙◌}
use Rattle.std.specs.List.Sorted.{IsStrictlySortedBy}
use Rattle.std.specs.Map.{keys_of}
use Rattle.sf_types.specs.Values.Names.{name_cmp}
use Rattle.sf_types.specs.Inside.NameMaps.{get}
use Rattle.sf_types.specs.Values.Marks.{Value}
use Rattle.sf_types.specs.Table.Parts.{Rows}
use Rattle.sf_types.specs.Table.Versions.{value_or_absent, later_change, last_change, merged_commits, present_values}
use Rattle.sf_types.proofs.NameMapLemmas.{rising_empty, rising_from_ordered}
use Rattle.sf_types.proofs.VersionLemmas.{none_before, last_change-append, get-merged_over, rising-merged_over, present-same}
use Rattle.sf_model.specs.Index.{HoldsCurrent}
use Rattle.sf_model.specs.Changes.{KeepsValues}

-- the rows that are present in the index are those that are present after the commits
pub present-index : (index : Rows) (commits : List Rows) → IsStrictlySortedBy name_cmp (keys_of index) → HoldsCurrent index commits → present_values index ≡ present_values (merged_commits [] commits)
present-index index commits ordered holds =
    present-same index (merged_commits [] commits) (rising_from_ordered index ordered) (rising-merged_over commits [] (rising_empty (Option Value)))
    (λ q. holds.same q ∙ ap value_or_absent (sym (none_before (last_change commits q)) ∙ sym (get-merged_over commits [] q)))

-- an index that says the same as one that has what the rows hold
pub holds_after : (old new : Rows) (commits : List Rows) → KeepsValues old new → HoldsCurrent old commits → HoldsCurrent new commits
holds_after old new commits same holds = record { same = λ q. same.same q ∙ holds.same q }

same_later : (x y z : Option (Option Value)) → value_or_absent x ≡ value_or_absent y → value_or_absent (later_change x z) ≡ value_or_absent (later_change y z)
same_later x y None same = same
same_later x y (Some change) same = refl

-- an index that says what one more commit says
pub holds_more : (old new : Rows) (commits : List Rows) (working : Rows) → HoldsCurrent old commits → ((q : List ℕ) → get new q ≡ later_change (get old q) (get working q)) → HoldsCurrent new (commits ++ working ∷ [])
holds_more old new commits working holds changed = record {
  same = λ q.
      ap value_or_absent (changed q)
      ∙ same_later (get old q) (last_change commits q) (get working q) (holds.same q)
      ∙ ap value_or_absent (sym (last_change-append commits (working ∷ []) q));
}
