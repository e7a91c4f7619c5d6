-- Commits one after another.
use Rattle.std.proofs.Common.{◌≡◌, ℕ, List, [], ◌∷◌, ◌++◌, Option, Some, None, refl, ap, ◌∙◌}
use Rattle.std.specs.Prelude.{unwrap_or}
use Rattle.sf_types.specs.Inside.NameMaps.{get, with_entry}
use Rattle.sf_types.specs.Values.Marks.{Value}
use Rattle.sf_types.specs.Table.Parts.{Rows}
use Rattle.sf_types.specs.Table.Versions.{value_or_absent, later_change, last_change, overlay}
use Rattle.std.specs.List.{AllByRecursion}
use Rattle.std.specs.List.Sorted.{IsStrictlySortedBy}
use Rattle.std.specs.Map.{keys_of}
use Rattle.std.specs.Ordering.{match_ordering}
use Rattle.std.specs.declared.cmp.Ordering.TheVariants.{Less}
use Rattle.sf_types.specs.Values.Names.{name_cmp}
use Rattle.sf_types.proofs.VersionLemmas.{last_change-append}

over : (a b : Option (Option Value)) → value_or_absent (later_change a b) ≡ unwrap_or b (value_or_absent a)
over a None = refl
over a (Some change) = refl

-- what a row is after one commit more
pub value_after_more : (cs : List Rows) (c : Rows) (row : List ℕ) → value_or_absent (last_change (cs ++ c ∷ []) row) ≡ unwrap_or (get c row) (value_or_absent (last_change cs row))
value_after_more cs c row = ap value_or_absent (last_change-append cs (c ∷ []) row) ∙ over (last_change cs row) (get c row)

-- the last entry comes over the lower map first
pub overlay_last : (lower es : Rows) (e : List ℕ × Option Value) → overlay lower (es ++ e ∷ []) ≡ overlay (with_entry lower e.0 e.1) es
overlay_last lower [] e = refl
overlay_last lower (x ∷ es) e = ap (λ (m : Rows). with_entry m x.0 x.1) (overlay_last lower es e)

first_entry : (e : List ℕ × Option Value) (es : Rows) → AllByRecursion (λ y. name_cmp e.0 y ≡ Less) (keys_of es) → with_entry es e.0 e.1 ≡ e ∷ es
first_entry e [] all = refl
first_entry e (f ∷ es) all = ap (λ o. match_ordering o (e ∷ f ∷ es) ((f.0, e.1) ∷ es) (f ∷ with_entry es e.0 e.1)) all.0

-- entries whose names rise, put into the empty map one after the other, are a map
pub overlay_rising : (es : Rows) → IsStrictlySortedBy name_cmp (keys_of es) → overlay [] es ≡ es
unfolding IsStrictlySortedBy
overlay_rising [] rising = refl
overlay_rising (e ∷ es) rising = ap (λ (m : Rows). with_entry m e.0 e.1) (overlay_rising es rising.1) ∙ first_entry e es rising.0
