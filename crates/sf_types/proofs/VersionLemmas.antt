-- What rows hold, looked up and listed.
use Rattle.std.proofs.Common.{◌≡◌, ℕ, Bool, true, false, cond, List, [], ◌∷◌, ◌++◌, Option, Some, None, refl, sym, ap, ◌∙◌}
use Rattle.std.specs.Prelude.{T}
use Rattle.std.specs.Ordering.{is_lt}
use Rattle.std.specs.Cmp.Lexicographic.{nat_list_cmp_total}
use Rattle.std.specs.FinMap.{nat_cmp-IsAntisymmetric, slice_cmp-IsAntisymmetric}
use Rattle.std.specs.FinMap.Entries as fin
use Rattle.sf_types.specs.Values.Names.{name_cmp}
use Rattle.sf_types.specs.Inside.NameMaps.{is_same_name, get}
use Rattle.sf_types.specs.Values.Marks.{Value}
use Rattle.sf_types.specs.Table.Parts.{Rows}
use Rattle.sf_types.specs.Table.Versions.{value_or_absent, later_change, last_change, overlay, merged_commits, present_values}
use Rattle.sf_types.proofs.NameMapLemmas.{same_name, get-put, lookup-is, IsRisingMap, rising-put, absent_below}
use Rattle.sf_types.proofs.BoolLemmas.{both, first, second}

over_at : (b : Bool) (low up : Option (Option Value)) (x : Option Value) → cond b (Some x) (later_change low up) ≡ later_change low (cond b (Some x) up)
over_at true low up x = refl
over_at false low up x = refl

pub get-over : (lower es : Rows) (q : List ℕ) → get (overlay lower es) q ≡ later_change (get lower q) (get es q)
get-over lower [] q = refl
get-over lower (e ∷ es) q =
    get-put (overlay lower es) e.0 e.1 q
    ∙ ap (cond (is_same_name q e.0) (Some e.1)) (get-over lower es q)
    ∙ over_at (is_same_name q e.0) (get lower q) (get es q) e.1

later_assoc : (a b c : Option (Option Value)) → later_change (later_change a b) c ≡ later_change a (later_change b c)
later_assoc a b None = refl
later_assoc a b (Some change) = refl

pub none_before : (o : Option (Option Value)) → later_change None o ≡ o
none_before None = refl
none_before (Some change) = refl

-- what commits say of a row, with some more behind them
pub last_change-append : (cs more : List Rows) (row : List ℕ) → last_change (cs ++ more) row ≡ later_change (last_change cs row) (last_change more row)
last_change-append [] more row = sym (none_before (last_change more row))
last_change-append (c ∷ cs) more row =
    ap (later_change (get c row)) (last_change-append cs more row)
    ∙ sym (later_assoc (get c row) (last_change cs row) (last_change more row))

-- the commits in one map have what the last of them to name a row says
pub get-merged_over : (cs : List Rows) (lower : Rows) (q : List ℕ) → get (merged_commits lower cs) q ≡ later_change (get lower q) (last_change cs q)
get-merged_over [] lower q = refl
get-merged_over (c ∷ cs) lower q =
    get-merged_over cs (overlay lower c) q
    ∙ ap (λ o. later_change o (last_change cs q)) (get-over lower c q)
    ∙ later_assoc (get lower q) (get c q) (last_change cs q)

rising-over : (lower es : Rows) → IsRisingMap lower → IsRisingMap (overlay lower es)
rising-over lower [] rising = rising
rising-over lower (e ∷ es) rising = rising-put (overlay lower es) e.0 e.1 (rising-over lower es rising)

pub rising-merged_over : (cs : List Rows) (lower : Rows) → IsRisingMap lower → IsRisingMap (merged_commits lower cs)
rising-merged_over [] lower rising = rising
rising-merged_over (c ∷ cs) lower rising = rising-merged_over cs (overlay lower c) (rising-over lower c rising)

below-present : (x : List ℕ) (m : Rows) → T (fin.below_all name_cmp x m) → T (fin.below_all name_cmp x (present_values m))
below-present x [] below = tt
below-present x ((name, None) ∷ m) below = below-present x m (second (is_lt (name_cmp x name)) (fin.below_all name_cmp x m) below)
below-present x ((name, Some v) ∷ m) below =
    both (is_lt (name_cmp x name)) (fin.below_all name_cmp x (present_values m))
    (first (is_lt (name_cmp x name)) (fin.below_all name_cmp x m) below)
    (below-present x m (second (is_lt (name_cmp x name)) (fin.below_all name_cmp x m) below))

pub rising-present : (m : Rows) → IsRisingMap m → IsRisingMap (present_values m)
unfolding IsRisingMap
rising-present [] rising = tt
rising-present ((name, None) ∷ m) rising = rising-present m (second (fin.below_all name_cmp name m) (fin.is_sorted name_cmp m) rising)
rising-present ((name, Some v) ∷ m) rising =
    both (fin.below_all name_cmp name (present_values m)) (fin.is_sorted name_cmp (present_values m))
    (below-present name m (first (fin.below_all name_cmp name m) (fin.is_sorted name_cmp m) rising))
    (rising-present m (second (fin.below_all name_cmp name m) (fin.is_sorted name_cmp m) rising))

absent_at : (b : Bool) (x y : Option Value) (z : Option (Option Value)) → x ≡ value_or_absent z → (b ≡ true → z ≡ None) → x ≡ value_or_absent (cond b (Some None) z)
absent_at true x y z is none = is ∙ ap value_or_absent (none refl)
absent_at false x y z is none = is

present_at : (b : Bool) (x : Option Value) (v : Value) (z : Option (Option Value)) → x ≡ value_or_absent z → cond b (Some v) x ≡ value_or_absent (cond b (Some (Some v)) z)
present_at true x v z is = refl
present_at false x v z is = is

-- the rows that are present have the values that are said of them
pub get-present : (m : Rows) (q : List ℕ) → IsRisingMap m → get (present_values m) q ≡ value_or_absent (get m q)
unfolding IsRisingMap
get-present [] q rising = refl
get-present ((name, None) ∷ m) q rising =
    absent_at (is_same_name q name) (get (present_values m) q) None (get m q)
    (get-present m q (second (fin.below_all name_cmp name m) (fin.is_sorted name_cmp m) rising))
    (λ is. ap (λ k. get m k) (same_name q name is) ∙ absent_below name m (first (fin.below_all name_cmp name m) (fin.is_sorted name_cmp m) rising))
get-present ((name, Some v) ∷ m) q rising =
    present_at (is_same_name q name) (get (present_values m) q) v (get m q) (get-present m q (second (fin.below_all name_cmp name m) (fin.is_sorted name_cmp m) rising))

-- maps that say the same of each row have the same rows present
pub present-same : (m n : Rows) → IsRisingMap m → IsRisingMap n → ((q : List ℕ) → value_or_absent (get m q) ≡ value_or_absent (get n q)) → present_values m ≡ present_values n
unfolding IsRisingMap
present-same m n rising-m rising-n same =
    fin.same_entries name_cmp nat_list_cmp_total (slice_cmp-IsAntisymmetric nat_cmp-IsAntisymmetric) (present_values m) (present_values n) (rising-present m rising-m) (rising-present n rising-n)
    (λ q. sym (lookup-is (present_values m) q) ∙ get-present m q rising-m ∙ same q ∙ sym (get-present n q rising-n) ∙ lookup-is (present_values n) q)
