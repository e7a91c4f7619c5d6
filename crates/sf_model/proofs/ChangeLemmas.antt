-- What is said of rows after one more saying.
use Rattle.std.proofs.Common.{◌≡◌, ℕ, ◌+◌, ◌<◌, Bool, true, false, cond, IsTrue, List, [], ◌∷◌, ◌++◌, length, take, get_or, Option, Some, None, refl, sym, ap, ◌∙◌}
use Rattle.std.specs.Prelude.{is_some}
use Rattle.std.specs.List.{All}
use Rattle.std.specs.Cmp.Lexicographic.{nat_list_cmp_total}
use Rattle.std.proofs.lemmas.Cmp.{tied_itself}
use Rattle.std.proofs.lemmas.List.Elements.{All-weaker, All-more}
use Rattle.sf_types.specs.Inside.NameMaps.{is_same_name, get, has, with_entry}
use Rattle.sf_types.specs.Table.Parts.{Rows}
use Rattle.sf_types.specs.Values.Marks.{Value}
use Rattle.sf_types.specs.Table.Versions.{value_or_absent, later_change}
use Rattle.sf_types.proofs.NameMapLemmas.{get-put, same_name}
use Rattle.sf_model.specs.Changes.{KeepsValues, KeepsNames}

absent_at : (b : Bool) (o : Option (Option Value)) → (b ≡ true → o ≡ None) → value_or_absent (cond b (Some None) o) ≡ value_or_absent o
absent_at true o none = sym (ap value_or_absent (none refl))
absent_at false o none = refl

-- to say of a row that isn't named that it is absent
pub same-put : (m : Rows) (k : List ℕ) → get m k ≡ None → KeepsValues m (with_entry m k None)
same-put m k none = record {
  same = λ q. ap value_or_absent (get-put m k None q) ∙ absent_at (is_same_name q k) (get m q) (λ is. ap (λ n. get m n) (same_name q k is) ∙ none);
}

some_at : (b : Bool) (x : Option Value) (o : Option (Option Value)) → IsTrue (is_some o) → IsTrue (is_some (cond b (Some x) o))
some_at true x o is = refl
some_at false x o is = is

pub keeps-put : (m : Rows) (k : List ℕ) (v : Option Value) → KeepsNames m (with_entry m k v)
keeps-put m k v = record {
  named = λ q is. ap is_some (get-put m k v q) ∙ some_at (is_same_name q k) v (get m q) is;
}

pub there-put : (m : Rows) (k : List ℕ) (v : Option Value) → IsTrue (has (with_entry m k v) k)
there-put m k v = rw (get-put m k v k, tied_itself nat_list_cmp_total k) refl

pub same_then : (a b c : Rows) → KeepsValues a b → KeepsValues b c → KeepsValues a c
same_then a b c p q = record { same = λ n. q.same n ∙ p.same n }

abbrev pub IsThere : Rows → List ℕ × Option Value → Type 0
IsThere rows change = IsTrue (has rows change.0)

pub there-kept : (old new : Rows) (changes : List (List ℕ × Option Value)) → KeepsNames old new → All (IsThere old) changes → All (IsThere new) changes
there-kept old new changes keeps = All-weaker (IsThere old) (IsThere new) (λ change. keeps.named change.0) changes

-- the places of one change more
pub there-more : (old new : Rows) (changes : List (List ℕ × Option Value)) (i : ℕ) (d : List ℕ × Option Value) → i < length changes → KeepsNames old new → All (IsThere old) (take i changes) → IsThere new (get_or changes i d) → All (IsThere new) (take (i + 1) changes)
there-more old new changes i d lt keeps all one = All-more (IsThere new) changes i d lt (there-kept old new (take i changes) keeps all) one

said_at : (b : Bool) (low up : Option (Option Value)) (x : Option Value) → later_change (cond b (Some x) low) up ≡ later_change low (later_change (cond b (Some x) None) up)
said_at true low None x = refl
said_at true low (Some y) x = refl
said_at false low None x = refl
said_at false low (Some y) x = refl

-- what two lists of changes say, the first of them first
pub get-changes : (xs ys : Rows) (q : List ℕ) → get (xs ++ ys) q ≡ later_change (get ys q) (get xs q)
get-changes [] ys q = refl
get-changes (x ∷ xs) ys q = ap (cond (is_same_name q x.0) (Some x.1)) (get-changes xs ys q) ∙ first_at (is_same_name q x.0) (get ys q) (get xs q) x.1
  where
    first_at : (b : Bool) (low up : Option (Option Value)) (v : Option Value) → cond b (Some v) (later_change low up) ≡ later_change low (cond b (Some v) up)
    first_at true low up v = refl
    first_at false low up v = refl

-- the last change is said first, and then those before it
pub pop-change : (rows : Rows) (left rest : Rows) (name : List ℕ) (value : Option Value) (q : List ℕ) → left ≡ rest ++ (name, value) ∷ [] → later_change (get (with_entry rows name value) q) (get rest q) ≡ later_change (get rows q) (get left q)
pop-change rows left rest name value q is =
    ap (λ o. later_change o (get rest q)) (get-put rows name value q)
    ∙ said_at (is_same_name q name) (get rows q) (get rest q) value
    ∙ ap (later_change (get rows q)) (sym (get-changes rest ((name, value) ∷ []) q) ∙ ap (λ n. get n q) (sym is))
