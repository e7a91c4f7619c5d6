-- Changes that are settled by the chunks of their cuts.
use Rattle.std.proofs.Common.{◌≡◌, ℕ, zero, suc, ◌+◌, ◌-◌, ◌≤◌, true, false, cond, List, [], ◌∷◌, ◌++◌, length, take, drop, map, Option, Some, None, refl, sym, ap, subst, ◌∙◌, append_assoc, arith}
use Rattle.std.specs.Prelude.{All, filter, nat_lt, slice_get, sum_by}
use Rattle.std.specs.List.{AllByRecursion as Each, concat}
use Rattle.std.proofs.lemmas.Bool.Decides.{nat_tests}
use Rattle.std.proofs.lemmas.List.{length-append, length-drop, length-map}
use Rattle.std.proofs.Math.Seq.{drop-append_seam, drop-drop, take-append_seam}
use Rattle.std.proofs.lemmas.List.Elements.{All-from_recursion, recursion_from_All}
use Rattle.std.specs.declared.cmp.Ordering.TheVariants.{Less}
use Rattle.std.specs.List.Sorted.{IsStrictlySortedBy}
use Rattle.std.specs.Map.{keys_of}
use Rattle.std.proofs.lemmas.List.Sums.{sum_by-cons}
use Rattle.sf_types.specs.Values.Marks.{Marked, Value, fresh_count, is_fresh}
use Rattle.sf_types.specs.Table.Parts.{Rows}
use Rattle.sf_types.specs.Values.Names.{name_cmp}
use Rattle.sf_types.specs.Space.Cuts.{contents_of_value, segments_of, settle, settle_value}
use Rattle.sf_laws.proofs.EachLemmas.{each_right, each_weaker}
use Rattle.sf_laws.proofs.StretchLemmas.{IsContentSize, contents-joined, contents-sizes, segments-joined, segments_maximal, unstored_bytes}
use Rattle.sf_chunk_map.specs.Contents.{StoredContent}
use Rattle.sf_store_half.specs.Inside.Settled.{contents_of_change, contents_of_rows, front_chunks}

-- the item at an index, and those behind it
pub item_at : {X : Type 0} (xs : List X) (at : ℕ) (x : X) → slice_get xs at ≡ Some x → drop at xs ≡ x ∷ drop (at + 1) xs
item_at [] zero x is = absurd cc
item_at [] (suc at) x is = absurd cc
item_at (y ∷ xs) zero x is = let same : y ≡ x = cc in ap (λ z. z ∷ xs) same
item_at (y ∷ xs) (suc at) x is = let up : suc (at + 1) ≡ suc at + 1 = omega arith in item_at xs at x is ∙ ap (λ n. x ∷ drop n (y ∷ xs)) up

pub none_at : {X : Type 0} (xs : List X) (at : ℕ) → slice_get xs at ≡ None → drop at xs ≡ []
none_at [] zero is = refl
none_at [] (suc at) is = refl
none_at (y ∷ xs) zero is = absurd cc
none_at (y ∷ xs) (suc at) is = none_at xs at is

-- chunks one by one
pub front_next : (bytes : ℕ) (x : StoredContent) (xs : List StoredContent) → nat_lt 0 bytes ≡ true → front_chunks bytes (x ∷ xs) ≡ x ∷ front_chunks (bytes - length x.bytes) xs
front_next bytes x xs is = ap (λ t. cond {A = List StoredContent} t (x ∷ front_chunks (bytes - length x.bytes) xs) []) is

pub front_done : (bytes : ℕ) (xs : List StoredContent) → nat_lt 0 bytes ≡ false → front_chunks bytes xs ≡ []
front_done bytes [] is = refl
front_done bytes (x ∷ xs) is = ap (λ t. cond {A = List StoredContent} t (x ∷ front_chunks (bytes - length x.bytes) xs) []) is

-- the chunks of a value are those that have its fresh bytes together
joined_size : (contents : List (List ℕ)) → length (concat contents) ≡ sum_by (λ (bytes : List ℕ). length bytes) contents
joined_size [] = refl
joined_size (bytes ∷ contents) = omega (arith, length-append bytes (concat contents), joined_size contents, sum_by-cons (λ (bs : List ℕ). length bs) bytes contents)

pub fresh_size : (v : Value) → sum_by (λ (bytes : List ℕ). length bytes) (contents_of_value v) ≡ fresh_count v
fresh_size v =
    sym (joined_size (contents_of_value v))
    ∙ ap (λ (bs : List ℕ). length bs) (contents-joined (segments_of v.bytes) (segments_maximal v.bytes) ∙ ap unstored_bytes (segments-joined v.bytes))
    ∙ length-map (filter is_fresh v.bytes) (λ (m : Marked). m.byte)

pub front_is : (contents : List (List ℕ)) (xs : List StoredContent) (bytes : ℕ) → take (length contents) (map (λ (x : StoredContent). x.bytes) xs) ≡ contents → Each (λ bs. 1 ≤ length bs) contents → sum_by (λ (bs : List ℕ). length bs) contents ≡ bytes
    → front_chunks bytes xs ≡ take (length contents) xs
front_is [] xs bytes same some sum = front_done bytes xs (let none : bytes ≡ 0 = sym sum in grind (arith, nat_tests))
front_is (c ∷ contents) [] bytes same some sum = absurd cc
front_is (c ∷ contents) (x ∷ xs) bytes same some sum =
    let own : x.bytes ≡ c = cc in
    let rest : take (length contents) (map (λ (y : StoredContent). y.bytes) xs) ≡ contents = cc in
    let split = sum_by-cons (λ (bs : List ℕ). length bs) c contents in
    let size : length x.bytes ≡ length c = ap (λ (bs : List ℕ). length bs) own in
    let first = some.0 in
    let more : nat_lt 0 bytes ≡ true = let at_least : 1 ≤ bytes = omega (arith, split, sum, first) in grind (arith, nat_tests) in
    front_next bytes x xs more ∙ ap (λ (ys : List StoredContent). x ∷ ys) (front_is contents xs (bytes - length x.bytes) rest some.1 (omega (arith, split, sum, size)))

-- the chunks of a value's contents
pub own_chunks : (v : Value) (xs own : List StoredContent) → own ≡ front_chunks (fresh_count v) xs → take (length (contents_of_value v)) (map (λ (x : StoredContent). x.bytes) xs) ≡ contents_of_value v
    → own ≡ take (length (contents_of_value v)) xs
own_chunks v xs own is same =
    let sizes = contents-sizes (segments_of v.bytes) in
    is ∙ front_is (contents_of_value v) xs (fresh_count v) same
    (each_weaker IsContentSize (λ (bs : List ℕ). 1 ≤ length bs) (contents_of_value v) (λ bs size. size.0) (recursion_from_All IsContentSize (contents_of_value v) sizes)) (fresh_size v)

pub taken_mapped : {X Y : Type 0} (f : X → Y) (n : ℕ) (xs : List X) → map f (take n xs) ≡ take n (map f xs)
taken_mapped f zero xs = refl
taken_mapped f (suc n) [] = refl
taken_mapped f (suc n) (x ∷ xs) = ap (λ ys. f x ∷ ys) (taken_mapped f n xs)

pub dropped_mapped : {X Y : Type 0} (f : X → Y) (n : ℕ) (xs : List X) → map f (drop n xs) ≡ drop n (map f xs)
dropped_mapped f zero xs = refl
dropped_mapped f (suc n) [] = refl
dropped_mapped f (suc n) (x ∷ xs) = dropped_mapped f n xs

pub own_bytes : (v : Value) (xs own : List StoredContent) → own ≡ front_chunks (fresh_count v) xs → take (length (contents_of_value v)) (map (λ (x : StoredContent). x.bytes) xs) ≡ contents_of_value v
    → contents_of_value v ≡ map (λ (x : StoredContent). x.bytes) own
own_bytes v xs own is same =
    sym (ap (map (λ (x : StoredContent). x.bytes)) (own_chunks v xs own is same) ∙ taken_mapped (λ (x : StoredContent). x.bytes) (length (contents_of_value v)) xs ∙ same)

pub own_count : (v : Value) (xs own : List StoredContent) → own ≡ front_chunks (fresh_count v) xs → take (length (contents_of_value v)) (map (λ (x : StoredContent). x.bytes) xs) ≡ contents_of_value v
    → length own ≡ length (contents_of_value v)
own_count v xs own is same = sym (ap (λ (bs : List (List ℕ)). length bs) (own_bytes v xs own is same) ∙ length-map own (λ (x : StoredContent). x.bytes))

pub own_births : (v : Value) (xs own : List StoredContent) → own ≡ front_chunks (fresh_count v) xs → take (length (contents_of_value v)) (map (λ (x : StoredContent). x.bytes) xs) ≡ contents_of_value v
    → map (λ (x : StoredContent). x.birth) own ≡ take (length (contents_of_value v)) (map (λ (x : StoredContent). x.birth) xs)
own_births v xs own is same = ap (map (λ (x : StoredContent). x.birth)) (own_chunks v xs own is same) ∙ taken_mapped (λ (x : StoredContent). x.birth) (length (contents_of_value v)) xs

-- ---- change by change
pub settle_split : (e : List ℕ × Option Value) (rest : Rows) (births : List ℕ) → settle (e ∷ rest) births ≡ settle (e ∷ []) births ++ settle rest (drop (length (contents_of_change e)) births)
settle_split (name, None) rest births = refl
settle_split (name, Some v) rest births = refl

pub settle_named : (e : List ℕ × Option Value) (births : List ℕ) → keys_of (settle (e ∷ []) births) ≡ e.0 ∷ []
settle_named (name, None) births = refl
settle_named (name, Some v) births = refl

-- the names before one of a rising list come before it
ordered_before : (done : Rows) (name : List ℕ) (names : List (List ℕ)) → IsStrictlySortedBy name_cmp (keys_of done ++ name ∷ names) → Each (λ other. name_cmp other.0 name ≡ Less) done
unfolding IsStrictlySortedBy
ordered_before [] name names rising = tt
ordered_before (d ∷ done) name names rising = ((each_right (λ other. name_cmp d.0 other ≡ Less) (keys_of done) (name ∷ names) rising.0).0, ordered_before done name names rising.1)

-- a change with a value, once it is settled by its chunks
module _ (e : List ℕ × Option Value) (name : List ℕ) (v : Value) (bytes : ℕ) (xs own : List StoredContent) (is : (name, Some v) ≡ e) (fresh : bytes ≡ fresh_count v) (taken : own ≡ front_chunks bytes xs)
    (same : take (length (contents_of_change e)) (map (λ (x : StoredContent). x.bytes) xs) ≡ contents_of_change e) where
  front_own : take (length (contents_of_value v)) (map (λ (x : StoredContent). x.bytes) xs) ≡ contents_of_value v
  front_own = subst (λ (x : List ℕ × Option Value). take (length (contents_of_change x)) (map (λ (y : StoredContent). y.bytes) xs) ≡ contents_of_change x) (sym is) same

  taken_own : own ≡ front_chunks (fresh_count v) xs
  taken_own = taken ∙ ap (λ n. front_chunks n xs) fresh

  pub change_bytes : contents_of_value v ≡ map (λ (x : StoredContent). x.bytes) own
  change_bytes = own_bytes v xs own taken_own front_own

  pub change_count : length own ≡ length (contents_of_change e)
  change_count = own_count v xs own taken_own front_own ∙ ap (λ (x : List ℕ × Option Value). length (contents_of_change x)) is

  pub change_settled : (settled : Value) → settled ≡ settle_value v (map (λ (x : StoredContent). x.birth) own) → (name, Some settled) ∷ [] ≡ settle (e ∷ []) (map (λ (x : StoredContent). x.birth) xs)
  change_settled settled told =
      ap (λ (w : Value). (name, Some w) ∷ []) (told ∙ ap (settle_value v) (own_births v xs own taken_own front_own))
      ∙ ap (λ (x : List ℕ × Option Value). settle (x ∷ []) (map (λ (y : StoredContent). y.birth) xs)) is

-- ---- the changes up to one are settled
-- Some changes are settled by the chunks before one; the bytes of the rest are those of the contents that are left.
pub record IsSettledTo (changes : Rows) (chunks : List StoredContent) (done rest : Rows) (from : ℕ) : Type 0 where
  pub settled : done ++ settle rest (map (λ x. x.birth) (drop from chunks)) ≡ settle changes (map (λ x. x.birth) chunks)
  pub bytes : map (λ x. x.bytes) (drop from chunks) ≡ contents_of_rows rest
  pub names : IsStrictlySortedBy name_cmp (keys_of done ++ keys_of rest)
  pub within : from ≤ length chunks

keys_pushed : (es : Rows) (e : List ℕ × Option Value) → keys_of (es ++ e ∷ []) ≡ keys_of es ++ e.0 ∷ []
keys_pushed [] e = refl
keys_pushed (x ∷ es) e = ap (λ (ks : List (List ℕ)). x.0 ∷ ks) (keys_pushed es e)

module _ (changes : Rows) (chunks : List StoredContent) (done : Rows) (e : List ℕ × Option Value) (rest : Rows) (from : ℕ) (to : IsSettledTo changes chunks done (e ∷ rest) from) where
  bytes_here : map (λ (x : StoredContent). x.bytes) (drop from chunks) ≡ contents_of_change e ++ contents_of_rows rest
  bytes_here = to.bytes

  name_here : (own : List ℕ × Option Value) → own ∷ [] ≡ settle (e ∷ []) (map (λ (x : StoredContent). x.birth) (drop from chunks)) → own.0 ≡ e.0
  name_here own told = let keys : own.0 ∷ [] ≡ e.0 ∷ [] = ap keys_of told ∙ settle_named e (map (λ (x : StoredContent). x.birth) (drop from chunks)) in cc

  pub front_here : take (length (contents_of_change e)) (map (λ (x : StoredContent). x.bytes) (drop from chunks)) ≡ contents_of_change e
  front_here = ap (take (length (contents_of_change e))) bytes_here ∙ take-append_seam (contents_of_change e) (contents_of_rows rest)

  pub names_before : (own : List ℕ × Option Value) → own ∷ [] ≡ settle (e ∷ []) (map (λ (x : StoredContent). x.birth) (drop from chunks)) → All (λ other. name_cmp other.0 own.0 ≡ Less) done
  names_before own told =
      All-from_recursion (λ (other : List ℕ × Option Value). name_cmp other.0 own.0 ≡ Less) done
      (subst (λ (n : List ℕ). Each (λ other. name_cmp other.0 n ≡ Less) done) (sym (name_here own told)) (ordered_before done e.0 (keys_of rest) to.names))

  pub within_here : (count : ℕ) → count ≡ length (contents_of_change e) → from + count ≤ length chunks
  within_here count same =
      let left = length-drop from chunks in
      let size = length-map (drop from chunks) (λ (x : StoredContent). x.bytes) in
      let all : length (map (λ (x : StoredContent). x.bytes) (drop from chunks)) ≡ length (contents_of_change e ++ contents_of_rows rest) = ap (λ (bs : List (List ℕ)). length bs) bytes_here in
      let split = length-append (contents_of_change e) (contents_of_rows rest) in
      let before = to.within in
      omega (arith, left, size, all, split, same, before)

  pub settled_next : (own : List ℕ × Option Value) (count : ℕ) → own ∷ [] ≡ settle (e ∷ []) (map (λ (x : StoredContent). x.birth) (drop from chunks)) → count ≡ length (contents_of_change e)
      → IsSettledTo changes chunks (done ++ own ∷ []) rest (from + count)
  settled_next own count told same =
      let births = map (λ (x : StoredContent). x.birth) (drop from chunks) in
      let later : drop count (drop from chunks) ≡ drop (from + count) chunks = drop-drop count from chunks in
      record {
        settled =
            append_assoc done (own ∷ []) (settle rest (map (λ (x : StoredContent). x.birth) (drop (from + count) chunks)))
            ∙ ap (λ (xs : Rows). done ++ (xs ++ settle rest (map (λ (x : StoredContent). x.birth) (drop (from + count) chunks)))) told
            ∙ ap (λ (bs : List ℕ). done ++ (settle (e ∷ []) births ++ settle rest bs))
            (ap (map (λ (x : StoredContent). x.birth)) (sym later) ∙ dropped_mapped (λ (x : StoredContent). x.birth) count (drop from chunks) ∙ ap (λ n. drop n births) same)
            ∙ ap (λ (xs : Rows). done ++ xs) (sym (settle_split e rest births))
            ∙ to.settled;
        bytes =
            ap (map (λ (x : StoredContent). x.bytes)) (sym later) ∙ dropped_mapped (λ (x : StoredContent). x.bytes) count (drop from chunks)
            ∙ ap (drop count) bytes_here ∙ ap (λ n. drop n (contents_of_change e ++ contents_of_rows rest)) same ∙ drop-append_seam (contents_of_change e) (contents_of_rows rest);
        names =
            subst (λ (ks : List (List ℕ)). IsStrictlySortedBy name_cmp ks)
            (sym (ap (λ (ks : List (List ℕ)). ks ++ keys_of rest) (keys_pushed done own) ∙ append_assoc (keys_of done) (own.0 ∷ []) (keys_of rest) ∙ ap (λ (n : List ℕ). keys_of done ++ n ∷ keys_of rest) (name_here own told)))
            to.names;
        within = within_here count same;
      }
