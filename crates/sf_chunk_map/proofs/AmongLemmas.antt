-- Which births occur: rising lists with the same births are one, and those of a value are those with a byte.
use Rattle.std.proofs.Common.{◌≡◌, ◌⊎◌, inl, inr, ⊎_elim, ℕ, ◌+◌, ◌<◌, Bool, true, false, cond, Some, List, [], ◌∷◌, refl, sym, ap, ◌∙◌, subst, arith}
use Rattle.std.specs.Prelude.{◌==◌, nat_lt, map, filter, filter_map, unwrap_or}
use Rattle.std.specs.List.{cons_option}
use Rattle.std.specs.List.Sorted.{IsStrictlySortedBy}
use Rattle.std.specs.Ordering.{is_eq, nat_cmp}
use Rattle.std.specs.Cmp.{unsigned_ties}
use Rattle.std.specs.Map.{keys_of, lookup}
use Rattle.std.proofs.lemmas.List.Sums.{sum_by-cons}
use Rattle.sf_types.proofs.NumberLemmas.{less, greater, same_number, own_number, not_less, not_same}
use Rattle.sf_types.specs.Values.Marks.{Mark, Zero, Fresh, Stored, Marked, Value, birth_of_mark, births_in}
use Rattle.sf_types.specs.Inside.Births.{IsBelowAll, IsRising, with_birth, rising_births}
use Rattle.sf_chunk_map.specs.Inside.Counts.{Counts, count_at, bytes_of_birth, names_birth, AreCounts, births_with_bytes}
use Rattle.sf_chunk_map.proofs.ListedLemmas.{below_listed, rising_listed}

-- a birth occurs in a list
abbrev pub Among : ℕ → List ℕ → Type 0
Among b [] = ⊥
Among b (x ∷ xs) = (x ≡ b) ⊎ Among b xs

-- what is less than all of a list is less than what occurs in it
below_among : (b x : ℕ) (xs : List ℕ) → IsBelowAll b xs → Among x xs → b < x
below_among b x [] below among = absurd among
below_among b x (y ∷ ys) below (inl is) = subst (λ (k : ℕ). b < k) is below.0
below_among b x (y ∷ ys) below (inr among) = below_among b x ys below.1 among

same_first : (x y : ℕ) (xs ys : List ℕ) → IsRising (x ∷ xs) → IsRising (y ∷ ys) → Among x (y ∷ ys) → Among y (x ∷ xs) → x ≡ y
same_first x y xs ys rising rising' (inl is) other = sym is
same_first x y xs ys rising rising' (inr among) (inl is) = is
same_first x y xs ys rising rising' (inr among) (inr other) = absurd (omega (arith, below_among y x ys rising'.0 among, below_among x y xs rising.0 other))

-- what occurs in the one and is greater than both first items occurs behind the other's first
behind : (x y b : ℕ) (ys : List ℕ) → x ≡ y → x < b → Among b (y ∷ ys) → Among b ys
behind x y b ys same lt (inl is) = absurd (omega (arith, same, lt, is))
behind x y b ys same lt (inr among) = among

-- rising lists in which the same births occur are one
pub same_rising : (xs ys : List ℕ) → IsRising xs → IsRising ys → ((b : ℕ) → Among b xs → Among b ys) → ((b : ℕ) → Among b ys → Among b xs) → xs ≡ ys
same_rising [] [] rising rising' to from = refl
same_rising [] (y ∷ ys) rising rising' to from = absurd (from y (inl refl))
same_rising (x ∷ xs) [] rising rising' to from = absurd (to x (inl refl))
same_rising (x ∷ xs) (y ∷ ys) rising rising' to from =
    let same = same_first x y xs ys rising rising' (to x (inl refl)) (from y (inl refl)) in
    let rest = same_rising xs ys rising.1 rising'.1
    (λ b among. behind x y b ys same (below_among x b xs rising.0 among) (to b (inr among)))
    (λ b among. behind y x b xs (sym same) (below_among y b ys rising'.0 among) (from b (inr among))) in
    ap (λ (k : ℕ). k ∷ xs) same ∙ ap (λ (zs : List ℕ). y ∷ zs) rest

among_with : (c b : ℕ) (bs : List ℕ) → Among b (with_birth c bs) → (c ≡ b) ⊎ Among b bs
among_with c b [] among = among
among_with c b (x ∷ xs) among = go (nat_lt c x) (c == x) (among_with c b xs) among
  where
    go : (t u : Bool) → (Among b (with_birth c xs) → (c ≡ b) ⊎ Among b xs) → Among b (cond t (c ∷ x ∷ xs) (cond u (x ∷ xs) (x ∷ with_birth c xs))) → (c ≡ b) ⊎ Among b (x ∷ xs)
    go true u more all = all
    go false true more all = inr all
    go false false more (inl is) = inr (inl is)
    go false false more (inr rest) = ⊎_elim (λ (is : c ≡ b). inl is) (λ (there : Among b xs). inr (inr there)) (more rest)

with_among : (c b : ℕ) (bs : List ℕ) → (c ≡ b) ⊎ Among b bs → Among b (with_birth c bs)
with_among c b [] either = either
with_among c b (x ∷ xs) either = go (nat_lt c x) (c == x) refl (with_among c b xs) either
  where
    go : (t u : Bool) → (c == x) ≡ u → ((c ≡ b) ⊎ Among b xs → Among b (with_birth c xs)) → (c ≡ b) ⊎ Among b (x ∷ xs) → Among b (cond t (c ∷ x ∷ xs) (cond u (x ∷ xs) (x ∷ with_birth c xs)))
    go true u e more all = all
    go false true e more (inl is) = inl (sym (same_number c x e) ∙ is)
    go false true e more (inr all) = all
    go false false e more (inl is) = inr (more (inl is))
    go false false e more (inr (inl is)) = inl is
    go false false e more (inr (inr rest)) = inr (more (inr rest))

rising_among : (b : ℕ) (xs : List ℕ) → Among b (rising_births xs) → Among b xs
rising_among b [] among = among
rising_among b (x ∷ xs) among = ⊎_elim (λ (is : x ≡ b). inl is) (λ (rest : Among b (rising_births xs)). inr (rising_among b xs rest)) (among_with x b (rising_births xs) among)

among_rising : (b : ℕ) (xs : List ℕ) → Among b xs → Among b (rising_births xs)
among_rising b [] among = among
among_rising b (x ∷ xs) (inl is) = with_among x b (rising_births xs) (inl is)
among_rising b (x ∷ xs) (inr rest) = with_among x b (rising_births xs) (inr (among_rising b xs rest))

below_less : (c x : ℕ) (xs : List ℕ) → c < x → IsBelowAll x xs → IsBelowAll c xs
below_less c x [] lt below = tt
below_less c x (y ∷ ys) lt below = (omega (arith, lt, below.0), below_less c x ys lt below.1)

below_with : (k c : ℕ) (bs : List ℕ) → k < c → IsBelowAll k bs → IsBelowAll k (with_birth c bs)
below_with k c [] lt below = (lt, tt)
below_with k c (x ∷ xs) lt below = go (nat_lt c x) (c == x) (below_with k c xs lt below.1)
  where
    go : (t u : Bool) → IsBelowAll k (with_birth c xs) → IsBelowAll k (cond t (c ∷ x ∷ xs) (cond u (x ∷ xs) (x ∷ with_birth c xs)))
    go true u rest = (lt, below)
    go false true rest = below
    go false false rest = (below.0, rest)

rising_with : (c : ℕ) (bs : List ℕ) → IsRising bs → IsRising (with_birth c bs)
rising_with c [] rising = (tt, tt)
rising_with c (x ∷ xs) rising = go (nat_lt c x) refl (c == x) refl (rising_with c xs rising.1)
  where
    go : (t : Bool) → nat_lt c x ≡ t → (u : Bool) → (c == x) ≡ u → IsRising (with_birth c xs) → IsRising (cond t (c ∷ x ∷ xs) (cond u (x ∷ xs) (x ∷ with_birth c xs)))
    go true e u f rest = let lt = less c x e in ((lt, below_less c x xs lt rising.0), rising)
    go false e true f rest = rising
    go false e false f rest = (below_with x c xs (greater c x e f) rising.0, rest)

rising_births_rise : (xs : List ℕ) → IsRising (rising_births xs)
rising_births_rise [] = tt
rising_births_rise (x ∷ xs) = rising_with x (rising_births xs) (rising_births_rise xs)

one_where : (c b : ℕ) → c ≡ b → cond {A = ℕ} (c == b) 1 0 ≡ 1
one_where c b is = ap (λ (t : Bool). cond {A = ℕ} t 1 0) (subst (λ (x : ℕ). (c == x) ≡ true) is (own_number c))

-- the births of marks, and the bytes of each
abbrev pub named : List Marked → List ℕ
named marked = filter_map (λ (m : Marked). birth_of_mark m.mark) marked

among_marks : (b : ℕ) (ms : List Marked) → Among b (named ms) → 0 < bytes_of_birth b ms
among_marks b [] among = absurd among
among_marks b (m ∷ ms) among =
    let step = sum_by-cons (λ (x : Marked). cond {A = ℕ} (names_birth b x.mark) 1 0) m ms in
    omega (arith, step, go m.mark (among_marks b ms) among)
  where
    go : (k : Mark) → (Among b (named ms) → 0 < bytes_of_birth b ms) → Among b (cons_option (birth_of_mark k) (named ms)) → 0 < cond {A = ℕ} (names_birth b k) 1 0 + bytes_of_birth b ms
    go Zero more all = omega (arith, more all)
    go Fresh more all = omega (arith, more all)
    go (Stored c index) more (inl is) = omega (arith, one_where c b is)
    go (Stored c index) more (inr rest) = omega (arith, more rest)

marks_among : (b : ℕ) (ms : List Marked) → 0 < bytes_of_birth b ms → Among b (named ms)
marks_among b [] some = absurd (omega (arith, some))
marks_among b (m ∷ ms) some =
    let step = sum_by-cons (λ (x : Marked). cond {A = ℕ} (names_birth b x.mark) 1 0) m ms in
    go m.mark (marks_among b ms) (omega (arith, step, some))
  where
    stored : (c : ℕ) (t : Bool) → (c == b) ≡ t → (0 < bytes_of_birth b ms → Among b (named ms)) → 0 < cond {A = ℕ} t 1 0 + bytes_of_birth b ms → (c ≡ b) ⊎ Among b (named ms)
    stored c true e more some = inl (same_number c b e)
    stored c false e more some = inr (more (omega (arith, some)))

    go : (k : Mark) → (0 < bytes_of_birth b ms → Among b (named ms)) → 0 < cond {A = ℕ} (names_birth b k) 1 0 + bytes_of_birth b ms → Among b (cons_option (birth_of_mark k) (named ms))
    go Zero more some = more (omega (arith, some))
    go Fresh more some = more (omega (arith, some))
    go (Stored c index) more some = stored c (c == b) refl more some

-- the births listed are those with a byte
among_listed : (b : ℕ) (m : Counts) → IsStrictlySortedBy nat_cmp (keys_of m) → Among b (births_with_bytes m) → 0 < count_at m b
unfolding IsStrictlySortedBy
among_listed b [] sorted among = absurd among
among_listed b (e ∷ m) sorted among =
    go (nat_lt 0 e.1) refl (b == e.0) refl (is_eq (nat_cmp b e.0)) (unsigned_ties b e.0) (among_listed b m sorted.1) (λ there. below_among e.0 b (births_with_bytes m) (below_listed e.0 m sorted.0) there) among
  where
    go : (t : Bool) → nat_lt 0 e.1 ≡ t → (u : Bool) → (b == e.0) ≡ u → (v : Bool) → (b == e.0) ≡ v → (Among b (births_with_bytes m) → 0 < count_at m b) → (Among b (births_with_bytes m) → e.0 < b)
        → Among b (map (λ (x : ℕ × ℕ). x.0) (cond t (e ∷ filter (λ (x : ℕ × ℕ). nat_lt 0 x.1) m) (filter (λ (x : ℕ × ℕ). nat_lt 0 x.1) m))) → 0 < unwrap_or (cond v (Some e.1) (lookup (λ other. is_eq (nat_cmp b other)) m)) 0
    go true p u q true r more behind all = less 0 e.1 p
    go true p u q false r more behind (inl is) = absurd (not_same b e.0 r (sym is))
    go true p u q false r more behind (inr rest) = more rest
    go false p u q true r more behind all = absurd (omega (arith, behind all, same_number b e.0 r))
    go false p u q false r more behind all = more all

listed_among : (b : ℕ) (m : Counts) → 0 < count_at m b → Among b (births_with_bytes m)
listed_among b [] some = absurd (omega (arith, some))
listed_among b (e ∷ m) some = go (nat_lt 0 e.1) refl (is_eq (nat_cmp b e.0)) (unsigned_ties b e.0) (listed_among b m) some
  where
    go : (t : Bool) → nat_lt 0 e.1 ≡ t → (v : Bool) → (b == e.0) ≡ v → (0 < count_at m b → Among b (births_with_bytes m))
        → 0 < unwrap_or (cond v (Some e.1) (lookup (λ other. is_eq (nat_cmp b other)) m)) 0 → Among b (map (λ (x : ℕ × ℕ). x.0) (cond t (e ∷ filter (λ (x : ℕ × ℕ). nat_lt 0 x.1) m) (filter (λ (x : ℕ × ℕ). nat_lt 0 x.1) m)))
    go true p true r more some = inl (sym (same_number b e.0 r))
    go true p false r more some = inr (more some)
    go false p true r more some = absurd (omega (arith, some, not_less 0 e.1 p))
    go false p false r more some = more some

-- where the numbers are those of a value's bytes, the births listed are those of the value
pub listed_births : (m : Counts) (v : Value) → IsStrictlySortedBy nat_cmp (keys_of m) → AreCounts m v.bytes → births_with_bytes m ≡ births_in v
listed_births m v sorted counts =
    same_rising (births_with_bytes m) (births_in v) (rising_listed m sorted) (rising_births_rise (named v.bytes))
    (λ b among. among_rising b (named v.bytes) (marks_among b v.bytes (omega (arith, counts b, among_listed b m sorted among))))
    (λ b among. listed_among b m (omega (arith, counts b, among_marks b v.bytes (rising_among b (named v.bytes) among))))
