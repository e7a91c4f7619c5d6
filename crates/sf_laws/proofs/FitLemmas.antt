-- What fits at a floor fits at every higher one: a cut that is found no longer takes what its birth took.
use Rattle.std.proofs.Common.{◌≡◌, ℕ, ◌+◌, ◌-◌, ◌≤◌, Bool, true, false, ◌||◌, cond, ◌⊎◌, inl, inr, ⊎_elim, List, [], ◌∷◌, ◌++◌, length, Option, Some, refl, sym, ap, subst, ◌∙◌, append_assoc, arith}
use Rattle.std.proofs.lemmas.List.Elements.{Contains-append_left, Contains-append_right, Contains-append_cases}
use Rattle.std.proofs.lemmas.List.Sums.{sum_by-cons}
use Rattle.std.proofs.lemmas.Bool.Decides.{nat_tests}
use Rattle.std.proofs.lemmas.Slice.Eq.{bytes_eq-Decides}
use Rattle.std.specs.Prelude.{flat_map, sum_by, nat_le, bytes_eq, Contains}
use Rattle.std.specs.List.{AllByRecursion as Each, list_any}
use Rattle.std.specs.Option.{option_map_or}
use Rattle.sf_types.specs.declared.history.Entry.{Entry}
use Rattle.sf_types.specs.declared.options.Options.{Options}
use Rattle.sf_types.specs.Inside.Births.{IsRising, IsBelowAll}
use Rattle.sf_types.specs.Table.Parts.{Content, Table, opening_table}
use Rattle.sf_types.specs.Space.Contents.{blocks_of}
use Rattle.sf_types.specs.Space.Cuts.{Cut}
use Rattle.sf_types.specs.Space.Reach.{holdings, reach}
use Rattle.sf_types.specs.Space.Use.{content_of, blocks_of_birth, blocks_of_births, use_of, free_of}
use Rattle.sf_types.specs.Space.Promises.{is_found, is_equal_sharing, new_cuts, wanted_blocks, wanted_blocks_at, fits_at, with_floor}
use Rattle.sf_types.specs.Orders.Histories.{IsLegalHistory, history_table}
use Rattle.sf_types.proofs.BoolLemmas.{or-true}
use Rattle.sf_types.proofs.NumberLemmas.{at_most}
use Rattle.sf_laws.proofs.EachLemmas.{each_of_any, each_itself, each_contained}
use Rattle.sf_laws.proofs.HalfLemmas.{stands_where}
use Rattle.sf_laws.proofs.ReachStepLemmas.{reach_at_floor}
use Rattle.sf_laws.proofs.SumLemmas.{rising_rises, first_or_rest, in_rest, below_more, sum_among}
use Rattle.sf_laws.proofs.WantedLemmas.{cut_blocks, found_from, is_found_from, sum_tail}

-- A sharing cut has the content of a shared birth.
record IsCopyOf (contents : List Content) (b : ℕ) (cut : Cut) : Type 0 where
  sharing : cut.is_sharing ≡ true
  content : Content
  at : content_of contents b ≡ Some content
  bytes : content.bytes ≡ cut.bytes

copy_blocks : (contents : List Content) (b : ℕ) (cut : Cut) → IsCopyOf contents b cut → cut_blocks cut ≡ blocks_of_birth contents b
copy_blocks contents b cut copy =
    sym (ap (λ (o : Option Content). option_map_or (λ x. blocks_of (length x.bytes)) o 0) copy.at ∙ ap (λ (xs : List ℕ). blocks_of (length xs)) copy.bytes)

one_content : (x y : Content) → ◌≡◌ {A = Option Content} (Some x) (Some y) → x.bytes ≡ y.bytes
one_content x y is = let same : x ≡ y = cc in ap (λ (z : Content). z.bytes) same

all_sharing : (a b : Cut) → a.is_sharing ≡ true → b.is_sharing ≡ true → bytes_eq a.bytes b.bytes ≡ true → is_equal_sharing a b ≡ true
all_sharing a b first second same = rw (first, second, same) refl

-- two cuts with the content of one birth are equal
copies_equal : (contents : List Content) (b : ℕ) (cut other : Cut) → IsCopyOf contents b cut → IsCopyOf contents b other → is_equal_sharing cut other ≡ true
copies_equal contents b cut other first second =
    let same : cut.bytes ≡ other.bytes = sym first.bytes ∙ one_content first.content second.content (sym first.at ∙ second.at) ∙ second.bytes in
    all_sharing cut other first.sharing second.sharing ((bytes_eq-Decides cut.bytes other.bytes).1 same)

-- The cuts that are found among some births are found among others, those of one birth aside.
abbrev IsFoundButFor : List Content → List ℕ → List ℕ → ℕ → Cut → Type 0
IsFoundButFor contents more fewer b cut = is_found contents more cut ≡ true → (is_found contents fewer cut ≡ true) ⊎ IsCopyOf contents b cut

-- a cut that stays found, is found no longer, or was not found
wanted_where : (x y d : Bool) (cut : Cut) (a b : List Cut) (n : ℕ) → (x ≡ true → (y || d) ≡ true) → sum_by cut_blocks a ≤ sum_by cut_blocks b + n → sum_by cut_blocks (cond (y || d) a (cut ∷ a)) ≤ sum_by cut_blocks (cond (x || d) b (cut ∷ b)) + n
wanted_where x true d cut a b n stays le = let tail = sum_tail (x || d) cut b in omega (arith, tail, le)
wanted_where true false true cut a b n stays le = le
wanted_where false false true cut a b n stays le = le
wanted_where true false false cut a b n stays le = absurd (differ (stays refl))
  where
    differ : false ≡ true → ⊥
    differ is = cc
wanted_where false false false cut a b n stays le = rw (sum_by-cons cut_blocks cut a) (rw (sum_by-cons cut_blocks cut b) (omega (arith, le)))

-- Each cut with the content of a birth has an equal one among the earlier cuts.
abbrev IsTaken : List Content → ℕ → List Cut → Type 0
IsTaken contents b earlier = (cut : Cut) → IsCopyOf contents b cut → list_any (is_equal_sharing cut) earlier ≡ true

stays_found : (x y d : Bool) (P : Type 0) → (x ≡ true → (y ≡ true) ⊎ P) → (P → d ≡ true) → x ≡ true → (y || d) ≡ true
stays_found x y d P found taken is = ⊎_elim (λ (h : y ≡ true). rw h refl) (λ (h : P). or-true y d (taken h)) (found is)

-- where the content is taken, no more is wanted
wanted_taken : (contents : List Content) (more fewer : List ℕ) (b : ℕ) (earlier of : List Cut) → IsTaken contents b earlier → Each (IsFoundButFor contents more fewer b) of
    → sum_by cut_blocks (new_cuts contents fewer earlier of) ≤ sum_by cut_blocks (new_cuts contents more earlier of) + 0
wanted_taken contents more fewer b earlier [] taken found = omega arith
wanted_taken contents more fewer b earlier (cut ∷ rest) taken found =
    wanted_where (is_found contents more cut) (is_found contents fewer cut) (list_any (is_equal_sharing cut) earlier) cut (new_cuts contents fewer (cut ∷ earlier) rest) (new_cuts contents more (cut ∷ earlier) rest) 0
    (stays_found (is_found contents more cut) (is_found contents fewer cut) (list_any (is_equal_sharing cut) earlier) (IsCopyOf contents b cut) found.0 (taken cut))
    (wanted_taken contents more fewer b (cut ∷ earlier) rest (λ other copy. or-true (is_equal_sharing other cut) (list_any (is_equal_sharing other) earlier) (taken other copy)) found.1)

taken_by : (contents : List Content) (b : ℕ) (cut : Cut) (earlier : List Cut) → IsCopyOf contents b cut → IsTaken contents b (cut ∷ earlier)
taken_by contents b cut earlier copy other same = rw (copies_equal contents b other cut same copy) refl

-- without one birth no more is wanted than its blocks
wanted_without : (contents : List Content) (more fewer : List ℕ) (b : ℕ) (earlier of : List Cut) → Each (IsFoundButFor contents more fewer b) of
    → sum_by cut_blocks (new_cuts contents fewer earlier of) ≤ sum_by cut_blocks (new_cuts contents more earlier of) + blocks_of_birth contents b
wanted_without contents more fewer b earlier [] found = omega arith
wanted_without contents more fewer b earlier (cut ∷ rest) found =
    go (is_found contents more cut) (is_found contents fewer cut) (list_any (is_equal_sharing cut) earlier) found.0
    (wanted_without contents more fewer b (cut ∷ earlier) rest found.1)
    (λ copy. wanted_taken contents more fewer b (cut ∷ earlier) rest (taken_by contents b cut earlier copy) found.1)
  where
    go : (x y d : Bool) → (x ≡ true → (y ≡ true) ⊎ IsCopyOf contents b cut)
        → sum_by cut_blocks (new_cuts contents fewer (cut ∷ earlier) rest) ≤ sum_by cut_blocks (new_cuts contents more (cut ∷ earlier) rest) + blocks_of_birth contents b
        → (IsCopyOf contents b cut → sum_by cut_blocks (new_cuts contents fewer (cut ∷ earlier) rest) ≤ sum_by cut_blocks (new_cuts contents more (cut ∷ earlier) rest) + 0)
        → sum_by cut_blocks (cond (y || d) (new_cuts contents fewer (cut ∷ earlier) rest) (cut ∷ new_cuts contents fewer (cut ∷ earlier) rest)) ≤ sum_by cut_blocks (cond (x || d) (new_cuts contents more (cut ∷ earlier) rest) (cut ∷ new_cuts contents more (cut ∷ earlier) rest)) + blocks_of_birth contents b
    go true false false is le taken = ⊎_elim
        (λ (h : false ≡ true). absurd cc)
        (λ (copy : IsCopyOf contents b cut).
        let same = copy_blocks contents b cut copy in
        let less = taken copy in
        rw (sum_by-cons cut_blocks cut (new_cuts contents fewer (cut ∷ earlier) rest)) (omega (arith, same, less)))
        (is refl)
    go x true d is le taken = wanted_where x true d cut (new_cuts contents fewer (cut ∷ earlier) rest) (new_cuts contents more (cut ∷ earlier) rest) (blocks_of_birth contents b) (λ h. refl) le
    go true false true is le taken = le
    go false false true is le taken = le
    go false false false is le taken = wanted_where false false false cut (new_cuts contents fewer (cut ∷ earlier) rest) (new_cuts contents more (cut ∷ earlier) rest) (blocks_of_birth contents b) (λ h. absurd (differ h)) le
      where
        differ : false ≡ true → ⊥
        differ h = cc

-- one birth between others
found_but_for : (contents : List Content) (front back : List ℕ) (b : ℕ) (cut : Cut) → IsFoundButFor contents (front ++ b ∷ back) (front ++ back) b cut
found_but_for contents front back b cut is =
    let (x, f) = found_from contents (front ++ b ∷ back) cut is in
    let there : Contains (front ++ back) x → (is_found contents (front ++ back) cut ≡ true) ⊎ IsCopyOf contents b cut = λ has.
    inl (is_found_from contents (front ++ back) cut x (record { sharing = f.sharing; within = has; content = f.content; at = f.at; shared = f.shared; bytes = f.bytes })) in
    ⊎_elim
    (λ (h : Contains front x). there (Contains-append_left front back x h))
    (λ (h : Contains (b ∷ back) x). ⊎_elim
    (λ (same : x ≡ b). inr (record { sharing = f.sharing; content = f.content; at = ap (content_of contents) (sym same) ∙ f.at; bytes = f.bytes }))
    (λ (rest : Contains back x). there (Contains-append_right front back x rest))
    (first_or_rest b back x h))
    (Contains-append_cases front (b ∷ back) x f.within)

one_less : (contents : List Content) (of : List Cut) (front back : List ℕ) (b : ℕ) → wanted_blocks contents (front ++ back) of ≤ wanted_blocks contents (front ++ b ∷ back) of + blocks_of_birth contents b
one_less contents of front back b =
    wanted_without contents (front ++ b ∷ back) (front ++ back) b [] of (each_of_any (IsFoundButFor contents (front ++ b ∷ back) (front ++ back) b) of (found_but_for contents front back b))

-- with fewer births no more is wanted than the blocks of those that are wanting
wanted_among : (contents : List Content) (of : List Cut) (front fewer more : List ℕ) → IsRising fewer → IsRising more → Each (Contains more) fewer
    → wanted_blocks contents (front ++ fewer) of + blocks_of_births contents fewer ≤ wanted_blocks contents (front ++ more) of + blocks_of_births contents more
wanted_among contents of front [] [] rises risen all = omega arith
wanted_among contents of front (a ∷ fewer) [] rises risen all = absurd (none a all.0)
  where
    none : (x : ℕ) → Contains [] x → ⊥
    none x has = omega (arith, has.1)
wanted_among contents of front [] (b ∷ more) rises risen all =
    let rest = wanted_among contents of front [] more tt risen.1 tt in
    let one = one_less contents of front more b in
    rw (sum_by-cons (blocks_of_birth contents) b more) (omega (arith, rest, one))
wanted_among contents of front (a ∷ fewer) (b ∷ more) rises risen all =
    ⊎_elim
    (λ (same : a ≡ b).
    let within = in_rest b more fewer (subst (λ x. IsBelowAll x fewer) same rises.0) all.1 in
    let rest = wanted_among contents of (front ++ b ∷ []) fewer more rises.1 risen.1 within in
    let first : wanted_blocks contents (front ++ b ∷ fewer) of ≡ wanted_blocks contents ((front ++ b ∷ []) ++ fewer) of = ap (λ (xs : List ℕ). wanted_blocks contents xs of) (sym (append_assoc front (b ∷ []) fewer)) in
    let second : wanted_blocks contents (front ++ b ∷ more) of ≡ wanted_blocks contents ((front ++ b ∷ []) ++ more) of = ap (λ (xs : List ℕ). wanted_blocks contents xs of) (sym (append_assoc front (b ∷ []) more)) in
    subst (λ x. wanted_blocks contents (front ++ x ∷ fewer) of + blocks_of_births contents (x ∷ fewer) ≤ wanted_blocks contents (front ++ b ∷ more) of + blocks_of_births contents (b ∷ more)) (sym same)
    (rw (sum_by-cons (blocks_of_birth contents) b fewer) (rw (sum_by-cons (blocks_of_birth contents) b more) (omega (arith, rest, first, second)))))
    (λ (later : Contains more a).
    let less : b + 1 ≤ a = each_contained (λ x. b + 1 ≤ x) more a (each_above b more risen.0) later in
    let within = in_rest b more fewer (below_more b a fewer (omega (arith, less)) rises.0) all.1 in
    let rest = wanted_among contents of front (a ∷ fewer) more rises risen.1 (later, within) in
    let one = one_less contents of front more b in
    rw (sum_by-cons (blocks_of_birth contents) b more) (omega (arith, rest, one)))
    (first_or_rest b more a all.0)
  where
    each_above : (x : ℕ) (bs : List ℕ) → IsBelowAll x bs → Each (λ y. x + 1 ≤ y) bs
    each_above x [] below = tt
    each_above x (y ∷ bs) below = (omega (arith, below.0), each_above x bs below.1)

rises_at : (t : Table) → IsRising (reach t)
rises_at t = rising_rises (flat_map (λ h. h.births) (holdings t))

fits_by : (w v b d s e capacity : ℕ) → w + b ≤ v + d → b ≤ d → d ≤ e → e + s ≤ capacity → v ≤ capacity - (d + s) → w ≤ capacity - (b + s)
fits_by w v b d s e capacity wanted fewer within all fits = omega arith

passes : (m n : ℕ) → m ≤ n → nat_le m n ≡ true
passes m n le = grind (arith, nat_tests)

pub fits_above : (t : Table) (of : List Cut) (h k : ℕ) → use_of t ≤ t.options.capacity → t.floor ≤ h → h ≤ k → fits_at t of h ≡ true → fits_at t of k ≡ true
fits_above t of h k within low high fits =
    let r = reach t in
    let m = reach (with_floor t h) in
    let f = reach (with_floor t k) in
    let few : Each (Contains m) f = reach_at_floor (Contains m) (with_floor t h) k high (each_itself m) in
    let some : Each (Contains r) m = reach_at_floor (Contains r) t h low (each_itself r) in
    let wanted = wanted_among t.contents of [] f m (rises_at (with_floor t k)) (rises_at (with_floor t h)) few in
    let fewer = sum_among (blocks_of_birth t.contents) f m (rises_at (with_floor t k)) (rises_at (with_floor t h)) few in
    let all = sum_among (blocks_of_birth t.contents) m r (rises_at (with_floor t h)) (rises_at t) some in
    passes (wanted_blocks_at t of k) (free_of (with_floor t k))
    (fits_by (wanted_blocks_at t of k) (wanted_blocks_at t of h) (blocks_of_births t.contents f) (blocks_of_births t.contents m) _ (blocks_of_births t.contents r) t.options.capacity wanted fewer all within (at_most (wanted_blocks_at t of h) (free_of (with_floor t h)) fits))

pub fits_in_run : (options : Options) (sessions h k : ℕ) (history : List Entry) (of : List Cut) → IsLegalHistory (opening_table options sessions) history
    → (history_table options sessions history).floor ≤ h → h ≤ k → fits_at (history_table options sessions history) of h ≡ true → fits_at (history_table options sessions history) of k ≡ true
fits_in_run options sessions h k history of legal low high fits =
    fits_above (history_table options sessions history) of h k (stands_where options sessions history legal).within.within low high fits
