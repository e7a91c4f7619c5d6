-- What is in reach after a publication.
use Rattle.std.proofs.Common.{◌≡◌, ℕ, zero, suc, ◌+◌, ◌-◌, ◌≤◌, ◌<◌, Bool, true, false, ◌||◌, cond, inl, inr, IsTrue, List, [], ◌∷◌, ◌++◌, length, take, Option, Some, None, refl, sym, ap, subst, ◌∙◌, arith}
use Rattle.std.proofs.lemmas.List.{take_all}
use Rattle.std.proofs.lemmas.List.FromFn.{length-range_with_len, get_or-range_with_len}
use Rattle.std.proofs.lemmas.List.Elements.{Contains-append_left, Contains-append_right}
use Rattle.std.specs.Prelude.{filter, flat_map, slice_set, ◌==◌, Contains}
use Rattle.std.specs.List.{AllByRecursion as Each, range_with_len}
use Rattle.sf_types.specs.declared.call.Call.{Call}
use Rattle.sf_types.specs.declared.call.Call.TheVariants as call
use Rattle.sf_types.specs.Inside.Births.{IsBelowAll, IsRising}
use Rattle.sf_types.specs.Inside.NameMaps.{get}
use Rattle.sf_types.specs.Values.Marks.{Marked, Value, births_in}
use Rattle.sf_types.specs.Table.Parts.{Content, Rows, Session, Table, new_session}
use Rattle.sf_types.specs.Table.Versions.{last_change}
use Rattle.sf_types.specs.Table.Sessions.{has_session, session_of}
use Rattle.sf_types.specs.Calls.WritingCalls.{after_write}
use Rattle.sf_types.specs.Space.Cuts.{settle}
use Rattle.sf_types.specs.Space.Due.{written_row, flush_of}
use Rattle.sf_types.specs.Space.Reach.{holdings, reach, values_in}
use Rattle.sf_types.specs.Space.Promises.{flush_cuts}
use Rattle.sf_types.specs.Space.Publications.{births_for, contents_after, settled_flush, settled_result, without_promise, publish}
use Rattle.sf_types.specs.Play.Blocks.{is_among, new_births}
use Rattle.sf_types.proofs.NameMapLemmas.{get-put}
use Rattle.sf_types.proofs.NumberLemmas.{same_number, own_number}
use Rattle.sf_laws.specs.TrueMarks.{IsGivenOut, HasTrueMarks}
use Rattle.sf_laws.proofs.ChangeLemmas.{publish_changed}
use Rattle.sf_laws.proofs.CommitLemmas.{births-length}
use Rattle.sf_laws.proofs.EachLemmas.{each_weaker, each_both, each-append, each-filter, each_at, each_contained, each_itself, each_from_flat_map}
use Rattle.sf_laws.proofs.EntryLemmas.{each_get}
use Rattle.sf_laws.proofs.GivenBirthLemmas.{given_after}
use Rattle.sf_laws.proofs.HeldLemmas.{OfOption, OfRows, OfKept, OfVersions, OfSession, Held}
use Rattle.sf_laws.proofs.HeldStepLemmas.{of_new}
use Rattle.sf_laws.proofs.LockLemmas.{own_name}
use Rattle.sf_laws.proofs.NewBirthLemmas.{IsOldOrNew, new-after}
use Rattle.sf_laws.proofs.PromiseLemmas.{own_session}
use Rattle.sf_laws.proofs.PublishCaseLemmas.{settled_part, by_publish_cases}
use Rattle.sf_laws.proofs.ReachLemmas.{OfBirth, OfHeld, each_from_reach, each_from_births_in, each_from_values_in}
use Rattle.sf_laws.proofs.ReachStepLemmas.{reach_published}
use Rattle.sf_laws.proofs.SessionBirthLemmas.{same_rising}
use Rattle.sf_laws.proofs.SettledBirthLemmas.{from_rows, from_given}
use Rattle.sf_laws.proofs.SettledFlushLemmas.{settled_value, settled_row, settled_alone}
use Rattle.sf_laws.proofs.SumLemmas.{rising_rises}
use Rattle.sf_laws.proofs.TrueStepLemmas.{are_true, reach_given}

-- the births of the cuts are those that were settled
from_settled : (P : ℕ → Type 0) (t : Table) (s : ℕ) (c : Call) → OfRows (OfBirth P) (settled_flush t s c) → Each P (births_for t.contents (reach t) (flush_cuts t s c))
from_settled P t s c all =
    let of = flush_cuts t s c in
    let births = births_for t.contents (reach t) of in
    let count : length births ≡ length of = births-length t.contents (reach t) of in
    subst (Each P) (take_all (length of) births (omega (arith, count)))
    (from_rows P t.options (flush_of t (session_of t s) c) births (omega (arith, count)) all)

pub settled_births : (t : Table) (s : ℕ) (c : Call) → Each (Contains (flat_map births_in (values_in (settled_flush t s c)))) (births_for t.contents (reach t) (flush_cuts t s c))
settled_births t s c =
    let rows = settled_flush t s c in
    let P = Contains (flat_map births_in (values_in rows)) in
    from_settled P t s c
    (each_from_values_in (λ v. Each P (births_in v)) (OfBirth P) (each_from_births_in P) rows (each_from_flat_map P births_in (values_in rows) (each_itself (flat_map births_in (values_in rows)))))

-- the last commit is kept
none_in_front : (n : ℕ) (row : List ℕ) → last_change (take {A = Rows} n []) row ≡ None
none_in_front zero row = refl
none_in_front (suc n) row = refl

last_kept : (M : Marked → Type 0) (floor : ℕ) (cs : List Rows) (rows : Rows) → OfVersions M floor (cs ++ rows ∷ []) → OfRows M rows
last_kept M floor [] rows all = each_weaker (OfKept M (take (floor - 1) [])) (λ e. OfOption M e.1) rows (λ e is. is (none_in_front (floor - 1) e.0)) all.0
last_kept M floor (c ∷ cs) rows all = last_kept M (floor - 1) cs rows all.1

-- a session's own part is held
part_held : (M : Marked → Type 0) (floor : ℕ) (t u : Table) (s : ℕ) (part : Session) → IsTrue (has_session t s) → u.sessions ≡ slice_set t.sessions (s - 1) part → Held M floor u → OfSession M part
part_held M floor t u s part has is held = subst (OfSession M) (own_session t u s part has is) (each_at (OfSession M) u.sessions (s - 1) new_session (of_new M) held.sessions)

-- what was settled is held after the publication
settled_held : (P : ℕ → Type 0) (t : Table) (s : ℕ) (c : Call) → IsTrue (has_session t s) → OfHeld P (publish t s c).0 → OfRows (OfBirth P) (settled_flush t s c)
settled_held P t s c has = by_publish_cases t s c (λ u. OfHeld P u → OfRows (OfBirth P) (settled_flush t s c)) (record {
  committed = λ is of. subst (λ d. OfRows (OfBirth P) (settled_flush t s d)) (sym is) (last_kept (OfBirth P) _ t.commits (settled_flush t s call.Commit) of.held.versions);
  left_open = λ is of. subst (λ d. OfRows (OfBirth P) (settled_flush t s d)) (sym is) (part_held (OfBirth P) _ t _ s (record (settled_part t s) { savepoints = [] }) has refl of.held).working;
  written = λ at is flush of.
      let p = session_of t s in
      let row = written_row p at in
      let part = after_write (without_promise p) at (settled_result t s p at c) in
      let own = part_held (OfBirth P) _ t _ s part has refl of.held in
      let there : get part.working row ≡ Some (Some (settled_value t s at c)) =
      get-put p.working row (Some (settled_result t s p at c)) row ∙ ap (λ b. cond {A = Option (Option Value)} b (Some (Some (settled_result t s p at c))) (get p.working row)) (own_name row) ∙ ap (λ (x : Value). Some (Some x)) (settled_alone t s at c flush) in
      let held : OfOption (OfBirth P) (Some (settled_value t s at c)) = each_get (λ e. OfOption (OfBirth P) e.1) part.working row (Some (settled_value t s at c)) own.working there in
      subst (OfRows (OfBirth P)) (sym (settled_row t s at c flush)) (held, tt);
  nothing = λ is flush of. subst (λ (m : Rows). OfRows (OfBirth P) (settle m (births_for t.contents (reach t) (flush_cuts t s c)))) (sym flush) tt;
})

pub new_births_reached : (t : Table) (s : ℕ) (c : Call) → IsTrue (has_session t s) → Each (Contains (reach (publish t s c).0)) (new_births t (publish t s c).0)
new_births_reached t s c has =
    let u = (publish t s c).0 in
    let P = Contains (reach u) in
    let settled = settled_held P t s c has (each_from_reach P u (each_itself (reach u))) in
    subst (λ (cs : List Content). Each P (range_with_len (length t.contents + 1) (length cs - length t.contents))) (sym (publish_changed t s c).contents)
    (from_given P t.contents (reach t) (flush_cuts t s c) (from_settled P t s c settled))

-- rising lists
below_filtered : (f : ℕ → Bool) (b : ℕ) (bs : List ℕ) → IsBelowAll b bs → IsBelowAll b (filter f bs)
below_filtered f b [] below = tt
below_filtered f b (x ∷ bs) below =
    elim (f x) as (λ y. IsBelowAll b (cond y (x ∷ filter f bs) (filter f bs))) [
      | true ↦ (below.0, below_filtered f b bs below.1)
      | false ↦ below_filtered f b bs below.1
    ]

rising_filtered : (f : ℕ → Bool) (bs : List ℕ) → IsRising bs → IsRising (filter f bs)
rising_filtered f [] rises = tt
rising_filtered f (x ∷ bs) rises =
    elim (f x) as (λ y. IsRising (cond y (x ∷ filter f bs) (filter f bs))) [
      | true ↦ (below_filtered f x bs rises.0, rising_filtered f bs rises.1)
      | false ↦ rising_filtered f bs rises.1
    ]

range_above : (b a n : ℕ) → b < a → IsBelowAll b (range_with_len a n)
range_above b a zero less = tt
range_above b a (suc n) less = (less, range_above b (a + 1) n (omega (arith, less)))

rising_range : (a n : ℕ) → IsRising (range_with_len a n)
rising_range a zero = tt
rising_range a (suc n) = (range_above a (a + 1) n (omega arith), rising_range (a + 1) n)

below_joined : (b : ℕ) (xs ys : List ℕ) → IsBelowAll b xs → IsBelowAll b ys → IsBelowAll b (xs ++ ys)
below_joined b [] ys first second = second
below_joined b (x ∷ xs) ys first second = (first.0, below_joined b xs ys first.1 second)

rising_joined : (bound n : ℕ) (xs : List ℕ) → IsRising xs → Each (λ x. x ≤ bound) xs → IsRising (xs ++ range_with_len (bound + 1) n)
rising_joined bound n [] rises all = rising_range (bound + 1) n
rising_joined bound n (x ∷ xs) rises all =
    (below_joined x xs (range_with_len (bound + 1) n) rises.0 (range_above x (bound + 1) n (omega (arith, all.0))), rising_joined bound n xs rises.1 all.1)

-- a birth of a range
in_range : (a n b : ℕ) → a ≤ b → b < a + n → Contains (range_with_len a n) b
in_range a n b low high = (b - a, omega (arith, length-range_with_len a n, low, high), get_or-range_with_len a n (b - a) b (omega (arith, low, high)) ∙ back)
  where
    back : a + (b - a) ≡ b
    back = omega (arith, low)

-- the births of a list that stand in another one too
among_from : (xs : List ℕ) (b : ℕ) → is_among xs b ≡ true → Contains xs b
among_from [] b is = absurd cc
among_from (x ∷ xs) b is =
    elim (b == x) as (λ y. (b == x) ≡ y → (y || is_among xs b) ≡ true → Contains (x ∷ xs) b) [
      | true ↦ λ same h. let equal : b ≡ x = same_number b x same in subst (λ z. Contains (z ∷ xs) b) equal (Contains-append_left (b ∷ []) xs b (0, omega arith, refl))
      | false ↦ λ apart h. Contains-append_right (x ∷ []) xs b (among_from xs b h)
    ] refl is

among_itself : (xs : List ℕ) → Each (λ b. is_among xs b ≡ true) xs
among_itself [] = tt
among_itself (x ∷ xs) = (rw (own_number x) refl, each_weaker (λ b. is_among xs b ≡ true) (λ b. is_among (x ∷ xs) b ≡ true) xs (λ b is. later (b == x) (is_among xs b) is) (among_itself xs))
  where
    later : (a b : Bool) → b ≡ true → (a || b) ≡ true
    later true b is = refl
    later false b is = is

filtered_has : (f : ℕ → Bool) (xs : List ℕ) → Each (λ b. f b ≡ true → Contains (filter f xs) b) xs
filtered_has f [] = tt
filtered_has f (x ∷ xs) = go (filtered_has f xs) (f x) refl
  where
    go : Each (λ b. f b ≡ true → Contains (filter f xs) b) xs → (y : Bool) → f x ≡ y → Each (λ b. f b ≡ true → Contains (cond y (x ∷ filter f xs) (filter f xs)) b) (x ∷ xs)
    go rest true is = (λ h. Contains-append_left (x ∷ []) (filter f xs) x (0, omega arith, refl), each_weaker (λ b. f b ≡ true → Contains (filter f xs) b) (λ b. f b ≡ true → Contains (x ∷ filter f xs) b) xs (λ b has h. Contains-append_right (x ∷ []) (filter f xs) b (has h)) rest)
    go rest false is = (λ h. let never : true ≡ false = sym h ∙ is in absurd cc, rest)

filtered_pass : (f : ℕ → Bool) (xs : List ℕ) → Each (λ b. f b ≡ true) (filter f xs)
filtered_pass f [] = tt
filtered_pass f (x ∷ xs) = go (filtered_pass f xs) (f x) refl
  where
    go : Each (λ b. f b ≡ true) (filter f xs) → (y : Bool) → f x ≡ y → Each (λ b. f b ≡ true) (cond y (x ∷ filter f xs) (filter f xs))
    go rest true is = (is, rest)
    go rest false is = rest

pub reach_after_publication : (t : Table) (s : ℕ) (c : Call) → IsTrue (has_session t s) → HasTrueMarks t → reach (publish t s c).0 ≡ filter (is_among (reach (publish t s c).0)) (reach t) ++ new_births t (publish t s c).0
reach_after_publication t s c has marks =
    let u = (publish t s c).0 in
    let of = flush_cuts t s c in
    let n = length t.contents in
    let after = contents_after t.contents (reach t) of in
    let given : Each (IsGivenOut t.contents) (reach t) = reach_given t (are_true t marks) in
    let test = is_among (reach u) in
    let kept = filter test (reach t) in
    let new = new_births t u in
    let contents : u.contents ≡ after = (publish_changed t s c).contents in
    let own : Each (IsOldOrNew (reach t) n) (reach t) = each_weaker (Contains (reach t)) (IsOldOrNew (reach t) n) (reach t) (λ b within. inl within) (each_itself (reach t)) in
    let origin : Each (IsOldOrNew (reach t) n) (reach u) = reach_published (IsOldOrNew (reach t) n) t s c given (new-after (reach t) n t.contents (reach t) of (omega arith) own) in
    let bounded : Each (IsGivenOut after) (reach u) = reach_published (IsGivenOut after) t s c given (given_after t.contents (reach t) of given) in
    let count : length u.contents ≡ length after = ap (λ (cs : List Content). length cs) contents in
    let low : Each (λ x. x ≤ n) kept = each-filter (λ x. x ≤ n) test (reach t) (each_weaker (IsGivenOut t.contents) (λ x. x ≤ n) (reach t) (λ b is. is.high) given) in
    same_rising (reach u) (kept ++ new) (rising_rises (flat_map (λ h. h.births) (holdings u))) (rising_joined n (length u.contents - n) kept (rising_filtered test (reach t) (rising_rises (flat_map (λ h. h.births) (holdings t)))) low)
    (each_both (λ b. IsOldOrNew (reach t) n b × IsGivenOut after b) (λ b. test b ≡ true) (Contains (kept ++ new)) (reach u)
    (λ b both is. where_from b count both.1 is both.0)
    (each_both (IsOldOrNew (reach t) n) (IsGivenOut after) (λ b. IsOldOrNew (reach t) n b × IsGivenOut after b) (reach u) (λ b x y. (x, y)) origin bounded)
    (among_itself (reach u)))
    (each-append (Contains (reach u)) kept new (each_weaker (λ b. test b ≡ true) (Contains (reach u)) kept (λ b is. among_from (reach u) b is) (filtered_pass test (reach t))) (new_births_reached t s c has))
  where
    where_from : (b : ℕ) → length (publish t s c).0.contents ≡ length (contents_after t.contents (reach t) (flush_cuts t s c)) → IsGivenOut (contents_after t.contents (reach t) (flush_cuts t s c)) b → is_among (reach (publish t s c).0) b ≡ true → IsOldOrNew (reach t) (length t.contents) b
        → Contains (filter (is_among (reach (publish t s c).0)) (reach t) ++ new_births t (publish t s c).0) b
    where_from b count given is (inl old) =
        Contains-append_left (filter (is_among (reach (publish t s c).0)) (reach t)) (new_births t (publish t s c).0) b
        (each_contained (λ x. is_among (reach (publish t s c).0) x ≡ true → Contains (filter (is_among (reach (publish t s c).0)) (reach t)) x) (reach t) b (filtered_has (is_among (reach (publish t s c).0)) (reach t)) old is)
    where_from b count given is (inr new) =
        Contains-append_right (filter (is_among (reach (publish t s c).0)) (reach t)) (new_births t (publish t s c).0) b
        (in_range (length t.contents + 1) (length (publish t s c).0.contents - length t.contents) b (omega (arith, new)) (omega (arith, new, count, given.high)))
