-- How the moves of a play keep each block in exactly one place.
use Rattle.std.proofs.Common.{◌≡◌, ℕ, zero, suc, ◌+◌, ◌-◌, ◌≤◌, ◌<◌, Bool, true, false, cond, not, ◌&&◌, IsTrue, List, [], ◌∷◌, ◌++◌, length, map, take, Option, Some, None, refl, sym, ap, subst, ◌∙◌, inl, inr, arith, length-append, length-set}
use Rattle.std.specs.Prelude.{nat_le, sum_by, ◌==◌, filter, flat_map, slice_set, slice_index_or}
use Rattle.std.specs.List.{AllByRecursion as Each, range_with_len}
use Rattle.std.proofs.lemmas.List.{length-take}
use Rattle.std.proofs.lemmas.List.Sums.{sum_by-cons, sum_by-append, sum_by-take-drop, sum_by-set}
use Rattle.std.proofs.lemmas.List.Filters.{sum_by-filter_both}
use Rattle.std.proofs.lemmas.List.FromFn.{length-range_with_len, length-map-range_with_len}
use Rattle.std.proofs.lemmas.List.Elements.{All-from_recursion}
use Rattle.sf_types.specs.declared.options.Options.{Options}
use Rattle.sf_types.specs.declared.run.Run.{Run}
use Rattle.sf_types.specs.Inside.Births.{IsRising}
use Rattle.sf_types.specs.Table.Parts.{Promise, Table}
use Rattle.sf_types.specs.Table.Sessions.{has_session, session_of}
use Rattle.sf_types.specs.Space.BlockRuns.{blocks_in_run}
use Rattle.sf_types.specs.Space.Grants.{granted_blocks}
use Rattle.sf_types.specs.Space.Plans.{planned_from, planned_places}
use Rattle.sf_types.specs.Space.Reach.{reach}
use Rattle.sf_types.specs.Space.Use.{blocks_of_birth, blocks_of_births}
use Rattle.sf_types.specs.Space.Placings.{Placed, IsSafe, all_blocks}
use Rattle.sf_types.specs.Play.Blocks.{Space, all_free, is_among, departed_blocks, new_births, unused_blocks, collected_by, with_collected, after_entries, after_publication, after_reclaim, after_collection, after_shrink}
use Rattle.sf_types.proofs.NumberLemmas.{same_number, not_same, from_one, one_less}
use Rattle.sf_types.proofs.RunLemmas.{range-split}
use Rattle.sf_laws.specs.Stages.{HasCollected, blocks_of_space}
use Rattle.sf_laws.proofs.SumLemmas.{rising_rises}
use Rattle.sf_laws.proofs.BlockSumLemmas.{is_one, count_of, IsOnce, each_counted, from_counted, once_apart, once_rising, rising_sum, count_length}
use Rattle.sf_laws.proofs.BlockRunLemmas.{IsGrant, grant}
use Rattle.sf_laws.proofs.PlacingLemmas.{Moves, is_placed, range_rises, range_within, among_counted, counted_among, rising_births-filter}

-- The collected blocks of all sessions, summed.
abbrev pub sum_collected : (ℕ → ℕ) → Space → ℕ
sum_collected f space = sum_by (λ blocks. sum_by f blocks) space.collected

-- Where blocks stand beside a table.
pub record HasBlocks (t : Table) (space : Space) : Type 0 where
  pub births : map (λ x. x.birth) space.places ≡ reach t
  pub counts : Each (λ x. length x.blocks ≡ blocks_of_birth t.contents x.birth) space.places
  pub sums : (f : ℕ → ℕ) → sum_by f (all_blocks space.places) + sum_by f space.parked + sum_by f space.free + sum_collected f space ≡ sum_by f (range_with_len 0 t.options.capacity)
  pub lists : length space.collected ≡ length t.sessions
  pub collected : (s : ℕ) → IsTrue (has_session t s) → HasCollected (session_of t s).promise (collected_by space s)
  pub rising : IsRising space.free

flat_sum : (f : ℕ → ℕ) (lists : List (List ℕ)) → sum_by f (flat_map (λ blocks. blocks) lists) ≡ sum_by (λ blocks. sum_by f blocks) lists
flat_sum f [] = refl
flat_sum f (xs ∷ lists) =
    let both = sum_by-append f xs (flat_map (λ blocks. blocks) lists) in
    let cons = sum_by-cons (λ (blocks : List ℕ). sum_by f blocks) xs lists in
    let rest = flat_sum f lists in
    omega (arith, both, cons, rest)

pub space_sum : (f : ℕ → ℕ) (space : Space) → sum_by f (blocks_of_space space) ≡ sum_by f (all_blocks space.places) + sum_by f space.parked + sum_by f space.free + sum_collected f space
space_sum f space =
    let flat = flat_map (λ (blocks : List ℕ). blocks) space.collected in
    let one : sum_by f (blocks_of_space space) ≡ sum_by f (all_blocks space.places ++ space.parked ++ space.free) + sum_by f flat = sum_by-append f (all_blocks space.places ++ space.parked ++ space.free) flat in
    let two = sum_by-append f (all_blocks space.places ++ space.parked) space.free in
    let three = sum_by-append f (all_blocks space.places) space.parked in
    let four = flat_sum f space.collected in
    omega (arith, one, two, three, four)

-- at most one of each block
once_range : (n b : ℕ) → count_of b (range_with_len 0 n) ≤ 1
once_range n b = (once_rising (range_with_len 0 n) (range_rises 0 n)).most b

placed_once : (t : Table) (space : Space) → HasBlocks t space → IsOnce (all_blocks space.places)
placed_once t space has = record { most = λ b. let sums = has.sums (is_one b) in let top = once_range t.options.capacity b in omega (arith, sums, top) }

-- such a placing is safe
pub is_safe : (t : Table) (space : Space) → HasBlocks t space → IsSafe t space.places
is_safe t space has =
    let capacity = t.options.capacity in
    record {
      births = has.births;
      counts = All-from_recursion (λ x. length x.blocks ≡ blocks_of_birth t.contents x.birth) space.places has.counts;
      below = All-from_recursion (λ block. block < capacity) (all_blocks space.places) (each_counted (λ block. block < capacity) (all_blocks space.places) (λ b le.
          let sums = has.sums (is_one b) in
          let within = from_counted (λ x. (0 ≤ x) × (x < 0 + capacity)) (range_with_len 0 capacity) b (range_within 0 capacity) (omega (arith, sums, le)) in
          let high = within.1 in
          omega (arith, high)));
      once = once_apart (all_blocks space.places) (placed_once t space has);
    }

-- the collected blocks of one session
set_sum : (f : ℕ → ℕ) (space : Space) (s : ℕ) (blocks : List ℕ) → s - 1 < length space.collected → sum_collected f (with_collected space s blocks) + sum_by f (collected_by space s) ≡ sum_collected f space + sum_by f blocks
set_sum f space s blocks lt = sum_by-set (λ (xs : List ℕ). sum_by f xs) space.collected (s - 1) blocks [] lt

pub own_list : {X : Type 0} (lists : List X) (i : ℕ) (x d : X) → i < length lists → slice_index_or (slice_set lists i x) i d ≡ x
own_list [] i x d lt = absurd (omega (arith, lt))
own_list (y ∷ lists) zero x d lt = refl
own_list (y ∷ lists) (suc i) x d lt = own_list lists i x d (omega (arith, lt))

pub other_list : {X : Type 0} (lists : List X) (i j : ℕ) (x d : X) → (i ≡ j → ⊥) → slice_index_or (slice_set lists i x) j d ≡ slice_index_or lists j d
other_list [] i j x d apart = refl
other_list (y ∷ lists) zero zero x d apart = absurd (apart refl)
other_list (y ∷ lists) zero (suc j) x d apart = refl
other_list (y ∷ lists) (suc i) zero x d apart = refl
other_list (y ∷ lists) (suc i) (suc j) x d apart = other_list lists i j x d (λ same. apart (ap suc same))

pub collected_own : (space : Space) (s : ℕ) (blocks : List ℕ) → s - 1 < length space.collected → collected_by (with_collected space s blocks) s ≡ blocks
collected_own space s blocks lt = own_list space.collected (s - 1) blocks [] lt

pub collected_other : (space : Space) (s r : ℕ) (blocks : List ℕ) → 1 ≤ s → 1 ≤ r → (r ≡ s → ⊥) → collected_by (with_collected space s blocks) r ≡ collected_by space r
collected_other space s r blocks low_s low_r apart = other_list space.collected (s - 1) (r - 1) blocks [] (λ (same : s - 1 ≡ r - 1). let equal : r ≡ s = omega (arith, same, low_s, low_r) in apart equal)

-- A turn of session s changes no other session's promise, and neither the options nor the number of sessions.
pub record LeavesOthers (before after : Table) (s : ℕ) : Type 0 where
  pub options : after.options ≡ before.options
  pub sessions : length after.sessions ≡ length before.sessions
  pub others : (r : ℕ) → IsTrue (has_session before r) → (r ≡ s → ⊥) → (session_of after r).promise ≡ (session_of before r).promise

pub session_before : (before after : Table) (r : ℕ) → length after.sessions ≡ length before.sessions → IsTrue (has_session after r) → IsTrue (has_session before r)
session_before before after r same has = subst (λ n. IsTrue (nat_le 1 r && nat_le r n)) same has

nothing_collected : (o : Option Promise) (blocks : List ℕ) → blocks ≡ [] → HasCollected o blocks
nothing_collected None blocks is = is
nothing_collected (Some q) blocks is = inl is

-- after entries that give out no birth
pub entries_keep : (before after : Table) (s : ℕ) (space : Space) → IsTrue (has_session before s) → LeavesOthers before after s → Moves before after [] → (session_of before s).promise ≡ None
    → HasBlocks before space → HasBlocks after (after_entries before after space)
entries_keep before after s space has_s leaves moves none has =
    let placing = is_placed before after space.places [] moves has.births has.counts in
    let mine : collected_by space s ≡ [] = subst (λ (o : Option Promise). HasCollected o (collected_by space s)) none (has.collected s has_s) in
    record {
      births = placing.births;
      counts = placing.counts;
      sums = λ f.
          let moved = placing.sums f in
          let old = has.sums f in
          let split = sum_by-append f space.parked (departed_blocks after space.places) in
          let empty : sum_by f [] ≡ 0 = refl in
          let same : sum_by f (range_with_len 0 after.options.capacity) ≡ sum_by f (range_with_len 0 before.options.capacity) = ap (λ (o : Options). sum_by f (range_with_len 0 o.capacity)) leaves.options in
          let gone = sum_by-take-drop f [] (blocks_of_births after.contents (new_births before after)) in
          omega (arith, moved, old, split, empty, same, gone);
      lists = has.lists ∙ sym leaves.sessions;
      collected = λ r there.
          let has_r = session_before before after r leaves.sessions there in
          elim (r == s) as (λ b. (r == s) ≡ b → HasCollected (session_of after r).promise (collected_by space r)) [
            | true ↦ λ is. nothing_collected (session_of after r).promise (collected_by space r) (ap (collected_by space) (same_number r s is) ∙ mine)
            | false ↦ λ is. subst (λ (o : Option Promise). HasCollected o (collected_by space r)) (sym (leaves.others r has_r (not_same r s is))) (has.collected r has_r)
          ] refl;
      rising = has.rising;
    }

-- after a publication
pub publication_keeps : (before after : Table) (s : ℕ) (space : Space) → IsTrue (has_session before s) → LeavesOthers before after s → Moves before after (collected_by space s)
    → HasBlocks before space → HasBlocks after (after_publication before after s space)
publication_keeps before after s space has_s leaves moves has =
    let given = collected_by space s in
    let placing = is_placed before after space.places given moves has.births has.counts in
    let unused = unused_blocks before after given in
    let inside : s - 1 < length space.collected = subst (λ n. s - 1 < n) (sym has.lists) (one_less s (length before.sessions) has_s) in
    let low = from_one s (length before.sessions) has_s in
    let once : IsOnce (unused ++ space.free) = record {
      most = λ b.
          let moved = placing.sums (is_one b) in
          let old = has.sums (is_one b) in
          let empty : sum_by (is_one b) [] ≡ 0 = refl in
          let set = set_sum (is_one b) space s [] inside in
          let both = sum_by-append (is_one b) unused space.free in
          let top = once_range before.options.capacity b in
          omega (arith, moved, old, empty, set, both, top);
    } in
    record {
      births = placing.births;
      counts = placing.counts;
      sums = λ f.
          let moved = placing.sums f in
          let old = has.sums f in
          let split = sum_by-append f space.parked (departed_blocks after space.places) in
          let empty : sum_by f [] ≡ 0 = refl in
          let set = set_sum f space s [] inside in
          let risen = rising_sum f (unused ++ space.free) once in
          let both = sum_by-append f unused space.free in
          let same : sum_by f (range_with_len 0 after.options.capacity) ≡ sum_by f (range_with_len 0 before.options.capacity) = ap (λ (o : Options). sum_by f (range_with_len 0 o.capacity)) leaves.options in
          omega (arith, moved, old, split, empty, set, risen, both, same);
      lists = length-set space.collected (s - 1) [] ∙ has.lists ∙ sym leaves.sessions;
      collected = λ r there.
          let has_r = session_before before after r leaves.sessions there in
          let low_r = from_one r (length before.sessions) has_r in
          elim (r == s) as (λ b. (r == s) ≡ b → HasCollected (session_of after r).promise (collected_by (with_collected space s []) r)) [
            | true ↦ λ is. nothing_collected (session_of after r).promise (collected_by (with_collected space s []) r) (ap (collected_by (with_collected space s [])) (same_number r s is) ∙ collected_own space s [] inside)
            | false ↦ λ is.
                let apart = not_same r s is in
                subst (λ (o : Option Promise). HasCollected o (collected_by (with_collected space s []) r)) (sym (leaves.others r has_r apart))
                (subst (HasCollected (session_of before r).promise) (sym (collected_other space s r [] low low_r apart)) (has.collected r has_r))
          ] refl;
      rising = rising_rises (unused ++ space.free);
    }

-- a reclaim moves parked blocks
reclaim_sum : (f : ℕ → ℕ) (n : ℕ) (space : Space) → IsOnce (take n space.parked ++ space.free) → sum_by f (after_reclaim n space).parked + sum_by f (after_reclaim n space).free ≡ sum_by f space.parked + sum_by f space.free
reclaim_sum f n space once =
    let risen = rising_sum f (take n space.parked ++ space.free) once in
    let both = sum_by-append f (take n space.parked) space.free in
    let split = sum_by-take-drop f space.parked n in
    omega (arith, risen, both, split)

pub reclaim_keeps : (t : Table) (n : ℕ) (space : Space) → HasBlocks t space → HasBlocks t (after_reclaim n space)
reclaim_keeps t n space has =
    let once : IsOnce (take n space.parked ++ space.free) = record {
      most = λ b.
          let old = has.sums (is_one b) in
          let both = sum_by-append (is_one b) (take n space.parked) space.free in
          let split = sum_by-take-drop (is_one b) space.parked n in
          let top = once_range t.options.capacity b in
          omega (arith, old, both, split, top);
    } in
    record {
      births = has.births;
      counts = has.counts;
      sums = λ f. let old = has.sums f in let moved = reclaim_sum f n space once in omega (arith, old, moved);
      lists = has.lists;
      collected = has.collected;
      rising = rising_rises (take n space.parked ++ space.free);
    }

-- what passes a test and what doesn't, where no block stands twice
filter_sum : (f : ℕ → ℕ) (test : ℕ → Bool) (xs : List ℕ) → sum_by f (filter test xs) ≡ sum_by (λ x. cond (test x) (f x) 0) xs
filter_sum f test [] = refl
filter_sum f test (x ∷ xs) =
    let rest = filter_sum f test xs in
    let cons = sum_by-cons (λ (y : ℕ). cond (test y) (f y) 0) x xs in
    elim (test x) as (λ b. sum_by (λ y. cond (test y) (f y) 0) (x ∷ xs) ≡ cond b (f x) 0 + sum_by (λ y. cond (test y) (f y) 0) xs → sum_by f (cond b (x ∷ filter test xs) (filter test xs)) ≡ sum_by (λ y. cond (test y) (f y) 0) (x ∷ xs)) [
      | true ↦ λ all. let first = sum_by-cons f x (filter test xs) in omega (arith, rest, all, first)
      | false ↦ λ all. omega (arith, rest, all)
    ] cons

all_pass_sum : (f : ℕ → ℕ) (test : ℕ → Bool) (xs : List ℕ) → Each (λ x. test x ≡ true) xs → sum_by (λ x. cond (test x) (f x) 0) xs ≡ sum_by f xs
all_pass_sum f test [] all = refl
all_pass_sum f test (x ∷ xs) all =
    let rest = all_pass_sum f test xs all.1 in
    let cons = sum_by-cons (λ (y : ℕ). cond (test y) (f y) 0) x xs in
    let own : cond (test x) (f x) 0 ≡ f x = ap (λ b. cond b (f x) 0) all.0 in
    let first = sum_by-cons f x xs in
    omega (arith, rest, cons, own, first)

none_pass_sum : (f : ℕ → ℕ) (test : ℕ → Bool) (xs : List ℕ) → Each (λ x. test x ≡ false) xs → sum_by (λ x. cond (test x) (f x) 0) xs ≡ 0
none_pass_sum f test [] all = refl
none_pass_sum f test (x ∷ xs) all =
    let rest = none_pass_sum f test xs all.1 in
    let cons = sum_by-cons (λ (y : ℕ). cond (test y) (f y) 0) x xs in
    let own : cond (test x) (f x) 0 ≡ 0 = ap (λ b. cond b (f x) 0) all.0 in
    omega (arith, rest, cons, own)

pub taken_sum : (free : List ℕ) (n : ℕ) (got : List ℕ) → IsOnce free → IsGrant free n got → (f : ℕ → ℕ) → sum_by f (filter (λ block. not (is_among got block)) free) + sum_by f got ≡ sum_by f free
taken_sum free n got once taken f =
    let test = λ (block : ℕ). is_among got block in
    let both = sum_by-filter_both test (λ (block : ℕ). not (is_among got block)) (λ x. refl) f free in
    let passed = filter_sum f test free in
    let parts = taken.parts (λ x. cond (is_among got x) (f x) 0) in
    let own = all_pass_sum f test got (each_counted (λ x. is_among got x ≡ true) got (λ b le. counted_among b got le)) in
    let other = none_pass_sum f test taken.rest (each_counted (λ x. is_among got x ≡ false) taken.rest (λ b le. apart b le)) in
    omega (arith, both, passed, parts, own, other)
  where
    apart : (b : ℕ) → 1 ≤ count_of b taken.rest → is_among got b ≡ false
    apart b le =
        elim (is_among got b) as (λ c. is_among got b ≡ c → c ≡ false) [
          | true ↦ λ is.
              let some = among_counted b got is in
              let parts = taken.parts (is_one b) in
              let most = once.most b in
              absurd (omega (arith, some, parts, most, le))
          | false ↦ λ is. refl
        ] refl

-- What a collection leaves and what it gives.
pub record IsCollected (t : Table) (s n : ℕ) (space : Space) : Type 0 where
  pub has : HasBlocks t (after_collection s n space)
  pub size : length (collected_by (after_collection s n space) s) ≡ n

-- a collection of no more blocks than are free or parked
pub collection_keeps : (t : Table) (s n : ℕ) (q : Promise) (space : Space) → IsTrue (has_session t s) → (session_of t s).promise ≡ Some q → n ≡ q.blocks → collected_by space s ≡ [] → n ≤ length space.free + length space.parked
    → HasBlocks t space → IsCollected t s n space
collection_keeps t s n q space has_s is same none le has =
    let ready = after_reclaim (n - length space.free) space in
    let ready_has = reclaim_keeps t (n - length space.free) space has in
    let once : IsOnce ready.free = once_rising ready.free ready_has.rising in
    let taken = take (n - length space.free) space.parked in
    let taken_once : IsOnce (taken ++ space.free) = record {
      most = λ b.
          let old = has.sums (is_one b) in
          let both = sum_by-append (is_one b) taken space.free in
          let split = sum_by-take-drop (is_one b) space.parked (n - length space.free) in
          let top = once_range t.options.capacity b in
          omega (arith, old, both, split, top);
    } in
    let count = rising_sum (λ x. 1) (taken ++ space.free) taken_once in
    let ready_count = count_length ready.free in
    let joined = count_length (taken ++ space.free) in
    let lengths = length-append taken space.free in
    let front = length-take (n - length space.free) space.parked in
    let enough : n ≤ length ready.free = omega (arith, count, ready_count, joined, lengths, front, le) in
    let got = granted_blocks ready.free n in
    let taking = grant ready.free n once enough in
    let inside : s - 1 < length ready.collected = subst (λ k. s - 1 < k) (sym has.lists) (one_less s (length t.sessions) has_s) in
    let low = from_one s (length t.sessions) has_s in
    let own = collected_own ready s got inside in
    record {
      has = record {
        births = has.births;
        counts = has.counts;
        sums = λ f.
            let old = ready_has.sums f in
            let set = set_sum f ready s got inside in
            let left = taken_sum ready.free n got once taking f in
            let empty : sum_by f (collected_by space s) ≡ 0 = ap (sum_by f) none in
            omega (arith, old, set, left, empty);
        lists = length-set space.collected (s - 1) got ∙ has.lists;
        collected = λ r there.
            let low_r = from_one r (length t.sessions) there in
            elim (r == s) as (λ b. (r == s) ≡ b → HasCollected (session_of t r).promise (collected_by (with_collected ready s got) r)) [
              | true ↦ λ at.
                  let here = same_number r s at in
                  subst (λ k. HasCollected (session_of t k).promise (collected_by (with_collected ready s got) k)) (sym here)
                  (subst (λ (o : Option Promise). HasCollected o (collected_by (with_collected ready s got) s)) (sym is) (inr (ap (λ (xs : List ℕ). length xs) own ∙ taking.size ∙ same)))
              | false ↦ λ at.
                  let apart = not_same r s at in
                  subst (HasCollected (session_of t r).promise) (sym (collected_other ready s r got low low_r apart)) (has.collected r there)
            ] refl;
        rising = rising_births-filter (λ block. not (is_among got block)) ready.free ready_has.rising;
      };
      size = ap (λ (xs : List ℕ). length xs) own ∙ taking.size;
    }

-- the plan of a shrink
abbrev plan_place : Placed → Run → Placed
plan_place x run = record { birth = x.birth; blocks = blocks_in_run run }

planned_births : (start : ℕ) (places : List Placed) → map (λ x. x.birth) (planned_from (λ x. length x.blocks) plan_place start places) ≡ map (λ x. x.birth) places
planned_births start [] = refl
planned_births start (x ∷ places) = ap (λ (xs : List ℕ). x.birth ∷ xs) (planned_births (start + length x.blocks) places)

planned_blocks : (start : ℕ) (places : List Placed) → all_blocks (planned_from (λ x. length x.blocks) plan_place start places) ≡ range_with_len start (length (all_blocks places))
planned_blocks start [] = refl
planned_blocks start (x ∷ places) =
    ap (λ (xs : List ℕ). range_with_len start (length x.blocks) ++ xs) (planned_blocks (start + length x.blocks) places)
    ∙ sym (range-split start (length x.blocks) (length (all_blocks places)))
    ∙ ap (range_with_len start) (sym (length-append x.blocks (all_blocks places)))

planned_counts : (size : ℕ → ℕ) (start : ℕ) (places : List Placed) → Each (λ x. length x.blocks ≡ size x.birth) places → Each (λ x. length x.blocks ≡ size x.birth) (planned_from (λ x. length x.blocks) plan_place start places)
planned_counts size start [] counts = tt
planned_counts size start (x ∷ places) counts = (length-range_with_len start (length x.blocks) ∙ counts.0, planned_counts size (start + length x.blocks) places counts.1)

-- where nothing is collected
no_lists : (f : ℕ → ℕ) (lists : List (List ℕ)) → Each (λ blocks. blocks ≡ []) lists → sum_by (λ blocks. sum_by f blocks) lists ≡ 0
no_lists f [] all = refl
no_lists f (xs ∷ lists) all =
    let cons = sum_by-cons (λ (blocks : List ℕ). sum_by f blocks) xs lists in
    let own : sum_by f xs ≡ 0 = ap (sum_by f) all.0 in
    let rest = no_lists f lists all.1 in
    omega (arith, cons, own, rest)

lists_from : (P : List ℕ → Type 0) (lists : List (List ℕ)) → ((i : ℕ) → i < length lists → P (slice_index_or lists i [])) → Each P lists
lists_from P [] all = tt
lists_from P (xs ∷ lists) all = (all 0 (omega arith), lists_from P lists (λ i lt. all (suc i) (omega (arith, lt))))

-- after a shrink, where no promise stands
pub shrink_keeps : (t : Table) (space : Space) → ((s : ℕ) → IsTrue (has_session t s) → (session_of t s).promise ≡ None) → HasBlocks t space → HasBlocks t (after_shrink t.options.capacity space)
shrink_keeps t space free has =
    let capacity = t.options.capacity in
    let used = length (all_blocks space.places) in
    let mine : Each (λ (blocks : List ℕ). blocks ≡ []) space.collected = lists_from (λ blocks. blocks ≡ []) space.collected (λ i lt.
    let there : IsTrue (has_session t (i + 1)) = has_one i (length t.sessions) (subst (λ n. i < n) has.lists lt) in
    let is = subst (λ (o : Option Promise). HasCollected o (collected_by space (i + 1))) (free (i + 1) there) (has.collected (i + 1) there) in
    let at : i + 1 - 1 ≡ i = omega arith in
    subst (λ k. slice_index_or space.collected k [] ≡ []) at is) in
    let sums : (f : ℕ → ℕ) → sum_by f (all_blocks (planned_places space.places)) + sum_by f (range_with_len used (capacity - used)) ≡ sum_by f (range_with_len 0 capacity) = λ f.
    let count = has.sums (λ x. 1) in
    let places = count_length (all_blocks space.places) in
    let range = count_length (range_with_len 0 capacity) in
    let size = length-range_with_len 0 capacity in
    let whole : capacity ≡ used + (capacity - used) = omega (arith, count, places, range, size) in
    let blocks : sum_by f (all_blocks (planned_places space.places)) ≡ sum_by f (range_with_len 0 used) = ap (sum_by f) (planned_blocks 0 space.places) in
    let split : sum_by f (range_with_len 0 capacity) ≡ sum_by f (range_with_len 0 used ++ range_with_len (0 + used) (capacity - used)) = ap (λ n. sum_by f (range_with_len 0 n)) whole ∙ ap (sum_by f) (range-split 0 used (capacity - used)) in
    let both = sum_by-append f (range_with_len 0 used) (range_with_len (0 + used) (capacity - used)) in
    let zero_used : 0 + used ≡ used = omega arith in
    let from : sum_by f (range_with_len (0 + used) (capacity - used)) ≡ sum_by f (range_with_len used (capacity - used)) = ap (λ n. sum_by f (range_with_len n (capacity - used))) zero_used in
    omega (arith, blocks, split, both, from) in
    record {
      births = planned_births 0 space.places ∙ has.births;
      counts = planned_counts (blocks_of_birth t.contents) 0 space.places has.counts;
      sums = λ f.
          let all = sums f in
          let none = no_lists f space.collected mine in
          let empty : sum_by f [] ≡ 0 = refl in
          omega (arith, all, none, empty);
      lists = has.lists;
      collected = has.collected;
      rising = range_rises used (capacity - used);
    }
  where
    has_one : (i n : ℕ) → i < n → IsTrue (nat_le 1 (i + 1) && nat_le (i + 1) n)
    has_one i n lt = grind (arith, lt)

-- at first all blocks are free
pub opening_blocks : (t : Table) (sessions : ℕ) → reach t ≡ [] → length t.sessions ≡ sessions → ((s : ℕ) → IsTrue (has_session t s) → (session_of t s).promise ≡ None) → HasBlocks t (all_free t.options.capacity sessions)
opening_blocks t sessions none size free =
    let lists : List (List ℕ) = map (λ s. []) (range_with_len 1 sessions) in
    let empty : (a n : ℕ) → Each (λ (blocks : List ℕ). blocks ≡ []) (map (λ s. []) (range_with_len a n)) = all_empty in
    record {
      births = sym none;
      counts = tt;
      sums = λ f. let nothing : sum_by f [] ≡ 0 = refl in let rest = no_lists f lists (empty 1 sessions) in omega (arith, nothing, rest);
      lists = length-map-range_with_len (λ s. []) 1 sessions ∙ sym size;
      collected = λ s there. nothing_collected (session_of t s).promise (slice_index_or lists (s - 1) []) (at_empty lists (s - 1) (empty 1 sessions));
      rising = range_rises 0 t.options.capacity;
    }
  where
    all_empty : (a n : ℕ) → Each (λ (blocks : List ℕ). blocks ≡ []) (map (λ s. []) (range_with_len a n))
    all_empty a zero = tt
    all_empty a (suc n) = (refl, all_empty (a + 1) n)

    at_empty : (lists : List (List ℕ)) (i : ℕ) → Each (λ (blocks : List ℕ). blocks ≡ []) lists → slice_index_or lists i [] ≡ []
    at_empty [] i all = refl
    at_empty (xs ∷ lists) zero all = all.0
    at_empty (xs ∷ lists) (suc i) all = at_empty lists i all.1
