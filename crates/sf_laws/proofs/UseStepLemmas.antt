-- The use stays within the capacity.
use Rattle.std.proofs.Common.{◌≡◌, ℕ, zero, suc, ◌+◌, ◌-◌, ◌≤◌, true, IsTrue, List, [], ◌∷◌, replicate, Option, Some, None, refl, sym, ap, subst, ◌∙◌, arith}
use Rattle.std.specs.Prelude.{flat_map, slice_get, unwrap_or, sum_by, Contains}
use Rattle.std.specs.List.{AllByRecursion as Each}
use Rattle.std.specs.Option.{option_map_or, IfSome}
use Rattle.std.proofs.lemmas.List.Sums.{sum_by-cons}
use Rattle.sf_types.specs.declared.call.Call.{Call}
use Rattle.sf_types.specs.declared.history.Entry.{Entry}
use Rattle.sf_types.specs.declared.options.Options.{Options}
use Rattle.sf_types.specs.Inside.Births.{IsRising}
use Rattle.sf_types.specs.Table.Parts.{Content, Promise, Session, Table, new_session, opening_table}
use Rattle.sf_types.specs.Table.Sessions.{has_session, session_of, with_session}
use Rattle.sf_types.specs.Space.Due.{is_due, flush_of}
use Rattle.sf_types.specs.Space.Reach.{holdings, reach}
use Rattle.sf_types.specs.Space.Use.{blocks_of_birth, blocks_of_births, promised_blocks, use_of, free_of}
use Rattle.sf_types.specs.Space.Promises.{found_births, wanted_blocks, flush_cuts, wanted_blocks_at, fits_at, with_floor, table_with_promise, cancel}
use Rattle.sf_types.specs.Space.Publications.{contents_after, publish}
use Rattle.sf_types.specs.Calls.Steps.{step}
use Rattle.sf_types.specs.Orders.Histories.{IsLegal, IsLegalHistory, effect_of, table_after, history_table}
use Rattle.sf_laws.specs.TrueMarks.{IsGivenOut}
use Rattle.sf_laws.specs.UseWithinCapacity.{HasLocked, IsEnough, IsWithinCapacity}
use Rattle.sf_laws.proofs.EachLemmas.{each_at, each_itself, each-replicate}
use Rattle.sf_laws.proofs.GivenBirthLemmas.{reached_after, GoesOn, goes_on_same, goes_on_after}
use Rattle.sf_laws.proofs.ReachLemmas.{each-reach, each_from_reach}
use Rattle.sf_laws.proofs.ReachStepLemmas.{reach_stepped, reach_published, reach_at_floor, reach_granted, reach_cancelled}
use Rattle.sf_laws.proofs.ChangeLemmas.{IsChanged, step_changed, publish_changed}
use Rattle.sf_laws.proofs.EntryCaseLemmas.{EntryCases, by_entry_cases}
use Rattle.sf_laws.proofs.TrueStepLemmas.{are_true, reach_given, true_after, true_opening}
use Rattle.sf_laws.proofs.SumLemmas.{rising_rises, sum_among}
use Rattle.sf_laws.proofs.WantedLemmas.{wanted_falls, wanted_of_found, rises_after, published_blocks}
use Rattle.sf_laws.proofs.LockStepLemmas.{IsLockedStep, lock_step, lock_publish}
use Rattle.sf_laws.proofs.PromiseLemmas.{own_session, sum_changed, due_unmoved, due_promised, enough_from, locks_after, promises_after}
use Rattle.sf_types.proofs.NumberLemmas.{at_most}

-- What is kept besides the truth of marks, and the options.
record IsKept (options : Options) (u : Table) : Type 0 where
  same : u.options ≡ options
  within : use_of u ≤ options.capacity
  locks : (r : ℕ) → IsTrue (has_session u r) → HasLocked u.locks r (session_of u r)
  promises : (r : ℕ) → IsTrue (has_session u r) → IfSome (session_of u r).promise (IsEnough u r)

reach_rises : (t : Table) → IsRising (reach t)
reach_rises t = rising_rises (flat_map (λ h. h.births) (holdings t))

-- fewer births in reach take no more blocks
blocks_among : (contents : List Content) (t u : Table) → Each (Contains (reach t)) (reach u) → blocks_of_births contents (reach u) ≤ blocks_of_births contents (reach t)
blocks_among contents t u within = sum_among (blocks_of_birth contents) (reach u) (reach t) (reach_rises u) (reach_rises t) within

-- A session's promise and the floor changed, and nothing else.
abbrev with_promise : Table → ℕ → ℕ → Option Promise → Table
with_promise t s h promise = with_session (with_floor t h) s (record (session_of t s) { promise = promise })

-- a table whose contents, births and promises are told
use_is : (u : Table) (contents : List Content) → u.contents ≡ contents → use_of u ≡ blocks_of_births contents (reach u) + sum_by promised_blocks u.sessions
use_is u contents same = ap (λ (cs : List Content). blocks_of_births cs (reach u) + sum_by promised_blocks u.sessions) same

of_promise : (p : Session) (o : Option Promise) → p.promise ≡ o → promised_blocks p ≡ option_map_or (λ q. q.blocks) o 0
of_promise p o is = ap (λ (x : Option Promise). option_map_or (λ q. q.blocks) x 0) is

promise_locked : (t : Table) (s h : ℕ) (promise : Option Promise) → HasLocked t.locks s (session_of t s) → IsLockedStep t s (with_promise t s h promise)
promise_locked t s h promise own = record {
  part = record (session_of t s) { promise = promise };
  sessions = refl;
  own = record { working = own.working; saved = own.saved; named = own.named };
  others = λ r row apart held. held;
  rows = λ r row apart held. refl;
}

promise_changed : (t : Table) (s h : ℕ) (promise : Option Promise) → t.floor ≤ h → IsChanged t s promise t.contents (with_promise t s h promise)
promise_changed t s h promise le = record { part = record (session_of t s) { promise = promise }; promised = refl; sessions = refl; options = refl; contents = refl; floor = le }

kept_stepped : (t : Table) (s : ℕ) (c : Call) → IsTrue (has_session t s) → IsWithinCapacity t → (session_of t s).promise ≡ None → IsKept t.options (step t s c).0
kept_stepped t s c has inv none =
    let u = (step t s c).0 in
    let changed = step_changed t s c has in
    let locked = lock_step t s c has (inv.locks s has) in
    let fewer = blocks_among t.contents t u (reach_stepped (Contains (reach t)) t s c has (each_itself (reach t))) in
    let sum = sum_changed t u s (session_of t s).promise t.contents has changed in
    let uses = use_is u t.contents changed.contents in
    record {
      same = changed.options;
      within = omega (arith, inv.within, fewer, sum, uses);
      locks = locks_after t u s has locked inv.locks;
      promises = promises_after t u s (session_of t s).promise t.contents has locked changed (subst (GoesOn t.contents) (sym changed.contents) (goes_on_same t.contents)) (are_true t inv.true_marks).found inv.promises
          (subst (λ (o : Option Promise). IfSome o (IsEnough u s)) (sym none) tt);
    }

kept_published : (t : Table) (s : ℕ) (c : Call) → IsTrue (has_session t s) → IsWithinCapacity t → (q : Promise) → (session_of t s).promise ≡ Some q → c ≡ q.call → IsKept t.options (publish t s c).0
kept_published t s c has inv q is call =
    let u = (publish t s c).0 in
    let of = flush_cuts t s c in
    let after = contents_after t.contents (reach t) of in
    let reached = reached_after t.contents (reach t) of in
    let marks = are_true t inv.true_marks in
    let given = reach_given t marks in
    let enough : IsEnough t s q = subst (λ (o : Option Promise). IfSome o (IsEnough t s)) is (inv.promises s has) in
    let due : is_due t s c ≡ true = ap (is_due t s) call ∙ enough.due in
    let changed = publish_changed t s c in
    let locked = lock_publish t s c (inv.locks s has) due in
    let among = sum_among (blocks_of_birth after) (reach u) reached (reach_rises u) (rises_after t.contents (reach t) of given (reach_rises t)) (reach_published (Contains reached) t s c given (each_itself reached)) in
    let gives = published_blocks t.contents (reach t) of given in
    let found_given : Each (IsGivenOut t.contents) q.births =
    subst (λ (o : Option Promise). Each (IsGivenOut t.contents) (option_map_or (λ x. x.births) o [])) is (each_at (λ p. Each (IsGivenOut t.contents) (option_map_or (λ x. x.births) p.promise [])) t.sessions (s - 1) new_session tt marks.found) in
    let found_within : Each (Contains (reach t)) q.births =
    subst (λ (o : Option Promise). Each (Contains (reach t)) (option_map_or (λ x. x.births) o [])) is (each_at (λ p. Each (Contains (reach t)) (option_map_or (λ x. x.births) p.promise [])) t.sessions (s - 1) new_session tt (each_from_reach (Contains (reach t)) t (each_itself (reach t))).found) in
    let falls = wanted_falls t.contents t.contents q.births (reach t) of (goes_on_same t.contents) found_given found_within in
    let blocks : wanted_blocks t.contents q.births of ≤ q.blocks = subst (λ d. wanted_blocks t.contents q.births (flush_cuts t s d) ≤ q.blocks) (sym call) enough.blocks in
    let sum = sum_changed t u s None after has changed in
    let own = of_promise (session_of t s) (Some q) is in
    let uses = use_is u after changed.contents in
    record {
      same = changed.options;
      within = omega (arith, inv.within, among, gives, falls, blocks, sum, own, uses);
      locks = locks_after t u s has locked inv.locks;
      promises = promises_after t u s None after has locked changed (subst (GoesOn t.contents) (sym changed.contents) (goes_on_after t.contents (reach t) of)) marks.found inv.promises tt;
    }

kept_granted : (t : Table) (s : ℕ) (c : Call) → IsTrue (has_session t s) → IsWithinCapacity t → (session_of t s).promise ≡ None → is_due t s c ≡ true → (h : ℕ) → t.floor ≤ h → fits_at t (flush_cuts t s c) h ≡ true → IsKept t.options (table_with_promise t s c (flush_cuts t s c) h)
kept_granted t s c has inv none due h le fits =
    let p = session_of t s in
    let of = flush_cuts t s c in
    let v = with_floor t h in
    let u = table_with_promise t s c of h in
    let marks = are_true t inv.true_marks in
    let q : Promise = record { call = c; blocks = wanted_blocks_at t of h; births = found_births t.contents (reach v) of } in
    let part : Session = record p { promise = Some q } in
    let changed = promise_changed t s h (Some q) le in
    let locked = promise_locked t s h (Some q) (inv.locks s has) in
    let fewer = blocks_among t.contents t v (reach_at_floor (Contains (reach t)) t h le (each_itself (reach t))) in
    let fewest = blocks_among t.contents v u (reach_granted (Contains (reach v)) t s c of h (each_itself (reach v))) in
    let room : wanted_blocks_at t of h ≤ t.options.capacity - use_of v = at_most (wanted_blocks_at t of h) (free_of v) fits in
    let sum = sum_changed t u s (Some q) t.contents has changed in
    let before = of_promise p None none in
    let promised = due_promised t s p (Some q) c in
    let kept = due_unmoved t u s part c (record { options = refl; locks = λ row held. held; rows = λ row held. refl }) (promised.0 ∙ due) in
    let enough : IsEnough u s q = enough_from u s q part (flush_of t p c) t.options (own_session t u s part has refl) kept.0 (kept.1 ∙ promised.1) refl (wanted_of_found t.contents (reach v) of) in
    record {
      same = refl;
      within = omega (arith, inv.within, fewer, fewest, room, sum, before);
      locks = locks_after t u s has locked inv.locks;
      promises = promises_after t u s (Some q) t.contents has locked changed (goes_on_same t.contents) marks.found inv.promises enough;
    }

kept_cancelled : (t : Table) (s : ℕ) → IsTrue (has_session t s) → IsWithinCapacity t → IsKept t.options (cancel t s)
kept_cancelled t s has inv =
    let u = cancel t s in
    let changed = promise_changed t s t.floor None (omega arith) in
    let locked = promise_locked t s t.floor None (inv.locks s has) in
    let fewer = blocks_among t.contents t u (reach_cancelled (Contains (reach t)) t s (each_itself (reach t))) in
    let sum = sum_changed t u s None t.contents has changed in
    record {
      same = refl;
      within = omega (arith, inv.within, fewer, sum);
      locks = locks_after t u s has locked inv.locks;
      promises = promises_after t u s None t.contents has locked changed (goes_on_same t.contents) (are_true t inv.true_marks).found inv.promises tt;
    }

kept_cases : (t : Table) (s : ℕ) (c : Call) → IsTrue (has_session t s) → IsWithinCapacity t → EntryCases t s c (IsKept t.options)
kept_cases t s c has inv = record {
  stepped = λ none due. kept_stepped t s c has inv none;
  published = λ q is call. kept_published t s c has inv q is call;
  refused = record { same = refl; within = inv.within; locks = inv.locks; promises = inv.promises };
  granted = λ none due h le fits. kept_granted t s c has inv none due h le fits;
  cancelled = λ q is. kept_cancelled t s has inv;
}

kept_entry : (t : Table) (e : Entry) → IsLegal t e.token.session e.token.kind e.call → IsWithinCapacity t → IsKept t.options (effect_of t e).0
kept_entry t e legal inv = by_entry_cases t e.token.session e.token.kind e.call (IsKept t.options) legal (kept_cases t e.token.session e.call legal.session inv)

pub within_entry : (t : Table) (e : Entry) → IsLegal t e.token.session e.token.kind e.call → IsWithinCapacity t → IsWithinCapacity (effect_of t e).0
within_entry t e legal inv =
    let kept = kept_entry t e legal inv in
    record {
      within = subst (λ (o : Options). use_of (effect_of t e).0 ≤ o.capacity) (sym kept.same) kept.within;
      true_marks = true_after t e legal inv.true_marks;
      locks = kept.locks;
      promises = kept.promises;
    }

-- the opening table
none_promised : (n : ℕ) → sum_by promised_blocks (replicate n new_session) ≡ 0
none_promised zero = refl
none_promised (suc n) =
    let first : sum_by promised_blocks (new_session ∷ replicate n new_session) ≡ 0 + sum_by promised_blocks (replicate n new_session) = sum_by-cons promised_blocks new_session (replicate n new_session) in
    let rest = none_promised n in
    omega (arith, first, rest)

new_part : (n i : ℕ) → unwrap_or (slice_get (replicate n new_session) i) new_session ≡ new_session
new_part zero i = refl
new_part (suc n) zero = refl
new_part (suc n) (suc i) = new_part n i

no_blocks : (contents : List Content) (births : List ℕ) → Each (λ b. ⊥) births → blocks_of_births contents births ≡ 0
no_blocks contents [] none = refl
no_blocks contents (b ∷ births) none = absurd none.0

pub within_opening : (options : Options) (sessions : ℕ) → IsWithinCapacity (opening_table options sessions)
within_opening options sessions =
    let t = opening_table options sessions in
    let nothing : Each (λ b. ⊥) (reach t) = each-reach (λ b. ⊥) t (record {
      held = record { versions = tt; sessions = each-replicate _ sessions new_session (record { working = tt; locators = tt; savepoints = tt }) };
      found = each-replicate _ sessions new_session tt;
    }) in
    let blocks = no_blocks t.contents (reach t) nothing in
    let promised = none_promised sessions in
    record {
      within = omega (arith, blocks, promised);
      true_marks = true_opening options sessions;
      locks = λ r has. subst (HasLocked [] r) (sym (new_part sessions (r - 1))) (record { working = tt; saved = tt; named = tt });
      promises = λ r has. subst (λ (p : Session). IfSome p.promise (IsEnough t r)) (sym (new_part sessions (r - 1))) tt;
    }

within_after : (t : Table) (history : List Entry) → IsLegalHistory t history → IsWithinCapacity t → (use_of (table_after t history) ≤ t.options.capacity) × IsWithinCapacity (table_after t history)
within_after t [] legal inv = (inv.within, inv)
within_after t (e ∷ es) legal inv =
    let rest = within_after (effect_of t e).0 es legal.1 (within_entry t e legal.0 inv) in
    (subst (λ (o : Options). use_of (table_after (effect_of t e).0 es) ≤ o.capacity) (kept_entry t e legal.0 inv).same rest.0, rest.1)

pub use_in_run : (options : Options) (sessions : ℕ) (history : List Entry) → IsLegalHistory (opening_table options sessions) history → use_of (history_table options sessions history) ≤ options.capacity
use_in_run options sessions history legal = (within_after (opening_table options sessions) history legal (within_opening options sessions)).0
