-- What the entries of a turn do to the births in reach and to the sessions.
use Rattle.std.proofs.Common.{◌≡◌, ℕ, zero, suc, ◌+◌, ◌-◌, ◌≤◌, Bool, true, false, cond, ◌&&◌, IsTrue, List, [], ◌∷◌, ◌++◌, length, take, Option, Some, None, refl, sym, ap, subst, ◌∙◌, inl, arith, append_assoc, length-append, length-set}
use Rattle.std.specs.Prelude.{nat_le, unwrap_or, Contains}
use Rattle.std.specs.List.{AllByRecursion as Each, range_with_len}
use Rattle.std.specs.Option.{option_map_or, IfSome}
use Rattle.std.specs.declared.cmp.Ordering.TheVariants.{Less, Equal, Greater}
use Rattle.std.specs.Ordering.{match_ordering}
use Rattle.std.proofs.lemmas.List.{append-nil, take_all}
use Rattle.std.proofs.lemmas.List.Sums.{sum_by-append}
use Rattle.sf_types.specs.declared.call.Call.{Call}
use Rattle.sf_types.specs.declared.call.Call.TheVariants as call
use Rattle.sf_types.specs.declared.history.Kind.{Kind}
use Rattle.sf_types.specs.declared.history.Kind.TheVariants as kind
use Rattle.sf_types.specs.Values.Names.{name_cmp}
use Rattle.sf_types.specs.Values.Marks.{Marked, Value}
use Rattle.sf_types.specs.Inside.NameMaps.{NameMap, get, with_entry}
use Rattle.sf_types.specs.Table.Parts.{Content, Promise, Rows, Session, Table, new_session}
use Rattle.sf_types.specs.Table.Sessions.{has_session, session_of, with_session}
use Rattle.sf_types.specs.Table.Versions.{last_change, value_or_absent}
use Rattle.sf_types.specs.Space.Cuts.{Cut, settle, settle_value, contents_of_value}
use Rattle.sf_types.specs.Space.Due.{flush_of, written_row, result_in}
use Rattle.sf_types.specs.Space.Reach.{reach}
use Rattle.sf_types.specs.Space.Use.{blocks_of_birth, blocks_of_births}
use Rattle.sf_types.specs.Space.Promises.{is_found, flush_cuts, wanted_blocks, table_with_promise}
use Rattle.sf_types.specs.Space.Publications.{content_of_cut, contents_with, reached_with, births_for, contents_after, with_contents, settled_flush, settled_result, without_promise, publish}
use Rattle.sf_types.specs.Calls.LocatorCalls.{locator}
use Rattle.sf_types.specs.Calls.WritingCalls.{written_locator, after_write}
use Rattle.sf_types.specs.Calls.Steps.{step}
use Rattle.sf_types.specs.Orders.Histories.{IsLegal, effect_of, entry_effect, entry_of, call_entries, call_effect, table_after}
use Rattle.sf_types.specs.Play.Blocks.{new_births}
use Rattle.sf_types.proofs.NameMapLemmas.{same_name}
use Rattle.sf_laws.specs.TrueMarks.{HasTrueMarks, IsGivenOut}
use Rattle.sf_laws.specs.UseWithinCapacity.{IsEnough, IsWithinCapacity}
use Rattle.sf_laws.proofs.ChangeLemmas.{IsChanged, step_changed, publish_changed}
use Rattle.sf_laws.proofs.CommitLemmas.{births-length}
use Rattle.sf_laws.proofs.EachLemmas.{each_weaker, each_contained, each_itself, each_at}
use Rattle.sf_laws.proofs.EntryCaseLemmas.{by_entry_cases}
use Rattle.sf_laws.proofs.GivenBirthLemmas.{GoesOn, goes_on_same, goes_on_after, reached_after}
use Rattle.sf_laws.proofs.HeldLemmas.{OfRows, OfKept, OfVersions, OfSession}
use Rattle.sf_laws.proofs.HeldStepLemmas.{of_part}
use Rattle.sf_laws.proofs.LockLemmas.{own_name}
use Rattle.sf_laws.proofs.NewBirthLemmas.{IsOldOrNew, old-or-new}
use Rattle.sf_laws.proofs.PlacingLemmas.{Moves}
use Rattle.sf_laws.proofs.PromiseLemmas.{own_session, other_session}
use Rattle.sf_laws.proofs.PublishCaseLemmas.{by_publish_cases, settled_part}
use Rattle.sf_laws.proofs.ReachLemmas.{OfBirth, OfHeld, each_from_reach}
use Rattle.sf_laws.proofs.ReachStepLemmas.{reach_stepped, reach_at_floor, reach_granted}
use Rattle.sf_laws.proofs.SettledBirthLemmas.{from_rows, from_given}
use Rattle.sf_laws.proofs.SpaceLemmas.{LeavesOthers}
use Rattle.sf_laws.proofs.TrueStepLemmas.{are_true, reach_given, true_after}
use Rattle.sf_laws.proofs.WantedLemmas.{wanted_falls, published_blocks, blocks_kept}

-- Entries of session s that give out no birth: no birth comes into reach.
pub record Quiet (t : Table) (s : ℕ) (u : Table) : Type 0 where
  pub fewer : Each (Contains (reach t)) (reach u)
  pub contents : u.contents ≡ t.contents
  pub leaves : LeavesOthers t u s

pub quiet_same : (t : Table) (s : ℕ) → Quiet t s t
quiet_same t s = record { fewer = each_itself (reach t); contents = refl; leaves = record { options = refl; sessions = refl; others = λ r there apart. refl } }

still_there : (t u : Table) (r : ℕ) → length u.sessions ≡ length t.sessions → IsTrue (has_session t r) → IsTrue (has_session u r)
still_there t u r same has = subst (λ n. IsTrue (nat_le 1 r && nat_le r n)) (sym same) has

pub quiet_on : (t u v : Table) (s : ℕ) → Quiet t s u → Quiet u s v → Quiet t s v
quiet_on t u v s first then = record {
  fewer = each_weaker (Contains (reach u)) (Contains (reach t)) (reach v) (λ b is. each_contained (Contains (reach t)) (reach u) b first.fewer is) then.fewer;
  contents = then.contents ∙ first.contents;
  leaves = record {
    options = then.leaves.options ∙ first.leaves.options;
    sessions = then.leaves.sessions ∙ first.leaves.sessions;
    others = λ r there apart. then.leaves.others r (still_there t u r first.leaves.sessions there) apart ∙ first.leaves.others r there apart;
  };
}

pub leaves_changed : (t u : Table) (s : ℕ) (promise : Option Promise) (contents : List Content) → IsTrue (has_session t s) → IsChanged t s promise contents u → LeavesOthers t u s
leaves_changed t u s promise contents has changed = record {
  options = changed.options;
  sessions = ap (λ (xs : List Session). length xs) changed.sessions ∙ length-set t.sessions (s - 1) changed.part;
  others = λ r there apart. ap (λ (p : Session). p.promise) (other_session t u s r changed.part has there apart changed.sessions);
}

quiet_step : (t : Table) (s : ℕ) (c : Call) → IsTrue (has_session t s) → Quiet t s (step t s c).0
quiet_step t s c has =
    let changed = step_changed t s c has in
    record {
      fewer = reach_stepped (Contains (reach t)) t s c has (each_itself (reach t));
      contents = changed.contents;
      leaves = leaves_changed t (step t s c).0 s (session_of t s).promise t.contents has changed;
    }

quiet_granted : (t : Table) (s : ℕ) (c : Call) (h : ℕ) → IsTrue (has_session t s) → t.floor ≤ h → Quiet t s (table_with_promise t s c (flush_cuts t s c) h)
quiet_granted t s c h has le =
    let of = flush_cuts t s c in
    let u = table_with_promise t s c of h in
    record {
      fewer = reach_granted (Contains (reach t)) t s c of h (reach_at_floor (Contains (reach t)) t h le (each_itself (reach t)));
      contents = refl;
      leaves = record {
        options = refl;
        sessions = length-set t.sessions (s - 1) _;
        others = λ r there apart. ap (λ (p : Session). p.promise) (other_session t u s r _ has there apart refl);
      };
    }

pub quiet_entry : (t : Table) (s : ℕ) (k : Kind) (c : Call) → IsLegal t s k c → (session_of t s).promise ≡ None → Quiet t s (entry_effect t s k c).0
quiet_entry t s k c legal none = by_entry_cases t s k c (Quiet t s) legal (record {
  stepped = λ free due. quiet_step t s c legal.session;
  published = λ q is same. absurd cc;
  refused = quiet_same t s;
  granted = λ free due h le fits. quiet_granted t s c h legal.session le;
  cancelled = λ q is. absurd cc;
})

-- calls without a promise, one after the other
pub record QuietCalls (t : Table) (s : ℕ) (u : Table) : Type 0 where
  pub quiet : Quiet t s u
  pub free : (session_of u s).promise ≡ None

pub call_quietly : (t : Table) (s : ℕ) (c : Call) → IsTrue (has_session t s) → (session_of t s).promise ≡ None → QuietCalls t s (effect_of t (entry_of s kind.Call c)).0
call_quietly t s c has none =
    let changed = step_changed t s c has in
    let u = (step t s c).0 in
    let same : (call_effect (session_of t s).promise t s c).0 ≡ u = ap (λ (o : Option Promise). (call_effect o t s c).0) none in
    subst (QuietCalls t s) (sym same) (record { quiet = quiet_step t s c has; free = ap (λ (p : Session). p.promise) (own_session t u s changed.part has changed.sessions) ∙ changed.promised ∙ none })

pub quiet_calls : (t : Table) (s : ℕ) (cs : List Call) → IsTrue (has_session t s) → (session_of t s).promise ≡ None → QuietCalls t s (table_after t (call_entries s cs))
quiet_calls t s [] has none = record { quiet = quiet_same t s; free = none }
quiet_calls t s (c ∷ cs) has none =
    let u = (effect_of t (entry_of s kind.Call c)).0 in
    let first = call_quietly t s c has none in
    let rest = quiet_calls u s cs (still_there t u s first.quiet.leaves.sessions has) first.free in
    record { quiet = quiet_on t u (table_after u (call_entries s cs)) s first.quiet rest.quiet; free = rest.free }

-- so no birth is placed
pub moves_quiet : (t u : Table) (s : ℕ) → Quiet t s u → HasTrueMarks t → Moves t u []
moves_quiet t u s quiet marks =
    let given = reach_given t (are_true t marks) in
    let same : length u.contents - length t.contents ≡ 0 = let equal : length u.contents ≡ length t.contents = ap (λ (cs : List Content). length cs) quiet.contents in omega (arith, equal) in
    let none : new_births t u ≡ [] = ap (range_with_len (length t.contents + 1)) same in
    record {
      on = subst (GoesOn t.contents) (sym quiet.contents) (goes_on_same t.contents);
      old = given;
      high = each_weaker (Contains (reach t)) (IsGivenOut u.contents) (reach u) (λ b is. subst (λ (cs : List Content). IsGivenOut cs b) (sym quiet.contents) (each_contained (IsGivenOut t.contents) (reach t) b given is)) quiet.fewer;
      within = each_weaker (Contains (reach t)) (IsOldOrNew (reach t) (length t.contents)) (reach u) (λ b is. inl is) quiet.fewer;
      new = subst (Each (Contains (reach u))) (sym none) tt;
      enough = subst (λ births. blocks_of_births u.contents births ≤ 0) (sym none) (omega arith);
    }

-- what a map holds at a name
put_from : {X : Type 0} (E : List ℕ × X → Type 0) (m : NameMap X) (k : List ℕ) (x : X) → Each E (with_entry m k x) → E (k, x)
put_from E [] k x all = all.0
put_from E (e ∷ m) k x all =
    elim (name_cmp k e.0) as (λ r. name_cmp k e.0 ≡ r → Each E (match_ordering r ((k, x) ∷ e ∷ m) ((e.0, x) ∷ m) (e ∷ with_entry m k x)) → E (k, x)) [
      | Less ↦ λ cmp h. h.0
      | Equal ↦ λ cmp h. subst (λ n. E (n, x)) (sym (same_name k e.0 (rw cmp refl))) h.0
      | Greater ↦ λ cmp h. put_from E m k x h.1
    ] refl all

none_named : (n : ℕ) (row : List ℕ) → last_change (take n []) row ≡ None
none_named zero row = refl
none_named (suc n) row = refl

-- the last commit is kept
last_held : (M : Marked → Type 0) (floor : ℕ) (commits : List Rows) (w : Rows) → OfVersions M floor (commits ++ w ∷ []) → OfRows M w
last_held M floor [] w all = each_weaker (OfKept M (take (floor - 1) [])) _ w (λ e is. is (none_named (floor - 1) e.0)) all.0
last_held M floor (c ∷ commits) w all = last_held M (floor - 1) commits w all.1

part_held : (P : ℕ → Type 0) (t : Table) (s : ℕ) (part : Session) → IsTrue (has_session t s) → OfHeld P (with_session t s part) → OfSession (OfBirth P) part
part_held P t s part has of =
    let u = with_session t s part in
    subst (OfSession (OfBirth P)) (own_session t u s part has refl) (of_part (OfBirth P) u.floor u s of.held)

-- what a publication settled is held after it
settled_held : (P : ℕ → Type 0) (t : Table) (s : ℕ) (c : Call) → IsTrue (has_session t s) → OfHeld P (publish t s c).0 → OfRows (OfBirth P) (settled_flush t s c)
settled_held P t s c has = by_publish_cases t s c (λ u. OfHeld P u → OfRows (OfBirth P) (settled_flush t s c)) (record {
  committed = λ is of. subst (λ d. OfRows (OfBirth P) (settled_flush t s d)) (sym is) (last_held (OfBirth P) _ t.commits (settled_flush t s call.Commit) of.held.versions);
  left_open = λ is of. subst (λ d. OfRows (OfBirth P) (settled_flush t s d)) (sym is) (part_held P (with_contents t s call.Commit) s (record (settled_part t s) { savepoints = [] }) has of).working;
  written = λ at is flush of.
      let p = session_of t s in
      let value = settled_result t s p at c in
      written at flush (put_from (λ e. Each (OfBirth P) e.1.value.bytes) p.locators at (written_locator (without_promise p) (locator (without_promise p) at) value) (part_held P (with_contents t s c) s (after_write (without_promise p) at value) has of).locators);
  nothing = λ is flush of. subst (λ rows. OfRows (OfBirth P) (settle rows (births_for t.contents (reach t) (flush_cuts t s c)))) (sym flush) tt;
})
  where
    written : (at : List ℕ) → flush_of t (session_of t s) c ≡ (written_row (session_of t s) at, Some (result_in t (session_of t s) at c)) ∷ []
        → Each (OfBirth P) (settled_result t s (session_of t s) at c).bytes → OfRows (OfBirth P) (settled_flush t s c)
    written at flush all =
        let row = written_row (session_of t s) at in
        let v = result_in t (session_of t s) at c in
        let births = births_for t.contents (reach t) (flush_cuts t s c) in
        let w = settle_value v (take (length (contents_of_value v)) births) in
        let is : settled_flush t s c ≡ (row, Some w) ∷ [] = ap (λ rows. settle rows births) flush in
        let at_row : get (settled_flush t s c) row ≡ Some (Some w) = ap (λ (m : Rows). get m row) is ∙ ap (λ b. cond b (Some (Some w)) None) (own_name row) in
        let result : settled_result t s (session_of t s) at c ≡ w = ap (λ (o : Option (Option Value)). unwrap_or (value_or_absent o) v) at_row in
        subst (OfRows (OfBirth P)) (sym is) (subst (λ (x : Value). Each (OfBirth P) x.bytes) result all, tt)

-- so each birth of its cuts is in reach after it
pub cuts_in_reach : (t : Table) (s : ℕ) (c : Call) → IsTrue (has_session t s) → Each (Contains (reach (publish t s c).0)) (births_for t.contents (reach t) (flush_cuts t s c))
cuts_in_reach t s c has =
    let u = (publish t s c).0 in
    let P = Contains (reach u) in
    let births = births_for t.contents (reach t) (flush_cuts t s c) in
    let size = births-length t.contents (reach t) (flush_cuts t s c) in
    let rows = settled_held P t s c has (each_from_reach P u (each_itself (reach u))) in
    let front = from_rows P t.options (flush_of t (session_of t s) c) births (omega (arith, size)) rows in
    subst (Each P) (take_all (length (flush_cuts t s c)) births (omega (arith, size))) front

-- the births among which a cut is looked for grow by those that are given out
record GrowsBy (contents : List Content) (reached : List ℕ) (of : List Cut) (n : ℕ) : Type 0 where
  births : reached_after contents reached of ≡ reached ++ range_with_len (length contents + 1) n
  count : length (contents_after contents reached of) ≡ length contents + n

grows : (contents : List Content) (reached : List ℕ) (of : List Cut) → (n : ℕ) × GrowsBy contents reached of n
grows contents reached [] = (0, record { births = sym (append-nil reached); count = omega arith })
grows contents reached (cut ∷ of) = go (is_found contents reached cut) refl (grows (contents_with contents reached cut) (reached_with contents reached cut) of)
  where
    go : (b : Bool) → is_found contents reached cut ≡ b → (n : ℕ) × GrowsBy (contents_with contents reached cut) (reached_with contents reached cut) of n → (n : ℕ) × GrowsBy contents reached (cut ∷ of) n
    go true is (n, by) =
        let same : contents_with contents reached cut ≡ contents = rw is refl in
        let alike : reached_with contents reached cut ≡ reached = rw is refl in (
          n,
          record {
            births = by.births ∙ ap (λ (xs : List ℕ). xs ++ range_with_len (length (contents_with contents reached cut) + 1) n) alike ∙ ap (λ (cs : List Content). reached ++ range_with_len (length cs + 1) n) same;
            count = by.count ∙ ap (λ (cs : List Content). length cs + n) same;
          },
        )
    go false is (n, by) =
        let more : contents_with contents reached cut ≡ contents ++ content_of_cut cut ∷ [] = rw is refl in
        let with : reached_with contents reached cut ≡ reached ++ (length contents + 1) ∷ [] = rw is refl in
        let longer : length (contents_with contents reached cut) ≡ length contents + 1 = ap (λ (cs : List Content). length cs) more ∙ length-append contents (content_of_cut cut ∷ []) in
        let count = by.count in (
          suc n,
          record {
            births = by.births ∙ ap (λ (xs : List ℕ). xs ++ range_with_len (length (contents_with contents reached cut) + 1) n) with ∙ ap (λ k. (reached ++ (length contents + 1) ∷ []) ++ range_with_len (k + 1) n) longer
                ∙ append_assoc reached ((length contents + 1) ∷ []) (range_with_len (length contents + 1 + 1) n);
            count = omega (arith, count, longer);
          },
        )

-- what a publication gives out takes no more blocks than were promised
new_within : (contents : List Content) (reached : List ℕ) (of : List Cut) → Each (IsGivenOut contents) reached
    → blocks_of_births (contents_after contents reached of) (range_with_len (length contents + 1) (length (contents_after contents reached of) - length contents)) ≤ wanted_blocks contents reached of
new_within contents reached of given =
    let after = contents_after contents reached of in
    let (n, by) = grows contents reached of in
    let count = by.count in
    let size : length after - length contents ≡ n = omega (arith, count) in
    let new = range_with_len (length contents + 1) n in
    let whole : blocks_of_births after (reached_after contents reached of) ≡ blocks_of_births after (reached ++ new) = ap (blocks_of_births after) by.births in
    let both : blocks_of_births after (reached ++ new) ≡ blocks_of_births after reached + blocks_of_births after new = sum_by-append (blocks_of_birth after) reached new in
    let kept = blocks_kept contents after reached (goes_on_after contents reached of) given in
    let most = published_blocks contents reached of given in
    subst (λ k. blocks_of_births after (range_with_len (length contents + 1) k) ≤ wanted_blocks contents reached of) (sym size) (omega (arith, whole, both, kept, most))

wanted_promised : (t : Table) (s : ℕ) (q : Promise) → IsTrue (has_session t s) → IsWithinCapacity t → (session_of t s).promise ≡ Some q → wanted_blocks t.contents (reach t) (flush_cuts t s q.call) ≤ q.blocks
wanted_promised t s q has inv is =
    let marks = are_true t inv.true_marks in
    let enough : IsEnough t s q = subst (λ (o : Option Promise). IfSome o (IsEnough t s)) is (inv.promises s has) in
    let found_given : Each (IsGivenOut t.contents) q.births =
    subst (λ (o : Option Promise). Each (IsGivenOut t.contents) (option_map_or (λ x. x.births) o [])) is (each_at (λ p. Each (IsGivenOut t.contents) (option_map_or (λ x. x.births) p.promise [])) t.sessions (s - 1) new_session tt marks.found) in
    let found_within : Each (Contains (reach t)) q.births =
    subst (λ (o : Option Promise). Each (Contains (reach t)) (option_map_or (λ x. x.births) o [])) is (each_at (λ p. Each (Contains (reach t)) (option_map_or (λ x. x.births) p.promise [])) t.sessions (s - 1) new_session tt (each_from_reach (Contains (reach t)) t (each_itself (reach t))).found) in
    let falls = wanted_falls t.contents t.contents q.births (reach t) (flush_cuts t s q.call) (goes_on_same t.contents) found_given found_within in
    let blocks = enough.blocks in
    omega (arith, falls, blocks)

-- What a publication does.
pub record Publishes (t : Table) (s : ℕ) (q : Promise) (u : Table) (given : List ℕ) : Type 0 where
  pub moves : Moves t u given
  pub leaves : LeavesOthers t u s
  pub free : (session_of u s).promise ≡ None

pub publication_moves : (t : Table) (s : ℕ) (q : Promise) (given : List ℕ) → IsTrue (has_session t s) → IsWithinCapacity t → (session_of t s).promise ≡ Some q → length given ≡ q.blocks → IsLegal t s kind.Call q.call
    → Publishes t s q (publish t s q.call).0 given
publication_moves t s q given has inv is size legal =
    let c = q.call in
    let of = flush_cuts t s c in
    let u = (publish t s c).0 in
    let after = contents_after t.contents (reach t) of in
    let changed = publish_changed t s c in
    let old = reach_given t (are_true t inv.true_marks) in
    let same : (entry_effect t s kind.Call c).0 ≡ u = ap (λ (o : Option Promise). (call_effect o t s c).0) is in
    let marks : HasTrueMarks u = subst HasTrueMarks same (true_after t (entry_of s kind.Call c) legal inv.true_marks) in
    let wanted = wanted_promised t s q has inv is in
    let most = new_within t.contents (reach t) of old in
    let births = λ (cs : List Content). range_with_len (length t.contents + 1) (length cs - length t.contents) in
    record {
      moves = record {
        on = subst (GoesOn t.contents) (sym changed.contents) (goes_on_after t.contents (reach t) of);
        old = old;
        high = reach_given u (are_true u marks);
        within = subst (λ (x : Table). Each (IsOldOrNew (reach t) (length t.contents)) (reach x)) same (old-or-new t s kind.Call c legal inv.true_marks);
        new = subst (λ (cs : List Content). Each (Contains (reach u)) (range_with_len (length t.contents + 1) (length cs - length t.contents))) (sym changed.contents) (from_given (Contains (reach u)) t.contents (reach t) of (cuts_in_reach t s c has));
        enough = subst (λ (cs : List Content). blocks_of_births cs (range_with_len (length t.contents + 1) (length cs - length t.contents)) ≤ length given) (sym changed.contents) (omega (arith, wanted, most, size));
      };
      leaves = leaves_changed t u s None after has changed;
      free = ap (λ (p : Session). p.promise) (own_session t u s changed.part has changed.sessions) ∙ changed.promised;
    }
