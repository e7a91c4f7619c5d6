-- A promise, a publication and a cancel by the store's half and the session's own part.
use Rattle.std.proofs.Common.{◌≡◌, ℕ, ◌+◌, ◌-◌, Bool, true, false, cond, IsTrue, List, [], ◌∷◌, ◌++◌, map, length, take, Option, Some, None, refl, sym, ap, subst, ◌∙◌}
use Rattle.std.specs.Prelude.{flat_map, sum_by, find, nat_le, unwrap_or, slice_set}
use Rattle.std.specs.Option.{option_map_or}
use Rattle.std.proofs.lemmas.List.Sums.{sum_by-cons}
use Rattle.sf_types.specs.declared.call.Call.{Call}
use Rattle.sf_types.specs.declared.call.Call.TheVariants as call
use Rattle.sf_types.specs.declared.reply.Fault.TheVariants as fault
use Rattle.sf_types.specs.declared.reply.Reply.{Reply}
use Rattle.sf_types.specs.declared.reply.Reply.TheVariants as reply
use Rattle.sf_types.specs.Inside.Births.{rising_births}
use Rattle.sf_types.specs.Table.Parts.{Rows, Session, Table}
use Rattle.sf_types.specs.Table.Sessions.{has_session, session_of, with_session, holds_lock}
use Rattle.sf_types.specs.Space.Cuts.{Cut, contents_of_value, settle, settle_value}
use Rattle.sf_types.specs.Space.Reach.{Holding, session_births, version_holdings, session_holdings, promise_holding, reach}
use Rattle.sf_types.specs.declared.holder.Holder.TheVariants as holder
use Rattle.sf_types.specs.Space.Use.{blocks_of_births, promised_blocks, free_of}
use Rattle.sf_types.specs.Space.Promises.{flush_cuts, found_births, wanted_blocks, with_floor, floor_candidates, wanted_blocks_at, fits_at, table_with_promise, last_candidate, promise_at, cancel}
use Rattle.sf_types.specs.Inside.NameMaps.{get, without_entry}
use Rattle.sf_types.specs.Values.Marks.{Value}
use Rattle.sf_types.specs.Table.Versions.{current_value, value_or_absent}
use Rattle.sf_types.specs.Calls.WritingCalls.{written_name, old_value, write_reply, written_locator, after_write}
use Rattle.sf_types.specs.Calls.LocatorCalls.{locator}
use Rattle.sf_types.specs.Space.Due.{flush_of, written_row, result_in}
use Rattle.sf_types.specs.Calls.TransactionEnds.{with_commit, after_commit}
use Rattle.sf_types.specs.Space.Publications.{births_for, contents_after, with_contents, settled_flush, without_promise, settled_result, publish_write, publish_commit, publish_of, publish}
use Rattle.sf_types.specs.Halves.Own.{Own, own_of, held_value, own_row}
use Rattle.sf_laws.specs.Halves.{Agrees, Promises}
use Rattle.sf_types.specs.Halves.Asks.{Commits, Settles, Answer, Given, own_with, after_answer, births_with, Half, Kept, half_of, kept_of, kept_at, with_kept}
use Rattle.sf_types.specs.Halves.Flushes.{kept_holdings, half_reach, kept_blocks, half_free, half_at, half_wanted_blocks, half_promise_at, half_promise, half_publish, half_cancel}
use Rattle.sf_laws.proofs.AskLemmas.{Asks, rows_of, none_locked, map-set, kept_is, half_with}
use Rattle.sf_laws.proofs.LockLemmas.{own_name}
use Rattle.sf_laws.proofs.OwnLemmas.{own_value}
use Rattle.sf_laws.proofs.SessionBirthLemmas.{births_written}
use Rattle.sf_laws.proofs.PromiseLemmas.{own_session}

-- reach is told by the store's half
holdings_kept : (s : ℕ) (ps : List Session) → session_holdings s ps ≡ kept_holdings s (map kept_of ps)
holdings_kept s [] = refl
holdings_kept s (p ∷ ps) = ap (λ (hs : List Holding). record { holder = holder.Session s; births = session_births p } ∷ promise_holding s p ++ hs) (holdings_kept (s + 1) ps)

pub reach_by_half : (t : Table) → reach t ≡ half_reach (half_of t)
reach_by_half t = ap (λ (hs : List Holding). rising_births (flat_map (λ h. h.births) (version_holdings t ++ hs))) (holdings_kept 1 t.sessions)

sum_kept : (ps : List Session) → sum_by promised_blocks ps ≡ sum_by kept_blocks (map kept_of ps)
sum_kept [] = refl
sum_kept (p ∷ ps) = sum_by-cons promised_blocks p ps ∙ ap (λ n. promised_blocks p + n) (sum_kept ps) ∙ sym (sum_by-cons kept_blocks (kept_of p) (map kept_of ps))

pub free_by_half : (t : Table) → free_of t ≡ half_free (half_of t)
free_by_half t = ap (λ bs. t.options.capacity - (blocks_of_births t.contents bs + sum_by promised_blocks t.sessions)) (reach_by_half t) ∙ ap (λ n. t.options.capacity - (blocks_of_births t.contents (half_reach (half_of t)) + n)) (sum_kept t.sessions)

-- a promise
pub wanted_by_half : (t : Table) (of : List Cut) (h : ℕ) → wanted_blocks_at t of h ≡ half_wanted_blocks (half_of t) of h
wanted_by_half t of h = ap (λ bs. wanted_blocks t.contents bs of) (reach_by_half (with_floor t h))

pub find_same : (p q : ℕ → Bool) (xs : List ℕ) → ((x : ℕ) → p x ≡ q x) → find p xs ≡ find q xs
find_same p q [] same = refl
find_same p q (x ∷ xs) same = ap (λ b. cond b (Some x) (find p xs)) (same x) ∙ ap (λ (o : Option ℕ). cond (q x) (Some x) o) (find_same p q xs same)

pub fits_by_half : (t : Table) (of : List Cut) (h : ℕ) → fits_at t of h ≡ nat_le (half_wanted_blocks (half_of t) of h) (half_free (half_at (half_of t) h))
fits_by_half t of h = ap (λ n. nat_le n (free_of (with_floor t h))) (wanted_by_half t of h) ∙ ap (λ n. nat_le (half_wanted_blocks (half_of t) of h) n) (free_by_half (with_floor t h))

promise_where : (t : Table) (s : ℕ) (c : Call) (of : List Cut) → IsTrue (has_session t s) → (o : Option ℕ) → Promises (own_of t s) s (half_promise_at (half_of t) s c of o) (promise_at t s c of o)
promise_where t s c of has (Some h) = record {
  own = ap (λ (x : Session). record { part = without_promise x; rows = rows_of (λ n. current_value t n) t.locks s }) (own_session t (table_with_promise t s c of h) s (record (session_of t s) { promise = Some (record { call = c; blocks = wanted_blocks_at t of h; births = found_births t.contents (reach (with_floor t h)) of }) }) has refl);
  half = half_with (with_floor t h) s (record (session_of t s) { promise = Some (record { call = c; blocks = wanted_blocks_at t of h; births = found_births t.contents (reach (with_floor t h)) of }) }) t.locks
      ∙ ap (λ (bs : List ℕ). with_kept (half_at (half_of t) h) s (record (kept_of (session_of t s)) { promise = Some (record { call = c; blocks = wanted_blocks t.contents bs of; births = found_births t.contents bs of }) })) (reach_by_half (with_floor t h))
      ∙ ap (λ (k : Kept). with_kept (half_at (half_of t) h) s (record k { promise = Some (record { call = c; blocks = half_wanted_blocks (half_of t) of h; births = found_births t.contents (half_reach (half_at (half_of t) h)) of }) })) (sym (kept_is t s));
  reply = refl;
}
promise_where t s c of has None = record {
  half = refl;
  own = refl;
  reply = ap (λ n. Some (reply.Refused (fault.NoSpace n (free_of (with_floor t (last_candidate t)))))) (wanted_by_half t of (last_candidate t))
      ∙ ap (λ n. Some (reply.Refused (fault.NoSpace (half_wanted_blocks (half_of t) of (last_candidate t)) n))) (free_by_half (with_floor t (last_candidate t)));
}

pub promise_by_half : (t : Table) (s : ℕ) (c : Call) (of : List Cut) → IsTrue (has_session t s) → Promises (own_of t s) s (half_promise (half_of t) s c of) (promise_at t s c of (find (fits_at t of) (floor_candidates t)))
promise_by_half t s c of has =
    subst (λ (o : Option ℕ). Promises (own_of t s) s (half_promise_at (half_of t) s c of o) (promise_at t s c of (find (fits_at t of) (floor_candidates t)))) (find_same (fits_at t of) (λ h. nat_le (half_wanted_blocks (half_of t) of h) (half_free (half_at (half_of t) h))) (floor_candidates t) (fits_by_half t of))
    (promise_where t s c of has (find (fits_at t of) (floor_candidates t)))

-- a cancel
pub cancel_by_half : (t : Table) (s : ℕ) → half_of (cancel t s) ≡ half_cancel (half_of t) s
cancel_by_half t s = half_with t s (record (session_of t s) { promise = None }) t.locks ∙ ap (λ (k : Kept). with_kept (half_of t) s (record k { promise = None })) (sym (kept_is t s))

pub cancel_own : (t : Table) (s : ℕ) → IsTrue (has_session t s) → own_of (cancel t s) s ≡ own_of t s
cancel_own t s has = ap (λ (x : Session). record { part = without_promise x; rows = rows_of (λ n. current_value t n) t.locks s }) (own_session t (cancel t s) s (record (session_of t s) { promise = None }) has refl)

-- a publication of a Commit
pub commit_published : (t : Table) (s : ℕ) → Asks t s → (session_of t s).is_open ≡ true
    → Agrees (own_of t s) s call.Commit (publish_commit t s (session_of t s)) (half_publish (half_of t) s (Commits (session_of t s).working) (flush_cuts t s call.Commit) (session_births (after_commit (session_of t s))))
commit_published t s asks opened =
    let p = session_of t s in
    let of = flush_cuts t s call.Commit in
    let q : Session = record (without_promise p) { working = settled_flush t s call.Commit } in
    let v = with_contents t s call.Commit in
    let u = with_commit v s q in
    let part : session_of u s ≡ after_commit q = own_session t u s (after_commit q) asks.session refl in
    rw opened (record {
      half = ap (λ (ks : List Kept). record (half_of u) { sessions = ks }) (map-set kept_of t.sessions (s - 1) (after_commit q))
          ∙ ap (λ (bs : List ℕ). record (half_of u) { contents = contents_after t.contents bs of; commits = t.commits ++ settle p.working (births_for t.contents bs of) ∷ []; sessions = slice_set (map kept_of t.sessions) (s - 1) (kept_of (after_commit q)) }) (reach_by_half t)
          ∙ ap (λ (k : Kept). record (half_of u) { contents = contents_after t.contents (half_reach (half_of t)) of; commits = t.commits ++ settle p.working (births_for t.contents (half_reach (half_of t)) of) ∷ []; sessions = slice_set (map kept_of t.sessions) (s - 1) (record k { births = session_births (after_commit p); is_open = false; promise = None }) }) (sym (kept_is t s));
      own = ap (λ (x : Session). record { part = without_promise x; rows = rows_of (λ n. current_value u n) u.locks s }) part
          ∙ ap (λ (m : Rows). record { part = without_promise (after_commit q); rows = m }) (none_locked (λ n. current_value u n) t.locks s);
      reply = refl;
    })

-- a writing call
publish_where : (t : Table) (s : ℕ) (p : Session) (c : Call) (at : List ℕ) → written_name c ≡ Some at → publish_of t s p c ≡ publish_write t s p at c
publish_where t s p call.Commit at is = absurd cc
publish_where t s p c at is = ap (λ (o : Option (List ℕ)). option_map_or {U = Table × Reply} (λ n. publish_write t s p n c) o (with_session t s (without_promise p), reply.Done)) is

pub flush_where : (t : Table) (p : Session) (c : Call) (at : List ℕ) → written_name c ≡ Some at → flush_of t p c ≡ (written_row p at, Some (result_in t p at c)) ∷ []
flush_where t p call.Commit at is = absurd cc
flush_where t p c at is = ap (λ (o : Option (List ℕ)). option_map_or {U = Rows} (λ n. (written_row p n, Some (result_in t p n c)) ∷ []) o []) is

accepted_where : (o : Own) (c : Call) (at : List ℕ) (v : Value) → written_name c ≡ Some at → after_answer o c (Given v) ≡ own_with o (after_write o.part at v) o.rows (write_reply c (old_value o.part (held_value o (own_row o at)) at))
accepted_where o (call.Delete row) at v is = absurd cc
accepted_where o (call.Lock to row) at v is = absurd cc
accepted_where o (call.Select to row) at v is = absurd cc
accepted_where o (call.SelectAsOf to row n) at v is = absurd cc
accepted_where o c at v is = ap (λ (x : Option (List ℕ)). option_map_or {U = Own × Reply} (λ n. own_with o (after_write o.part n v) o.rows (write_reply c (old_value o.part (held_value o (own_row o n)) n))) x (o, reply.Done)) is

pub write_published : (t : Table) (s : ℕ) (c : Call) (at : List ℕ) → Asks t s → written_name c ≡ Some at → holds_lock t.locks s (written_row (session_of t s) at) ≡ true
    → Agrees (own_of t s) s c (publish t s c)
    (half_publish (half_of t) s (Settles (result_in t (session_of t s) at c)) (flush_cuts t s c) (session_births (record (session_of t s) { working = without_entry (session_of t s).working (written_row (session_of t s) at); locators = without_entry (session_of t s).locators at })))
write_published t s c at asks is held =
    let p = session_of t s in
    let of = flush_cuts t s c in
    let row = written_row p at in
    let result = result_in t p at c in
    let births = births_for t.contents (reach t) of in
    let v = settle_value result (take (length (contents_of_value result)) births) in
    let flushed : settled_flush t s c ≡ (row, Some v) ∷ [] = ap (λ (m : Rows). settle m births) (flush_where t p c at is) in
    let settled : settled_result t s p at c ≡ v = ap (λ (m : Rows). unwrap_or (value_or_absent (get m row)) result) flushed ∙ rw (own_name row) refl in
    let q = after_write (without_promise p) at v in
    let u = with_contents t s c in
    let done : publish t s c ≡ (with_session u s q, write_reply c (old_value p (current_value t row) at)) = publish_where t s p c at is ∙ ap (λ (x : Value). (with_session u s (after_write (without_promise p) at x), write_reply c (old_value p (current_value t row) at))) settled in
    let value : held_value (own_of t s) row ≡ current_value t row = own_value t s row asks.rising ∙ ap (λ b. cond b (current_value t row) None) held in
    let B = session_births (record p { working = without_entry p.working row; locators = without_entry p.locators at }) in
    let told : List ℕ → Half × Answer = λ bs.
    let x = settle_value result (take (length (contents_of_value result)) (births_for t.contents bs of)) in
    (with_kept (record (half_of t) { contents = contents_after t.contents bs of }) s (record (kept_at (half_of t) s) { births = births_with B x; promise = None }), Given x) in
    let part : session_of (with_session u s q) s ≡ q = own_session t (with_session u s q) s q asks.session refl in
    let births_q : session_births q ≡ births_with B v = births_written (without_promise p) row at (written_locator (without_promise p) (locator (without_promise p) at) v) asks.ordered asks.ordered_rows in
    let accepts = accepted_where (own_of t s) c at v is in
    subst (λ bs. Agrees (own_of t s) s c (publish t s c) (told bs)) (reach_by_half t)
    (subst (λ (d : Table × Reply). Agrees (own_of t s) s c d (told (reach t))) (sym done) (record {
      half = ap (λ (ks : List Kept). record (half_of (with_session u s q)) { sessions = ks }) (map-set kept_of t.sessions (s - 1) q)
          ∙ ap (λ (bs : List ℕ). record (half_of u) { sessions = slice_set (map kept_of t.sessions) (s - 1) (record { births = bs; is_open = p.is_open; promise = None; has_ended = p.has_ended }) }) births_q
          ∙ ap (λ (k : Kept). record (half_of u) { sessions = slice_set (map kept_of t.sessions) (s - 1) (record k { births = births_with B v; promise = None }) }) (sym (kept_is t s));
      own = ap (λ (x : Session). record { part = without_promise x; rows = rows_of (λ n. current_value t n) t.locks s }) part
          ∙ sym (ap (λ (x : Own × Reply). x.0) accepts);
      reply = ap (λ (x : Option Value). write_reply c (old_value p x at)) (sym value) ∙ sym (ap (λ (x : Own × Reply). x.1) accepts);
    }))
