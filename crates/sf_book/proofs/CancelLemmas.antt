-- A cancel: a session for which a promise stands goes on, and one promise less stands behind it.
use Rattle.std.proofs.Common.{◌≡◌, ℕ, zero, suc, ◌+◌, ◌-◌, ◌≤◌, ◌<◌, true, false, cond, ◌&&◌, IsTrue, List, [], ◌∷◌, length, map, replicate, Option, Some, None, refl, sym, ap, subst, ◌∙◌, arith, length-set}
use Rattle.std.specs.Prelude.{nat_le, ◌==◌, filter, slice_get, slice_set, unwrap_or, is_some, Contains}
use Rattle.std.specs.Option.{IfSome, IsSome, option_map}
use Rattle.sf_types.specs.declared.call.Call.{Call}
use Rattle.sf_types.specs.declared.history.Entry.{Entry}
use Rattle.sf_types.specs.declared.history.Kind.TheVariants as kind
use Rattle.sf_types.specs.declared.options.Options.{Options}
use Rattle.sf_types.specs.Table.Parts.{Promise, Session, Table, new_session, opening_table}
use Rattle.sf_types.specs.Table.Sessions.{has_session, session_of}
use Rattle.sf_types.specs.Calls.Steps.{step}
use Rattle.sf_types.specs.Space.Publications.{publish}
use Rattle.sf_types.specs.Space.Promises.{table_with_promise, flush_cuts, cancel}
use Rattle.sf_types.specs.Space.Reach.{reach}
use Rattle.sf_types.specs.Orders.Histories.{IsLegal, IsLegalHistory, effect_of, entry_of, table_after, history_table}
use Rattle.sf_types.specs.Halves.Asks.{half_of, kept_of, new_kept}
use Rattle.sf_types.specs.Halves.Flushes.{half_cancel}
use Rattle.sf_types.proofs.NumberLemmas.{same_number, not_same, one_less}
use Rattle.sf_stock.specs.Stocks as stock
use Rattle.sf_laws.proofs.ChangeLemmas.{step_changed, publish_changed}
use Rattle.sf_laws.proofs.EachLemmas.{each_itself}
use Rattle.sf_laws.proofs.EntryCaseLemmas.{by_entry_cases}
use Rattle.sf_laws.proofs.FlushLemmas.{cancel_by_half}
use Rattle.sf_laws.proofs.PromiseLemmas.{own_session, other_session}
use Rattle.sf_laws.proofs.ReachStepLemmas.{reach_cancelled}
use Rattle.sf_laws.proofs.TurnMoveLemmas.{Quiet}
use Rattle.sf_store_half.specs.declared.session_fields.Promised.{Promised}
use Rattle.sf_store_half.specs.declared.session_fields.SessionField.{SessionField}
use Rattle.sf_store_half.specs.Fields.{Fields, Keeps, session_field}
use Rattle.sf_store_half.specs.HalfMoves.{IsRepacked, field_at}
use Rattle.sf_book.specs.Books.{table_of, IsSound}
use Rattle.sf_book.specs.Inside.Bodies.{book_of, promise_count}
use Rattle.sf_book.proofs.QuietLemmas.{IsNext, next_quietly}

-- Each session for which a promise stands goes on.
abbrev pub GoesOnPromised : Session → Type 0
GoesOnPromised p = IfSome p.promise (λ q. p.has_ended ≡ false)

abbrev pub PromisedGoOn : Table → Type 0
PromisedGoOn t = (s : ℕ) → IsTrue (has_session t s) → GoesOnPromised (session_of t s)

free_goes : (p : Session) → p.promise ≡ None → GoesOnPromised p
free_goes p none = subst (λ (o : Option Promise). IfSome o (λ q. p.has_ended ≡ false)) (sym none) tt

going_goes : (p : Session) → p.has_ended ≡ false → GoesOnPromised p
going_goes p going = go p.promise
  where
    go : (o : Option Promise) → IfSome o (λ q. p.has_ended ≡ false)
    go None = tt
    go (Some q) = going

with_part : (t u : Table) (s : ℕ) (part : Session) → IsTrue (has_session t s) → u.sessions ≡ slice_set t.sessions (s - 1) part → GoesOnPromised part → PromisedGoOn t → PromisedGoOn u
with_part t u s part has sessions goes all r there =
    let count : length u.sessions ≡ length t.sessions = ap (λ (xs : List Session). length xs) sessions ∙ length-set t.sessions (s - 1) part in
    let has_r : IsTrue (has_session t r) = subst (λ n. IsTrue (nat_le 1 r && nat_le r n)) count there in
    elim (r == s) as (λ b. (r == s) ≡ b → GoesOnPromised (session_of u r)) [
      | true ↦ λ is. subst (λ n. GoesOnPromised (session_of u n)) (sym (same_number r s is)) (subst GoesOnPromised (sym (own_session t u s part has sessions)) goes)
      | false ↦ λ is. subst GoesOnPromised (sym (other_session t u s r part has has_r (not_same r s is) sessions)) (all r has_r)
    ] refl

entry_goes : (t : Table) (e : Entry) → IsLegal t e.token.session e.token.kind e.call → PromisedGoOn t → PromisedGoOn (effect_of t e).0
entry_goes t e legal all =
    let s = e.token.session in
    by_entry_cases t s e.token.kind e.call PromisedGoOn legal (record {
      stepped = λ none due. let changed = step_changed t s e.call legal.session in with_part t (step t s e.call).0 s changed.part legal.session changed.sessions (free_goes changed.part (changed.promised ∙ none)) all;
      published = λ q is same. let changed = publish_changed t s e.call in with_part t (publish t s e.call).0 s changed.part legal.session changed.sessions (free_goes changed.part changed.promised) all;
      refused = all;
      granted = λ none due h le fits. with_part t (table_with_promise t s e.call (flush_cuts t s e.call) h) s _ legal.session refl legal.goes_on all;
      cancelled = λ q is. with_part t (cancel t s) s _ legal.session refl tt all;
    })

run_goes : (t : Table) (es : List Entry) → IsLegalHistory t es → PromisedGoOn t → PromisedGoOn (table_after t es)
run_goes t [] legal all = all
run_goes t (e ∷ es) legal all = run_goes (effect_of t e).0 es legal.1 (entry_goes t e legal.0 all)

new_goes : (n i : ℕ) → GoesOnPromised (unwrap_or (slice_get (replicate n new_session) i) new_session)
new_goes zero i = tt
new_goes (suc n) zero = tt
new_goes (suc n) (suc i) = new_goes n i

pub promised_goes_on : (options : Options) (sessions : ℕ) (history : List Entry) → IsLegalHistory (opening_table options sessions) history → PromisedGoOn (history_table options sessions history)
promised_goes_on options sessions history legal = run_goes (opening_table options sessions) history legal (λ s there. new_goes sessions (s - 1))

-- what the fields have of a session
get_map : {X Y : Type 0} (f : X → Y) (xs : List X) (i : ℕ) (d : X) → unwrap_or (slice_get (map f xs) i) (f d) ≡ f (unwrap_or (slice_get xs i) d)
get_map f [] i d = refl
get_map f (x ∷ xs) zero d = refl
get_map f (x ∷ xs) (suc i) d = get_map f xs i d

abbrev pub field_of : Session → SessionField
field_of p = session_field (kept_of p)

pub fields_of : (sessions : List Session) → map session_field (map kept_of sessions) ≡ map field_of sessions
fields_of [] = refl
fields_of (p ∷ ps) = ap (λ (xs : List SessionField). field_of p ∷ xs) (fields_of ps)

pub field_is : (f : Fields) (t : Table) (s : ℕ) → Keeps f (half_of t) → field_at f s ≡ field_of (session_of t s)
field_is f t s keeps =
    ap (λ (xs : List SessionField). unwrap_or (slice_get xs (s - 1)) (session_field new_kept)) (keeps.sessions ∙ fields_of t.sessions)
    ∙ get_map field_of t.sessions (s - 1) new_session

-- one promise less
count_with : (p : Session) (ps : List SessionField) → (q : Promise) → p.promise ≡ Some q → length (filter (λ field. is_some field.promise) (field_of p ∷ ps)) ≡ length (filter (λ field. is_some field.promise) ps) + 1
count_with p ps q is =
    subst (λ (o : Option Promise). length (cond (is_some (option_map {U = Promised} (λ x. record { call = x.call; blocks = x.blocks }) o)) (field_of p ∷ filter (λ field. is_some field.promise) ps) (filter (λ field. is_some field.promise) ps)) ≡ length (filter (λ field. is_some field.promise) ps) + 1) (sym is)
    (let one : suc (length (filter (λ (field : SessionField). is_some field.promise) ps)) ≡ length (filter (λ (field : SessionField). is_some field.promise) ps) + 1 = omega arith in one)

one_less_promised : (ps : List Session) (i : ℕ) (q : Promise) → i < length ps → (unwrap_or (slice_get ps i) new_session).promise ≡ Some q
    → promise_count (map field_of (slice_set ps i (record (unwrap_or (slice_get ps i) new_session) { promise = None }))) + 1 ≡ promise_count (map field_of ps)
one_less_promised [] i q lt is = absurd (omega (arith, lt))
one_less_promised (p ∷ ps) zero q lt is = sym (count_with p (map field_of ps) q is)
one_less_promised (p ∷ ps) (suc i) q lt is =
    let rest = one_less_promised ps i q (omega (arith, lt)) is in
    elim (is_some (field_of p).promise) as (λ b. length (cond b (field_of p ∷ filter (λ field. is_some field.promise) (map field_of (slice_set ps i (record (unwrap_or (slice_get ps i) new_session) { promise = None }))))
    (filter (λ field. is_some field.promise) (map field_of (slice_set ps i (record (unwrap_or (slice_get ps i) new_session) { promise = None }))))) + 1
    ≡ length (cond b (field_of p ∷ filter (λ field. is_some field.promise) (map field_of ps)) (filter (λ field. is_some field.promise) (map field_of ps)))) [
      | true ↦ omega (arith, rest)
      | false ↦ rest
    ]

-- Where a Book is after the cancel of a promise.
pub record IsCancelled (f : Fields) (history : List Entry) (after : Fields) (s : ℕ) (q : Promise) : Type 0 where
  pub next : IsNext f history after (entry_of s kind.Cancel q.call ∷ []) []
  pub count : promise_count after.sessions + 1 ≡ promise_count f.sessions

pub cancelled : (f : Fields) (history : List Entry) (after : Fields) (s : ℕ) (q : Promise) → IsSound (book_of f history) → Keeps f (half_of (table_of (book_of f history))) → IsTrue (has_session (table_of (book_of f history)) s)
    → (session_of (table_of (book_of f history)) s).promise ≡ Some q → Keeps after (half_cancel (half_of (table_of (book_of f history))) s) → stock.IsSound after.stock → IsRepacked f.stock after.stock []
    → IsCancelled f history after s q
cancelled f history after s q sound keeps has is kept stocked repacked =
    let t = table_of (book_of f history) in
    let u = cancel t s in
    let goes : (session_of t s).has_ended ≡ false = subst (λ (o : Option Promise). IfSome o (λ x. (session_of t s).has_ended ≡ false)) is (promised_goes_on f.options (length f.sessions) history sound.legal s has) in
    let legal : IsLegal t s kind.Cancel q.call = record { session = has; goes_on = goes; standing = rw is refl } in
    let quiet : Quiet t s u = record {
      fewer = reach_cancelled (Contains (reach t)) t s (each_itself (reach t));
      contents = refl;
      leaves = record {
        options = refl;
        sessions = length-set t.sessions (s - 1) _;
        others = λ r there apart. ap (λ (p : Session). p.promise) (other_session t u s r _ has there apart refl);
      };
    } in
    let own : Keeps after (half_of u) = subst (Keeps after) (sym (cancel_by_half t s)) kept in
    record {
      next = next_quietly f history after s (entry_of s kind.Cancel q.call ∷ []) sound keeps (legal, tt) quiet own stocked repacked;
      count = ap (λ (xs : List SessionField). promise_count xs + 1) (own.sessions ∙ fields_of u.sessions)
          ∙ one_less_promised t.sessions (s - 1) q (one_less s (length t.sessions) has) is
          ∙ ap promise_count (sym (keeps.sessions ∙ fields_of t.sessions));
    }

-- the promise that stands
pub standing : (o : Option Promise) → IsSome o → (q : Promise) × (o ≡ Some q)
standing None some = absurd cc
standing (Some q) some = (q, refl)

pub field_promised : (f : Fields) (t : Table) (s : ℕ) → Keeps f (half_of t) → IsSome (session_of t s).promise → IsSome (field_at f s).promise
field_promised f t s keeps some = subst (λ (x : SessionField). IsSome x.promise) (sym (field_is f t s keeps)) (go (session_of t s).promise some)
  where
    go : (o : Option Promise) → IsSome o → IsSome (option_map {U = Promised} (λ x. record { call = x.call; blocks = x.blocks }) o)
    go None none = absurd cc
    go (Some q) is = refl

pub call_of_field : (f : Fields) (t : Table) (s : ℕ) (q : Promise) (c : Call) → Keeps f (half_of t) → (session_of t s).promise ≡ Some q → IfSome (field_at f s).promise (λ promised. c ≡ promised.call) → c ≡ q.call
call_of_field f t s q c keeps is told =
    subst (λ (o : Option Promise). IfSome (option_map {U = Promised} (λ x. record { call = x.call; blocks = x.blocks }) o) (λ promised. c ≡ promised.call)) is
    (subst (λ (x : SessionField). IfSome x.promise (λ promised. c ≡ promised.call)) (field_is f t s keeps) told)

pub one_stands : (f : Fields) (t : Table) (s : ℕ) → Keeps f (half_of t) → IsTrue (has_session t s) → IsSome (session_of t s).promise → 1 ≤ promise_count f.sessions
one_stands f t s keeps has some =
    let (q, is) = standing (session_of t s).promise some in
    let less = one_less_promised t.sessions (s - 1) q (one_less s (length t.sessions) has) is in
    let same : promise_count f.sessions ≡ promise_count (map field_of t.sessions) = ap promise_count (keeps.sessions ∙ fields_of t.sessions) in
    omega (arith, less, same)
