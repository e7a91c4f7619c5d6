-- The replies of a history, by what the store's half answers.
use Rattle.std.proofs.Common.{◌≡◌, ℕ, Bool, true, false, IsTrue, List, [], ◌∷◌, ◌++◌, length, Option, Some, sym, ap, subst, ◌∙◌}
use Rattle.std.specs.Option.{IfSome}
use Rattle.sf_types.specs.declared.call.Call.{Call}
use Rattle.sf_types.specs.declared.history.Entry.{Entry}
use Rattle.sf_types.specs.declared.history.Kind.TheVariants as kind
use Rattle.sf_types.specs.declared.options.Options.{Options}
use Rattle.sf_types.specs.declared.reply.Reply.{Reply}
use Rattle.sf_types.specs.Table.Parts.{Promise, Table, opening_table}
use Rattle.sf_types.specs.Table.Sessions.{has_session, session_of}
use Rattle.sf_types.specs.Calls.Steps.{step}
use Rattle.sf_types.specs.Space.Cuts.{Cut, cuts}
use Rattle.sf_types.specs.Space.Due.{is_due}
use Rattle.sf_types.specs.Space.Promises.{flush_cuts}
use Rattle.sf_types.specs.Space.Publications.{publish}
use Rattle.sf_types.specs.Orders.Histories.{IsLegalHistory, call_effect, call_entries, effect_of, entry_of, history_table}
use Rattle.sf_types.specs.Halves.Own.{Own, is_event, own_due, own_of}
use Rattle.sf_types.specs.Halves.Asks.{after_answer, half_answer, half_of, kept_births, request_of}
use Rattle.sf_types.specs.Halves.Flushes.{half_promise, half_publish, own_flush, refusal_of}
use Rattle.sf_versions.specs.declared.asks.Batch.{Batch}
use Rattle.sf_laws.specs.Halves.{Agrees}
use Rattle.sf_laws.specs.UseWithinCapacity.{IsEnough}
use Rattle.sf_laws.proofs.FlushLemmas.{promise_by_half}
use Rattle.sf_laws.proofs.HalfLemmas.{asks_after, event_law, stands_where}
use Rattle.sf_laws.proofs.OwnLemmas.{due_by_own}
use Rattle.sf_laws.proofs.OwnRunLemmas.{legal-joined, run-append, shape_after, stands_after}
use Rattle.sf_laws.proofs.PublicationLemmas.{cuts_by_own, publication_by_half}
use Rattle.sf_laws.proofs.StageLemmas.{IsBehind, is_behind}
use Rattle.sf_book.specs.Books.{BookView, IsSound, table_of}
use Rattle.sf_book.specs.Moves.{IsBatch, Stands, own_with_batch, table_with_batch}
use Rattle.sf_book.proofs.CancelLemmas.{standing}

behind_calls : (b : BookView) (s : ℕ) (batch : Batch) → IsSound b → IsBatch (table_of b) s batch → IsBehind (table_of b) s batch.calls
behind_calls b s batch sound is = is_behind (table_of b) s batch.calls is.session (stands_where b.options b.sessions b.history sound.legal) is.may.goes_on is.may.unpromised is.local

pub event_reply : (b : BookView) (s : ℕ) (batch : Batch) (c : Call) → IsSound b → IsBatch (table_of b) s batch → is_event c ≡ true
    → (effect_of (table_with_batch (table_of b) s batch) (entry_of s kind.Call c)).1
    ≡ Some (after_answer (own_with_batch (table_of b) s batch) c (half_answer (half_of (table_with_batch (table_of b) s batch)) s c (request_of (own_with_batch (table_of b) s batch) c) (kept_births (own_with_batch (table_of b) s batch) c)).1).1
event_reply b s batch c sound is event =
    let t = table_of b in
    let calls = call_entries s batch.calls in
    let u = table_with_batch t s batch in
    let opening = opening_table b.options b.sessions in
    let behind = behind_calls b s batch sound is in
    let whole : history_table b.options b.sessions (b.history ++ calls) ≡ u = run-append opening b.history calls in
    let run : IsLegalHistory opening (b.history ++ calls) = legal-joined opening b.history calls sound.legal behind.legal in
    let agrees : Agrees (own_of u s) s c (step u s c) (half_answer (half_of u) s c (request_of (own_of u s) c) (kept_births (own_of u s) c)) =
    subst (λ (x : Table). Agrees (own_of x s) s c (step x s c) (half_answer (half_of x) s c (request_of (own_of x s) c) (kept_births (own_of x s) c))) whole
    (event_law b.options b.sessions s (b.history ++ calls) c run (subst (λ (x : Table). IsTrue (has_session x s)) (sym whole) behind.session) event) in
    ap (λ (p : Option Promise). Some (call_effect p u s c).1) behind.calls.free
    ∙ ap (λ (r : Reply). Some r) agrees.reply
    ∙ ap (λ (o : Own). Some (after_answer o c (half_answer (half_of u) s c (request_of o c) (kept_births o c)).1).1) behind.own

pub promise_reply : (b : BookView) (s : ℕ) (batch : Batch) (c : Call) → IsSound b → IsBatch (table_of b) s batch → own_due b.options.gather (own_with_batch (table_of b) s batch) c ≡ true
    → (effect_of (table_with_batch (table_of b) s batch) (entry_of s kind.Promise c)).1
    ≡ refusal_of (half_promise (half_of (table_with_batch (table_of b) s batch)) s c (cuts b.options (own_flush (own_with_batch (table_of b) s batch) c))).1
promise_reply b s batch c sound is due =
    let t = table_of b in
    let calls = call_entries s batch.calls in
    let u = table_with_batch t s batch in
    let behind = behind_calls b s batch sound is in
    let stands = stands_where b.options b.sessions b.history sound.legal in
    let rising = (stands_after t calls behind.legal stands).rising in
    let options : u.options ≡ t.options = (shape_after t calls behind.legal).1 in
    let was : t.options ≡ b.options = (shape_after (opening_table b.options b.sessions) b.history sound.legal).1 in
    let is_due : is_due u s c ≡ true =
    due_by_own u s c rising ∙ ap (λ (x : Own). own_due u.options.gather x c) behind.own ∙ ap (λ (o : Options). own_due o.gather (own_with_batch t s batch) c) (options ∙ was) ∙ due in
    let of : cuts b.options (own_flush (own_with_batch t s batch) c) ≡ flush_cuts u s c =
    ap (λ (x : Own). cuts b.options (own_flush x c)) (sym behind.own) ∙ ap (λ (o : Options). cuts o (own_flush (own_of u s) c)) (sym (options ∙ was)) ∙ cuts_by_own u s c rising is_due in
    (promise_by_half u s c (flush_cuts u s c) behind.session).reply ∙ ap (λ (xs : List Cut). refusal_of (half_promise (half_of u) s c xs).1) (sym of)

pub publication_reply : (b : BookView) (s : ℕ) (c : Call) (blocks : ℕ) → IsSound b → Stands (table_of b) s c blocks
    → (effect_of (table_of b) (entry_of s kind.Call c)).1
    ≡ Some (after_answer (own_of (table_of b) s) c (half_publish (half_of (table_of b)) s (request_of (own_of (table_of b) s) c) (cuts b.options (own_flush (own_of (table_of b) s) c)) (kept_births (own_of (table_of b) s) c)).1).1
publication_reply b s c blocks sound stands =
    let t = table_of b in
    let o = own_of t s in
    let (q, is) = standing (session_of t s).promise stands.some in
    let same : q.call ≡ c = (subst (λ (x : Option Promise). IfSome x (λ promise. (promise.call ≡ c) × (promise.blocks ≡ blocks))) is stands.promised).0 in
    let enough : IsEnough t s q = subst (λ (x : Option Promise). IfSome x (IsEnough t s)) is ((stands_where b.options b.sessions b.history sound.legal).within.promises s stands.session) in
    let agrees = publication_by_half t s c (asks_after b.options b.sessions s b.history sound.legal stands.session) (subst (λ d. is_due t s d ≡ true) same enough.due) in
    let options : t.options ≡ b.options = (shape_after (opening_table b.options b.sessions) b.history sound.legal).1 in
    ap (λ (p : Option Promise). Some (call_effect p t s c).1) is
    ∙ ap (λ (r : Reply). Some r) agrees.reply
    ∙ ap (λ (x : Options). Some (after_answer o c (half_publish (half_of t) s (request_of o c) (cuts x (own_flush o c)) (kept_births o c)).1).1) options
