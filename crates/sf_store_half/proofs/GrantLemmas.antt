-- A promise that is granted: what the fields keep then.
use Rattle.std.proofs.Common.{◌≡◌, ℕ, zero, suc, ◌∷◌, ◌+◌, ◌-◌, ◌≤◌, true, cond, List, [], length, drop, Some, refl, sym, ap, subst, ◌∙◌, arith}
use Rattle.std.specs.Prelude.{◌==◌, sum_by, slice_get, slice_set, unwrap_or}
use Rattle.std.specs.List.{list_any}
use Rattle.std.proofs.lemmas.List.Sums.{sum_by-cons}
use Rattle.sf_types.specs.declared.call.Call.{Call}
use Rattle.sf_types.specs.declared.holder.Holder.{Holder}
use Rattle.sf_types.specs.declared.holder.Holder.TheVariants as holder
use Rattle.sf_types.specs.Space.Use.{content_of}
use Rattle.sf_types.specs.Halves.Asks.{Half, Kept, kept_at, new_kept, with_kept}
use Rattle.sf_types.specs.Halves.Flushes.{half_at}
use Rattle.sf_lifetimes.specs.Ledgers.{Holdings, held_by, with_births}
use Rattle.sf_retention.specs.declared.retention.Note.{Note}
use Rattle.sf_retention.specs.declared.retention.Pair.{Pair}
use Rattle.sf_retention.specs.Notes.{due_pairs}
use Rattle.sf_stock.specs.Stocks.{StockView, IsSound, with_holder, with_left_parked}
use Rattle.sf_versions.specs.VersionTables.{VersionTable, versions_of}
use Rattle.sf_store_half.specs.declared.decisions.Grant.{Grant}
use Rattle.sf_store_half.specs.declared.session_fields.SessionField.{SessionField}
use Rattle.sf_store_half.specs.Fields.{Fields, Keeps, held_in, is_session, session_field}
use Rattle.sf_store_half.specs.HalfMoves.{HasField, IsRepacked, field_at}
use Rattle.sf_store_half.specs.Inside.Fields.{AreKept, promised_blocks}
use Rattle.sf_store_half.specs.Inside.Floors.{holdings_without, stock_promised, versions_without}
use Rattle.sf_store_half.specs.Inside.Promises.{CanGrant, half_granted}
use Rattle.sf_store_half.specs.Inside.Trials.{version_of}
use Rattle.sf_store_half.proofs.BetweenLemmas.{IsBetween, all_since, between_held, between_itself, live_between, repacked_between}
use Rattle.sf_store_half.proofs.FloorLemmas.{kept_is}
use Rattle.sf_store_half.proofs.HeldLemmas.{births_promised, held_after, is_holder, promise_held_with, same_promise, same_session, session_held_with}
use Rattle.sf_store_half.proofs.RaisedKeepsLemmas.{between_without, held_raised, is_raised, notes_left, others_hold, same_holdings, same_now}
use Rattle.sf_store_half.proofs.SettledLemmas.{field_is, fields_with, has_session, promised_set}
use Rattle.sf_store_half.proofs.TriedHalfLemmas.{held_where_let_go}

-- giving births to a session and its promise, and giving up versions, are changes of holders
pub between_promised : (s : StockView) (n : ℕ) (births found : List ℕ) (ps : List Pair) → IsBetween s s → IsBetween s (stock_promised s n births found ps)
between_promised s n births found ps between =
    let first = with_holder s (holder.Session n) births in
    between_without s (with_holder first (holder.Promise n) found) ps
    (between_held s first (with_births first.holdings (holder.Promise n) found) (between_held s s (with_births s.holdings (holder.Session n) births) between))

module _ (f : Fields) (h : Half) (s floor : ℕ) (births found : List ℕ) (k : Kept) (keeps : Keeps f h) (low : h.floor ≤ floor) (high : floor ≤ length h.commits) (is : is_session h s ≡ true)
    (own_births : k.births ≡ births) (own_promise : births_promised k ≡ found) where
  abbrev due : List Pair
  due = due_pairs f.notes floor

  abbrev both : Holdings
  both = with_births (with_births f.stock.holdings (holder.Session s) births) (holder.Promise s) found

  granted_held : (x : Holder) → held_by (stock_promised f.stock s births found due).holdings x ≡ held_in (with_kept (half_at h floor) s k) x
  granted_held x = ap (λ m. held_by m x) (same_holdings (with_holder (with_holder f.stock (holder.Session s) births) (holder.Promise s) found) due) ∙ by_kind x
    where
      by_kind : (y : Holder) → held_by (holdings_without both due) y ≡ held_in (with_kept (half_at h floor) s k) y
      by_kind (holder.Version row n) =
          let y = holder.Version row n in
          held_where_let_go both due y
          ∙ ap (cond {A = List ℕ} (list_any (λ p. is_holder y (version_of p)) due) [])
          (held_after (with_births f.stock.holdings (holder.Session s) births) (holder.Promise s) found y ∙ held_after f.stock.holdings (holder.Session s) births y)
          ∙ sym (held_where_let_go f.stock.holdings due y)
          ∙ ap (λ m. held_by m y) (sym (same_holdings f.stock due))
          ∙ held_raised f h floor keeps low high y
      by_kind (holder.Session t) =
          let y = holder.Session t in
          others_hold both due y (λ row n. refl)
          ∙ held_after (with_births f.stock.holdings (holder.Session s) births) (holder.Promise s) found y
          ∙ held_after f.stock.holdings (holder.Session s) births y
          ∙ ap (λ u. cond {A = List ℕ} u births (held_by f.stock.holdings y)) (same_session t s)
          ∙ ap (λ bs. cond {A = List ℕ} (t == s) births bs) (keeps.held y)
          ∙ ap (λ bs. cond {A = List ℕ} (t == s) bs (held_in h y)) (sym own_births)
          ∙ sym (session_held_with (half_at h floor) s k t is)
      by_kind (holder.Promise t) =
          let y = holder.Promise t in
          others_hold both due y (λ row n. refl)
          ∙ held_after (with_births f.stock.holdings (holder.Session s) births) (holder.Promise s) found y
          ∙ ap (λ u. cond {A = List ℕ} u found (held_by (with_births f.stock.holdings (holder.Session s) births) y)) (same_promise t s)
          ∙ ap (λ bs. cond {A = List ℕ} (t == s) found bs) (held_after f.stock.holdings (holder.Session s) births y ∙ keeps.held y)
          ∙ ap (λ bs. cond {A = List ℕ} (t == s) bs (held_in h y)) (sym own_promise)
          ∙ sym (promise_held_with (half_at h floor) s k t is)

  -- the fields keep the half in which the promise stands
  pub granted_keeps : IsSound f.stock → (versions : VersionTable) (notes : List Note) (sessions : List SessionField) (stock : StockView) → versions ≡ versions_without f.versions due
      → notes ≡ drop (length due) f.notes → sessions ≡ slice_set f.sessions (s - 1) (session_field k) → stock ≡ with_left_parked (stock_promised f.stock s births found due)
      → Keeps (record f { versions = versions; notes = notes; floor = floor; sessions = sessions; stock = stock }) (with_kept (half_at h floor) s k)
  granted_keeps sound versions notes sessions stock same_versions same_notes same_sessions same_stock =
      let between = between_promised f.stock s births found due (between_itself f.stock keeps.none_left sound keeps.live) in
      let now = stock_promised f.stock s births found due in
      subst (λ (v : StockView). Keeps (record f { versions = versions; notes = notes; floor = floor; sessions = sessions; stock = v }) (with_kept (half_at h floor) s k)) (sym same_stock) (record {
        options = keeps.options;
        locks = keeps.locks;
        floor = refl;
        sessions = same_sessions ∙ fields_with f h s k keeps;
        now = ap (λ (t : VersionTable). t.now) same_versions ∙ same_now f.versions due ∙ keeps.now;
        commits = keeps.commits;
        rows = λ row. ap (λ (t : VersionTable). versions_of t.rows row) same_versions ∙ (is_raised f h floor keeps low high).rows row ∙ sym (kept_is (half_at h floor) row high);
        notes = same_notes ∙ notes_left f h floor keeps low high;
        next = between.next ∙ keeps.next;
        held = granted_held;
        live = live_between f.stock now between;
        contents = all_since (λ x. content_of h.contents x.birth ≡ Some x.content) f.stock now between.since keeps.contents;
        none_left = refl;
      })

-- ---- of a grant
abbrev pub kept_granted : Half → ℕ → List ℕ → Call → Grant → Kept
kept_granted h s births call grant =
    record (kept_at h s) { births = births; promise = Some (record { call = call; blocks = grant.wanted; births = grant.found }) }

abbrev pub sessions_granted : List SessionField → ℕ → Call → ℕ → List SessionField
sessions_granted xs s call blocks = slice_set xs (s - 1) (record (unwrap_or (slice_get xs (s - 1)) (session_field new_kept)) { promise = Some (record { call = call; blocks = blocks }) })

pub keeps_granted : (f : Fields) (h : Half) (s : ℕ) (births : List ℕ) (call : Call) (grant : Grant) (versions : VersionTable) (notes : List Note) (sessions : List SessionField) (stock : StockView)
    → Keeps f h → HasField f s → CanGrant f s births grant → IsSound f.stock → versions ≡ versions_without f.versions grant.due → notes ≡ drop (length grant.due) f.notes
    → sessions ≡ sessions_granted f.sessions s call grant.wanted → stock ≡ with_left_parked (stock_promised f.stock s births grant.found grant.due)
    → Keeps (record f { versions = versions; notes = notes; floor = grant.floor; sessions = sessions; stock = stock }) (half_granted h s births call grant)
keeps_granted f h s births call grant versions notes sessions stock keeps has can sound same_versions same_notes same_sessions same_stock =
    let k = kept_granted h s births call grant in
    granted_keeps f h s grant.floor births grant.found k keeps (omega (arith, keeps.floor, can.low)) (omega (arith, keeps.now, can.high)) (has_session f h s keeps has) refl refl sound versions notes sessions stock
    (same_versions ∙ ap (versions_without f.versions) can.due)
    (same_notes ∙ ap (λ (ps : List Pair). drop (length ps) f.notes) can.due)
    (same_sessions ∙ ap (λ (x : SessionField). slice_set f.sessions (s - 1) (record x { promise = Some (record { call = call; blocks = grant.wanted }) })) (field_is f h s keeps))
    (same_stock ∙ ap (λ ps. with_left_parked (stock_promised f.stock s births grant.found ps)) can.due)

-- a session's promised blocks are among all
pub own_part : (xs : List SessionField) (i : ℕ) → promised_blocks (unwrap_or (slice_get xs i) (session_field new_kept)) ≤ sum_by promised_blocks xs
own_part [] i = omega arith
own_part (x ∷ xs) zero = omega (arith, sum_by-cons promised_blocks x xs)
own_part (x ∷ xs) (suc i) = omega (arith, sum_by-cons promised_blocks x xs, own_part xs i)

pub still_kept : (f : Fields) (promised s : ℕ) (births : List ℕ) (call : Call) (grant : Grant) (versions : VersionTable) (notes : List Note) (sessions : List SessionField) (stock : StockView)
    → AreKept f promised → HasField f s → CanGrant f s births grant → IsSound f.stock → versions ≡ versions_without f.versions grant.due → notes ≡ drop (length grant.due) f.notes
    → sessions ≡ sessions_granted f.sessions s call grant.wanted → stock ≡ with_left_parked (stock_promised f.stock s births grant.found grant.due)
    → AreKept (record f { versions = versions; notes = notes; floor = grant.floor; sessions = sessions; stock = stock }) (promised - promised_blocks (field_at f s) + grant.wanted)
still_kept f promised s births call grant versions notes sessions stock kept has can sound same_versions same_notes same_sessions same_stock =
    let field = field_at f s in
    let set = promised_set f.sessions (s - 1) (session_field new_kept) (record field { promise = Some (record { call = call; blocks = grant.wanted }) }) (omega (arith, has.low, has.high)) in
    let after : sum_by promised_blocks sessions + promised_blocks field ≡ sum_by promised_blocks f.sessions + grant.wanted = ap (λ xs. sum_by promised_blocks xs + promised_blocks field) same_sessions ∙ set in
    let counted_before = kept.count in
    let fits = can.fits in
    let own : promised_blocks field ≤ sum_by promised_blocks f.sessions = own_part f.sessions (s - 1) in
    let counted : promised - promised_blocks field + grant.wanted ≡ sum_by promised_blocks sessions = omega (arith, after, counted_before, own) in
    record {
      in_range = kept.in_range;
      reached = omega (arith, can.high, ap (λ (t : VersionTable). t.now) same_versions, same_now f.versions grant.due);
      count = counted;
      few = omega (arith, counted_before, counted, fits, own);
      half = half_granted kept.half s births call grant;
      keeps = keeps_granted f kept.half s births call grant versions notes sessions stock kept.keeps has can sound same_versions same_notes same_sessions same_stock;
    }

pub repacked_granted : (before now : StockView) (s : ℕ) (births found : List ℕ) (ps : List Pair) → IsBetween before before → IsSound (stock_promised before s births found ps)
    → now ≡ with_left_parked (stock_promised before s births found ps) → IsRepacked before now []
repacked_granted before now s births found ps between sound is =
    subst (λ (x : StockView). IsRepacked before x []) (sym is) (repacked_between before (stock_promised before s births found ps) (between_promised before s births found ps between) sound)
