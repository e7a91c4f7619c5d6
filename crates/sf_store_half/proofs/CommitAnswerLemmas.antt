-- The answer to a commit of an open transaction.
use Rattle.std.proofs.Common.{◌≡◌, ℕ, ◌+◌, ◌-◌, ◌≤◌, zero, suc, Bool, true, false, cond, ◌&&◌, List, [], ◌∷◌, ◌++◌, length, drop, Option, Some, None, refl, sym, ap, subst, ◌∙◌, arith}
use Rattle.std.specs.Prelude.{All, filter, flat_map, nat_le, not, slice_index_or}
use Rattle.std.specs.List.{AllByRecursion as Each}
use Rattle.std.specs.List.Sorted.{IsStrictlySortedBy}
use Rattle.std.specs.Map.{keys_of}
use Rattle.std.specs.Option.{option_map_or}
use Rattle.std.specs.Ordering.{eq_by_cmp, nat_cmp}
use Rattle.std.proofs.lemmas.List.{length-append}
use Rattle.std.proofs.lemmas.List.Elements.{All-from_recursion, recursion_from_All}
use Rattle.sf_types.specs.declared.call.Call.TheVariants as call
use Rattle.sf_types.specs.declared.holder.Holder.{Holder}
use Rattle.sf_types.specs.declared.holder.Holder.TheVariants as holder
use Rattle.sf_types.specs.Inside.Holders.{holder_cmp, holder_cmp-IsAntisymmetric}
use Rattle.sf_types.specs.Inside.NameMaps.{NameMap, get, is_same_name}
use Rattle.sf_types.specs.Values.Marks.{Value, births_in}
use Rattle.sf_types.specs.Values.Names.{name_cmp}
use Rattle.sf_types.specs.Table.Parts.{Rows}
use Rattle.sf_types.specs.Table.Sessions.{without_locks}
use Rattle.sf_types.specs.Table.Versions.{value_or_absent}
use Rattle.sf_types.specs.Space.Reach.{is_kept, values_in}
use Rattle.sf_types.specs.Calls.TransactionEnds.{floor_after}
use Rattle.sf_types.specs.Halves.Asks.{Half, Kept, half_answer, kept_at, with_kept}
use Rattle.sf_types.specs.Halves.Asks as rule
use Rattle.sf_types.specs.Halves.Flushes.{table_of_half}
use Rattle.sf_types.proofs.NameMapLemmas.{IsRisingMap, equal, rising_from_ordered, same_name}
use Rattle.sf_laws.proofs.RisingLockLemmas.{rising_head}
use Rattle.sf_laws.proofs.EachLemmas.{each_left, each_right, each-append, each-filter}
use Rattle.sf_lifetimes.specs.Ledgers.{Holdings, has_birth, held_by, is_live, with_births}
use Rattle.sf_retention.specs.declared.retention.Note.{Note}
use Rattle.sf_retention.specs.declared.retention.Pair.{Pair}
use Rattle.sf_retention.specs.Notes.{due_pairs}
use Rattle.sf_stock.specs.Stocks.{IsSound, StockView, Stocked, has_left, is_stocked, with_holder, with_left_parked}
use Rattle.sf_versions.specs.VersionTables.{VersionTable, after_commit}
use Rattle.sf_store_half.specs.declared.commits.CommitPlan.{CommitPlan}
use Rattle.sf_store_half.specs.declared.commits.RowBirths.{RowBirths}
use Rattle.sf_store_half.specs.declared.session_fields.SessionField.{SessionField}
use Rattle.sf_store_half.specs.Fields.{Fields, Keeps, held_in, is_session, notes_of}
use Rattle.sf_store_half.specs.HalfMoves.{AreStocked, IsRepacked}
use Rattle.sf_store_half.specs.Inside.Commits.{CanHold, IsPlan, births_of_change, displaced_notes, holdings_with, row_births, stock_with}
use Rattle.sf_store_half.specs.Inside.Floors.{AreDisplaced, holdings_without, stock_without, versions_without}
use Rattle.sf_store_half.proofs.BetweenLemmas.{IsBetween, between_held, between_itself, repacked_between}
use Rattle.sf_store_half.proofs.CommitKeepsLemmas.{committed_keeps, displaced_then, due_then, floor_then, held_after_commit, high, hold_then, holdings_then, notes_then, versions_then}
use Rattle.sf_store_half.proofs.GivenUpLemmas.{version_is}
use Rattle.sf_store_half.proofs.HeldReachLemmas.{each_found}
use Rattle.sf_store_half.proofs.LiveLemmas.{holder_live, none_holds}
use Rattle.sf_store_half.proofs.HeldLemmas.{held_after, is_holder}
use Rattle.sf_store_half.proofs.NoteLemmas.{each_made, each_note, is_noted, notes_between}
use Rattle.sf_store_half.proofs.RaisedKeepsLemmas.{between_without, same_holdings, same_now}
use Rattle.sf_store_half.proofs.SetLemmas.{set_is, set_to}
use Rattle.sf_store_half.proofs.SettledLemmas.{settled_held}

-- ---- what the versions of a commit hold in a stock
between_with : (before s : StockView) (number : ℕ) (xs : List RowBirths) → IsBetween before s → IsBetween before (stock_with s number xs)
between_with before s number [] between = between
between_with before s number (x ∷ xs) between = between_with before (with_holder s (holder.Version x.row number) x.births) number xs (between_held before s (with_births s.holdings (holder.Version x.row number) x.births) between)

pub same_holdings_with : (s : StockView) (number : ℕ) (xs : List RowBirths) → (stock_with s number xs).holdings ≡ holdings_with s.holdings number xs
same_holdings_with s number [] = refl
same_holdings_with s number (x ∷ xs) = same_holdings_with (with_holder s (holder.Version x.row number) x.births) number xs

others_with : (m : Holdings) (number : ℕ) (xs : List RowBirths) (x : Holder) → ((row : List ℕ) (n : ℕ) → is_holder x (holder.Version row n) ≡ false) → held_by (holdings_with m number xs) x ≡ held_by m x
others_with m number [] x apart = refl
others_with m number (y ∷ ys) x apart =
    others_with (with_births m (holder.Version y.row number) y.births) number ys x apart
    ∙ held_after m (holder.Version y.row number) y.births x
    ∙ ap (λ t. cond {A = List ℕ} t y.births (held_by m x)) (apart y.row number)

-- ---- what a commit asks of the fields
until_between : (commits : List Rows) (first count most : ℕ) → first + count ≤ most + 1 → Each (λ note. note.until ≤ most) (notes_between commits first count)
until_between commits first zero most within = tt
until_between commits first (suc count) most within =
    each-append (λ note. note.until ≤ most) _ (notes_between commits (first + 1) count)
    (each_note (λ note. note.until ≡ first) (λ note. note.until ≤ most) _ (λ note is. omega (arith, is, within)) (each_made commits first (slice_index_or commits (first - 1) [])))
    (until_between commits (first + 1) count most (omega (arith, within)))

pub notes_until : (f : Fields) (h : Half) (number : ℕ) → Keeps f h → number ≡ f.versions.now + 1 → All (λ note. note.until ≤ number) f.notes
notes_until f h number keeps is =
    let now = keeps.now in
    let n = length h.commits in
    let all : Each (λ note. note.until ≤ number) (notes_of h) = each-filter (λ note. note.until ≤ number) (is_noted h.floor) (notes_between h.commits 1 n) (until_between h.commits 1 n number (omega (arith, is, now))) in
    All-from_recursion (λ (note : Note). note.until ≤ number) f.notes (subst (Each (λ note. note.until ≤ number)) (sym keeps.notes) all)

nothing_there : (commits : List Rows) → slice_index_or commits (length commits) [] ≡ []
nothing_there [] = refl
nothing_there (c ∷ commits) = nothing_there commits

-- no version holds anything that a commit to come will make
pub new_version : (h : Half) (row : List ℕ) (number : ℕ) → number ≡ length h.commits + 1 → held_in h (holder.Version row number) ≡ []
new_version h row number is =
    let at : number - 1 ≡ length h.commits = omega (arith, is) in
    ap (λ i. cond (nat_le 1 number && is_kept (table_of_half h) row number) (option_map_or births_in (value_or_absent (get (slice_index_or h.commits i []) row)) []) []) at
    ∙ ap (λ (c : Rows). cond (nat_le 1 number && is_kept (table_of_half h) row number) (option_map_or births_in (value_or_absent (get c row)) []) []) (nothing_there h.commits)
    ∙ either (nat_le 1 number && is_kept (table_of_half h) row number)
  where
    either : (t : Bool) → cond {A = List ℕ} t [] [] ≡ []
    either true = refl
    either false = refl

named_each : (P : ℕ → Type 0) (rows : Rows) → Each P (flat_map births_in (values_in rows)) → Each (λ x. All P x.births) (row_births rows)
named_each P [] all = tt
named_each P ((name, None) ∷ rows) all = (All-from_recursion P [] tt, named_each P rows all)
named_each P ((name, Some v) ∷ rows) all =
    (All-from_recursion P (births_in v) (each_left P (births_in v) (flat_map births_in (values_in rows)) all), named_each P rows (each_right P (births_in v) (flat_map births_in (values_in rows)) all))

same_holder : (y x : Holder) → is_holder y x ≡ true → y ≡ x
same_holder y x is = holder_cmp-IsAntisymmetric y x (equal (holder_cmp y x) is)

-- a holder that held nothing takes nothing away
holds_more : (m : Holdings) (x : Holder) (bs : List ℕ) (b : ℕ) → held_by m x ≡ [] → is_live m b ≡ true → is_live (with_births m x bs) b ≡ true
holds_more m x bs b nothing live =
    elim (is_live (with_births m x bs) b) as (λ t. is_live (with_births m x bs) b ≡ t → t ≡ true) [
      | true ↦ λ _. refl
      | false ↦ λ dead.
          let none : is_live m b ≡ false = none_holds m b (λ y. apart y dead (has_birth (held_by m y) b) refl) in
          absurd (let bad = sym live ∙ none in cc)
    ] refl
  where
    held_there : (y : Holder) (t : Bool) → is_holder y x ≡ t → has_birth (held_by m y) b ≡ true → has_birth (cond {A = List ℕ} t bs (held_by m y)) b ≡ true
    held_there y false _ has = has
    held_there y true is has = absurd (let none = ap (λ (cs : List ℕ). has_birth cs b) (ap (held_by m) (same_holder y x is) ∙ nothing) in let bad = sym has ∙ none in cc)

    apart : (y : Holder) → is_live (with_births m x bs) b ≡ false → (t : Bool) → has_birth (held_by m y) b ≡ t → has_birth (held_by m y) b ≡ false
    apart y dead false is = is
    apart y dead true is =
        let there = holder_live (with_births m x bs) y b (ap (λ (cs : List ℕ). has_birth cs b) (held_after m x bs y) ∙ held_there y (is_holder y x) refl is) in
        absurd (let bad = sym there ∙ dead in cc)

all_stay : (before after : Holdings) → ((b : ℕ) → is_live before b ≡ true → is_live after b ≡ true) → (xs : List Stocked) → filter (λ x. not (has_left before after x.birth)) xs ≡ xs
all_stay before after more [] = refl
all_stay before after more (x ∷ xs) =
    ap (λ t. cond {A = List Stocked} t (x ∷ filter (λ y. not (has_left before after y.birth)) xs) (filter (λ y. not (has_left before after y.birth)) xs)) (stays (is_live before x.birth) refl)
    ∙ ap (λ (ys : List Stocked). x ∷ ys) (all_stay before after more xs)
  where
    stays : (t : Bool) → is_live before x.birth ≡ t → not (is_live before x.birth && not (is_live after x.birth)) ≡ true
    stays true is = ap (λ u. not (is_live before x.birth && not u)) (more x.birth is) ∙ ap (λ u. not (u && false)) is
    stays false is = ap (λ u. not (u && not (is_live after x.birth))) is

-- one after the other, versions of other rows hold nothing yet, and no birth leaves
pub can_hold_each : (number : ℕ) (c : Rows) → IsRisingMap c → (s : StockView) → Each (λ e. held_by s.holdings (holder.Version e.0 number) ≡ []) c → (kept : List ℕ)
    → All (λ b. is_stocked s.stocked b ≡ true) kept → Each (λ x. All (λ b. is_stocked s.stocked b ≡ true) x.births) (row_births c) → CanHold s number (row_births c) kept
can_hold_each number [] rising s nothing kept own named = own
can_hold_each number (e ∷ es) rising s nothing kept own named =
    let head = rising_head e es rising in
    let births = (births_of_change e).births in
    let x : Holder = holder.Version e.0 number in
    let after = with_births s.holdings x births in
    let same : (with_holder s x births).stocked ≡ s.stocked = all_stay s.holdings after (λ b live. holds_more s.holdings x births b nothing.0 live) s.stocked in
    let later : Each (λ y. held_by after (holder.Version y.0 number) ≡ []) es =
    each_both (λ y. held_by s.holdings (holder.Version y.0 number) ≡ []) (λ y. get es y.0 ≡ Some y.1) (λ y. held_by after (holder.Version y.0 number) ≡ []) es
    (λ y none is. held_after s.holdings x births (holder.Version y.0 number) ∙ ap (λ t. cond {A = List ℕ} t births (held_by s.holdings (holder.Version y.0 number))) (version_is y.0 number e.0 number) ∙ other_row y is none head.0 (is_same_name y.0 e.0) refl)
    nothing.1 (each_found es head.1) in (
      named.0,
      can_hold_each number es head.1 (with_holder s x births) later kept (subst (λ (xs : List Stocked). All (λ b. is_stocked xs b ≡ true) kept) (sym same) own)
          (subst (λ (xs : List Stocked). Each (λ y. All (λ b. is_stocked xs b ≡ true) y.births) (row_births es)) (sym same) named.1),
    )
  where
    each_both : (P Q R : List ℕ × Option Value → Type 0) (xs : Rows) → ((y : List ℕ × Option Value) → P y → Q y → R y) → Each P xs → Each Q xs → Each R xs
    each_both P Q R [] both ps qs = tt
    each_both P Q R (y ∷ ys) both ps qs = (both y ps.0 qs.0, each_both P Q R ys both ps.1 qs.1)

    other_row : (y : List ℕ × Option Value) → get es y.0 ≡ Some y.1 → held_by s.holdings (holder.Version y.0 number) ≡ [] → get es e.0 ≡ None → (t : Bool) → is_same_name y.0 e.0 ≡ t
        → cond {A = List ℕ} (is_same_name y.0 e.0 && eq_by_cmp nat_cmp number number) (births_of_change e).births (held_by s.holdings (holder.Version y.0 number)) ≡ []
    other_row y is none absent false t = ap (λ u. cond {A = List ℕ} (u && eq_by_cmp nat_cmp number number) (births_of_change e).births (held_by s.holdings (holder.Version y.0 number))) t ∙ none
    other_row y is none absent true t = absurd (let bad = sym (sym (ap (get es) (same_name y.0 e.0 t)) ∙ is) ∙ absent in cc)

pub can_hold : (f : Fields) (h : Half) (number : ℕ) (c : Rows) (held : List RowBirths) (births : List ℕ) → Keeps f h → IsStrictlySortedBy name_cmp (keys_of c) → number ≡ f.versions.now + 1 → held ≡ row_births c → AreStocked f births
    → AreStocked f (flat_map births_in (values_in c)) → CanHold f.stock number held births
can_hold f h number c held births keeps rising is same own named =
    let P : ℕ → Type 0 = λ b. is_stocked f.stock.stocked b ≡ true in
    let now = keeps.now in
    let next : number ≡ length h.commits + 1 = omega (arith, is, now) in
    subst (λ xs. CanHold f.stock number xs births) (sym same)
    (can_hold_each number c (rising_from_ordered c rising) f.stock (each_row c (λ row. keeps.held (holder.Version row number) ∙ new_version h row number next)) births own
    (named_each P c (recursion_from_All P (flat_map births_in (values_in c)) named)))
  where
    each_row : (es : Rows) → ((row : List ℕ) → held_by f.stock.holdings (holder.Version row number) ≡ []) → Each (λ e. held_by f.stock.holdings (holder.Version e.0 number) ≡ []) es
    each_row [] all = tt
    each_row (e ∷ es) all = (all e.0, each_row es all)

-- ---- a planned commit
module _ (f : Fields) (h : Half) (s : ℕ) (births : List ℕ) (c : Rows) (keeps : Keeps f h) (reached : f.floor ≤ f.versions.now) (rising : IsStrictlySortedBy name_cmp (keys_of c))
    (plan : CommitPlan) (planned : IsPlan f.versions f.notes c plan) (floor_is : plan.floor ≡ floor_after f.options f.floor (f.versions.now + 1)) where
  due_is : plan.due ≡ due_then f h c keeps reached rising
  due_is = planned.due ∙ ap (due_pairs (f.notes ++ displaced_notes f.versions c)) floor_is

  pub displaced_by_plan : AreDisplaced (after_commit f.versions c) plan.due
  displaced_by_plan = subst (AreDisplaced (after_commit f.versions c)) (sym due_is) (displaced_then f h c keeps reached rising)

  -- The stock before its parking.
  abbrev pub stock_then : StockView
  stock_then = stock_without (with_holder (stock_with f.stock plan.number plan.held) (holder.Session s) births) plan.due

  -- the floor is no later than the commit
  pub commit_reached : (versions : VersionTable) → versions ≡ versions_without (after_commit f.versions c) plan.due → plan.floor ≤ versions.now
  commit_reached versions is =
      let now : versions.now ≡ f.versions.now + 1 = ap (λ (t : VersionTable). t.now) is ∙ same_now (after_commit f.versions c) plan.due in
      let top = high f h c keeps reached rising in
      let size = length-append h.commits (c ∷ []) in
      let before = keeps.now in
      omega (arith, now, top, size, before, floor_is)

  pub commit_between : IsSound f.stock → IsBetween f.stock stock_then
  commit_between sound =
      between_without f.stock (with_holder (stock_with f.stock plan.number plan.held) (holder.Session s) births) plan.due
      (between_held f.stock (stock_with f.stock plan.number plan.held) (with_births (stock_with f.stock plan.number plan.held).holdings (holder.Session s) births)
      (between_with f.stock f.stock plan.number plan.held (between_itself f.stock keeps.none_left sound keeps.live)))

  pub commit_repacked : IsSound f.stock → IsSound stock_then → IsRepacked f.stock (with_left_parked stock_then) []
  commit_repacked sound then = repacked_between f.stock stock_then (commit_between sound) then

  holdings_is : stock_then.holdings ≡ holdings_without (with_births (holdings_then f h c keeps reached rising) (holder.Session s) births) (due_then f h c keeps reached rising)
  holdings_is =
      same_holdings (with_holder (stock_with f.stock plan.number plan.held) (holder.Session s) births) plan.due
      ∙ ap (λ (m : Holdings). holdings_without (with_births m (holder.Session s) births) plan.due)
      (same_holdings_with f.stock plan.number plan.held ∙ ap (λ n. holdings_with f.stock.holdings n plan.held) planned.number ∙ ap (holdings_with f.stock.holdings (f.versions.now + 1)) planned.held)
      ∙ ap (holdings_without (with_births (holdings_then f h c keeps reached rising) (holder.Session s) births)) due_is

  module _ (is : is_session h s ≡ true) where
    -- What is kept of the session, and the half then.
    abbrev pub kept_then : Kept
    kept_then = record (kept_at h s) { births = births; is_open = false }

    abbrev pub half_then : Half
    half_then = record (with_kept h s kept_then) { commits = h.commits ++ c ∷ []; floor = floor_then f h c keeps reached rising; locks = without_locks h.locks s }

    -- who is no version holds what it holds where the session alone holds something else
    as_settled : (x : Holder) → ((row : List ℕ) (n : ℕ) → is_holder x (holder.Version row n) ≡ false)
        → held_by (with_births (holdings_then f h c keeps reached rising) (holder.Session s) births) x ≡ held_in (with_kept h s kept_then) x
    as_settled x apart =
        let m = holdings_then f h c keeps reached rising in
        held_after m (holder.Session s) births x
        ∙ ap (λ (bs : List ℕ). cond {A = List ℕ} (is_holder x (holder.Session s)) births bs) (others_with f.stock.holdings (f.versions.now + 1) (row_births c) x apart)
        ∙ sym (held_after f.stock.holdings (holder.Session s) births x)
        ∙ settled_held f h s kept_then keeps is refl x

    pub commit_held : (x : Holder) → held_by stock_then.holdings x ≡ held_in half_then x
    commit_held x =
        ap (λ m. held_by m x) holdings_is
        ∙ held_after_commit f h c keeps reached rising half_then refl refl (with_births (holdings_then f h c keeps reached rising) (holder.Session s) births)
        (λ row n. held_after (holdings_then f h c keeps reached rising) (holder.Session s) births (holder.Version row n) ∙ hold_then f h c keeps reached rising row n)
        (λ t. as_settled (holder.Session t) (λ row n. refl)) (λ t. as_settled (holder.Promise t) (λ row n. refl)) x

    answer_is : (kept_at h s).is_open ≡ true → (half_answer h s call.Commit (rule.Commits c) births).0 ≡ half_then
    answer_is opened =
        let now = keeps.now in
        ap (λ t. (cond {A = Half × rule.Answer} t (record (with_kept h s kept_then) { commits = h.commits ++ c ∷ []; floor = floor_after h.options h.floor (length h.commits + 1); locks = without_locks h.locks s }, rule.Committed (length h.commits + 1))
        (rule.with_kept_births h s births, rule.Committed (length h.commits))).0) opened
        ∙ ap (λ n. record (with_kept h s kept_then) { commits = h.commits ++ c ∷ []; floor = n; locks = without_locks h.locks s })
        (ap (λ o. floor_after o h.floor (length h.commits + 1)) (sym keeps.options) ∙ ap (λ n. floor_after f.options n (length h.commits + 1)) (sym keeps.floor) ∙ ap (λ n. floor_after f.options f.floor (n + 1)) (sym now))

    pub commit_told : (kept_at h s).is_open ≡ true → (half_answer h s call.Commit (rule.Commits c) births).1 ≡ rule.Committed plan.number
    commit_told opened =
        let now = keeps.now in
        let number : length h.commits + 1 ≡ plan.number = omega (arith, now, planned.number) in
        ap (λ t. (cond {A = Half × rule.Answer} t (record (with_kept h s kept_then) { commits = h.commits ++ c ∷ []; floor = floor_after h.options h.floor (length h.commits + 1); locks = without_locks h.locks s }, rule.Committed (length h.commits + 1))
        (rule.with_kept_births h s births, rule.Committed (length h.commits))).1) opened
        ∙ ap rule.Committed number

    pub commit_keeps : (locks : NameMap ℕ) (versions : VersionTable) (notes : List Note) (floor : ℕ) (sessions : List SessionField) (stock : StockView) → IsSound f.stock → (kept_at h s).is_open ≡ true
        → locks ≡ without_locks f.locks s → versions ≡ versions_without (after_commit f.versions c) plan.due → notes ≡ drop (length plan.due) (f.notes ++ plan.displaced) → floor ≡ plan.floor
        → sessions ≡ set_to f.sessions s false (kept_at h s).has_ended → stock ≡ with_left_parked stock_then
        → Keeps (record f { locks = locks; versions = versions; notes = notes; floor = floor; sessions = sessions; stock = stock }) (half_answer h s call.Commit (rule.Commits c) births).0
    commit_keeps locks versions notes floor sessions stock sound opened locked versioned noted floored set stocked =
        let due = due_then f h c keeps reached rising in
        let here = committed_keeps f h c keeps reached rising s kept_then locks (without_locks h.locks s) sessions stock_then (commit_between sound) (locked ∙ ap (λ m. without_locks m s) keeps.locks)
        (set ∙ set_is f h s births false (kept_at h s).has_ended keeps) commit_held in
        let was : versions_without (versions_then f h c keeps reached rising) due ≡ versions = sym (versioned ∙ ap (versions_without (after_commit f.versions c)) due_is) in
        let left : drop (length due) (notes_then f h c keeps reached rising) ≡ notes =
        sym (noted ∙ ap (λ (ps : List Pair). drop (length ps) (f.notes ++ plan.displaced)) due_is ∙ ap (λ (ns : List Note). drop (length due) (f.notes ++ ns)) planned.displaced) in
        subst (Keeps (record f { locks = locks; versions = versions; notes = notes; floor = floor; sessions = sessions; stock = stock })) (sym (answer_is opened))
        (subst (λ (x : StockView). Keeps (record f { locks = locks; versions = versions; notes = notes; floor = floor; sessions = sessions; stock = x }) half_then) (sym stocked)
        (subst (λ n. Keeps (record f { locks = locks; versions = versions; notes = notes; floor = n; sessions = sessions; stock = with_left_parked stock_then }) half_then) (sym (floored ∙ floor_is))
        (subst (λ (ns : List Note). Keeps (record f { locks = locks; versions = versions; notes = ns; floor = floor_then f h c keeps reached rising; sessions = sessions; stock = with_left_parked stock_then }) half_then) left
        (subst (λ (t : VersionTable). Keeps (record f { locks = locks; versions = t; notes = drop (length due) (notes_then f h c keeps reached rising); floor = floor_then f h c keeps reached rising; sessions = sessions; stock = with_left_parked stock_then }) half_then) was here))))
