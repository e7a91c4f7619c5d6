-- A commit that is published.
use Rattle.std.proofs.Common.{◌≡◌, ℕ, ◌+◌, ◌-◌, ◌≤◌, ◌<◌, zero, suc, Bool, true, false, cond, ◌&&◌, ◌||◌, List, [], ◌∷◌, ◌++◌, length, take, drop, Option, Some, None, ◌⊎◌, inl, inr, refl, sym, ap, subst, ◌∙◌, arith}
use Rattle.std.specs.Prelude.{◌==◌, All, flat_map, nat_le, nat_lt, is_none, slice_get, slice_index_or, slice_set, sum_by, unwrap_or}
use Rattle.std.specs.List.{AllByRecursion as Each}
use Rattle.std.specs.List.Sorted.{IsStrictlySortedBy}
use Rattle.std.specs.Map.{keys_of}
use Rattle.std.specs.Option.{option_map_or}
use Rattle.std.proofs.lemmas.Bool.Decides.{nat_tests}
use Rattle.std.proofs.lemmas.List.{drop_all, length-append, length-take}
use Rattle.std.proofs.lemmas.List.Elements.{All-from_recursion, recursion_from_All}
use Rattle.sf_types.specs.declared.holder.Holder.{Holder}
use Rattle.sf_types.specs.declared.holder.Holder.TheVariants as holder
use Rattle.sf_types.specs.declared.options.Options.{Options}
use Rattle.sf_types.specs.Inside.NameMaps.{NameMap, get}
use Rattle.sf_types.specs.Values.Marks.{Value, births_in}
use Rattle.sf_types.specs.Values.Names.{name_cmp}
use Rattle.sf_types.specs.Table.Parts.{Rows, Table}
use Rattle.sf_types.specs.Table.Sessions.{without_locks}
use Rattle.sf_types.specs.Table.Versions.{last_change, value_or_absent}
use Rattle.sf_types.specs.Calls.TransactionEnds.{floor_after}
use Rattle.sf_types.specs.Space.Cuts.{Cut, cuts, settle}
use Rattle.sf_types.specs.Space.Publications.{contents_after}
use Rattle.sf_types.specs.Space.Reach.{is_kept, values_in}
use Rattle.sf_types.specs.Space.Use.{content_of}
use Rattle.sf_types.specs.Halves.Asks.{Half, Kept, kept_at, new_kept, with_kept}
use Rattle.sf_types.specs.Halves.Asks as rule
use Rattle.sf_types.specs.Halves.Flushes.{half_births_for, half_publish, half_reach, table_of_half, with_half_contents}
use Rattle.sf_types.proofs.NameMapLemmas.{rising_from_ordered}
use Rattle.sf_laws.proofs.EachLemmas.{each_weaker, each-append}
use Rattle.sf_lifetimes.specs.Ledgers.{Holdings, has_birth, held_by, is_live, with_births}
use Rattle.sf_stock.specs.Stocks.{IsSound, Stocked, StockView, is_stocked, places_of, with_holder, with_left_parked}
use Rattle.sf_stock.proofs.SinceLemmas.{since_itself, stocked-append}
use Rattle.sf_versions.specs.VersionTables.{VersionTable, after_commit, versions_of}
use Rattle.sf_types.specs.Space.BlockRuns.{blocks_in}
use Rattle.sf_retention.specs.Notes.{due_pairs}
use Rattle.sf_retention.specs.declared.retention.Note.{Note}
use Rattle.sf_retention.specs.declared.retention.Pair.{Pair}
use Rattle.sf_store_half.specs.declared.commits.CommitPlan.{CommitPlan}
use Rattle.sf_store_half.specs.declared.commits.RowBirths.{RowBirths}
use Rattle.sf_store_half.specs.Inside.Publications.{IsPublication}
use Rattle.sf_store_half.specs.declared.plans.Plan.{Plan}
use Rattle.sf_store_half.specs.declared.session_fields.SessionField.{SessionField}
use Rattle.sf_store_half.specs.Fields.{Fields, Keeps, held_in, is_session, session_field}
use Rattle.sf_store_half.specs.HalfMoves.{AreEnough, ArePlaceable, AreStocked, HasField, IsRepacked, blocks_left_over, field_at, new_places}
use Rattle.sf_store_half.specs.Inside.Commits.{CanHold, births_of_change, row_births, stock_with}
use Rattle.sf_store_half.specs.Inside.Commits as commits
use Rattle.sf_store_half.specs.Inside.Fields.{promised_blocks}
use Rattle.sf_store_half.specs.Inside.Floors.{AreDisplaced, holdings_without, stock_without, versions_without}
use Rattle.sf_store_half.specs.Inside.Plans.{AreNewPlaces, planned_all, planned_births, planned_by, stocked_from, unplanned, with_all_new}
use Rattle.sf_store_half.specs.Inside.Plans as plans
use Rattle.sf_store_half.proofs.CommitAnswerLemmas.{can_hold_each, commit_held, displaced_by_plan, half_then, kept_then, new_version, same_holdings_with}
use Rattle.sf_store_half.proofs.CommitKeepsLemmas.{commits_after, due_then, floor_then, high, notes_after, notes_then, now_after, rows_after, versions_then}
use Rattle.sf_store_half.proofs.GrownLemmas.{OfSize, known_all}
use Rattle.sf_store_half.proofs.GrownStockLemmas.{IsGrownTo, grown_held, grown_with, grown_without, repacked_grown}
use Rattle.sf_store_half.proofs.HeldLemmas.{births_promised, held_after, promise_held_with, same_promise, session_held_with}
use Rattle.sf_store_half.proofs.HeldReachLemmas.{each_found}
use Rattle.sf_store_half.proofs.LiveLemmas.{holder_live}
use Rattle.sf_store_half.proofs.PlaceableLemmas.{all_holdings, all_next, all_parked, all_since, all_stocked}
use Rattle.sf_store_half.proofs.PlannedCutLemmas.{births_count, births_planned, births_stocked, new_where, next_planned, placeable, places_planned, rest_planned, row_sizes, stocked_planned}
use Rattle.sf_store_half.proofs.PublishedLemmas.{known_first}
use Rattle.sf_store_half.proofs.RaisedKeepsLemmas.{same_holdings}
use Rattle.sf_store_half.proofs.SetLemmas.{promised_same, set_to}
use Rattle.sf_store_half.proofs.SettledLemmas.{field_is, fields_with, has_session}
use Rattle.sf_store_half.proofs.SettledRowLemmas.{given_where, rows_where}
use Rattle.sf_store_half.proofs.StockReachLemmas.{holds_itself}

-- ---- the version that the last commit made is kept
last_kept : (t : Table) (row : List ℕ) (number : ℕ) → length t.commits ≤ number → is_kept t row number ≡ true
last_kept t row number within =
    let size = length-take t.floor t.commits in
    let none : drop number (take t.floor t.commits) ≡ [] = drop_all number (take t.floor t.commits) (omega (arith, size, within)) in
    ap (λ (cs : List Rows). nat_lt t.floor number || is_none (last_change cs row)) none ∙ either (nat_lt t.floor number)
  where
    either : (u : Bool) → (u || true) ≡ true
    either true = refl
    either false = refl

index_pushed : (commits : List Rows) (c : Rows) → slice_index_or (commits ++ c ∷ []) (length commits) [] ≡ c
index_pushed [] c = refl
index_pushed (d ∷ commits) c = index_pushed commits c

-- so it holds the births of its change
pub last_version : (h : Half) (commits : List Rows) (c : Rows) (row : List ℕ) (x : Option Value) (number : ℕ) → h.commits ≡ commits ++ c ∷ [] → number ≡ length commits + 1 → get c row ≡ Some x
    → held_in h (holder.Version row number) ≡ option_map_or births_in x []
last_version h commits c row x number pushed is named =
    let size : length h.commits ≡ length commits + 1 = ap (λ (cs : List Rows). length cs) pushed ∙ length-append commits (c ∷ []) in
    let first : nat_le 1 number ≡ true = grind (arith, nat_tests, is) in
    let kept = last_kept (table_of_half h) row number (omega (arith, size, is)) in
    let at : number - 1 ≡ length commits = omega (arith, is) in
    let births : Rows → List ℕ = λ d. option_map_or births_in (value_or_absent (get d row)) [] in
    ap (λ t. cond {A = List ℕ} (t && is_kept (table_of_half h) row number) (births (slice_index_or h.commits (number - 1) [])) []) first
    ∙ ap (λ t. cond {A = List ℕ} t (births (slice_index_or h.commits (number - 1) [])) []) kept
    ∙ ap (λ i. births (slice_index_or h.commits i [])) at
    ∙ ap (λ (cs : List Rows). births (slice_index_or cs (length commits) [])) pushed
    ∙ ap births (index_pushed commits c)
    ∙ ap (λ (o : Option (Option Value)). option_map_or births_in (value_or_absent o) []) named

-- What is known before changes are published.
pub record IsCommitMade (f : Fields) (s : ℕ) (blocks : List ℕ) (of : List Cut) (rows c : Rows) (kept : List ℕ) (plan : Plan) (commit : CommitPlan) : Type 0 where
  pub sound : IsSound f.stock
  pub has : HasField f s
  pub reached : f.floor ≤ f.versions.now
  pub cuts_are : of ≡ cuts f.options rows
  pub places : ArePlaceable f blocks
  pub enough : AreEnough f of (length blocks)
  pub kept_stocked : AreStocked f kept
  pub named : AreStocked f (flat_map births_in (values_in rows))
  pub planned : planned_by f.stock plan ≡ planned_all (unplanned f.stock blocks) of
  pub plan_is : plans.IsPlan f.stock plan
  pub settled_is : c ≡ settle rows (planned_births (unplanned f.stock blocks) of)
  pub rising : IsStrictlySortedBy name_cmp (keys_of c)
  pub commit_is : commits.IsPlan f.versions f.notes c commit
  pub floor_is : commit.floor ≡ floor_after f.options f.floor (f.versions.now + 1)

module _ (f : Fields) (s : ℕ) (blocks : List ℕ) (of : List Cut) (rows c : Rows) (kept : List ℕ) (plan : Plan) (commit : CommitPlan) (made : IsCommitMade f s blocks of rows c kept plan commit) where
  abbrev given : List ℕ
  given = planned_births (unplanned f.stock blocks) of

  abbrev new : List Stocked
  new = stocked_from f.stock.next plan.news.items

  -- The stock with the new contents, once versions and the session hold, and once the promise holds nothing.
  abbrev pub placed : StockView
  placed = with_all_new f.stock plan.news.items

  abbrev pub committed : StockView
  committed = stock_without (with_holder (stock_with placed commit.number commit.held) (holder.Session s) kept) commit.due

  abbrev pub done : StockView
  done = with_holder committed (holder.Promise s) []

  sizes : Each (λ cut. OfSize cut.bytes) of
  sizes = subst (Each (λ (cut : Cut). OfSize cut.bytes)) (sym made.cuts_are) (row_sizes f.options rows)

  count : length given ≡ length (cuts f.options rows)
  count = births_count (unplanned f.stock blocks) of ∙ ap (λ (xs : List Cut). length xs) made.cuts_are

  pub commit_places : AreNewPlaces f.stock plan.news.items
  commit_places = placeable f blocks of plan made.planned sizes made.sound made.enough.1.none_left made.places made.enough

  old_stocked : (b : ℕ) → is_stocked f.stock.stocked b ≡ true → is_stocked placed.stocked b ≡ true
  old_stocked b is = ap (λ xs. is_stocked xs b) (all_stocked f.stock plan.news.items) ∙ stocked-append f.stock.stocked new b ∙ ap (λ t. t || is_stocked new b) is

  -- what the versions and the session are to hold has places
  pub commit_can_hold : CanHold placed commit.number commit.held kept
  commit_can_hold =
      let P : ℕ → Type 0 = λ b. is_stocked placed.stocked b ≡ true in
      let S : ℕ → Type 0 = λ b. is_stocked f.stock.stocked b ≡ true in
      let h = made.enough.0 in
      let keeps = made.enough.1 in
      let whole : placed.stocked ≡ (planned_all (unplanned f.stock blocks) of).stocked = all_stocked f.stock plan.news.items ∙ stocked_planned f blocks of plan made.planned in
      let fresh : Each P given = subst (λ (xs : List Stocked). Each (λ b. is_stocked xs b ≡ true) given) (sym whole) (births_stocked (unplanned f.stock blocks) of) in
      let own : Each P (flat_map births_in (values_in rows)) = each_weaker S P (flat_map births_in (values_in rows)) old_stocked (recursion_from_All S (flat_map births_in (values_in rows)) made.named) in
      let first : All P kept = All-from_recursion P kept (each_weaker S P kept old_stocked (recursion_from_All S kept made.kept_stocked)) in
      let all : Each (λ x. All P x.births) (row_births c) = subst (λ (d : Rows). Each (λ x. All P x.births) (row_births d)) (sym made.settled_is) (rows_where P rows given own fresh) in
      let number = made.commit_is.number in
      let now = keeps.now in
      let next : commit.number ≡ length h.commits + 1 = omega (arith, number, now) in
      subst (λ (xs : List RowBirths). CanHold placed commit.number xs kept) (sym made.commit_is.held)
      (can_hold_each commit.number c (rising_from_ordered c made.rising) placed
      (each_row c (λ row. ap (λ (m : Holdings). held_by m (holder.Version row commit.number)) (all_holdings f.stock plan.news.items) ∙ keeps.held (holder.Version row commit.number) ∙ new_version h row commit.number next)) kept first all)
    where
      each_row : (es : Rows) → ((row : List ℕ) → held_by placed.holdings (holder.Version row commit.number) ≡ []) → Each (λ e. held_by placed.holdings (holder.Version e.0 commit.number) ≡ []) es
      each_row [] all = tt
      each_row (e ∷ es) all = (all e.0, each_row es all)

  -- by a half that the fields keep
  module _ (h : Half) (keeps : Keeps f h) where
    pub commit_displaced : AreDisplaced (after_commit f.versions c) commit.due
    commit_displaced = displaced_by_plan f h s kept c keeps made.reached made.rising commit made.commit_is made.floor_is

    is : is_session h s ≡ true
    is = has_session f h s keeps made.has

    -- What is kept of the session, and the half then.
    abbrev ended : Kept
    ended = record (kept_at h s) { births = kept; is_open = false; promise = None }

    abbrev after : Half
    after = record (with_kept (with_half_contents h of) s ended) { commits = h.commits ++ c ∷ []; floor = floor_then f h c keeps made.reached made.rising; locks = without_locks h.locks s }

    held_committed : (x : Holder) → held_by committed.holdings x ≡ held_in (half_then f h s kept c keeps made.reached made.rising commit made.commit_is made.floor_is is) x
    held_committed x =
        ap (λ (m : Holdings). held_by m x)
        (same_holdings (with_holder (stock_with placed commit.number commit.held) (holder.Session s) kept) commit.due
        ∙ ap (λ (m : Holdings). holdings_without (with_births m (holder.Session s) kept) commit.due)
        (same_holdings_with placed commit.number commit.held ∙ ap (λ (m : Holdings). commits.holdings_with m commit.number commit.held) (all_holdings f.stock plan.news.items) ∙ sym (same_holdings_with f.stock commit.number commit.held))
        ∙ sym (same_holdings (with_holder (stock_with f.stock commit.number commit.held) (holder.Session s) kept) commit.due))
        ∙ commit_held f h s kept c keeps made.reached made.rising commit made.commit_is made.floor_is is x

    held_done : (x : Holder) → held_by done.holdings x ≡ held_in after x
    held_done (holder.Version row n) = held_after committed.holdings (holder.Promise s) [] (holder.Version row n) ∙ held_committed (holder.Version row n)
    held_done (holder.Session t) =
        held_after committed.holdings (holder.Promise s) [] (holder.Session t)
        ∙ held_committed (holder.Session t)
        ∙ session_held_with h s (kept_then f h s kept c keeps made.reached made.rising commit made.commit_is made.floor_is is) t is
        ∙ sym (session_held_with (with_half_contents h of) s ended t is)
    held_done (holder.Promise t) =
        held_after committed.holdings (holder.Promise s) [] (holder.Promise t)
        ∙ ap (λ u. cond {A = List ℕ} u [] (held_by committed.holdings (holder.Promise t))) (same_promise t s)
        ∙ ap (λ (bs : List ℕ). cond {A = List ℕ} (t == s) [] bs)
        (held_committed (holder.Promise t) ∙ promise_held_with h s (kept_then f h s kept c keeps made.reached made.rising commit made.commit_is made.floor_is is) t is)
        ∙ twice (t == s) (births_promised (kept_then f h s kept c keeps made.reached made.rising commit made.commit_is made.floor_is is)) (held_in h (holder.Promise t))
        ∙ sym (promise_held_with (with_half_contents h of) s ended t is)
      where
        twice : (u : Bool) (xs ys : List ℕ) → cond {A = List ℕ} u [] (cond {A = List ℕ} u xs ys) ≡ cond {A = List ℕ} u [] ys
        twice true xs ys = refl
        twice false xs ys = refl

    -- each birth of a settled row is held, and so is each new one
    row_live : Each (λ x. All (λ b. is_live done.holdings b ≡ true) x.births) (row_births c)
    row_live = each_change c (each_found c (rising_from_ordered c made.rising))
      where
        number_is : commit.number ≡ length h.commits + 1
        number_is = let now = keeps.now in let number = made.commit_is.number in omega (arith, now, number)

        one : (e : List ℕ × Option Value) → get c e.0 ≡ Some e.1 → All (λ b. is_live done.holdings b ≡ true) (births_of_change e).births
        one e named =
            let held : held_by done.holdings (holder.Version e.0 commit.number) ≡ (births_of_change e).births = held_done (holder.Version e.0 commit.number) ∙ last_version after h.commits c e.0 e.1 commit.number refl number_is named in
            All-from_recursion (λ b. is_live done.holdings b ≡ true) (births_of_change e).births
            (each_weaker (λ b. has_birth (births_of_change e).births b ≡ true) (λ b. is_live done.holdings b ≡ true) (births_of_change e).births
            (λ b has. holder_live done.holdings (holder.Version e.0 commit.number) b (ap (λ (bs : List ℕ). has_birth bs b) held ∙ has)) (holds_itself (births_of_change e).births))

        each_change : (es : Rows) → Each (λ e. get c e.0 ≡ Some e.1) es → Each (λ x. All (λ b. is_live done.holdings b ≡ true) x.births) (row_births es)
        each_change [] all = tt
        each_change (e ∷ es) all = (one e all.0, each_change es all.1)

    new_live : Each (λ x. is_live done.holdings x.birth ≡ true) new
    new_live =
        new_where f blocks of plan made.planned sizes h keeps made.sound (λ b. is_live done.holdings b ≡ true) made.plan_is
        (given_where (λ b. is_live done.holdings b ≡ true) f.options rows given count (subst (λ (d : Rows). Each (λ x. All (λ b. is_live done.holdings b ≡ true) x.births) (row_births d)) made.settled_is row_live))

    -- what stands in the stock then
    grown_placed : IsGrownTo f.stock new (λ x. content_of (contents_after h.contents (half_reach h) of) x.birth ≡ Some x.content) (λ x. is_live done.holdings x.birth ≡ true) (f.stock.next + length plan.news.items) placed
    grown_placed =
        let known : Each (λ x. content_of (contents_after h.contents (half_reach h) of) x.birth ≡ Some x.content) (f.stock.stocked ++ new) =
        subst (Each (λ (x : Stocked). content_of (contents_after h.contents (half_reach h) of) x.birth ≡ Some x.content)) (sym (stocked_planned f blocks of plan made.planned))
        (known_all (unplanned f.stock blocks) h.contents (half_reach h) of (known_first f h blocks keeps made.sound)).contents in
        let old : Each (λ x. (is_live placed.holdings x.birth ≡ true) ⊎ (is_live done.holdings x.birth ≡ true)) f.stock.stocked =
        each_weaker (λ (x : Stocked). is_live f.stock.holdings x.birth ≡ true) (λ x. (is_live placed.holdings x.birth ≡ true) ⊎ (is_live done.holdings x.birth ≡ true)) f.stock.stocked
        (λ x live. inl (ap (λ (m : Holdings). is_live m x.birth) (all_holdings f.stock plan.news.items) ∙ live)) (recursion_from_All (λ (x : Stocked). is_live f.stock.holdings x.birth ≡ true) f.stock.stocked keeps.live) in
        let fresh : Each (λ x. (is_live placed.holdings x.birth ≡ true) ⊎ (is_live done.holdings x.birth ≡ true)) new =
        each_weaker (λ (x : Stocked). is_live done.holdings x.birth ≡ true) (λ x. (is_live placed.holdings x.birth ≡ true) ⊎ (is_live done.holdings x.birth ≡ true)) new (λ x live. inr live) new_live in
        record {
          since = all_since f.stock f.stock [] plan.news.items (since_itself f.stock keeps.none_left made.sound);
          live = subst (Each (λ (x : Stocked). (is_live placed.holdings x.birth ≡ true) ⊎ (is_live done.holdings x.birth ≡ true))) (sym (all_stocked f.stock plan.news.items)) (each-append (λ (x : Stocked). (is_live placed.holdings x.birth ≡ true) ⊎ (is_live done.holdings x.birth ≡ true)) f.stock.stocked new old fresh);
          known = subst (Each (λ (x : Stocked). content_of (contents_after h.contents (half_reach h) of) x.birth ≡ Some x.content)) (sym (all_stocked f.stock plan.news.items)) known;
          next_is = all_next f.stock plan.news.items;
          parked = all_parked f.stock plan.news.items;
        }

    grown_done : IsGrownTo f.stock new (λ x. content_of (contents_after h.contents (half_reach h) of) x.birth ≡ Some x.content) (λ x. is_live done.holdings x.birth ≡ true) (f.stock.next + length plan.news.items) done
    grown_done =
        let k : Stocked → Type 0 = λ x. content_of (contents_after h.contents (half_reach h) of) x.birth ≡ Some x.content in
        let q : Stocked → Type 0 = λ x. is_live done.holdings x.birth ≡ true in
        let n = f.stock.next + length plan.news.items in
        let versions = stock_with placed commit.number commit.held in
        grown_held f.stock new k q n committed (with_births committed.holdings (holder.Promise s) [])
        (grown_without f.stock new k q n (with_holder versions (holder.Session s) kept) commit.due
        (grown_held f.stock new k q n versions (with_births versions.holdings (holder.Session s) kept)
        (grown_with f.stock new k q n placed commit.number commit.held grown_placed)))

    pub commit_stays : IsSound done → IsRepacked f.stock (with_left_parked done) (places_of new)
    commit_stays sound =
        repacked_grown f.stock new done grown_done.since grown_done.parked sound
        (each_weaker (λ (x : Stocked). is_live done.holdings x.birth ≡ true) (λ x. is_stocked done.stocked x.birth ≡ true) new (λ x live. sound.held x.birth live) new_live)

    settled_same : settle rows (half_births_for h of) ≡ c
    settled_same = ap (settle rows) (sym (births_planned f blocks of plan made.planned sizes h keeps made.sound)) ∙ sym made.settled_is

    after_is : (half_publish h s (rule.Commits rows) of kept).0 ≡ after
    after_is =
        let now = keeps.now in
        ap (λ (d : Rows). record (with_kept (with_half_contents h of) s ended) { commits = h.commits ++ d ∷ []; floor = floor_after h.options h.floor (length h.commits + 1); locks = without_locks h.locks s }) settled_same
        ∙ ap (λ n. record (with_kept (with_half_contents h of) s ended) { commits = h.commits ++ c ∷ []; floor = n; locks = without_locks h.locks s })
        (ap (λ (o : Options). floor_after o h.floor (length h.commits + 1)) (sym keeps.options) ∙ ap (λ n. floor_after f.options n (length h.commits + 1)) (sym keeps.floor) ∙ ap (λ n. floor_after f.options f.floor (n + 1)) (sym now))

    pub commit_answer : (half_publish h s (rule.Commits rows) of kept).1 ≡ rule.Committed commit.number
    commit_answer = let now = keeps.now in let number = made.commit_is.number in let same : length h.commits + 1 ≡ commit.number = omega (arith, now, number) in ap rule.Committed same

    pub published_repacked : IsSound done → IsRepacked f.stock (with_left_parked done) (new_places h (half_publish h s (rule.Commits rows) of kept).0 blocks)
    published_repacked sound = subst (IsRepacked f.stock (with_left_parked done)) (places_planned f blocks of plan made.planned sizes h keeps made.sound made.plan_is) (commit_stays sound)

    pub published_left : blocks_in plan.left.held ≡ blocks_left_over h (half_publish h s (rule.Commits rows) of kept).0 blocks
    published_left = rest_planned f blocks of plan made.planned sizes h keeps made.sound made.plan_is

    pub published_keeps : (locks : NameMap ℕ) (versions : VersionTable) (notes : List Note) (floor : ℕ) (sessions : List SessionField) (stock : StockView)
        → locks ≡ without_locks f.locks s → versions ≡ versions_without (after_commit f.versions c) commit.due → notes ≡ drop (length commit.due) (f.notes ++ commit.displaced) → floor ≡ commit.floor
        → sessions ≡ slice_set f.sessions (s - 1) (session_field ended) → stock ≡ with_left_parked done
        → Keeps (record f { locks = locks; versions = versions; notes = notes; floor = floor; sessions = sessions; stock = stock }) (half_publish h s (rule.Commits rows) of kept).0
    published_keeps locks versions notes floor sessions stock locked versioned noted floored set stocked =
        let due = due_then f h c keeps made.reached made.rising in
        let due_is : commit.due ≡ due = made.commit_is.due ∙ ap (due_pairs (notes_then f h c keeps made.reached made.rising)) made.floor_is in
        let was : versions ≡ versions_without (versions_then f h c keeps made.reached made.rising) due = versioned ∙ ap (versions_without (after_commit f.versions c)) due_is in
        let left : notes ≡ drop (length due) (notes_then f h c keeps made.reached made.rising) =
        noted ∙ ap (λ (ps : List Pair). drop (length ps) (f.notes ++ commit.displaced)) due_is ∙ ap (λ (ns : List Note). drop (length due) (f.notes ++ ns)) made.commit_is.displaced in
        let all = known_all (unplanned f.stock blocks) h.contents (half_reach h) of (known_first f h blocks keeps made.sound) in
        subst (Keeps (record f { locks = locks; versions = versions; notes = notes; floor = floor; sessions = sessions; stock = stock })) (sym after_is)
        (subst (λ (x : StockView). Keeps (record f { locks = locks; versions = versions; notes = notes; floor = floor; sessions = sessions; stock = x }) after) (sym stocked) (record {
          options = keeps.options;
          locks = locked ∙ ap (λ m. without_locks m s) keeps.locks;
          floor = floored ∙ made.floor_is;
          sessions = set ∙ fields_with f h s ended keeps;
          now = ap (λ (t : VersionTable). t.now) was ∙ now_after f h c keeps made.reached made.rising after refl refl;
          commits = commits_after f h c keeps made.reached made.rising after refl refl;
          rows = λ row. ap (λ (t : VersionTable). versions_of t.rows row) was ∙ rows_after f h c keeps made.reached made.rising after refl refl row;
          notes = left ∙ notes_after f h c keeps made.reached made.rising after refl refl;
          next = grown_done.next_is ∙ next_planned f blocks of plan made.planned made.plan_is ∙ all.next;
          held = held_done;
          live = All-from_recursion (λ (x : Stocked). is_live done.holdings x.birth ≡ true) done.stocked
              (each_weaker (λ (x : Stocked). (is_live done.holdings x.birth ≡ true) ⊎ (is_live done.holdings x.birth ≡ true)) (λ x. is_live done.holdings x.birth ≡ true) done.stocked (λ x either. one_of either) grown_done.live);
          contents = All-from_recursion (λ (x : Stocked). content_of (contents_after h.contents (half_reach h) of) x.birth ≡ Some x.content) done.stocked grown_done.known;
          none_left = refl;
        }))
      where
        one_of : {A : Type 0} → A ⊎ A → A
        one_of (inl a) = a
        one_of (inr a) = a

-- what a flush of a commit brings
pub commit_made_of : (f now : Fields) (s : ℕ) (blocks : List ℕ) (of : List Cut) (rows c : Rows) (kept : List ℕ) (plan : Plan) (commit : CommitPlan) → f ≡ now → IsSound f.stock → f.floor ≤ f.versions.now → IsPublication now s blocks of (rule.Commits rows) kept
    → planned_by f.stock plan ≡ planned_all (unplanned f.stock blocks) of → plans.IsPlan f.stock plan → c ≡ settle rows (planned_births (unplanned f.stock blocks) of)
    → IsStrictlySortedBy name_cmp (keys_of c) → commits.IsPlan f.versions f.notes c commit → commit.floor ≡ floor_after f.options f.floor (f.versions.now + 1) → IsCommitMade f s blocks of rows c kept plan commit
commit_made_of f now s blocks of rows c kept plan commit same sound reached brings planned plan_is settled_is rising commit_is floor_is =
    let own = subst (λ (x : Fields). IsPublication x s blocks of (rule.Commits rows) kept) (sym same) brings in
    record {
      sound = sound;
      has = own.has;
      reached = reached;
      cuts_are = own.cuts_are;
      places = own.places;
      enough = own.enough;
      kept_stocked = own.kept_stocked;
      named = own.named;
      planned = planned;
      plan_is = plan_is;
      settled_is = settled_is;
      rising = rising;
      commit_is = commit_is;
      floor_is = floor_is;
    }

-- the session's field once its promise has ended, and its transaction too
get_put : (xs : List SessionField) (i : ℕ) (d y : SessionField) → i < length xs → unwrap_or (slice_get (slice_set xs i y) i) d ≡ y
get_put [] i d y within = absurd (omega (arith, within))
get_put (x ∷ xs) zero d y within = refl
get_put (x ∷ xs) (suc i) d y within = get_put xs i d y (omega (arith, within))

put_twice : (xs : List SessionField) (i : ℕ) (y z : SessionField) → slice_set (slice_set xs i y) i z ≡ slice_set xs i z
put_twice [] i y z = refl
put_twice (x ∷ xs) zero y z = refl
put_twice (x ∷ xs) (suc i) y z = ap (λ (ys : List SessionField). x ∷ ys) (put_twice xs i y z)

pub field_ended : (f : Fields) (h : Half) (s : ℕ) (kept : List ℕ) (has_ended : Bool) (first then : List SessionField) → Keeps f h → HasField f s → first ≡ slice_set f.sessions (s - 1) (record (field_at f s) { promise = None })
    → then ≡ set_to first s false has_ended → has_ended ≡ (field_at f s).has_ended → then ≡ slice_set f.sessions (s - 1) (session_field (record (kept_at h s) { births = kept; is_open = false; promise = None }))
field_ended f h s kept has_ended first then keeps has set set_then same =
    let own : SessionField = record (field_at f s) { promise = None } in
    let within : s - 1 < length f.sessions = let low = has.low in let high = has.high in omega (arith, low, high) in
    set_then
    ∙ ap (λ (xs : List SessionField). set_to xs s false has_ended) set
    ∙ ap (λ (x : SessionField). slice_set (slice_set f.sessions (s - 1) own) (s - 1) (record x { is_open = false; has_ended = has_ended })) (get_put f.sessions (s - 1) (session_field new_kept) own within)
    ∙ put_twice f.sessions (s - 1) own (record own { is_open = false; has_ended = has_ended })
    ∙ ap (λ e. slice_set f.sessions (s - 1) (record (field_at f s) { promise = None; is_open = false; has_ended = e })) same
    ∙ ap (λ (x : SessionField). slice_set f.sessions (s - 1) (record x { promise = None; is_open = false })) (field_is f h s keeps)

pub few_then : (first then : List SessionField) (s promised : ℕ) (has_ended : Bool) → 1 ≤ s → s ≤ length first → promised ≡ sum_by promised_blocks first → then ≡ set_to first s false has_ended → promised ≡ sum_by promised_blocks then
few_then first then s promised has_ended low high sum set = sum ∙ sym (ap (sum_by promised_blocks) set ∙ promised_same first s false has_ended low high)
