-- Fields that keep a half keep it after one commit more.
use Rattle.std.proofs.Common.{◌≡◌, ℕ, ◌+◌, ◌-◌, ◌≤◌, ◌<◌, true, false, cond, List, [], ◌∷◌, ◌++◌, length, drop, map, refl, sym, ap, subst, ◌∙◌, arith}
use Rattle.std.specs.Prelude.{filter, max, slice_set, Some}
use Rattle.std.specs.List.{AllByRecursion as Each}
use Rattle.std.specs.List.Sorted.{IsStrictlySortedBy}
use Rattle.std.specs.Map.{keys_of}
use Rattle.std.proofs.lemmas.List.{length-append}
use Rattle.sf_types.specs.declared.holder.Holder.{Holder}
use Rattle.sf_types.specs.declared.holder.Holder.TheVariants as holder
use Rattle.sf_types.specs.declared.options.Options.{Options}
use Rattle.sf_types.specs.Inside.NameMaps.{NameMap}
use Rattle.sf_types.specs.Values.Names.{name_cmp}
use Rattle.sf_types.specs.Table.Parts.{Rows}
use Rattle.sf_types.specs.Calls.TransactionEnds.{floor_after}
use Rattle.sf_types.specs.Space.Reach.{is_kept}
use Rattle.sf_types.specs.Space.Use.{content_of}
use Rattle.sf_types.specs.Halves.Asks.{Half, Kept, with_kept}
use Rattle.sf_types.specs.Halves.Flushes.{table_of_half}
use Rattle.sf_laws.proofs.EachLemmas.{each-filter}
use Rattle.sf_laws.proofs.HeldStepLemmas.{floor_rises}
use Rattle.sf_lifetimes.specs.Ledgers.{Holdings, held_by}
use Rattle.sf_retention.specs.declared.retention.Note.{Note}
use Rattle.sf_retention.specs.declared.retention.Pair.{Pair}
use Rattle.sf_retention.specs.Notes.{due_pairs, pair_of}
use Rattle.sf_stock.specs.Stocks.{StockView, with_left_parked}
use Rattle.sf_versions.specs.RowChanges.{changes_of}
use Rattle.sf_versions.specs.VersionTables.{AreCommits, VersionTable, after_commit, versions_of}
use Rattle.sf_store_half.specs.declared.session_fields.SessionField.{SessionField}
use Rattle.sf_store_half.specs.Fields.{Fields, Keeps, held_in, kept_versions, notes_of, session_field}
use Rattle.sf_store_half.specs.Inside.Commits.{displaced_notes, holdings_with, row_births}
use Rattle.sf_store_half.specs.Inside.Floors.{AreDisplaced, holdings_without, versions_without}
use Rattle.sf_store_half.proofs.BetweenLemmas.{IsBetween, all_since, live_between}
use Rattle.sf_store_half.proofs.CommitLemmas.{hold_committed, rows_committed}
use Rattle.sf_store_half.proofs.CommitNoteLemmas.{due_up_to, left_up_to, notes_committed}
use Rattle.sf_store_half.proofs.FloorLemmas.{each_of, kept_at_number, kept_is, within_last}
use Rattle.sf_store_half.proofs.GivenUpLemmas.{HoldVersions}
use Rattle.sf_store_half.proofs.NoteLemmas.{is_noted, notes_between}
use Rattle.sf_store_half.proofs.RaisedKeepsLemmas.{others_hold, same_now}
use Rattle.sf_store_half.proofs.RaisedLemmas.{IsRaised, raised}
use Rattle.sf_store_half.proofs.SettledLemmas.{fields_with}
use Rattle.sf_store_half.proofs.VersionHoldLemmas.{births_of_version, version_held}

-- the floor after a commit is at most the commit's number
floor_high : (options : Options) (floor n : ℕ) → floor ≤ n → floor_after options floor n ≤ n
floor_high options floor n low =
    elim options.max as (λ t. cond t floor (max floor (n - options.retention)) ≤ n) [
      | true ↦ low
      | false ↦ omega (arith, low)
    ]

commits_pushed : (commits : List Rows) (c : Rows) → AreCommits commits → IsStrictlySortedBy name_cmp (keys_of c) → AreCommits (commits ++ c ∷ [])
commits_pushed [] c are rising = (rising, tt)
commits_pushed (d ∷ commits) c are rising = (are.0, commits_pushed commits c are.1 rising)

module _ (f : Fields) (h : Half) (c : Rows) (keeps : Keeps f h) (reached : f.floor ≤ f.versions.now) (rising : IsStrictlySortedBy name_cmp (keys_of c)) where
  -- The commits with this one, the floor then, the notes and those that are due, the versions, and what they hold.
  abbrev pub commits_then : List Rows
  commits_then = h.commits ++ c ∷ []

  abbrev pub floor_then : ℕ
  floor_then = floor_after f.options f.floor (f.versions.now + 1)

  abbrev pub notes_then : List Note
  notes_then = f.notes ++ displaced_notes f.versions c

  abbrev pub due_then : List Pair
  due_then = due_pairs notes_then floor_then

  abbrev pub versions_then : VersionTable
  versions_then = after_commit f.versions c

  abbrev pub holdings_then : Holdings
  holdings_then = holdings_with f.stock.holdings (f.versions.now + 1) (row_births c)

  within : h.floor ≤ length h.commits
  within = let floor = keeps.floor in let now = keeps.now in omega (arith, reached, floor, now)

  count : length commits_then ≡ f.versions.now + 1
  count = let size = length-append h.commits (c ∷ []) in let now = keeps.now in omega (arith, size, now)

  low : h.floor ≤ floor_then
  low = let floor = keeps.floor in let rises = floor_rises f.options f.floor (f.versions.now + 1) in omega (arith, floor, rises)

  pub high : floor_then ≤ length commits_then
  high = let top = floor_high f.options f.floor (f.versions.now + 1) (omega (arith, reached)) in let size = count in omega (arith, top, size)

  kept_now : (row : List ℕ) → versions_of f.versions.rows row ≡ kept_at_number h.commits h.floor row
  kept_now row = keeps.rows row ∙ kept_is h row within

  below : (row : List ℕ) → Each (λ v. v.0 < f.versions.now + 1) (versions_of f.versions.rows row)
  below row =
      let now = keeps.now in
      subst (Each (λ v. v.0 < f.versions.now + 1)) (sym (keeps.rows row))
      (each-filter (λ v. v.0 < f.versions.now + 1) (λ v. is_kept (table_of_half h) row v.0) (changes_of 0 h.commits row)
      (each_of (λ v. v.0 ≤ 0 + length h.commits) (λ v. v.0 < f.versions.now + 1) (changes_of 0 h.commits row) (λ v most. omega (arith, most, now)) (within_last 0 h.commits row)))

  -- what versions hold before the commit and after it
  pub hold_now : HoldVersions f.stock.holdings f.versions
  hold_now row n = keeps.held (holder.Version row n) ∙ version_held h row n ∙ ap (λ vs. births_of_version vs n) (sym (keeps.rows row))

  pub hold_then : HoldVersions holdings_then versions_then
  hold_then = hold_committed f.versions f.stock.holdings c rising below hold_now

  are_then : AreCommits commits_then
  are_then = commits_pushed h.commits c keeps.commits rising

  all_notes : notes_then ≡ filter (is_noted h.floor) (notes_between commits_then 1 (length commits_then))
  all_notes =
      ap (λ (ns : List Note). ns ++ displaced_notes f.versions c) keeps.notes ∙ notes_committed f.versions h.commits c h.floor keeps.now within kept_now

  pub raised_then : (m : Holdings) → HoldVersions m versions_then → IsRaised commits_then floor_then due_then versions_then m
  raised_then m held =
      let up_to : h.floor + (floor_then - h.floor) ≡ floor_then = let rises = low in omega (arith, rises) in
      let top = high in
      subst (λ ps. IsRaised commits_then floor_then ps versions_then m) (sym (due_up_to commits_then notes_then h.floor floor_then low high all_notes))
      (subst (λ n. IsRaised commits_then n (map pair_of (notes_between commits_then (h.floor + 1) (floor_then - h.floor))) versions_then m) up_to
      (raised commits_then h.floor (floor_then - h.floor) are_then (omega (arith, up_to, top)) versions_then m
      (rows_committed f.versions h.commits c h.floor keeps.now within rising kept_now) held))

  -- the versions that are displaced by then
  pub displaced_then : AreDisplaced versions_then due_then
  displaced_then = (raised_then holdings_then hold_then).displaced_each

  -- a half after the commit, whatever its contents, locks and sessions are
  module _ (after : Half) (commits : after.commits ≡ commits_then) (floor : after.floor ≡ floor_then) where
    high_after : after.floor ≤ length after.commits
    high_after = let top = high in let size : length after.commits ≡ length commits_then = ap (λ (cs : List Rows). length cs) commits in omega (arith, top, size, floor)

    kept_after : (row : List ℕ) → kept_versions after row ≡ kept_at_number commits_then floor_then row
    kept_after row = kept_is after row high_after ∙ ap (λ n. kept_at_number after.commits n row) floor ∙ ap (λ (cs : List Rows). kept_at_number cs floor_then row) commits

    pub rows_after : (row : List ℕ) → versions_of (versions_without versions_then due_then).rows row ≡ kept_versions after row
    rows_after row = (raised_then holdings_then hold_then).rows row ∙ sym (kept_after row)

    pub notes_after : drop (length due_then) notes_then ≡ notes_of after
    notes_after =
        left_up_to commits_then notes_then h.floor floor_then low high all_notes
        ∙ ap (λ n. filter (is_noted n) (notes_between commits_then 1 (length commits_then))) (sym floor)
        ∙ ap (λ (cs : List Rows). filter (is_noted after.floor) (notes_between cs 1 (length cs))) (sym commits)

    pub now_after : (versions_without versions_then due_then).now ≡ length after.commits
    now_after = same_now versions_then due_then ∙ sym (ap (λ (cs : List Rows). length cs) commits ∙ count)

    pub commits_after : AreCommits after.commits
    commits_after = subst AreCommits (sym commits) are_then

    pub held_after_commit : (m : Holdings) → HoldVersions m versions_then → ((t : ℕ) → held_by m (holder.Session t) ≡ held_in after (holder.Session t)) → ((t : ℕ) → held_by m (holder.Promise t) ≡ held_in after (holder.Promise t))
        → (x : Holder) → held_by (holdings_without m due_then) x ≡ held_in after x
    held_after_commit m held sessions promises (holder.Version row n) =
        let is = raised_then m held in
        is.held row n ∙ ap (λ vs. births_of_version vs n) (is.rows row ∙ sym (kept_after row)) ∙ sym (version_held after row n)
    held_after_commit m held sessions promises (holder.Session t) = others_hold m due_then (holder.Session t) (λ row n. refl) ∙ sessions t
    held_after_commit m held sessions promises (holder.Promise t) = others_hold m due_then (holder.Promise t) (λ row n. refl) ∙ promises t

  -- the fields after the commit of a session
  pub committed_keeps : (s : ℕ) (k : Kept) (locks half_locks : NameMap ℕ) (sessions : List SessionField) (now : StockView) → IsBetween f.stock now → locks ≡ half_locks → sessions ≡ slice_set f.sessions (s - 1) (session_field k)
      → ((x : Holder) → held_by now.holdings x ≡ held_in (record (with_kept h s k) { commits = commits_then; floor = floor_then; locks = half_locks }) x)
      → Keeps (record f { locks = locks; versions = versions_without versions_then due_then; notes = drop (length due_then) notes_then; floor = floor_then; sessions = sessions; stock = with_left_parked now })
      (record (with_kept h s k) { commits = commits_then; floor = floor_then; locks = half_locks })
  committed_keeps s k locks half_locks sessions now between locked set held =
      let after : Half = record (with_kept h s k) { commits = commits_then; floor = floor_then; locks = half_locks } in
      record {
        options = keeps.options;
        locks = locked;
        floor = refl;
        sessions = set ∙ fields_with f h s k keeps;
        now = now_after after refl refl;
        commits = commits_after after refl refl;
        rows = rows_after after refl refl;
        notes = notes_after after refl refl;
        next = between.next ∙ keeps.next;
        held = held;
        live = live_between f.stock now between;
        contents = all_since (λ x. content_of h.contents x.birth ≡ Some x.content) f.stock now between.since keeps.contents;
        none_left = refl;
      }
