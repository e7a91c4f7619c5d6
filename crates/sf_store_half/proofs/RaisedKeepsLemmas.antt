-- Fields that keep a half keep it at a higher floor, once the versions that are due there are given up.
use Rattle.std.proofs.Common.{◌≡◌, ℕ, ◌+◌, ◌-◌, ◌≤◌, false, cond, List, [], ◌∷◌, ◌++◌, length, drop, map, Some, refl, sym, ap, subst, ◌∙◌, arith}
use Rattle.std.specs.Prelude.{filter}
use Rattle.std.proofs.lemmas.List.{length-map}
use Rattle.sf_types.specs.declared.holder.Holder.{Holder}
use Rattle.sf_types.specs.declared.holder.Holder.TheVariants as holder
use Rattle.sf_types.specs.Space.Use.{content_of}
use Rattle.sf_types.specs.Halves.Asks.{Half}
use Rattle.sf_types.specs.Halves.Flushes.{half_at}
use Rattle.sf_lifetimes.specs.Ledgers.{Holdings, held_by, with_births}
use Rattle.sf_retention.specs.declared.retention.Note.{Note}
use Rattle.sf_retention.specs.declared.retention.Pair.{Pair}
use Rattle.sf_retention.specs.Notes.{due_pairs, pair_of}
use Rattle.sf_stock.specs.Stocks.{StockView, IsSound, with_holder, with_left_parked}
use Rattle.sf_versions.specs.VersionTables.{VersionTable, without_version}
use Rattle.sf_store_half.specs.Fields.{Fields, Keeps, held_in, notes_of}
use Rattle.sf_store_half.specs.Inside.Floors.{holdings_without, stock_without, versions_without}
use Rattle.sf_store_half.proofs.BetweenLemmas.{IsBetween, all_since, between_held, between_itself, live_between}
use Rattle.sf_store_half.proofs.FloorLemmas.{kept_is}
use Rattle.sf_store_half.proofs.HeldLemmas.{held_after, is_holder}
use Rattle.sf_store_half.proofs.NoteLemmas.{due_are, is_noted, notes_between, notes_from_floor}
use Rattle.sf_store_half.proofs.RaisedLemmas.{IsRaised, raised}
use Rattle.sf_store_half.proofs.VersionHoldLemmas.{births_of_version, version_held}

pub same_holdings : (s : StockView) (ps : List Pair) → (stock_without s ps).holdings ≡ holdings_without s.holdings ps
same_holdings s [] = refl
same_holdings s (p ∷ ps) = same_holdings (with_holder s (holder.Version p.name p.from) []) ps

-- giving up versions is a change of holders
pub between_without : (before s : StockView) (ps : List Pair) → IsBetween before s → IsBetween before (stock_without s ps)
between_without before s [] between = between
between_without before s (p ∷ ps) between = between_without before (with_holder s (holder.Version p.name p.from) []) ps (between_held before s (with_births s.holdings (holder.Version p.name p.from) []) between)

pub same_now : (t : VersionTable) (ps : List Pair) → (versions_without t ps).now ≡ t.now
same_now t [] = refl
same_now t (p ∷ ps) = same_now (without_version t p.name p.from) ps

-- who is no version holds what it held
pub others_hold : (m : Holdings) (ps : List Pair) (x : Holder) → ((row : List ℕ) (n : ℕ) → is_holder x (holder.Version row n) ≡ false) → held_by (holdings_without m ps) x ≡ held_by m x
others_hold m [] x apart = refl
others_hold m (p ∷ ps) x apart =
    others_hold (with_births m (holder.Version p.name p.from) []) ps x apart
    ∙ held_after m (holder.Version p.name p.from) [] x
    ∙ ap (λ t. cond {A = List ℕ} t [] (held_by m x)) (apart p.name p.from)

-- what is left behind the first items of a list
behind : (xs ys : List Note) → drop (length xs) (xs ++ ys) ≡ ys
behind [] ys = refl
behind (x ∷ xs) ys = behind xs ys

-- the fields once the floor is raised
abbrev pub fields_raised : Fields → ℕ → Fields
fields_raised f floor = record f {
  floor = floor;
  versions = versions_without f.versions (due_pairs f.notes floor);
  notes = drop (length (due_pairs f.notes floor)) f.notes;
  stock = stock_without f.stock (due_pairs f.notes floor);
}

module _ (f : Fields) (h : Half) (floor : ℕ) (keeps : Keeps f h) (low : h.floor ≤ floor) (high : floor ≤ length h.commits) where
  up_to : h.floor + (floor - h.floor) ≡ floor
  up_to = omega (arith, low)

  pairs_due : due_pairs f.notes floor ≡ map pair_of (notes_between h.commits (h.floor + 1) (floor - h.floor))
  pairs_due =
      ap (λ (ns : List Note). due_pairs ns floor) keeps.notes
      ∙ ap (due_pairs (notes_of h)) (sym up_to)
      ∙ due_are h.commits h.floor (floor - h.floor) (omega (arith, up_to, high))

  pub notes_left : drop (length (due_pairs f.notes floor)) f.notes ≡ notes_of (half_at h floor)
  notes_left =
      let all = notes_between h.commits (h.floor + 1) (floor - h.floor) in
      ap (λ (ps : List Pair). drop (length ps) f.notes) pairs_due
      ∙ ap (λ n. drop n f.notes) (length-map all pair_of)
      ∙ ap (drop (length all)) (keeps.notes ∙ notes_from_floor h.commits h.floor (floor - h.floor) (omega (arith, up_to, high)))
      ∙ behind all (filter (is_noted (h.floor + (floor - h.floor))) (notes_between h.commits 1 (length h.commits)))
      ∙ ap (λ n. filter (is_noted n) (notes_between h.commits 1 (length h.commits))) up_to

  pub is_raised : IsRaised h.commits floor (due_pairs f.notes floor) f.versions f.stock.holdings
  is_raised =
      subst (λ ps. IsRaised h.commits floor ps f.versions f.stock.holdings) (sym pairs_due)
      (subst (λ n. IsRaised h.commits n (map pair_of (notes_between h.commits (h.floor + 1) (floor - h.floor))) f.versions f.stock.holdings) up_to
      (raised h.commits h.floor (floor - h.floor) keeps.commits (omega (arith, up_to, high)) f.versions f.stock.holdings
      (λ row. keeps.rows row ∙ kept_is h row (omega (arith, low, high)))
      (λ row n. keeps.held (holder.Version row n) ∙ version_held h row n ∙ ap (λ vs. births_of_version vs n) (sym (keeps.rows row)))))

  pub held_raised : (x : Holder) → held_by (stock_without f.stock (due_pairs f.notes floor)).holdings x ≡ held_in (half_at h floor) x
  held_raised x = ap (λ m. held_by m x) (same_holdings f.stock (due_pairs f.notes floor)) ∙ by_kind x
    where
      by_kind : (y : Holder) → held_by (holdings_without f.stock.holdings (due_pairs f.notes floor)) y ≡ held_in (half_at h floor) y
      by_kind (holder.Version row n) =
          is_raised.held row n
          ∙ ap (λ vs. births_of_version vs n) (is_raised.rows row ∙ sym (kept_is (half_at h floor) row high))
          ∙ sym (version_held (half_at h floor) row n)
      by_kind (holder.Session s) = others_hold f.stock.holdings (due_pairs f.notes floor) (holder.Session s) (λ row n. refl) ∙ keeps.held (holder.Session s)
      by_kind (holder.Promise s) = others_hold f.stock.holdings (due_pairs f.notes floor) (holder.Promise s) (λ row n. refl) ∙ keeps.held (holder.Promise s)

  -- the births that still have places are held, each with its content, and nothing else is changed
  pub raised_keeps : IsSound f.stock → (s : StockView) → s ≡ with_left_parked (stock_without f.stock (due_pairs f.notes floor)) → Keeps (record (fields_raised f floor) { stock = s }) (half_at h floor)
  raised_keeps sound s is =
      let between = between_without f.stock f.stock (due_pairs f.notes floor) (between_itself f.stock keeps.none_left sound keeps.live) in
      subst (λ (v : StockView). Keeps (record (fields_raised f floor) { stock = v }) (half_at h floor)) (sym is) (record {
        options = keeps.options;
        locks = keeps.locks;
        floor = refl;
        sessions = keeps.sessions;
        now = same_now f.versions (due_pairs f.notes floor) ∙ keeps.now;
        commits = keeps.commits;
        rows = λ row. is_raised.rows row ∙ sym (kept_is (half_at h floor) row high);
        notes = notes_left;
        next = between.next ∙ keeps.next;
        held = held_raised;
        live = live_between f.stock (stock_without f.stock (due_pairs f.notes floor)) between;
        contents = all_since (λ x. content_of h.contents x.birth ≡ Some x.content) f.stock (stock_without f.stock (due_pairs f.notes floor)) between.since keeps.contents;
        none_left = refl;
      })
