-- The births that are found for a promise.
use Rattle.std.proofs.Common.{◌≡◌, ℕ, ◌+◌, ◌≤◌, Bool, true, false, cond, List, [], ◌∷◌, length, map, Option, Some, None, refl, sym, ap, ◌∙◌}
use Rattle.std.specs.Prelude.{◌||◌, ◌==◌, ◌&&◌, not, All, IfSome, filter, filter_map, find}
use Rattle.std.specs.List.{AllByRecursion as Each, cons_option, list_any}
use Rattle.std.specs.Option.{option_map}
use Rattle.std.proofs.lemmas.List.Elements.{All-from_recursion, recursion_from_All}
use Rattle.sf_types.proofs.BoolLemmas.{or-true}
use Rattle.sf_types.proofs.NumberLemmas.{own_number}
use Rattle.sf_types.specs.declared.holder.Holder.{Holder}
use Rattle.sf_types.specs.declared.holder.Holder.TheVariants as holder
use Rattle.sf_types.specs.Inside.Births.{rising_births}
use Rattle.sf_types.specs.Space.Cuts.{Cut}
use Rattle.sf_types.specs.Space.Promises.{found_birth, found_births, is_shared_as}
use Rattle.sf_types.specs.Space.Use.{content_of}
use Rattle.sf_types.specs.Halves.Asks.{Half, with_kept_births}
use Rattle.sf_types.specs.Halves.Flushes.{half_at, half_reach}
use Rattle.sf_laws.proofs.EachLemmas.{each-filter_map, each_weaker}
use Rattle.sf_laws.proofs.ReachLemmas.{each-rising}
use Rattle.sf_lifetimes.specs.Ledgers.{Holdings, has_birth, held_by, is_live, with_births, without_holders}
use Rattle.sf_dedup.specs.Contents.{Contents}
use Rattle.sf_retention.specs.declared.retention.Pair.{Pair}
use Rattle.sf_retention.specs.Notes.{due_pairs}
use Rattle.sf_stock.specs.Stocks.{Stocked, IsSound, has_left, is_shared_with, is_stocked, shared_birth, with_holder}
use Rattle.sf_store_half.specs.Fields.{Fields, Keeps, is_session}
use Rattle.sf_store_half.specs.Inside.CutNotes.{notes_from, stocked_birth, with_first}
use Rattle.sf_store_half.specs.Inside.Promises.{holders_at, reached_at}
use Rattle.sf_store_half.specs.Inside.Trials.{births_found, found_among, version_of}
use Rattle.sf_store_half.proofs.HeldLemmas.{held_after, is_holder}
use Rattle.sf_store_half.proofs.LiveLemmas.{holder_live, none_holds}
use Rattle.sf_store_half.proofs.StockLemmas.{found_by_births}
use Rattle.sf_store_half.proofs.TriedCutLemmas.{each_passing, found_if_passing, kept_if}
use Rattle.sf_store_half.proofs.TriedHalfLemmas.{held_where_gone, tried_reach}
use Rattle.sf_store_half.proofs.TriedLemmas.{live_with, own_session, stocked_filtered}

-- ---- they are those of the half
module _ (f : Fields) (h : Half) (floor s : ℕ) (births : List ℕ) (keeps : Keeps f h) (low : h.floor ≤ floor) (high : floor ≤ length h.commits) (is : is_session h s ≡ true) (sound : IsSound f.stock)
    (brought : All (λ b. is_stocked f.stock.stocked b ≡ true) births) where
  abbrev reach : List ℕ
  reach = half_reach (half_at (with_kept_births h s births) floor)

  one_found : (cut : Cut) (t : Bool) → cut.is_sharing ≡ t → kept_if (reached_at f s births floor) (stocked_birth f.stock.stocked cut) ≡ found_birth h.contents reach cut
  one_found cut true shares =
      let test = reached_at f s births floor in
      let known = recursion_from_All (λ (x : Stocked). content_of h.contents x.birth ≡ Some x.content) f.stock.stocked keeps.contents in
      ap (λ t. kept_if test (cond {A = Option ℕ} t (shared_birth f.stock.stocked cut.bytes) None)) shares
      ∙ sym (found_if_passing test cut.bytes f.stock.stocked sound.shared_once)
      ∙ found_by_births h.contents cut.bytes (filter (λ y. test y.birth) f.stock.stocked) (each_passing (λ x. content_of h.contents x.birth ≡ Some x.content) test f.stock.stocked known)
      ∙ ap (find (is_shared_as h.contents cut.bytes)) (tried_reach f h floor s births keeps low high is sound brought)
      ∙ sym (ap (λ t. cond {A = Option ℕ} t (find (is_shared_as h.contents cut.bytes) reach) None) shares)
  one_found cut false alone =
      ap (λ t. kept_if (reached_at f s births floor) (cond {A = Option ℕ} t (shared_birth f.stock.stocked cut.bytes) None)) alone
      ∙ sym (ap (λ t. cond {A = Option ℕ} t (find (is_shared_as h.contents cut.bytes) reach) None) alone)

  each_found_alike : (firsts : Contents) (at : ℕ) (cuts : List Cut) → filter_map (found_among (reached_at f s births floor)) (notes_from f.stock.stocked firsts at cuts) ≡ filter_map (found_birth h.contents reach) cuts
  each_found_alike firsts at [] = refl
  each_found_alike firsts at (cut ∷ cuts) =
      ap (λ (o : Option ℕ). cons_option o (filter_map (found_among (reached_at f s births floor)) (notes_from f.stock.stocked (with_first firsts at cut) (at + 1) cuts))) (one_found cut cut.is_sharing refl)
      ∙ ap (λ (bs : List ℕ). cons_option (found_birth h.contents reach cut) bs) (each_found_alike (with_first firsts at cut) (at + 1) cuts)

  pub found_where_tried : (cuts : List Cut) → births_found (reached_at f s births floor) (notes_from f.stock.stocked [] 0 cuts) ≡ found_births h.contents reach cuts
  found_where_tried cuts = ap rising_births (each_found_alike [] 0 cuts)

-- ---- each of them has a place
shared_stocked : (xs : List Stocked) (bytes : List ℕ) → IfSome (shared_birth xs bytes) (λ b. is_stocked xs b ≡ true)
shared_stocked [] bytes = tt
shared_stocked (x ∷ xs) bytes =
    let rest = shared_stocked xs bytes in
    elim (is_shared_with bytes x) as (λ u. IfSome (option_map {U = ℕ} (λ (y : Stocked). y.birth) (cond u (Some x) (find (is_shared_with bytes) xs))) (λ b. ((b == x.birth) || is_stocked xs b) ≡ true)) [
      | true ↦ ap (λ t. t || is_stocked xs x.birth) (own_number x.birth)
      | false ↦ later (shared_birth xs bytes) rest
    ]
  where
    later : (o : Option ℕ) → IfSome o (λ b. is_stocked xs b ≡ true) → IfSome o (λ b. ((b == x.birth) || is_stocked xs b) ≡ true)
    later None there = tt
    later (Some b) there = or-true (b == x.birth) (is_stocked xs b) there

note_stocked : (xs : List Stocked) (cut : Cut) → IfSome (stocked_birth xs cut) (λ b. is_stocked xs b ≡ true)
note_stocked xs cut =
    elim cut.is_sharing as (λ t. IfSome (cond {A = Option ℕ} t (shared_birth xs cut.bytes) None) (λ b. is_stocked xs b ≡ true)) [
      | true ↦ shared_stocked xs cut.bytes
      | false ↦ tt
    ]

-- a birth that is found has a place and is reached
abbrev pub IsFoundBirth : Fields → ℕ → List ℕ → ℕ → ℕ → Type 0
IsFoundBirth f s births floor b = (is_stocked f.stock.stocked b ≡ true) × (reached_at f s births floor b ≡ true)

notes_found : (f : Fields) (s floor : ℕ) (births : List ℕ) (firsts : Contents) (at : ℕ) (cuts : List Cut)
    → Each (λ note. IfSome (found_among (reached_at f s births floor) note) (IsFoundBirth f s births floor)) (notes_from f.stock.stocked firsts at cuts)
notes_found f s floor births firsts at [] = tt
notes_found f s floor births firsts at (cut ∷ cuts) =
    (by_birth (stocked_birth f.stock.stocked cut) (note_stocked f.stock.stocked cut), notes_found f s floor births (with_first firsts at cut) (at + 1) cuts)
  where
    by_birth : (o : Option ℕ) → IfSome o (λ b. is_stocked f.stock.stocked b ≡ true) → IfSome (kept_if (reached_at f s births floor) o) (IsFoundBirth f s births floor)
    by_birth None there = tt
    by_birth (Some b) there =
        elim (reached_at f s births floor b) as (λ t. reached_at f s births floor b ≡ t → IfSome (cond {A = Option ℕ} t (Some b) None) (IsFoundBirth f s births floor)) [
          | true ↦ λ passes. (there, passes)
          | false ↦ λ _. tt
        ] refl

each_found_birth : (f : Fields) (s floor : ℕ) (births : List ℕ) (cuts : List Cut) → Each (IsFoundBirth f s births floor) (births_found (reached_at f s births floor) (notes_from f.stock.stocked [] 0 cuts))
each_found_birth f s floor births cuts =
    each-rising (IsFoundBirth f s births floor) (filter_map (found_among (reached_at f s births floor)) (notes_from f.stock.stocked [] 0 cuts))
    (each-filter_map (IsFoundBirth f s births floor) (found_among (reached_at f s births floor)) (notes_from f.stock.stocked [] 0 cuts) (notes_found f s floor births [] 0 cuts))

-- ---- and still has it once the session holds its births
unheld_alike : (m : Holdings) (x : Holder) (b : ℕ) → is_live m b ≡ false → has_birth (held_by m x) b ≡ false
unheld_alike m x b dead =
    elim (has_birth (held_by m x) b) as (λ t. has_birth (held_by m x) b ≡ t → t ≡ false) [
      | true ↦ λ has. absurd (let bad : true ≡ false = sym (holder_live m x b has) ∙ dead in cc)
      | false ↦ λ _. refl
    ] refl

-- a birth that others than a session and some versions hold is held by others than the session
live_beside : (m : Holdings) (s : ℕ) (ps : List Pair) (b : ℕ) → is_live (without_holders m (holder.Session s ∷ map version_of ps)) b ≡ true → is_live (with_births m (holder.Session s) []) b ≡ true
live_beside m s ps b live =
    let gone = without_holders m (map version_of ps) in
    elim (is_live (with_births m (holder.Session s) []) b) as (λ t. is_live (with_births m (holder.Session s) []) b ≡ t → t ≡ true) [
      | true ↦ λ _. refl
      | false ↦ λ dead.
          sym (none_holds (with_births gone (holder.Session s) []) b (λ x.
          ap (λ bs. has_birth bs b) (held_after gone (holder.Session s) [] x ∙ ap (cond {A = List ℕ} (is_holder x (holder.Session s)) []) (held_where_gone m ps x))
          ∙ nobody (is_holder x (holder.Session s)) (list_any (λ p. is_holder x (version_of p)) ps) (held_by m x)
          (ap (λ bs. has_birth bs b) (sym (held_after m (holder.Session s) [] x)) ∙ unheld_alike (with_births m (holder.Session s) []) x b dead))) ∙ live
    ] refl
  where
    nobody : (t u : Bool) (bs : List ℕ) → has_birth (cond {A = List ℕ} t [] bs) b ≡ false → has_birth (cond {A = List ℕ} t [] (cond {A = List ℕ} u [] bs)) b ≡ false
    nobody true u bs none = refl
    nobody false true bs none = refl
    nobody false false bs none = none

stays_stocked : (f : Fields) (s floor : ℕ) (births : List ℕ) (b : ℕ) → IsFoundBirth f s births floor b → is_stocked (with_holder f.stock (holder.Session s) births).stocked b ≡ true
stays_stocked f s floor births b found =
    let m = f.stock.holdings in
    let after = with_births m (holder.Session s) births in
    let held : is_live after b ≡ true =
    live_with m (holder.Session s) births b (own_session s)
    ∙ reached (is_live (without_holders m (holders_at f s floor)) b) refl found.1 in
    stocked_filtered (λ x. not (has_left m after x)) f.stock.stocked b (ap (λ t. not (is_live m b && not t)) held ∙ stays (is_live m b)) found.0
  where
    stays : (t : Bool) → not (t && false) ≡ true
    stays true = refl
    stays false = refl

    reached : (t : Bool) → is_live (without_holders f.stock.holdings (holders_at f s floor)) b ≡ t → (t || has_birth births b) ≡ true
        → (is_live (with_births f.stock.holdings (holder.Session s) []) b || has_birth births b) ≡ true
    reached true live either = ap (λ t. t || has_birth births b) (live_beside f.stock.holdings s (due_pairs f.notes floor) b live)
    reached false dead either = or-true (is_live (with_births f.stock.holdings (holder.Session s) []) b) (has_birth births b) either

pub found_stocked : (f : Fields) (s floor : ℕ) (births : List ℕ) (cuts : List Cut)
    → All (λ b. is_stocked (with_holder f.stock (holder.Session s) births).stocked b ≡ true) (births_found (reached_at f s births floor) (notes_from f.stock.stocked [] 0 cuts))
found_stocked f s floor births cuts =
    let found = births_found (reached_at f s births floor) (notes_from f.stock.stocked [] 0 cuts) in
    All-from_recursion (λ b. is_stocked (with_holder f.stock (holder.Session s) births).stocked b ≡ true) found
    (each_weaker (IsFoundBirth f s births floor) (λ b. is_stocked (with_holder f.stock (holder.Session s) births).stocked b ≡ true) found (stays_stocked f s floor births) (each_found_birth f s floor births cuts))
