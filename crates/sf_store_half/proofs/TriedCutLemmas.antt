-- What cuts want where a promise is tried.
use Rattle.std.proofs.Common.{◌≡◌, ℕ, zero, suc, ◌+◌, ◌-◌, ◌≤◌, Bool, true, false, cond, List, [], ◌∷◌, length, map, Option, Some, None, refl, sym, ap, ◌∙◌, arith}
use Rattle.std.specs.Prelude.{All, ◌&&◌, bytes_eq, filter, find, is_some, slice_get, slice_set, sum_by, unwrap_or}
use Rattle.std.proofs.lemmas.List.Sums.{sum_by-cons}
use Rattle.std.specs.List.{AllByRecursion as Each}
use Rattle.std.specs.Option.{option_map, option_map_or}
use Rattle.std.specs.Cmp.Lexicographic.{same_text}
use Rattle.std.proofs.lemmas.List.Elements.{recursion_from_All}
use Rattle.sf_types.proofs.BoolLemmas.{both_first, both_second}
use Rattle.sf_types.specs.declared.holder.Holder.TheVariants as holder
use Rattle.sf_types.specs.Space.Cuts.{Cut}
use Rattle.sf_types.specs.Space.Promises.{is_found, is_shared_as}
use Rattle.sf_types.specs.Space.Use.{content_of, blocks_of_births}
use Rattle.sf_types.specs.Space.Contents.{blocks_of}
use Rattle.sf_types.specs.Halves.Asks.{Half, Kept, new_kept, with_kept_births}
use Rattle.sf_types.specs.Halves.Flushes.{half_at, half_free, half_reach, half_wanted_blocks, kept_blocks}
use Rattle.sf_retention.specs.Notes.{due_pairs}
use Rattle.sf_stock.specs.Stocks.{AreSharedOnce, Stocked, IsSound, block_count, is_shared_with, is_stocked, shared_birth}
use Rattle.sf_store_half.specs.Fields.{Fields, Keeps, is_session}
use Rattle.sf_store_half.specs.Inside.CutNotes.{blocks_for_all, notes_from, stocked_birth}
use Rattle.sf_store_half.specs.Inside.Fields.{promised_blocks}
use Rattle.sf_store_half.specs.Inside.Trials.{is_reached, reached_stock, version_of}
use Rattle.sf_store_half.proofs.CutNoteLemmas.{wanted_is}
use Rattle.sf_store_half.proofs.StockLemmas.{blocks_by_births, found_by_births}
use Rattle.sf_store_half.proofs.FreeLemmas.{promised_are}
use Rattle.sf_store_half.proofs.TriedHalfLemmas.{tried_reach}

none_shared : (test : ℕ → Bool) (bytes : List ℕ) (xs : List Stocked) → Each (λ y. is_shared_with bytes y ≡ false) xs → shared_birth (filter (λ y. test y.birth) xs) bytes ≡ None
none_shared test bytes [] none = refl
none_shared test bytes (x ∷ xs) none =
    elim (test x.birth) as (λ t. shared_birth (cond t (x ∷ filter (λ y. test y.birth) xs) (filter (λ y. test y.birth) xs)) bytes ≡ None) [
      | true ↦ ap (λ u. option_map {U = ℕ} (λ (y : Stocked). y.birth) (cond u (Some x) (find (is_shared_with bytes) (filter (λ y. test y.birth) xs)))) none.0 ∙ none_shared test bytes xs none.1
      | false ↦ none_shared test bytes xs none.1
    ]

-- no other birth is shared with the bytes of a shared one
others_apart : (bytes : List ℕ) (x : Stocked) (xs : List Stocked) → is_shared_with bytes x ≡ true → Each (λ y. (x.content.is_shared && is_shared_with x.content.bytes y) ≡ false) xs → Each (λ y. is_shared_with bytes y ≡ false) xs
others_apart bytes x [] is apart = tt
others_apart bytes x (y ∷ ys) is apart =
    let shared : x.content.is_shared ≡ true = both_first x.content.is_shared (bytes_eq x.content.bytes bytes) is in
    let equal : bytes_eq x.content.bytes bytes ≡ true = both_second x.content.is_shared (bytes_eq x.content.bytes bytes) is in
    let same : x.content.bytes ≡ bytes = same_text x.content.bytes bytes (sym equal) in
    (ap (λ bs. is_shared_with bs y) (sym same) ∙ ap (λ t. t && is_shared_with x.content.bytes y) (sym shared) ∙ apart.0, others_apart bytes x ys is apart.1)

-- a birth, where there is one and it passes a test
abbrev pub kept_if : (ℕ → Bool) → Option ℕ → Option ℕ
kept_if test o = cond {A = Option ℕ} (option_map_or test o false) o None

-- a shared content is found among those that pass a test under the one birth that has it, where that one passes
pub found_if_passing : (test : ℕ → Bool) (bytes : List ℕ) (xs : List Stocked) → AreSharedOnce xs → shared_birth (filter (λ y. test y.birth) xs) bytes ≡ kept_if test (shared_birth xs bytes)
found_if_passing test bytes [] once = refl
found_if_passing test bytes (x ∷ xs) once =
    let rest = found_if_passing test bytes xs once.1 in
    elim (is_shared_with bytes x) as (λ u. is_shared_with bytes x ≡ u → shared_birth (filter (λ y. test y.birth) (x ∷ xs)) bytes ≡ kept_if test (option_map {U = ℕ} (λ (y : Stocked). y.birth) (cond u (Some x) (find (is_shared_with bytes) xs)))) [
      | true ↦ λ is. here is (test x.birth) refl
      | false ↦ λ apart. beside apart (test x.birth) ∙ rest
    ] refl
  where
    here : is_shared_with bytes x ≡ true → (t : Bool) → test x.birth ≡ t → shared_birth (cond t (x ∷ filter (λ y. test y.birth) xs) (filter (λ y. test y.birth) xs)) bytes ≡ kept_if test (Some x.birth)
    here is true passes =
        ap (λ u. option_map {U = ℕ} (λ (y : Stocked). y.birth) (cond u (Some x) (find (is_shared_with bytes) (filter (λ y. test y.birth) xs)))) is
        ∙ sym (ap (λ t. cond {A = Option ℕ} t (Some x.birth) None) passes)
    here is false fails = none_shared test bytes xs (others_apart bytes x xs is once.0) ∙ sym (ap (λ t. cond {A = Option ℕ} t (Some x.birth) None) fails)

    beside : is_shared_with bytes x ≡ false → (t : Bool) → shared_birth (cond t (x ∷ filter (λ y. test y.birth) xs) (filter (λ y. test y.birth) xs)) bytes ≡ shared_birth (filter (λ y. test y.birth) xs) bytes
    beside apart true = ap (λ u. option_map {U = ℕ} (λ (y : Stocked). y.birth) (cond u (Some x) (find (is_shared_with bytes) (filter (λ y. test y.birth) xs)))) apart
    beside apart false = refl

-- so a shared content is found among those that pass a test where the one birth that has it passes
pub found_where_passing : (test : ℕ → Bool) (bytes : List ℕ) (xs : List Stocked) → AreSharedOnce xs → is_some (shared_birth (filter (λ y. test y.birth) xs) bytes) ≡ option_map_or test (shared_birth xs bytes) false
found_where_passing test bytes xs once = ap (λ (o : Option ℕ). is_some o) (found_if_passing test bytes xs once) ∙ by_birth (shared_birth xs bytes)
  where
    by_birth : (o : Option ℕ) → is_some (kept_if test o) ≡ option_map_or test o false
    by_birth None = refl
    by_birth (Some b) = elim (test b) as (λ t. is_some (cond {A = Option ℕ} t (Some b) None) ≡ t) [ true ↦ refl | false ↦ refl ]

pub each_passing : (P : Stocked → Type 0) (test : ℕ → Bool) (xs : List Stocked) → Each P xs → Each P (filter (λ y. test y.birth) xs)
each_passing P test [] all = tt
each_passing P test (x ∷ xs) all =
    let rest = each_passing P test xs all.1 in
    elim (test x.birth) as (λ t. Each P (cond t (x ∷ filter (λ y. test y.birth) xs) (filter (λ y. test y.birth) xs))) [ true ↦ (all.0, rest) | false ↦ rest ]

-- the blocks that cuts want where a promise is tried
pub wanted_where_tried : (f : Fields) (h : Half) (floor s : ℕ) (births : List ℕ) (cuts : List Cut) → Keeps f h → h.floor ≤ floor → floor ≤ length h.commits → is_session h s ≡ true → IsSound f.stock
    → All (λ b. is_stocked f.stock.stocked b ≡ true) births
    → blocks_for_all (is_reached f.stock.holdings (holder.Session s ∷ map version_of (due_pairs f.notes floor)) births) (notes_from f.stock.stocked [] 0 cuts) ≡ half_wanted_blocks (with_kept_births h s births) cuts floor
wanted_where_tried f h floor s births cuts keeps low high is sound brought =
    let test : ℕ → Bool = is_reached f.stock.holdings (holder.Session s ∷ map version_of (due_pairs f.notes floor)) births in
    let reach : List ℕ = half_reach (half_at (with_kept_births h s births) floor) in
    wanted_is test f.stock.stocked h.contents reach (λ cut. found cut cut.is_sharing refl) cuts
  where
    found : (cut : Cut) (t : Bool) → cut.is_sharing ≡ t
        → is_found h.contents (half_reach (half_at (with_kept_births h s births) floor)) cut ≡ option_map_or (is_reached f.stock.holdings (holder.Session s ∷ map version_of (due_pairs f.notes floor)) births) (stocked_birth f.stock.stocked cut) false
    found cut true shares =
        let test : ℕ → Bool = is_reached f.stock.holdings (holder.Session s ∷ map version_of (due_pairs f.notes floor)) births in
        let known = recursion_from_All (λ (x : Stocked). content_of h.contents x.birth ≡ Some x.content) f.stock.stocked keeps.contents in
        ap (λ t. is_some (cond {A = Option ℕ} t (find (is_shared_as h.contents cut.bytes) (half_reach (half_at (with_kept_births h s births) floor))) None)) shares
        ∙ ap (λ bs. is_some (find (is_shared_as h.contents cut.bytes) bs)) (sym (tried_reach f h floor s births keeps low high is sound brought))
        ∙ ap (λ (o : Option ℕ). is_some o) (sym (found_by_births h.contents cut.bytes (filter (λ y. test y.birth) f.stock.stocked) (each_passing (λ x. content_of h.contents x.birth ≡ Some x.content) test f.stock.stocked known)))
        ∙ found_where_passing test cut.bytes f.stock.stocked sound.shared_once
        ∙ ap (λ t. option_map_or test (cond {A = Option ℕ} t (shared_birth f.stock.stocked cut.bytes) None) false) (sym shares)
    found cut false alone =
        let test : ℕ → Bool = is_reached f.stock.holdings (holder.Session s ∷ map version_of (due_pairs f.notes floor)) births in
        ap (λ t. is_some (cond {A = Option ℕ} t (find (is_shared_as h.contents cut.bytes) (half_reach (half_at (with_kept_births h s births) floor))) None)) alone
        ∙ ap (λ t. option_map_or test (cond {A = Option ℕ} t (shared_birth f.stock.stocked cut.bytes) None) false) (sym alone)

-- the free blocks where a promise is tried
pub free_where_tried : (f : Fields) (h : Half) (floor s : ℕ) (births : List ℕ) → Keeps f h → h.floor ≤ floor → floor ≤ length h.commits → is_session h s ≡ true → IsSound f.stock
    → All (λ b. is_stocked f.stock.stocked b ≡ true) births
    → half_free (half_at (with_kept_births h s births) floor) ≡ f.options.capacity - (block_count (reached_stock f.stock (holder.Session s ∷ map version_of (due_pairs f.notes floor)) births) + sum_by promised_blocks f.sessions)
free_where_tried f h floor s births keeps low high is sound brought =
    let test : ℕ → Bool = is_reached f.stock.holdings (holder.Session s ∷ map version_of (due_pairs f.notes floor)) births in
    let reached : List Stocked = filter (λ y. test y.birth) f.stock.stocked in
    let known = recursion_from_All (λ (x : Stocked). content_of h.contents x.birth ≡ Some x.content) f.stock.stocked keeps.contents in
    let counts = recursion_from_All (λ (x : Stocked). length x.blocks ≡ blocks_of (length x.content.bytes)) f.stock.stocked sound.counts in
    let blocks : block_count reached ≡ blocks_of_births h.contents (half_reach (half_at (with_kept_births h s births) floor)) =
    blocks_by_births h.contents reached (each_passing (λ x. content_of h.contents x.birth ≡ Some x.content) test f.stock.stocked known) (each_passing (λ x. length x.blocks ≡ blocks_of (length x.content.bytes)) test f.stock.stocked counts)
    ∙ ap (blocks_of_births h.contents) (tried_reach f h floor s births keeps low high is sound brought) in
    ap (λ n. h.options.capacity - (n + sum_by kept_blocks (with_kept_births h s births).sessions)) (sym blocks)
    ∙ ap (λ n. h.options.capacity - (block_count reached + n)) (same_promised h.sessions (s - 1) births ∙ sym (ap (λ fields. sum_by promised_blocks fields) keeps.sessions ∙ promised_are h.sessions))
    ∙ ap (λ o. o.capacity - (block_count reached + sum_by promised_blocks f.sessions)) (sym keeps.options)
  where
    same_promised : (ks : List Kept) (i : ℕ) (bs : List ℕ) → sum_by kept_blocks (slice_set ks i (record (unwrap_or (slice_get ks i) new_kept) { births = bs })) ≡ sum_by kept_blocks ks
    same_promised [] i bs = refl
    same_promised (k ∷ ks) zero bs = omega (arith, sum_by-cons kept_blocks (record k { births = bs }) ks, sum_by-cons kept_blocks k ks)
    same_promised (k ∷ ks) (suc i) bs = omega (arith, sum_by-cons kept_blocks k ks, sum_by-cons kept_blocks k (slice_set ks i (record (unwrap_or (slice_get ks i) new_kept) { births = bs })), same_promised ks i bs)
