-- A Book whose contents have moved.
use Rattle.std.proofs.Common.{◌≡◌, ℕ, ◌<◌, ◌^◌, List, [], ◌∷◌, ◌++◌, length, map, Option, Some, refl, sym, ap, subst, ◌∙◌}
use Rattle.std.specs.Prelude.{◌≢◌, All, AllPairs}
use Rattle.std.specs.List.{AllByRecursion as Each}
use Rattle.std.specs.Option.{option_map_or}
use Rattle.std.proofs.lemmas.List.{append-nil}
use Rattle.std.proofs.lemmas.List.Elements.{recursion_from_All}
use Rattle.sf_types.specs.declared.history.Entry.{Entry}
use Rattle.sf_types.specs.Limits.{IsInRange}
use Rattle.sf_types.specs.Table.Parts.{Content, Table}
use Rattle.sf_types.specs.Space.BlockRuns.{blocks_in}
use Rattle.sf_types.specs.Space.Contents.{blocks_of}
use Rattle.sf_types.specs.Space.Placings.{IsSafe, Placed, all_blocks}
use Rattle.sf_types.specs.Space.Use.{blocks_of_birth, content_of}
use Rattle.sf_types.specs.Halves.Asks.{half_of}
use Rattle.sf_shrink.specs.declared.shifts.Shift.{Shift}
use Rattle.sf_shrink.specs.Plans.{blocks_of_shifts, shifted_to}
use Rattle.sf_stock.specs.Stocks.{AreShifts, Stocked, births_of, moved_by, places_of, with_shifts}
use Rattle.sf_stock.specs.Stocks as stock
use Rattle.sf_laws.proofs.FlushLemmas.{reach_by_half}
use Rattle.sf_store_half.specs.Fields.{Fields, Keeps}
use Rattle.sf_store_half.proofs.SettledLemmas.{keeps_shifted}
use Rattle.sf_store_half.proofs.StockReachLemmas.{stocked_are_reached}
use Rattle.sf_book.specs.Books.{table_of}
use Rattle.sf_book.specs.Inside.Bodies.{IsBook, book_of}
use Rattle.sf_book.proofs.CapacityLemmas.{in_words}

-- each birth with the blocks that its content takes
shifts_counted : (contents : List Content) (shifts : List Shift) → Each (λ x. length x.blocks ≡ blocks_of_birth contents x.birth) (map shifted_to shifts)
    → map {B = ℕ × ℕ} (λ (s : Shift). (s.birth, length (blocks_in s.to))) shifts ≡ map {B = ℕ × ℕ} (λ b. (b, blocks_of_birth contents b)) (map (λ (x : Placed). x.birth) (map shifted_to shifts))
shifts_counted contents [] all = refl
shifts_counted contents (s ∷ shifts) all =
    ap (λ n. (s.birth, n) ∷ map {B = ℕ × ℕ} (λ (s : Shift). (s.birth, length (blocks_in s.to))) shifts) all.0
    ∙ ap (λ (xs : List (ℕ × ℕ)). (s.birth, blocks_of_birth contents s.birth) ∷ xs) (shifts_counted contents shifts all.1)

stocked_counted : (contents : List Content) (xs : List Stocked) → Each (λ x. length x.blocks ≡ blocks_of (length x.content.bytes)) xs → Each (λ x. content_of contents x.birth ≡ Some x.content) xs
    → map {B = ℕ × ℕ} (λ (x : Stocked). (x.birth, length x.blocks)) xs ≡ map {B = ℕ × ℕ} (λ b. (b, blocks_of_birth contents b)) (births_of xs)
stocked_counted contents [] counts known = refl
stocked_counted contents (x ∷ xs) counts known =
    let one : length x.blocks ≡ blocks_of_birth contents x.birth = counts.0 ∙ ap (λ (o : Option Content). option_map_or (λ c. blocks_of (length c.bytes)) o 0) (sym known.0) in
    ap (λ n. (x.birth, n) ∷ map {B = ℕ × ℕ} (λ (x : Stocked). (x.birth, length x.blocks)) xs) one
    ∙ ap (λ (ys : List (ℕ × ℕ)). (x.birth, blocks_of_birth contents x.birth) ∷ ys) (stocked_counted contents xs counts.1 known.1)

shifted_blocks : (shifts : List Shift) → all_blocks (map shifted_to shifts) ≡ blocks_of_shifts shifts
shifted_blocks [] = refl
shifted_blocks (s ∷ shifts) = ap (λ (bs : List ℕ). blocks_in s.to ++ bs) (shifted_blocks shifts)

-- what follows the first item
abbrev rest_of : List ℕ → List ℕ
rest_of [] = []
rest_of (x ∷ xs) = xs

abbrev first_of : List ℕ → ℕ
first_of [] = 0
first_of (x ∷ xs) = x

-- the places are those to which the contents move
moved_places : (xs : List Stocked) (shifts : List Shift) → births_of xs ≡ map (λ (x : Placed). x.birth) (map shifted_to shifts) → places_of (moved_by xs shifts) ≡ map shifted_to shifts
moved_places [] [] same = refl
moved_places [] (s ∷ shifts) same = absurd cc
moved_places (x ∷ xs) [] same = absurd cc
moved_places (x ∷ xs) (s ∷ shifts) same =
    ap (λ b. record { birth = b; blocks = blocks_in s.to } ∷ places_of (moved_by xs shifts)) (ap first_of same)
    ∙ ap (λ (ps : List Placed). shifted_to s ∷ ps) (moved_places xs shifts (ap rest_of same))

births_same : (f : Fields) (t : Table) (shifts : List Shift) → Keeps f (half_of t) → stock.IsSound f.stock → IsSafe t (map shifted_to shifts) → births_of f.stock.stocked ≡ map (λ (x : Placed). x.birth) (map shifted_to shifts)
births_same f t shifts keeps stocked safe = stocked_are_reached f (half_of t) keeps stocked ∙ sym (reach_by_half t) ∙ sym safe.births

-- a Book can move its contents to a safe placing
pub are_shifts : (f : Fields) (history : List Entry) (shifts : List Shift) (sessions spare : ℕ) → IsBook f history sessions spare → f.stock.parked ≡ [] → All (λ shift. length shift.to ≡ 1) shifts
    → IsSafe (table_of (book_of f history)) (map shifted_to shifts) → AreShifts f.stock shifts
are_shifts f history shifts sessions spare is parked runs safe =
    let t = table_of (book_of f history) in
    let xs = f.stock.stocked in
    let blocks = shifted_blocks shifts in
    let counted = shifts_counted t.contents shifts (recursion_from_All (λ (x : Placed). length x.blocks ≡ blocks_of_birth t.contents x.birth) (map shifted_to shifts) safe.counts) in
    let known = stocked_counted t.contents xs (recursion_from_All (λ (x : Stocked). length x.blocks ≡ blocks_of (length x.content.bytes)) xs is.stocked.counts)
    (recursion_from_All (λ (x : Stocked). content_of t.contents x.birth ≡ Some x.content) xs is.keeps.contents) in
    record {
      held = is.keeps.live;
      none_left = is.keeps.none_left;
      none_parked = parked;
      births = counted ∙ ap (λ (bs : List ℕ). map {B = ℕ × ℕ} (λ b. (b, blocks_of_birth t.contents b)) bs) (sym (births_same f t shifts is.keeps is.stocked safe)) ∙ sym known;
      one_run = runs;
      below = subst (λ (bs : List ℕ). All (λ block. block < 2 ^ 32) bs) blocks (in_words t.options (all_blocks (map shifted_to shifts)) (subst IsInRange is.keeps.options is.sound.in_range) safe.below);
      once = subst (λ (bs : List ℕ). AllPairs (λ block other. block ≢ other) bs) blocks safe.once;
    }

-- the Book after it
pub book_moved : (f : Fields) (history : List Entry) (shifts : List Shift) (sessions spare : ℕ) → IsBook f history sessions spare → f.stock.parked ≡ []
    → IsSafe (table_of (book_of f history)) (map shifted_to shifts) → places_of (with_shifts f.stock shifts).stocked ≡ map shifted_to shifts
book_moved f history shifts sessions spare is parked safe = moved_places f.stock.stocked shifts (births_same f (table_of (book_of f history)) shifts is.keeps is.stocked safe)

shifted : (f : Fields) (history : List Entry) (shifts : List Shift) (sessions spare : ℕ) → IsBook f history sessions spare → f.stock.parked ≡ []
    → IsSafe (table_of (book_of f history)) (map shifted_to shifts) → stock.IsSound (with_shifts f.stock shifts) → IsBook (record f { stock = with_shifts f.stock shifts }) history sessions spare
shifted f history shifts sessions spare is parked safe stocked =
    let t = table_of (book_of f history) in
    let places = book_moved f history shifts sessions spare is parked safe in
    let bare : all_blocks (places_of (with_shifts f.stock shifts).stocked) ≡ all_blocks (places_of (with_shifts f.stock shifts).stocked) ++ f.stock.parked =
    sym (append-nil (all_blocks (places_of (with_shifts f.stock shifts).stocked))) ∙ ap (λ (bs : List ℕ). all_blocks (places_of (with_shifts f.stock shifts).stocked) ++ bs) (sym parked) in
    let safe_there : IsSafe t (places_of (with_shifts f.stock shifts).stocked) = subst (IsSafe t) (sym places) safe in
    record {
      count = is.count;
      sound = record {
        in_range = is.sound.in_range;
        some_sessions = is.sound.some_sessions;
        few_sessions = is.sound.few_sessions;
        legal = is.sound.legal;
        safe = safe_there;
        below = is.sound.below;
        once = subst (λ (bs : List ℕ). AllPairs (λ block other. block ≢ other) bs) bare safe_there.once;
      };
      keeps = keeps_shifted f (half_of t) shifts is.keeps;
      stocked = stocked;
      room = is.room;
    }

pub after_shift : (f after : Fields) (history : List Entry) (shifts : List Shift) (sessions spare : ℕ) → IsBook f history sessions spare → f.stock.parked ≡ []
    → IsSafe (table_of (book_of f history)) (map shifted_to shifts) → after ≡ record f { stock = with_shifts f.stock shifts } → stock.IsSound after.stock → IsBook after history sessions spare
after_shift f after history shifts sessions spare is parked safe same stocked =
    subst (λ (x : Fields). IsBook x history sessions spare) (sym same) (shifted f history shifts sessions spare is parked safe (subst (λ (x : Fields). stock.IsSound x.stock) same stocked))
