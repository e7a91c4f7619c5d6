-- How a Book moves with the store's half of the table.
use Rattle.std.proofs.Common.{◌≡◌, ℕ, zero, suc, ◌+◌, ◌≤◌, ◌<◌, Bool, true, false, not, ◌||◌, List, [], ◌∷◌, ◌++◌, length, map, refl, sym, ap, subst, ◌∙◌, arith}
use Rattle.std.specs.Prelude.{◌≢◌, ◌==◌, All, AllPairs, Contains}
use Rattle.std.specs.List.{AllByRecursion as Each}
use Rattle.std.proofs.lemmas.List.{length-map}
use Rattle.std.proofs.lemmas.List.Elements.{All-from_recursion, recursion_from_All, filter_agree, All-append}
use Rattle.std.proofs.lemmas.List.Sums.{sum_by-cons, sum_by-append}
use Rattle.sf_types.specs.declared.history.Entry.{Entry}
use Rattle.sf_types.specs.declared.options.Options.{Options}
use Rattle.sf_types.specs.Limits.{IsInRange}
use Rattle.sf_types.specs.declared.limits.TheConstants.{STORE_SESSIONS}
use Rattle.sf_types.specs.Table.Parts.{Table, opening_table}
use Rattle.sf_types.specs.Space.Reach.{reach}
use Rattle.sf_types.specs.Space.Use.{blocks_of_birth}
use Rattle.sf_types.specs.Space.Placings.{Placed, IsSafe, all_blocks}
use Rattle.sf_types.specs.Orders.Histories.{IsLegalHistory, history_table, table_after}
use Rattle.sf_types.specs.Play.Blocks.{is_among, places_by_first, departed_blocks, new_births, places_of_new, places_after}
use Rattle.sf_types.specs.Halves.Asks.{half_of, kept_of}
use Rattle.sf_stock.specs.Stocks as stock
use Rattle.sf_stock.specs.Stocks.{Stocked, is_stocked, births_of, places_of}
use Rattle.sf_laws.proofs.BlockSumLemmas.{is_one, count_of, IsOnce, count_none, each_counted, from_counted, once_apart}
use Rattle.sf_laws.proofs.EachLemmas.{each_weaker, each_itself}
use Rattle.sf_laws.proofs.FlushLemmas.{reach_by_half}
use Rattle.sf_laws.proofs.OwnRunLemmas.{run-append, legal-joined, shape_after}
use Rattle.sf_laws.proofs.PlacingLemmas.{Moves, is_placed}
use Rattle.sf_types.proofs.NumberLemmas.{same_number}
use Rattle.sf_store_half.specs.declared.session_fields.SessionField.{SessionField}
use Rattle.sf_store_half.specs.Fields.{Fields, Keeps, session_field}
use Rattle.sf_store_half.specs.HalfMoves.{IsRepacked}
use Rattle.sf_store_half.proofs.StockReachLemmas.{stocked_are_reached}
use Rattle.sf_book.specs.Books.{table_of, IsSound}
use Rattle.sf_book.specs.Moves.{AreAway, IsMoved}
use Rattle.sf_book.specs.Inside.Bodies.{book_of}

-- a list in which each two items differ has each once
pub once_where_apart : (xs : List ℕ) → AllPairs (λ x y. x ≢ y) xs → IsOnce xs
once_where_apart xs apart = record { most = λ b. most xs b apart }
  where
    most : (xs : List ℕ) (b : ℕ) → AllPairs (λ x y. x ≢ y) xs → count_of b xs ≤ 1
    most [] b apart = let none : count_of b [] ≡ 0 = refl in omega (arith, none)
    most (x ∷ xs) b apart =
        let cons = sum_by-cons (is_one b) x xs in
        let rest = most xs b (λ i j d before less. apart (suc i) (suc j) d (omega (arith, before)) (omega (arith, less))) in
        elim (b == x) as (λ c. (b == x) ≡ c → count_of b (x ∷ xs) ≤ 1) [
          | true ↦ λ is.
              let others : Each (λ y. b ≡ y → ⊥) xs = recursion_from_All (λ (y : ℕ). b ≡ y → ⊥) xs (λ j d less same. apart 0 (suc j) d (omega arith) (omega (arith, less)) (sym (same_number b x is) ∙ same)) in
              let none = count_none b xs others in
              let one : is_one b x ≡ 1 = rw is refl in
              omega (arith, cons, none, one)
          | false ↦ λ is. let zero : is_one b x ≡ 0 = rw is refl in omega (arith, cons, zero, rest)
        ] refl

-- whether a birth has a place is told by the births in reach
among_stocked : (b : ℕ) (xs : List Stocked) → is_stocked xs b ≡ is_among (births_of xs) b
among_stocked b [] = refl
among_stocked b (x ∷ xs) = ap (λ (t : Bool). (b == x.birth) || t) (among_stocked b xs)

placed_births : (xs : List Stocked) → map (λ x. x.birth) (places_of xs) ≡ births_of xs
placed_births [] = refl
placed_births (x ∷ xs) = ap (λ (bs : List ℕ). x.birth ∷ bs) (placed_births xs)

-- What a step of the store's half is: legal entries from the Book's table on, and fields that keep the half after them.
pub record IsStep (f : Fields) (history : List Entry) (after : Fields) (es : List Entry) (given : List ℕ) : Type 0 where
  pub legal : IsLegalHistory (table_of (book_of f history)) es
  pub moves : Moves (table_of (book_of f history)) (table_after (table_of (book_of f history)) es) given
  pub keeps : Keeps after (half_of (table_after (table_of (book_of f history)) es))
  pub stocked : stock.IsSound after.stock
  pub repacked : IsRepacked f.stock after.stock
      (places_of_new (table_after (table_of (book_of f history)) es).contents (new_births (table_of (book_of f history)) (table_after (table_of (book_of f history)) es)) given)

pub session_count : (f : Fields) (t : Table) → Keeps f (half_of t) → length f.sessions ≡ length t.sessions
session_count f t keeps = ap (λ (xs : List SessionField). length xs) keeps.sessions ∙ length-map (map kept_of t.sessions) session_field ∙ length-map t.sessions kept_of

-- the table of the Book after a step
pub record Shape (f : Fields) (history : List Entry) (after : Fields) (es : List Entry) : Type 0 where
  pub options : after.options ≡ f.options
  pub sessions : length after.sessions ≡ length f.sessions
  pub table : table_of (book_of after (history ++ es)) ≡ table_after (table_of (book_of f history)) es

pub shape_of_step : (f : Fields) (history : List Entry) (after : Fields) (es : List Entry) → Keeps f (half_of (table_of (book_of f history))) → IsLegalHistory (table_of (book_of f history)) es
    → Keeps after (half_of (table_after (table_of (book_of f history)) es)) → Shape f history after es
shape_of_step f history after es keeps legal kept =
    let t = table_of (book_of f history) in
    let u = table_after t es in
    let shape = shape_after t es legal in
    let options : after.options ≡ f.options = kept.options ∙ shape.1 ∙ sym keeps.options in
    let sessions : length after.sessions ≡ length f.sessions = session_count after u kept ∙ shape.0 ∙ sym (session_count f t keeps) in
    record {
      options = options;
      sessions = sessions;
      table = ap (λ (o : Options). history_table o (length after.sessions) (history ++ es)) options
          ∙ ap (λ n. history_table f.options n (history ++ es)) sessions
          ∙ run-append (opening_table f.options (length f.sessions)) history es;
    }

pub tests_agree : (after : Fields) (u : Table) → Keeps after (half_of u) → stock.IsSound after.stock → (b : ℕ) → is_stocked after.stock.stocked b ≡ is_among (reach u) b
tests_agree after u keeps sound b = among_stocked b after.stock.stocked ∙ ap (λ (bs : List ℕ). is_among bs b) (stocked_are_reached after (half_of u) keeps sound ∙ sym (reach_by_half u))

-- the places after a step, and the parked blocks
places_moved : (f : Fields) (history : List Entry) (after : Fields) (es : List Entry) (given : List ℕ) → IsStep f history after es given
    → places_of after.stock.stocked ≡ places_after (table_of (book_of f history)) (table_after (table_of (book_of f history)) es) (places_of f.stock.stocked) given
places_moved f history after es given step =
    let t = table_of (book_of f history) in
    let u = table_after t es in
    step.repacked.places
    ∙ ap (λ (xs : List Placed). xs ++ places_of_new u.contents (new_births t u) given)
    (filter_agree (λ (x : Placed). is_stocked after.stock.stocked x.birth) (λ x. is_among (reach u) x.birth) (λ x. tests_agree after u step.keeps step.stocked x.birth) (places_of f.stock.stocked))

parked_moved : (f : Fields) (history : List Entry) (after : Fields) (es : List Entry) (given : List ℕ) → IsStep f history after es given
    → after.stock.parked ≡ f.stock.parked ++ departed_blocks (table_after (table_of (book_of f history)) es) (places_of f.stock.stocked)
parked_moved f history after es given step =
    let u = table_after (table_of (book_of f history)) es in
    step.repacked.parked
    ∙ ap (λ (xs : List Placed). f.stock.parked ++ all_blocks (places_by_first xs))
    (filter_agree (λ (x : Placed). not (is_stocked after.stock.stocked x.birth)) (λ x. not (is_among (reach u) x.birth)) (λ x. ap not (tests_agree after u step.keeps step.stocked x.birth)) (places_of f.stock.stocked))

-- blocks that are away stand nowhere in the Book
apart_counted : (b : ℕ) (all given : List ℕ) → IsOnce all → IsOnce given → All (λ block. ¬ (Contains all block)) given → count_of b all + count_of b given ≤ 1
apart_counted b all given once more apart = go (count_of b given) refl
  where
    go : (n : ℕ) → count_of b given ≡ n → count_of b all + count_of b given ≤ 1
    go zero is = let most = once.most b in omega (arith, is, most)
    go (suc n) is =
        let away : ¬ (Contains all b) = from_counted (λ block. ¬ (Contains all block)) given b (recursion_from_All (λ block. ¬ (Contains all block)) given apart) (omega (arith, is)) in
        let none = count_none b all (each_weaker (Contains all) (λ x. b ≡ x → ⊥) all (λ x has same. away (subst (Contains all) (sym same) has)) (each_itself all)) in
        let most = more.most b in
        omega (arith, none, most)

-- a block that is counted in one of two lists
counted_either : (P : ℕ → Type 0) (xs ys : List ℕ) (b : ℕ) → Each P xs → Each P ys → 1 ≤ count_of b xs + count_of b ys → P b
counted_either P xs ys b first second le = go (count_of b xs) refl
  where
    go : (n : ℕ) → count_of b xs ≡ n → P b
    go zero is = from_counted P ys b second (omega (arith, is, le))
    go (suc n) is = from_counted P xs b first (omega (arith, is))

-- What is known of places and parked blocks after a turn.
record IsSafeAfter (before after : Table) (places : List Placed) (parked given : List ℕ) (capacity : ℕ) : Type 0 where
  safe : IsSafe after (places_after before after places given)
  below : All (λ block. block < capacity) (parked ++ departed_blocks after places)
  once : AllPairs (λ block other. block ≢ other) (all_blocks (places_after before after places given) ++ (parked ++ departed_blocks after places))

safe_after : (before after : Table) (places : List Placed) (parked given : List ℕ) (capacity : ℕ) → Moves before after given → IsSafe before places → before.options.capacity ≡ capacity → after.options.capacity ≡ capacity
    → All (λ block. block < capacity) parked → AllPairs (λ block other. block ≢ other) (all_blocks places ++ parked)
    → All (λ block. block < capacity) given → AllPairs (λ block other. block ≢ other) given → All (λ block. ¬ (Contains (all_blocks places ++ parked) block)) given
    → IsSafeAfter before after places parked given capacity
safe_after before after places parked given capacity moves safe same same_after below once new_below new_once apart =
    let placed = is_placed before after places given moves safe.births (recursion_from_All (λ x. length x.blocks ≡ blocks_of_birth before.contents x.birth) places safe.counts) in
    let old = all_blocks places in
    let new = all_blocks (places_after before after places given) in
    let gone = departed_blocks after places in
    let all_once = once_where_apart (old ++ parked) once in
    let given_once = once_where_apart given new_once in
    let most : (b : ℕ) → count_of b old + count_of b parked + count_of b given ≤ 1 = λ b.
    let both = sum_by-append (is_one b) old parked in
    let top = apart_counted b (old ++ parked) given all_once given_once apart in
    omega (arith, both, top)
    in
    let old_below : Each (λ block. block < capacity) old = recursion_from_All (λ block. block < capacity) old (subst (λ n. All (λ block. block < n) old) same safe.below) in
    let given_below : Each (λ block. block < capacity) given = recursion_from_All (λ block. block < capacity) given new_below in
    let whole : IsOnce (new ++ (parked ++ gone)) = record {
      most = λ b.
          let moved = placed.sums (is_one b) in
          let top = most b in
          let first = sum_by-append (is_one b) new (parked ++ gone) in
          let second = sum_by-append (is_one b) parked gone in
          omega (arith, moved, top, first, second);
    } in
    let new_where : (b : ℕ) → 1 ≤ count_of b new → b < capacity = λ b le.
    let moved = placed.sums (is_one b) in
    counted_either (λ block. block < capacity) old given b old_below given_below (omega (arith, moved, le))
    in
    let gone_where : (b : ℕ) → 1 ≤ count_of b gone → b < capacity = λ b le.
    let moved = placed.sums (is_one b) in
    counted_either (λ block. block < capacity) old given b old_below given_below (omega (arith, moved, le))
    in
    record {
      safe = record {
        births = placed.births;
        counts = All-from_recursion (λ x. length x.blocks ≡ blocks_of_birth after.contents x.birth) (places_after before after places given) placed.counts;
        below = subst (λ n. All (λ block. block < n) new) (sym same_after) (All-from_recursion (λ block. block < capacity) new (each_counted (λ block. block < capacity) new new_where));
        once = once_apart new (record { most = λ b. let first = sum_by-append (is_one b) new (parked ++ gone) in let top = whole.most b in omega (arith, first, top) });
      };
      below = All-append (λ block. block < capacity) parked gone below (All-from_recursion (λ block. block < capacity) gone (each_counted (λ block. block < capacity) gone gone_where));
      once = once_apart (new ++ (parked ++ gone)) whole;
    }

-- a step of the store's half is a move of the Book
pub moved_by_step : (f : Fields) (history : List Entry) (after : Fields) (es : List Entry) (given : List ℕ) → IsSound (book_of f history) → Keeps f (half_of (table_of (book_of f history))) → AreAway (book_of f history) given
    → IsStep f history after es given → IsMoved (book_of f history) (book_of after (history ++ es)) es given
moved_by_step f history after es given sound keeps away step =
    let t = table_of (book_of f history) in
    let u = table_after t es in
    let shape = shape_of_step f history after es keeps step.legal step.keeps in
    let old = places_of f.stock.stocked in
    let places = places_moved f history after es given step in
    let parked = parked_moved f history after es given step in
    let own : t.options.capacity ≡ f.options.capacity = ap (λ (o : Options). o.capacity) (sym keeps.options) in
    let same : u.options.capacity ≡ f.options.capacity = ap (λ (o : Options). o.capacity) (sym step.keeps.options ∙ shape.options) in
    let done = safe_after t u old f.stock.parked given f.options.capacity step.moves sound.safe own same sound.below sound.once away.below away.once away.apart in
    record {
      options = shape.options;
      sessions = shape.sessions;
      history = refl;
      places = subst (λ (x : Table). places_of after.stock.stocked ≡ places_after t x old given) (sym shape.table) places;
      parked = subst (λ (x : Table). after.stock.parked ≡ f.stock.parked ++ departed_blocks x old) (sym shape.table) parked;
      sound = record {
        in_range = subst (λ (o : Options). IsInRange o) (sym shape.options) sound.in_range;
        some_sessions = subst (λ n. 1 ≤ n) (sym shape.sessions) sound.some_sessions;
        few_sessions = subst (λ n. n ≤ STORE_SESSIONS) (sym shape.sessions) sound.few_sessions;
        legal = subst (λ (o : Options). IsLegalHistory (opening_table o (length after.sessions)) (history ++ es)) (sym shape.options)
            (subst (λ n. IsLegalHistory (opening_table f.options n) (history ++ es)) (sym shape.sessions) (legal-joined (opening_table f.options (length f.sessions)) history es sound.legal step.legal));
        safe = subst (λ (x : Table). IsSafe x (places_of after.stock.stocked)) (sym shape.table) (subst (IsSafe u) (sym places) done.safe);
        below = subst (λ (o : Options). All (λ block. block < o.capacity) after.stock.parked) (sym shape.options) (subst (All (λ block. block < f.options.capacity)) (sym parked) done.below);
        once = subst (λ (xs : List Placed). AllPairs (λ block other. block ≢ other) (all_blocks xs ++ after.stock.parked)) (sym places)
            (subst (λ (ys : List ℕ). AllPairs (λ block other. block ≢ other) (all_blocks (places_after t u old given) ++ ys)) (sym parked) done.once);
      };
    }
