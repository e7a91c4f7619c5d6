-- The transcript of a play is right.
use Rattle.std.proofs.Common.{◌≡◌, ℕ, suc, ◌+◌, ◌-◌, ◌≤◌, ◌<◌, Option, Some, None, List, [], ◌∷◌, length, map, refl, sym, ap, subst, ◌∙◌, arith, length-append}
use Rattle.std.specs.Prelude.{sum_by, slice_get, unwrap_or}
use Rattle.std.specs.Option.{IfSome, option_map_or}
use Rattle.std.proofs.lemmas.List.Elements.{All-from_recursion}
use Rattle.std.proofs.lemmas.List.Sums.{sum_by-cons}
use Rattle.sf_types.specs.declared.call.Call.{Call}
use Rattle.sf_types.specs.declared.options.Options.{Options}
use Rattle.sf_types.specs.declared.place.Place.{Place}
use Rattle.sf_types.specs.Table.Parts.{Promise, Session, Table, new_session}
use Rattle.sf_types.specs.Table.Sessions.{session_of}
use Rattle.sf_types.specs.Table.Versions.{commit_count}
use Rattle.sf_types.specs.Space.BlockRuns.{blocks_in, AreRuns}
use Rattle.sf_types.specs.Space.Use.{promised_blocks, use_of, free_of}
use Rattle.sf_types.specs.Space.Placings.{Placed, IsSafe, all_blocks}
use Rattle.sf_types.specs.Orders.Histories.{history_table}
use Rattle.sf_types.specs.Orders.RowEnds.{row_ends_of}
use Rattle.sf_types.specs.Orders.Transcripts.{whole_transcript, place_of_birth, birth_blocks, placed_block_count, all_replies, IsRight}
use Rattle.sf_types.specs.Play.Turns.{Playing}
use Rattle.sf_laws.specs.PlayTranscripts.{written_place, written_places}
use Rattle.sf_laws.specs.Plays.{IsNextCall}
use Rattle.sf_laws.proofs.BlockRunLemmas.{blocks-maximal, runs-maximal}
use Rattle.sf_laws.proofs.EachLemmas.{each_of_any, each-map}
use Rattle.sf_laws.proofs.PlayLemmas.{there}
use Rattle.sf_laws.proofs.RoundLemmas.{IsOver, ended_whole}
use Rattle.sf_laws.proofs.SpaceLemmas.{is_safe}
use Rattle.sf_laws.proofs.StageLemmas.{placed_count}

pub written_blocks : (t : Table) (places : List Placed) → map birth_blocks (map (written_place t) places) ≡ places
written_blocks t [] = refl
written_blocks t (x ∷ places) =
    ap (λ (blocks : List ℕ). record { birth = x.birth; blocks = blocks } ∷ map birth_blocks (map (written_place t) places)) (blocks-maximal x.blocks)
    ∙ ap (λ (xs : List Placed). x ∷ xs) (written_blocks t places)

pub written_count : (t : Table) (places : List Placed) → placed_block_count (map (written_place t) places) ≡ length (all_blocks places)
written_count t [] = refl
written_count t (x ∷ places) =
    let cons = sum_by-cons (λ (place : Place). length (blocks_in place.runs)) (written_place t x) (map (written_place t) places) in
    let own : length (blocks_in (written_place t x).runs) ≡ length x.blocks = ap (λ (xs : List ℕ). length xs) (blocks-maximal x.blocks) in
    let rest = written_count t places in
    let both = length-append x.blocks (all_blocks places) in
    omega (arith, cons, own, rest, both)

pub right : (options : Options) (calls : List (List Call)) (p : Playing) → IsOver options calls p
    → IsRight options calls (whole_transcript (map (λ e. e.token) p.stage.history) (all_replies options (length calls) p.stage.history) (written_places p.stage)
    (options.capacity - length (all_blocks p.stage.space.places)) (row_ends_of p.stage.table) (commit_count p.stage.table))
right options calls p done =
    let x = p.stage in
    let n = length calls in
    let end = history_table options n x.history in
    let is = done.plays.stage.table in
    let order = map (λ e. e.token) x.history in
    let places = written_places x in
    record {
      order = order;
      whole = record { history = x.history; tokens = refl; uncancelled = done.plays.uncancelled; legal = done.plays.stage.legal; own = ended_whole options calls p done };
      places = places;
      contents = All-from_recursion (λ place. place ≡ place_of_birth end place.birth place.runs) places
          (each-map (λ place. place ≡ place_of_birth end place.birth place.runs) (written_place x.table) x.space.places
          (each_of_any (λ y. written_place x.table y ≡ place_of_birth end (written_place x.table y).birth (written_place x.table y).runs) x.space.places (λ y. ap (λ (t : Table). written_place t y) is)));
      runs = All-from_recursion (λ place. AreRuns place.runs) places (each-map (λ place. AreRuns place.runs) (written_place x.table) x.space.places (each_of_any (λ y. AreRuns (written_place x.table y).runs) x.space.places (λ y. runs-maximal y.blocks)));
      safe = subst (λ (t : Table). IsSafe t (map birth_blocks places)) is (subst (IsSafe x.table) (sym (written_blocks x.table x.space.places)) (is_safe x.table x.space done.plays.stage.has));
      text = ap (λ k. whole_transcript order (all_replies options n x.history) places (options.capacity - k) (row_ends_of x.table) (commit_count x.table)) (sym (written_count x.table x.space.places))
          ∙ ap (λ (t : Table). whole_transcript order (all_replies options n x.history) places (options.capacity - placed_block_count places) (row_ends_of t) (commit_count t)) is;
    }

-- no promise stands at the end
no_promised : (parts : List Session) → ((i : ℕ) → i < length parts → (unwrap_or (slice_get parts i) new_session).promise ≡ None) → sum_by promised_blocks parts ≡ 0
no_promised [] none = refl
no_promised (p ∷ parts) none =
    let first : promised_blocks p ≡ 0 = ap (λ (o : Option Promise). option_map_or (λ q. q.blocks) o 0) (none 0 (omega arith)) in
    let rest = no_promised parts (λ i lt. none (suc i) (omega (arith, lt))) in
    let cons = sum_by-cons promised_blocks p parts in
    omega (arith, first, rest, cons)

none_next : (o : Option Promise) → IfSome o (λ promise. IsNextCall promise.call []) → o ≡ None
none_next None next = refl
none_next (Some q) next = absurd next

-- so the blocks outside places are the free ones
pub free_at_end : (options : Options) (calls : List (List Call)) (p : Playing) → IsOver options calls p → free_of p.stage.table ≡ options.capacity - length (all_blocks p.stage.space.places)
free_at_end options calls p done =
    let x = p.stage in
    let t = x.table in
    let holds = done.plays.stage in
    let size = holds.size in
    let none : sum_by promised_blocks t.sessions ≡ 0 = no_promised t.sessions (λ i lt.
    let low : 1 ≤ i + 1 = omega arith in
    let high : i + 1 ≤ length calls = omega (arith, lt, size) in
    let next = (done.plays.each (i + 1) (there options (length calls) x (i + 1) holds low high)).next in
    let at : i + 1 - 1 ≡ i = omega arith in
    subst (λ n. (unwrap_or (slice_get t.sessions n) new_session).promise ≡ None) at
    (none_next (session_of t (i + 1)).promise (subst (λ (cs : List Call). IfSome (session_of t (i + 1)).promise (λ promise. IsNextCall promise.call cs)) (done.none (i + 1) low high) next))) in
    let placed = placed_count options (length calls) x holds in
    let used : use_of t ≡ length (all_blocks x.space.places) = omega (arith, none, placed) in
    ap (λ (o : Options). o.capacity - use_of t) holds.same ∙ ap (λ n. options.capacity - n) used
