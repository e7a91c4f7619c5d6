-- What holds of every stock.
use Rattle.std.proofs.Common.{◌≡◌, ℕ, ◌≤◌, ◌<◌, ◌^◌, List, [], ◌∷◌, map, length, refl, sym, ap, subst, ◌∙◌, arith}
use Rattle.std.specs.List.{AllByRecursion}
use Rattle.std.proofs.lemmas.List.Elements.{All-from_recursion}
use Rattle.std.proofs.lemmas.Map.Made.{AllPairs-from_IsDistinct}
use Rattle.std.specs.Cmp.{unsigned_Decides}
use Rattle.sf_types.specs.declared.birth_runs.BirthRuns.{BirthRuns}
use Rattle.sf_types.specs.declared.limits.TheConstants.{CONTENT_BYTES}
use Rattle.sf_types.specs.declared.run.Run.{Run}
use Rattle.sf_types.specs.Inside.Births.{IsRising}
use Rattle.sf_types.specs.Space.Contents.{blocks_of}
use Rattle.sf_types.specs.Space.Placings.{Placed}
use Rattle.sf_shrink.specs.Plans.{placed_at}
use Rattle.sf_dedup.specs.Contents.{AreDistinct, Contents}
use Rattle.sf_lifetimes.specs.Ledgers.{Places, LedgerView}
use Rattle.sf_lifetimes.proofs.CountLemmas.{distinct, once_below}
use Rattle.sf_lifetimes.proofs.ListingLemmas.{all_below, rising_keys}
use Rattle.sf_stock.specs.Stocks.{Stocked, IsSound, births_of, stock_blocks}
use Rattle.sf_stock.specs.Inside.Keeps.{KnownMap, AreBirths, AreBlocks, IsKept, runs_in, stocked_in, stock_in}
use Rattle.sf_stock.proofs.ParkLemmas.{each_filled}
use Rattle.sf_stock.proofs.KeptLemmas.{stocked_is}
use Rattle.sf_stock.proofs.SharedOnceLemmas.{shared_once}

births_are : (places : Places) (known : KnownMap) → births_of (map (stocked_in places) known) ≡ map (λ e. e.0) known
births_are places [] = refl
births_are places (e ∷ known) = ap (λ (bs : List ℕ). e.0 ∷ bs) (births_are places known)

each_stocked : (P : Stocked → Type 0) (places : Places) (known : KnownMap) → AllByRecursion (λ e. P (stocked_in places e)) known → AllByRecursion P (map (stocked_in places) known)
each_stocked P places [] all = tt
each_stocked P places (e ∷ known) all = (all.0, each_stocked P places known all.1)

counts_kept : (places : Places) (known : KnownMap) → AllByRecursion (λ e. IsKept e.1 (runs_in places e.0)) known → AllByRecursion (λ e. length (stocked_in places e).blocks ≡ blocks_of (length (stocked_in places e).content.bytes)) known
counts_kept places [] kept = tt
counts_kept places (e ∷ known) kept = (kept.0.count, counts_kept places known kept.1)

sizes_kept : (places : Places) (known : KnownMap) → AllByRecursion (λ e. IsKept e.1 (runs_in places e.0)) known → AllByRecursion (λ e. length (stocked_in places e).content.bytes ≤ CONTENT_BYTES) known
sizes_kept places [] kept = tt
sizes_kept places (e ∷ known) kept = (kept.0.size, sizes_kept places known kept.1)

pub sound : (l : LedgerView) (index : Contents) (known : KnownMap) (left : List BirthRuns) (parked : List Run) (next : ℕ) → AreBirths l index known next → AreDistinct index → AreBlocks l known left parked → IsSound (stock_in l known left parked next)
sound l index known left parked next births distinct_index blocks =
    let all = stock_blocks (stock_in l known left parked next) in
    record {
      rising = subst IsRising (sym (births_are l.places known)) (rising_keys known births.rising);
      before_next = All-from_recursion (λ (x : Stocked). x.birth < next) (map (stocked_in l.places) known) (each_stocked (λ x. x.birth < next) l.places known births.below);
      held = λ b live. stocked_is l.places known b ∙ births.live b live;
      counts = All-from_recursion (λ (x : Stocked). length x.blocks ≡ blocks_of (length x.content.bytes)) (map (stocked_in l.places) known) (each_stocked (λ x. length x.blocks ≡ blocks_of (length x.content.bytes)) l.places known (counts_kept l.places known blocks.kept));
      sizes = All-from_recursion (λ (x : Stocked). length x.content.bytes ≤ CONTENT_BYTES) (map (stocked_in l.places) known) (each_stocked (λ x. length x.content.bytes ≤ CONTENT_BYTES) l.places known (sizes_kept l.places known blocks.kept));
      shared_once = shared_once l.places known (subst AreDistinct births.indexed distinct_index);
      filled = All-from_recursion (λ (x : Placed). 1 ≤ length x.blocks) (map placed_at left) (each_filled left blocks.whole);
      below = All-from_recursion (λ block. block < 2 ^ 32) all (all_below (2 ^ 32) all blocks.once);
      once = AllPairs-from_IsDistinct unsigned_Decides all (distinct all (λ x. omega (arith, blocks.once x, once_below x (2 ^ 32))));
    }
