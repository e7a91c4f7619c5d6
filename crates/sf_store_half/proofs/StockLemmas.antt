-- What a stock tells of a half of the table that fields keep.
use Rattle.std.proofs.Common.{◌≡◌, ℕ, true, false, cond, List, [], ◌∷◌, length, Some, None, refl, sym, ap, ◌∙◌, arith}
use Rattle.std.specs.Prelude.{find, ◌&&◌, bytes_eq}
use Rattle.std.specs.List.{AllByRecursion}
use Rattle.std.specs.Option.{option_map, option_map_or}
use Rattle.std.proofs.lemmas.List.{length-append}
use Rattle.std.proofs.lemmas.List.Elements.{recursion_from_All}
use Rattle.std.proofs.lemmas.List.Sums.{sum_by-cons}
use Rattle.sf_types.specs.Table.Parts.{Content}
use Rattle.sf_types.specs.Space.Contents.{blocks_of}
use Rattle.sf_types.specs.Space.Cuts.{Cut}
use Rattle.sf_types.specs.Space.Placings.{all_blocks}
use Rattle.sf_types.specs.Space.Use.{content_of, blocks_of_birth, blocks_of_births}
use Rattle.sf_types.specs.Space.Promises.{is_shared_as, found_birth}
use Rattle.sf_types.specs.Halves.Asks.{Half}
use Rattle.sf_types.specs.Halves.Flushes.{half_reach}
use Rattle.sf_stock.specs.Stocks.{Stocked, IsSound, births_of, places_of, block_count, shared_birth, is_shared_with}
use Rattle.sf_store_half.specs.Fields.{Fields, Keeps}

pub blocks_by_births : (contents : List Content) (xs : List Stocked) → AllByRecursion (λ x. content_of contents x.birth ≡ Some x.content) xs → AllByRecursion (λ x. length x.blocks ≡ blocks_of (length x.content.bytes)) xs
    → block_count xs ≡ blocks_of_births contents (births_of xs)
blocks_by_births contents [] known counts = refl
blocks_by_births contents (x ∷ xs) known counts =
    let own : blocks_of_birth contents x.birth ≡ blocks_of (length x.content.bytes) = ap (λ y. option_map_or (λ (c : Content). blocks_of (length c.bytes)) y 0) known.0 in
    omega (
      arith,
      blocks_by_births contents xs known.1 counts.1,
      length-append x.blocks (all_blocks (places_of xs)),
      sum_by-cons (blocks_of_birth contents) x.birth (births_of xs),
      own,
      counts.0,
    )

pub use_by_stock : (f : Fields) (h : Half) → births_of f.stock.stocked ≡ half_reach h → Keeps f h → IsSound f.stock → block_count f.stock.stocked ≡ blocks_of_births h.contents (half_reach h)
use_by_stock f h reached keeps sound =
    blocks_by_births h.contents f.stock.stocked
    (recursion_from_All (λ (x : Stocked). content_of h.contents x.birth ≡ Some x.content) f.stock.stocked keeps.contents)
    (recursion_from_All (λ (x : Stocked). length x.blocks ≡ blocks_of (length x.content.bytes)) f.stock.stocked sound.counts)
    ∙ ap (blocks_of_births h.contents) reached

pub found_by_births : (contents : List Content) (bytes : List ℕ) (xs : List Stocked) → AllByRecursion (λ x. content_of contents x.birth ≡ Some x.content) xs → shared_birth xs bytes ≡ find (is_shared_as contents bytes) (births_of xs)
found_by_births contents bytes [] known = refl
found_by_births contents bytes (x ∷ xs) known =
    let rest = found_by_births contents bytes xs known.1 in
    elim (is_shared_with bytes x) as (λ t. option_map {U = ℕ} (λ (y : Stocked). y.birth) (cond t (Some x) (find (is_shared_with bytes) xs)) ≡ cond t (Some x.birth) (find (is_shared_as contents bytes) (births_of xs))) [
      | true ↦ refl
      | false ↦ rest
    ]
    ∙ ap (λ y. cond (option_map_or (λ (c : Content). c.is_shared && bytes_eq c.bytes bytes) y false) (Some x.birth) (find (is_shared_as contents bytes) (births_of xs))) (sym known.0)

pub found_by_stock : (f : Fields) (h : Half) (cut : Cut) → births_of f.stock.stocked ≡ half_reach h → Keeps f h → cut.is_sharing ≡ true → shared_birth f.stock.stocked cut.bytes ≡ found_birth h.contents (half_reach h) cut
found_by_stock f h cut reached keeps sharing =
    found_by_births h.contents cut.bytes f.stock.stocked (recursion_from_All (λ (x : Stocked). content_of h.contents x.birth ≡ Some x.content) f.stock.stocked keeps.contents)
    ∙ ap (find (is_shared_as h.contents cut.bytes)) reached
    ∙ ap (λ t. cond t (find (is_shared_as h.contents cut.bytes) (half_reach h)) None) (sym sharing)
