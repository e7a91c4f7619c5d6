-- Runs that come back one after another.
use Rattle.std.proofs.Common.{◌≡◌, ◌≢◌, ℕ, ◌+◌, ◌-◌, ◌≤◌, ◌<◌, inl, inr, List, [], ◌∷◌, ◌++◌, length, take, drop, get_or, false, ◌||◌, refl, sym, ap, ◌∙◌, arith}
use Rattle.std.specs.Prelude.{AllPairs, nat_eq}
use Rattle.std.specs.List.{list_any, range_with_len}
use Rattle.std.proofs.lemmas.Bool.Decides.{eqb_tells}
use Rattle.std.proofs.lemmas.List.{length-append, take_more, take-append-drop, get_or_append_left, get_or_default}
use Rattle.std.proofs.lemmas.List.Folds.{list_any_none}
use Rattle.std.proofs.lemmas.List.FromFn.{length-range_with_len, get_or-range_with_len}
use Rattle.std.proofs.lemmas.Grind.{flat_map-append}
use Rattle.sf_types.specs.declared.run.Run.{Run}
use Rattle.sf_types.specs.Space.BlockRuns.{blocks_in, blocks_in_run}
use Rattle.sf_types.specs.Rooms.{Roomy}
use Rattle.sf_types.proofs.BoolLemmas.{none-of-both, or-false, or-regroup}
use Rattle.sf_types.proofs.RunLemmas.{no_run, of-run, offset-of-block}
use Rattle.sf_block_space.specs.Free.{AreFreeRuns, AreOut, FreeSpace, has_block}
use Rattle.sf_block_space.specs.Inside.{TakesBack}
use Rattle.sf_block_space.proofs.FilledRunLemmas.{filled_put}
use Rattle.sf_block_space.proofs.MemberLemmas.{has-append, range-once}

-- a block that is named once isn't in the runs before
not-before : (given : List Run) (k block : ℕ) → k < length given → (get_or given k no_run).first ≤ block → block < (get_or given k no_run).first + (get_or given k no_run).blocks → AllPairs (λ x y. x ≢ y) (blocks_in given) → has_block (take k given) block ≡ false
not-before given k block less from to once =
    let here = offset-of-block given k block less from to in
    let parts : blocks_in (take k given) ++ blocks_in (drop k given) ≡ blocks_in given = sym (flat_map-append blocks_in_run (take k given) (drop k given)) ∙ ap blocks_in (take-append-drop k given) in
    list_any_none (nat_eq block) (blocks_in (take k given))
    (λ j d within.
    let other = get_or (blocks_in (take k given)) j d in
    let is : get_or (blocks_in given) j 0 ≡ other =
    ap (λ (xs : List ℕ). get_or xs j 0) (sym parts) ∙ get_or_append_left (blocks_in (take k given)) (blocks_in (drop k given)) 0 j within ∙ get_or_default (blocks_in (take k given)) j 0 d within in
    let apart = once j (length (blocks_in (take k given)) + (block - (get_or given k no_run).first)) 0 (omega (arith, within)) here.0 in
    elim (eqb_tells block other) [ inl same ↦ absurd (apart (is ∙ sym same.1 ∙ sym here.1)) | inr apart' ↦ apart'.0 ])

-- the next run is out, while those before it have come back
pub next-out : (old space : Roomy FreeSpace) (given : List Run) (k : ℕ) → k < length given → AreOut old.held (blocks_in given) → TakesBack old space (take k given) → AreOut space.held (blocks_in_run (get_or given k no_run))
next-out old space given k less out back =
    let run = get_or given k no_run in
    let free = of-run (λ block. has_block old.held.runs block ≡ false) given k less out.apart in
    let below = of-run (λ block. block < old.held.capacity) given k less out.below in
    record {
      below = λ i d within. omega (arith, back.capacity, below i d within);
      apart = λ i d within.
          let block = get_or (blocks_in_run run) i d in
          let inside : i < run.blocks = omega (arith, within, length-range_with_len run.first run.blocks) in
          let is = get_or-range_with_len run.first run.blocks i d inside in
          back.blocks.blocks block
          ∙ none-of-both (has_block old.held.runs block) (has_block (take k given) block) (free i d within)
          (not-before given k block less (omega (arith, is)) (omega (arith, is, inside)) out.once);
      once = range-once run.first run.blocks;
    }

-- one run more has come back
pub takes-more : (old space next : Roomy FreeSpace) (given : List Run) (k : ℕ) → k < length given → TakesBack old space (take k given) → TakesBack space next (get_or given k no_run ∷ []) → TakesBack old next (take (k + 1) given)
takes-more old space next given k less first then =
    let run = get_or given k no_run in
    let before = take k given in
    let both = flat_map-append blocks_in_run before (run ∷ []) in
    rw (take_more given k no_run less)
    (record {
      capacity = then.capacity ∙ first.capacity;
      order = then.order;
      blocks = record {
        blocks = λ block.
            then.blocks.blocks block
            ∙ ap (λ x. x || has_block (run ∷ []) block) (first.blocks.blocks block)
            ∙ or-regroup (has_block old.held.runs block) (has_block before block) (has_block (run ∷ []) block)
            ∙ ap (λ x. has_block old.held.runs block || x) (sym (has-append before (run ∷ []) block));
        count = omega (arith, first.blocks.count, then.blocks.count, ap length both, length-append (blocks_in before) (blocks_in (run ∷ [])));
      };
      more = omega (arith, first.more, then.more, filled_put before run);
      room = omega (arith, first.room, then.room);
    })

-- a run of no blocks changes nothing
pub takes-nothing : (space : Roomy FreeSpace) (run : Run) → AreFreeRuns space.held.capacity space.held.runs → run.blocks ≤ 0 → TakesBack space space (run ∷ [])
takes-nothing space run order none =
    let zero : run.blocks ≡ 0 = omega (arith, none) in
    let is : blocks_in (run ∷ []) ≡ [] = ap (λ n. range_with_len run.first n ++ []) zero in
    record {
      capacity = refl;
      order = order;
      blocks = record {
        blocks = λ block. or-false (has_block space.held.runs block) ∙ ap (λ (xs : List ℕ). has_block space.held.runs block || list_any (nat_eq block) xs) (sym is);
        count = omega (arith, ap length is);
      };
      more = omega arith;
      room = refl;
    }
