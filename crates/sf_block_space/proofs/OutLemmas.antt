-- Blocks that are out, while others come and go.
use Rattle.std.proofs.Common.{◌≡◌, ℕ, ◌<◌, inl, inr, List, [], ◌∷◌, ◌++◌, length, get_or, true, false, ◌||◌, sym, ap, ◌∙◌, subst, arith}
use Rattle.std.specs.Prelude.{All, nat_eq}
use Rattle.std.proofs.lemmas.Bool.Decides.{eqb_tells}
use Rattle.std.proofs.lemmas.List.{length-append}
use Rattle.std.proofs.lemmas.List.Elements.{All-append}
use Rattle.std.proofs.lemmas.List.Folds.{list_any_none}
use Rattle.std.proofs.lemmas.Grind.{flat_map-append}
use Rattle.sf_types.specs.declared.run.Run.{Run}
use Rattle.sf_types.specs.Space.BlockRuns.{blocks_in, blocks_in_run}
use Rattle.sf_types.specs.Rooms.{Roomy}
use Rattle.sf_types.proofs.BoolLemmas.{or-last, or-true, neither-first}
use Rattle.sf_block_space.specs.Free.{AreOut, FreeSpace, Gains, has_block}
use Rattle.sf_block_space.specs.Inside.{HandsOut}
use Rattle.sf_block_space.proofs.MemberLemmas.{is_block_in, item-among, has-append, pairs-append}

-- a free block is none of those that are out
pub free-not-out : (space : FreeSpace) (blocks : List ℕ) (block : ℕ) → AreOut space blocks → has_block space.runs block ≡ true → is_block_in blocks block ≡ false
free-not-out space blocks block out free =
    list_any_none (nat_eq block) blocks
    (λ k d less.
    let no = out.apart k d less in
    elim (eqb_tells block (get_or blocks k d)) [ inl same ↦ absurd (true-not-false (sym free ∙ ap (has_block space.runs) same.1 ∙ no)) | inr other ↦ other.0 ])
  where
    true-not-false : true ≡ false → ⊥
    true-not-false bad = cc

-- blocks stay out while others are handed out
pub stays-out : (old new : FreeSpace) (granted : List Run) (blocks : List ℕ) → new.capacity ≡ old.capacity → Gains new.runs old.runs granted → AreOut old blocks → AreOut new blocks
stays-out old new granted blocks same gains out = record {
  below = λ k d less. omega (arith, same, out.below k d less);
  apart = λ k d less.
      let block = get_or blocks k d in
      neither-first (has_block new.runs block) (has_block granted block) (sym (gains.blocks block) ∙ out.apart k d less);
  once = out.once;
}

-- what is handed out was free
pub was-free : (left runs granted : List Run) → Gains left runs granted → All (λ block. has_block runs block ≡ true) (blocks_in granted)
was-free left runs granted gains k d less =
    let block = get_or (blocks_in granted) k d in
    gains.blocks block ∙ or-true (has_block left block) (has_block granted block) (item-among (blocks_in granted) k d less)

-- those that are handed out are out with the others
pub more-out : (old new : FreeSpace) (runs granted : List Run) → new.capacity ≡ old.capacity → Gains new.runs old.runs granted → AreOut old (blocks_in runs) → AreOut new (blocks_in granted) → AreOut new (blocks_in (runs ++ granted))
more-out old new runs granted same gains out more =
    let kept = stays-out old new granted (blocks_in runs) same gains out in
    let free = was-free new.runs old.runs granted gains in
    subst (AreOut new) (sym (flat_map-append blocks_in_run runs granted))
    (record {
      below = All-append (λ block. block < new.capacity) (blocks_in runs) (blocks_in granted) kept.below more.below;
      apart = All-append (λ block. has_block new.runs block ≡ false) (blocks_in runs) (blocks_in granted) kept.apart more.apart;
      once = pairs-append (blocks_in runs) (blocks_in granted) out.once more.once (λ k d less. free-not-out old (blocks_in runs) (get_or (blocks_in granted) k d) out (free k d less));
    })

-- what was handed out before and then is handed out
gains-both : (runs left less before then : List Run) → Gains left runs before → Gains less left then → Gains less runs (before ++ then)
gains-both runs left less before then first last = record {
  blocks = λ block.
      first.blocks block
      ∙ ap (λ x. x || has_block before block) (last.blocks block)
      ∙ or-last (has_block less block) (has_block then block) (has_block before block)
      ∙ ap (λ x. has_block less block || x) (sym (has-append before then block));
  count = omega (arith, first.count, last.count, ap length (flat_map-append blocks_in_run before then), length-append (blocks_in before) (blocks_in then));
}

pub hands-more : (old next last : Roomy FreeSpace) (granted : List Run) (run : Run) → HandsOut old next granted → HandsOut next last (run ∷ []) → HandsOut old last (granted ++ run ∷ [])
hands-more old next last granted run first then = record {
  capacity = then.capacity ∙ first.capacity;
  order = then.order;
  left = gains-both old.held.runs next.held.runs last.held.runs granted (run ∷ []) first.left then.left;
  out = more-out next.held last.held granted (run ∷ []) then.capacity then.left first.out then.out;
  fewer = omega (arith, first.fewer, then.fewer);
  room = omega (arith, first.room, then.room);
}
