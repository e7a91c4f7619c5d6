use Rattle.std.proofs.Common.{◌≡◌, take}
use Rattle.sf_types.specs.Orders.Transcripts.{placed_block_count}
use Rattle.sf_plain_store.proofs.store.placed_blocks.Given as goal

-- the blocks of the places before this one
abbrev pub invariant-loop-place : goal.invariant-loop-place
invariant-loop-place l = l.blocks ≡ placed_block_count (take l.place-index l.place-items)
