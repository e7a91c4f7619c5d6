use Rattle.std.proofs.Common.{◌≡◌, ℕ, ◌+◌, ◌-◌, ◌≤◌, length, take, drop, vec_len}
use Rattle.std.specs.Prelude.{vec_capacity}
use Rattle.sf_types.specs.Space.BlockRuns.{blocks_in}
use Rattle.sf_space_words.specs.Blocks.{times}
use Rattle.sf_dispensers.specs.Inside.{GainsRuns}
use Rattle.sf_dispensers.proofs.dispenser.Dispenser.take_back.Given as goal

-- The seat has the blocks of the list, and those of the runs that are still to be kept or cleared. Each run so far took room for
-- one at most, and where there was room for all, none was cleared.
abbrev pub invariant-loop-run : goal.invariant-loop-run
invariant-loop-run g l = record {
  id : l.self-inside.seat.id ≡ g.N.Named.space;
  capacity : l.self-inside.seat.capacity ≡ g.N.Named.options.capacity;
  blocks : (b : ℕ) → times b l.self-inside.seat.blocks ≡ times b (blocks_in l.self-inside.runs.items) + times b (blocks_in (drop l.run-index l.run-items));
  room : vec_capacity l.self-inside.runs ≡ vec_capacity l.initial.self-inside.runs;
  len : vec_len l.self-inside.runs ≤ vec_len l.initial.self-inside.runs + l.run-index;
  kept : length l.run-items ≤ vec_capacity l.initial.self-inside.runs - vec_len l.initial.self-inside.runs → GainsRuns l.initial.self-inside.runs.items l.self-inside.runs.items (take l.run-index l.run-items);
}
