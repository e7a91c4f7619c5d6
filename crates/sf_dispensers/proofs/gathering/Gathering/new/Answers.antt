use Rattle.std.proofs.Common.{◌∙◌, ◌++◌, ◌∷◌, [], ap, sym, arith, List, length}
use Rattle.sf_types.specs.declared.run.Run.{Run}
use Rattle.sf_types.specs.Space.BlockRuns.{blocks_in}
use Rattle.sf_types.proofs.RunLemmas.{no_run}
use Rattle.sf_space_words.specs.Blocks.{times}
use Rattle.sf_dispensers.proofs.gathering.Gathering.new.Goals as goal

pub invariant_of-result : goal.invariant_of-result
invariant_of-result g c =
    let none = sym c.requires.runs.0 in record {
      own = record {
        id = c.requires.seat.id;
        capacity = c.requires.seat.capacity;
        just = λ b. c.requires.seat.just b ∙ ap (λ (l : List Run). times b (blocks_in (l ++ no_run ∷ []))) none;
      };
      total = ap (λ (l : List Run). length (blocks_in (l ++ no_run ∷ []))) none;
      few = omega arith;
      room = c.requires.runs.1;
    }
