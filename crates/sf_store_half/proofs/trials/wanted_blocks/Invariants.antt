use Rattle.std.proofs.Common.{◌≡◌, take}
use Rattle.sf_store_half.specs.Inside.CutNotes.{blocks_for_all}
use Rattle.sf_store_half.specs.Inside.Trials.{is_reached}
use Rattle.sf_store_half.proofs.trials.wanted_blocks.Given as goal

abbrev pub invariant-loop-note : goal.invariant-loop-note
invariant-loop-note l = l.wanted ≡ blocks_for_all (is_reached l.given.ledger.holdings l.given.holders l.births) (take l.note-index l.notes)
