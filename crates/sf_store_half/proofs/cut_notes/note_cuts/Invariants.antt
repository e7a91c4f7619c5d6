use Rattle.std.proofs.Common.{◌≡◌, ◌-◌, ◌≤◌, ◌++◌, ℕ, [], length, drop, None}
use Rattle.sf_dedup.specs.Contents.{content_at}
use Rattle.sf_store_half.specs.HalfMoves.{cuts_in}
use Rattle.sf_store_half.specs.Inside.CutNotes.{notes_from}
use Rattle.sf_store_half.proofs.cut_notes.note_cuts.Given as goal

abbrev pub invariant-loop-content : goal.invariant-loop-content
invariant-loop-content l = record {
  notes : l.notes.items ++ notes_from l.stock.held.stocked l.firsts.held l.at (drop l.at (cuts_in l.options l.flush)) ≡ notes_from l.stock.held.stocked [] 0 (cuts_in l.options l.flush);
  fresh : (k : ℕ) → l.at ≤ k → content_at l.firsts.held k ≡ None;
}

abbrev pub decreases-loop-content : goal.decreases-loop-content
decreases-loop-content l = length l.flush.contents - l.at
