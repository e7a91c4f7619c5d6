use Rattle.std.proofs.Common.{◌≤◌, length, ap, ◌∙◌, arith}
use Rattle.std.specs.Prelude.{flat_map}
use Rattle.sf_versions.specs.Asks.{cuts_with}
use Rattle.sf_own_part.specs.Inside.RowCuts.{row_contents, row_choices}
use Rattle.sf_own_part.proofs.CutLemmas.{rows_cuts}
use Rattle.sf_own_part.proofs.LockedLemmas.{part_added, all_added}
use Rattle.sf_own_part.proofs.own_part.OwnPart.commit_cuts.Goals as goal

pub loop-k-preserved : goal.loop-k-preserved
loop-k-preserved c =
    let working = c.args.self.now.held.part.working in (
      part_added row_contents working c.loop-k.k _ _ _ c.loop-k.invariant.0 c.in_ok-add_cuts.ensures.contents,
      part_added row_choices working c.loop-k.k _ _ _ c.loop-k.invariant.1 c.in_ok-add_cuts.ensures.choices,
    )

pub returns : goal.returns
returns c options =
    let working = c.args.self.now.held.part.working in
    let most : length working ≤ c.loop-k.k = omega (arith, c.row_count-k-end.ensures.count, ap (λ v. length v.held.part.working) c.self.view_is, c.loop-k-test.false) in
    ap (λ xs. cuts_with options xs c.loop-k.cuts.choices) (all_added row_contents working c.loop-k.k c.loop-k.cuts.contents (flat_map row_contents working) c.loop-k.invariant.0 most)
    ∙ ap (cuts_with options (flat_map row_contents working)) (all_added row_choices working c.loop-k.k c.loop-k.cuts.choices (flat_map row_choices working) c.loop-k.invariant.1 most)
    ∙ rows_cuts options working
