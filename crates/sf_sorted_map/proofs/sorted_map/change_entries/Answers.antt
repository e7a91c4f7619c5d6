use Rattle.std.proofs.Common.{◌∙◌, ap, arith, set, get_or}
use Rattle.std.specs.Map.{keys_of}
use Rattle.sf_sorted_map.proofs.PlaceLemmas.{values_changed_next, keys_changed}
use Rattle.sf_sorted_map.proofs.sorted_map.change_entries.Goals as goal

pub loop-at-preserved : goal.loop-at-preserved
loop-at-preserved g c =
    let change = g.C.Change.changed c.args.change.now in
    let at = c.loop-at.at in
    let d = c.index-entries-at.result in
    ap (λ v. set c.loop-at.entries at ((get_or c.loop-at.entries at d).0, v)) c.change.ensures
    ∙ ap (λ xs. set xs at ((get_or xs at d).0, change (get_or xs at d).1)) c.loop-at.invariant
    ∙ values_changed_next change c.args.entries.now at d (omega (arith, c.loop-at-test.true))

pub returns-clause-keys : goal.returns-clause-keys
returns-clause-keys g c =
    ap keys_of c.loop-at.invariant ∙ keys_changed (g.C.Change.changed c.args.change.now) c.args.entries.now c.loop-at.at
