use Rattle.std.proofs.Common.{◌++◌, ◌≤◌, ◌∙◌, List, ap, length, subst, sym}
use Rattle.sf_retention.specs.declared.retention.Note.{Note}
use Rattle.sf_retention.specs.declared.retention.Pair.{Pair}
use Rattle.sf_retention.specs.Notes.{due_pairs}
use Rattle.sf_store_half.specs.Inside.Commits.{displaced_notes}
use Rattle.sf_store_half.proofs.PlanLemmas.{all_until, few_due}
use Rattle.sf_store_half.proofs.commits.make_commit.Goals as goal

pub take_notes-requires-clause-displaced : goal.take_notes-requires-clause-displaced
take_notes-requires-clause-displaced c = all_until c.args.versions.now.held c.args.changes c.args.plan.displaced c.args.plan.number c.requires.plan.displaced c.requires.plan.number

pub take_notes-requires-clause-count : goal.take_notes-requires-clause-count
take_notes-requires-clause-count c =
    let notes = c.args.notes.now.held in
    subst (λ n. n ≤ length (notes ++ c.args.plan.displaced)) (sym (c.len.ensures ∙ ap (λ (ps : List Pair). length ps) c.requires.plan.due))
    (subst (λ (ns : List Note). length (due_pairs (notes ++ displaced_notes c.args.versions.now.held c.args.changes) c.args.plan.floor) ≤ length (notes ++ ns)) (sym c.requires.plan.displaced)
    (few_due (notes ++ displaced_notes c.args.versions.now.held c.args.changes) c.args.plan.floor))
