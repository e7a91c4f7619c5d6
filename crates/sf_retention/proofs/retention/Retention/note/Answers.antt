use Rattle.std.proofs.Common.{sym, subst}
use Rattle.std.specs.Prelude.{All}
use Rattle.std.proofs.Common.{◌≤◌}
use Rattle.sf_retention.specs.Notes.{note_of}
use Rattle.sf_retention.proofs.NoteLemmas.{rising_push}
use Rattle.sf_retention.proofs.retention.Retention.note.Goals as goal

pub invariant_of-self-2 : goal.invariant_of-self-2
invariant_of-self-2 c =
    rising_push c.self.inside.notes.items c.push_back.new.self.items (note_of c.args.name c.args.from c.args.until) c.in_ok-push_back.ensures.items c.self.invariant
    (subst (λ v. All (λ n. n.until ≤ c.args.until) v.held) (sym c.self.view_is) c.requires)
