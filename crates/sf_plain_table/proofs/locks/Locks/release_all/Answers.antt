use Rattle.std.proofs.Common.{rules, not, eqb, ap, ◌∙◌}
use Rattle.std.proofs.lemmas.Map.Made.{filter_same_pairs}
use Rattle.sf_types.specs.Table.Sessions.{without_locks}
use Rattle.sf_plain_table.proofs.locks.Locks.release_all.Goals as goal

pub returns : goal.returns
returns c =
    filter_same_pairs _ (λ e. not (eqb e.1 c.args.session)) _ (λ k v b w f' t. search rules) _ _ c.retain.ensures
    ∙ ap (λ m. without_locks m c.args.session) c.self.view_is
