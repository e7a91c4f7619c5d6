use Rattle.std.proofs.Common.{rules, tests, not, eqb, ◌||◌, ap, ◌∙◌}
use Rattle.std.specs.List.{list_any}
use Rattle.std.proofs.lemmas.Map.Made.{filter_same_pairs}
use Rattle.sf_types.specs.Inside.NameMaps.{is_same_name}
use Rattle.sf_types.specs.Calls.Savepoints.{without_later_locks}
use Rattle.sf_plain_table.proofs.locks.Locks.release_others.Goals as goal

pub returns : goal.returns
returns c =
    filter_same_pairs _ (λ e. not (eqb e.1 c.args.session) || list_any (is_same_name e.0) c.args.kept.now) _ (λ k v b w f' t. search (rules, tests)) _ _ c.retain.ensures
    ∙ ap (λ m. without_later_locks m c.args.session c.args.kept.now) c.self.view_is
