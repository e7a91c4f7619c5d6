use Rattle.std.proofs.Common.{rules, ◌≡◌, ap, ◌∙◌}
use Rattle.std.specs.List.{list_any}
use Rattle.sf_types.specs.Inside.NameMaps.{is_same_name, has}
use Rattle.sf_own_part.proofs.LockedLemmas.{named_is_there}
use Rattle.sf_own_part.proofs.savepoint.Savepoint.names_row.Goals as goal

pub returns : goal.returns
returns c =
    let there : c.is_some.result ≡ has c.self.inside.locked.held c.args.row.now = search rules in
    there ∙ named_is_there c.self.inside.locked.held c.args.row.now ∙ ap (λ s. list_any (is_same_name c.args.row.now) s.locked) c.self.view_is
