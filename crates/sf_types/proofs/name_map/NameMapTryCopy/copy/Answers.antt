use Rattle.std.proofs.Common.{◌∙◌}
use Rattle.std.proofs.lemmas.Map.Entries.{entries_from_clone}
use Rattle.sf_types.proofs.name_map.NameMapTryCopy.copy.Goals as goal

pub returns : goal.returns
returns g c =
    entries_from_clone g.K.Clone.is_clone g.V.Clone.is_clone (λ x y h. g.met.K.Exact.exact x y h) (λ v w h. g.met.V.Exact.exact v w h) c.self.inside.entries.entries c.in_ok-entries.entries.entries c.in_ok-entries.ensures.cases ∙ c.self.view_is
