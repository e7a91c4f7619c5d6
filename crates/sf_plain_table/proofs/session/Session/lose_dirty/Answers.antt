use Rattle.std.proofs.Common.{◌≡◌, cond, rules, tests, refl}
use Rattle.std.proofs.lemmas.Map.Made.{map_same_pairs}
use Rattle.sf_types.specs.Table.Parts.{Locator}
use Rattle.sf_types.specs.Calls.Savepoints.{with_losses, lost_locator}
use Rattle.sf_plain_table.proofs.session.Session.lose_dirty.Goals as goal

pub returns : goal.returns
returns c =
    let changed : c.retain.new.self ≡ with_losses (λ l. l.is_dirty) c.self.inside.locators = map_same_pairs _ (λ (l : Locator). cond l.is_dirty (lost_locator l) l) _ (λ k v b w f' t. search (rules, tests)) _ _ c.retain.ensures in
    rw (changed, ← c.self.view_is) refl
