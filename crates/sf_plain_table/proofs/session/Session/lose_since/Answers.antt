use Rattle.std.proofs.Common.{◌≡◌, cond, rules, tests, refl}
use Rattle.std.proofs.lemmas.Map.Made.{map_same_pairs}
use Rattle.sf_types.specs.Table.Parts.{Locator}
use Rattle.sf_types.specs.Calls.Savepoints.{with_losses, lost_locator, is_since}
use Rattle.sf_plain_table.proofs.session.Session.lose_since.Goals as goal

pub returns : goal.returns
returns c =
    let changed : c.retain.new.self ≡ with_losses (is_since c.args.savepoint.now) c.self.inside.locators = map_same_pairs _ (λ (l : Locator). cond ((is_since c.args.savepoint.now) l) (lost_locator l) l) _ (λ k v b w f' t. search (rules, tests)) _ _ c.retain.ensures in
    rw (changed, ← c.self.view_is) refl
