use Rattle.std.proofs.Common.{◌≡◌, false, rules, refl}
use Rattle.std.proofs.lemmas.Map.Made.{map_same_pairs}
use Rattle.sf_types.specs.Table.Parts.{Locator}
use Rattle.sf_types.specs.Calls.TransactionEnds.{clean_locators}
use Rattle.sf_plain_table.proofs.session.Session.clean_locators.Goals as goal

pub returns : goal.returns
returns c =
    let cleaned : c.retain.new.self ≡ clean_locators c.self.inside.locators = map_same_pairs _ (λ (l : Locator). record l { is_dirty = false }) _ (λ k v b w f' t. search rules) _ _ c.retain.ensures in
    rw (cleaned, ← c.self.view_is) refl
