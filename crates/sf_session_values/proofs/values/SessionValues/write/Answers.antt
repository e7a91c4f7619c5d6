use Rattle.std.proofs.Common.{◌≡◌, ℕ, true, List, Option, Some, None, refl, sym, ap, subst, ◌∙◌}
use Rattle.std.specs.Option.{option_map}
use Rattle.sf_types.specs.Inside.NameMaps.{NameMap, get, with_entry}
use Rattle.sf_types.specs.Table.Parts.{Locator}
use Rattle.sf_session_values.specs.declared.working.Working.{Working}
use Rattle.sf_session_values.specs.declared.working.Working.TheVariants as working
use Rattle.sf_session_values.specs.Inside.Sharing.{rows_by, AreShared}
use Rattle.sf_session_values.proofs.SharingLemmas.{same_view, written-shared, written-rows}
use Rattle.sf_session_values.proofs.values.SessionValues.write.Goals as goal

some : {X : Type 0} (x y : X) → ◌≡◌ {A = Option X} (Some x) (Some y) → x ≡ y
some x y is = cc

shared_after : (found : Option Locator) (ls ms : NameMap Locator) (rows after : NameMap Working) (at row : List ℕ) (f : Locator → Locator) → get ls at ≡ found → AreShared ls rows → option_map (λ l. l.row) found ≡ Some row → ((l : Locator) → (f l).row ≡ l.row)
    → ((l : Locator) → get ls at ≡ Some l → ms ≡ with_entry ls at (f l)) → after ≡ with_entry rows row (working.Through at) → AreShared ms after
shared_after None ls ms rows after at row f there shared rowed same made changed = absurd cc
shared_after (Some l) ls ms rows after at row f there shared rowed same made changed =
    subst (λ m. AreShared m after) (sym (made l there))
    (subst (AreShared (with_entry ls at (f l))) (sym changed) (written-shared ls rows at row l (f l) shared there (some l.row row rowed) (same l)))

pub invariant_of-self : goal.invariant_of-self
invariant_of-self c =
    let ls = c.self.inside.locators.held in
    shared_after (get ls c.args.at) ls c.write.new.self.held c.self.inside.rows.held c.insert_within.new.self.held c.args.at c.args.row
    (λ l. record l { value = c.args.map; transaction = c.args.txn; epoch = c.args.epoch; is_dirty = true }) refl c.self.invariant
    (ap (λ v. option_map (λ l. l.row) (get v.held.locators c.args.at)) c.self.view_is ∙ c.requires.row) (λ l. refl)
    c.write.ensures.held c.insert_within.ensures.held

pub returns : goal.returns
returns c l is =
    let ls = c.self.inside.locators.held in
    let n : Locator = record l { value = c.args.map; transaction = c.args.txn; epoch = c.args.epoch; is_dirty = true } in
    let there : get ls c.args.at ≡ Some l = ap (λ v. get v.held.locators c.args.at) c.self.view_is ∙ is in
    let rowed : l.row ≡ c.args.row = some l.row c.args.row (sym (ap (λ x. option_map (λ l. l.row) x) is) ∙ c.requires.row) in
    let made = c.write.ensures.held l there in
    same_view _ _ _ _
    (ap (λ m. rows_by m c.insert_within.new.self.held) made
    ∙ ap (rows_by (with_entry ls c.args.at n)) c.insert_within.ensures.held
    ∙ written-rows ls c.self.inside.rows.held c.args.at c.args.row l n c.self.invariant there rowed refl c.len.ensures.rising
    ∙ ap (λ v. with_entry v.held.working c.args.row (Some c.args.map)) c.self.view_is)
    (made ∙ ap (λ v. with_entry v.held.locators c.args.at n) c.self.view_is)
