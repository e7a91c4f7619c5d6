use Rattle.std.proofs.Common.{◌∷◌, ◌++◌, [], sym, ap, ◌∙◌}
use Rattle.std.specs.Prelude.{slice_get}
use Rattle.std.specs.Option.{option_map}
use Rattle.std.specs.Map.{keys_of}
use Rattle.std.specs.Map.Iter.{deref_pair}
use Rattle.sf_own_part.proofs.LockedLemmas.{name_taken, none_taken, keys-push}
use Rattle.sf_own_part.proofs.own_part.OwnPart.copy_locked.Goals as goal

pub returns-in_ok-push-in-Some : goal.returns-in_ok-push-in-Some
returns-in_ok-push-in-Some c =
    let rows = c.args.self.now.held.rows in
    let names = c.args.names.now.items in
    let here = sym (sym (ap (option_map deref_pair) c.in-Some.is) ∙ c.entry.ensures ∙ ap (λ v. slice_get v.held.rows c.args.k) c.self.view_is) in
    ap keys_of c.in_ok-push-in-Some.ensures.items
    ∙ keys-push names (c.in_ok-copy-in-Some.field-0, tt)
    ∙ ap (λ name. keys_of names ++ name ∷ []) c.in_ok-copy-in-Some.ensures
    ∙ ap (λ ns. ns ++ c.in-Some.name.now ∷ []) c.requires
    ∙ sym (name_taken rows c.args.k _ here)

pub returns-in-None : goal.returns-in-None
returns-in-None c =
    let rows = c.args.self.now.held.rows in
    c.requires ∙ none_taken rows c.args.k (sym (sym (ap (option_map deref_pair) c.in-None.is) ∙ c.entry.ensures ∙ ap (λ v. slice_get v.held.rows c.args.k) c.self.view_is))
