use Rattle.std.proofs.Common.{◌∙◌, ap, sym, subst, [], ◌∷◌, ◌++◌, Some}
use Rattle.atomic_table.specs.Table.{opening}
use Rattle.sf_turnstile.specs.Rule.{TurnstileRule, first_view}
use Rattle.sf_turnstile.proofs.OpeningLemmas.{opens}
use Rattle.sf_turnstile.proofs.turnstile.Turnstile.new.Goals as goal

pub new-requires : goal.new-requires
new-requires g c =
    subst (λ l. TurnstileRule g.B.Told.history (opening (0 ∷ 0 ∷ []) l first_view)) (sym (c.in_ok-push.ensures.items ∙ ap (λ l. l ++ Some c.args.value ∷ []) c.in_ok-slots.ensures.items)) (opens g.B.Told.history c.args.value c.requires)
