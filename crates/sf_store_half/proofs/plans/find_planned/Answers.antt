use Rattle.std.proofs.Common.{sym, ap, ◌∙◌}
use Rattle.sf_types.specs.Space.Cuts.{Cut}
use Rattle.sf_dedup.specs.Contents.{birth_with}
use Rattle.sf_stock.specs.Stocks.{shared_birth}
use Rattle.sf_store_half.specs.Inside.Plans.{planned_by, stocked_from}
use Rattle.sf_store_half.proofs.CutPlanLemmas.{found_by_index, found_first, found_later}
use Rattle.sf_store_half.proofs.plans.find_planned.Goals as goal

pub returns-in-Some : goal.returns-in-Some
returns-in-Some c =
    let stock = c.args.stock.now.held in
    sym (found_first stock.stocked (stocked_from stock.next c.args.plan.now.news.items) c.cut.inside.content c.in-Some.birth (sym c.find.ensures ∙ c.in-Some.is))
    ∙ ap (λ (x : Cut). shared_birth (planned_by stock c.args.plan.now).stocked x.bytes) c.cut.view_is

pub returns-in-None : goal.returns-in-None
returns-in-None c =
    let stock = c.args.stock.now.held in
    let news = stocked_from stock.next c.args.plan.now.news.items in
    let bytes = c.cut.inside.content in
    c.find-in-None.ensures
    ∙ ap (λ es. birth_with es bytes) c.requires.firsts
    ∙ found_by_index news bytes
    ∙ sym (found_later stock.stocked news bytes (sym c.find.ensures ∙ c.in-None.is))
    ∙ ap (λ (x : Cut). shared_birth (planned_by stock c.args.plan.now).stocked x.bytes) c.cut.view_is
