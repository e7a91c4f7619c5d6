use Rattle.std.proofs.Common.{◌≡◌, length, take, drop, ap, ◌∙◌, ℕ, List, arith}
use Rattle.sf_types.specs.Space.BlockRuns.{blocks_in}
use Rattle.sf_types.specs.Space.Contents.{blocks_of}
use Rattle.sf_types.specs.Space.Cuts.{Cut}
use Rattle.sf_types.specs.Space.Publications.{content_of_cut}
use Rattle.sf_dedup.specs.Contents.{content_at}
use Rattle.sf_store_half.proofs.CutPlanLemmas.{no_entry, not_in_index, plan_grown, plan_stays}
use Rattle.sf_store_half.proofs.plans.plan_new.Goals as goal

pub add_new-requires-clause-apart : goal.add_new-requires-clause-apart
add_new-requires-clause-apart c shares = not_in_index c.args.stock.now.held c.args.plan.now c.args.cut.now c.requires.plan c.requires.apart shares

pub add_new-requires-clause-unborn : goal.add_new-requires-clause-unborn
add_new-requires-clause-unborn c =
    ap (λ es. content_at es c.args.plan.now.next) c.requires.plan.firsts
    ∙ no_entry c.args.stock.now.held.next c.args.plan.now.next c.args.plan.now.news.items (omega (arith, c.requires.plan.next))

pub returns-clause-planned : goal.returns-clause-planned
returns-clause-planned c =
    let blocks : List ℕ = blocks_in c.args.plan.now.left.held in
    let count : c.blocks-count.result ≡ blocks_of (length c.args.cut.now.bytes) = c.blocks-count.ensures ∙ ap blocks_of c.len.ensures ∙ ap (λ (x : Cut). blocks_of (length x.bytes)) c.cut.view_is in
    plan_grown c.args.stock.now.held c.args.plan.now c.add_new.new.plan c.in_ok-new.new c.args.cut.now c.requires.plan c.requires.apart
    (c.in_ok-new.ensures.content ∙ ap content_of_cut c.cut.view_is)
    (c.in_ok-new.ensures.blocks ∙ ap blocks_in c.as_slice.ensures ∙ c.in_ok-runs.ensures.taken ∙ ap (λ (n : ℕ). take n blocks) count)
    c.in_ok-birth.ensures.news c.in_ok-birth.ensures.next
    (ap (λ r. blocks_in r) c.in_ok-birth.ensures.left ∙ c.in_ok-runs.ensures.rest ∙ ap (λ (n : ℕ). drop n blocks) count)

pub returns-clause-plan : goal.returns-clause-plan
returns-clause-plan c =
    plan_stays c.args.stock.now.held c.args.plan.now c.add_new.new.plan c.in_ok-new.new c.args.cut.now c.requires.plan (c.in_ok-new.ensures.content ∙ ap content_of_cut c.cut.view_is)
    c.in_ok-birth.ensures.news c.in_ok-birth.ensures.next c.in_ok-birth.ensures.items c.in_ok-birth.ensures.firsts
