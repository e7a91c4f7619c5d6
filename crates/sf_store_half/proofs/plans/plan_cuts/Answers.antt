use Rattle.std.proofs.Common.{◌≡◌, List, [], ◌++◌, map, sym, ap, ◌∙◌}
use Rattle.std.proofs.lemmas.List.{append-nil, nil_from_length}
use Rattle.sf_types.specs.Space.Cuts.{Cut}
use Rattle.sf_chunk_map.specs.Contents.{StoredContent}
use Rattle.sf_store_half.specs.Inside.Plans.{planned_all, planned_births, planned_by}
use Rattle.sf_store_half.proofs.plans.plan_cuts.Goals as goal
use Rattle.sf_store_half.proofs.plans.plan_cuts.Goals.{After-from_vec}

ended : (c : After-from_vec) → c.loop-cut.cut-iterator.rest.items ≡ []
ended c = nil_from_length c.loop-cut.cut-iterator.rest.items (sym c.loop-cut.cut-iterator.rest.ok.0 ∙ c.in-None.ensures.steps.0)

pub returns-clause-births : goal.returns-clause-births
returns-clause-births c =
    ap (λ (xs : List StoredContent). map (λ (x : StoredContent). x.birth) xs) c.from_vec.ensures
    ∙ sym (append-nil (map (λ (x : StoredContent). x.birth) c.loop-cut.chunks.items))
    ∙ ap (λ (xs : List Cut). map (λ (x : StoredContent). x.birth) c.loop-cut.chunks.items ++ planned_births (planned_by c.args.stock.now.held c.loop-cut.plan) xs) (sym (ended c))
    ∙ c.loop-cut.invariant.births

pub returns-clause-bytes : goal.returns-clause-bytes
returns-clause-bytes c =
    ap (λ (xs : List StoredContent). map (λ (x : StoredContent). x.bytes) xs) c.from_vec.ensures
    ∙ sym (append-nil (map (λ (x : StoredContent). x.bytes) c.loop-cut.chunks.items))
    ∙ ap (λ (xs : List Cut). map (λ (x : StoredContent). x.bytes) c.loop-cut.chunks.items ++ map (λ (d : Cut). d.bytes) xs) (sym (ended c))
    ∙ c.loop-cut.invariant.bytes

pub returns-clause-planned : goal.returns-clause-planned
returns-clause-planned c = ap (planned_all (planned_by c.args.stock.now.held c.loop-cut.plan)) (sym (ended c)) ∙ c.loop-cut.invariant.planned
