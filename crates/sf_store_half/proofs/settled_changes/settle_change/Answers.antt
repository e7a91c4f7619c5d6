use Rattle.std.proofs.Common.{drop, Option, sym, ap, ◌∙◌}
use Rattle.sf_types.specs.Values.Marks.{Value}
use Rattle.sf_store_half.proofs.SettledChangeLemmas.{change_bytes, change_count, change_settled}
use Rattle.sf_store_half.proofs.settled_changes.settle_change.Goals as goal

pub settle_in-requires : goal.settle_in-requires
settle_in-requires c =
    change_bytes c.args.change c.change.inside.name c.in-Some.map c.fresh.result (drop c.args.from c.args.chunks.now) c.in_ok-own-in-Some.own
    (ap (λ (o : Option Value). (c.change.inside.name, o)) (sym c.in-Some.is) ∙ c.change.view_is) c.fresh.ensures c.in_ok-own-in-Some.ensures c.requires

pub returns-in_ok-settle_in-in-Some-clause-settled : goal.returns-in_ok-settle_in-in-Some-clause-settled
returns-in_ok-settle_in-in-Some-clause-settled c =
    change_settled c.args.change c.change.inside.name c.in-Some.map c.fresh.result (drop c.args.from c.args.chunks.now) c.in_ok-own-in-Some.own
    (ap (λ (o : Option Value). (c.change.inside.name, o)) (sym c.in-Some.is) ∙ c.change.view_is) c.fresh.ensures c.in_ok-own-in-Some.ensures c.requires c.settle_in.new.self c.in_ok-settle_in-in-Some.ensures.ok

pub returns-in_ok-settle_in-in-Some-clause-count : goal.returns-in_ok-settle_in-in-Some-clause-count
returns-in_ok-settle_in-in-Some-clause-count c =
    c.len-count.ensures
    ∙ change_count c.args.change c.change.inside.name c.in-Some.map c.fresh.result (drop c.args.from c.args.chunks.now) c.in_ok-own-in-Some.own
    (ap (λ (o : Option Value). (c.change.inside.name, o)) (sym c.in-Some.is) ∙ c.change.view_is) c.fresh.ensures c.in_ok-own-in-Some.ensures c.requires
