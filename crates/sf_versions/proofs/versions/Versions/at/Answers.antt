use Rattle.std.proofs.Common.{◌∙◌, ap, sym, arith}
use Rattle.std.specs.Option.{option_copied}
use Rattle.sf_types.specs.Table.Versions.{value_or_absent}
use Rattle.sf_versions.specs.RowChanges.{change_up_to}
use Rattle.sf_versions.specs.VersionTables.{versions_of}
use Rattle.sf_versions.proofs.SpanLemmas.{of_found, of_none}
use Rattle.sf_versions.proofs.ReadLemmas.{span_bound, up_to_is, before_is, change_before}
use Rattle.sf_versions.proofs.versions.Versions.at.Goals as goal

pub returns-in_default : goal.returns-in_default
returns-in_default c =
    let none = sym c.get.ensures ∙ ap option_copied c.in_default.is in
    sym (ap (λ vs. value_or_absent (change_up_to vs c.args.commits)) (of_none c.self.inside.versions.held c.self.inside.spans.held c.args.name.now none))
    ∙ ap (λ v. value_or_absent (change_up_to (versions_of v.held.rows c.args.name.now) c.args.commits)) c.self.view_is

pub count_up_to-count-requires : goal.count_up_to-count-requires
count_up_to-count-requires c =
    let found = sym c.get.ensures ∙ ap option_copied c.in-Some.is in
    omega (arith, span_bound c.self.inside.commits _ c.self.inside.versions.held c.in-Some.span.now (c.self.invariant.1.each c.args.name.now c.in-Some.span.now found), c.self.invariant.0)

pub returns-then-count-eq0 : goal.returns-then-count-eq0
returns-then-count-eq0 c =
    let found = sym c.get.ensures ∙ ap option_copied c.in-Some.is in
    let span = c.in-Some.span.now in
    let is = c.self.invariant.1.each c.args.name.now span found in
    let vs = c.self.inside.versions.held in
    let up_to = c.count_up_to-count.ensures in
    let change = up_to_is vs span.row c.self.inside.commits c.args.commits 0 span.first span.count c.count_up_to-count.result is.rising up_to.within up_to.before up_to.after in
    sym (ap (λ r. value_or_absent (change_before vs span.row span.first r)) {x = c.count_up_to-count.result} {y = 0} (omega (arith, c.if-count-eq0.true)))
    ∙ sym (ap value_or_absent change)
    ∙ sym (ap (λ vs. value_or_absent (change_up_to vs c.args.commits)) (of_found vs c.self.inside.spans.held c.args.name.now span found))
    ∙ ap (λ v. value_or_absent (change_up_to (versions_of v.held.rows c.args.name.now) c.args.commits)) c.self.view_is

pub overflow_add-span : goal.overflow_add-span
overflow_add-span c =
    let found = sym c.get.ensures ∙ ap option_copied c.in-Some.is in
    omega (arith, span_bound c.self.inside.commits _ c.self.inside.versions.held c.in-Some.span.now (c.self.invariant.1.each c.args.name.now c.in-Some.span.now found), c.self.invariant.0, c.count_up_to-count.ensures.within)

pub returns : goal.returns
returns c =
    let found = sym c.get.ensures ∙ ap option_copied c.in-Some.is in
    let span = c.in-Some.span.now in
    let is = c.self.invariant.1.each c.args.name.now span found in
    let vs = c.self.inside.versions.held in
    let up_to = c.count_up_to-count.ensures in
    let change = up_to_is vs span.row c.self.inside.commits c.args.commits 0 span.first span.count c.count_up_to-count.result is.rising up_to.within up_to.before up_to.after in
    c.value_at.ensures
    ∙ sym (before_is vs span.row span.first c.count_up_to-count.result (omega (arith, c.if-count-eq0.false)))
    ∙ sym (ap value_or_absent change)
    ∙ sym (ap (λ vs. value_or_absent (change_up_to vs c.args.commits)) (of_found vs c.self.inside.spans.held c.args.name.now span found))
    ∙ ap (λ v. value_or_absent (change_up_to (versions_of v.held.rows c.args.name.now) c.args.commits)) c.self.view_is
