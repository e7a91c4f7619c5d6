use Rattle.std.proofs.Common.{◌∙◌, ap, sym, arith}
use Rattle.std.specs.Option.{option_copied, option_map}
use Rattle.sf_types.specs.Table.Versions.{value_or_absent}
use Rattle.sf_versions.specs.RowChanges.{last_value}
use Rattle.sf_versions.specs.VersionTables.{versions_of}
use Rattle.sf_versions.proofs.SpanLemmas.{of_found, of_none}
use Rattle.sf_versions.proofs.ReadLemmas.{span_bound, last_is}
use Rattle.sf_versions.proofs.versions.Versions.current.Goals as goal

pub returns-in_default : goal.returns-in_default
returns-in_default c =
    let none = sym c.get.ensures ∙ ap option_copied c.in_default.is in
    sym (ap last_value (of_none c.self.inside.versions.held c.self.inside.spans.held c.args.name.now none))
    ∙ ap (λ v. last_value (versions_of v.held.rows c.args.name.now)) c.self.view_is

pub overflow_add-span : goal.overflow_add-span
overflow_add-span c =
    let found = sym c.get.ensures ∙ ap option_copied c.in-Some.is in
    omega (arith, span_bound c.self.inside.commits _ c.self.inside.versions.held c.in-Some.span.now (c.self.invariant.1.each c.args.name.now c.in-Some.span.now found), c.self.invariant.0)

pub overflow_sub-span : goal.overflow_sub-span
overflow_sub-span c =
    let found = sym c.get.ensures ∙ ap option_copied c.in-Some.is in
    omega (arith, (c.self.invariant.1.each c.args.name.now c.in-Some.span.now found).some)

pub returns : goal.returns
returns c =
    let found = sym c.get.ensures ∙ ap option_copied c.in-Some.is in
    let span = c.in-Some.span.now in
    let last = last_is c.self.inside.versions.held span (c.self.invariant.1.each c.args.name.now span found).some in
    c.value_at.ensures ∙ sym (ap (λ o. value_or_absent (option_map (λ v. v.1) o)) last)
    ∙ sym (ap last_value (of_found c.self.inside.versions.held c.self.inside.spans.held c.args.name.now span found))
    ∙ ap (λ v. last_value (versions_of v.held.rows c.args.name.now)) c.self.view_is
