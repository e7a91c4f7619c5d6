use Rattle.std.proofs.Common.{◌∙◌, Some, ap, sym, arith}
use Rattle.std.specs.Option.{option_copied, option_map}
use Rattle.sf_versions.specs.RowChanges.{last_number}
use Rattle.sf_versions.specs.VersionTables.{versions_of}
use Rattle.sf_versions.proofs.SpanLemmas.{of_found, of_none}
use Rattle.sf_versions.proofs.ReadLemmas.{span_bound, last_is}
use Rattle.sf_versions.proofs.versions.Versions.last.Goals as goal

pub returns-in_default : goal.returns-in_default
returns-in_default c =
    let none = sym c.get.ensures ∙ ap option_copied c.in_default.is in
    sym (ap last_number (of_none c.self.inside.versions.held c.self.inside.spans.held c.args.name.now none))
    ∙ ap (λ v. last_number (versions_of v.held.rows c.args.name.now)) c.self.view_is

pub overflow_add-span : goal.overflow_add-span
overflow_add-span c =
    let found = sym c.get.ensures ∙ ap option_copied c.in-Some.is in
    omega (arith, span_bound c.self.inside.commits _ c.self.inside.versions.held c.in-Some.span.now (c.self.invariant.1.each c.args.name.now c.in-Some.span.now found), c.self.invariant.0)

pub overflow_sub-span : goal.overflow_sub-span
overflow_sub-span c =
    let found = sym c.get.ensures ∙ ap option_copied c.in-Some.is in
    omega (arith, (c.self.invariant.1.each c.args.name.now c.in-Some.span.now found).some)

pub returns : goal.returns
returns c =
    let found = sym c.get.ensures ∙ ap option_copied c.in-Some.is in
    let span = c.in-Some.span.now in
    let last = last_is c.self.inside.versions.held span (c.self.invariant.1.each c.args.name.now span found).some in
    ap (λ n. Some n) c.number_at.ensures ∙ sym (ap (option_map (λ v. v.0)) last)
    ∙ sym (ap last_number (of_found c.self.inside.versions.held c.self.inside.spans.held c.args.name.now span found))
    ∙ ap (λ v. last_number (versions_of v.held.rows c.args.name.now)) c.self.view_is
