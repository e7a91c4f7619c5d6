use Rattle.std.proofs.Common.{ℕ, ◌∙◌, List, Some, ap, sym, arith}
use Rattle.std.specs.Option.{option_map}
use Rattle.std.specs.Prelude.{slice_get}
use Rattle.std.specs.Map.Iter.{deref_pair}
use Rattle.sf_types.specs.Table.Versions.{value_or_absent}
use Rattle.sf_versions.specs.RowChanges.{RowChanges, last_value}
use Rattle.sf_versions.proofs.SpanLemmas.{entry_found, entry_shown}
use Rattle.sf_versions.proofs.ReadLemmas.{span_bound, last_is}
use Rattle.sf_versions.proofs.versions.Versions.row.Goals as goal

pub overflow_add-span : goal.overflow_add-span
overflow_add-span c =
    let found = entry_found c.self.inside.spans.held c.args.k (c.in-Some.name.now, c.in-Some.span.now) c.self.invariant.1.named (sym c.entry.ensures ∙ ap (option_map deref_pair) c.in-Some.is) in
    omega (arith, span_bound c.self.inside.commits _ c.self.inside.versions.held c.in-Some.span.now (c.self.invariant.1.each c.in-Some.name.now c.in-Some.span.now found), c.self.invariant.0)

pub overflow_sub-span : goal.overflow_sub-span
overflow_sub-span c =
    let found = entry_found c.self.inside.spans.held c.args.k (c.in-Some.name.now, c.in-Some.span.now) c.self.invariant.1.named (sym c.entry.ensures ∙ ap (option_map deref_pair) c.in-Some.is) in
    omega (arith, (c.self.invariant.1.each c.in-Some.name.now c.in-Some.span.now found).some)

pub returns : goal.returns
returns c =
    let at_k = sym c.entry.ensures ∙ ap (option_map deref_pair) c.in-Some.is in
    let found = entry_found c.self.inside.spans.held c.args.k (c.in-Some.name.now, c.in-Some.span.now) c.self.invariant.1.named at_k in
    let span = c.in-Some.span.now in
    let last = last_is c.self.inside.versions.held span (c.self.invariant.1.each c.in-Some.name.now span found).some in
    ap (λ x. Some (c.in-Some.name.now, x)) (c.value_at.ensures ∙ sym (ap (λ o. value_or_absent (option_map (λ v. v.1) o)) last))
    ∙ sym (ap (option_map (λ (row : List ℕ × RowChanges). (row.0, last_value row.1))) (entry_shown c.self.inside.versions.held c.self.inside.spans.held c.args.k (c.in-Some.name.now, span) at_k))
    ∙ ap (λ v. option_map (λ (row : List ℕ × RowChanges). (row.0, last_value row.1)) (slice_get v.held.rows c.args.k)) c.self.view_is
