use Rattle.std.proofs.Common.{◌<◌, ◌∙◌, ap, sym, subst, arith}
use Rattle.std.specs.Option.{option_copied}
use Rattle.std.specs.Prelude.{IsSome, IfSome}
use Rattle.std.specs.Ordering.{nat_cmp}
use Rattle.sf_types.specs.Values.Names.{name_cmp}
use Rattle.sf_types.specs.Inside.NameMaps.{NameMap, with_entry}
use Rattle.sf_room_map.specs.Entries.{value_for, without_key}
use Rattle.sf_versions.specs.RowChanges.{RowChanges, last_number}
use Rattle.sf_versions.specs.VersionTables.{without_version, IsDisplaced}
use Rattle.sf_versions.specs.Inside.Spans.{AreSpans, rows_in}
use Rattle.sf_room_map.proofs.EntryLemmas.{length_kept}
use Rattle.sf_versions.proofs.SpanLemmas.{of_found, of_none, spans_put, rows_put}
use Rattle.sf_versions.proofs.ReadLemmas.{span_bound}
use Rattle.sf_versions.proofs.TakenLemmas.{shorter, one, filled, taken_versions, shorter_is}
use Rattle.sf_versions.proofs.versions.Versions.forget.Goals as goal

pub returns-in_default-clause-held : goal.returns-in_default-clause-held
returns-in_default-clause-held c =
    let none = sym c.get.ensures ∙ ap option_copied c.in_default.is in
    let displaced = subst (λ v. IsDisplaced v.held.rows c.args.name.now c.args.number) (sym c.self.view_is) c.requires in
    let bad = subst (λ (vs : RowChanges). IsSome (value_for nat_cmp vs c.args.number)) (of_none c.self.inside.versions.held c.self.inside.spans.held c.args.name.now none) displaced.made in
    absurd cc

pub count_up_to-requires : goal.count_up_to-requires
count_up_to-requires c =
    let found = sym c.get.ensures ∙ ap option_copied c.in-Some.is in
    omega (arith, span_bound c.self.inside.commits _ c.self.inside.versions.held c.in-Some.span.now (c.self.invariant.1.each c.args.name.now c.in-Some.span.now found), c.self.invariant.0)

pub overflow_add-taken : goal.overflow_add-taken
overflow_add-taken c =
    let found = sym c.get.ensures ∙ ap option_copied c.in-Some.is in
    omega (arith, span_bound c.self.inside.commits _ c.self.inside.versions.held c.in-Some.span.now (c.self.invariant.1.each c.args.name.now c.in-Some.span.now found), c.self.invariant.0, c.count_up_to.ensures.within)

pub overflow_sub-taken : goal.overflow_sub-taken
overflow_sub-taken c =
    let found = sym c.get.ensures ∙ ap option_copied c.in-Some.is in
    let now = c.self.inside.commits in
    let vs = c.self.inside.versions.held in
    let t = c.in-Some.span.now in
    let name = c.args.name.now in
    let number = c.args.number in
    let displaced = subst (λ v. IsDisplaced v.held.rows name number) (sym c.self.view_is) c.requires in
    let versions = of_found vs c.self.inside.spans.held name t found in
    let made = subst (λ (list : RowChanges). IsSome (value_for nat_cmp list number)) versions displaced.made in
    let later = subst (λ (list : RowChanges). IfSome (last_number list) (λ last. number < last)) versions displaced.later in
    let is = c.self.invariant.1.each name t found in
    omega (arith, one now _ vs t number c.count_up_to.result is c.count_up_to.ensures made later)

pub take_out-requires-clause-filled : goal.take_out-requires-clause-filled
take_out-requires-clause-filled c =
    let found = sym c.get.ensures ∙ ap option_copied c.in-Some.is in
    let now = c.self.inside.commits in
    let vs = c.self.inside.versions.held in
    let t = c.in-Some.span.now in
    let name = c.args.name.now in
    let number = c.args.number in
    let displaced = subst (λ v. IsDisplaced v.held.rows name number) (sym c.self.view_is) c.requires in
    let versions = of_found vs c.self.inside.spans.held name t found in
    let made = subst (λ (list : RowChanges). IsSome (value_for nat_cmp list number)) versions displaced.made in
    let later = subst (λ (list : RowChanges). IfSome (last_number list) (λ last. number < last)) versions displaced.later in
    let is = c.self.invariant.1.each name t found in
    filled now _ vs t number c.count_up_to.result is c.count_up_to.ensures made later

pub take_out-requires-clause-within : goal.take_out-requires-clause-within
take_out-requires-clause-within c =
    let found = sym c.get.ensures ∙ ap option_copied c.in-Some.is in
    let now = c.self.inside.commits in
    let vs = c.self.inside.versions.held in
    let t = c.in-Some.span.now in
    let name = c.args.name.now in
    let number = c.args.number in
    let displaced = subst (λ v. IsDisplaced v.held.rows name number) (sym c.self.view_is) c.requires in
    let versions = of_found vs c.self.inside.spans.held name t found in
    let made = subst (λ (list : RowChanges). IsSome (value_for nat_cmp list number)) versions displaced.made in
    let later = subst (λ (list : RowChanges). IfSome (last_number list) (λ last. number < last)) versions displaced.later in
    let is = c.self.invariant.1.each name t found in
    omega (arith, one now _ vs t number c.count_up_to.result is c.count_up_to.ensures made later)

pub overflow_add-span : goal.overflow_add-span
overflow_add-span c =
    let found = sym c.get.ensures ∙ ap option_copied c.in-Some.is in
    let is = c.self.invariant.1.each c.args.name.now c.in-Some.span.now found in
    omega (arith, span_bound c.self.inside.commits _ c.self.inside.versions.held c.in-Some.span.now is, is.some, c.self.invariant.0)

pub overflow_sub-span : goal.overflow_sub-span
overflow_sub-span c =
    let found = sym c.get.ensures ∙ ap option_copied c.in-Some.is in
    omega (arith, (c.self.invariant.1.each c.args.name.now c.in-Some.span.now found).some)

pub invariant_of-self : goal.invariant_of-self
invariant_of-self c =
    let found = sym c.get.ensures ∙ ap option_copied c.in-Some.is in
    let now = c.self.inside.commits in
    let vs = c.self.inside.versions.held in
    let t = c.in-Some.span.now in
    let name = c.args.name.now in
    let number = c.args.number in
    let displaced = subst (λ v. IsDisplaced v.held.rows name number) (sym c.self.view_is) c.requires in
    let versions = of_found vs c.self.inside.spans.held name t found in
    let made = subst (λ (list : RowChanges). IsSome (value_for nat_cmp list number)) versions displaced.made in
    let later = subst (λ (list : RowChanges). IfSome (last_number list) (λ last. number < last)) versions displaced.later in
    let is = c.self.invariant.1.each name t found in
    let spans = c.self.inside.spans.held in
    let ws = c.take_out.new.versions.held in
    let out = c.take_out.ensures.taken in (
      c.self.invariant.0,
      subst (λ e. AreSpans now e ws) (sym c.replace.ensures.held)
          (spans_put now spans vs ws name (shorter t) c.self.invariant.1
          (λ other u not_it there same. not_it (sym (c.self.invariant.1.apart name other t u found there same)))
          out.others out.ordered
          (shorter_is now _ vs t number c.count_up_to.result is c.count_up_to.ensures made later ws out _ (length_kept name_cmp spans name (shorter t)))),
    )

pub returns-clause-held : goal.returns-clause-held
returns-clause-held c =
    let found = sym c.get.ensures ∙ ap option_copied c.in-Some.is in
    let now = c.self.inside.commits in
    let vs = c.self.inside.versions.held in
    let t = c.in-Some.span.now in
    let name = c.args.name.now in
    let number = c.args.number in
    let displaced = subst (λ v. IsDisplaced v.held.rows name number) (sym c.self.view_is) c.requires in
    let versions = of_found vs c.self.inside.spans.held name t found in
    let made = subst (λ (list : RowChanges). IsSome (value_for nat_cmp list number)) versions displaced.made in
    let later = subst (λ (list : RowChanges). IfSome (last_number list) (λ last. number < last)) versions displaced.later in
    let is = c.self.invariant.1.each name t found in
    let spans = c.self.inside.spans.held in
    let ws = c.take_out.new.versions.held in
    let out = c.take_out.ensures.taken in
    ap (λ (rows : NameMap RowChanges). record { now = now; rows = rows })
    (ap (rows_in ws) c.replace.ensures.held
    ∙ rows_put now spans vs ws name (shorter t) c.self.invariant.1
    (λ other u not_it there same. not_it (sym (c.self.invariant.1.apart name other t u found there same)))
    out.others
    ∙ ap (with_entry (rows_in vs spans) name) (taken_versions now _ vs t number c.count_up_to.result is c.count_up_to.ensures made later ws out ∙ ap (λ (list : RowChanges). without_key nat_cmp list number) (sym (of_found vs spans name t found))))
    ∙ ap (λ v. without_version v.held name number) c.self.view_is
