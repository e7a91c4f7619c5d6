use Rattle.std.proofs.Common.{ℕ, List, Option, ◌+◌, ◌<◌, ◌∙◌, ap, sym, subst, arith, All}
use Rattle.sf_types.specs.Values.Names.{name_cmp}
use Rattle.sf_types.specs.Values.Marks.{Value}
use Rattle.sf_room_map.specs.Entries.{with_value}
use Rattle.sf_versions.specs.declared.span.Span.{Span}
use Rattle.sf_versions.specs.VersionTables.{versions_of, with_version}
use Rattle.sf_versions.specs.Inside.Spans.{AreSpans, rows_in}
use Rattle.sf_versions.proofs.AddedLemmas.{longer, early_of, spans_added, rows_added}
use Rattle.sf_versions.proofs.places.add_version.Goals as goal

pub overflow_add-rank : goal.overflow_add-rank
overflow_add-rank c =
    let all = subst (λ (ch : List ℕ × Option Value). All (λ v. v.0 < c.args.number) (versions_of (rows_in c.args.versions.now.held c.args.spans.now.held) ch.0)) (sym c.change.view_is) c.requires.later in
    let early = early_of c.args.number c.args.spans.now.held c.args.versions.now.held c.change.inside.name c.requires.spans c.requires.counted all in
    omega (arith, early, c.ranges.number.fits, ap (λ (s : Span). s.first + s.count) c.span_of-span.ensures)

pub overflow_add-longer : goal.overflow_add-longer
overflow_add-longer c =
    let all = subst (λ (ch : List ℕ × Option Value). All (λ v. v.0 < c.args.number) (versions_of (rows_in c.args.versions.now.held c.args.spans.now.held) ch.0)) (sym c.change.view_is) c.requires.later in
    let early = early_of c.args.number c.args.spans.now.held c.args.versions.now.held c.change.inside.name c.requires.spans c.requires.counted all in
    omega (arith, early, c.ranges.number.fits, ap (λ (s : Span). s.first + s.count) c.span_of-span.ensures)

pub returns-clause-spans : goal.returns-clause-spans
returns-clause-spans c =
    let all = subst (λ (ch : List ℕ × Option Value). All (λ v. v.0 < c.args.number) (versions_of (rows_in c.args.versions.now.held c.args.spans.now.held) ch.0)) (sym c.change.view_is) c.requires.later in
    let span = c.span_of-span.result in
    subst (λ e. AreSpans c.args.number e c.insert_within.new.self.held) (sym c.insert_within-6.ensures.held)
    (subst (AreSpans c.args.number (with_value name_cmp c.args.spans.now.held c.change.inside.name (longer span))) (sym c.insert_within.ensures.held)
    (spans_added c.args.number c.args.spans.now.held c.args.versions.now.held c.change.inside.name c.change.inside.value c.requires.spans c.requires.counted all span c.span_of-span.ensures))

pub returns-clause-rows : goal.returns-clause-rows
returns-clause-rows c =
    let all = subst (λ (ch : List ℕ × Option Value). All (λ v. v.0 < c.args.number) (versions_of (rows_in c.args.versions.now.held c.args.spans.now.held) ch.0)) (sym c.change.view_is) c.requires.later in
    let span = c.span_of-span.result in
    ap (λ e. rows_in c.insert_within.new.self.held e) c.insert_within-6.ensures.held
    ∙ ap (λ e. rows_in e (with_value name_cmp c.args.spans.now.held c.change.inside.name (longer span))) c.insert_within.ensures.held
    ∙ rows_added c.args.number c.args.spans.now.held c.args.versions.now.held c.change.inside.name c.change.inside.value c.requires.spans c.requires.counted all span c.span_of-span.ensures
    ∙ ap (with_version (rows_in c.args.versions.now.held c.args.spans.now.held) c.args.number) c.change.view_is
