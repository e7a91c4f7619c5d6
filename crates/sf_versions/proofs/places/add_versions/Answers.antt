use Rattle.std.proofs.Common.{◌≡◌, ℕ, List, Option, ◌-◌, ◌<◌, [], ◌∷◌, ◌++◌, ◌∙◌, ap, sym, subst, arith, refl}
use Rattle.std.specs.Prelude.{All}
use Rattle.std.specs.Map.{keys_of}
use Rattle.std.specs.List.Sorted.{IsStrictlySortedBy}
use Rattle.std.proofs.lemmas.List.{append-nil}
use Rattle.sf_types.specs.Values.Names.{name_cmp}
use Rattle.sf_types.specs.Values.Marks.{Value}
use Rattle.sf_types.specs.Table.Parts.{Rows}
use Rattle.sf_versions.specs.VersionTables.{versions_of}
use Rattle.sf_versions.specs.Inside.Spans.{rows_in}
use Rattle.sf_versions.proofs.AddedLemmas.{spans_later, names_behind, row_stays, made_before}
use Rattle.sf_versions.proofs.places.add_versions.Goals as goal

pub loop-change-init : goal.loop-change-init
loop-change-init c = record {
  done = [];
  split = sym c.into_vec-rest.ensures.changes ∙ sym (append-nil c.into_vec-rest.result.items);
  spans = spans_later (c.args.number - 1) c.args.number c.args.spans.now.held c.args.versions.now.held (omega arith) c.requires.spans;
  rows = refl;
  spans_spare = omega arith;
  versions_spare = omega arith;
}

regroup : (es : Rows) (c : List ℕ × Option Value) (done : Rows) → (es ++ c ∷ []) ++ done ≡ es ++ c ∷ done
regroup [] c done = refl
regroup (e ∷ es) c done = ap (λ (rest : Rows). e ∷ rest) (regroup es c done)

pub add_version-requires-clause-later : goal.add_version-requires-clause-later
add_version-requires-clause-later c =
    let change = c.in-Some.change in
    let done = c.loop-change.invariant.done in
    let rows = rows_in c.args.versions.now.held c.args.spans.now.held in
    let split : c.args.changes ≡ c.pop.new.self.items ++ change ∷ done =
    c.loop-change.invariant.split ∙ ap (λ (es : Rows). es ++ done) c.in-Some.ensures.items ∙ regroup c.pop.new.self.items change done in
    let behind = names_behind c.pop.new.self.items done change (subst (λ (es : Rows). IsStrictlySortedBy name_cmp (keys_of es)) split c.into_vec-rest.ensures.rising) in
    subst (All (λ (v : ℕ × Option Value). v.0 < c.args.number))
    (sym (ap (λ rows. versions_of rows change.0) c.loop-change.invariant.rows ∙ row_stays rows c.args.number done change.0 behind))
    (made_before c.args.number c.args.spans.now.held c.args.versions.now.held change.0 c.requires.counted c.requires.spans)
