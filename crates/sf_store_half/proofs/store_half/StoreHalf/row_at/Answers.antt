use Rattle.std.proofs.Common.{◌≡◌, ◌+◌, length, refl, sym, ap, subst, ◌∙◌, arith}
use Rattle.std.specs.Prelude.{drop, slice_get}
use Rattle.std.specs.List.Sorted.{IsStrictlySortedBy}
use Rattle.std.specs.Map.{keys_of}
use Rattle.std.specs.Option.{option_map}
use Rattle.std.proofs.lemmas.List.{length-map}
use Rattle.sf_types.specs.Values.Marks.{Value}
use Rattle.sf_types.specs.Values.Names.{name_cmp}
use Rattle.sf_types.specs.Inside.NameMaps.{NameMap}
use Rattle.sf_types.specs.Table.Versions.{present_values}
use Rattle.sf_versions.specs.Inside.Spans.{current_row}
use Rattle.sf_store_half.specs.Fields.{Fields}
use Rattle.sf_store_half.specs.Reads.{last_entries}
use Rattle.sf_store_half.proofs.ReadLemmas.{entry_at, none_behind, present_where, rows_by_half}
use Rattle.sf_store_half.proofs.store_half.StoreHalf.row_at.Goals as goal

pub returns-in-Some : goal.returns-in-Some
returns-in-Some c h keeps =
    let rows = c.args.self.now.versions.rows in
    let es = last_entries rows in
    let at = c.loop-at.at in
    let here = option_map current_row c.row.result in
    let is : here ≡ slice_get es at = entry_at c.self.inside.versions.held.rows at here c.row.ensures ∙ ap (λ (f : Fields). slice_get (last_entries f.versions.rows) at) c.self.view_is in
    let rising : IsStrictlySortedBy name_cmp (keys_of rows) = subst (λ (f : Fields). IsStrictlySortedBy name_cmp (keys_of f.versions.rows)) c.self.view_is c.len-at-end.ensures.rising in
    sym (c.in-Some.ensures.found (present_values (drop (at + 1) es)))
    ∙ ap (λ (xs : NameMap Value). slice_get xs c.loop-at.left) (sym (present_where es at here is))
    ∙ c.loop-at.invariant.rows
    ∙ ap (λ (xs : NameMap Value). slice_get xs c.args.k) (rows_by_half c.args.self.now h keeps rising)

pub loop-at-preserved : goal.loop-at-preserved
loop-at-preserved c =
    let es = last_entries c.args.self.now.versions.rows in
    let at = c.loop-at.at in
    let here = option_map current_row c.row.result in
    let is : here ≡ slice_get es at = entry_at c.self.inside.versions.held.rows at here c.row.ensures ∙ ap (λ (f : Fields). slice_get (last_entries f.versions.rows) at) c.self.view_is in
    record {
      rows =
          sym (c.in_default.ensures.passed refl (present_values (drop (at + 1) es)))
          ∙ ap (λ (xs : NameMap Value). slice_get xs c.loop-at.left) (sym (present_where es at here is))
          ∙ c.loop-at.invariant.rows;
      end = c.loop-at.invariant.end;
    }

pub returns : goal.returns
returns c h keeps =
    let rows = c.args.self.now.versions.rows in
    let es = last_entries rows in
    let size : length es ≡ length rows = length-map rows _ in
    let end = c.loop-at.invariant.end in
    let past = c.loop-at-test.false in
    let rising : IsStrictlySortedBy name_cmp (keys_of rows) = subst (λ (f : Fields). IsStrictlySortedBy name_cmp (keys_of f.versions.rows)) c.self.view_is c.len-at-end.ensures.rising in
    ap (λ (xs : NameMap Value). slice_get xs c.loop-at.left) (sym (none_behind es c.loop-at.at (omega (arith, size, end, past))))
    ∙ c.loop-at.invariant.rows
    ∙ ap (λ (xs : NameMap Value). slice_get xs c.args.k) (rows_by_half c.args.self.now h keeps rising)
