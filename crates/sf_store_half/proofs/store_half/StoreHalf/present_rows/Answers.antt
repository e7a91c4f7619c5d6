use Rattle.std.proofs.Common.{◌≡◌, ◌+◌, ◌++◌, map, sym, ap, ◌∙◌, append_assoc}
use Rattle.std.specs.Prelude.{drop, slice_get}
use Rattle.std.specs.Map.Iter.{deref_pair}
use Rattle.std.specs.Option.{option_map}
use Rattle.sf_types.specs.Values.Marks.{Value}
use Rattle.sf_types.specs.Inside.NameMaps.{NameMap}
use Rattle.sf_types.specs.Table.Versions.{present_values}
use Rattle.sf_versions.specs.Inside.Spans.{current_row}
use Rattle.sf_store_half.specs.Fields.{Fields}
use Rattle.sf_store_half.specs.Reads.{last_entries, present_at}
use Rattle.sf_store_half.proofs.ReadLemmas.{entry_at, present_where}
use Rattle.sf_store_half.proofs.store_half.StoreHalf.present_rows.Goals as goal

pub loop-at-preserved : goal.loop-at-preserved
loop-at-preserved c =
    let es = last_entries c.args.self.now.versions.rows in
    let at = c.loop-at.at in
    let before = map deref_pair c.loop-at.rows.items in
    let here = option_map current_row c.row.result in
    let told : here ≡ slice_get es at = entry_at c.self.inside.versions.held.rows at here c.row.ensures ∙ ap (λ (f : Fields). slice_get (last_entries f.versions.rows) at) c.self.view_is in
    record {
      rows =
          ap (λ (xs : NameMap Value). xs ++ present_values (drop (at + 1) es)) c.in_ok-push_present.ensures
          ∙ append_assoc before (present_at here) (present_values (drop (at + 1) es))
          ∙ ap (λ (xs : NameMap Value). before ++ xs) (sym (present_where es at here told))
          ∙ c.loop-at.invariant.rows;
      end = c.loop-at.invariant.end;
    }
