use Rattle.std.proofs.Common.{List, ℕ, sym, ap, subst, ◌∙◌}
use Rattle.std.specs.Prelude.{IsSome}
use Rattle.sf_types.specs.Inside.NameMaps.{get, with_entry}
use Rattle.sf_types.specs.Values.Names.{name_cmp}
use Rattle.sf_room_map.proofs.EntryLemmas.{values-with}
use Rattle.sf_session_values.specs.declared.working.Working.TheVariants as working
use Rattle.sf_session_values.specs.declared.working_rows.Uncounted.{Uncounted}
use Rattle.sf_session_values.specs.declared.working_rows.WorkingRow.{WorkingRow}
use Rattle.sf_session_values.specs.Inside.Counting.{AreCounted, workings}
use Rattle.sf_session_values.proofs.CountingLemmas.{row_then, some_row}
use Rattle.sf_session_values.proofs.working_rows.WorkingRows.replace.Goals as goal

pub replace-requires : goal.replace-requires
replace-requires c = some_row c.self.inside.rows.held c.args.row (subst (λ v. IsSome (get v.held c.args.row)) (sym c.self.view_is) c.requires)

pub invariant_of-self : goal.invariant_of-self
invariant_of-self c =
    let rows = c.self.inside.rows.held in
    let put = c.replace.ensures.held ∙ ap (λ (bs : List ℕ). with_entry rows c.args.row (record { working = working.Own c.args.map; births = bs })) c.new-births.ensures in
    subst (λ (u : Uncounted). AreCounted c.replace.new.self.held c.uncount.new.counts u) (sym c.note_row.ensures)
    (row_then rows c.replace.new.self.held c.self.inside.counts c.uncount.new.counts c.self.inside.uncounted c.self.inside.uncounted c.args.row (working.Own c.args.map) c.len-count.ensures.rising c.self.invariant c.uncount.ensures put)

pub returns : goal.returns
returns c =
    let rows = c.self.inside.rows.held in
    record {
      held =
          ap workings c.replace.ensures.held
          ∙ values-with name_cmp (λ (r : WorkingRow). r.working) rows c.args.row (record { working = working.Own c.args.map; births = c.new-births.result })
          ∙ ap (λ v. with_entry v.held c.args.row (working.Own c.args.map)) c.self.view_is;
    }
