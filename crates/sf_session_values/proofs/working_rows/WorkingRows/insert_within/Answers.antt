use Rattle.std.proofs.Common.{◌≤◌, ℕ, List, sym, ap, subst, ◌∙◌}
use Rattle.sf_types.specs.Inside.NameMaps.{with_entry}
use Rattle.sf_types.specs.Values.Names.{name_cmp}
use Rattle.sf_room_map.specs.Entries.{added_at}
use Rattle.sf_room_map.proofs.EntryLemmas.{values-with}
use Rattle.sf_session_values.specs.declared.working_rows.Uncounted.{Uncounted}
use Rattle.sf_session_values.specs.declared.working_rows.WorkingRow.{WorkingRow}
use Rattle.sf_session_values.specs.Inside.Counting.{AreCounted, workings}
use Rattle.sf_session_values.proofs.CountingLemmas.{added_same, value_then}
use Rattle.sf_session_values.proofs.working_rows.WorkingRows.insert_within.Goals as goal

pub insert_within-requires : goal.insert_within-requires
insert_within-requires c =
    subst (λ (n : ℕ). n ≤ c.self.inside.rows.spare) (added_same c.self.inside.rows.held c.args.row)
    (subst (λ v. added_at name_cmp v.held c.args.row ≤ v.spare) (sym c.self.view_is) c.requires)

pub invariant_of-self : goal.invariant_of-self
invariant_of-self c =
    let rows = c.self.inside.rows.held in
    let put = c.insert_within.ensures.held ∙ ap (λ (bs : List ℕ). with_entry rows c.args.row (record { working = c.args.working; births = bs })) c.new-births.ensures in
    subst (λ (u : Uncounted). AreCounted c.insert_within.new.self.held c.uncount.new.counts u) (sym c.note_value.ensures)
    (value_then rows c.insert_within.new.self.held c.self.inside.counts c.uncount.new.counts c.self.inside.uncounted c.self.inside.uncounted c.args.row c.args.working c.len-count.ensures.rising c.self.invariant c.uncount.ensures put c.is_plain.result c.is_plain.ensures)

pub returns : goal.returns
returns c =
    let rows = c.self.inside.rows.held in
    record {
      held =
          ap workings c.insert_within.ensures.held
          ∙ values-with name_cmp (λ (r : WorkingRow). r.working) rows c.args.row (record { working = c.args.working; births = c.new-births.result })
          ∙ ap (λ v. with_entry v.held c.args.row c.args.working) c.self.view_is;
    }
