use Rattle.std.proofs.Common.{sym, ap, ◌∙◌}
use Rattle.sf_types.specs.Table.Parts.{Rows}
use Rattle.sf_types.specs.Table.Versions.{overlay}
use Rattle.sf_plain_table.proofs.CommitLemmas.{overlay_last}
use Rattle.sf_plain_table.proofs.versions.put_entries.Goals as goal

pub loop-name-preserved : goal.loop-name-preserved
loop-name-preserved c =
    ap (λ (m : Rows). overlay m c.pop.new.self.items) c.in_ok-insert.ensures.ok
    ∙ sym (overlay_last c.loop-name.merged c.pop.new.self.items (c.in-Some.name, c.in-Some.state))
    ∙ ap (overlay c.loop-name.merged) (sym c.in-Some.ensures.items)
    ∙ c.loop-name.invariant
