use Rattle.std.proofs.Common.{[], length, refl, ap, ◌∙◌}
use Rattle.std.proofs.lemmas.List.{length-replicate, length-set}
use Rattle.sf_script_generate.proofs.TableLemmas.{none_made, calls_with, number_with}
use Rattle.sf_script_generate.proofs.table.all_calls.Goals as goal

pub loop-i-init : goal.loop-i-init
loop-i-init c = record {
  made = rw none_made c.in_ok-lists.ensures;
  drawn = rw none_made refl;
  lists = ap length c.in_ok-lists.ensures ∙ length-replicate c.args.sessions [];
}

pub loop-i-preserved : goal.loop-i-preserved
loop-i-preserved c =
    let inv = c.loop-i.invariant in
    record {
      made = c.in_ok-put_call.ensures ∙ calls_with c.args.start c.args.sessions c.loop-i.i c.from-session_count.result c.loop-i.number c.loop-i.lists.items c.in_ok-call.call c.in_ok-call.next c.from-session_count.ensures inv.made inv.drawn c.in_ok-call.ensures;
      drawn = number_with c.args.start c.args.sessions c.loop-i.i c.from-session_count.result c.loop-i.number c.in_ok-call.call c.in_ok-call.next c.from-session_count.ensures inv.drawn c.in_ok-call.ensures;
      lists = ap length c.in_ok-put_call.ensures ∙ length-set c.loop-i.lists.items _ _ ∙ inv.lists;
    }
