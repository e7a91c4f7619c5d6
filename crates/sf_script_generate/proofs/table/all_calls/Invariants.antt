use Rattle.std.proofs.Common.{◌≡◌, length}
use Rattle.sf_script_generate.specs.GeneratedScript.{calls_made}
use Rattle.sf_script_generate.proofs.table.all_calls.Given as goal

abbrev pub invariant-loop-i : goal.invariant-loop-i
invariant-loop-i l = record {
  made : l.lists.items ≡ (calls_made l.start l.sessions l.i).calls;
  drawn : l.number ≡ (calls_made l.start l.sessions l.i).number;
  lists : length l.lists.items ≡ l.sessions;
}
