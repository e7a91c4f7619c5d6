-- A writing call's reply is a refusal exactly where its refusals say so.
use Rattle.std.proofs.Common.{◌≡◌, ℕ, List, refl}
use Rattle.std.specs.Prelude.{Bool, Option, Some, None, codes}
use Rattle.sf_types.specs.declared.call.Call.{Call}
use Rattle.sf_types.specs.declared.call.Call.TheVariants as call
use Rattle.sf_types.specs.declared.reply.Fault.{Fault}
use Rattle.sf_types.specs.declared.reply.Reply.{Reply}
use Rattle.sf_types.specs.Values.Marks.{Value}
use Rattle.sf_types.specs.Table.Parts.{Session}
use Rattle.sf_types.specs.Table.Sessions.{session_of, holds_lock}
use Rattle.sf_types.specs.Table.Versions.{current_value}
use Rattle.sf_types.specs.Calls.Refusals.{refusal_or}
use Rattle.sf_types.specs.Calls.WritingCalls.{old_value, result_of, after_write, write_reply, writing_refusal, write_call}
use Rattle.sf_laws.specs.ArgumentExamples.{working_on, refusal_in}
use Rattle.sf_laws.proofs.argument_examples.arguments_are_refused_by_sizes.Goals as goal

no-refusal : (c : Call) (v : Value) → refusal_in (write_reply c v) ≡ None
no-refusal (call.Erase at amount offset) v = refl
no-refusal _ v = refl

refusal-of : (o : Option Fault) (before done : Session) (r : Reply) → refusal_in r ≡ None → refusal_in (refusal_or o before (done, r)).1 ≡ o
refusal-of None before done r none = none
refusal-of (Some f) before done r none = refl

write-refusal : (p : Session) (is_held : Bool) (current : Option Value) (at : List ℕ) (c : Call) → refusal_in (write_call p is_held current at c).1 ≡ writing_refusal p is_held current at c
write-refusal p is_held current at c =
    refusal-of (writing_refusal p is_held current at c) p (after_write p at (result_of p current at c)) (write_reply c (old_value p current at)) (no-refusal c (old_value p current at))

by-sizes : (v w : Value) (c : Call) → refusal_in (write_call (session_of (working_on v w) 1) (holds_lock (working_on v w).locks 1 (codes "a")) (current_value (working_on v w) (codes "a")) (codes "p") c).1
    ≡ writing_refusal (session_of (working_on v w) 1) (holds_lock (working_on v w).locks 1 (codes "a")) (current_value (working_on v w) (codes "a")) (codes "p") c
by-sizes v w c = write-refusal (session_of (working_on v w) 1) (holds_lock (working_on v w).locks 1 (codes "a")) (current_value (working_on v w) (codes "a")) (codes "p") c

pub returns : goal.returns
returns c = record {
  write = λ v w offset bytes. by-sizes v w (call.Write (codes "p") offset bytes);
  write_append = λ v w bytes. by-sizes v w (call.WriteAppend (codes "p") bytes);
  append = λ v w. by-sizes v w (call.Append (codes "p") (codes "q"));
  copy = λ v w amount to from. by-sizes v w (call.Copy (codes "p") (codes "q") amount to from);
  erase = λ v w amount offset. by-sizes v w (call.Erase (codes "p") amount offset);
  trim = λ v w length. by-sizes v w (call.Trim (codes "p") length);
  insert = λ v w offset bytes. by-sizes v w (call.FragInsert (codes "p") offset bytes);
  delete = λ v w amount offset. by-sizes v w (call.FragDelete (codes "p") amount offset);
  fragment_move = λ v w amount from to. by-sizes v w (call.FragMove (codes "p") amount from to);
  replace = λ v w amount offset bytes. by-sizes v w (call.FragReplace (codes "p") amount offset bytes);
  options = λ v w share. by-sizes v w (call.SetOptions (codes "p") share);
}
