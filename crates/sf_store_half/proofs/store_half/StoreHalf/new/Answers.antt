use Rattle.std.proofs.Common.{◌≡◌, sym, subst, arith}
use Rattle.std.specs.Prelude.{replicate, sum_by}
use Rattle.std.proofs.lemmas.List.Folds.{sum_by-replicate}
use Rattle.sf_types.specs.Table.Parts.{opening_table}
use Rattle.sf_types.specs.Halves.Asks.{half_of, new_kept}
use Rattle.sf_store_half.specs.Fields.{Fields, opening_fields, session_field}
use Rattle.sf_store_half.specs.Inside.Fields.{AreKept, promised_blocks}
use Rattle.sf_store_half.proofs.KeepsLemmas.{opening_keeps}
use Rattle.sf_store_half.proofs.store_half.StoreHalf.new.Goals as goal

pub invariant_of-result : goal.invariant_of-result
invariant_of-result c =
    let none : 0 ≡ sum_by promised_blocks (replicate c.args.sessions (session_field new_kept)) = omega (arith, sum_by-replicate promised_blocks c.args.sessions (session_field new_kept)) in
    let is : opening_fields c.args.options c.args.sessions ≡ record {
      options = c.args.options;
      locks = c.in_ok-new.field-0.held;
      versions = c.new-2.result.held;
      notes = c.in_ok-new-2.field-0.held;
      floor = 0;
      sessions = c.in_ok-new_sessions.field-0.items;
      stock = c.in_ok-new-3.field-0.held;
    } = λ i. record {
      options = c.args.options;
      locks = sym c.in_ok-new.ensures i;
      versions = sym c.new-2.ensures i;
      notes = sym c.in_ok-new-2.ensures i;
      floor = 0;
      sessions = sym c.in_ok-new_sessions.ensures i;
      stock = sym c.in_ok-new-3.ensures.held i;
    } in
    subst (λ (f : Fields). AreKept f 0) is
    (record {
      in_range = c.requires;
      reached = omega arith;
      count = none;
      few = omega arith;
      half = half_of (opening_table c.args.options c.args.sessions);
      keeps = opening_keeps c.args.options c.args.sessions;
    })
