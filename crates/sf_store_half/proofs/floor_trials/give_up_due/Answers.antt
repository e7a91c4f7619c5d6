use Rattle.std.proofs.Common.{◌≡◌, ◌+◌, ◌++◌, ◌∷◌, List, [], drop, map, sym, ap, subst, ◌∙◌, arith, append_assoc}
use Rattle.std.specs.Prelude.{◌≢◌}
use Rattle.std.proofs.lemmas.List.{append-nil}
use Rattle.std.proofs.lemmas.List.Elements.{All-from_recursion}
use Rattle.sf_types.specs.declared.holder.Holder.{Holder}
use Rattle.sf_types.specs.declared.holder.Holder.TheVariants as holder
use Rattle.sf_retention.specs.declared.retention.Pair.{Pair}
use Rattle.sf_retention.specs.Notes.{due_pairs, pair_of}
use Rattle.sf_store_half.specs.Inside.Trials.{AreHoldersOnce, version_of}
use Rattle.sf_store_half.proofs.DueLemmas.{few_due, from_place, new_behind, no_place, none_past, place_below}
use Rattle.sf_store_half.proofs.floor_trials.give_up_due.Goals as goal

pub give_up-requires : goal.give_up-requires
give_up-requires c =
    let due = due_pairs c.args.notes.now.held c.args.floor in
    let next = from_place due c.loop-note.at (pair_of c.in-Some.note.now) (sym c.in-Some.ensures) in
    let row = c.in_ok-copy.ensures in
    let x = holder.Version c.in_ok-copy.field-0 c.in-Some.note.now.from in
    let is : version_of (pair_of c.in-Some.note.now) ≡ x = ap (λ r. holder.Version r c.in-Some.note.now.from) (sym row) in
    let whole : c.loop-note.given.holders ++ x ∷ map version_of (drop (c.loop-note.at + 1) due) ≡ c.args.given.holders ++ map version_of (drop c.args.from due) =
    ap (λ (y : Holder). c.loop-note.given.holders ++ y ∷ map version_of (drop (c.loop-note.at + 1) due)) (sym is)
    ∙ ap (λ (ps : List Pair). c.loop-note.given.holders ++ map version_of ps) (sym next)
    ∙ c.loop-note.invariant.holders in
    All-from_recursion (λ (y : Holder). y ≢ x) c.loop-note.given.holders
    (new_behind c.loop-note.given.holders x (map version_of (drop (c.loop-note.at + 1) due)) (subst AreHoldersOnce (sym whole) c.requires.once))

pub overflow_add-at : goal.overflow_add-at
overflow_add-at c =
    let due = due_pairs c.args.notes.now.held c.args.floor in
    let less = place_below due c.loop-note.at (pair_of c.in-Some.note.now) (sym c.in-Some.ensures) in
    omega (arith, less, few_due c.args.notes.now.held c.args.floor, c.len-count.ensures)

pub loop-note-smaller : goal.loop-note-smaller
loop-note-smaller c =
    let due = due_pairs c.args.notes.now.held c.args.floor in
    let less = place_below due c.loop-note.at (pair_of c.in-Some.note.now) (sym c.in-Some.ensures) in
    omega (arith, less)

pub loop-note-preserved : goal.loop-note-preserved
loop-note-preserved c =
    let due = due_pairs c.args.notes.now.held c.args.floor in
    let at = c.loop-note.at in
    let next = from_place due at (pair_of c.in-Some.note.now) (sym c.in-Some.ensures) in
    let less = place_below due at (pair_of c.in-Some.note.now) (sym c.in-Some.ensures) in
    let x = holder.Version c.in_ok-copy.field-0 c.in-Some.note.now.from in
    let is : version_of (pair_of c.in-Some.note.now) ≡ x = ap (λ r. holder.Version r c.in-Some.note.now.from) (sym c.in_ok-copy.ensures) in
    record {
      ledger = ap (λ g. g.ledger) c.in_ok-given.ensures ∙ c.loop-note.invariant.ledger;
      holders =
          ap (λ (g : _). g.holders ++ map version_of (drop (at + 1) due)) c.in_ok-given.ensures
          ∙ append_assoc c.loop-note.given.holders (x ∷ []) (map version_of (drop (at + 1) due))
          ∙ ap (λ (y : Holder). c.loop-note.given.holders ++ y ∷ map version_of (drop (at + 1) due)) (sym is)
          ∙ ap (λ (ps : List Pair). c.loop-note.given.holders ++ map version_of ps) (sym next)
          ∙ c.loop-note.invariant.holders;
      few = omega (arith, less);
    }

pub returns-clause-holders : goal.returns-clause-holders
returns-clause-holders c =
    let due = due_pairs c.args.notes.now.held c.args.floor in
    sym (append-nil c.loop-note.given.holders)
    ∙ ap (λ (ps : List Pair). c.loop-note.given.holders ++ map version_of ps) (sym (none_past due c.loop-note.at (sym c.in_default.ensures)))
    ∙ c.loop-note.invariant.holders

pub returns-clause-count : goal.returns-clause-count
returns-clause-count c =
    let due = due_pairs c.args.notes.now.held c.args.floor in
    omega (arith, no_place due c.loop-note.at (sym c.in_default.ensures), c.loop-note.invariant.few)
