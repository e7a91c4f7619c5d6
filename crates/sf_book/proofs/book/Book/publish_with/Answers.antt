use Rattle.std.proofs.Common.{◌≡◌, [], ◌∷◌, length, IfOk, OnOk, ap, subst, sym, ◌∙◌}
use Rattle.sf_types.specs.declared.call.Call.{Call}
use Rattle.sf_types.specs.declared.history.Kind.TheVariants as kind
use Rattle.sf_types.specs.Space.BlockRuns.{blocks_in}
use Rattle.sf_types.specs.Space.Cuts.{cuts}
use Rattle.sf_types.specs.Orders.Histories.{entry_of}
use Rattle.sf_types.specs.Halves.Own.{own_of}
use Rattle.sf_types.specs.Halves.Asks.{half_of, kept_births, request_of}
use Rattle.sf_types.specs.Halves.Flushes.{half_publish, own_flush}
use Rattle.sf_versions.specs.declared.asks.Flush.{Flush}
use Rattle.sf_versions.specs.Asks.{IsAnswer, IsFlush}
use Rattle.sf_store_half.specs.HalfMoves.{HasPrints}
use Rattle.sf_book.specs.Books.{table_of}
use Rattle.sf_book.specs.Moves.{IsMoved, Stands}
use Rattle.sf_book.specs.Inside.Bodies.{with_call}
use Rattle.sf_book.proofs.book.Book.publish_with.Goals as goal

-- a flush with its own call in its place again
same_flush : (flush rest : Flush) (c d : Call) → rest ≡ with_call flush d → c ≡ flush.ask.call → with_call rest c ≡ flush
same_flush flush rest c d taken is = ap (λ (x : Flush). with_call x c) taken ∙ ap (with_call flush) is

pub publish_for-requires-clause-promise : goal.publish_for-requires-clause-promise
publish_for-requires-clause-promise c = subst (λ (d : Call). Stands (table_of c.args.self.now) c.args.session d (length (blocks_in c.args.runs.held))) (sym c.take_call-call.ensures.call) c.requires.promise

pub publish_for-requires-clause-flush : goal.publish_for-requires-clause-flush
publish_for-requires-clause-flush c =
    subst (IsFlush c.args.self.now.options (own_of (table_of c.args.self.now) c.args.session))
    (sym (same_flush c.args.flush c.take_call-call.new.flush c.take_call-call.result _ c.take_call-call.ensures.flush c.take_call-call.ensures.call)) c.requires.flush

pub publish_for-requires-clause-prints : goal.publish_for-requires-clause-prints
publish_for-requires-clause-prints c = subst HasPrints (sym c.take_call-call.ensures.flush) c.requires.prints

pub returns-clause-moved : goal.returns-clause-moved
returns-clause-moved c =
    subst (λ (d : Call). OnOk c.publish_for.result (IsMoved c.args.self.now c.publish_for.new.self (entry_of c.args.session kind.Call d ∷ []) (blocks_in c.args.runs.held))) c.take_call-call.ensures.call c.publish_for.ensures.moved

pub returns-clause-answer : goal.returns-clause-answer
returns-clause-answer c =
    let b = c.args.self.now in
    let o = own_of (table_of b) c.args.session in
    subst (λ (d : Call). IfOk c.publish_for.result (λ published. IsAnswer published.answer (half_publish (half_of (table_of b)) c.args.session (request_of o d) (cuts b.options (own_flush o d)) (kept_births o d)).1))
    c.take_call-call.ensures.call c.publish_for.ensures.answer
