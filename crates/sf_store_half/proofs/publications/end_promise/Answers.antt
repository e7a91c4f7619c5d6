use Rattle.std.proofs.Common.{sym, ◌∙◌, arith}
use Rattle.sf_store_half.proofs.MadeLemmas.{none_taken}
use Rattle.sf_store_half.proofs.SettledLemmas.{promise_taken}
use Rattle.sf_store_half.proofs.publications.end_promise.Goals as goal

pub overflow_sub-promised : goal.overflow_sub-promised
overflow_sub-promised c =
    let taken = promise_taken c.args.fields.now.items c.take_promise.new.fields.items c.args.session c.in-Some.ended c.requires.low c.requires.high (sym c.take_promise.ensures.promise ∙ c.in-Some.is) c.take_promise.ensures.fields in
    omega (arith, taken, c.requires.count)

pub returns-in-Some-clause-count : goal.returns-in-Some-clause-count
returns-in-Some-clause-count c =
    let taken = promise_taken c.args.fields.now.items c.take_promise.new.fields.items c.args.session c.in-Some.ended c.requires.low c.requires.high (sym c.take_promise.ensures.promise ∙ c.in-Some.is) c.take_promise.ensures.fields in
    omega (arith, taken, c.requires.count)

pub returns-in_default-clause-count : goal.returns-in_default-clause-count
returns-in_default-clause-count c =
    c.requires.count
    ∙ none_taken c.args.fields.now.items c.take_promise.new.fields.items c.args.session c.requires.low c.requires.high (sym c.take_promise.ensures.promise ∙ c.in_default.is) c.take_promise.ensures.fields
