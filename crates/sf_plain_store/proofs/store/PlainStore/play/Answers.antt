use Rattle.sf_plain_store.proofs.PlayEndLemmas.{all_told, book_told, play_so_far}
use Rattle.sf_plain_store.proofs.store.PlainStore.play.Goals as goal

pub returns-clause-played : goal.returns-clause-played
returns-clause-played c =
    let live = c.rounds.new.self in
    let told = c.into_played.ensures in
    let rounds = c.in_ok-rounds.ensures.rounds in
    let over = play_so_far c.args.script.now c.in_ok-live.live c.schedule.new.self live rounds.0 c.in_ok-rounds.ensures.under c.in_ok-live.ensures.start c.in_ok-schedule.ensures.turns rounds.1 c.in_ok-rounds.ensures.ended in
    all_told c.into_played.result c.args.script.now live over told.order told.replies told.places told.free told.rows told.commits

pub returns-clause-book : goal.returns-clause-book
returns-clause-book c =
    let live = c.rounds.new.self in
    let told = c.into_played.ensures in
    let rounds = c.in_ok-rounds.ensures.rounds in
    let over = play_so_far c.args.script.now c.in_ok-live.live c.schedule.new.self live rounds.0 c.in_ok-rounds.ensures.under c.in_ok-live.ensures.start c.in_ok-schedule.ensures.turns rounds.1 c.in_ok-rounds.ensures.ended in
    book_told c.into_played.result c.args.script.now live over told.options told.sessions told.history told.book_places
