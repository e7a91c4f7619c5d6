use Rattle.sf_book.proofs.ReplyLemmas.{event_reply, promise_reply, publication_reply}
use Rattle.sf_book.proofs.laws.answers_are_the_replies_of_the_history.Goals as goal

pub returns-clause-event : goal.returns-clause-event
returns-clause-event c b s batch call sound is event undue = event_reply b s batch call sound is event

pub returns-clause-promise : goal.returns-clause-promise
returns-clause-promise c b s batch call sound is due = promise_reply b s batch call sound is due

pub returns-clause-publication : goal.returns-clause-publication
returns-clause-publication c b s call blocks sound stands = publication_reply b s call blocks sound stands
