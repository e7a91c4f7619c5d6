use Rattle.std.proofs.Common.{ap, ◌∙◌}
use Rattle.sf_types.specs.Halves.Asks.{half_answer, with_kept_births}
use Rattle.sf_types.specs.Halves.Asks as rule
use Rattle.sf_versions.specs.Asks.{request_of_part}
use Rattle.sf_versions.specs.declared.asks.Part.{Part}
use Rattle.sf_store_half.proofs.AnswerLemmas.{by_working, by_unlock, by_rollback, by_end, by_commit, kept_by, answer_by}
use Rattle.sf_store_half.proofs.SettledLemmas.{has_session}
use Rattle.sf_store_half.proofs.store_half.StoreHalf.answer.Goals as goal

pub returns-in-Working-clause-kept : goal.returns-in-Working-clause-kept
returns-in-Working-clause-kept c =
    let s = c.args.session in
    let births = c.args.births in
    let ask = c.args.ask in
    kept_by c.args.self.now c.answer_working.new.self (λ h. half_answer h s ask.call rule.Working ask.kept) (λ h. half_answer (with_kept_births h s births) s ask.call (request_of_part ask.part) ask.kept) c.answer_working.result c.answer_working.ensures
    (λ h keeps. ap (λ (p : Part). half_answer (with_kept_births h s births) s ask.call (request_of_part p) ask.kept) c.in-Working.is ∙ by_working h s births ask.kept ask.call (has_session c.args.self.now h s keeps c.requires.session))

pub returns-in-Unlock-clause-kept : goal.returns-in-Unlock-clause-kept
returns-in-Unlock-clause-kept c =
    let s = c.args.session in
    let births = c.args.births in
    let ask = c.args.ask in
    kept_by c.args.self.now c.answer_unlock.new.self (λ h. half_answer h s ask.call (rule.Unlock c.in-Unlock.rows) ask.kept) (λ h. half_answer (with_kept_births h s births) s ask.call (request_of_part ask.part) ask.kept) c.answer_unlock.result c.answer_unlock.ensures
    (λ h keeps. ap (λ (p : Part). half_answer (with_kept_births h s births) s ask.call (request_of_part p) ask.kept) c.in-Unlock.is ∙ by_unlock h s births ask.kept ask.call (has_session c.args.self.now h s keeps c.requires.session) c.in-Unlock.rows)

pub returns-in-Commit-clause-kept : goal.returns-in-Commit-clause-kept
returns-in-Commit-clause-kept c =
    let s = c.args.session in
    let births = c.args.births in
    let ask = c.args.ask in
    kept_by c.args.self.now c.answer_commit.new.self (λ h. half_answer h s ask.call (rule.Commits c.in-Commit.changes) ask.kept) (λ h. half_answer (with_kept_births h s births) s ask.call (request_of_part ask.part) ask.kept) c.answer_commit.result c.answer_commit.ensures
    (λ h keeps. ap (λ (p : Part). half_answer (with_kept_births h s births) s ask.call (request_of_part p) ask.kept) c.in-Commit.is ∙ by_commit h s births ask.kept ask.call (has_session c.args.self.now h s keeps c.requires.session) c.in-Commit.changes)

pub returns-in-Commit-clause-answer : goal.returns-in-Commit-clause-answer
returns-in-Commit-clause-answer c =
    let s = c.args.session in
    let births = c.args.births in
    let ask = c.args.ask in
    answer_by c.args.self.now c.answer_commit.new.self (λ h. half_answer h s ask.call (rule.Commits c.in-Commit.changes) ask.kept) (λ h. half_answer (with_kept_births h s births) s ask.call (request_of_part ask.part) ask.kept) c.answer_commit.result c.answer_commit.ensures
    (λ h keeps. ap (λ (p : Part). half_answer (with_kept_births h s births) s ask.call (request_of_part p) ask.kept) c.in-Commit.is ∙ by_commit h s births ask.kept ask.call (has_session c.args.self.now h s keeps c.requires.session) c.in-Commit.changes)

pub returns-in-Rollback-clause-kept : goal.returns-in-Rollback-clause-kept
returns-in-Rollback-clause-kept c =
    let s = c.args.session in
    let births = c.args.births in
    let ask = c.args.ask in
    kept_by c.args.self.now c.answer_rollback.new.self (λ h. half_answer h s ask.call rule.RollsBack ask.kept) (λ h. half_answer (with_kept_births h s births) s ask.call (request_of_part ask.part) ask.kept) c.answer_rollback.result c.answer_rollback.ensures
    (λ h keeps. ap (λ (p : Part). half_answer (with_kept_births h s births) s ask.call (request_of_part p) ask.kept) c.in-Rollback.is ∙ by_rollback h s births ask.kept ask.call (has_session c.args.self.now h s keeps c.requires.session))

pub returns-in-End-clause-kept : goal.returns-in-End-clause-kept
returns-in-End-clause-kept c =
    let s = c.args.session in
    let births = c.args.births in
    let ask = c.args.ask in
    kept_by c.args.self.now c.answer_end.new.self (λ h. half_answer h s ask.call rule.Ends ask.kept) (λ h. half_answer (with_kept_births h s births) s ask.call (request_of_part ask.part) ask.kept) c.answer_end.result c.answer_end.ensures
    (λ h keeps. ap (λ (p : Part). half_answer (with_kept_births h s births) s ask.call (request_of_part p) ask.kept) c.in-End.is ∙ by_end h s births ask.kept ask.call (has_session c.args.self.now h s keeps c.requires.session))
