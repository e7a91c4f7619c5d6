use Rattle.std.proofs.Common.{◌≡◌, ℕ, length, ap, sym, subst, ◌∙◌}
use Rattle.sf_types.specs.declared.call.Call.TheVariants as call
use Rattle.sf_types.specs.Halves.Asks.{Half, half_answer, with_kept_births}
use Rattle.sf_types.specs.Halves.Asks as rule
use Rattle.sf_store_half.specs.Fields.{Keeps}
use Rattle.sf_store_half.proofs.AnswerLemmas.{closed_commit}
use Rattle.sf_store_half.proofs.SettledLemmas.{field_is}
use Rattle.sf_store_half.proofs.store_half.StoreHalf.answer_commit.Goals as goal

pub returns : goal.returns
returns c =
    let s = c.args.session in
    let kept = c.args.kept in
    let after : (h : Half) → Keeps c.args.self.now h → half_answer h s call.Commit (rule.Commits c.args.changes) kept ≡ (with_kept_births h s kept, rule.Committed (length h.commits)) =
    λ h keeps. closed_commit h s call.Commit c.args.changes kept (sym (ap (λ x. x.is_open) (field_is c.args.self.now h s keeps)) ∙ sym c.is_open.ensures ∙ c.if-is_open.false) in
    record {
      kept = λ h keeps. subst (λ (x : Half × rule.Answer). Keeps c.note.new.self x.0) (sym (after h keeps)) (c.in_ok-note.ensures.kept h keeps);
      answer = λ h keeps. ap (λ (x : Half × rule.Answer). x.1) (after h keeps) ∙ ap (λ (n : ℕ). rule.Committed n) (sym (c.now-count.ensures ∙ keeps.now));
      repacked = c.in_ok-note.ensures.repacked;
      err = tt;
    }
