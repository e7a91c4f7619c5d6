use Rattle.std.proofs.Common.{Bool, false, [], refl, ap, sym, subst, ◌∙◌}
use Rattle.sf_types.specs.Table.Sessions.{without_locks}
use Rattle.sf_types.specs.Halves.Asks.{with_kept_births_open}
use Rattle.sf_store_half.specs.Fields.{Fields, Keeps}
use Rattle.sf_store_half.specs.HalfMoves.{IsRepacked}
use Rattle.sf_store_half.specs.Inside.Answered.{kept_as}
use Rattle.sf_store_half.proofs.SettledLemmas.{field_is, keeps_locked}
use Rattle.sf_store_half.proofs.store_half.StoreHalf.answer_rollback.Goals as goal

pub returns : goal.returns
returns c =
    let s = c.args.session in
    record {
      kept = λ h keeps.
          let own = c.in_ok-settle.ensures.kept h keeps in
          let ended = c.has_ended-has_ended.ensures ∙ ap (λ x. x.has_ended) (field_is c.args.self.now h s keeps) in
          let done = keeps_locked c.settle.new.self (kept_as h s c.args.kept false c.has_ended-has_ended.result) (without_locks c.settle.new.self.locks s) (without_locks h.locks s) own (ap (λ m. without_locks m s) own.locks) in
          subst (λ (x : Fields). Keeps x (record (with_kept_births_open h s c.args.kept false) { locks = without_locks h.locks s })) (sym c.release.ensures)
          (subst (λ (b : Bool). Keeps (record c.settle.new.self { locks = without_locks c.settle.new.self.locks s }) (record (kept_as h s c.args.kept false b) { locks = without_locks h.locks s })) ended done);
      answer = λ h keeps. refl;
      repacked = subst (λ (x : Fields). IsRepacked c.args.self.now.stock x.stock []) (sym c.release.ensures) c.in_ok-settle.ensures.repacked;
      err = tt;
    }
