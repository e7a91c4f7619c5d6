use Rattle.std.proofs.Common.{ℕ, List, true, false, [], refl, ap, sym, subst}
use Rattle.sf_types.specs.Table.Sessions.{without_locks}
use Rattle.sf_store_half.specs.Fields.{Fields, Keeps}
use Rattle.sf_store_half.specs.Inside.Answered.{kept_as}
use Rattle.sf_store_half.proofs.SettledLemmas.{keeps_locked}
use Rattle.sf_store_half.specs.HalfMoves.{IsRepacked}
use Rattle.sf_store_half.proofs.store_half.StoreHalf.answer_end.Goals as goal

pub returns : goal.returns
returns c =
    let s = c.args.session in
    record {
      kept = λ h keeps.
          let own = subst (λ (bs : List ℕ). Keeps c.settle.new.self (kept_as h s bs false true)) c.new-none.ensures (c.in_ok-settle.ensures.kept h keeps) in
          subst (λ (x : Fields). Keeps x (record (kept_as h s [] false true) { locks = without_locks h.locks s })) (sym c.release.ensures)
          (keeps_locked c.settle.new.self (kept_as h s [] false true) (without_locks c.settle.new.self.locks s) (without_locks h.locks s) own (ap (λ m. without_locks m s) own.locks));
      answer = λ h keeps. refl;
      repacked = subst (λ (x : Fields). IsRepacked c.args.self.now.stock x.stock []) (sym c.release.ensures) c.in_ok-settle.ensures.repacked;
      err = tt;
    }
