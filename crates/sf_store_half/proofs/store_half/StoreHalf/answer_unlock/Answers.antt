use Rattle.std.proofs.Common.{[], refl, ap, sym, subst}
use Rattle.sf_types.specs.Halves.Asks.{with_kept_births, without_row_locks}
use Rattle.sf_store_half.specs.Fields.{Fields, Keeps}
use Rattle.sf_store_half.specs.HalfMoves.{IsRepacked}
use Rattle.sf_store_half.proofs.SettledLemmas.{keeps_locked}
use Rattle.sf_store_half.proofs.store_half.StoreHalf.answer_unlock.Goals as goal

pub returns : goal.returns
returns c =
    let s = c.args.session in
    let rows = c.args.rows.now in
    record {
      kept = λ h keeps.
          let own = c.in_ok-note.ensures.kept h keeps in
          let done = keeps_locked c.note.new.self (with_kept_births h s c.args.kept) (without_row_locks c.note.new.self.locks s rows) (without_row_locks h.locks s rows) own (ap (λ m. without_row_locks m s rows) own.locks) in
          subst (λ (x : Fields). Keeps x (record (with_kept_births h s c.args.kept) { locks = without_row_locks h.locks s rows })) (sym c.release_rows.ensures) done;
      answer = λ h keeps. refl;
      repacked = subst (λ (x : Fields). IsRepacked c.args.self.now.stock x.stock []) (sym c.release_rows.ensures) c.in_ok-note.ensures.repacked;
      err = tt;
    }
