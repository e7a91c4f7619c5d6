use Rattle.std.proofs.Common.{◌+◌, ℕ, List, drop, sym, ap, subst, ◌∙◌, arith}
use Rattle.sf_types.proofs.NameMapLemmas.{IsRisingMap}
use Rattle.sf_types.specs.Halves.Asks.{without_row_locks}
use Rattle.sf_row_locks.proofs.ListedLockLemmas.{listed_released, next_row, none_listed, rising_locks}
use Rattle.std.proofs.lemmas.List.{drop_all}
use Rattle.sf_row_locks.proofs.row_locks.RowLocks.release_listed.Goals as goal

pub loop-name-preserved : goal.loop-name-preserved
loop-name-preserved c =
    let rising : IsRisingMap c.loop-name.self.held = subst (λ v. IsRisingMap v.held) c.self.view_is (rising_locks c.self.inside.locks.held c.self.invariant.rising) in
    record {
      left =
          ap (λ m. without_row_locks m c.args.session (drop (c.loop-name.name-index + 1) c.args.names.now)) c.release.ensures.held
          ∙ listed_released c.loop-name.self.held rising c.args.session c.name-item.result (drop (c.loop-name.name-index + 1) c.args.names.now)
          ∙ ap (λ (rows : List (List ℕ)). without_row_locks c.loop-name.self.held c.args.session rows) (sym (next_row c.args.names.now c.loop-name.name-index c.name-item.result c.loop-name-test.true c.name-item.is))
          ∙ c.loop-name.invariant.left;
      spare = omega (arith, c.loop-name.invariant.spare, c.release.ensures.spare);
    }

pub returns-clause-held : goal.returns-clause-held
returns-clause-held c =
    sym (none_listed c.loop-name.self.held c.args.session)
    ∙ ap (λ (rows : List (List ℕ)). without_row_locks c.loop-name.self.held c.args.session rows) (sym (drop_all c.loop-name.name-index c.args.names.now c.loop-name-test.false))
    ∙ c.loop-name.invariant.left
