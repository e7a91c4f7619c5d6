-- A stock of nothing.
use Rattle.std.proofs.Common.{◌≡◌, ℕ, false, List, [], length, refl, sym, ap, subst, ◌∙◌, arith}
use Rattle.std.specs.Prelude.{is_some, not, ◌==◌}
use Rattle.std.specs.List.{count_by}
use Rattle.std.specs.Ordering.{nat_cmp}
use Rattle.std.specs.FinMap as fin
use Rattle.std.specs.FinMap.{get-empty}
use Rattle.sf_types.specs.declared.birth_runs.BirthRuns.{BirthRuns}
use Rattle.sf_types.specs.declared.run.Run.{Run}
use Rattle.sf_types.specs.Rooms.{Roomy}
use Rattle.sf_types.specs.Inside.Holders.{holder_cmp}
use Rattle.sf_dedup.specs.Contents.{Contents}
use Rattle.sf_lifetimes.specs.Ledgers.{LedgerView, has_birth, is_live}
use Rattle.sf_lifetimes.proofs.MapSumLemmas.{no_values}
use Rattle.sf_stock.specs.Inside.Keeps.{KnownMap, AreBirths, AreBlocks, IsStock, run_count}

none_live : (b : ℕ) → is_live fin.empty b ≡ false
none_live b = ap (λ (bs : List (List ℕ)). not (count_by (λ births. has_birth births b) bs == 0)) (no_values holder_cmp)

pub no_births : (l : LedgerView) → l.places ≡ fin.empty → l.holdings ≡ fin.empty → AreBirths l [] [] 1
no_births l places holdings = record {
  rising = tt;
  below = tt;
  placed = λ b. ap (λ m. is_some (fin.get m b)) places ∙ ap is_some (get-empty nat_cmp b);
  live = λ b is. absurd (let none = ap (λ h. is_live h b) holdings ∙ none_live b in cc);
  indexed = refl;
}

pub no_blocks : (l : LedgerView) → AreBlocks l [] [] []
no_blocks l = record { kept = tt; whole = tt; once = λ block. omega arith }

pub nothing_kept : (ledger : Roomy LedgerView) (index : Roomy Contents) (known : Roomy KnownMap) (left : Roomy (List BirthRuns)) (parked : Roomy (List Run)) → ledger.held.places ≡ fin.empty → ledger.held.holdings ≡ fin.empty → index.held ≡ [] → known.held ≡ [] → left.held ≡ [] → parked.held ≡ []
    → IsStock ledger index known left parked 1 0 0
nothing_kept ledger index known left parked places holdings no_index no_known no_left no_parked = record {
  births = subst (λ xs. AreBirths ledger.held index.held xs 1) (sym no_known) (subst (λ xs. AreBirths ledger.held xs [] 1) (sym no_index) (no_births ledger.held places holdings));
  blocks = subst (λ xs. AreBlocks ledger.held xs left.held parked.held) (sym no_known) (subst (λ xs. AreBlocks ledger.held [] xs parked.held) (sym no_left) (subst (λ xs. AreBlocks ledger.held [] [] xs) (sym no_parked) (no_blocks ledger.held)));
  counted = sym (ap (λ xs. run_count ledger.held.places xs left.held) no_known ∙ ap (run_count ledger.held.places []) no_left);
  rooms = record {
    ledger_room = omega arith;
    index_room = omega arith;
    known_room = omega arith;
    left_room = omega (arith, ap length no_known);
    parked_room = omega arith;
    birth_room = omega arith;
    run_number = omega arith;
  };
}
