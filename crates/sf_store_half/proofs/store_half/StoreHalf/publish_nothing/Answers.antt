use Rattle.std.proofs.Common.{◌≡◌, ◌+◌, ◌-◌, ℕ, List, length, refl, sym, ap, subst, drop, arith}
use Rattle.std.specs.List.{range_with_len}
use Rattle.sf_types.specs.Space.BlockRuns.{blocks_in}
use Rattle.sf_types.specs.Space.Use.{blocks_of_births}
use Rattle.sf_types.specs.Play.Blocks.{places_of_new}
use Rattle.sf_stock.specs.Stocks.{IsSound}
use Rattle.sf_store_half.specs.Fields.{Fields}
use Rattle.sf_store_half.specs.HalfMoves.{IsRepacked}
use Rattle.sf_store_half.proofs.BetweenLemmas.{repacked_itself}
use Rattle.sf_store_half.proofs.store_half.StoreHalf.publish_nothing.Goals as goal

none_more : (n : ℕ) → n - n ≡ 0
none_more n = omega arith

pub returns : goal.returns
returns c =
    let blocks : List ℕ = blocks_in c.args.runs.held in
    let sound = subst (λ (x : Fields). IsSound x.stock) c.self.view_is c.next_birth-sound.ensures.sound in
    record {
      kept = λ h keeps. keeps;
      answer = λ h keeps. refl;
      repacked = λ h keeps.
          subst (IsRepacked c.args.self.now.stock c.args.self.now.stock) (ap (λ (n : ℕ). places_of_new h.contents (range_with_len (length h.contents + 1) n) blocks) (sym (none_more (length h.contents))))
          (repacked_itself c.args.self.now.stock keeps.none_left sound keeps.live);
      unused = λ h keeps.
          ap (λ (n : ℕ). drop (blocks_of_births h.contents (range_with_len (length h.contents + 1) n)) blocks) (sym (none_more (length h.contents)));
      err = tt;
    }
