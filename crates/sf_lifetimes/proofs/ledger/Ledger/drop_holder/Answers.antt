use Rattle.std.proofs.Common.{◌∙◌, ◌++◌, ap, sym, subst, refl, arith, length, List, []}
use Rattle.std.proofs.lemmas.Result.{err_from_is_err_and}
use Rattle.sf_types.specs.declared.birth_runs.BirthRuns.{BirthRuns}
use Rattle.sf_lifetimes.specs.Ledgers.{Places, Holdings, with_births, with_holding, unheld_births, unheld_places}
use Rattle.sf_lifetimes.specs.Inside.Counts.{AreFew}
use Rattle.sf_lifetimes.specs.Inside.Counted.{places_in, IsCountedBy}
use Rattle.sf_lifetimes.proofs.LedgerLemmas.{held_now, lone_now, handed_now, counted_now, places_now}
use Rattle.sf_lifetimes.proofs.ledger.Ledger.drop_holder.Goals as goal

pub exchange-requires-clause-held : goal.exchange-requires-clause-held
exchange-requires-clause-held c =
    held_now c.self.inside.places.held c.self.inside.holdings.held c.args.holder.now [] c.births_of.result.now c.self.invariant.counted c.births_of.ensures.births

pub returns-in_err-exchange-clause-room : goal.returns-in_err-exchange-clause-room
returns-in_err-exchange-clause-room c =
    let m = c.self.inside.places.held in
    let h = c.self.inside.holdings.held in
    let left = lone_now m h c.args.holder.now [] c.births_of.result.now c.self.invariant.counted c.births_of.ensures.births in
    let unheld = ap (λ v. length (unheld_births v.held.holdings c.args.holder.now [])) c.self.view_is in
    let room = c.in_err-exchange.ensures.room in
    let exit = err_from_is_err_and c.from_residual.result c.from_residual.ensures.1 in
    rw exit.1 (record {
      done = λ fits into. room.done (omega arith) (omega (arith, into, ap length left, unheld));
      spare = tt;
      left = ap (λ held. record { places = places_in held; holdings = h }) room.left ∙ ap (λ v. v.held) c.self.view_is;
      room_left = omega (arith, ap (λ v. v.spare) c.self.view_is);
      into_spare = tt;
      into_left = room.into_left;
      into_room_left = room.into_room_left;
    })

pub invariant_of-self-2 : goal.invariant_of-self-2
invariant_of-self-2 c =
    let m = c.self.inside.places.held in
    let h = c.self.inside.holdings.held in
    let p = c.exchange.new.self.held in
    let few : AreFew m [] = λ b bad. absurd cc in
    record {
      counted = subst (IsCountedBy p) (sym c.remove.ensures.held) (counted_now m h c.args.holder.now [] c.births_of.result.now c.self.invariant.counted c.births_of.ensures.births p few c.in_ok-exchange.ensures.changed);
      places_room = omega (arith, c.self.invariant.places_room, c.in_ok-exchange.ensures.room.spare);
      holdings_room = omega (arith, c.self.invariant.holdings_room, c.remove.ensures.spare);
    }

pub returns-clause-held : goal.returns-clause-held
returns-clause-held c =
    let m = c.self.inside.places.held in
    let h = c.self.inside.holdings.held in
    let p = c.exchange.new.self.held in
    let few : AreFew m [] = λ b bad. absurd cc in
    ap (λ (holdings : Holdings). record { places = places_in p; holdings = holdings }) c.remove.ensures.held
    ∙ ap (λ (places : Places). record { places = places; holdings = with_births h c.args.holder.now [] })
    (places_now m h c.args.holder.now [] c.births_of.result.now c.self.invariant.counted c.births_of.ensures.births p few c.in_ok-exchange.ensures.changed)
    ∙ ap (λ v. with_holding v.held c.args.holder.now []) c.self.view_is

pub returns-clause-into : goal.returns-clause-into
returns-clause-into c =
    let m = c.self.inside.places.held in
    let h = c.self.inside.holdings.held in
    c.in_ok-exchange.ensures.into
    ∙ ap (λ (xs : List BirthRuns). c.args.into.now.held ++ xs)
    (handed_now m h c.args.holder.now [] c.births_of.result.now c.self.invariant.counted c.births_of.ensures.births ∙ ap (λ v. unheld_places v.held c.args.holder.now []) c.self.view_is)

pub returns-clause-room : goal.returns-clause-room
returns-clause-room c =
    let m = c.self.inside.places.held in
    let h = c.self.inside.holdings.held in
    let left = lone_now m h c.args.holder.now [] c.births_of.result.now c.self.invariant.counted c.births_of.ensures.births in
    let unheld = ap (λ v. length (unheld_births v.held.holdings c.args.holder.now [])) c.self.view_is in
    record {
      done = λ _ _. refl;
      spare = omega (arith, ap (λ v. v.spare) c.self.view_is);
      left = tt;
      room_left = tt;
      into_spare = omega (arith, c.in_ok-exchange.ensures.room.into_spare, ap length left, unheld);
      into_left = tt;
      into_room_left = tt;
    }
