use Rattle.std.proofs.Common.{◌∙◌, ◌++◌, ap, sym, subst, refl, arith, length, List}
use Rattle.std.specs.Prelude.{All, IsSome}
use Rattle.std.specs.FinMap as fin
use Rattle.std.proofs.lemmas.Result.{err_from_is_err_and}
use Rattle.sf_types.specs.declared.birth_runs.BirthRuns.{BirthRuns}
use Rattle.sf_lifetimes.specs.Ledgers.{Places, Holdings, held_by, with_births, with_holding, unheld_births, unheld_places}
use Rattle.sf_lifetimes.specs.Inside.Counts.{AreFew, AreExchanged, lone_births, runs_of_births}
use Rattle.sf_lifetimes.specs.Inside.Counted.{places_in, IsCountedBy}
use Rattle.sf_lifetimes.proofs.LedgerLemmas.{are_few, held_now, lone_now, handed_now, counted_now, places_now}
use Rattle.sf_lifetimes.proofs.ledger.Ledger.hold.Goals as goal

pub exchange-requires-clause-held : goal.exchange-requires-clause-held
exchange-requires-clause-held c =
    let is = c.births_of.ensures.births ∙ ap (λ (h : Holdings). held_by h c.args.holder) c.make_room_for.ensures.held in
    held_now c.self.inside.places.held c.self.inside.holdings.held c.args.holder c.args.births c.births_of.result.now c.self.invariant.counted is

pub exchange-requires-clause-few : goal.exchange-requires-clause-few
exchange-requires-clause-few c =
    let placed = subst (λ v. All (λ birth. IsSome (fin.get v.held.places birth)) c.args.births) (sym c.self.view_is) c.requires in
    subst (AreFew c.self.inside.places.held) (sym c.as_slice.ensures.births)
    (are_few c.self.inside.places.held c.self.inside.holdings.held c.args.births c.self.invariant.counted c.bound.ensures placed)

pub returns-in_err-exchange-clause-room : goal.returns-in_err-exchange-clause-room
returns-in_err-exchange-clause-room c =
    let m = c.self.inside.places.held in
    let h = c.self.inside.holdings.held in
    let is = c.births_of.ensures.births ∙ ap (λ (h : Holdings). held_by h c.args.holder) c.make_room_for.ensures.held in
    let left = lone_now m h c.args.holder c.args.births c.births_of.result.now c.self.invariant.counted is in
    let same = ap (λ bs. length (lone_births m bs c.births_of.result.now)) c.as_slice.ensures.births in
    let unheld = ap (λ v. length (unheld_births v.held.holdings c.args.holder c.args.births)) c.self.view_is in
    let room = c.in_err-exchange.ensures.room in
    let exit = err_from_is_err_and c.from_residual-in_err-exchange.result c.from_residual-in_err-exchange.ensures.1 in
    rw exit.1 (record {
      done = λ fits into. room.done (omega arith) (omega (arith, into, ap length left, same, unheld));
      spare = tt;
      left = ap (λ held. record { places = places_in held; holdings = c.make_room_for.new.self.held }) room.left
          ∙ ap (λ (holdings : Holdings). record { places = places_in m; holdings = holdings }) c.make_room_for.ensures.held
          ∙ ap (λ v. v.held) c.self.view_is;
      room_left = omega (arith, ap (λ v. v.spare) c.self.view_is);
      into_spare = tt;
      into_left = room.into_left;
      into_room_left = room.into_room_left;
    })

pub invariant_of-self-2 : goal.invariant_of-self-2
invariant_of-self-2 c =
    let m = c.self.inside.places.held in
    let h = c.self.inside.holdings.held in
    let is = c.births_of.ensures.births ∙ ap (λ (h : Holdings). held_by h c.args.holder) c.make_room_for.ensures.held in
    let p = c.exchange.new.self.held in
    let replaced = c.replace.ensures.held ∙ ap (λ (hs : Holdings). with_births hs c.args.holder c.args.births) c.make_room_for.ensures.held in
    let placed = subst (λ v. All (λ birth. IsSome (fin.get v.held.places birth)) c.args.births) (sym c.self.view_is) c.requires in
    let few = are_few m h c.args.births c.self.invariant.counted c.bound.ensures placed in
    let changed = subst (λ bs. AreExchanged m c.births_of.result.now bs p) c.as_slice.ensures.births c.in_ok-exchange.ensures.changed in
    record {
      counted = subst (IsCountedBy p) (sym replaced) (counted_now m h c.args.holder c.args.births c.births_of.result.now c.self.invariant.counted is p few changed);
      places_room = omega (arith, c.self.invariant.places_room, c.in_ok-exchange.ensures.room.spare);
      holdings_room = omega (
        arith,
        c.self.invariant.holdings_room,
        c.make_room_for.ensures.spare,
        c.replace.ensures.spare,
        ap (λ (hs : Holdings). length (held_by hs c.args.holder)) c.make_room_for.ensures.held,
        ap length c.births_of-old.ensures.births,
        ap length c.as_slice-new.ensures.births,
      );
    }

pub returns-clause-held : goal.returns-clause-held
returns-clause-held c =
    let m = c.self.inside.places.held in
    let h = c.self.inside.holdings.held in
    let is = c.births_of.ensures.births ∙ ap (λ (h : Holdings). held_by h c.args.holder) c.make_room_for.ensures.held in
    let p = c.exchange.new.self.held in
    let replaced = c.replace.ensures.held ∙ ap (λ (hs : Holdings). with_births hs c.args.holder c.args.births) c.make_room_for.ensures.held in
    let placed = subst (λ v. All (λ birth. IsSome (fin.get v.held.places birth)) c.args.births) (sym c.self.view_is) c.requires in
    let few = are_few m h c.args.births c.self.invariant.counted c.bound.ensures placed in
    let changed = subst (λ bs. AreExchanged m c.births_of.result.now bs p) c.as_slice.ensures.births c.in_ok-exchange.ensures.changed in
    ap (λ (holdings : Holdings). record { places = places_in p; holdings = holdings }) replaced
    ∙ ap (λ (places : Places). record { places = places; holdings = with_births h c.args.holder c.args.births })
    (places_now m h c.args.holder c.args.births c.births_of.result.now c.self.invariant.counted is p few changed)
    ∙ ap (λ v. with_holding v.held c.args.holder c.args.births) c.self.view_is

pub returns-clause-into : goal.returns-clause-into
returns-clause-into c =
    let m = c.self.inside.places.held in
    let h = c.self.inside.holdings.held in
    let is = c.births_of.ensures.births ∙ ap (λ (h : Holdings). held_by h c.args.holder) c.make_room_for.ensures.held in
    c.in_ok-exchange.ensures.into
    ∙ ap (λ bs. c.args.into.now.held ++ runs_of_births m (lone_births m bs c.births_of.result.now)) c.as_slice.ensures.births
    ∙ ap (λ (xs : List BirthRuns). c.args.into.now.held ++ xs)
    (handed_now m h c.args.holder c.args.births c.births_of.result.now c.self.invariant.counted is ∙ ap (λ v. unheld_places v.held c.args.holder c.args.births) c.self.view_is)

pub returns-clause-room : goal.returns-clause-room
returns-clause-room c =
    let m = c.self.inside.places.held in
    let h = c.self.inside.holdings.held in
    let is = c.births_of.ensures.births ∙ ap (λ (h : Holdings). held_by h c.args.holder) c.make_room_for.ensures.held in
    let left = lone_now m h c.args.holder c.args.births c.births_of.result.now c.self.invariant.counted is in
    let same = ap (λ bs. length (lone_births m bs c.births_of.result.now)) c.as_slice.ensures.births in
    let unheld = ap (λ v. length (unheld_births v.held.holdings c.args.holder c.args.births)) c.self.view_is in
    record {
      done = λ _ _. refl;
      spare = omega (
        arith,
        ap (λ v. v.spare) c.self.view_is,
        ap (λ v. length (held_by v.held.holdings c.args.holder)) c.self.view_is,
        ap length c.births_of-old.ensures.births,
        ap length c.as_slice-new.ensures.births,
      );
      left = tt;
      room_left = tt;
      into_spare = omega (arith, c.in_ok-exchange.ensures.room.into_spare, ap length left, same, unheld);
      into_left = tt;
      into_room_left = tt;
    }
