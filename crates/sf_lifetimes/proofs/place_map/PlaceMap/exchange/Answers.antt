use Rattle.std.proofs.Common.{◌∙◌, ◌++◌, refl, ap, List, arith}
use Rattle.sf_types.specs.declared.birth_runs.BirthRuns.{BirthRuns}
use Rattle.sf_lifetimes.specs.Inside.Counts.{lone_births, runs_of_births}
use Rattle.sf_lifetimes.proofs.ExchangeLemmas.{still_few, exchanged_but}
use Rattle.sf_lifetimes.proofs.place_map.PlaceMap.exchange.Goals as goal

pub release_old-requires-clause-room : goal.release_old-requires-clause-room
release_old-requires-clause-room c = omega (arith, c.count_lone.ensures, c.in_ok-make_room.ensures.room)

pub raise_new-requires-clause-few : goal.raise_new-requires-clause-few
raise_new-requires-clause-few c = still_few c.args.self.now.held c.release_old.new.self.held c.args.new.now c.args.old.now c.requires.few c.release_old.ensures.changed

pub returns-clause-changed : goal.returns-clause-changed
returns-clause-changed c =
    exchanged_but c.args.self.now.held c.release_old.new.self.held c.raise_new.new.self.held c.args.new.now c.args.old.now c.requires.held c.release_old.ensures.changed c.raise_new.ensures.changed

pub returns-clause-into : goal.returns-clause-into
returns-clause-into c =
    c.release_old.ensures.into
    ∙ ap (λ (held : List BirthRuns). held ++ runs_of_births c.args.self.now.held (lone_births c.args.self.now.held c.args.new.now c.args.old.now)) c.make_room.ensures.held

pub returns-clause-room : goal.returns-clause-room
returns-clause-room c = record {
  done = λ _ _. refl;
  spare = omega (arith, c.raise_new.ensures.spare, c.release_old.ensures.spare);
  left = tt;
  room_left = tt;
  into_spare = omega (arith, c.make_room.ensures.kept, c.release_old.ensures.into_spare);
  into_left = tt;
  into_room_left = tt;
}
