use Rattle.std.proofs.Common.{◌≡◌, true, Ok, ℕ, List, map, sym, ap, subst, ◌∙◌, arith}
use Rattle.std.specs.List.{AllByRecursion as Each}
use Rattle.std.proofs.lemmas.List.Elements.{All-from_recursion}
use Rattle.std.specs.Prelude.{All}
use Rattle.std.proofs.lemmas.Result.{err_from_is_err_and}
use Rattle.sf_types.specs.declared.memory.OutOfMemory.{OutOfMemory}
use Rattle.sf_versions.specs.declared.asks.Answer.TheVariants as answer
use Rattle.sf_types.specs.Space.BlockRuns.{blocks_in}
use Rattle.sf_types.specs.Space.Cuts.{Cut}
use Rattle.sf_types.specs.Halves.Asks.{Settles}
use Rattle.sf_types.specs.Halves.Flushes.{half_publish}
use Rattle.sf_stock.specs.Stocks.{IsSound, StockView, is_stocked, with_left_parked}
use Rattle.sf_store_half.specs.Fields.{Fields, Keeps}
use Rattle.sf_store_half.specs.HalfMoves.{IsRepacked, new_places}
use Rattle.sf_store_half.specs.Inside.Answered.{IsPublished}
use Rattle.sf_store_half.specs.Inside.Fields.{AreKept}
use Rattle.sf_store_half.specs.Inside.Plans.{AreNewPlaces, published_stock, with_all_new}
use Rattle.sf_store_half.specs.contracts.store_half.StoreHalf.{the_view}
use Rattle.sf_store_half.proofs.GrownLemmas.{OfSize}
use Rattle.sf_store_half.proofs.PlannedCutLemmas.{bytes_of_cuts, cuts_alone, value_sizes}
use Rattle.sf_store_half.proofs.MadeLemmas.{few_placeable, made_answer, made_births, made_keeps, made_kept, made_left, made_of, made_places, made_repacked, none_published}
use Rattle.sf_store_half.proofs.store_half.StoreHalf.publish_value.Goals as goal

pub plan_value-requires-clause-sizes : goal.plan_value-requires-clause-sizes
plan_value-requires-clause-sizes c =
    All-from_recursion (λ (cut : Cut). OfSize cut.bytes) c.args.cuts.items (subst (Each (λ (cut : Cut). OfSize cut.bytes)) (sym (c.requires.cuts_are ∙ cuts_alone c.args.self.now.options c.args.value)) (value_sizes c.args.self.now.options c.args.value))

pub plan_value-requires-clause-bytes : goal.plan_value-requires-clause-bytes
plan_value-requires-clause-bytes c = ap (map (λ (cut : Cut). cut.bytes)) (c.requires.cuts_are ∙ cuts_alone c.args.self.now.options c.args.value) ∙ bytes_of_cuts c.args.self.now.options c.args.value

pub plan_value-requires-clause-below : goal.plan_value-requires-clause-below
plan_value-requires-clause-below c = c.requires.places.below

pub plan_value-requires-clause-few : goal.plan_value-requires-clause-few
plan_value-requires-clause-few c = omega (arith, few_placeable c.args.self.now (blocks_in c.args.runs.now.held) c.requires.places)

pub returns-in_err-make_room : goal.returns-in_err-make_room
returns-in_err-make_room c =
    let exit = err_from_is_err_and c.from_residual-in_err-make_room.result c.from_residual-in_err-make_room.ensures.1 in
    none_published c.args.self.now (record (the_view c.self.inside) { stock = c.make_room.new.self.held })
    (λ h. half_publish h c.args.session (Settles c.args.value) c.args.cuts.items c.args.kept.now) (blocks_in c.args.runs.now.held) c.from_residual-in_err-make_room.result exit.0 exit.1
    (ap (λ (x : StockView). record (the_view c.self.inside) { stock = x }) c.make_room.ensures.held ∙ c.self.view_is)

pub publish_births-requires-clause-places : goal.publish_births-requires-clause-places
publish_births-requires-clause-places c =
    subst (λ (x : StockView). AreNewPlaces x c.in_ok-plan.plan.news.items) (sym c.make_room.ensures.held)
    (made_places (the_view c.self.inside) c.args.session (blocks_in c.args.runs.now.held) c.args.cuts.items c.args.value c.in_ok-plan.map c.args.kept.now c.in_ok-births.births c.in_ok-plan.plan (made_of (the_view c.self.inside) c.args.self.now c.args.session (blocks_in c.args.runs.now.held) c.args.cuts.items c.args.value c.in_ok-plan.map c.args.kept.now c.in_ok-births.births c.in_ok-plan.plan c.self.view_is c.next_birth-sound.ensures.sound c.requires c.in_ok-plan.ensures.planned c.in_ok-plan.ensures.plan c.in_ok-plan.ensures.settled c.in_ok-births.ensures))

pub publish_births-requires-clause-births : goal.publish_births-requires-clause-births
publish_births-requires-clause-births c =
    subst (λ (x : StockView). All (λ birth. is_stocked (with_all_new x c.in_ok-plan.plan.news.items).stocked birth ≡ true) c.in_ok-births.births) (sym c.make_room.ensures.held)
    (made_births (the_view c.self.inside) c.args.session (blocks_in c.args.runs.now.held) c.args.cuts.items c.args.value c.in_ok-plan.map c.args.kept.now c.in_ok-births.births c.in_ok-plan.plan (made_of (the_view c.self.inside) c.args.self.now c.args.session (blocks_in c.args.runs.now.held) c.args.cuts.items c.args.value c.in_ok-plan.map c.args.kept.now c.in_ok-births.births c.in_ok-plan.plan c.self.view_is c.next_birth-sound.ensures.sound c.requires c.in_ok-plan.ensures.planned c.in_ok-plan.ensures.plan c.in_ok-plan.ensures.settled c.in_ok-births.ensures))

pub invariant_of-self-2 : goal.invariant_of-self-2
invariant_of-self-2 c =
    let is = c.publish_births.ensures.held ∙ ap (λ (x : StockView). with_left_parked (published_stock x c.args.session c.in_ok-plan.plan.news.items c.in_ok-births.births)) c.make_room.ensures.held in
    subst (λ (x : StockView). AreKept (record (the_view c.self.inside) { sessions = c.end_promise.new.fields.items; stock = x }) c.end_promise.new.promised) (sym is)
    (made_kept (the_view c.self.inside) c.args.session (blocks_in c.args.runs.now.held) c.args.cuts.items c.args.value c.in_ok-plan.map c.args.kept.now c.in_ok-births.births c.in_ok-plan.plan (made_of (the_view c.self.inside) c.args.self.now c.args.session (blocks_in c.args.runs.now.held) c.args.cuts.items c.args.value c.in_ok-plan.map c.args.kept.now c.in_ok-births.births c.in_ok-plan.plan c.self.view_is c.next_birth-sound.ensures.sound c.requires c.in_ok-plan.ensures.planned c.in_ok-plan.ensures.plan c.in_ok-plan.ensures.settled c.in_ok-births.ensures)
    c.end_promise.new.promised c.self.inside.promised c.end_promise.new.fields.items c.self.invariant c.end_promise.ensures.fields c.end_promise.ensures.count c.end_promise.ensures.fewer)

pub returns : goal.returns
returns c =
    let s = c.args.session in
    let f : Fields = the_view c.self.inside in
    let news = c.in_ok-plan.plan.news.items in
    let blocks : List ℕ = blocks_in c.args.runs.now.held in
    let of : List Cut = c.args.cuts.items in
    let v = c.args.value in
    let kept = c.args.kept.now in
    let is = c.publish_births.ensures.held ∙ ap (λ (x : StockView). with_left_parked (published_stock x s news c.in_ok-births.births)) c.make_room.ensures.held in
    let between = subst (λ (x : StockView). IsSound (published_stock x s news c.in_ok-births.births)) c.make_room.ensures.held c.publish_births.ensures.between in
    subst (λ (x : Fields). IsPublished {E = OutOfMemory} x (record f { sessions = c.end_promise.new.fields.items; stock = c.publish_births.new.stock.held }) (λ h. half_publish h s (Settles v) of kept) blocks (Ok (record { answer = answer.Value c.in_ok-plan.map c.in_ok-twin.twin; unused = c.in_ok-unused.unused }))) c.self.view_is
    (record {
      kept = λ h keeps.
          subst (λ (x : StockView). Keeps (record f { sessions = c.end_promise.new.fields.items; stock = x }) (half_publish h s (Settles v) of kept).0) (sym is)
          (made_keeps (the_view c.self.inside) c.args.session (blocks_in c.args.runs.now.held) c.args.cuts.items c.args.value c.in_ok-plan.map c.args.kept.now c.in_ok-births.births c.in_ok-plan.plan
          (made_of (the_view c.self.inside) c.args.self.now c.args.session (blocks_in c.args.runs.now.held) c.args.cuts.items c.args.value c.in_ok-plan.map c.args.kept.now c.in_ok-births.births c.in_ok-plan.plan c.self.view_is c.next_birth-sound.ensures.sound c.requires c.in_ok-plan.ensures.planned c.in_ok-plan.ensures.plan c.in_ok-plan.ensures.settled c.in_ok-births.ensures) h keeps c.end_promise.new.fields.items c.end_promise.ensures.fields);
      answer = λ h keeps. (
        made_answer (the_view c.self.inside) c.args.session (blocks_in c.args.runs.now.held) c.args.cuts.items c.args.value c.in_ok-plan.map c.args.kept.now c.in_ok-births.births c.in_ok-plan.plan
            (made_of (the_view c.self.inside) c.args.self.now c.args.session (blocks_in c.args.runs.now.held) c.args.cuts.items c.args.value c.in_ok-plan.map c.args.kept.now c.in_ok-births.births c.in_ok-plan.plan c.self.view_is c.next_birth-sound.ensures.sound c.requires c.in_ok-plan.ensures.planned c.in_ok-plan.ensures.plan c.in_ok-plan.ensures.settled c.in_ok-births.ensures) h keeps,
        c.in_ok-twin.ensures,
      );
      repacked = λ h keeps.
          subst (λ (x : StockView). IsRepacked f.stock x (new_places h (half_publish h s (Settles v) of kept).0 blocks)) (sym is)
          (made_repacked (the_view c.self.inside) c.args.session (blocks_in c.args.runs.now.held) c.args.cuts.items c.args.value c.in_ok-plan.map c.args.kept.now c.in_ok-births.births c.in_ok-plan.plan
          (made_of (the_view c.self.inside) c.args.self.now c.args.session (blocks_in c.args.runs.now.held) c.args.cuts.items c.args.value c.in_ok-plan.map c.args.kept.now c.in_ok-births.births c.in_ok-plan.plan c.self.view_is c.next_birth-sound.ensures.sound c.requires c.in_ok-plan.ensures.planned c.in_ok-plan.ensures.plan c.in_ok-plan.ensures.settled c.in_ok-births.ensures) h keeps between);
      unused = λ h keeps.
          c.in_ok-unused.ensures
          ∙ made_left (the_view c.self.inside) c.args.session (blocks_in c.args.runs.now.held) c.args.cuts.items c.args.value c.in_ok-plan.map c.args.kept.now c.in_ok-births.births c.in_ok-plan.plan
          (made_of (the_view c.self.inside) c.args.self.now c.args.session (blocks_in c.args.runs.now.held) c.args.cuts.items c.args.value c.in_ok-plan.map c.args.kept.now c.in_ok-births.births c.in_ok-plan.plan c.self.view_is c.next_birth-sound.ensures.sound c.requires c.in_ok-plan.ensures.planned c.in_ok-plan.ensures.plan c.in_ok-plan.ensures.settled c.in_ok-births.ensures) h keeps;
      err = tt;
    })
