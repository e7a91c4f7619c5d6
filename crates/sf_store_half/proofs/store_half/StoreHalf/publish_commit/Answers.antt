use Rattle.std.proofs.Common.{◌≡◌, ◌≤◌, Ok, ℕ, List, [], ◌++◌, length, map, drop, length-set, refl, sym, ap, subst, ◌∙◌, arith}
use Rattle.std.specs.Prelude.{All}
use Rattle.std.proofs.lemmas.Result.{err_from_is_err_and}
use Rattle.sf_types.specs.declared.holder.Holder.TheVariants as holder
use Rattle.sf_types.specs.declared.memory.OutOfMemory.{OutOfMemory}
use Rattle.std.specs.List.{AllByRecursion as Each}
use Rattle.std.proofs.lemmas.List.Elements.{All-from_recursion}
use Rattle.sf_types.specs.Space.Cuts.{Cut}
use Rattle.sf_types.specs.Table.Parts.{Rows}
use Rattle.sf_types.specs.Space.BlockRuns.{blocks_in}
use Rattle.sf_types.specs.Halves.Asks.{Commits, Half}
use Rattle.sf_types.specs.Halves.Flushes.{half_publish}
use Rattle.sf_retention.specs.declared.retention.Note.{Note}
use Rattle.sf_stock.specs.Stocks.{IsSound, StockView, with_holder, with_left_parked}
use Rattle.sf_versions.specs.declared.asks.Answer.TheVariants as answer
use Rattle.sf_versions.specs.VersionTables.{VersionTable, after_commit}
use Rattle.sf_store_half.specs.declared.session_fields.SessionField.{SessionField}
use Rattle.sf_store_half.specs.Fields.{Fields, Keeps}
use Rattle.sf_store_half.specs.HalfMoves.{IsRepacked, field_at, new_places}
use Rattle.sf_store_half.specs.Inside.Answered.{IsPublished}
use Rattle.sf_store_half.specs.Inside.Commits.{CanHold, stock_with}
use Rattle.sf_store_half.specs.Inside.Floors.{AreDisplaced, stock_without, versions_without}
use Rattle.sf_store_half.specs.Inside.Plans.{AreNewPlaces, with_all_new}
use Rattle.sf_store_half.specs.contracts.store_half.StoreHalf.{the_view}
use Rattle.sf_store_half.proofs.CommitAnswerLemmas.{commit_reached, notes_until}
use Rattle.sf_store_half.proofs.GrownLemmas.{OfSize}
use Rattle.sf_store_half.proofs.PlannedCutLemmas.{row_sizes}
use Rattle.sf_store_half.proofs.SettledRowLemmas.{bytes_of_rows}
use Rattle.sf_store_half.proofs.MadeLemmas.{few_placeable, none_published}
use Rattle.sf_store_half.proofs.PublishedCommitLemmas.{IsCommitMade, commit_answer, commit_can_hold, commit_displaced, commit_made_of, commit_places, done, few_then, field_ended, published_keeps, published_left, published_repacked}
use Rattle.sf_store_half.proofs.store_half.StoreHalf.publish_commit.Goals as goal

pub plan_changes-requires-clause-sizes : goal.plan_changes-requires-clause-sizes
plan_changes-requires-clause-sizes c =
    All-from_recursion (λ (cut : Cut). OfSize cut.bytes) c.args.cuts.items (subst (Each (λ (cut : Cut). OfSize cut.bytes)) (sym c.requires.cuts_are) (row_sizes c.args.self.now.options c.args.changes))

pub plan_changes-requires-clause-bytes : goal.plan_changes-requires-clause-bytes
plan_changes-requires-clause-bytes c = ap (map (λ (cut : Cut). cut.bytes)) c.requires.cuts_are ∙ bytes_of_rows c.args.self.now.options c.args.changes

pub plan_changes-requires-clause-below : goal.plan_changes-requires-clause-below
plan_changes-requires-clause-below c = c.requires.places.below

pub plan_changes-requires-clause-few : goal.plan_changes-requires-clause-few
plan_changes-requires-clause-few c = omega (arith, few_placeable c.args.self.now (blocks_in c.args.runs.now.held) c.requires.places)

pub returns-in_err-make_commit_room : goal.returns-in_err-make_commit_room
returns-in_err-make_commit_room c =
    let exit = err_from_is_err_and c.from_residual-in_err-make_commit_room.result c.from_residual-in_err-make_commit_room.ensures.1 in
    let room = c.make_commit_room in
    none_published c.args.self.now (record (the_view c.self.inside) { versions = room.new.versions.held; notes = room.new.notes.held; stock = room.new.stock.held })
    (λ h. half_publish h c.args.session (Commits c.args.changes) c.args.cuts.items c.args.kept) (blocks_in c.args.runs.now.held) c.from_residual-in_err-make_commit_room.result exit.0 exit.1
    (ap (λ (x : VersionTable). record (the_view c.self.inside) { versions = x; notes = room.new.notes.held; stock = room.new.stock.held }) room.ensures.versions
    ∙ ap (λ (x : List Note). record (the_view c.self.inside) { notes = x; stock = room.new.stock.held }) room.ensures.notes
    ∙ ap (λ (x : StockView). record (the_view c.self.inside) { stock = x }) room.ensures.stock ∙ c.self.view_is)

pub place_all-requires-clause-places : goal.place_all-requires-clause-places
place_all-requires-clause-places c =
    subst (λ (x : StockView). AreNewPlaces x c.in_ok-plan.plan.news.items) (sym c.make_commit_room.ensures.stock) (commit_places (the_view c.self.inside) c.args.session (blocks_in c.args.runs.now.held) c.args.cuts.items c.args.changes c.in_ok-plan.settled c.args.kept c.in_ok-plan.plan c.in_ok-commit.commit (commit_made_of (the_view c.self.inside) c.args.self.now c.args.session (blocks_in c.args.runs.now.held) c.args.cuts.items c.args.changes c.in_ok-plan.settled c.args.kept c.in_ok-plan.plan c.in_ok-commit.commit c.self.view_is c.next_birth-sound.ensures.sound c.self.invariant.reached c.requires c.in_ok-plan.ensures.planned c.in_ok-plan.ensures.plan c.in_ok-plan.ensures.settled c.make_commit_room.ensures.rising c.in_ok-commit.ensures.plan c.in_ok-commit.ensures.floor))

pub make_commit-requires-clause-notes : goal.make_commit-requires-clause-notes
make_commit-requires-clause-notes c =
    let commit = c.in_ok-commit.commit in
    subst (λ (ns : List Note). All (λ note. note.until ≤ commit.number) ns) (sym c.make_commit_room.ensures.notes)
    (notes_until (the_view c.self.inside) c.self.invariant.half commit.number c.self.invariant.keeps c.in_ok-commit.ensures.plan.number)

pub make_commit-requires-clause-due : goal.make_commit-requires-clause-due
make_commit-requires-clause-due c =
    subst (λ (t : VersionTable). AreDisplaced (after_commit t c.in_ok-plan.settled) c.in_ok-commit.commit.due) (sym c.make_commit_room.ensures.versions)
    (commit_displaced (the_view c.self.inside) c.args.session (blocks_in c.args.runs.now.held) c.args.cuts.items c.args.changes c.in_ok-plan.settled c.args.kept c.in_ok-plan.plan c.in_ok-commit.commit (commit_made_of (the_view c.self.inside) c.args.self.now c.args.session (blocks_in c.args.runs.now.held) c.args.cuts.items c.args.changes c.in_ok-plan.settled c.args.kept c.in_ok-plan.plan c.in_ok-commit.commit c.self.view_is c.next_birth-sound.ensures.sound c.self.invariant.reached c.requires c.in_ok-plan.ensures.planned c.in_ok-plan.ensures.plan c.in_ok-plan.ensures.settled c.make_commit_room.ensures.rising c.in_ok-commit.ensures.plan c.in_ok-commit.ensures.floor) c.self.invariant.half c.self.invariant.keeps)

pub make_commit-requires-clause-births : goal.make_commit-requires-clause-births
make_commit-requires-clause-births c =
    subst (λ (x : StockView). CanHold x c.in_ok-commit.commit.number c.in_ok-commit.commit.held c.args.kept)
    (sym (c.place_all.ensures.held ∙ ap (λ (x : StockView). with_all_new x c.in_ok-plan.plan.news.items) c.make_commit_room.ensures.stock))
    (commit_can_hold (the_view c.self.inside) c.args.session (blocks_in c.args.runs.now.held) c.args.cuts.items c.args.changes c.in_ok-plan.settled c.args.kept c.in_ok-plan.plan c.in_ok-commit.commit (commit_made_of (the_view c.self.inside) c.args.self.now c.args.session (blocks_in c.args.runs.now.held) c.args.cuts.items c.args.changes c.in_ok-plan.settled c.args.kept c.in_ok-plan.plan c.in_ok-commit.commit c.self.view_is c.next_birth-sound.ensures.sound c.self.invariant.reached c.requires c.in_ok-plan.ensures.planned c.in_ok-plan.ensures.plan c.in_ok-plan.ensures.settled c.make_commit_room.ensures.rising c.in_ok-commit.ensures.plan c.in_ok-commit.ensures.floor))

-- what was known before
made : (c : goal.After-release_all) → IsCommitMade (the_view c.self.inside) c.args.session (blocks_in c.args.runs.now.held) c.args.cuts.items c.args.changes c.in_ok-plan.settled c.args.kept c.in_ok-plan.plan c.in_ok-commit.commit
made c =
    commit_made_of (the_view c.self.inside) c.args.self.now c.args.session (blocks_in c.args.runs.now.held) c.args.cuts.items c.args.changes c.in_ok-plan.settled c.args.kept c.in_ok-plan.plan c.in_ok-commit.commit
    c.self.view_is c.next_birth-sound.ensures.sound c.self.invariant.reached c.requires c.in_ok-plan.ensures.planned c.in_ok-plan.ensures.plan c.in_ok-plan.ensures.settled
    c.make_commit_room.ensures.rising c.in_ok-commit.ensures.plan c.in_ok-commit.ensures.floor

-- the stock before its parking
placed : (c : goal.After-release_all) → c.place_all.new.stock.held ≡ with_all_new c.self.inside.stock.held c.in_ok-plan.plan.news.items
placed c = c.place_all.ensures.held ∙ ap (λ (x : StockView). with_all_new x c.in_ok-plan.plan.news.items) c.make_commit_room.ensures.stock

committed_is : (c : goal.After-release_all)
    → c.make_commit.new.stock.held
    ≡ stock_without (with_holder (stock_with (with_all_new c.self.inside.stock.held c.in_ok-plan.plan.news.items) c.in_ok-commit.commit.number c.in_ok-commit.commit.held) (holder.Session c.args.session) c.args.kept) c.in_ok-commit.commit.due
committed_is c =
    let commit = c.in_ok-commit.commit in
    c.make_commit.ensures.stock ∙ ap (λ (x : StockView). stock_without (with_holder (stock_with x commit.number commit.held) (holder.Session c.args.session) c.args.kept) commit.due) (placed c)

done_is : (c : goal.After-release_all) → c.end_hold.new.stock.held ≡ with_left_parked (done (the_view c.self.inside) c.args.session (blocks_in c.args.runs.now.held) c.args.cuts.items c.args.changes c.in_ok-plan.settled c.args.kept c.in_ok-plan.plan c.in_ok-commit.commit (made c))
done_is c = c.end_hold.ensures.held ∙ ap (λ (x : StockView). with_left_parked (with_holder x (holder.Promise c.args.session) [])) (committed_is c)

done_sound : (c : goal.After-release_all) → IsSound (done (the_view c.self.inside) c.args.session (blocks_in c.args.runs.now.held) c.args.cuts.items c.args.changes c.in_ok-plan.settled c.args.kept c.in_ok-plan.plan c.in_ok-commit.commit (made c))
done_sound c = subst (λ (x : StockView). IsSound (with_holder x (holder.Promise c.args.session) [])) (committed_is c) c.end_hold.ensures.between

versioned : (c : goal.After-release_all) → c.make_commit.new.versions.held ≡ versions_without (after_commit c.self.inside.versions.held c.in_ok-plan.settled) c.in_ok-commit.commit.due
versioned c = c.make_commit.ensures.versions ∙ ap (λ (t : VersionTable). versions_without (after_commit t c.in_ok-plan.settled) c.in_ok-commit.commit.due) c.make_commit_room.ensures.versions

keeps_then : (c : goal.After-release_all) (h : Half) → Keeps (the_view c.self.inside) h
    → Keeps (record (the_view c.self.inside) { locks = c.release_all.new.self.held; versions = c.make_commit.new.versions.held; notes = c.make_commit.new.notes.held; floor = c.in_ok-commit.commit.floor; sessions = c.set_field.new.fields.items; stock = c.end_hold.new.stock.held })
    (half_publish h c.args.session (Commits c.args.changes) c.args.cuts.items c.args.kept).0
keeps_then c h keeps =
    let f = the_view c.self.inside in
    let commit = c.in_ok-commit.commit in
    published_keeps (the_view c.self.inside) c.args.session (blocks_in c.args.runs.now.held) c.args.cuts.items c.args.changes c.in_ok-plan.settled c.args.kept c.in_ok-plan.plan c.in_ok-commit.commit (made c) h keeps
    c.release_all.new.self.held c.make_commit.new.versions.held c.make_commit.new.notes.held commit.floor c.set_field.new.fields.items c.end_hold.new.stock.held
    c.release_all.ensures.held (versioned c) (c.make_commit.ensures.notes ∙ ap (λ (ns : List Note). drop (length commit.due) (ns ++ commit.displaced)) c.make_commit_room.ensures.notes) refl
    (field_ended f h c.args.session c.args.kept c.has_ended-has_ended.result c.end_promise.new.fields.items c.set_field.new.fields.items keeps (made c).has c.end_promise.ensures.fields c.set_field.ensures
    (c.has_ended-has_ended.ensures ∙ ap (λ (x : Fields). (field_at x c.args.session).has_ended) (sym c.self.view_is)))
    (done_is c)

pub invariant_of-self-2 : goal.invariant_of-self-2
invariant_of-self-2 c =
    let f = the_view c.self.inside in
    let kept = c.self.invariant in
    let commit = c.in_ok-commit.commit in
    let has = (made c).has in
    let size : length c.end_promise.new.fields.items ≡ length f.sessions = ap (λ (xs : List SessionField). length xs) c.end_promise.ensures.fields ∙ length-set f.sessions _ _ in
    let high = has.high in
    let fewer = c.end_promise.ensures.fewer in
    let few = kept.few in
    record {
      in_range = kept.in_range;
      reached = commit_reached f kept.half c.args.session c.args.kept c.in_ok-plan.settled kept.keeps kept.reached c.make_commit_room.ensures.rising commit c.in_ok-commit.ensures.plan c.in_ok-commit.ensures.floor c.make_commit.new.versions.held (versioned c);
      count = few_then c.end_promise.new.fields.items c.set_field.new.fields.items c.args.session c.end_promise.new.promised c.has_ended-has_ended.result has.low (omega (arith, high, size)) c.end_promise.ensures.count c.set_field.ensures;
      few = omega (arith, fewer, few);
      half = (half_publish kept.half c.args.session (Commits c.args.changes) c.args.cuts.items c.args.kept).0;
      keeps = keeps_then c kept.half kept.keeps;
    }

pub returns : goal.returns
returns c =
    let s = c.args.session in
    let f : Fields = the_view c.self.inside in
    let blocks : List ℕ = blocks_in c.args.runs.now.held in
    let of : List Cut = c.args.cuts.items in
    let rows : Rows = c.args.changes in
    let kept = c.args.kept in
    let commit = c.in_ok-commit.commit in
    let after : Fields = record f { locks = c.release_all.new.self.held; versions = c.make_commit.new.versions.held; notes = c.make_commit.new.notes.held; floor = commit.floor; sessions = c.set_field.new.fields.items; stock = c.end_hold.new.stock.held } in
    subst (λ (x : Fields). IsPublished {E = OutOfMemory} x after (λ h. half_publish h s (Commits rows) of kept) blocks (Ok (record { answer = answer.Committed commit.number; unused = c.in_ok-unused.unused }))) c.self.view_is
    (record {
      kept = λ h keeps. keeps_then c h keeps;
      answer = λ h keeps. commit_answer (the_view c.self.inside) c.args.session (blocks_in c.args.runs.now.held) c.args.cuts.items c.args.changes c.in_ok-plan.settled c.args.kept c.in_ok-plan.plan c.in_ok-commit.commit (made c) h keeps;
      repacked = λ h keeps.
          subst (λ (x : StockView). IsRepacked f.stock x (new_places h (half_publish h s (Commits rows) of kept).0 blocks)) (sym (done_is c))
          (published_repacked (the_view c.self.inside) c.args.session (blocks_in c.args.runs.now.held) c.args.cuts.items c.args.changes c.in_ok-plan.settled c.args.kept c.in_ok-plan.plan c.in_ok-commit.commit (made c) h keeps (done_sound c));
      unused = λ h keeps. c.in_ok-unused.ensures ∙ published_left (the_view c.self.inside) c.args.session (blocks_in c.args.runs.now.held) c.args.cuts.items c.args.changes c.in_ok-plan.settled c.args.kept c.in_ok-plan.plan c.in_ok-commit.commit (made c) h keeps;
      err = tt;
    })
