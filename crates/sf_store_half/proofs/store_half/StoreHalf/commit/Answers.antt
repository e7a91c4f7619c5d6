use Rattle.std.proofs.Common.{◌≡◌, ◌≤◌, true, false, List, [], ◌++◌, length, drop, refl, ap, sym, subst, ◌∙◌}
use Rattle.std.specs.Prelude.{All, flat_map, sum_by}
use Rattle.sf_types.specs.declared.call.Call.TheVariants as call
use Rattle.sf_types.specs.declared.holder.Holder.TheVariants as holder
use Rattle.sf_types.specs.Values.Marks.{births_in}
use Rattle.sf_types.specs.Space.Reach.{values_in}
use Rattle.sf_types.specs.Halves.Asks.{Half, half_answer, kept_at}
use Rattle.sf_types.specs.Halves.Asks as rule
use Rattle.sf_retention.specs.declared.retention.Note.{Note}
use Rattle.sf_stock.specs.Stocks.{IsSound, StockView, with_holder, with_left_parked}
use Rattle.sf_versions.specs.VersionTables.{VersionTable, after_commit}
use Rattle.sf_store_half.specs.declared.session_fields.SessionField.{SessionField}
use Rattle.sf_store_half.specs.Fields.{Fields, Keeps}
use Rattle.sf_store_half.specs.HalfMoves.{AreStocked, HasField, IsRepacked, field_at}
use Rattle.sf_store_half.specs.Inside.Commits.{CanHold, stock_with}
use Rattle.sf_store_half.specs.Inside.Fields.{promised_blocks}
use Rattle.sf_store_half.specs.Inside.Floors.{AreDisplaced, stock_without, versions_without}
use Rattle.sf_store_half.specs.contracts.store_half.StoreHalf.{the_view}
use Rattle.sf_store_half.proofs.CommitAnswerLemmas.{can_hold, commit_keeps, commit_reached, commit_repacked, commit_told, displaced_by_plan, notes_until}
use Rattle.sf_store_half.proofs.SetLemmas.{promised_same, set_to}
use Rattle.sf_store_half.proofs.SettledLemmas.{field_is, has_session}
use Rattle.sf_store_half.proofs.store_half.StoreHalf.commit.Goals as goal

pub make_commit-requires-clause-notes : goal.make_commit-requires-clause-notes
make_commit-requires-clause-notes c =
    let plan = c.in_ok-plan.plan in
    subst (λ (ns : List Note). All (λ note. note.until ≤ plan.number) ns) (sym c.make_room-2.ensures.held)
    (notes_until (the_view c.self.inside) c.self.invariant.half plan.number c.self.invariant.keeps c.in_ok-plan.ensures.plan.number)

pub make_commit-requires-clause-due : goal.make_commit-requires-clause-due
make_commit-requires-clause-due c =
    let plan = c.in_ok-plan.plan in
    subst (λ (t : VersionTable). AreDisplaced (after_commit t c.args.changes) plan.due) (sym c.make_room.ensures.held)
    (displaced_by_plan (the_view c.self.inside) c.self.invariant.half c.args.session c.args.kept c.args.changes c.self.invariant.keeps c.self.invariant.reached c.len.ensures.rising plan c.in_ok-plan.ensures.plan c.in_ok-plan.ensures.floor)

pub make_commit-requires-clause-births : goal.make_commit-requires-clause-births
make_commit-requires-clause-births c =
    let f = the_view c.self.inside in
    let plan = c.in_ok-plan.plan in
    subst (λ (s : StockView). CanHold s plan.number plan.held c.args.kept) (sym c.make_room-3.ensures.held)
    (can_hold f c.self.invariant.half plan.number c.args.changes plan.held c.args.kept c.self.invariant.keeps c.len.ensures.rising c.in_ok-plan.ensures.plan.number c.in_ok-plan.ensures.plan.held
    (subst (λ (x : Fields). AreStocked x c.args.kept) (sym c.self.view_is) c.requires.kept)
    (subst (λ (x : Fields). AreStocked x (flat_map births_in (values_in c.args.changes))) (sym c.self.view_is) c.requires.named))

-- the session's field, and the stock before its parking
has : (c : goal.After-release_all) → HasField (the_view c.self.inside) c.args.session
has c = subst (λ (x : Fields). HasField x c.args.session) (sym c.self.view_is) c.requires.session

opened : (c : goal.After-release_all) (h : Half) → Keeps (the_view c.self.inside) h → (kept_at h c.args.session).is_open ≡ true
opened c h keeps = sym (ap (λ (x : SessionField). x.is_open) (field_is (the_view c.self.inside) h c.args.session keeps)) ∙ ap (λ (x : Fields). (field_at x c.args.session).is_open) c.self.view_is ∙ c.requires.open

stocked : (c : goal.After-release_all)
    → c.make_commit.new.stock.held ≡ stock_without (with_holder (stock_with c.self.inside.stock.held c.in_ok-plan.plan.number c.in_ok-plan.plan.held) (holder.Session c.args.session) c.args.kept) c.in_ok-plan.plan.due
stocked c =
    let plan = c.in_ok-plan.plan in
    c.make_commit.ensures.stock ∙ ap (λ (s : StockView). stock_without (with_holder (stock_with s plan.number plan.held) (holder.Session c.args.session) c.args.kept) plan.due) c.make_room-3.ensures.held

versioned : (c : goal.After-release_all) → c.make_commit.new.versions.held ≡ versions_without (after_commit c.self.inside.versions.held c.args.changes) c.in_ok-plan.plan.due
versioned c = c.make_commit.ensures.versions ∙ ap (λ (t : VersionTable). versions_without (after_commit t c.args.changes) c.in_ok-plan.plan.due) c.make_room.ensures.held

sound : (c : goal.After-release_all) → IsSound c.self.inside.stock.held
sound c = subst IsSound c.make_room-3.ensures.held c.make_commit.ensures.sound

set : (c : goal.After-release_all) (h : Half) → Keeps (the_view c.self.inside) h → c.set_field.new.fields.items ≡ set_to (the_view c.self.inside).sessions c.args.session false (kept_at h c.args.session).has_ended
set c h keeps =
    c.set_field.ensures
    ∙ ap (set_to (the_view c.self.inside).sessions c.args.session false)
    (c.has_ended-has_ended.ensures ∙ ap (λ (x : Fields). (field_at x c.args.session).has_ended) (sym c.self.view_is) ∙ ap (λ (x : SessionField). x.has_ended) (field_is (the_view c.self.inside) h c.args.session keeps))

keeps_then : (c : goal.After-release_all) (h : Half) → Keeps (the_view c.self.inside) h
    → Keeps (record (the_view c.self.inside) { locks = c.release_all.new.self.held; versions = c.make_commit.new.versions.held; notes = c.make_commit.new.notes.held; floor = c.in_ok-plan.plan.floor; sessions = c.set_field.new.fields.items; stock = c.park_left.new.self.held })
    (half_answer h c.args.session call.Commit (rule.Commits c.args.changes) c.args.kept).0
keeps_then c h keeps =
    let f = the_view c.self.inside in
    let s = c.args.session in
    let plan = c.in_ok-plan.plan in
    commit_keeps f h s c.args.kept c.args.changes keeps c.self.invariant.reached c.len.ensures.rising plan c.in_ok-plan.ensures.plan c.in_ok-plan.ensures.floor (has_session f h s keeps (has c))
    c.release_all.new.self.held c.make_commit.new.versions.held c.make_commit.new.notes.held plan.floor c.set_field.new.fields.items c.park_left.new.self.held (sound c) (opened c h keeps)
    c.release_all.ensures.held (versioned c) (c.make_commit.ensures.notes ∙ ap (λ (ns : List Note). drop (length plan.due) (ns ++ plan.displaced)) c.make_room-2.ensures.held) refl (set c h keeps)
    (c.park_left.ensures.held ∙ ap with_left_parked (stocked c))

pub invariant_of-self-2 : goal.invariant_of-self-2
invariant_of-self-2 c =
    let f = the_view c.self.inside in
    let kept = c.self.invariant in
    let plan = c.in_ok-plan.plan in
    record {
      in_range = kept.in_range;
      reached = commit_reached f kept.half c.args.session c.args.kept c.args.changes kept.keeps kept.reached c.len.ensures.rising plan c.in_ok-plan.ensures.plan c.in_ok-plan.ensures.floor c.make_commit.new.versions.held (versioned c);
      count = kept.count ∙ sym (ap (sum_by promised_blocks) c.set_field.ensures ∙ promised_same f.sessions c.args.session false c.has_ended-has_ended.result (has c).low (has c).high);
      few = kept.few;
      half = (half_answer kept.half c.args.session call.Commit (rule.Commits c.args.changes) c.args.kept).0;
      keeps = keeps_then c kept.half kept.keeps;
    }

pub returns : goal.returns
returns c =
    let f = the_view c.self.inside in
    let s = c.args.session in
    let plan = c.in_ok-plan.plan in
    record {
      kept = λ h keeps. keeps_then c h (subst (λ (x : Fields). Keeps x h) (sym c.self.view_is) keeps);
      answer = λ h keeps.
          let own = subst (λ (x : Fields). Keeps x h) (sym c.self.view_is) keeps in
          commit_told f h s c.args.kept c.args.changes own c.self.invariant.reached c.len.ensures.rising plan c.in_ok-plan.ensures.plan c.in_ok-plan.ensures.floor (has_session f h s own (has c)) (opened c h own);
      repacked =
          subst (λ (x : Fields). IsRepacked x.stock c.park_left.new.self.held []) c.self.view_is
          (subst (λ (x : StockView). IsRepacked f.stock x []) (sym (c.park_left.ensures.held ∙ ap with_left_parked (stocked c)))
          (commit_repacked f c.self.invariant.half s c.args.kept c.args.changes c.self.invariant.keeps c.self.invariant.reached c.len.ensures.rising plan c.in_ok-plan.ensures.plan c.in_ok-plan.ensures.floor (sound c)
          (subst IsSound (stocked c) c.make_commit.ensures.after)));
      err = tt;
    }
