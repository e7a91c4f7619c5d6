use Rattle.std.proofs.Common.{◌≡◌, ◌+◌, List, [], ◌∷◌, ◌++◌, drop, sym, ap, ◌∙◌, append_assoc}
use Rattle.std.specs.Prelude.{slice_get}
use Rattle.std.proofs.lemmas.List.{append-nil}
use Rattle.sf_types.specs.Space.Cuts.{Cut}
use Rattle.sf_dedup.specs.Prints.{print_of}
use Rattle.sf_dedup.specs.Contents.{content_at}
use Rattle.sf_store_half.specs.declared.cut_notes.CutNote.{CutNote}
use Rattle.sf_store_half.specs.HalfMoves.{cuts_in}
use Rattle.sf_store_half.specs.Inside.CutNotes.{cut_of, note_of, notes_from}
use Rattle.sf_store_half.proofs.CutNoteLemmas.{fresh_with_first}
use Rattle.sf_store_half.proofs.FlushLemmas.{next_cut, no_cut_past_contents, no_cut_past_choices, none_of_map}
use Rattle.sf_store_half.proofs.cut_notes.note_cuts.Goals as goal
use Rattle.sf_store_half.proofs.cut_notes.note_cuts.Goals.{in_default, in_default-2, in_default-3}

pub loop-content-preserved : goal.loop-content-preserved
loop-content-preserved c =
    let flush = c.args.flush.now in let options = c.args.options.now in let at = c.loop-content.at in
    let stocked = c.args.stock.now.held.stocked in let firsts = c.loop-content.firsts.held in let notes = c.loop-content.notes.items in
    let here = c.in-Some-Some-Some in
    let cut : Cut = cut_of here.content.now c.is_sharing-is_sharing.result in
    let rest : List Cut = drop (at + 1) (cuts_in options flush) in
    let next : drop at (cuts_in options flush) ≡ cut ∷ rest =
    next_cut options flush.contents flush.choices at here.content.now here.choice.now (sym here.ensures) (sym here.ensures'')
    ∙ ap (λ t. cut_of here.content.now t ∷ rest) (sym c.is_sharing-is_sharing.ensures) in
    let note = c.in_ok-note_cut.field-0 in
    let after = c.note_cut.new.firsts.held in
    record {
      notes =
          ap (λ (xs : List CutNote). xs ++ notes_from stocked after (at + 1) rest) c.in_ok-push.ensures.items
          ∙ append_assoc notes (note ∷ []) (notes_from stocked after (at + 1) rest)
          ∙ ap (λ (x : CutNote). notes ++ x ∷ notes_from stocked after (at + 1) rest) c.in_ok-note_cut.ensures.note
          ∙ ap (λ xs. notes ++ note_of stocked firsts cut ∷ notes_from stocked xs (at + 1) rest) c.in_ok-note_cut.ensures.firsts
          ∙ ap (λ (xs : List Cut). notes ++ notes_from stocked firsts at xs) (sym next)
          ∙ c.loop-content.invariant.notes;
      fresh = λ k past. ap (λ xs. content_at xs k) c.in_ok-note_cut.ensures.firsts ∙ fresh_with_first firsts at cut k c.loop-content.invariant.fresh past;
    }

pub returns : goal.returns
returns c =
    let flush = c.args.flush.now in let options = c.args.options.now in let at = c.loop-content.at in
    let stocked = c.args.stock.now.held.stocked in let firsts = c.loop-content.firsts.held in let notes = c.loop-content.notes.items in
    let ended : drop at (cuts_in options flush) ≡ [] = elim c.match-get.branch [
      | in_default w ↦ no_cut_past_choices options flush.contents flush.choices at (sym w.in_default.ensures'')
      | in_default-2 w ↦
          no_cut_past_contents options flush.contents flush.choices at
          (none_of_map print_of flush.contents at (ap (λ xs. slice_get xs at) (sym c.requires) ∙ sym w.in_default.ensures'))
      | in_default-3 w ↦ no_cut_past_contents options flush.contents flush.choices at (sym w.in_default.ensures)
    ] in
    sym (append-nil notes)
    ∙ ap (λ (xs : List Cut). notes ++ notes_from stocked firsts at xs) (sym ended)
    ∙ c.loop-content.invariant.notes
