use Rattle.std.proofs.Common.{◌≡◌, ℕ, List, [], ◌∷◌, ◌++◌, ◌+◌, drop, sym, ap, ◌∙◌, append_assoc}
use Rattle.std.specs.Prelude.{slice_get}
use Rattle.std.proofs.lemmas.List.{append-nil}
use Rattle.sf_types.specs.Space.Cuts.{Cut}
use Rattle.sf_dedup.specs.Prints.{print_of}
use Rattle.sf_versions.specs.Asks.{cuts_with}
use Rattle.sf_store_half.specs.Inside.CutNotes.{cut_of}
use Rattle.sf_store_half.proofs.FlushLemmas.{next_cut, no_cut_past_choices, no_cut_past_contents, none_of_map}
use Rattle.sf_store_half.proofs.printed_cuts.printed_cuts.Goals as goal
use Rattle.sf_store_half.proofs.printed_cuts.printed_cuts.Goals.{in_default, in_default-2, in_default-3}

pub loop-content-preserved : goal.loop-content-preserved
loop-content-preserved c =
    let options = c.args.options.now in let at = c.loop-content.at in
    let here = c.in-Some-Some-Some in
    let contents = c.args.contents.now in
    let choices = c.args.choices.now in
    let cut : Cut = cut_of here.content.now c.is_sharing.result in
    let rest : List Cut = drop (at + 1) (cuts_with options contents choices) in
    let next : drop at (cuts_with options contents choices) ≡ cut ∷ rest =
    next_cut options contents choices at here.content.now here.choice.now (sym here.ensures) (sym here.ensures'')
    ∙ ap (λ t. cut_of here.content.now t ∷ rest) (sym c.is_sharing.ensures) in
    ap (λ (xs : List Cut). xs ++ rest) c.in_ok-push.ensures.items
    ∙ append_assoc c.loop-content.cuts.items (cut_of c.in_ok-copy.field-0 c.is_sharing.result ∷ []) rest
    ∙ ap (λ (bytes : List ℕ). c.loop-content.cuts.items ++ cut_of bytes c.is_sharing.result ∷ rest) c.in_ok-copy.ensures
    ∙ ap (λ (xs : List Cut). c.loop-content.cuts.items ++ xs) (sym next)
    ∙ c.loop-content.invariant

pub returns : goal.returns
returns c = sym (append-nil c.loop-content.cuts.items) ∙ ap (λ (xs : List Cut). c.loop-content.cuts.items ++ xs) (sym ended) ∙ c.loop-content.invariant
  where
    ended : drop c.loop-content.at (cuts_with c.args.options.now c.args.contents.now c.args.choices.now) ≡ []
    ended = elim c.match-get.branch [
      | in_default w ↦ no_cut_past_choices c.args.options.now c.args.contents.now c.args.choices.now c.loop-content.at (sym w.in_default.ensures'')
      | in_default-2 w ↦
          no_cut_past_contents c.args.options.now c.args.contents.now c.args.choices.now c.loop-content.at
          (none_of_map print_of c.args.contents.now c.loop-content.at (ap (λ xs. slice_get xs c.loop-content.at) (sym c.requires) ∙ sym w.in_default.ensures'))
      | in_default-3 w ↦ no_cut_past_contents c.args.options.now c.args.contents.now c.args.choices.now c.loop-content.at (sym w.in_default.ensures)
    ]
