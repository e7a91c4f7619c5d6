use Rattle.std.proofs.Common.{◌∙◌, ⊎_elim, ap, sym}
use Rattle.std.proofs.lemmas.List.{take_all}
use Rattle.sf_dedup.specs.Contents.{has_content}
use Rattle.sf_types.specs.Play.Blocks.{is_among}
use Rattle.sf_dedup.specs.Inside.Filing.{}
use Rattle.sf_dedup.proofs.FilingLemmas.{among-next}
use Rattle.sf_dedup.proofs.index.Index.find_among.Goals as goal

pub loop-birth-init : goal.loop-birth-init
loop-birth-init c birth bad = absurd cc

pub loop-birth-preserved : goal.loop-birth-preserved
loop-birth-preserved c birth among =
    ⊎_elim
    (λ before. c.loop-birth.invariant birth before)
    (λ same. ap (λ b. has_content c.args.self.now.held b c.args.content.now) same ∙ sym c.has_content.ensures ∙ c.if-has_content.false)
    (among-next c.args.births.now c.loop-birth.birth-index birth c.loop-birth-test.true among)

pub returns-clause-none : goal.returns-clause-none
returns-clause-none c birth among =
    c.loop-birth.invariant birth (ap (λ xs. is_among xs birth) (take_all c.loop-birth.birth-index c.args.births.now c.loop-birth-test.false) ∙ among)
