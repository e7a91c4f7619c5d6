use Rattle.std.proofs.Common.{◌≡◌, ◌∙◌, ap, sym, subst, true, Some, Option, ℕ}
use Rattle.std.specs.Prelude.{IfSome, IfNone}
use Rattle.std.specs.Option.{option_copied}
use Rattle.sf_dedup.specs.Contents.{has_content, birth_with}
use Rattle.sf_dedup.specs.Inside.Filing.{plain_contents, first_at, NoneHas}
use Rattle.sf_dedup.proofs.ContentLemmas.{birth_is_found, content_from_has}
use Rattle.sf_dedup.proofs.FilingLemmas.{sorted_contents, among_found}
use Rattle.sf_dedup.proofs.index.Index.find.Goals as goal
use Rattle.sf_dedup.proofs.index.Index.find.Goals.{in_default-via-in-Some+else-has_content, in_default-via-in_default}

some : (a b : ℕ) → ◌≡◌ {A = Option ℕ} (Some a) (Some b) → a ≡ b
some a b is = cc

pub returns-in-Some : goal.returns-in-Some
returns-in-Some c =
    let contents = plain_contents c.self.inside.contents.held in
    let is = ap (λ v. v.held) c.self.view_is in
    let bytes = c.args.content.now in
    sym (ap (λ own. birth_with own bytes) (sym is)
    ∙ birth_is_found contents c.in-Some.birth.now bytes (sorted_contents c.self.inside.contents.held c.self.invariant.rising) c.self.invariant.apart
    (content_from_has contents c.in-Some.birth.now bytes (ap (λ own. has_content own c.in-Some.birth.now bytes) is ∙ sym c.has_content.ensures ∙ c.if-has_content.true)))

pub returns-in_default : goal.returns-in_default
returns-in_default c =
    let m = c.self.inside.contents.held in
    let firsts = c.self.inside.firsts.held in
    let is = ap (λ v. v.held) c.self.view_is in
    let bytes = c.args.content.now in
    let sum = ap (λ p. p.sum) (sym c.requires) in
    among_found m firsts c.self.inside.others.items bytes c.find_among.result c.self.invariant
    (λ first under.
    let at = c.get.ensures ∙ ap (first_at firsts) (sym sum) ∙ under in
    elim c.in_default.branch [
      | in_default-via-in-Some+else-has_content w ↦
          let same = some w.in-Some.birth.now first (ap option_copied (sym w.in-Some.is) ∙ at) in
          ap (λ own. has_content own first bytes) is ∙ ap (λ b. has_content c.args.self.now.held b bytes) (sym same) ∙ sym w.has_content.ensures ∙ w.if-has_content.false
      | in_default-via-in_default w ↦ absurd (let bad = ap option_copied (sym w.in_default.is) ∙ at in cc)
    ])
    (subst (λ own. IfSome c.find_among.result (λ birth. has_content own birth bytes ≡ true)) (sym is) c.find_among.ensures.found)
    (subst (λ own. IfNone c.find_among.result (NoneHas own c.self.inside.others.items bytes)) (sym is) (subst (λ others. IfNone c.find_among.result (NoneHas c.args.self.now.held others bytes)) c.as_slice.ensures.value c.find_among.ensures.none))
    ∙ ap (λ own. birth_with own bytes) is
