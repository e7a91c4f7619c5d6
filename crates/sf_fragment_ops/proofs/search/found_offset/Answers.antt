use Rattle.std.proofs.Common.{ℕ, ◌-◌, List, ◌∙◌, subst, arith}
use Rattle.std.proofs.lemmas.List.{length-map}
use Rattle.sf_types.specs.Values.Marks.{Marked, strip}
use Rattle.memchr.specs.Find.{FindsNeedle}
use Rattle.sf_fragment_ops.proofs.SearchLemmas.{offset_of_first, offset_of_none, none_past_end, none_longer}
use Rattle.sf_fragment_ops.proofs.search.found_offset.Goals.{then-len-offset-via-then-len-offset, then-len-offset-via-else-len-offset+then-len}
use Rattle.sf_fragment_ops.proofs.search.found_offset.Goals as goal

pub returns-then-len-offset : goal.returns-then-len-offset
returns-then-len-offset c =
    let value = c.args.value.now in
    let len = length-map value.bytes (λ (m : Marked). m.byte) in
    elim c.then-len-offset.branch [
      | then-len-offset-via-then-len-offset w ↦
          none_past_end (strip value) c.args.pattern.now c.args.offset c.requires.some c.requires.offset (omega (arith, w.if-len-offset.true, c.len.ensures.len, len))
      | then-len-offset-via-else-len-offset+then-len w ↦
          none_longer (strip value) c.args.pattern.now c.args.offset c.requires.some c.requires.offset
          (omega (arith, w.if-len.true, w.len-else-len-offset.ensures.len, w.len-else-len-offset-2.ensures, len))
    ]

pub returns-in-Some : goal.returns-in-Some
returns-in-Some c =
    let bytes = strip c.args.value.now in
    let found = subst (λ (p : List ℕ). FindsNeedle bytes p (c.args.offset - 1) c.first_place.result) (c.new-finder.ensures ∙ c.as_bytes.ensures) c.first_place.ensures in
    let first = subst (FindsNeedle bytes c.args.pattern.now (c.args.offset - 1)) c.in-Some.is found in
    offset_of_first bytes c.args.pattern.now c.args.offset c.in-Some.place c.requires.some c.requires.offset first

pub returns : goal.returns
returns c =
    let bytes = strip c.args.value.now in
    let found = subst (λ (p : List ℕ). FindsNeedle bytes p (c.args.offset - 1) c.first_place.result) (c.new-finder.ensures ∙ c.as_bytes.ensures) c.first_place.ensures in
    let none = subst (FindsNeedle bytes c.args.pattern.now (c.args.offset - 1)) c.in-None.is found in
    offset_of_none bytes c.args.pattern.now c.args.offset c.requires.some c.requires.offset none
