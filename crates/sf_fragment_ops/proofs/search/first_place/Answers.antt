use Rattle.std.proofs.Common.{◌≡◌, ℕ, ◌+◌, ◌-◌, List, Option, length, ap, sym, ◌∙◌, subst, arith}
use Rattle.std.proofs.lemmas.List.{length-map}
use Rattle.sf_types.specs.Values.Marks.{Marked, strip}
use Rattle.memchr.specs.Find.{FindsNeedle, OccursAt, Nowhere}
use Rattle.sf_chunk_map.specs.Contents.{window}
use Rattle.sf_fragment_ops.proofs.SearchLemmas.{nowhere_more, first_beyond, nowhere_behind}
use Rattle.sf_fragment_ops.proofs.search.first_place.Goals as goal

pub overflow_add-at : goal.overflow_add-at
overflow_add-at c =
    omega (arith, c.loop-at.invariant.most, c.requires.fits, c.len-size.ensures.len, c.len-size.ensures.most, ap (λ (xs : List ℕ). length xs) c.needle.ensures)

pub returns-in-Some : goal.returns-in-Some
returns-in-Some c =
    let bytes = strip c.args.value.now in
    let look = c.look_at-look.result in
    let found = subst (λ (r : Option ℕ). FindsNeedle (window c.loop-at.at look.count bytes) c.args.finder.now 0 r) c.in-Some.is c.look_at-look.ensures.look.found in
    first_beyond bytes c.args.finder.now c.args.start c.loop-at.at look.count c.in-Some.index c.look_at-look.ensures.look.within c.loop-at.invariant.least c.loop-at.invariant.before found.0 found.1

pub loop-at-preserved : goal.loop-at-preserved
loop-at-preserved c =
    let value = c.args.value.now in
    let bytes = strip value in
    let pattern = c.args.finder.now in
    let look = c.look_at-look.result in
    let needle : length c.needle.result.now ≡ length pattern = ap (λ (xs : List ℕ). length xs) c.needle.ensures in
    let none = subst (λ (r : Option ℕ). FindsNeedle (window c.loop-at.at look.count bytes) pattern 0 r) c.in_default.is c.look_at-look.ensures.look.found in
    record {
      least = omega (arith, c.loop-at.invariant.least, c.look_at-look.ensures.look.room, needle);
      most = omega (
        arith,
        c.look_at-look.ensures.look.within,
        c.look_at-look.ensures.look.room,
        needle,
        c.requires.some,
        length-map value.bytes (λ (m : Marked). m.byte),
      );
      window = c.look_at-look.ensures.window ∙ c.loop-at.invariant.window;
      before = subst (λ (n : ℕ). Nowhere (OccursAt bytes pattern) c.args.start (c.loop-at.at + (look.count + 1 - n))) (sym needle)
          (nowhere_more bytes pattern c.args.start c.loop-at.at look.count c.look_at-look.ensures.look.within c.look_at-look.ensures.look.room c.loop-at.invariant.before none);
    }

pub returns : goal.returns
returns c =
    let value = c.args.value.now in
    nowhere_behind (strip value) c.args.finder.now c.args.start c.loop-at.at
    (omega (
      arith,
      c.loop-at-test.false,
      c.len-size.ensures.len,
      ap (λ (xs : List ℕ). length xs) c.needle.ensures,
      length-map value.bytes (λ (m : Marked). m.byte),
    ))
    c.loop-at.invariant.before
