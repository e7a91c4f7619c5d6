use Rattle.std.proofs.Common.{◌≡◌, ◌+◌, ◌≤◌, List, ◌++◌, length, take, sym, ap, ◌∙◌, arith}
use Rattle.std.proofs.lemmas.List.Concat.{flat_map-append}
use Rattle.sf_types.specs.Values.Marks.{Marked}
use Rattle.sf_chunk_map.specs.declared.parts.Piece.{Piece}
use Rattle.sf_chunk_map.specs.Pieces.{marked_of, marked_in, fresh_in}
use Rattle.sf_chunk_map.specs.Inside.Counts.{bytes_of_birth}
use Rattle.sf_chunk_map.specs.Inside.Settling.{births_of}
use Rattle.sf_chunk_map.proofs.PieceLemmas.{fresh_of_pieces}
use Rattle.sf_chunk_map.proofs.BirthLemmas.{birth-append}
use Rattle.sf_chunk_map.proofs.SegmentLemmas.{settled-none}
use Rattle.sf_chunk_map.proofs.SettleLemmas.{stretch, room, step, ready-none}
use Rattle.sf_chunk_map.proofs.settling.settled.Goals as goal

pub split_pieces-others-requires : goal.split_pieces-others-requires
split_pieces-others-requires c =
    (stretch c.loop-rest.done c.loop-rest.rest c.loop-rest.unused c.split_light-behind.new.self c.split_light-behind.result c.pop_fresh-len.new.tree c.pop_fresh-len.result c.div_ceil.result
    c.loop-rest.invariant.ready c.split_light-behind.ensures.units c.split_light-behind.ensures.light c.split_light-behind.ensures.weighty c.pop_fresh-len.ensures.front c.pop_fresh-len.ensures.ended c.div_ceil.ensures).enough

pub append-requires-in-loop-rest : goal.append-requires-in-loop-rest
append-requires-in-loop-rest c =
    let most : length (marked_in c.append.new.self) + length (marked_in c.split_pieces-others.new.self) ≤ length (marked_in c.loop-rest.done) + length (marked_in c.loop-rest.rest) =
    room c.loop-rest.done c.loop-rest.rest c.loop-rest.unused c.split_light-behind.new.self c.split_light-behind.result c.pop_fresh-len.new.tree c.pop_fresh-len.result c.div_ceil.result
    c.loop-rest.invariant.ready c.split_light-behind.ensures.units c.split_light-behind.ensures.light c.split_light-behind.ensures.weighty c.pop_fresh-len.ensures.front c.pop_fresh-len.ensures.ended c.div_ceil.ensures
    c.append.new.self c.split_pieces-others.new.self c.append.ensures c.split_pieces-others.ensures.first in
    omega (arith, most, c.loop-rest.invariant.size, c.requires.most)

pub loop-rest-smaller : goal.loop-rest-smaller
loop-rest-smaller c =
    let done_is : c.append-in-loop-rest.new.self ≡ (c.loop-rest.done ++ c.split_light-behind.new.self) ++ take c.div_ceil.result c.loop-rest.unused =
    c.append-in-loop-rest.ensures
    ∙ ap (λ (ps : List Piece). ps ++ c.split_pieces-others.new.self) c.append.ensures
    ∙ ap (λ (ps : List Piece). (c.loop-rest.done ++ c.split_light-behind.new.self) ++ ps) c.split_pieces-others.ensures.first in
    let after = step c.loop-rest.done c.loop-rest.rest c.loop-rest.unused c.split_light-behind.new.self c.split_light-behind.result c.pop_fresh-len.new.tree c.pop_fresh-len.result c.div_ceil.result
    c.loop-rest.invariant.ready c.split_light-behind.ensures.units c.split_light-behind.ensures.light c.split_light-behind.ensures.weighty c.pop_fresh-len.ensures.front c.pop_fresh-len.ensures.ended c.div_ceil.ensures
    c.append-in-loop-rest.new.self c.split_pieces-others.result done_is c.split_pieces-others.ensures.second in
    after.fewer

pub loop-rest-preserved : goal.loop-rest-preserved
loop-rest-preserved c =
    let done_is : c.append-in-loop-rest.new.self ≡ (c.loop-rest.done ++ c.split_light-behind.new.self) ++ take c.div_ceil.result c.loop-rest.unused =
    c.append-in-loop-rest.ensures
    ∙ ap (λ (ps : List Piece). ps ++ c.split_pieces-others.new.self) c.append.ensures
    ∙ ap (λ (ps : List Piece). (c.loop-rest.done ++ c.split_light-behind.new.self) ++ ps) c.split_pieces-others.ensures.first in
    let after = step c.loop-rest.done c.loop-rest.rest c.loop-rest.unused c.split_light-behind.new.self c.split_light-behind.result c.pop_fresh-len.new.tree c.pop_fresh-len.result c.div_ceil.result
    c.loop-rest.invariant.ready c.split_light-behind.ensures.units c.split_light-behind.ensures.light c.split_light-behind.ensures.weighty c.pop_fresh-len.ensures.front c.pop_fresh-len.ensures.ended c.div_ceil.ensures
    c.append-in-loop-rest.new.self c.split_pieces-others.result done_is c.split_pieces-others.ensures.second in
    record {
      ready = after.ready;
      bytes = after.bytes ∙ c.loop-rest.invariant.bytes;
      size = after.size ∙ c.loop-rest.invariant.size;
      counts = λ b. after.counts b ∙ c.loop-rest.invariant.counts b;
    }

pub returns-clause-bytes : goal.returns-clause-bytes
returns-clause-bytes c =
    let none : fresh_in (marked_in c.loop-rest.rest) ≡ 0 = omega (arith, fresh_of_pieces c.loop-rest.rest, c.weight.ensures.weight, c.loop-rest-test.false) in
    ap (λ (ps : List Piece). marked_in ps) c.append-2.ensures
    ∙ flat_map-append marked_of c.loop-rest.done c.loop-rest.rest
    ∙ ap (λ (ms : List Marked). marked_in c.loop-rest.done ++ ms) (sym (settled-none (marked_in c.loop-rest.rest) (births_of c.loop-rest.unused) none))
    ∙ c.loop-rest.invariant.bytes

pub returns-clause-counts : goal.returns-clause-counts
returns-clause-counts c b =
    let none : fresh_in (marked_in c.loop-rest.rest) ≡ 0 = omega (arith, fresh_of_pieces c.loop-rest.rest, c.weight.ensures.weight, c.loop-rest-test.false) in
    omega (
      arith,
      c.loop-rest.invariant.counts b,
      ap (λ (ps : List Piece). bytes_of_birth b (marked_in ps)) c.append-2.ensures,
      ap (bytes_of_birth b) (flat_map-append marked_of c.loop-rest.done c.loop-rest.rest),
      birth-append b (marked_in c.loop-rest.done) (marked_in c.loop-rest.rest),
      ap (λ (ps : List Piece). bytes_of_birth b (marked_in ps)) (ready-none c.loop-rest.unused (marked_in c.loop-rest.rest) c.loop-rest.invariant.ready none),
    )
