use Rattle.std.proofs.Common.{◌≡◌, ℕ, ◌≤◌, List, length, map, ap, ◌∙◌, subst, arith}
use Rattle.sf_types.specs.declared.limits.TheConstants.{OBJECT_BYTES}
use Rattle.sf_types.specs.Values.Marks.{Marked, Value}
use Rattle.sf_types.specs.Space.Cuts.{settle_value}
use Rattle.sf_chunk_map.specs.declared.parts.Piece.{Piece}
use Rattle.sf_chunk_map.specs.Pieces.{marked_in}
use Rattle.sf_chunk_map.specs.Inside.Counts.{bytes_of_birth}
use Rattle.sf_chunk_map.specs.Inside.Settling.{settled_in, births_of}
use Rattle.sf_chunk_map.proofs.TreeLemmas.{birth-most}
use Rattle.sf_chunk_map.proofs.SegmentLemmas.{fresh-most}
use Rattle.sf_chunk_map.proofs.SettleLemmas.{birth_of, births_whole, ready-size}
use Rattle.sf_chunk_map.proofs.map.Map.settle_in.Goals as goal

pub whole_pieces-requires : goal.whole_pieces-requires
whole_pieces-requires c =
    let bytes = c.args.self.now.bytes in
    omega (arith, ready-size c.args.chunks.now bytes c.requires, fresh-most bytes, c.len-len.ensures.len, c.len-len.ensures.most)

pub raise_pieces-requires-clause-few : goal.raise_pieces-requires-clause-few
raise_pieces-requires-clause-few c b =
    let bytes = c.args.self.now.bytes in
    let ready = c.in_ok-ready.ready in
    let few : length (marked_in ready) ≤ OBJECT_BYTES =
    omega (arith, ap (λ (ps : List Piece). length (marked_in ps)) c.in_ok-ready.ensures, ready-size c.args.chunks.now bytes c.requires, fresh-most bytes, c.len-len.ensures.len, c.len-len.ensures.most) in
    omega (arith, c.make_places.ensures.counts b, c.self.invariant.counts b, birth-most b (marked_in c.self.inside.tree), c.self.invariant.most, birth-most b (marked_in ready), few)

pub invariant_of-self-2 : goal.invariant_of-self-2
invariant_of-self-2 c = record {
  most = omega (arith, c.settled.ensures.size, ap (λ (ps : List Piece). length (marked_in ps)) c.replace-tree.ensures.value, c.self.invariant.most);
  counts = λ b. omega (
    arith,
    c.raise_pieces.ensures b,
    c.make_places.ensures.counts b,
    c.self.invariant.counts b,
    c.settled.ensures.counts b,
    ap (λ (ps : List Piece). bytes_of_birth b (marked_in ps)) c.replace-tree.ensures.value,
  );
}

pub returns-clause-ok : goal.returns-clause-ok
returns-clause-ok c =
    let births : births_of c.in_ok-ready.ready ≡ map birth_of c.args.chunks.now = ap (λ (ps : List Piece). births_of ps) c.in_ok-ready.ensures ∙ births_whole c.args.chunks.now in
    let bytes : marked_in c.settled.result ≡ settled_in (marked_in c.self.inside.tree) (map birth_of c.args.chunks.now) =
    c.settled.ensures.bytes
    ∙ ap (λ (ps : List Piece). settled_in (marked_in ps) (births_of c.in_ok-ready.ready)) c.replace-tree.ensures.value
    ∙ ap (λ (bs : List ℕ). settled_in (marked_in c.self.inside.tree) bs) births in
    subst (λ (v : Value). record { bytes = marked_in c.settled.result; choice = c.self.inside.choice } ≡ settle_value v (map birth_of c.args.chunks.now)) c.self.view_is
    (ap (λ (ms : List Marked). record { bytes = ms; choice = c.self.inside.choice }) bytes)
