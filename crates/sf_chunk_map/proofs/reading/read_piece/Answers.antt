use Rattle.std.proofs.Common.{◌≡◌, ℕ, ◌+◌, List, ◌++◌, length, take, drop, sym, ap, ◌∙◌, arith}
use Rattle.std.proofs.lemmas.List.{length-drop, length-map}
use Rattle.sf_types.specs.Values.Marks.{Marked, bytes_in}
use Rattle.sf_chunk_map.specs.declared.parts.Piece.{Piece}
use Rattle.sf_chunk_map.specs.Contents.{window}
use Rattle.sf_chunk_map.specs.Pieces.{marked_of}
use Rattle.sf_chunk_map.proofs.PieceLemmas.{bytes_stored, bytes_of_fresh, rest_of, zeros_in_window}
use Rattle.sf_chunk_map.proofs.reading.read_piece.Goals as goal

pub returns-in-Stored-clause-count : goal.returns-in-Stored-clause-count
returns-in-Stored-clause-count c =
    let xs = c.as_bytes.result.now in
    let marked = marked_of c.args.piece.now in
    let bytes : xs ≡ bytes_in marked = c.as_bytes.ensures ∙ sym (bytes_stored c.in-Stored.part) ∙ ap (λ (p : Piece). bytes_in (marked_of p)) (sym c.in-Stored.is) in
    omega (arith, c.copy_at.ensures.count, ap (λ (zs : List ℕ). length zs) (rest_of c.args.from xs), length-drop c.args.from xs, ap (λ (zs : List ℕ). length zs) bytes, length-map marked (λ (m : Marked). m.byte))

pub returns-in-Stored-clause-bytes : goal.returns-in-Stored-clause-bytes
returns-in-Stored-clause-bytes c =
    let xs = c.as_bytes.result.now in
    let n = c.copy_at.result in
    let bytes : xs ≡ bytes_in (marked_of c.args.piece.now) = c.as_bytes.ensures ∙ sym (bytes_stored c.in-Stored.part) ∙ ap (λ (p : Piece). bytes_in (marked_of p)) (sym c.in-Stored.is) in
    c.copy_at.ensures.bytes
    ∙ ap (λ (zs : List ℕ). take c.args.at c.args.into.now ++ (take n zs ++ drop (c.args.at + n) c.args.into.now)) (rest_of c.args.from xs ∙ ap (drop c.args.from) bytes)

pub returns-in-Zero-clause-bytes : goal.returns-in-Zero-clause-bytes
returns-in-Zero-clause-bytes c =
    let n = c.zero_at.result in
    let len = c.in-Zero.part in
    c.zero_at.ensures.bytes
    ∙ ap (λ (zs : List ℕ). take c.args.at c.args.into.now ++ (zs ++ drop (c.args.at + n) c.args.into.now))
    (zeros_in_window c.args.from n len (omega (arith, c.zero_at.ensures.count, c.len.ensures.len))
    ∙ ap (λ (p : Piece). window c.args.from n (bytes_in (marked_of p))) (sym c.in-Zero.is))

pub returns-in-Fresh-clause-bytes : goal.returns-in-Fresh-clause-bytes
returns-in-Fresh-clause-bytes c =
    let xs = c.as_bytes-in-Fresh.result.now in
    let n = c.copy_at-in-Fresh.result in
    let bytes : xs ≡ bytes_in (marked_of c.args.piece.now) = c.as_bytes-in-Fresh.ensures ∙ sym (bytes_of_fresh c.in-Fresh.part) ∙ ap (λ (p : Piece). bytes_in (marked_of p)) (sym c.in-Fresh.is) in
    c.copy_at-in-Fresh.ensures.bytes
    ∙ ap (λ (zs : List ℕ). take c.args.at c.args.into.now ++ (take n zs ++ drop (c.args.at + n) c.args.into.now)) (rest_of c.args.from xs ∙ ap (drop c.args.from) bytes)
