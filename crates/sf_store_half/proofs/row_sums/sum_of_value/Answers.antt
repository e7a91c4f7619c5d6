use Rattle.std.proofs.Common.{◌≡◌, ◌≤◌, length, ℕ, ◌+◌, ◌-◌, List, ◌++◌, sym, ap, subst, ◌∙◌, arith}
use Rattle.std.specs.Prelude.{take, drop}
use Rattle.std.proofs.lemmas.List.{length-append, length-drop, length-map, length-take-le, take-append-le, take_all}
use Rattle.std.proofs.Math.Seq.{take-add}
use Rattle.sha2.specs.Hashers.{Holds256}
use Rattle.sf_types.specs.Values.Marks.{size_of, strip}
use Rattle.sf_chunk_map.specs.Contents.{window}
use Rattle.sf_store_half.proofs.row_sums.sum_of_value.Goals as goal

window_size : (at count : ℕ) (bytes : List ℕ) → at + count ≤ length bytes → length (window at count bytes) ≡ count
window_size at count bytes fits = let left : length (drop at bytes) ≡ length bytes - at = length-drop at bytes in length-take-le count (drop at bytes) (omega (arith, left, fits))

-- so many items of a window, and of all that is behind it
front : (at count : ℕ) (bytes rest : List ℕ) → at + count ≤ length bytes → take at bytes ++ take count (window at count bytes ++ rest) ≡ take (at + count) bytes
front at count bytes rest fits =
    let size = window_size at count bytes fits in
    let same : take count (window at count bytes) ≡ window at count bytes = ap (λ n. take n (window at count bytes)) (sym size) ∙ whole (window at count bytes) in
    ap (λ (xs : List ℕ). take at bytes ++ xs) (take-append-le count (window at count bytes) rest (omega (arith, size)) ∙ same) ∙ sym (take-add at count bytes)
  where
    whole : (xs : List ℕ) → take (length xs) xs ≡ xs
    whole xs = take_all (length xs) xs (omega arith)

pub loop-at-preserved : goal.loop-at-preserved
loop-at-preserved c =
    let bytes = strip c.args.map.now in
    let at = c.loop-at.at in
    let count = c.read_into-count.result in
    let is = c.read_into-count.ensures.count in
    let within = c.loop-at.invariant.within in
    let size : length bytes ≡ size_of c.args.map.now = length-map c.args.map.now.bytes _ in
    let fits : at + count ≤ size_of c.args.map.now = omega (arith, is, within) in
    record {
      within = fits;
      hashed = subst (Holds256 c.update.new.self) (ap (λ (xs : List ℕ). take at bytes ++ take count xs) c.read_into-count.ensures.bytes ∙ front at count bytes (drop count c.loop-at.buffer) (omega (arith, fits, size)))
          (c.update.ensures (take at bytes) c.loop-at.invariant.hashed);
      buffer =
          ap (λ (xs : List ℕ). length xs) c.read_into-count.ensures.bytes
          ∙ length-append (window at count bytes) (drop count c.loop-at.buffer)
          ∙ (let left = length-drop count c.loop-at.buffer in let most = window_size at count bytes (omega (arith, fits, size)) in let short : count ≤ length c.loop-at.buffer = omega (arith, is) in omega (arith, left, most, short))
          ∙ c.loop-at.invariant.buffer;
    }
