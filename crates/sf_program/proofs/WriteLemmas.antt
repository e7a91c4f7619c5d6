-- A loop that writes a text.
use Rattle.std.proofs.Common.{◌≡◌, ℕ, List, [], ◌++◌, length, take, drop, Option, refl, sym, ap, ◌∙◌, append_assoc, arith}
use Rattle.std.proofs.lemmas.List.{append-nil, length-append, take_at, take-append-drop, nil_from_length}
use Rattle.sf_outside.specs.Sink.{GrowsBy}
use Rattle.sf_outside.proofs.SinkLemmas.{grows_by_nothing, grows_by_both}
use Rattle.sf_program.specs.Outputs.{GrowsByFront}

-- A front of the text was written, and the rest is left.
pub record IsWritten (before after : Option (List ℕ)) (faults now : ℕ) (text rest : List ℕ) : Type 0 where
  pub done : List ℕ
  pub parts : text ≡ done ++ rest
  pub grew : GrowsBy before after done
  pub steady : now ≡ faults

pub begins : (taken : Option (List ℕ)) (faults : ℕ) (text : List ℕ) → IsWritten taken taken faults faults text text
begins taken faults text = record { done = []; parts = refl; grew = grows_by_nothing taken; steady = refl }

-- one write goes on
pub written_further : (before between after : Option (List ℕ)) (faults now then : ℕ) (text rest : List ℕ) (n : ℕ) → IsWritten before between faults now text rest → GrowsBy between after (take n rest) → then ≡ now → IsWritten before after faults then text (drop n rest)
written_further before between after faults now then text rest n written grew same = record {
  done = written.done ++ take n rest;
  parts = written.parts ∙ ap (λ (xs : List ℕ). written.done ++ xs) (sym (take-append-drop n rest)) ∙ sym (append_assoc written.done (take n rest) (drop n rest));
  grew = grows_by_both before between after written.done (take n rest) written.grew grew;
  steady = same ∙ written.steady;
}

-- a write that failed leaves a front
pub written_part : (before between : Option (List ℕ)) (faults now : ℕ) (text rest : List ℕ) → IsWritten before between faults now text rest → GrowsByFront before between text
written_part before between faults now text rest written =
    let front : take (length written.done) text ≡ written.done = ap (take (length written.done)) written.parts ∙ take_at written.done rest (length written.done) refl in
    (length written.done, omega (arith, ap length written.parts, length-append written.done rest), rw front written.grew)

-- no text is left
pub whole : (before after : Option (List ℕ)) (faults now : ℕ) (text rest : List ℕ) → IsWritten before after faults now text rest → length rest ≡ 0 → GrowsBy before after text
whole before after faults now text rest written none =
    let same : text ≡ written.done = written.parts ∙ ap (λ (xs : List ℕ). written.done ++ xs) (nil_from_length rest none) ∙ append-nil written.done in
    rw same written.grew
