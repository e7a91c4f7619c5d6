-- Words that a space ends, and the texts that they were cut from.
use Rattle.std.proofs.Common.{◌≡◌, ℕ, suc, ◌+◌, Bool, true, false, not, cond, List, [], ◌∷◌, ◌++◌, length, take, drop, get_or, Some, refl, sym, ap, ◌∙◌, arith}
use Rattle.std.specs.List.{list_all, position_or_len}
use Rattle.std.proofs.Math.Seq.{take-append_seam, drop-append-add}
use Rattle.std.proofs.lemmas.Bool.{and_parts, ltb-true, lt-ltb}
use Rattle.std.proofs.lemmas.List.{length-append}
use Rattle.std.proofs.lemmas.List.Sums.{split_at_first, passes_at_first}
use Rattle.std.proofs.lemmas.Option.{cond_some}
use Rattle.std.proofs.lemmas.Slice.Eq.{bytes_eq-Decides}
use Rattle.sf_types.specs.Values.Names.{is_name, name_of}
use Rattle.sf_types.proofs.NumberLemmas.{same_number}
use Rattle.sf_script_calls.specs.Words.{is_space, has_space, first_word, word_at, is_word}

-- a byte of a word
abbrev pub is_word_byte : ℕ → Bool
is_word_byte byte = not (is_space byte)

-- a space behind a word is the first
space_after : (word rest : List ℕ) → list_all is_word_byte word ≡ true → position_or_len is_space (word ++ 32 ∷ rest) ≡ length word
space_after [] rest is = refl
space_after (byte ∷ word) rest is =
    let p = and_parts (is_word_byte byte) (list_all is_word_byte word) is in
    rw p.0 (omega (arith, space_after word rest p.1))

-- no space stands before the first
before : (test : Bool) (byte : ℕ) (text : List ℕ) → is_word_byte byte ≡ test → list_all is_word_byte (take (position_or_len is_space text) text) ≡ true
    → list_all is_word_byte (take (cond test (1 + position_or_len is_space text) 0) (byte ∷ text)) ≡ true
before true byte text is others =
    let e : 1 + position_or_len is_space text ≡ suc (position_or_len is_space text) = omega arith in
    rw e (rw is others)
before false byte text is others = refl

no_space_before : (text : List ℕ) → list_all is_word_byte (take (position_or_len is_space text) text) ≡ true
no_space_before [] = refl
no_space_before (byte ∷ text) = before (is_word_byte byte) byte text refl (no_space_before text)

-- a text that is cut behind its first word
pub record IsCut (text word rest : List ℕ) : Type 0 where
  pub whole : text ≡ word ++ 32 ∷ rest
  pub first : first_word text ≡ word
  pub again : (other : List ℕ) → word_at (word ++ 32 ∷ other) ≡ Some (word, other)
  pub first_again : (other : List ℕ) → first_word (word ++ 32 ∷ other) ≡ word

pub first_of_cut : (word other : List ℕ) → list_all is_word_byte word ≡ true → first_word (word ++ 32 ∷ other) ≡ word
first_of_cut word other is = rw (space_after word other is) (take-append_seam word (32 ∷ other))

pub cut_again : (word other : List ℕ) → list_all is_word_byte word ≡ true → word_at (word ++ 32 ∷ other) ≡ Some (word, other)
unfolding word_at
cut_again word other is =
    let at = space_after word other is in
    let has : has_space (word ++ 32 ∷ other) ≡ true = lt-ltb (position_or_len is_space (word ++ 32 ∷ other)) (length (word ++ 32 ∷ other)) (omega (arith, at, length-append word (32 ∷ other))) in
    let behind : drop (position_or_len is_space (word ++ 32 ∷ other) + 1) (word ++ 32 ∷ other) ≡ other = rw at (drop-append-add word (32 ∷ other) 1) in
    rw has (ap (λ (w : List ℕ). Some (w, drop (position_or_len is_space (word ++ 32 ∷ other) + 1) (word ++ 32 ∷ other))) (first_of_cut word other is) ∙ ap (λ (r : List ℕ). Some (word, r)) behind)

pub cut_of : (text word rest : List ℕ) → word_at text ≡ Some (word, rest) → IsCut text word rest
unfolding word_at
cut_of text word rest e =
    let p = cond_some (has_space text) (first_word text, drop (position_or_len is_space text + 1) text) (word, rest) e in
    let lt = ltb-true (position_or_len is_space text) (length text) p.0 in
    let at : first_word text ≡ word = ap (λ (x : List ℕ × List ℕ). x.0) p.1 in
    let behind : drop (position_or_len is_space text + 1) text ≡ rest = ap (λ (x : List ℕ × List ℕ). x.1) p.1 in
    let space : get_or text (position_or_len is_space text) 0 ≡ 32 = same_number _ 32 (passes_at_first is_space text 0 lt) in
    let parts = split_at_first is_space text 0 lt in
    let word_bytes : list_all is_word_byte word ≡ true = ap (list_all is_word_byte) (sym at) ∙ no_space_before text in
    record {
      whole = parts ∙ ap (λ (w : List ℕ). w ++ get_or text (position_or_len is_space text) 0 ∷ drop (position_or_len is_space text + 1) text) at
          ∙ ap (λ (b : ℕ). word ++ b ∷ drop (position_or_len is_space text + 1) text) space
          ∙ ap (λ (r : List ℕ). word ++ 32 ∷ r) behind;
      first = at;
      again = λ other. cut_again word other word_bytes;
      first_again = λ other. first_of_cut word other word_bytes;
    }

-- a word that is spelled so
pub spelled : (spelling word : List ℕ) → is_word spelling word ≡ true → word ≡ spelling
unfolding is_word
spelled spelling word is = (bytes_eq-Decides word spelling).0 is

-- a name is its text
pub name_is : (most : ℕ) (text name : List ℕ) → name_of most text ≡ Some name → text ≡ name
name_is most text name e = (cond_some (is_name most text) text name e).1
