-- A printed option's line is read as what it sets, and a printed sessions line as its number.
use Rattle.std.proofs.Common.{◌≡◌, ℕ, ◌^◌, ◌<◌, ◌≤◌, false, ◌∷◌, ◌++◌, Some, refl}
use Rattle.std.specs.Prelude.{codes}
use Rattle.std.specs.Fmt.{decimal}
use Rattle.sf_script.specs.declared.option_line.OptionLine.TheVariants.{Capacity, Dedup, Retention, RetentionMax, Gather, Dispensers}
use Rattle.sf_script.specs.LineForms.{SetsOption, SessionsLine, option_line}
use Rattle.sf_script.specs.OptionLines.{option_of}
use Rattle.sf_script_calls.specs.Words.{is_word}
use Rattle.sf_script_print.proofs.NumberTextLemmas.{read_number}
use Rattle.sf_script_print.proofs.ScheduleLemmas.{not_digits}
use Rattle.sf_script_print.proofs.WordLemmas.{cut_again}

pub capacity_read : (number : ℕ) → 1 ≤ number → number < 2 ^ 64 → option_line (codes "capacity" ++ 32 ∷ decimal number) ≡ Some (SetsOption (Capacity number))
unfolding option_line option_of is_word
capacity_read number some small = rw (cut_again (codes "capacity") (decimal number) refl, read_number number some small) refl

pub dedup_read : option_line (codes "dedup off") ≡ Some (SetsOption (Dedup false))
unfolding option_line option_of is_word
dedup_read = rw (cut_again (codes "dedup") (codes "off") refl) refl

pub retention_read : (number : ℕ) → 1 ≤ number → number < 2 ^ 64 → option_line (codes "retention" ++ 32 ∷ decimal number) ≡ Some (SetsOption (Retention number))
unfolding option_line option_of is_word
retention_read number some small = rw (cut_again (codes "retention") (decimal number) refl, not_digits (codes "max") number small refl, read_number number some small) refl

pub retention_max_read : option_line (codes "retention max") ≡ Some (SetsOption RetentionMax)
unfolding option_line option_of is_word
retention_max_read = rw (cut_again (codes "retention") (codes "max") refl) refl

pub gather_read : (number : ℕ) → 1 ≤ number → number < 2 ^ 64 → option_line (codes "gather" ++ 32 ∷ decimal number) ≡ Some (SetsOption (Gather number))
unfolding option_line option_of is_word
gather_read number some small = rw (cut_again (codes "gather") (decimal number) refl, read_number number some small) refl

pub dispensers_read : (number : ℕ) → 1 ≤ number → number < 2 ^ 64 → option_line (codes "dispensers" ++ 32 ∷ decimal number) ≡ Some (SetsOption (Dispensers number))
unfolding option_line option_of is_word
dispensers_read number some small = rw (cut_again (codes "dispensers") (decimal number) refl, read_number number some small) refl

pub sessions_read : (number : ℕ) → 1 ≤ number → number < 2 ^ 64 → option_line (codes "sessions" ++ 32 ∷ decimal number) ≡ Some (SessionsLine number)
unfolding option_line is_word
sessions_read number some small = rw (cut_again (codes "sessions") (decimal number) refl, read_number number some small) refl
