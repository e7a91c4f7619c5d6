-- Option lines that were read, and the lines that are printed of the options.
use Rattle.std.proofs.Common.{◌≡◌, ℕ, ◌+◌, ◌^◌, ◌<◌, ◌≤◌, Bool, true, false, not, ◌||◌, cond, List, [], ◌∷◌, ◌++◌, length, Option, Some, None, Ok, refl, sym, ap, ◌∙◌, arith}
use Rattle.std.specs.Prelude.{codes, nat_le, nat_lt, is_none, ◌==◌}
use Rattle.std.specs.Fmt.{decimal}
use Rattle.std.specs.List.{list_all}
use Rattle.std.specs.Option.{option_map_or}
use Rattle.std.proofs.lemmas.Bool.{and_parts, ltb-true, lt-ltb}
use Rattle.std.proofs.lemmas.List.{length-append}
use Rattle.sf_types.specs.Limits.{standard_options}
use Rattle.sf_types.specs.declared.limits.TheConstants.{STORE_BLOCKS, RETAINED_COMMITS, LEAST_GATHER_BYTES, MOST_GATHER_BYTES, STORE_DISPENSERS}
use Rattle.sf_types.specs.declared.options.Options.{Options}
use Rattle.sf_types.proofs.NumberLemmas.{own_number, at_most}
use Rattle.sf_script.specs.declared.option_line.OptionLine.{OptionLine}
use Rattle.sf_script.specs.declared.option_line.OptionLine.TheVariants.{Capacity, Dedup, Retention, RetentionMax, Gather, Dispensers}
use Rattle.sf_script.specs.declared.reading.Reading.TheVariants as reads
use Rattle.sf_script.specs.LineForms.{LineForm, SetsOption, option_line}
use Rattle.sf_script.specs.Lines.{is_line_byte, lines_of}
use Rattle.sf_script.specs.OptionLines.{OptionParts, set_to, dedup_of, retention_of, option_of, option_rank, is_option_in_range, with_option, rank_of}
use Rattle.sf_script.specs.Parts.{ScriptParts}
use Rattle.sf_script.specs.Scripts.{script_from}
use Rattle.sf_script.specs.Reasons.{is_misplaced, names_no_session, form_passes_limit, with_option_read, after_form, after_line}
use Rattle.sf_script_calls.specs.Numbers.{is_digit, number_of}
use Rattle.sf_script_calls.specs.Words.{first_word, is_word}
use Rattle.sf_script_print.specs.Printing.{number_option, dedup_option, retention_option, printed_options}
use Rattle.sf_script_print.proofs.LinesReadLemmas.{lines_read}
use Rattle.sf_script_print.proofs.NumberTextLemmas.{number_text, is_of_digits}
use Rattle.sf_script_print.proofs.OptionLineLemmas.{capacity_read, dedup_read, retention_read, retention_max_read, gather_read, dispensers_read}
use Rattle.sf_script_print.proofs.PayloadSizeLemmas.{all_pass, both_all, digit_in_line}
use Rattle.sf_script_print.proofs.PayloadTextLemmas.{read_field}
use Rattle.sf_script_print.proofs.RightLineLemmas.{IsRight, no_reason, right_bytes}
use Rattle.sf_script_print.proofs.WordLemmas.{first_of_cut, spelled}

-- the line that sets an option
abbrev pub option_text : OptionLine → List ℕ
option_text (Capacity number) = codes "capacity" ++ 32 ∷ decimal number
option_text (Dedup true) = codes "dedup on"
option_text (Dedup false) = codes "dedup off"
option_text (Retention number) = codes "retention" ++ 32 ∷ decimal number
option_text RetentionMax = codes "retention max"
option_text (Gather number) = codes "gather" ++ 32 ∷ decimal number
option_text (Dispensers number) = codes "dispensers" ++ 32 ∷ decimal number

-- what a text behind an option's word sets
set_text : (make : ℕ → OptionLine) (front text : List ℕ) (option : OptionLine) → ((number : ℕ) → front ++ 32 ∷ decimal number ≡ option_text (make number)) → set_to make text ≡ Some option → front ++ 32 ∷ text ≡ option_text option
set_text make front text option same e =
    let n = read_field (number_of text) (λ number. Some (make number)) option e in
    let made : make n.item ≡ option = cc in
    ap (λ (t : List ℕ). front ++ 32 ∷ t) (number_text text n.item n.is).printed ∙ same n.item ∙ ap option_text made

dedup_text : (text : List ℕ) (option : OptionLine) → dedup_of text ≡ Some option → codes "dedup" ++ 32 ∷ text ≡ option_text option
dedup_text text option e = by_word (is_word (codes "on") text) (is_word (codes "off") text) refl refl e
  where
    by_word : (on off : Bool) → is_word (codes "on") text ≡ on → is_word (codes "off") text ≡ off → cond on (Some (Dedup true)) (cond off (Some (Dedup false)) None) ≡ Some option → codes "dedup" ++ 32 ∷ text ≡ option_text option
    by_word true off first second is = let same : Dedup true ≡ option = cc in ap (λ (t : List ℕ). codes "dedup" ++ 32 ∷ t) (spelled (codes "on") text first) ∙ ap option_text same
    by_word false true first second is = let same : Dedup false ≡ option = cc in ap (λ (t : List ℕ). codes "dedup" ++ 32 ∷ t) (spelled (codes "off") text second) ∙ ap option_text same
    by_word false false first second is = absurd cc

retention_text : (text : List ℕ) (option : OptionLine) → retention_of text ≡ Some option → codes "retention" ++ 32 ∷ text ≡ option_text option
retention_text text option e = by_word (is_word (codes "max") text) refl e
  where
    by_word : (test : Bool) → is_word (codes "max") text ≡ test → cond test (Some RetentionMax) (set_to Retention text) ≡ Some option → codes "retention" ++ 32 ∷ text ≡ option_text option
    by_word true first is = let same : RetentionMax ≡ option = cc in ap (λ (t : List ℕ). codes "retention" ++ 32 ∷ t) (spelled (codes "max") text first) ∙ ap option_text same
    by_word false first is = set_text Retention (codes "retention") text option (λ number. refl) is

behind_word : (spelling word text : List ℕ) (option : OptionLine) → is_word spelling word ≡ true → spelling ++ 32 ∷ text ≡ option_text option → word ++ 32 ∷ text ≡ option_text option
behind_word spelling word text option is e = ap (λ (w : List ℕ). w ++ 32 ∷ text) (spelled spelling word is) ∙ e

-- a line that was read as an option's is the line that sets the option
pub text_of_option : (word text : List ℕ) (option : OptionLine) → option_of word text ≡ Some option → word ++ 32 ∷ text ≡ option_text option
unfolding option_of
text_of_option word text option e = by_word (is_word (codes "capacity") word) (is_word (codes "dedup") word) (is_word (codes "retention") word) (is_word (codes "gather") word) (is_word (codes "dispensers") word) refl refl refl refl refl e
  where
    by_word : (capacity dedup retention gather dispensers : Bool) → is_word (codes "capacity") word ≡ capacity → is_word (codes "dedup") word ≡ dedup → is_word (codes "retention") word ≡ retention → is_word (codes "gather") word ≡ gather → is_word (codes "dispensers") word ≡ dispensers
        → cond capacity (set_to Capacity text) (cond dedup (dedup_of text) (cond retention (retention_of text) (cond gather (set_to Gather text) (cond dispensers (set_to Dispensers text) None)))) ≡ Some option
        → word ++ 32 ∷ text ≡ option_text option
    by_word true d r g p c1 d1 r1 g1 p1 is = behind_word (codes "capacity") word text option c1 (set_text Capacity (codes "capacity") text option (λ number. refl) is)
    by_word false true r g p c1 d1 r1 g1 p1 is = behind_word (codes "dedup") word text option d1 (dedup_text text option is)
    by_word false false true g p c1 d1 r1 g1 p1 is = behind_word (codes "retention") word text option r1 (retention_text text option is)
    by_word false false false true p c1 d1 r1 g1 p1 is = behind_word (codes "gather") word text option g1 (set_text Gather (codes "gather") text option (λ number. refl) is)
    by_word false false false false true c1 d1 r1 g1 p1 is = behind_word (codes "dispensers") word text option p1 (set_text Dispensers (codes "dispensers") text option (λ number. refl) is)
    by_word false false false false false c1 d1 r1 g1 p1 is = absurd cc

-- its place among the options
record HasRank (option : OptionLine) : Type 0 where
  rank : option_rank (first_word (option_text option)) ≡ rank_of option
  no_sessions : is_word (codes "sessions") (first_word (option_text option)) ≡ false

has_rank : (option : OptionLine) → HasRank option
unfolding option_rank is_word
has_rank (Capacity number) = let first = first_of_cut (codes "capacity") (decimal number) refl in record { rank = ap option_rank first; no_sessions = ap (is_word (codes "sessions")) first }
has_rank (Dedup true) = record { rank = refl; no_sessions = refl }
has_rank (Dedup false) = record { rank = refl; no_sessions = refl }
has_rank (Retention number) = let first = first_of_cut (codes "retention") (decimal number) refl in record { rank = ap option_rank first; no_sessions = ap (is_word (codes "sessions")) first }
has_rank RetentionMax = record { rank = refl; no_sessions = refl }
has_rank (Gather number) = let first = first_of_cut (codes "gather") (decimal number) refl in record { rank = ap option_rank first; no_sessions = ap (is_word (codes "sessions")) first }
has_rank (Dispensers number) = let first = first_of_cut (codes "dispensers") (decimal number) refl in record { rank = ap option_rank first; no_sessions = ap (is_word (codes "sessions")) first }

misplaced_option : (read : OptionParts) (option : OptionLine) → is_misplaced (reads.Options read) (option_text option) ≡ not (nat_lt read.rank (rank_of option) || false)
unfolding is_misplaced
misplaced_option read option = rw ((has_rank option).rank, (has_rank option).no_sessions) refl

pub later_rank : (read : OptionParts) (text : List ℕ) (option : OptionLine) → text ≡ option_text option → is_misplaced (reads.Options read) text ≡ false → read.rank < rank_of option
later_rank read text option same e = by_test (nat_lt read.rank (rank_of option)) refl (sym (misplaced_option read option) ∙ ap (is_misplaced (reads.Options read)) (sym same) ∙ e)
  where
    by_test : (test : Bool) → nat_lt read.rank (rank_of option) ≡ test → not (test || false) ≡ false → read.rank < rank_of option
    by_test true is e = ltb-true read.rank (rank_of option) is
    by_test false is e = absurd cc

-- an option may be set to this
pub record CanSet (option : OptionLine) : Type 0 where
  pub range : is_option_in_range option ≡ true

-- a printed option's line isn't refused
pub numbered_in_line : (word : List ℕ) (number : ℕ) → list_all is_line_byte word ≡ true → number < 2 ^ 64 → list_all is_line_byte (word ++ 32 ∷ decimal number) ≡ true
numbered_in_line word number all small = both_all is_line_byte word (32 ∷ decimal number) all (all_pass is_digit is_line_byte digit_in_line (decimal number) (is_of_digits number small))

pub record IsPrintedOption (option : OptionLine) : Type 0 where
  in_line : list_all is_line_byte (option_text option) ≡ true
  read : option_line (option_text option) ≡ Some (SetsOption option)

-- a printed option's line is read behind options that stand before it
pub option_again : (read : OptionParts) (option : OptionLine) (rest : List ℕ) (script : ScriptParts) (number : ℕ) → CanSet option → IsPrintedOption option → read.rank < rank_of option
    → script_from (number + 1) (reads.Options (with_option_read read option)) (lines_of rest) ≡ Ok script
    → script_from number (reads.Options read) (lines_of (option_text option ++ 10 ∷ rest)) ≡ Ok script
unfolding names_no_session form_passes_limit
option_again read option rest script number can is rank others =
    let reading = reads.Options read in
    let text = option_text option in
    let right : IsRight reading (record { text = text; ended = true }) = record {
      bytes = right_bytes text is.in_line;
      place = misplaced_option read option ∙ rw (lt-ltb read.rank (rank_of option) rank) refl;
      session = refl;
      form = ap (λ (o : Option LineForm). is_none o) is.read;
      limit = ap (λ (o : Option LineForm). option_map_or (form_passes_limit reading) o false) is.read ∙ ap not can.range;
    } in
    let after : after_line reading text ≡ reads.Options (with_option_read read option) = ap (λ (o : Option LineForm). option_map_or (after_form reading) o reading) is.read in
    lines_read number reading (reads.Options (with_option_read read option)) text rest script is.in_line (no_reason reading (record { text = text; ended = true }) right) after others

-- the lines that can be printed
pub printed_capacity : (number : ℕ) → is_option_in_range (Capacity number) ≡ true → IsPrintedOption (Capacity number)
printed_capacity number range =
    let p = and_parts (nat_le 1 number) (nat_le number STORE_BLOCKS) range in
    let some = at_most 1 number p.0 in
    let small : number < 2 ^ 64 = omega (arith, at_most number STORE_BLOCKS p.1) in
    record { in_line = numbered_in_line (codes "capacity") number refl small; read = capacity_read number some small }

pub printed_retention : (number : ℕ) → is_option_in_range (Retention number) ≡ true → 1 ≤ number → IsPrintedOption (Retention number)
printed_retention number range some =
    let small : number < 2 ^ 64 = omega (arith, at_most number RETAINED_COMMITS range) in
    record { in_line = numbered_in_line (codes "retention") number refl small; read = retention_read number some small }

pub printed_gather : (number : ℕ) → is_option_in_range (Gather number) ≡ true → IsPrintedOption (Gather number)
printed_gather number range =
    let p = and_parts (nat_le LEAST_GATHER_BYTES number) (nat_le number MOST_GATHER_BYTES) range in
    let some : 1 ≤ number = omega (arith, at_most LEAST_GATHER_BYTES number p.0) in
    let small : number < 2 ^ 64 = omega (arith, at_most number MOST_GATHER_BYTES p.1) in
    record { in_line = numbered_in_line (codes "gather") number refl small; read = gather_read number some small }

pub printed_dispensers : (number : ℕ) → is_option_in_range (Dispensers number) ≡ true → IsPrintedOption (Dispensers number)
printed_dispensers number range =
    let p = and_parts (nat_le 1 number) (nat_le number STORE_DISPENSERS) range in
    let some = at_most 1 number p.0 in
    let small : number < 2 ^ 64 = omega (arith, at_most number STORE_DISPENSERS p.1) in
    record { in_line = numbered_in_line (codes "dispensers") number refl small; read = dispensers_read number some small }

pub printed_max : IsPrintedOption RetentionMax
printed_max = record { in_line = refl; read = retention_max_read }

pub printed_dedup : IsPrintedOption (Dedup false)
printed_dedup = record { in_line = refl; read = dedup_read }

-- options of a script that was read: each that isn't its default may be set so
pub record AreSet (options : Options) : Type 0 where
  pub capacity : (options.capacity == standard_options.capacity) ≡ false → CanSet (Capacity options.capacity)
  pub dedup : options.dedup ≡ false → CanSet (Dedup false)
  pub retention : options.max ≡ false → (options.retention == standard_options.retention) ≡ false → CanSet (Retention options.retention)
  pub max : options.max ≡ true → CanSet RetentionMax
  pub none_of_max : options.max ≡ true → options.retention ≡ 0
  pub gather : (options.gather == standard_options.gather) ≡ false → CanSet (Gather options.gather)
  pub dispensers : (options.dispensers == standard_options.dispensers) ≡ false → CanSet (Dispensers options.dispensers)

-- options that stand behind the last that was set have their defaults
pub record AreUnset (options : Options) (rank : ℕ) : Type 0 where
  pub capacity : rank < 1 → options.capacity ≡ standard_options.capacity
  pub dedup : rank < 2 → options.dedup ≡ true
  pub retention : rank < 3 → options.retention ≡ standard_options.retention
  pub max : rank < 3 → options.max ≡ false
  pub gather : rank < 4 → options.gather ≡ standard_options.gather
  pub dispensers : rank < 5 → options.dispensers ≡ standard_options.dispensers

pub none_set : AreSet standard_options
none_set = record {
  capacity = λ is. absurd cc;
  dedup = λ is. absurd cc;
  retention = λ max is. absurd cc;
  max = λ is. absurd cc;
  none_of_max = λ is. absurd cc;
  gather = λ is. absurd cc;
  dispensers = λ is. absurd cc;
}

pub all_unset : AreUnset standard_options 0
all_unset = record { capacity = λ lt. refl; dedup = λ lt. refl; retention = λ lt. refl; max = λ lt. refl; gather = λ lt. refl; dispensers = λ lt. refl }

-- the bytes of the lines of options
number_size : (word : List ℕ) (number standard : ℕ) → length (number_option word number standard) ≤ length word + 2 + length (decimal number)
number_size word number standard = by_test (number == standard)
  where
    by_test : (test : Bool) → length (cond test [] (word ++ 32 ∷ decimal number ++ 10 ∷ [])) ≤ length word + 2 + length (decimal number)
    by_test true = omega arith
    by_test false = omega (arith, length-append (word ++ 32 ∷ decimal number) (10 ∷ []), length-append word (32 ∷ decimal number))

no_number_size : (word : List ℕ) (number standard : ℕ) → number ≡ standard → length (number_option word number standard) ≡ 0
no_number_size word number standard is = ap (λ (n : ℕ). length (number_option word n standard)) is ∙ ap (λ (test : Bool). length (cond test [] (word ++ 32 ∷ decimal standard ++ 10 ∷ []))) (own_number standard)

options_size : (o : Options) → length (printed_options o)
    ≡ length (number_option (codes "capacity") o.capacity standard_options.capacity) + (length (dedup_option o.dedup) + (length (retention_option o)
    + (length (number_option (codes "gather") o.gather standard_options.gather) + length (number_option (codes "dispensers") o.dispensers standard_options.dispensers))))
unfolding printed_options
options_size o =
    let a = number_option (codes "capacity") o.capacity standard_options.capacity in
    let b = dedup_option o.dedup in
    let c = retention_option o in
    let d = number_option (codes "gather") o.gather standard_options.gather in
    let e = number_option (codes "dispensers") o.dispensers standard_options.dispensers in
    omega (arith, length-append (a ++ b ++ c ++ d) e, length-append (a ++ b ++ c) d, length-append (a ++ b) c, length-append a b)

no_retention_size : (o : Options) → o.max ≡ false → o.retention ≡ standard_options.retention → length (retention_option o) ≡ 0
no_retention_size o max retention = ap (λ (test : Bool). length (cond test (codes "retention max\n") (number_option (codes "retention") o.retention standard_options.retention))) max ∙ no_number_size (codes "retention") o.retention standard_options.retention retention

no_dedup_size : (o : Options) → o.dedup ≡ true → length (dedup_option o.dedup) ≡ 0
no_dedup_size o is = ap (λ (test : Bool). length (dedup_option test)) is

-- options with one more set
pub record IsSetNext (before : Options) (option : OptionLine) : Type 0 where
  pub set : AreSet (with_option before option)
  pub unset : AreUnset (with_option before option) (rank_of option)
  pub size : length (printed_options (with_option before option)) ≤ length (printed_options before) + length (option_text option) + 1

pub set_next : (o : Options) (rank : ℕ) (option : OptionLine) → AreSet o → AreUnset o rank → rank < rank_of option → CanSet option → IsSetNext o option
set_next o rank (Capacity number) set unset lt can = record {
  set = record { capacity = λ is. can; dedup = set.dedup; retention = set.retention; max = set.max; none_of_max = set.none_of_max; gather = set.gather; dispensers = set.dispensers };
  unset = record {
    capacity = λ l. absurd (omega arith);
    dedup = λ l. unset.dedup (omega arith);
    retention = λ l. unset.retention (omega arith);
    max = λ l. unset.max (omega arith);
    gather = λ l. unset.gather (omega arith);
    dispensers = λ l. unset.dispensers (omega arith);
  };
  size = omega (arith, options_size o, options_size (with_option o (Capacity number)), number_size (codes "capacity") number standard_options.capacity, length-append (codes "capacity") (32 ∷ decimal number));
}
set_next o rank (Dedup true) set unset lt can = record {
  set = record { capacity = set.capacity; dedup = λ is. absurd cc; retention = set.retention; max = set.max; none_of_max = set.none_of_max; gather = set.gather; dispensers = set.dispensers };
  unset = record {
    capacity = λ l. absurd (omega arith);
    dedup = λ l. refl;
    retention = λ l. unset.retention (omega arith);
    max = λ l. unset.max (omega arith);
    gather = λ l. unset.gather (omega arith);
    dispensers = λ l. unset.dispensers (omega arith);
  };
  size = omega (arith, options_size o, options_size (with_option o (Dedup true)));
}
set_next o rank (Dedup false) set unset lt can = record {
  set = record { capacity = set.capacity; dedup = λ is. can; retention = set.retention; max = set.max; none_of_max = set.none_of_max; gather = set.gather; dispensers = set.dispensers };
  unset = record {
    capacity = λ l. absurd (omega arith);
    dedup = λ l. absurd (omega arith);
    retention = λ l. unset.retention (omega arith);
    max = λ l. unset.max (omega arith);
    gather = λ l. unset.gather (omega arith);
    dispensers = λ l. unset.dispensers (omega arith);
  };
  size = omega (arith, options_size o, options_size (with_option o (Dedup false)));
}
set_next o rank (Retention number) set unset lt can = record {
  set = record { capacity = set.capacity; dedup = set.dedup; retention = λ max is. can; max = λ is. absurd cc; none_of_max = λ is. absurd cc; gather = set.gather; dispensers = set.dispensers };
  unset = record {
    capacity = λ l. absurd (omega arith);
    dedup = λ l. absurd (omega arith);
    retention = λ l. absurd (omega arith);
    max = λ l. refl;
    gather = λ l. unset.gather (omega arith);
    dispensers = λ l. unset.dispensers (omega arith);
  };
  size = omega (arith, options_size o, options_size (with_option o (Retention number)), number_size (codes "retention") number standard_options.retention, length-append (codes "retention") (32 ∷ decimal number));
}
set_next o rank RetentionMax set unset lt can = record {
  set = record { capacity = set.capacity; dedup = set.dedup; retention = λ max is. absurd cc; max = λ is. can; none_of_max = λ is. refl; gather = set.gather; dispensers = set.dispensers };
  unset = record {
    capacity = λ l. absurd (omega arith);
    dedup = λ l. absurd (omega arith);
    retention = λ l. absurd (omega arith);
    max = λ l. absurd (omega arith);
    gather = λ l. unset.gather (omega arith);
    dispensers = λ l. unset.dispensers (omega arith);
  };
  size = omega (arith, options_size o, options_size (with_option o RetentionMax));
}
set_next o rank (Gather number) set unset lt can = record {
  set = record { capacity = set.capacity; dedup = set.dedup; retention = set.retention; max = set.max; none_of_max = set.none_of_max; gather = λ is. can; dispensers = set.dispensers };
  unset = record {
    capacity = λ l. absurd (omega arith);
    dedup = λ l. absurd (omega arith);
    retention = λ l. absurd (omega arith);
    max = λ l. absurd (omega arith);
    gather = λ l. absurd (omega arith);
    dispensers = λ l. unset.dispensers (omega arith);
  };
  size = omega (arith, options_size o, options_size (with_option o (Gather number)), number_size (codes "gather") number standard_options.gather, length-append (codes "gather") (32 ∷ decimal number));
}
set_next o rank (Dispensers number) set unset lt can = record {
  set = record { capacity = set.capacity; dedup = set.dedup; retention = set.retention; max = set.max; none_of_max = set.none_of_max; gather = set.gather; dispensers = λ is. can };
  unset = record {
    capacity = λ l. absurd (omega arith);
    dedup = λ l. absurd (omega arith);
    retention = λ l. absurd (omega arith);
    max = λ l. absurd (omega arith);
    gather = λ l. absurd (omega arith);
    dispensers = λ l. absurd (omega arith);
  };
  size = omega (arith, options_size o, options_size (with_option o (Dispensers number)), number_size (codes "dispensers") number standard_options.dispensers, length-append (codes "dispensers") (32 ∷ decimal number));
}
