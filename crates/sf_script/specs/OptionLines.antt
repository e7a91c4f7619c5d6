-- Option lines (our own).
use Rattle.std.specs.Prelude.{ℕ, Bool, true, false, ◌&&◌, nat_le, List, Option, Some, None, if◌then◌else◌, codes}
use Rattle.sf_types.specs.declared.limits.TheConstants.{STORE_BLOCKS, RETAINED_COMMITS, LEAST_GATHER_BYTES, MOST_GATHER_BYTES, STORE_DISPENSERS}
use Rattle.sf_script_calls.specs.Reads.{◌>>=◌}
use Rattle.sf_script_calls.specs.Numbers.{number_of}
use Rattle.sf_script_calls.specs.Words.{is_word}
use Rattle.sf_types.specs.declared.options.Options.{Options}
use Rattle.sf_script.specs.declared.option_line.OptionLine.{OptionLine}
use Rattle.sf_script.specs.declared.option_line.OptionLine.TheVariants.{Capacity, Dedup, Retention, RetentionMax, Gather, Dispensers}

-- The rank of an option's word in the order in which options stand, from 1 on. It is 0 where the word is no option's.
unfoldable pub option_rank : List ℕ → ℕ
option_rank word =
    if is_word (codes "capacity") word then 1
    else if is_word (codes "dedup") word then 2
    else if is_word (codes "retention") word then 3
    else if is_word (codes "gather") word then 4
    else if is_word (codes "dispensers") word then 5
    else 0

-- A number that an option is set to.
abbrev pub set_to : (ℕ → OptionLine) → List ℕ → Option OptionLine
set_to option text = do
  number ← number_of text
  Some (option number)

-- `on` or `off`
abbrev pub dedup_of : List ℕ → Option OptionLine
dedup_of text =
    if is_word (codes "on") text then Some (Dedup true)
    else if is_word (codes "off") text then Some (Dedup false)
    else None

-- A number, or `max`
abbrev pub retention_of : List ℕ → Option OptionLine
retention_of text = if is_word (codes "max") text then Some RetentionMax else set_to Retention text

-- The option of a line's first word and of what stands behind it.
unfoldable pub option_of : List ℕ → List ℕ → Option OptionLine
option_of word text =
    if is_word (codes "capacity") word then set_to Capacity text
    else if is_word (codes "dedup") word then dedup_of text
    else if is_word (codes "retention") word then retention_of text
    else if is_word (codes "gather") word then set_to Gather text
    else if is_word (codes "dispensers") word then set_to Dispensers text
    else None

-- Whether an option is set to a number in its range.
abbrev pub is_option_in_range : OptionLine → Bool
is_option_in_range (Capacity number) = nat_le 1 number && nat_le number STORE_BLOCKS
is_option_in_range (Dedup shared) = true
is_option_in_range (Retention number) = nat_le number RETAINED_COMMITS
is_option_in_range RetentionMax = true
is_option_in_range (Gather number) = nat_le LEAST_GATHER_BYTES number && nat_le number MOST_GATHER_BYTES
is_option_in_range (Dispensers number) = nat_le 1 number && nat_le number STORE_DISPENSERS

-- The options with one set. `retention N` and `retention max` set the same option.
abbrev pub with_option : Options → OptionLine → Options
with_option options (Capacity number) = record options { capacity = number }
with_option options (Dedup shared) = record options { dedup = shared }
with_option options (Retention number) = record options { retention = number; max = false }
with_option options RetentionMax = record options { retention = 0; max = true }
with_option options (Gather number) = record options { gather = number }
with_option options (Dispensers number) = record options { dispensers = number }

-- The rank of what is set, which is that of its word.
abbrev pub rank_of : OptionLine → ℕ
rank_of (Capacity number) = 1
rank_of (Dedup shared) = 2
rank_of (Retention number) = 3
rank_of RetentionMax = 3
rank_of (Gather number) = 4
rank_of (Dispensers number) = 5

-- What was read between the header and the sessions line: the options, and the rank of the last that was set, or 0.
pub record OptionParts : Type 0 where
  pub options : Options
  pub rank : ℕ
