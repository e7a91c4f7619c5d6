-- How many holders of a birth are left as holders are counted off (our own).
use Rattle.std.specs.Prelude.{ℕ, ◌-◌, ◌==◌, cond, List, length, Option, Some, None}
use Rattle.std.specs.List.{sum_by, count_by}
use Rattle.std.specs.Ordering.{nat_cmp}
use Rattle.std.specs.FinMap as fin
use Rattle.sf_types.specs.Space.BlockRuns.{blocks_in}
use Rattle.sf_types.specs.declared.holder.Holder.{Holder}
use Rattle.sf_lifetimes.specs.declared.counted.Counted.{Counted}
use Rattle.sf_lifetimes.specs.declared.tally.Tally.{Tally}
use Rattle.sf_lifetimes.specs.Inside.Counts.{holders_in, runs_in}
use Rattle.sf_lifetimes.specs.Ledgers.{Holdings, has_birth, held_by}

-- What is known of each birth of which a holder was counted off.
abbrev pub Tallies : Type 0
Tallies = fin.FinMap nat_cmp Tally

-- The blocks of a birth whose holders were all counted off.
abbrev pub freed_in : Tally → ℕ
freed_in t = cond (t.left == 0) t.blocks 0

-- The blocks of all these.
abbrev pub freed_sum : Tallies → ℕ
freed_sum tallies = sum_by freed_in (fin.values tallies)

-- The holders that are left, all where none was counted off.
abbrev pub left_of : Option Tally → ℕ → ℕ
left_of None holders = holders
left_of (Some t) holders = t.left

-- One holder of a birth is counted off.
abbrev pub counted_off : Option Counted → Option Tally → Option Tally
counted_off x t = Some (record { left = left_of t (holders_in x) - 1; blocks = length (blocks_in (runs_in x)) })

-- So many holders of a birth were counted off.
abbrev pub tally_of : Option Counted → ℕ → Option Tally
tally_of x count = cond (count == 0) None (Some (record { left = holders_in x - count; blocks = length (blocks_in (runs_in x)) }))

-- The number of these holders that hold a birth.
abbrev pub number_among : Holdings → List Holder → ℕ → ℕ
number_among holdings holders birth = count_by (λ holder. has_birth (held_by holdings holder) birth) holders
