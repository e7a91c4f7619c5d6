-- The ranges of the options and their defaults (our own). The limits are the constants of src/limits.rt.
use Rattle.std.specs.Prelude.{◌≡◌, ◌≤◌, true, false, IsTrue}
use Rattle.sf_types.specs.declared.limits.TheConstants.{STORE_BLOCKS, RETAINED_COMMITS, LEAST_GATHER_BYTES, MOST_GATHER_BYTES, STORE_DISPENSERS}
use Rattle.sf_types.specs.declared.options.Options.{Options}

-- Each option is in its range. With `max` the number of retention is 0.
pub record IsInRange (o : Options) : Type 0 where
  pub capacity_low : 1 ≤ o.capacity
  pub capacity_high : o.capacity ≤ STORE_BLOCKS
  pub retention : o.retention ≤ RETAINED_COMMITS
  pub retention_of_max : IsTrue o.max → o.retention ≡ 0
  pub gather_low : LEAST_GATHER_BYTES ≤ o.gather
  pub gather_high : o.gather ≤ MOST_GATHER_BYTES
  pub dispensers_low : 1 ≤ o.dispensers
  pub dispensers_high : o.dispensers ≤ STORE_DISPENSERS

-- The options of a store where none is set.
abbrev pub standard_options : Options
standard_options = record { capacity = 1024; dedup = true; retention = 0; max = false; gather = 65536; dispensers = 4 }
