-- A mark of the program as the rules' mark, and back (our own).
use Rattle.std.specs.Prelude.{◌≡◌, ℕ, refl}
use Rattle.sf_types.specs.Values.Marks as rules
use Rattle.sf_plain_table.specs.declared.marked.Mark.{Mark}
use Rattle.sf_plain_table.specs.declared.marked.Mark.TheVariants as mark
use Rattle.sf_plain_table.specs.declared.marked.Marked.TheInside.{Inside}

-- The mark as that of the rules.
abbrev pub mark_of : Mark → rules.Mark
mark_of mark.Zero = rules.Zero
mark_of mark.Fresh = rules.Fresh
mark_of (mark.Stored birth index) = rules.Stored birth index

-- The rules' mark as that of the program.
abbrev pub mark_back : rules.Mark → Mark
mark_back rules.Zero = mark.Zero
mark_back rules.Fresh = mark.Fresh
mark_back (rules.Stored birth index) = mark.Stored birth index

-- A mark comes back.
pub back_of : (byte : ℕ) (m : Mark) → ◌≡◌ {A = Inside} (record { byte = byte; mark = mark_back (mark_of m) }) (record { byte = byte; mark = m })
back_of byte mark.Zero = refl
back_of byte mark.Fresh = refl
back_of byte (mark.Stored birth index) = refl
