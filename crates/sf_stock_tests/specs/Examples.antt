-- A content of three bytes.
use Rattle.std.specs.Prelude.{true, [], ◌∷◌}
use Rattle.sf_types.specs.Table.Parts.{Content}

-- A shared content of three bytes.
abbrev pub three_bytes : Content
three_bytes = record { bytes = 7 ∷ 8 ∷ 9 ∷ []; is_shared = true }
