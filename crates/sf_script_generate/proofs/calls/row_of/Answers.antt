use Rattle.std.proofs.Common.{arith}
use Rattle.sf_script_generate.proofs.NameLemmas.{some_name, row_is_name}
use Rattle.sf_script_generate.proofs.calls.row_of.Goals as goal

pub unwrap-requires : goal.unwrap-requires
unwrap-requires c =
    some_name c.in_ok-name.name c.as_slice.result.now c.in_ok-name.ensures (rw (c.as_slice.ensures.value, c.in_ok-text.ensures) (row_is_name c.args.session (omega arith)))
