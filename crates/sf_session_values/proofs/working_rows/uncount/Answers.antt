use Rattle.std.proofs.Common.{◌≡◌, Option, None, Some, sym, ap, ◌∙◌, arith, []}
use Rattle.std.specs.Option.{option_copied, option_map_or}
use Rattle.sf_types.specs.Inside.NameMaps.{get}
use Rattle.sf_session_values.specs.declared.working_rows.WorkingRow.{WorkingRow}
use Rattle.sf_session_values.specs.Inside.Counting.{times}
use Rattle.sf_session_values.proofs.CountingLemmas.{births_at, counted_without}
use Rattle.sf_session_values.proofs.working_rows.uncount.Goals as goal

pub lower-requires : goal.lower-requires
lower-requires c = λ b.
    let rows = c.args.rows.now.held in
    let found : get rows c.args.row.now ≡ Some c.in-Some.entry.now = sym c.get.ensures ∙ ap option_copied c.in-Some.is in
    let own : times b (births_at rows c.args.row.now) ≡ times b c.in-Some.entry.now.births = ap (λ (x : Option WorkingRow). times b (option_map_or (λ r. r.births) x [])) found in
    let same = ap (times b) c.as_slice.ensures.births in
    omega (arith, c.requires b, counted_without b rows c.args.row.now, own, same)

pub returns-in-Some : goal.returns-in-Some
returns-in-Some c = λ b.
    let rows = c.args.rows.now.held in
    let found : get rows c.args.row.now ≡ Some c.in-Some.entry.now = sym c.get.ensures ∙ ap option_copied c.in-Some.is in
    let own : times b (births_at rows c.args.row.now) ≡ times b c.in-Some.entry.now.births = ap (λ (x : Option WorkingRow). times b (option_map_or (λ r. r.births) x [])) found in
    let same = ap (times b) c.as_slice.ensures.births in
    omega (arith, c.lower.ensures b, c.requires b, counted_without b rows c.args.row.now, own, same)

pub returns-in_default : goal.returns-in_default
returns-in_default c = λ b.
    let rows = c.args.rows.now.held in
    let none : get rows c.args.row.now ≡ None = sym c.get.ensures ∙ ap option_copied c.in_default.is in
    let own : times b (births_at rows c.args.row.now) ≡ 0 = ap (λ (x : Option WorkingRow). times b (option_map_or (λ r. r.births) x [])) none in
    omega (arith, c.requires b, counted_without b rows c.args.row.now, own)
