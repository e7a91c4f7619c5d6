use Rattle.std.proofs.Common.{◌≡◌, ◌∙◌, ap, List, ℕ}
use Rattle.std.specs.Ordering.{nat_cmp}
use Rattle.sf_room_map.specs.Entries.{value_for, with_value}
use Rattle.sf_lifetimes.specs.declared.counted.Counted.{Counted}
use Rattle.sf_lifetimes.proofs.EntryMapLemmas.{value_of, of_some}
use Rattle.sf_lifetimes.proofs.ShiftLemmas.{moved}
use Rattle.sf_lifetimes.proofs.place_map.shift_one.Goals as goal

pub returns-clause-changed : goal.returns-clause-changed
returns-clause-changed c q =
    let es = c.args.entries.now.held in
    let b = c.args.birth in
    let found = value_of (value_for nat_cmp es b) c.requires in
    ap (λ (xs : List (ℕ × Counted)). value_for nat_cmp xs q)
    (of_some (λ (w : Counted). c.exchange.new.self.held ≡ with_value nat_cmp es b (record { runs = c.args.to; holders = w.holders })) (value_for nat_cmp es b) found.0 found.1 c.exchange.ensures.held)
    ∙ moved es b q c.args.to found.0 found.1
