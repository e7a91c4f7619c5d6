use Rattle.std.proofs.Common.{◌≡◌, IfOk, sym, ap, subst, ◌∙◌}
use Rattle.std.specs.List.Sorted.{IsStrictlySortedBy}
use Rattle.std.specs.Map.{keys_of}
use Rattle.sf_types.specs.Values.Names.{name_cmp}
use Rattle.sf_types.specs.Halves.Asks.{kept_births}
use Rattle.sf_own_part.proofs.PartBirthLemmas.{insert_births, delete_births, lock_births, select_births, risen}
use Rattle.sf_own_part.proofs.own_part.OwnPart.kept_births.Goals as goal

pub returns-in-Insert : goal.returns-in-Insert
returns-in-Insert c =
    let o = c.args.self.now.held in
    let rising = risen o.part.working (subst (λ v. IsStrictlySortedBy name_cmp (keys_of v.held.part.working)) c.self.view_is c.row_count.ensures.rising) in
    subst (λ bs. IfOk c.births_beside.result (λ births. births ≡ bs)) (insert_births o.part c.in-Insert.row rising ∙ ap (kept_births o) (sym c.in-Insert.is)) c.births_beside.ensures

pub returns-in-Delete : goal.returns-in-Delete
returns-in-Delete c =
    let o = c.args.self.now.held in
    let rising = risen o.part.working (subst (λ v. IsStrictlySortedBy name_cmp (keys_of v.held.part.working)) c.self.view_is c.row_count.ensures.rising) in
    subst (λ bs. IfOk c.births_beside-in-Delete.result (λ births. births ≡ bs)) (delete_births o.part c.in-Delete.row rising ∙ ap (kept_births o) (sym c.in-Delete.is)) c.births_beside-in-Delete.ensures

pub returns-in-Lock : goal.returns-in-Lock
returns-in-Lock c =
    let o = c.args.self.now.held in
    let rising = risen o.part.locators (subst (λ v. IsStrictlySortedBy name_cmp (keys_of v.held.part.locators)) c.self.view_is (subst (λ m. IsStrictlySortedBy name_cmp (keys_of m)) c.locators.ensures c.len.ensures.rising)) in
    subst (λ bs. IfOk c.births_beside-in-Lock.result (λ births. births ≡ bs)) (lock_births o c.in-Lock.to c.in-Lock.row rising ∙ ap (kept_births o) (sym c.in-Lock.is)) c.births_beside-in-Lock.ensures

pub returns-in-Select : goal.returns-in-Select
returns-in-Select c =
    let o = c.args.self.now.held in
    let rising = risen o.part.locators (subst (λ v. IsStrictlySortedBy name_cmp (keys_of v.held.part.locators)) c.self.view_is (subst (λ m. IsStrictlySortedBy name_cmp (keys_of m)) c.locators.ensures c.len.ensures.rising)) in
    subst (λ bs. IfOk c.births_beside-in-Select.result (λ births. births ≡ bs)) (select_births o c.in-Select.to c.in-Select.row rising ∙ ap (kept_births o) (sym c.in-Select.is)) c.births_beside-in-Select.ensures
