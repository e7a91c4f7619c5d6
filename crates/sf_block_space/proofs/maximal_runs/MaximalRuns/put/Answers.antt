use Rattle.std.proofs.Common.{◌≡◌, ◌+◌, ◌-◌, ◌<◌, ◌^◌, refl, ap, sym, subst, rules, arith}
use Rattle.std.specs.Prelude.{vec_capacity, vec_len}
use Rattle.std.proofs.lemmas.List.{length-set}
use Rattle.sf_types.specs.Space.BlockRuns.{blocks_in_run}
use Rattle.sf_types.proofs.RunLemmas.{end-within}
use Rattle.sf_block_space.specs.Free.{AreOut, FreeSpace}
use Rattle.sf_block_space.proofs.GapLemmas.{joined}
use Rattle.sf_block_space.proofs.ReturnLemmas.{Follows, NotFollows, Precedes, NotPrecedes, spot, last-fits, next-fits, both-fit, insert-spot, before-spot, behind-spot, between-spot}
use Rattle.sf_block_space.proofs.maximal_runs.MaximalRuns.put.Goals as goal

pub overflow_add-run : goal.overflow_add-run
overflow_add-run c =
    let small : c.self.inside.capacity < 2 ^ 32 = search rules in
    let out = subst (λ v. AreOut v.held (blocks_in_run c.args.run)) (sym c.self.view_is) c.requires.out in
    omega (arith, small, end-within c.args.run c.self.inside.capacity c.requires.some out.below)

pub overflow_add-last : goal.overflow_add-last
overflow_add-last c =
    let space : FreeSpace = record { capacity = c.self.inside.capacity; runs = c.self.inside.runs.items } in
    let same : space ≡ c.args.self.now.held = ap (λ v. v.held) c.self.view_is in
    let here = spot space c.args.self.now.held c.args.run c.offset_of-at.result same c.self.invariant c.requires.some c.requires.out c.offset_of-at.ensures in
    let follows = subst (λ (v : FreeSpace). Follows v.runs c.args.run c.offset_of-at.result) (sym same) (c.if-follows.ensures.yes refl) in
    let small : c.self.inside.capacity < 2 ^ 32 = search rules in
    omega (arith, small, last-fits space c.args.run c.index-last.result.now c.offset_of-at.result here follows c.index-last.ensures)

pub overflow_add-last-then-precedes : goal.overflow_add-last-then-precedes
overflow_add-last-then-precedes c =
    let space : FreeSpace = record { capacity = c.self.inside.capacity; runs = c.self.inside.runs.items } in
    let same : space ≡ c.args.self.now.held = ap (λ v. v.held) c.self.view_is in
    let here = spot space c.args.self.now.held c.args.run c.offset_of-at.result same c.self.invariant c.requires.some c.requires.out c.offset_of-at.ensures in
    let follows = subst (λ (v : FreeSpace). Follows v.runs c.args.run c.offset_of-at.result) (sym same) (c.if-follows.ensures.yes refl) in
    let precedes = subst (λ (v : FreeSpace). Precedes v.runs c.args.run c.offset_of-at.result) (sym same) (c.if-precedes.ensures.yes refl) in
    let small : c.self.inside.capacity < 2 ^ 32 = search rules in
    omega (arith, small, both-fit space c.args.run c.index-last.result.now c.remove-next.result c.offset_of-at.result here follows precedes c.index-last.ensures c.remove-next.ensures.value)

pub invariant_of-self : goal.invariant_of-self
invariant_of-self c =
    let space : FreeSpace = record { capacity = c.self.inside.capacity; runs = c.self.inside.runs.items } in
    let same : space ≡ c.args.self.now.held = ap (λ v. v.held) c.self.view_is in
    let here = spot space c.args.self.now.held c.args.run c.offset_of-at.result same c.self.invariant c.requires.some c.requires.out c.offset_of-at.ensures in
    let follows = subst (λ (v : FreeSpace). Follows v.runs c.args.run c.offset_of-at.result) (sym same) (c.if-follows.ensures.yes refl) in
    let precedes = subst (λ (v : FreeSpace). Precedes v.runs c.args.run c.offset_of-at.result) (sym same) (c.if-precedes.ensures.yes refl) in
    (between-spot space c.args.run c.index-last.result.now c.remove-next.result c.offset_of-at.result c.remove-next.new.self.items here follows precedes c.index-last.ensures c.remove-next.ensures.value c.remove-next.ensures.items).order

pub returns-then-precedes : goal.returns-then-precedes
returns-then-precedes c =
    let space : FreeSpace = record { capacity = c.self.inside.capacity; runs = c.self.inside.runs.items } in
    let same : space ≡ c.args.self.now.held = ap (λ v. v.held) c.self.view_is in
    let here = spot space c.args.self.now.held c.args.run c.offset_of-at.result same c.self.invariant c.requires.some c.requires.out c.offset_of-at.ensures in
    let follows = subst (λ (v : FreeSpace). Follows v.runs c.args.run c.offset_of-at.result) (sym same) (c.if-follows.ensures.yes refl) in
    let precedes = subst (λ (v : FreeSpace). Precedes v.runs c.args.run c.offset_of-at.result) (sym same) (c.if-precedes.ensures.yes refl) in
    let put = between-spot space c.args.run c.index-last.result.now c.remove-next.result c.offset_of-at.result c.remove-next.new.self.items here follows precedes c.index-last.ensures c.remove-next.ensures.value c.remove-next.ensures.items in
    rw (← c.self.view_is)
    (record {
      capacity = refl;
      order = put.order;
      blocks = put.gains;
      more = omega (arith, put.size, c.requires.some);
      room = omega (arith, c.remove-next.ensures.capacity, c.remove-next.ensures.len, length-set c.remove-next.new.self.items (c.offset_of-at.result - 1) (joined (joined c.index-last.result.now c.args.run) c.remove-next.result));
    })

pub overflow_add-last-then-follows : goal.overflow_add-last-then-follows
overflow_add-last-then-follows c =
    let space : FreeSpace = record { capacity = c.self.inside.capacity; runs = c.self.inside.runs.items } in
    let same : space ≡ c.args.self.now.held = ap (λ v. v.held) c.self.view_is in
    let here = spot space c.args.self.now.held c.args.run c.offset_of-at.result same c.self.invariant c.requires.some c.requires.out c.offset_of-at.ensures in
    let follows = subst (λ (v : FreeSpace). Follows v.runs c.args.run c.offset_of-at.result) (sym same) (c.if-follows.ensures.yes refl) in
    let small : c.self.inside.capacity < 2 ^ 32 = search rules in
    omega (arith, small, last-fits space c.args.run c.index-last.result.now c.offset_of-at.result here follows c.index-last.ensures)

pub invariant_of-self-then-follows : goal.invariant_of-self-then-follows
invariant_of-self-then-follows c =
    let space : FreeSpace = record { capacity = c.self.inside.capacity; runs = c.self.inside.runs.items } in
    let same : space ≡ c.args.self.now.held = ap (λ v. v.held) c.self.view_is in
    let here = spot space c.args.self.now.held c.args.run c.offset_of-at.result same c.self.invariant c.requires.some c.requires.out c.offset_of-at.ensures in
    let follows = subst (λ (v : FreeSpace). Follows v.runs c.args.run c.offset_of-at.result) (sym same) (c.if-follows.ensures.yes refl) in
    let behind = subst (λ (v : FreeSpace). NotPrecedes v.runs c.args.run c.offset_of-at.result) (sym same) (c.if-precedes.ensures.no refl) in
    (behind-spot space c.args.run c.index-last.result.now c.offset_of-at.result here follows behind c.index-last.ensures).order

pub returns-then-follows : goal.returns-then-follows
returns-then-follows c =
    let space : FreeSpace = record { capacity = c.self.inside.capacity; runs = c.self.inside.runs.items } in
    let same : space ≡ c.args.self.now.held = ap (λ v. v.held) c.self.view_is in
    let here = spot space c.args.self.now.held c.args.run c.offset_of-at.result same c.self.invariant c.requires.some c.requires.out c.offset_of-at.ensures in
    let follows = subst (λ (v : FreeSpace). Follows v.runs c.args.run c.offset_of-at.result) (sym same) (c.if-follows.ensures.yes refl) in
    let behind = subst (λ (v : FreeSpace). NotPrecedes v.runs c.args.run c.offset_of-at.result) (sym same) (c.if-precedes.ensures.no refl) in
    let put = behind-spot space c.args.run c.index-last.result.now c.offset_of-at.result here follows behind c.index-last.ensures in
    rw (← c.self.view_is)
    (record {
      capacity = refl;
      order = put.order;
      blocks = put.gains;
      more = omega (arith, put.size, c.requires.some);
      room = ap (λ k. vec_capacity c.self.inside.runs - vec_len c.self.inside.runs + k) (length-set c.self.inside.runs.items (c.offset_of-at.result - 1) (joined c.index-last.result.now c.args.run));
    })

pub overflow_add-run-then-precedes-2 : goal.overflow_add-run-then-precedes-2
overflow_add-run-then-precedes-2 c =
    let space : FreeSpace = record { capacity = c.self.inside.capacity; runs = c.self.inside.runs.items } in
    let same : space ≡ c.args.self.now.held = ap (λ v. v.held) c.self.view_is in
    let here = spot space c.args.self.now.held c.args.run c.offset_of-at.result same c.self.invariant c.requires.some c.requires.out c.offset_of-at.ensures in
    let precedes = subst (λ (v : FreeSpace). Precedes v.runs c.args.run c.offset_of-at.result) (sym same) (c.if-precedes-2.ensures.yes refl) in
    let small : c.self.inside.capacity < 2 ^ 32 = search rules in
    omega (arith, small, next-fits space c.args.run c.index-next.result.now c.offset_of-at.result here precedes c.index-next.ensures)

pub invariant_of-self-then-precedes-2 : goal.invariant_of-self-then-precedes-2
invariant_of-self-then-precedes-2 c =
    let space : FreeSpace = record { capacity = c.self.inside.capacity; runs = c.self.inside.runs.items } in
    let same : space ≡ c.args.self.now.held = ap (λ v. v.held) c.self.view_is in
    let here = spot space c.args.self.now.held c.args.run c.offset_of-at.result same c.self.invariant c.requires.some c.requires.out c.offset_of-at.ensures in
    let apart = subst (λ (v : FreeSpace). NotFollows v.runs c.args.run c.offset_of-at.result) (sym same) (c.if-follows.ensures.no refl) in
    let precedes = subst (λ (v : FreeSpace). Precedes v.runs c.args.run c.offset_of-at.result) (sym same) (c.if-precedes-2.ensures.yes refl) in
    (before-spot space c.args.run c.index-next.result.now c.offset_of-at.result here apart precedes c.index-next.ensures).order

pub returns-then-precedes-2 : goal.returns-then-precedes-2
returns-then-precedes-2 c =
    let space : FreeSpace = record { capacity = c.self.inside.capacity; runs = c.self.inside.runs.items } in
    let same : space ≡ c.args.self.now.held = ap (λ v. v.held) c.self.view_is in
    let here = spot space c.args.self.now.held c.args.run c.offset_of-at.result same c.self.invariant c.requires.some c.requires.out c.offset_of-at.ensures in
    let apart = subst (λ (v : FreeSpace). NotFollows v.runs c.args.run c.offset_of-at.result) (sym same) (c.if-follows.ensures.no refl) in
    let precedes = subst (λ (v : FreeSpace). Precedes v.runs c.args.run c.offset_of-at.result) (sym same) (c.if-precedes-2.ensures.yes refl) in
    let put = before-spot space c.args.run c.index-next.result.now c.offset_of-at.result here apart precedes c.index-next.ensures in
    rw (← c.self.view_is)
    (record {
      capacity = refl;
      order = put.order;
      blocks = put.gains;
      more = omega (arith, put.size, c.requires.some);
      room = ap (λ k. vec_capacity c.self.inside.runs - vec_len c.self.inside.runs + k) (length-set c.self.inside.runs.items c.offset_of-at.result (joined c.args.run c.index-next.result.now));
    })

pub invariant_of-self-2 : goal.invariant_of-self-2
invariant_of-self-2 c =
    let space : FreeSpace = record { capacity = c.self.inside.capacity; runs = c.self.inside.runs.items } in
    let same : space ≡ c.args.self.now.held = ap (λ v. v.held) c.self.view_is in
    let here = spot space c.args.self.now.held c.args.run c.offset_of-at.result same c.self.invariant c.requires.some c.requires.out c.offset_of-at.ensures in
    let apart = subst (λ (v : FreeSpace). NotFollows v.runs c.args.run c.offset_of-at.result) (sym same) (c.if-follows.ensures.no refl) in
    let behind = subst (λ (v : FreeSpace). NotPrecedes v.runs c.args.run c.offset_of-at.result) (sym same) (c.if-precedes-2.ensures.no refl) in
    (insert-spot space c.args.run c.offset_of-at.result c.insert.new.self.items here apart behind (search rules)).order

pub returns : goal.returns
returns c =
    let space : FreeSpace = record { capacity = c.self.inside.capacity; runs = c.self.inside.runs.items } in
    let same : space ≡ c.args.self.now.held = ap (λ v. v.held) c.self.view_is in
    let here = spot space c.args.self.now.held c.args.run c.offset_of-at.result same c.self.invariant c.requires.some c.requires.out c.offset_of-at.ensures in
    let apart = subst (λ (v : FreeSpace). NotFollows v.runs c.args.run c.offset_of-at.result) (sym same) (c.if-follows.ensures.no refl) in
    let behind = subst (λ (v : FreeSpace). NotPrecedes v.runs c.args.run c.offset_of-at.result) (sym same) (c.if-precedes-2.ensures.no refl) in
    let put = insert-spot space c.args.run c.offset_of-at.result c.insert.new.self.items here apart behind (search rules) in
    rw (← c.self.view_is)
    (record {
      capacity = refl;
      order = put.order;
      blocks = put.gains;
      more = omega (arith, put.size, c.requires.some);
      room = search rules;
    })
