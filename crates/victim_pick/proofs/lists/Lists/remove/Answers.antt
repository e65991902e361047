use Rattle.std.proofs.Common.{◌≡◌, ℕ, List, Option, Some, None, length, get_or, sym, ap, ◌∙◌, arith}
use Rattle.std.proofs.lemmas.List.{get_or_read}
use Rattle.victim_pick.specs.Candidates.{count_of}
use Rattle.victim_pick.specs.Links.{set_at, set_first}
use Rattle.victim_pick.proofs.Setting.{written_back, counted_below, length-set_at, length-set_first}
use Rattle.victim_pick.proofs.Leaving.{before_counted, linked_left}
use Rattle.victim_pick.proofs.lists.Lists.remove.Goals as goal
use Rattle.victim_pick.proofs.lists.Lists.remove.Goals.{After-deref_mut-2}

counted : (c : After-deref_mut-2) → count_of c.self.inside.counts.items c.args.block ≡ Some c.args.count
counted c = rw (← c.self.view_is) at c.requires

before_is : (c : After-deref_mut-2) → c.index-before.result.now ≡ get_or c.self.inside.befores.items c.args.block None
before_is c =
    let v = c.self.inside in
    let below = counted_below v.counts.items c.args.block c.args.count (counted c) in
    get_or_read v.befores.items c.args.block c.index-before.result.now (omega (arith, below, c.self.invariant.befores_len))
    c.index-before.ensures None

next_is : (c : After-deref_mut-2) → c.index-next.result.now ≡ get_or c.self.inside.nexts.items c.args.block None
next_is c =
    let v = c.self.inside in
    let below = counted_below v.counts.items c.args.block c.args.count (counted c) in
    get_or_read v.nexts.items c.args.block c.index-next.result.now (omega (arith, below, c.self.invariant.nexts_len))
    c.index-next.ensures None

pub set_at-requires : goal.set_at-requires
set_at-requires c =
    let v = c.self.inside in
    let here = (goal.at.set_at-requires c).After-deref_mut-2 in
    λ x is.
    let there = before_counted v.pages v.counts.items v.firsts.items v.nexts.items v.befores.items c.args.count c.args.block x
    c.self.invariant (counted here) (sym (before_is here) ∙ is) in
    omega (arith, counted_below v.counts.items x c.args.count there, c.self.invariant.nexts_len, ap length c.deref_mut-2.ensures.value)

pub set_at-requires-2 : goal.set_at-requires-2
set_at-requires-2 c =
    let v = c.self.inside in
    let here = (goal.at.set_at-requires-2 c).After-deref_mut-2 in
    λ x is.
    let there = (c.self.invariant.nexts_are c.args.block c.args.count (counted here)).counted x (sym (next_is here) ∙ is) in
    omega (arith, counted_below v.counts.items x c.args.count there, c.self.invariant.befores_len, ap length c.deref_mut-3.ensures.value)

pub invariant_of-self : goal.invariant_of-self
invariant_of-self c =
    let v = c.self.inside in
    let here = (goal.at.invariant_of-self c).After-deref_mut-2 in
    let before = c.index-before.result.now in
    let next = c.index-next.result.now in
    let firsts_are : c.set_first.new.firsts ≡ set_first v.firsts.items before c.args.count next = c.set_first.ensures
    ∙ ap (λ (l : List (Option ℕ)). set_first l before c.args.count next) c.deref_mut.ensures.value in
    let nexts_are : c.set_at.new.links ≡ set_at v.nexts.items before next = c.set_at.ensures
    ∙ ap (λ (l : List (Option ℕ)). set_at l before next) c.deref_mut-2.ensures.value in
    let befores_are : c.set_at-2.new.links ≡ set_at v.befores.items next before = c.set_at-2.ensures
    ∙ ap (λ (l : List (Option ℕ)). set_at l next before) c.deref_mut-3.ensures.value in
    let firsts = written_back v.firsts.len c.set_first.new.firsts v.firsts.items
    (ap length firsts_are ∙ length-set_first v.firsts.items before c.args.count next) v.firsts.ok.0 ∙ firsts_are in
    let nexts = written_back v.nexts.len c.set_at.new.links v.nexts.items (ap length nexts_are ∙ length-set_at v.nexts.items before next)
    v.nexts.ok.0 ∙ nexts_are in
    let befores = written_back v.befores.len c.set_at-2.new.links v.befores.items
    (ap length befores_are ∙ length-set_at v.befores.items next before) v.befores.ok.0 ∙ befores_are in
    rw (firsts, nexts, befores)
    (linked_left v.pages v.counts.items v.firsts.items v.nexts.items v.befores.items c.args.count c.args.block before next c.self.invariant
    (counted here) (before_is here) (next_is here))
