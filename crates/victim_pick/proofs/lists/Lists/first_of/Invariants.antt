use Rattle.victim_pick.specs.Links.{AreLinked}
use Rattle.victim_pick.proofs.Walk.{IsWalked}
use Rattle.victim_pick.proofs.lists.Lists.first_of.Given as goal

abbrev pub invariant-loop-step : goal.invariant-loop-step
invariant-loop-step l =
    let v = l.self-inside in
    (are : AreLinked v.pages v.counts.items v.firsts.items v.nexts.items v.befores.items)
    → IsWalked v.counts.items l.erases are.place l.count l._step l.first l.at
