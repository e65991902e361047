use Rattle.std.proofs.Common.{◌≡◌, ◌∙◌, Option, None, Some, IsSome, ap, arith, subst, sym, true≢false}
use Rattle.std.proofs.lemmas.Grind.{common_steps}
use Rattle.std.proofs.lemmas.List.Elements.{recursion_from_All}
use Rattle.std.specs.List.{AllByRecursion}
use Rattle.die_service.proofs.Gathering.{PassState, ended_long, ended_more}
use Rattle.die_service.proofs.LastPasses.{more_yielded}
use Rattle.die_service.proofs.runs.into_ends.Goals as goal

none-is : {A : Type 0} {o : Option A} → o ≡ None → IsSome o → ⊥
none-is {o = o} is some = true≢false (sym (subst (λ x. IsSome x) is some))

pub returns : goal.returns
returns g c =
    let all : c.args.drivers.items ≡ c.loop-worked.yielded = grind (arith, common_steps) in
    rw (all, c.from_vec.ensures) c.loop-worked.invariant.ended

pub loop-worked-init : goal.loop-worked-init
loop-worked-init g c =
    let gives = c.into_iter-worked-iterator.ensures.into_iter_gives.0 in record {
      can_next = tt;
      is_finite = tt;
      room = c.requires.room;
      passes_room = c.requires.passes_room;
      drivers = sym gives;
      left = rw gives (recursion_from_All (λ (w : PassState). IsSome w.1) c.args.drivers.items c.requires.ended);
      ended = rw (c.requires.none, c.requires.no_passes) tt;
    }

pub unreachable-requires : goal.unreachable-requires
unreachable-requires g c =
    let some : IsSome c.in-Some.worked.1 = (subst (AllByRecursion (λ (w : PassState). IsSome w.1)) c.in-Some.ensures.steps.0
    c.loop-worked.invariant.left).0 in
    absurd (none-is (sym c.into_ended.ensures ∙ c.in_default.is) some)

pub push_reserved-requires : goal.push_reserved-requires
push_reserved-requires g c =
    let long = ended_long _ _ _ c.loop-worked.invariant.ended in
    grind (arith, common_steps, long.0)

pub push_reserved-requires-in-loop-worked : goal.push_reserved-requires-in-loop-worked
push_reserved-requires-in-loop-worked g c =
    let long = ended_long _ _ _ c.loop-worked.invariant.ended in
    grind (arith, common_steps, long.1)

pub loop-worked-preserved : goal.loop-worked-preserved
loop-worked-preserved g c =
    let was = c.loop-worked.invariant in
    let end = c.in-Some-into_ended.end in record {
      can_next = tt;
      is_finite = tt;
      room = grind (arith, common_steps);
      passes_room = grind (arith, common_steps);
      drivers = more_yielded _ _ _ c.in-Some.worked _ was.drivers c.in-Some.ensures.steps.0;
      left = (subst (AllByRecursion (λ (w : PassState). IsSome w.1)) c.in-Some.ensures.steps.0 was.left).1;
      ended = rw (c.push_reserved.ensures.items, c.push_reserved-in-loop-worked.ensures.items)
          (ended_more _ _ _ c.in-Some.worked end c.into_pass.result was.ended
          (sym c.into_ended.ensures ∙ (c.in-Some-into_ended.is ∙ ap (λ q. Some (end, q)) (sym c.into_pass.ensures))));
    }
