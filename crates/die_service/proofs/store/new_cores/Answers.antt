use Rattle.std.proofs.Common.{◌+◌, ◌∷◌, [], ◌++◌, All, arith, length, map, refl, sym, ap, ◌∙◌, subst, ℕ}
use Rattle.std.proofs.lemmas.List.{length-append, map-append}
use Rattle.std.proofs.lemmas.List.Elements.{All-push}
use Rattle.std.specs.List.{AllZip}
use Rattle.std.specs.Vec.Iter.{into_iter_items}
use Rattle.die_log.specs.Model.Start.{fresh}
use Rattle.die_service.specs.Stores.{HasUsablePlans, IsAtStart}
use Rattle.slot_types.specs.declared.plans.DiePlan.{DiePlan}
use Rattle.die_service.proofs.LastPasses.{more_yielded}
use Rattle.die_service.proofs.Making.{IsReady, all_ready, start_of}
use Rattle.die_service.proofs.store.new_cores.Goals as goal

pub loop-plan-init : goal.loop-plan-init
loop-plan-init g c =
    let served : HasUsablePlans c.args.plans.items (length c.args.nands.items) =
    subst (λ (n : ℕ). HasUsablePlans c.args.plans.items n) c.args.nands.ok.0 c.requires.served in record {
      can_next = tt;
      is_finite = tt;
      room = omega (arith, c.in_ok-cores.ensures.exact, c.len.ensures);
      plans = sym c.into_iter-plan-iterator.ensures.into_iter_gives.0;
      cores = c.in_ok-cores.ensures.len;
      starts = rw c.in_ok-cores.ensures.items refl;
      at_start = rw c.in_ok-cores.ensures.items (λ k d h. absurd (omega (arith, h)));
      ready = rw (c.into_iter-plan-iterator.ensures.into_iter_gives.0, c.into_iter-nands.ensures.rest)
          (all_ready g.N.Nand.shape_of g.N.Nand.blocks g.N.Nand.failures c.args.plans.items c.args.nands.items c.requires.fresh
          c.requires.fit served);
    }

pub loop-plan-preserved : goal.loop-plan-preserved
loop-plan-preserved g c =
    let i = c.loop-plan.invariant in
    let step = c.in-Some.ensures.steps.0 in
    let core = c.in_ok-new_core.field-0 in
    let pushed = c.push_reserved.ensures in
    let r = IsReady g.N.Nand.shape_of g.N.Nand.blocks g.N.Nand.failures in
    let ready = subst (λ ps. AllZip r ps (into_iter_items c.loop-plan.nands)) step i.ready in
    let both = subst (λ ns. AllZip r (c.in-Some.plan ∷ into_iter_items c.next.new.self) ns) c.in-Some-next.ensures.items ready in record {
      can_next = tt;
      is_finite = tt;
      room = pushed.capacity ∙ i.room;
      plans = more_yielded {A = DiePlan} _ c.loop-plan.yielded _ c.in-Some.plan _ i.plans step;
      cores = pushed.len ∙ (ap (λ n. n + 1) i.cores ∙ sym (length-append c.loop-plan.yielded (c.in-Some.plan ∷ [])));
      starts = ap (map start_of) pushed.items ∙ map-append start_of c.loop-plan.cores.items (core ∷ [])
          ∙ ap (λ l. l ++ core.start ∷ []) i.starts
          ∙ ap (λ s. map fresh c.loop-plan.yielded ++ s ∷ []) c.in_ok-new_core.ensures.start
          ∙ sym (map-append fresh c.loop-plan.yielded (c.in-Some.plan ∷ []));
      at_start = subst (λ l. All IsAtStart l) (sym pushed.items)
          (All-push IsAtStart c.loop-plan.cores.items core i.at_start c.in_ok-new_core.ensures.at_start);
      ready = both.1;
    }
