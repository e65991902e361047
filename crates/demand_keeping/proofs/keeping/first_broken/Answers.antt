use Rattle.std.proofs.Common.{ℕ, List, [], ◌∷◌, length, take, refl, subst, arith}
use Rattle.std.specs.Prelude.{All}
use Rattle.std.specs.List.{AllByRecursion}
use Rattle.std.proofs.lemmas.List.{take_all}
use Rattle.std.proofs.lemmas.List.Elements.{All-from_recursion, recursion_from_All}
use Rattle.std.proofs.lemmas.Option.{slice_get_read}
use Rattle.slot_types.specs.declared.events.Event.{Event}
use Rattle.plan_rules.specs.Keeping.{arrivals}
use Rattle.demand_rules.specs.Keeping.{IsDemanded}
use Rattle.demand_keeping.proofs.Breaking.{alone}
use Rattle.demand_keeping.proofs.Taking.{slots_more, each_more}
use Rattle.demand_keeping.proofs.keeping.first_broken.Goals as goal

pub broken-requires : goal.broken-requires
broken-requires c = c.requires.limits.has

pub returns-in-Some-clause-first : goal.returns-in-Some-clause-first
returns-in-Some-clause-first c =
    alone c.args.plan.now c.args.terms.now c.args.events.now c.loop-i.i c.index-events-i.result
    (slice_get_read c.args.events.now (length c.args.events.now) c.loop-i.i c.index-events-i.result refl c.loop-i-test.true c.index-events-i.is)
    c.loop-i.now c.args.end c.loop-i.invariant.now c.requires.end
    (record {
      limits = c.requires.limits;
      each = subst (λ (n : ℕ). All (IsDemanded c.args.plan.now c.args.terms.now n) (arrivals 0 (take c.loop-i.i c.args.events.now)))
          c.requires.end (All-from_recursion (IsDemanded c.args.plan.now c.args.terms.now c.args.end)
          (arrivals 0 (take c.loop-i.i c.args.events.now)) c.loop-i.invariant.planned);
    })
    c.in-Some.first c.in-Some.ensures.first

pub loop-i-preserved : goal.loop-i-preserved
loop-i-preserved c = record {
  now = omega (
    arith,
    c.loop-i.invariant.now,
    c.slots_in-now.ensures.result,
    slots_more c.args.events.now c.loop-i.i c.index-events-i-in-loop-i.result c.index-events-i-in-loop-i.is c.loop-i-test.true,
  );
  planned = each_more c.args.events.now c.loop-i.i c.index-events-i.result c.index-events-i.is c.loop-i-test.true
      (IsDemanded c.args.plan.now c.args.terms.now c.args.end) c.loop-i.now c.loop-i.invariant.now c.loop-i.invariant.planned
      (recursion_from_All (IsDemanded c.args.plan.now c.args.terms.now c.args.end)
      (arrivals c.loop-i.now (c.index-events-i.result ∷ [])) (c.in_default.ensures.none refl));
}

pub returns-clause-none : goal.returns-clause-none
returns-clause-none c none = record {
  limits = c.requires.limits;
  each = subst (λ (n : ℕ). All (IsDemanded c.args.plan.now c.args.terms.now n) (arrivals 0 c.args.events.now)) c.requires.end
      (All-from_recursion (IsDemanded c.args.plan.now c.args.terms.now c.args.end) (arrivals 0 c.args.events.now)
      (subst (λ (es : List Event). AllByRecursion (IsDemanded c.args.plan.now c.args.terms.now c.args.end) (arrivals 0 es))
      (take_all c.loop-i.i c.args.events.now (omega (arith, c.loop-i-test.false))) c.loop-i.invariant.planned));
}
