-- A life that keeps a plan with bursts, and ends where its periods do.
use Rattle.std.proofs.Common.{zero, suc, ◌+◌, ◌≤◌, [], ◌∷◌, map, arith}
use Rattle.std.proofs.lemmas.List.Elements.{All-from_recursion}
use Rattle.slot_types.specs.Operations.{writes}
use Rattle.plan_rules.specs.Keeping.{arrivals, slots}
use Rattle.demand_rules.specs.Keeping.{comes_in}
use Rattle.demand_rules.proofs.Worked.Bursting.{small, terms, history, keeps, some_of_all}
use Rattle.die_log.specs.Results.PlannedLives.{Calls, events_of_calls}
use Rattle.die_log.specs.Results.DemandedLives.{LeavesOutNone, EndPeriods, all_arrivals, WritesAreFew, KeepDemandPlans}

-- one caller makes all calls
abbrev calls : Calls
calls = map (λ event. (0, event)) history

ends : EndPeriods (small 7) (terms 4) (events_of_calls calls)
ends = record {
  due = All-from_recursion (λ a. a.due ≤ slots history) (arrivals 0 history) (omega arith, (omega arith, (omega arith, tt)));
  none_left_out = none_left_out;
}
  where
    none_left_out : LeavesOutNone (small 7) (terms 4) (slots history)
    none_left_out zero slot lt before multiple = omega (arith, before)
    none_left_out (suc task) slot lt before multiple = absurd (omega (arith, lt))

few : WritesAreFew (small 7) (terms 4) (calls ∷ [])
few zero slot lt = omega (arith, some_of_all (comes_in 0 slot (slot + 20)) (λ a. writes a.ops) (all_arrivals (calls ∷ [])))
few (suc task) slot lt = absurd (omega (arith, lt))

one_life : KeepDemandPlans (small 7) (terms 4) (calls ∷ [])
one_life = (tt, keeps, ends, few)
