-- Calls of a die one after the other.
use Rattle.std.proofs.Common.{List, [], ◌∷◌, ◌++◌, subst}
use Rattle.slot_types.specs.declared.plans.DiePlan.{DiePlan}
use Rattle.task_script.specs.DieRuns.{ScriptCall, DieRun, MakesCalls}

pub ran_more : (plan : DiePlan) (s m t : DieRun) (calls more : List ScriptCall) → MakesCalls plan s calls m → MakesCalls plan m more t
    → MakesCalls plan s (calls ++ more) t
ran_more plan s m t [] more is rest = subst (λ (r : DieRun). MakesCalls plan r more t) is rest
ran_more plan s m t (call ∷ calls) more h rest = (h.0, h.1, ran_more plan h.0 m t calls more h.2 rest)
