use Rattle.stepped_plan.proofs.Mounted.{begins_planned, gone_on_at}
use Rattle.stepped_plan.proofs.laws.a_mounted_plan_begins_a_life.Goals as goal

pub returns : goal.returns
returns c = λ pages before erased next acts m end terms longest names p die g h e named on parts part_is.
    begins_planned pages before erased next acts m end terms longest names p.part die g h e named
    (gone_on_at m.plan terms longest end.checkpoint names p.stage die on parts) part_is
