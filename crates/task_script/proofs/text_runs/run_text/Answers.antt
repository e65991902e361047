use Rattle.task_script.proofs.AsPlanned.{runs_as_planned}
use Rattle.task_script.proofs.Gathering.{runs_text}
use Rattle.task_script.proofs.InPart.{refuses_or_cuts}
use Rattle.task_script.proofs.text_runs.run_text.Goals as goal

pub returns-in-Ok-clause-ran : goal.returns-in-Ok-clause-ran
returns-in-Ok-clause-ran g c =
    let r = c.in_ok-ran.ensures.ran in
    runs_text _ c.args.plan.now c.args.slots _ _ _ _ r (rw (c.as_slice.ensures.value, r.said_is) at c.in-Ok.ensures.written)

pub returns-in-Ok-clause-planned : goal.returns-in-Ok-clause-planned
returns-in-Ok-clause-planned g c =
    let r = c.in_ok-ran.ensures.ran in
    runs_as_planned _ c.args.plan.now c.args.slots _ _ _ _ c.requires.bound r
    (rw (c.as_slice.ensures.value, r.said_is) at c.in-Ok.ensures.written)

pub returns-clause-refused : goal.returns-clause-refused
returns-clause-refused g c =
    let r = c.in_ok-ran.ensures.ran in
    refuses_or_cuts g.W.Write.contents g.W.Output.has_failed _ c.args.plan.now c.args.slots _ _ _ _ c.in-Err.refusal c.requires.bound r
    (rw (c.as_slice.ensures.value, r.said_is) at c.in-Err.ensures.part) c.in-Err.ensures.failed c.in-Err.ensures.refused
