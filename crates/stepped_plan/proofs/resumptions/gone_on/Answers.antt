use Rattle.stepped_die.proofs.Naming.{is_as_left}
use Rattle.stepped_plan.proofs.GoingOn.{has_gone_on}
use Rattle.stepped_plan.proofs.resumptions.gone_on.Goals as goal

pub resume-requires : goal.resume-requires
resume-requires c = record {
  left = λ shape fits. rw c.in-Ok-left.ensures.left (is_as_left c.args.checkpoint.now c.args.names.now);
}

pub returns-in-Ok-resume-clause-ok : goal.returns-in-Ok-resume-clause-ok
returns-in-Ok-resume-clause-ok c =
    let e = c.in-Ok-resume.ensures in
    has_gone_on c.args.plan c.args.terms c.args.longest c.args.checkpoint.now c.args.names.now c.in-Ok-left.mirror c.in-Ok-resume.die
    c.in-Ok-left.ensures.left e.ok e.begins e.none_waits e.life e.fits e.passes e.stocked e.goes_on e.mounted e.stands
