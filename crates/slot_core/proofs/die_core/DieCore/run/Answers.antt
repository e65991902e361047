use Rattle.die_log.specs.Model.Opening.{IsOpening}
use Rattle.die_log.specs.Model.Answers.{IsExact}
use Rattle.slot_core.proofs.Planning.{planned_run, if_ok}
use Rattle.slot_core.proofs.Accepting.{accepted_until_fault}
use Rattle.slot_core.proofs.Adding.{run_grows}
use Rattle.slot_core.proofs.die_core.DieCore.run.Goals as goal

pub returns-clause-only : goal.returns-clause-only
returns-clause-only g c =
    let exact : IsExact c.args.self.now.start c.args.self.now.log = rw (← c.self.view_is) c.self.invariant.0.kept.exact in
    if_ok _ _ c.answer_each.result
    (λ replies ran. run_grows g.N.Nand.ends g.N.Nand.failures g.N.Nand.never_fails c.args.self.now c.answer_each.new.self c.args.events replies
    exact ran)
    c.answer_each.ensures.ran

pub returns-clause-accepted : goal.returns-clause-accepted
returns-clause-accepted g c =
    let bound : IsOpening c.args.self.now.start = rw (← c.self.view_is) c.self.invariant.0.kept.bound in
    if_ok _ _ c.answer_each.result
    (λ replies ran. accepted_until_fault g.N.Nand.ends g.N.Nand.failures g.N.Nand.never_fails c.args.self.now c.answer_each.new.self
    c.args.events replies bound ran)
    c.answer_each.ensures.ran

pub returns-clause-in_time : goal.returns-clause-in_time
returns-clause-in_time g c =
    let bound : IsOpening c.args.self.now.start = rw (← c.self.view_is) c.self.invariant.0.kept.bound in
    if_ok _ _ c.answer_each.result
    (λ replies ran. planned_run g.N.Nand.ends g.N.Nand.failures g.N.Nand.never_fails c.args.self.now c.answer_each.new.self c.args.events
    replies bound ran)
    c.answer_each.ensures.ran
