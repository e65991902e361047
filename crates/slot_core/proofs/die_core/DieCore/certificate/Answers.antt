use Rattle.std.proofs.Common.{◌≡◌, Some, sym, ◌∙◌}
use Rattle.die_log.specs.Model.Start.{over}
use Rattle.die_log.specs.Model.Opening.{IsOpening}
use Rattle.die_log.specs.Model.Answers.{IsExact}
use Rattle.event_log.specs.Slots.{carried_in}
use Rattle.slot_core.specs.Outcomes.{worst_of}
use Rattle.slot_core.specs.TableLog.{log_of}
use Rattle.slot_core.proofs.Telling.{numbers_reported}
use Rattle.slot_core.proofs.Certifying.{ok_where, walk_rows, walk_length, walk_certifies, no_certificate, none_said, worst_said, holds_said}
use Rattle.slot_core.proofs.Certifying.{binds_said, some_done}
use Rattle.slot_core.proofs.die_core.DieCore.certificate.Goals as goal

-- The walk

pub busy_interval-requires-clause-rise : goal.busy_interval-requires-clause-rise
busy_interval-requires-clause-rise g c =
    walk_rows (over c.self.inside.volume.accounts.plan c.self.inside.start) (log_of c.self.inside.table c.self.inside.events.notes)
    c.self.inside.table.jobs c.self.invariant.0.kept.bound c.self.invariant.0.kept.exact c.self.invariant.0.kept.jobs_are

pub busy_interval-requires-clause-len : goal.busy_interval-requires-clause-len
busy_interval-requires-clause-len g c =
    let worst_is : Some c.in-Some.worst ≡ worst_of c.self.inside.volume.accounts.plan (log_of c.self.inside.table c.self.inside.events.notes) =
    rw (← c.self.view_is) at (sym c.in-Some.is ∙ c.worst.ensures) in
    walk_length (over c.self.inside.volume.accounts.plan c.self.inside.start) (log_of c.self.inside.table c.self.inside.events.notes)
    c.self.inside.table.jobs c.in-Some.worst c.before_mark.result c.self.inside.events.marked c.self.invariant.0.kept.bound
    c.self.invariant.0.kept.exact c.self.invariant.0.kept.jobs_are c.self.invariant.2 worst_is c.before_mark.ensures.len

pub returns-in-None-clause-none : goal.returns-in-None-clause-none
returns-in-None-clause-none g c =
    let bound : IsOpening c.args.self.now.start = rw (← c.self.view_is) c.self.invariant.0.kept.bound in
    let exact : IsExact c.args.self.now.start c.args.self.now.log = rw (← c.self.view_is) c.self.invariant.0.kept.exact in
    none_said c.args.self.now.start c.args.self.now.log _ bound exact
    (no_certificate c.args.self.now.start.plan c.args.self.now.log (sym c.in-None.is ∙ c.worst.ensures))

pub returns-in-Some-clause-ok : goal.returns-in-Some-clause-ok
returns-in-Some-clause-ok g c =
    let worst_is : Some c.in-Some.worst ≡ worst_of c.self.inside.volume.accounts.plan (log_of c.self.inside.table c.self.inside.events.notes) =
    rw (← c.self.view_is) at (sym c.in-Some.is ∙ c.worst.ensures) in
    rw (← c.self.view_is) (ok_where c.busy_interval.result _ _ c.busy_interval.ensures.ok (λ built is. is
    ∙ walk_certifies (over c.self.inside.volume.accounts.plan c.self.inside.start) (log_of c.self.inside.table c.self.inside.events.notes)
    c.self.inside.table.jobs c.in-Some.worst c.before_mark.result (carried_in c.self.inside.events.notes) c.self.inside.events.marked
    c.self.invariant.0.kept.bound c.self.invariant.0.kept.exact c.self.invariant.0.kept.jobs_are c.self.invariant.2 worst_is
    c.before_mark.ensures.slots (sym (numbers_reported c.self.inside.table.jobs c.self.inside.events.notes))))

pub returns-in-Some-clause-none : goal.returns-in-Some-clause-none
returns-in-Some-clause-none g c =
    let bound : IsOpening c.args.self.now.start = rw (← c.self.view_is) c.self.invariant.0.kept.bound in
    let exact : IsExact c.args.self.now.start c.args.self.now.log = rw (← c.self.view_is) c.self.invariant.0.kept.exact in
    ok_where c.busy_interval.result _ _ (returns-in-Some-clause-ok g c)
    (λ built. none_said c.args.self.now.start c.args.self.now.log built bound exact)

pub returns-in-Some-clause-worst : goal.returns-in-Some-clause-worst
returns-in-Some-clause-worst g c =
    let bound : IsOpening c.args.self.now.start = rw (← c.self.view_is) c.self.invariant.0.kept.bound in
    let exact : IsExact c.args.self.now.start c.args.self.now.log = rw (← c.self.view_is) c.self.invariant.0.kept.exact in
    ok_where c.busy_interval.result _ _ (returns-in-Some-clause-ok g c)
    (λ built. worst_said c.args.self.now.start c.args.self.now.log built bound exact)

pub returns-in-Some-clause-holds : goal.returns-in-Some-clause-holds
returns-in-Some-clause-holds g c =
    let bound : IsOpening c.args.self.now.start = rw (← c.self.view_is) c.self.invariant.0.kept.bound in
    let exact : IsExact c.args.self.now.start c.args.self.now.log = rw (← c.self.view_is) c.self.invariant.0.kept.exact in
    ok_where c.busy_interval.result _ _ (returns-in-Some-clause-ok g c)
    (λ built. holds_said c.args.self.now.start c.args.self.now.log built bound exact)

pub returns-in-Some-clause-binds : goal.returns-in-Some-clause-binds
returns-in-Some-clause-binds g c =
    let bound : IsOpening c.args.self.now.start = rw (← c.self.view_is) c.self.invariant.0.kept.bound in
    let exact : IsExact c.args.self.now.start c.args.self.now.log = rw (← c.self.view_is) c.self.invariant.0.kept.exact in
    ok_where c.busy_interval.result _ _ (returns-in-Some-clause-ok g c)
    (λ built. binds_said c.args.self.now.start c.args.self.now.log built bound exact)

pub returns-in-Some-clause-nothing : goal.returns-in-Some-clause-nothing
returns-in-Some-clause-nothing g c = λ nothing. absurd
    (some_done c.args.self.now.start.plan c.args.self.now.log c.in-Some.worst (sym c.in-Some.is ∙ c.worst.ensures) nothing)
