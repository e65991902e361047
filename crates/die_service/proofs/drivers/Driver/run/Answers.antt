use Rattle.std.proofs.Common.{◌+◌, ◌<◌, ap, refl, subst, sym, arith, rules}
use Rattle.die_service.specs.Drives.{WorkerState}
use Rattle.die_service.specs.Work.{WorksDue, WorksSlot}
use Rattle.die_service.proofs.Asking.{starts, goes_on, gives_up, ends}
use Rattle.die_service.proofs.drivers.Driver.run.Goals as goal

pub loop-done-init : goal.loop-done-init
loop-done-init g c = starts g.W.Work.does c.args.number c.args.from c.args.slots c.args.self.now c.requires

pub take_slot-requires : goal.take_slot-requires
take_slot-requires g c =
    let few : c.args.slots < 4294967296 = search rules in
    omega (arith, c.loop-done-test.true, few, c.bring_due.ensures.slots, c.loop-done.invariant.slots_are, ap (λ s. s.slots) c.self.view_is)

pub loop-done-preserved : goal.loop-done-preserved
loop-done-preserved g c =
    let due = subst (WorksDue g.W.Work.does c.loop-done.clock c.loop-done.self) (sym c.self.view_is) c.bring_due.ensures in
    let at : WorkerState g.row.W.Denot = record {
      work = c.before-in-loop-done.new.self;
      course = c.self.inside.course;
      slots = c.self.inside.slots;
      stop = c.self.inside.stop;
    } in
    goes_on g.W.Work.does c.args.number c.args.from c.args.slots c.loop-done._done c.loop-done.clock c.args.self.now
    c.loop-done.self _ c.loop-done.invariant due _ c.before-in-loop-done.ensures c.loop-done-test.true
    c.in-Some.slot (c.in-Some.slot + 1) _ _
    (subst (λ t. WorksSlot g.W.Work.does at c.in-Some.slot t) (sym c.self-in-loop-done.view_is) c.in-Some.ensures.taken) c.after.ensures refl refl

pub returns-in_default : goal.returns-in_default
returns-in_default g c =
    let due = subst (WorksDue g.W.Work.does c.loop-done.clock c.loop-done.self) (sym c.self.view_is) c.bring_due.ensures in
    gives_up g.W.Work.does c.args.number c.args.from c.args.slots c.loop-done._done c.loop-done.clock c.args.self.now
    c.loop-done.self _ c.loop-done.invariant due _ c.before-in-loop-done.ensures c.loop-done-test.true
    c.take_slot.new.self c.in_default.ensures.stopped

pub returns : goal.returns
returns g c =
    ends g.W.Work.does c.args.number c.args.from c.args.slots c.loop-done._done c.loop-done.clock c.args.self.now
    c.loop-done.self c.bring_due-2.new.self c.loop-done.invariant c.bring_due-2.ensures
    (omega (arith, c.loop-done-test.false, c.loop-done.auto._done-end))
