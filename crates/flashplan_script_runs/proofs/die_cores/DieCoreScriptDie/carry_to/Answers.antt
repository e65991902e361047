use Rattle.std.proofs.Common.{arith, Err, sym, ◌∙◌}
use Rattle.slot_types.specs.declared.events.Event.TheVariants as events
use Rattle.flashplan_script_runs.specs.RunningDies.{running_of}
use Rattle.flashplan_script_runs.proofs.Calls.{slot_carried, slot_refused, stays_well, way_goes_on}
use Rattle.flashplan_script_runs.proofs.die_cores.DieCoreScriptDie.carry_to.Goals as goal

pub returns-in-Err-2-clause-refused : goal.returns-in-Err-2-clause-refused
returns-in-Err-2-clause-refused g c =
    (slot_refused c.in-Err.field-0 c.loop-present.self c.note_slot.new.self
    (omega (arith, c.loop-present.invariant.clock, c.loop-present-test.true, c.requires.few)) c.in-Err.ensures).memory
    (sym c.is_stopped.ensures ∙ c.if-is_stopped.false)

pub loop-present-preserved : goal.loop-present-preserved
loop-present-preserved g c =
    way_goes_on c.args.slot c.loop-present._present (running_of c.args.self.now) (running_of c.loop-present.self)
    (running_of c.note_slot.new.self) c.loop-present-test.true c.loop-present.invariant
    (slot_carried c.in-Ok.field-0 c.loop-present.self c.note_slot.new.self c.in-Ok.ensures)

pub returns-clause-well : goal.returns-clause-well
returns-clause-well g c = λ well. (well.0, c.loop-present.invariant.stopped_stays ∙ well.1)

pub returns-in-Err-clause-well : goal.returns-in-Err-clause-well
returns-in-Err-clause-well g c = λ well.
    stays_well events.Slot (Err c.in-Err.field-0) c.loop-present.self c.note_slot.new.self c.in-Err.ensures
    (well.0, c.loop-present.invariant.stopped_stays ∙ well.1)

pub returns-in-Err-2-clause-well : goal.returns-in-Err-2-clause-well
returns-in-Err-2-clause-well g c = λ well.
    stays_well events.Slot (Err c.in-Err.field-0) c.loop-present.self c.note_slot.new.self c.in-Err.ensures
    (well.0, c.loop-present.invariant.stopped_stays ∙ well.1)
