use Rattle.std.proofs.Common.{map, ap, sym, ◌∙◌}
use Rattle.slot_types.specs.declared.replies.Reply.TheVariants as replies
use Rattle.demand_rules.specs.declared.terms.Terms.{Terms}
use Rattle.planned_die.specs.Planned.{Planned}
use Rattle.task_outcomes.specs.Told.{told_by}
use Rattle.task_outcomes.specs.Queues.{Queue, room_for, with_told}
use Rattle.task_outcomes.proofs.Rooms.{told_rooms}
use Rattle.task_outcomes.proofs.Slots.{tells}
use Rattle.task_outcomes.proofs.outcome_die.OutcomeDie.fill_slot.Goals as goal

pub invariant_of-self : goal.invariant_of-self
invariant_of-self g c =
    ap (map (λ (q : Queue). q.room)) c.note.ensures
    ∙ (told_rooms c.self.inside.outcomes _
    ∙ (c.self.invariant ∙ ap (λ (t : Terms). map room_for t.tasks) (sym c.in-Ok.ensures.plan.terms)))

pub returns-in-Ok-clause-slot : goal.returns-in-Ok-clause-slot
returns-in-Ok-clause-slot g c = rw (← c.self.view_is) c.in-Ok.ensures.slot

pub returns-in-Ok-clause-told : goal.returns-in-Ok-clause-told
returns-in-Ok-clause-told g c =
    let queues = c.self.inside.outcomes in
    rw (← c.self.view_is) (λ first d s.
    c.note.ensures
    ∙ (ap (λ (p : Planned g.row.N.Denot). with_told queues (told_by p.core.start p.first p.core.log (replies.Slot c.fill_slot.new.reply))) c.die.ensures
    ∙ ap (with_told queues) (tells g.N.Nand.ends g.N.Nand.failures g.N.Nand.never_fails c.args.caller first d c.fill_slot.new.reply
    c.self.inside.die c.fill_slot.new.self (c.in-Ok.ensures.slot first d s))))
