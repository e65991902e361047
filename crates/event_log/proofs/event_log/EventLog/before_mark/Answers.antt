use Rattle.std.proofs.Common.{ap, ◌∙◌, take, List}
use Rattle.std.specs.List.{filter_map}
use Rattle.event_log.specs.declared.deeds.Deed.{Deed}
use Rattle.event_log.specs.Slots.{slot_by}
use Rattle.event_log.specs.SoundLog.{slots_before}
use Rattle.event_log.proofs.Carrying.{carried_is}
use Rattle.event_log.proofs.Marking.{slots-first}
use Rattle.event_log.proofs.event_log.EventLog.before_mark.Goals as goal

pub returns-clause-slots : goal.returns-clause-slots
returns-clause-slots c =
    let deeds : List Deed = c.self.inside.deeds.items in
    rw (← c.self.view_is) (c.new.ensures
    ∙ ap (λ (ds : List Deed). filter_map slot_by ds) c.before_mark.ensures.items
    ∙ slots-first c.self.inside.deeds.marked deeds
    ∙ ap (take (slots_before c.self.inside.deeds.marked deeds)) (carried_is deeds c.self.inside.callers.items c.self.inside.waivers.items
    c.self.invariant.0.callers_are))
