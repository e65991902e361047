use Rattle.std.proofs.Common.{◌∙◌, true, false, sym}
use Rattle.event_log.proofs.Pushing.{goes_on_said, goes_on_first, none_of_none}
use Rattle.event_log.proofs.event_log.EventLog.goes_on.Goals as goal

pub returns-then-is_last_caller : goal.returns-then-is_last_caller
returns-then-is_last_caller c =
    c.is_alike.ensures
    ∙ rw (← c.self.view_is) (goes_on_said c.self.inside.deeds.items c.self.inside.callers.items c.self.inside.waivers.items
    (record { caller = c.args.caller; deed = c.args.deed.now; waived = c.args.waived.now }) c.in-Some.last true
    c.self.invariant.0.callers_are (sym c.in-Some.ensures) c.if-is_last_caller.ensures
    (none_of_none c.args.waived.now (sym c.is_empty.ensures ∙ c.if-not-is_empty.false))
    (sym c.self.invariant.0.waives_is ∙ c.if-self.false))

pub returns-else-is_last_caller : goal.returns-else-is_last_caller
returns-else-is_last_caller c =
    c.if-is_last_caller.false
    ∙ rw (← c.self.view_is) (goes_on_said c.self.inside.deeds.items c.self.inside.callers.items c.self.inside.waivers.items
    (record { caller = c.args.caller; deed = c.args.deed.now; waived = c.args.waived.now }) c.in-Some.last false
    c.self.invariant.0.callers_are (sym c.in-Some.ensures) c.if-is_last_caller.ensures
    (none_of_none c.args.waived.now (sym c.is_empty.ensures ∙ c.if-not-is_empty.false))
    (sym c.self.invariant.0.waives_is ∙ c.if-self.false))

pub returns-in-None : goal.returns-in-None
returns-in-None c =
    rw (← c.self.view_is) (sym (goes_on_first c.self.inside.deeds.items c.self.inside.callers.items c.self.inside.waivers.items _
    (sym c.in-None.ensures)))
