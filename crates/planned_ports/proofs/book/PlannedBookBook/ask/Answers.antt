use Rattle.std.proofs.Common.{◌≡◌, ◌∙◌, ap, sym}
use Rattle.std.specs.Box.{box_value}
use Rattle.slot_core.specs.Core.{Core}
use Rattle.planned_die.specs.Planned.{Planned}
use Rattle.ongoing_die.specs.Standing.{OngoingParts}
use Rattle.task_outcomes.specs.OutcomeDies.{OutcomeParts}
use Rattle.planned_ports.proofs.book.PlannedBookBook.ask.Goals as goal

pub returns-then-is_stopped : goal.returns-then-is_stopped
returns-then-is_stopped g c =
    let die : OutcomeParts g.row.N.Denot = box_value c.self.inside.die in
    let said : c.is_stopped.result ≡ die.die.die.core.stopped = c.is_stopped.ensures
    ∙ (ap (λ (k : Core g.row.N.Denot). k.stopped) c.core.ensures
    ∙ (ap (λ (p : Planned g.row.N.Denot). p.core.stopped) c.die-in-Clock.ensures
    ∙ (ap (λ (p : OngoingParts g.row.N.Denot). p.die.core.stopped) c.die.ensures
    ∙ ap (λ (p : OutcomeParts g.row.N.Denot). p.die.die.core.stopped) c.deref.ensures))) in
    rw (← c.self.view_is, c.in-Clock.is) (λ first d s. (die.die, (c.self.invariant.1.moved first d s).0, sym said ∙ c.if-is_stopped.true))
