use Rattle.std.proofs.Common.{◌≡◌, ◌+◌, Some, ap, subst, sym, ◌∙◌}
use Rattle.std.specs.Prelude.{◌==◌, ◌&&◌, not, option_copied, slice_get}
use Rattle.demand_rules.specs.declared.terms.Terms.{Terms}
use Rattle.flash_die.specs.Memory.{Memory}
use Rattle.die_log.specs.Model.Log.{now}
use Rattle.planned_die.specs.Planned.{Planned}
use Rattle.flashplan_kept_runs.specs.KeptRows.{has_other_times}
use Rattle.flashplan_kept_runs.proofs.Slots.{not_times}
use Rattle.flashplan_kept_runs.proofs.memory_dies.MemoryDie.has_other_times.Goals as goal

pub returns-in-Some : goal.returns-in-Some
returns-in-Some c =
    let die : Planned Memory = c.self.inside.die in
    let own = c.in-Some.own.now in
    let there : slice_get die.terms.tasks c.args.task ≡ Some own =
    ap (λ n. slice_get die.terms.tasks n) (sym c.task.view_is)
    ∙ (ap (λ (t : Terms). slice_get t.tasks c.task.inside.0) (sym c.terms.ensures)
    ∙ (c.get.ensures ∙ ap option_copied c.in-Some.is)) in
    let times : c.are_times.result ≡ ((c.args.release == now die.core.log) && (c.args.due == now die.core.log + own.deadline)) =
    c.are_times.ensures ∙ ap (λ n. (c.args.release == n) && (c.args.due == n + own.deadline)) c.now-now.ensures in
    subst (λ (p : Planned Memory). not c.are_times.result
    ≡ has_other_times p.terms (now p.core.log) c.args.task c.args.release c.args.due) c.self.view_is
    (not_times die.terms (now die.core.log) c.args.task c.args.release c.args.due own c.are_times.result there times)
