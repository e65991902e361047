-- A job and a burst that were asked for are asks of their kinds.
use Rattle.std.proofs.Common.{ℕ, List, Result, Ok, Err, refl}
use Rattle.slot_types.specs.declared.events.Op.{Op}
use Rattle.die_log.specs.Model.Lives.{Lives}
use Rattle.planned_log.specs.declared.ask_kinds.AskKind.TheVariants as kinds
use Rattle.planned_log.specs.declared.refusals.AskRefusal.{AskRefusal}
use Rattle.planned_die.specs.declared.bursts.Burst.{Burst}
use Rattle.planned_die.specs.Planned.{Planned}
use Rattle.planned_die.specs.PlannedCalls.{HasAsked, IsBurst}
use Rattle.ongoing_die.specs.DieAsks.{HasAskedFor, IsDieAsk}

module _ {N : Type 0} (caller task : ℕ) (ops : List Op) (earlier : Lives) (before after : Planned N) where
  pub one_asked : (number : ℕ) → HasAsked caller task ops earlier number before after
      → HasAskedFor kinds.Job caller task ops earlier (record { first = number; jobs = 1 }) before after
  one_asked number h = record { ran = h.ran; unrefused = h.unrefused; asked = (after, (h, refl)); counted = refl }

  pub all_asked : (result : Result Burst AskRefusal) → IsBurst caller task ops earlier result before after
      → IsDieAsk kinds.Burst caller task ops earlier result before after
  all_asked (Ok burst) h = record { ran = h.ran; unrefused = h.unrefused; asked = h.asked; counted = h.counted }
  all_asked (Err refusal) h = h
