-- How a life goes on, and what waits for the present slot is entered.
use Rattle.std.specs.Prelude.{◌≡◌, ◌⊎◌, ℕ, ◌+◌, ◌<◌, ◌∷◌, Option, Some, None}
use Rattle.demand_rules.specs.declared.terms.Terms.{Terms}
use Rattle.die_log.specs.Model.Log.{Log, now}
use Rattle.die_log.specs.Model.Start.{Start}
use Rattle.die_log.specs.Model.Lives.{Lives}
use Rattle.slot_core.specs.Renewals.{renewed_core}
use Rattle.planned_log.specs.declared.ask_kinds.AskKind.TheVariants as kinds
use Rattle.planned_log.specs.Moves.{Ask, after_move}
use Rattle.ongoing_log.specs.Ongoing.{WaitingAsk}
use Rattle.planned_die.specs.Planned.{Planned, HasLived}

-- The life goes on. It hasn't ended, and nothing changes; or it has, and the next one begins, before anything is entered, and the
-- die has had one life more.
abbrev pub HasLivedOn : {N : Type 0} → Planned N → Planned N → Type 0
HasLivedOn before after =
    ((now before.core.log < before.life) × (after ≡ before))
    ⊎ ((now before.core.log ≡ before.life)
    × (after ≡ record before { core = renewed_core before.core; entered = 0; first = before.first + now before.core.log })
    × ((earlier : Lives) → HasLived before earlier → HasLived after (before.core.log ∷ earlier)))

-- the log after the ask of one task, if one is due: a burst
abbrev pub after_one : Start → Terms → Lives → ℕ → Log → ℕ → Option WaitingAsk → Log
after_one start terms earlier life log task None = log
after_one start terms earlier life log task (Some w) = after_move start terms earlier life log (Ask kinds.Burst w.caller task w.ops)

-- the die but for its log, what is reserved for it, and what it remembers of asks
pub record IsSameDie {N : Type 0} (before after : Planned N) : Type 0 where
  pub start : after.core.start ≡ before.core.start
  pub device : after.core.device ≡ before.core.device
  pub stopped : after.core.stopped ≡ before.core.stopped
  pub terms : after.terms ≡ before.terms
  pub life : after.life ≡ before.life
  pub entered : after.entered ≡ before.entered
  pub first : after.first ≡ before.first
