-- A die behind its lock, as the lock sees it.
use Rattle.std.specs.Prelude.{◌≡◌, ◌≤◌, List, length}
use Rattle.die_log.specs.Model.Start.{Start}
use Rattle.ongoing_log.specs.Ongoing.{Ongoing}
use Rattle.ongoing_die.specs.Standing.{StandsAs}
use Rattle.ongoing_die.specs.OngoingCalls.{HaveOnePlan}
use Rattle.task_outcomes.specs.OutcomeDies.{OutcomeParts}
use Rattle.planned_ports.specs.Calls.{PortCall, after_calls}
use Rattle.planned_ports.specs.Replies.{IsSharedLog, opened_as}

-- the die as it was when its ports were opened, what was granted since, and the die now
pub record SharedDie (N : Type 0) : Type 0 where
  pub opened : OutcomeParts N
  pub calls : List PortCall
  pub die : OutcomeParts N

-- after these calls the die stands as the moves of them say, whatever stood of it before, and its tasks have these outcomes to
-- take
abbrev pub HasMoved : {N : Type 0} → OutcomeParts N → List PortCall → OutcomeParts N → Type 0
HasMoved opened calls die = (first : Start) (d : Ongoing) → StandsAs first d opened.die
    → let t = after_calls first opened.die.die.terms opened.die.die.life (opened_as opened d) calls in
    StandsAs first t.ongoing die.die × (t.queues ≡ die.queues)

pub record IsSharedDie {N : Type 0} (shared : SharedDie N) : Type 0 where
  pub log : IsSharedLog shared.opened shared.calls
  pub moved : HasMoved shared.opened shared.calls shared.die
  pub plan : HaveOnePlan shared.opened.die shared.die.die
  pub few : length shared.calls ≤ 4294967295
