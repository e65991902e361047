-- The die that is closed.
use Rattle.std.specs.Prelude.{◌≡◌, ◌⊎◌, ℕ, ◌-◌, ◌<◌, ◌≤◌, List, [], length, All, Some}
use Rattle.std.specs.List.{AllByRecursion}
use Rattle.slot_types.specs.declared.refusals.Refusal.{Refusal}
use Rattle.slot_types.specs.declared.refusals.Refusal.TheVariants.{PassesOut}
use Rattle.turn_lock.specs.Log.{calls_by, StartsWith}
use Rattle.turn_lock.specs.Passes.{IsOut}
use Rattle.ongoing_die.specs.OngoingCalls.{HaveOnePlan}
use Rattle.task_outcomes.specs.OutcomeDies.{OutcomeParts}
use Rattle.planned_ports.specs.Calls.{PortCall}
use Rattle.planned_ports.specs.Replies.{IsSharedLog}
use Rattle.planned_ports.specs.Shared.{HasMoved}
use Rattle.planned_ports.specs.Ports.{PortView, PortPass, TaskParts}

-- The die is given back: of this log its ports had all seen a beginning, it is the log of a die that was shared, and the
-- die stands as after its calls.
pub record IsGivenBack {N : Type 0} (clock : PortView N) (tasks : List (TaskParts N)) (die : OutcomeParts N) : Type 0 where
  pub opened : OutcomeParts N
  pub calls : List PortCall
  pub about : clock.about ≡ Some opened
  pub shared : IsSharedLog opened calls
  pub moved : HasMoved opened calls die
  pub plan : HaveOnePlan opened.die die.die
  pub clock_saw : StartsWith calls clock.seen
  pub tasks_saw : All (λ (port : TaskParts N). StartsWith calls port.view.seen) tasks

-- fewer ports were given than are out, and all are handed back
pub record ArePassesOut {N : Type 0} (clock : PortView N) (tasks : List (TaskParts N)) (refusal : Refusal) (after : PortView N) (kept : List (TaskParts N)) : Type 0 where
  pub out : ℕ
  pub counted : IsOut IsSharedLog clock out after
  pub fewer : length tasks < out
  pub missing : refusal ≡ PassesOut (out - length tasks)
  pub back : kept ≡ tasks

-- as many were given as were out, which are joined, and yet some are out
pub record AreJoined {N : Type 0} (clock : PortView N) (tasks : List (TaskParts N)) (refusal : Refusal) (kept : List (TaskParts N)) : Type 0 where
  pub before : PortView N
  pub out : ℕ
  pub counted : IsOut IsSharedLog clock out before
  pub enough : out ≤ length tasks
  pub some : (still : ℕ) × (0 < still) × (refusal ≡ PassesOut still)
  pub none_back : kept ≡ []

abbrev pub StaysShared : {N : Type 0} → PortView N → List (TaskParts N) → Refusal → PortView N → List (TaskParts N) → Type 0
StaysShared clock tasks refusal after kept = ArePassesOut clock tasks refusal after kept ⊎ AreJoined clock tasks refusal kept

-- the passes of these tasks are joined into the clock's, which has then seen all that they had, and nothing more of its own
pub record HaveJoined {N : Type 0} (v : PortPass N) (tasks : List (TaskParts N)) (w : PortPass N) : Type 0 where
  pub lock : w.lock ≡ v.lock
  pub number : w.view.number ≡ v.view.number
  pub about : w.view.about ≡ v.view.about
  pub own : calls_by v.view.number w.view.seen ≡ calls_by v.view.number v.view.seen
  pub saw : StartsWith w.view.seen v.view.seen
  pub tasks_saw : AllByRecursion (λ (port : TaskParts N). StartsWith w.view.seen port.view.seen) tasks
