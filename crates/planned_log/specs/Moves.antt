-- All that the callers of a die that keeps its plan itself may do: ask, for a job or for a burst, and carry out slots, in
-- whatever order and amount.
use Rattle.std.specs.Prelude.{◌≡◌, ℕ, nat_lt, if◌then◌else◌, List, [], ◌∷◌, map, Option, Some, None}
use Rattle.slot_types.specs.declared.events.Op.{Op}
use Rattle.slot_types.specs.declared.events.Event.TheVariants as events
use Rattle.demand_rules.specs.declared.terms.Terms.{Terms}
use Rattle.die_log.specs.Model.Log.{Log, now}
use Rattle.die_log.specs.Model.Start.{Start}
use Rattle.die_log.specs.Model.Answers.{after_call, run}
use Rattle.die_log.specs.Model.Lives.{Lives, start_after}
use Rattle.planned_log.specs.declared.ask_kinds.AskKind.{AskKind}
use Rattle.planned_log.specs.declared.refusals.AskRefusal.{AskRefusal}
use Rattle.planned_log.specs.AskKinds.{refusal_as, jobs_as, with_jobs}
use Rattle.planned_log.specs.KeptLogs.{collections_at}

pub data Move : Type 0 where
  Ask : (kind : AskKind) (caller task : ℕ) (ops : List Op) → Move
  Slot : (caller : ℕ) → Move

-- all jobs of an ask that isn't refused, and none of one that is
abbrev pub after_ask : Start → Terms → Log → AskKind → ℕ → ℕ → List Op → Option AskRefusal → Log
after_ask start terms log kind caller task ops None = with_jobs start terms log caller task (jobs_as kind ops)
after_ask start terms log kind caller task ops (Some refusal) = log

-- the log with all collections of the present slot
abbrev pub after_own : Start → Terms → Log → ℕ → Log
after_own start terms log caller = run start log (map (λ event. (caller, event)) (collections_at terms.tasks 0 (now log)))

-- an ask that the plan doesn't refuse is a call of the log for each of its jobs; a slot is a call for each collection
-- that comes in it, and one for the slot, until the life ends
abbrev pub after_move : Start → Terms → Lives → ℕ → Log → Move → Log
after_move start terms earlier life log (Ask kind caller task ops) =
    after_ask start terms log kind caller task ops (refusal_as kind start.plan terms life earlier log task ops)
after_move start terms earlier life log (Slot caller) =
    if nat_lt (now log) life then after_call start (after_own start terms log caller) (caller, events.Slot) else log

-- the first move comes first
abbrev pub after_moves : Start → Terms → Lives → ℕ → Log → List Move → Log
after_moves start terms earlier life log [] = log
after_moves start terms earlier life log (move ∷ moves) =
    after_moves start terms earlier life (after_move start terms earlier life log move) moves

-- Lives

-- the logs that the moves of each life leave, the newest first, as the lists of moves are
abbrev pub lives_after : Start → Terms → ℕ → List (List Move) → Lives
lives_after first terms life [] = []
lives_after first terms life (moves ∷ earlier) =
    let lives = lives_after first terms life earlier in
    after_moves (start_after first lives) terms lives life [] moves ∷ lives

-- the moves of each life reach its end
abbrev pub ReachTheEnd : Start → Terms → ℕ → List (List Move) → Type 0
ReachTheEnd first terms life [] = Unit {0}
ReachTheEnd first terms life (moves ∷ earlier) =
    ReachTheEnd first terms life earlier
    × (now (after_moves (start_after first (lives_after first terms life earlier)) terms (lives_after first terms life earlier) life [] moves) ≡ life)
