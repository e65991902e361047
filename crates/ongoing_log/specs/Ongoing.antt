-- A die that goes on by itself: where a life ends it begins the next one, and an ask, for a job or for a burst, that would
-- be due after the end waits for that one. What waits, for that or for a slot that was asked for, enters in its slot. The die
-- may be shut down, and goes on from a checkpoint; or from a mount after a loss of power.
use Rattle.std.specs.Prelude.{◌≡◌, ℕ, ◌+◌, ◌-◌, ◌<◌, ◌≤◌, ◌==◌, if◌then◌else◌, List, [], ◌∷◌, length, map, replicate}
use Rattle.std.specs.Prelude.{Option, Some, None, option_map, slice_index_or, slice_set}
use Rattle.slot_types.specs.declared.events.Op.{Op}
use Rattle.slot_types.specs.declared.plans.DiePlan.{DiePlan}
use Rattle.demand_rules.specs.declared.terms.Terms.{Terms}
use Rattle.demand_rules.specs.Demand.{terms_of}
use Rattle.die_log.specs.Model.Log.{Log, now}
use Rattle.die_log.specs.Model.Start.{Start}
use Rattle.die_log.specs.Model.Lives.{Lives, all_slots}
use Rattle.planned_log.specs.declared.ask_kinds.AskKind.{AskKind}
use Rattle.planned_log.specs.declared.ask_kinds.AskKind.TheVariants as kinds
use Rattle.planned_log.specs.declared.refusals.AskRefusal.{AskRefusal}
use Rattle.planned_log.specs.declared.refusals.AskRefusal.TheVariants as because
use Rattle.planned_log.specs.Asks.{Asked, asked_by, burst_refusals, first_refusal}
use Rattle.planned_log.specs.AskKinds.{refusal_as, jobs_as, with_jobs}
use Rattle.planned_log.specs.Laws.{IsKept}
use Rattle.planned_log.specs.Moves.{Move, Ask, Slot, after_move, after_moves}
use Rattle.ongoing_log.specs.PastLives.{PastLife, Renewed, ShutDown, LostPower, starts_after, counted, HavePassed}

-- What stands

-- an ask that waits: by whom, for what, and until which slot of the clock of all lives
pub record WaitingAsk : Type 0 where
  pub caller : ℕ
  pub ops : List Op
  pub until : ℕ

-- the lives that the die had, the newest first; the log of the present one; and by task the ask that waits
pub record Ongoing : Type 0 where
  pub earlier : List PastLife
  pub log : Log
  pub waiting : List (Option WaitingAsk)

abbrev pub waiting_of : Ongoing → ℕ → Option WaitingAsk
waiting_of d task = slice_index_or d.waiting task None

-- the operations of an ask that waits
abbrev pub ops_of : Option WaitingAsk → Option (List Op)
ops_of ask = option_map (λ (w : WaitingAsk). w.ops) ask

-- all of it but who asked: its slot, and its operations
abbrev pub awaited_of : Option WaitingAsk → Option (ℕ × List Op)
awaited_of ask = option_map (λ (w : WaitingAsk). (w.until, w.ops)) ask

-- a die of so many tasks on which nothing was done since these lives
abbrev pub begun_after : List PastLife → ℕ → Ongoing
begun_after earlier tasks = record { earlier = earlier; log = []; waiting = replicate tasks None }

-- and one on which nothing was ever done
abbrev pub new_ongoing : DiePlan → Ongoing
new_ongoing plan = begun_after [] (length plan.caps)

-- where its present life starts
abbrev pub start_of : Start → Ongoing → Start
start_of first d = starts_after first d.earlier

-- the present slot of the clock of all lives
abbrev pub clock_of : Ongoing → ℕ
clock_of d = all_slots (counted d.earlier) + now d.log

-- Answers

-- what an ask is answered: it is refused for its own task's part of the plan; or its jobs enter, all with this release and
-- this deadline on the clock of all lives; or it waits, to be such jobs; or one of the task waits already; or it is for a slot
-- that is over, or for one after the last that may be asked for
pub data Answer : Type 0 where
  Refused : AskRefusal → Answer
  Enters : (release due : ℕ) → Answer
  Waits : (release due : ℕ) → Answer
  WaitsAlready : Answer
  Past : Answer
  TooFarAhead : (last : ℕ) → Answer

-- where this ask of the task waits, none more is taken
abbrev pub unless_waits : Option WaitingAsk → Answer → Answer
unless_waits None answer = answer
unless_waits (Some w) answer = WaitsAlready

-- Where the plan refuses the ask for this, or doesn't. If its jobs would be due after the end of a life of `life` slots, which
-- began in slot `first` of the clock, it waits for the next one.
abbrev pub answer_by : (first slot life deadline : ℕ) → Option WaitingAsk → Option AskRefusal → Answer
answer_by first slot life deadline waiting None = unless_waits waiting (Enters (first + slot) (first + slot + deadline))
answer_by first slot life deadline waiting (Some because.LifeEnd) = unless_waits waiting (Waits (first + life) (first + life + deadline))
answer_by first slot life deadline waiting (Some refusal) = Refused refusal

abbrev pub answer_to : Start → Terms → ℕ → Ongoing → AskKind → ℕ → List Op → Answer
answer_to first terms life d kind task ops =
    answer_by (all_slots (counted d.earlier)) (now d.log) life (terms_of terms task).deadline (waiting_of d task)
    (refusal_as kind (start_of first d).plan terms life (counted d.earlier) d.log task ops)

-- What a move does

abbrev pub after_answer : Start → Terms → Ongoing → AskKind → (caller task : ℕ) → List Op → Answer → Ongoing
after_answer first terms d kind caller task ops (Enters release due) =
    record d { log = with_jobs (start_of first d) terms d.log caller task (jobs_as kind ops) }
after_answer first terms d kind caller task ops (Waits release due) =
    record d { waiting = slice_set d.waiting task (Some (record { caller = caller; ops = ops; until = release })) }
after_answer first terms d kind caller task ops _ = d

-- what waits, as asks, task by task: a burst each, also where it was asked for as one job
abbrev pub asks_of : ℕ → List (Option WaitingAsk) → List Move
asks_of task [] = []
asks_of task (None ∷ rest) = asks_of (task + 1) rest
asks_of task (Some w ∷ rest) = Ask kinds.Burst w.caller task w.ops ∷ asks_of (task + 1) rest

-- the ask, if it waits for this slot of the clock; and if it doesn't
abbrev pub due_at : ℕ → Option WaitingAsk → Option WaitingAsk
due_at slot None = None
due_at slot (Some w) = if w.until == slot then Some w else None

abbrev pub left_at : ℕ → Option WaitingAsk → Option WaitingAsk
left_at slot None = None
left_at slot (Some w) = if w.until == slot then None else Some w

-- what waits for the present slot enters
abbrev pub let_in : Start → Terms → ℕ → Ongoing → Ongoing
let_in first terms life d = record d {
  log = after_moves (start_of first d) terms (counted d.earlier) life d.log (asks_of 0 (map (due_at (clock_of d)) d.waiting));
  waiting = map (left_at (clock_of d)) d.waiting;
}

-- at the end of a life the next one begins
abbrev pub next_life : Ongoing → Ongoing
next_life d = record d { earlier = record { log = d.log; ended = Renewed } ∷ d.earlier; log = [] }

abbrev pub living_on : ℕ → Ongoing → Ongoing
living_on life d = if now d.log == life then next_life d else d

-- the next slot begins: of the next life, where one has ended; and with what waits for it
abbrev pub going_on : Start → Terms → ℕ → Ongoing → Ongoing
going_on first terms life d = let_in first terms life (living_on life d)

-- a slot of the present life is carried out
abbrev pub carried : Start → Terms → ℕ → Ongoing → (caller : ℕ) → Ongoing
carried first terms life d caller = record d { log = after_move (start_of first d) terms (counted d.earlier) life d.log (Slot caller) }

abbrev pub ongoing_after_move : Start → Terms → ℕ → Ongoing → Move → Ongoing
ongoing_after_move first terms life d (Ask kind caller task ops) =
    after_answer first terms d kind caller task ops (answer_to first terms life d kind task ops)
ongoing_after_move first terms life d (Slot caller) =
    going_on first terms life (carried first terms life d caller)

-- the first move comes first
abbrev pub ongoing_after : Start → Terms → ℕ → Ongoing → List Move → Ongoing
ongoing_after first terms life d [] = d
ongoing_after first terms life d (move ∷ moves) = ongoing_after first terms life (ongoing_after_move first terms life d move) moves

-- what the asks of a task are answered as these moves are made
abbrev pub answers_to : Start → Terms → ℕ → ℕ → Ongoing → List Move → List Answer
answers_to first terms life task d [] = []
answers_to first terms life task d (Ask kind caller other ops ∷ moves) =
    let rest = answers_to first terms life task (ongoing_after_move first terms life d (Ask kind caller other ops)) moves in
    if other == task then answer_to first terms life d kind task ops ∷ rest else rest
answers_to first terms life task d (Slot caller ∷ moves) =
    answers_to first terms life task (ongoing_after_move first terms life d (Slot caller)) moves

-- Shut down, or without power

-- the lives of a die that is shut down now, where this counts as asked for before it goes on; those of a die that loses its
-- power now, and begins here when it is mounted
abbrev pub shut_down : (life : ℕ) → Lives → Ongoing → List PastLife
shut_down life counts d = record { log = d.log; ended = ShutDown life counts } ∷ d.earlier

abbrev pub lost_power : (life : ℕ) → Start → Ongoing → List PastLife
lost_power life next d = record { log = d.log; ended = LostPower life next } ∷ d.earlier

-- What stands of it

-- a life is long enough for a job of each task
pub record AreLongEnough (terms : Terms) (life : ℕ) : Type 0 where
  pub some : 0 < life
  pub jobs : (task : ℕ) → task < length terms.tasks → (terms_of terms task).deadline ≤ life

-- The ask of a task waits in slot `slot` of a life, which began in slot `first` of the clock: for a later slot of the life, or
-- for the first one of the next. As at that slot, after all that the task asked for so far, the plan doesn't refuse it as a
-- burst; or, where it waits for the next life, for the end of this one alone.
pub record IsAwaited (plan : DiePlan) (terms : Terms) (life first slot : ℕ) (asked : List Asked) (task : ℕ) (w : WaitingAsk) : Type 0 where
  pub later : first + slot < w.until
  pub by_end : w.until ≤ first + life
  pub taken : first_refusal (burst_refusals plan terms life first (w.until - first) asked task w.ops)
      ≡ (if w.until == first + life then Some because.LifeEnd else None)

-- All lives but the present one have passed, in time, and quiet but for those in which power was lost. The present log keeps
-- the plan, and its life goes on. What waits will be taken in its slot.
pub record IsOngoing (first : Start) (terms : Terms) (life : ℕ) (d : Ongoing) : Type 0 where
  pub passed : HavePassed first life d.earlier
  pub kept : IsKept (start_of first d) terms (counted d.earlier) life 0 d.log
  pub goes_on : now d.log < life
  pub tasks : length d.waiting ≡ length (start_of first d).plan.caps
  pub waits : (task : ℕ) (w : WaitingAsk) → waiting_of d task ≡ Some w
      → IsAwaited (start_of first d).plan terms life (all_slots (counted d.earlier)) (now d.log) (asked_by task (d.log ∷ counted d.earlier)) task w
