-- Asks whose release lies ahead: what one is answered, and what a task is answered where it asks so, too.
use Rattle.std.specs.Prelude.{◌≡◌, ◌⊎◌, ℕ, ◌+◌, ◌-◌, ◌<◌, ◌≤◌, ◌==◌, nat_lt, if◌then◌else◌, min, List, [], ◌∷◌, ◌++◌, map, Option, Some, None}
use Rattle.slot_types.specs.declared.events.Op.{Op}
use Rattle.slot_types.specs.declared.plans.DiePlan.{DiePlan}
use Rattle.demand_rules.specs.declared.terms.Terms.{Terms}
use Rattle.demand_rules.specs.Demand.{terms_of}
use Rattle.die_log.specs.Model.Log.{Log}
use Rattle.die_log.specs.Model.Start.{Start}
use Rattle.die_log.specs.Model.Lives.{Lives, all_slots}
use Rattle.planned_log.specs.declared.ask_kinds.AskKind.{AskKind}
use Rattle.planned_log.specs.declared.refusals.AskRefusal.{AskRefusal}
use Rattle.planned_log.specs.declared.refusals.AskRefusal.TheVariants as because
use Rattle.planned_log.specs.Asks.{asked_by, refusals_above, first_refusal}
use Rattle.planned_log.specs.AskKinds.{most_of}
use Rattle.planned_log.specs.Laws.{Seen, seen_by}
use Rattle.planned_log.specs.Moves.{Move, Ask, Slot}
use Rattle.ongoing_log.specs.PastLives.{counted}
use Rattle.ongoing_log.specs.Ongoing.{Ongoing, WaitingAsk, waiting_of, start_of, clock_of, Answer, Refused, Waits, Past, TooFarAhead, unless_waits}
use Rattle.ongoing_log.specs.Ongoing.{answer_to, after_answer, ongoing_after_move}

-- Answers

-- why an ask of either kind is refused as at slot `slot` of the life, the present one or a later one, after all that the task
-- asked for so far
abbrev pub refusal_at : AskKind → DiePlan → Terms → ℕ → Lives → Log → (slot task : ℕ) → List Op → Option AskRefusal
refusal_at kind plan terms life earlier log slot task ops =
    first_refusal (refusals_above (most_of kind (terms_of terms task)) plan terms life (all_slots earlier) slot
    (asked_by task (log ∷ earlier)) task ops)

-- the last slot of the clock for which a task may ask, where `first` and `life` are those of the present life: it lies ahead by
-- less than the task's period, and is at most the first one of the next life
abbrev pub last_slot : (clock period first life : ℕ) → ℕ
last_slot clock period first life = min (clock + period - 1) (first + life)

-- an ask that the plan doesn't refuse, and whose jobs would be released in this slot, asked for or a later one
abbrev pub wait_until : (at last deadline : ℕ) → Option WaitingAsk → (release : ℕ) → Answer
wait_until at last deadline waiting release =
    if nat_lt last at then TooFarAhead last else unless_waits waiting (Waits release (release + deadline))

-- Where the plan refuses an ask for slot `at` of the clock for this, or doesn't. If its jobs would be due after the end of the
-- present life, it waits for the next one.
abbrev pub answer_ahead : (at last first life deadline : ℕ) → Option WaitingAsk → Option AskRefusal → Answer
answer_ahead at last first life deadline waiting None = wait_until at last deadline waiting at
answer_ahead at last first life deadline waiting (Some because.LifeEnd) = wait_until at last deadline waiting (first + life)
answer_ahead at last first life deadline waiting (Some refusal) = Refused refusal

-- what an ask for this slot of the clock is answered: for the present one as an ask is
abbrev pub answer_at : Start → Terms → ℕ → Ongoing → AskKind → (task : ℕ) → List Op → (at : ℕ) → Answer
answer_at first terms life d kind task ops at =
    let began = all_slots (counted d.earlier) in
    let t = terms_of terms task in
    if nat_lt at (clock_of d) then Past else
    if at == clock_of d then answer_to first terms life d kind task ops else
    answer_ahead at (last_slot (clock_of d) t.period began life) began life t.deadline (waiting_of d task)
    (refusal_at kind (start_of first d).plan terms life (counted d.earlier) d.log (at - began) task ops)

-- An ask for this slot of the clock waits: the slot isn't over, and lies ahead by less than the task's period. The jobs are
-- released in it; or, where they would be due after the end of the present life, in the first slot of the next one, which
-- comes in fewer slots after it than their deadline has.
pub record IsWaitAhead (terms : Terms) (life : ℕ) (d : Ongoing) (task at release due : ℕ) : Type 0 where
  pub over : clock_of d ≤ at
  pub near : at < clock_of d + (terms_of terms task).period
  pub released : (release ≡ at)
      ⊎ ((release ≡ all_slots (counted d.earlier) + life) × (at < release) × (release < at + (terms_of terms task).deadline))
  pub due_is : due ≡ release + (terms_of terms task).deadline

-- All that callers do

-- a move, or an ask for a slot of the clock
pub data AheadMove : Type 0 where
  Now : Move → AheadMove
  AskAt : (kind : AskKind) (caller task : ℕ) (ops : List Op) (at : ℕ) → AheadMove

abbrev pub ahead_after_move : Start → Terms → ℕ → Ongoing → AheadMove → Ongoing
ahead_after_move first terms life d (Now move) = ongoing_after_move first terms life d move
ahead_after_move first terms life d (AskAt kind caller task ops at) =
    after_answer first terms d kind caller task ops (answer_at first terms life d kind task ops at)

-- the first move comes first
abbrev pub ahead_after : Start → Terms → ℕ → Ongoing → List AheadMove → Ongoing
ahead_after first terms life d [] = d
ahead_after first terms life d (move ∷ moves) = ahead_after first terms life (ahead_after_move first terms life d move) moves

-- What a task is answered

-- what a task is answered by a move: its own ask is answered, and none else
abbrev pub ahead_answer_to : Start → Terms → ℕ → ℕ → Ongoing → AheadMove → List Answer
ahead_answer_to first terms life task d (Now (Ask kind caller other ops)) =
    if other == task then answer_to first terms life d kind task ops ∷ [] else []
ahead_answer_to first terms life task d (Now (Slot caller)) = []
ahead_answer_to first terms life task d (AskAt kind caller other ops at) =
    if other == task then answer_at first terms life d kind task ops at ∷ [] else []

-- and as these moves are made
abbrev pub ahead_answers_to : Start → Terms → ℕ → ℕ → Ongoing → List AheadMove → List Answer
ahead_answers_to first terms life task d [] = []
ahead_answers_to first terms life task d (move ∷ moves) =
    ahead_answer_to first terms life task d move ++ ahead_answers_to first terms life task (ahead_after_move first terms life d move) moves

-- what a task sees of a move: what it sees of one that is made now, or its own ask for a slot of the clock
pub data AheadSeen : Type 0 where
  Sees : Seen → AheadSeen
  AsksAt : (kind : AskKind) (ops : List Op) (at : ℕ) → AheadSeen

abbrev pub ahead_seen_of : ℕ → AheadMove → List AheadSeen
ahead_seen_of task (Now move) = map Sees (seen_by task (move ∷ []))
ahead_seen_of task (AskAt kind caller other ops at) = if other == task then AsksAt kind ops at ∷ [] else []

abbrev pub ahead_seen_by : ℕ → List AheadMove → List AheadSeen
ahead_seen_by task [] = []
ahead_seen_by task (move ∷ moves) = ahead_seen_of task move ++ ahead_seen_by task moves
