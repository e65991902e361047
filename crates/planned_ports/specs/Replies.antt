-- What a die behind its lock replies to a request.
use Rattle.std.specs.Prelude.{◌≡◌, ◌≢◌, ℕ, ◌<◌, List, [], ◌∷◌, length, Option, Some, None, IsSomeAnd, Result, Ok, Err}
use Rattle.slot_types.specs.declared.events.Op.{Op}
use Rattle.slot_types.specs.declared.events.Event.TheVariants as events
use Rattle.slot_types.specs.declared.replies.Reply.TheVariants as replies
use Rattle.slot_types.specs.declared.replies.SlotReply.{SlotReply}
use Rattle.demand_rules.specs.declared.terms.Terms.{Terms}
use Rattle.die_log.specs.Model.Start.{Start}
use Rattle.die_log.specs.Model.Answers.{answer}
use Rattle.planned_log.specs.declared.ask_kinds.AskKind.{AskKind}
use Rattle.planned_log.specs.AskKinds.{jobs_as}
use Rattle.planned_log.specs.Moves.{after_own}
use Rattle.ongoing_log.specs.Ongoing as rules
use Rattle.ongoing_log.specs.Ongoing.{Ongoing, start_of, clock_of, answer_to}
use Rattle.ongoing_die.specs.declared.answers.Taken.{Taken}
use Rattle.ongoing_die.specs.declared.answers.Taken.TheVariants as taken
use Rattle.ongoing_log.specs.Ahead.{answer_at}
use Rattle.ongoing_die.specs.declared.refusals.AskAtStop.{AskAtStop}
use Rattle.ongoing_die.specs.declared.refusals.AskAtStop.TheVariants as ahead
use Rattle.ongoing_die.specs.declared.refusals.AskStop.{AskStop}
use Rattle.ongoing_die.specs.declared.refusals.AskStop.TheVariants as asks
use Rattle.ongoing_die.specs.declared.refusals.LifeStop.{LifeStop}
use Rattle.ongoing_die.specs.declared.refusals.LifeStop.TheVariants as stops
use Rattle.ongoing_die.specs.declared.refusals.SlotStop.{SlotStop}
use Rattle.ongoing_die.specs.declared.refusals.SlotStop.TheVariants as slots
use Rattle.ongoing_die.specs.Standing.{OngoingParts, StandsAs, IsOngoingDie}
use Rattle.ongoing_die.specs.OngoingCalls.{HasStopped, told}
use Rattle.task_outcomes.specs.Queues.{Queue, queue_of, first_of}
use Rattle.task_outcomes.specs.OutcomeDies.{OutcomeParts}
use Rattle.task_outcomes.specs.OutcomeMoves.{Told, told_after_move}
use Rattle.planned_ports.specs.declared.calls.Query.{Query}
use Rattle.planned_ports.specs.declared.calls.Query.TheVariants as queries
use Rattle.planned_ports.specs.declared.calls.Request.{Request}
use Rattle.planned_ports.specs.declared.calls.Request.TheVariants as requests
use Rattle.planned_ports.specs.declared.calls.Granted.{Granted}
use Rattle.planned_ports.specs.declared.calls.Granted.TheVariants as granted
use Rattle.planned_ports.specs.declared.calls.Refused.{Refused}
use Rattle.planned_ports.specs.declared.calls.Refused.TheVariants as refused
use Rattle.planned_ports.specs.Calls.{PortCall, move_by, move_of, after_calls}

-- What is granted

-- The reply of a slot that is carried out where this stands: that of the log, with all collections of the slot
abbrev pub IsSlotReply : Start → Terms → Ongoing → ℕ → SlotReply → Type 0
IsSlotReply first terms d caller reply =
    let start = start_of first d in answer start (after_own start terms d.log caller) events.Slot ≡ replies.Slot reply

-- the answer of an ask that enters tells how many jobs it has
abbrev pub TellsJobs : AskKind → List Op → Taken → Type 0
TellsJobs kind ops (taken.Enters release due number jobs) = jobs ≡ length (jobs_as kind ops)
TellsJobs kind ops (taken.Waits release due) = Unit {0}

-- where this stands, the request is granted with this answer: an outcome is the first that the task has to take
abbrev pub IsGranted : Start → Terms → ℕ → Told → ℕ → Request → Granted → Type 0
IsGranted first terms life t caller (requests.Ask kind task ops) (granted.Job answer) =
    (answer_to first terms life t.ongoing kind task ops ≡ told answer) × TellsJobs kind ops answer
IsGranted first terms life t caller (requests.AskAt kind task ops at) (granted.Job answer) =
    (answer_at first terms life t.ongoing kind task ops at ≡ told answer) × TellsJobs kind ops answer
IsGranted first terms life t caller requests.Slot (granted.Slot reply) = IsSlotReply first terms t.ongoing caller reply
IsGranted first terms life t caller (requests.Outcome task) (granted.Outcome outcome) = first_of t.queues task ≡ Some outcome
IsGranted first terms life t caller _ _ = ⊥

-- What is refused

-- some die of which this stands takes nothing more
abbrev pub MayHaveStopped : (N : Type 0) → Start → Ongoing → LifeStop → Type 0
MayHaveStopped N first d stop = (parts : OngoingParts N) × StandsAs first d parts × HasStopped parts stop

abbrev pub RefusesAsk : (N : Type 0) → Start → Terms → ℕ → Ongoing → AskKind → ℕ → List Op → AskStop → Type 0
RefusesAsk N first terms life d kind task ops (asks.Ended stop) = MayHaveStopped N first d stop
RefusesAsk N first terms life d kind task ops (asks.Plan refusal) = answer_to first terms life d kind task ops ≡ rules.Refused refusal
RefusesAsk N first terms life d kind task ops asks.WaitsAlready = answer_to first terms life d kind task ops ≡ rules.WaitsAlready

abbrev pub RefusesAskAt : (N : Type 0) → Start → Terms → ℕ → Ongoing → AskKind → ℕ → List Op → ℕ → AskAtStop → Type 0
RefusesAskAt N first terms life d kind task ops at (ahead.Ended stop) = MayHaveStopped N first d stop
RefusesAskAt N first terms life d kind task ops at ahead.Past = answer_at first terms life d kind task ops at ≡ rules.Past
RefusesAskAt N first terms life d kind task ops at (ahead.Plan refusal) = answer_at first terms life d kind task ops at ≡ rules.Refused refusal
RefusesAskAt N first terms life d kind task ops at (ahead.TooFarAhead last) =
    answer_at first terms life d kind task ops at ≡ rules.TooFarAhead last
RefusesAskAt N first terms life d kind task ops at ahead.WaitsAlready = answer_at first terms life d kind task ops at ≡ rules.WaitsAlready

abbrev pub RefusesSlot : (N : Type 0) → Start → Ongoing → SlotStop → Type 0
RefusesSlot N first d (slots.Ended stop) = MayHaveStopped N first d stop
RefusesSlot N first d slots.DeviceFault = Unit {0}

-- the task has no outcome to take; or memory was refused for what the reads of the first one gave
abbrev pub RefusesOutcome : Told → ℕ → Refused → Type 0
RefusesOutcome t task refused.NoOutcome = first_of t.queues task ≡ None
RefusesOutcome t task refused.NoMemory = IsSomeAnd (first_of t.queues task) (λ outcome. outcome.reads ≢ [])
RefusesOutcome t task _ = ⊥

-- where this stands, the die refuses the request for this
abbrev pub IsRefused : (N : Type 0) → Start → Terms → ℕ → Told → Request → Refused → Type 0
IsRefused N first terms life t (requests.Ask kind task ops) (refused.Ask stop) = RefusesAsk N first terms life t.ongoing kind task ops stop
IsRefused N first terms life t (requests.AskAt kind task ops at) (refused.AskAt stop) =
    RefusesAskAt N first terms life t.ongoing kind task ops at stop
IsRefused N first terms life t requests.Slot (refused.Slot stop) = RefusesSlot N first t.ongoing stop
IsRefused N first terms life t (requests.Outcome task) refusal = RefusesOutcome t task refusal
IsRefused N first terms life t _ _ = ⊥

abbrev pub IsReply : (N : Type 0) → Start → Terms → ℕ → Told → ℕ → Request → Result Granted Refused → Type 0
IsReply N first terms life t caller request (Ok answer) = IsGranted first terms life t caller request answer
IsReply N first terms life t caller request (Err refusal) = IsRefused N first terms life t request refusal

-- what stands after the reply: a request that is refused changes nothing
abbrev pub after_reply : Start → Terms → ℕ → Told → ℕ → Request → Result Granted Refused → Told
after_reply first terms life t caller request (Ok answer) = told_after_move first terms life t (move_by caller request)
after_reply first terms life t caller request (Err refusal) = t

-- The shared log

-- an entry was granted where this stood
abbrev pub WasGranted : Start → Terms → ℕ → Told → ℕ → Request → Result Granted Refused → Type 0
WasGranted first terms life t caller request (Ok answer) = IsGranted first terms life t caller request answer
WasGranted first terms life t caller request (Err refusal) = ⊥

-- where this stood before the first call, each was granted as it is where what the calls before it left stands
abbrev pub WereGranted : Start → Terms → ℕ → Told → List PortCall → Type 0
WereGranted first terms life t [] = Unit {0}
WereGranted first terms life t (call ∷ calls) =
    WasGranted first terms life t call.caller call.event call.reply
    × WereGranted first terms life (told_after_move first terms life t (move_of call)) calls

-- what stood when the die was opened, if this stood of the die below
abbrev pub opened_as : {N : Type 0} → OutcomeParts N → Ongoing → Told
opened_as opened d = record { ongoing = d; queues = opened.queues }

-- The log of a die that was shared when it was this: whatever stood of it then, each call was granted after those before
-- it. There is no request among them that was refused.
pub record IsSharedLog {N : Type 0} (opened : OutcomeParts N) (calls : List PortCall) : Type 0 where
  pub is_die : IsOngoingDie opened.die
  pub granted : (first : Start) (d : Ongoing) → StandsAs first d opened.die
      → WereGranted first opened.die.die.terms opened.die.die.life (opened_as opened d) calls

-- What a die replies that was shared when it was this, after these calls: as it stands there; and where there are as many
-- calls as a lock takes, it is refused for that, before anything else.
abbrev pub MayReply : {N : Type 0} → OutcomeParts N → List PortCall → ℕ → Request → Result Granted Refused → Type 0
MayReply opened calls caller request (Err refused.LockFull) = length calls ≡ 4294967295
MayReply {N} opened calls caller request reply =
    (length calls < 4294967295) × ((first : Start) (d : Ongoing) → StandsAs first d opened.die
    → let terms = opened.die.die.terms in let life = opened.die.die.life in
    IsReply N first terms life (after_calls first terms life (opened_as opened d) calls) caller request reply)

-- Questions

-- the present slot of the clock of all lives; none where a fault has stopped the die
abbrev pub SaysClock : {N : Type 0} → OutcomeParts N → List PortCall → Option ℕ → Type 0
SaysClock opened calls (Some slot) = (first : Start) (d : Ongoing) → StandsAs first d opened.die
    → slot ≡ clock_of (after_calls first opened.die.die.terms opened.die.die.life (opened_as opened d) calls).ongoing
SaysClock {N} opened calls None = (first : Start) (d : Ongoing) → StandsAs first d opened.die
    → MayHaveStopped N first (after_calls first opened.die.die.terms opened.die.die.life (opened_as opened d) calls).ongoing stops.DieStopped

-- how many outcomes a task has to take, or how many of its were dropped
abbrev pub SaysOutcomes : {N : Type 0} → (Queue → ℕ) → OutcomeParts N → List PortCall → (task : ℕ) → Option ℕ → Type 0
SaysOutcomes count opened calls task (Some n) = (first : Start) (d : Ongoing) → StandsAs first d opened.die
    → n ≡ count (queue_of (after_calls first opened.die.die.terms opened.die.die.life (opened_as opened d) calls).queues task)
SaysOutcomes count opened calls task None = ⊥

-- the answer to each question
abbrev pub Says : {N : Type 0} → OutcomeParts N → List PortCall → Query → Option ℕ → Type 0
Says opened calls queries.Clock n = SaysClock opened calls n
Says opened calls (queries.Outcomes task) n = SaysOutcomes (λ q. length q.kept) opened calls task n
Says opened calls (queries.Dropped task) n = SaysOutcomes (λ q. q.dropped) opened calls task n
