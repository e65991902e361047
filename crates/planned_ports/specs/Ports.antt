-- What a port knows, and what its calls do to that: `v` is what it knew before, `w` what it knows after.
use Rattle.std.specs.Prelude.{◌≡◌, ℕ, List, [], ◌∷◌, ◌++◌, Option, Some, None, Result, Ok, Err}
use Rattle.std.specs.List.{AllByRecursion}
use Rattle.atomic_table.specs.Seated.{TableId}
use Rattle.slot_types.specs.declared.events.Op.{Op}
use Rattle.die_log.specs.Model.Start.{Start}
use Rattle.planned_log.specs.declared.ask_kinds.AskKind.{AskKind}
use Rattle.ongoing_log.specs.Ongoing.{Ongoing}
use Rattle.turn_lock.specs.declared.view.View.{View}
use Rattle.turn_lock.specs.Log.{entry, calls_by}
use Rattle.turn_lock.specs.Views.{PassView}
use Rattle.turn_lock.specs.Passes.{SeesMore}
use Rattle.ongoing_die.specs.Standing.{StandsAs}
use Rattle.task_outcomes.specs.declared.task_outcome.TaskOutcome.{TaskOutcome}
use Rattle.task_outcomes.specs.OutcomeDies.{OutcomeParts}
use Rattle.task_outcomes.specs.OutcomeMoves.{Told}
use Rattle.planned_ports.specs.declared.calls.Query.{Query}
use Rattle.planned_ports.specs.declared.calls.Query.TheVariants as queries
use Rattle.planned_ports.specs.declared.calls.Request.{Request}
use Rattle.planned_ports.specs.declared.calls.Request.TheVariants as requests
use Rattle.planned_ports.specs.declared.calls.Granted.{Granted}
use Rattle.planned_ports.specs.declared.calls.Granted.TheVariants as granted
use Rattle.planned_ports.specs.declared.calls.Refused.{Refused}
use Rattle.planned_ports.specs.declared.calls.Refused.TheVariants as refused
use Rattle.planned_ports.specs.declared.refusals.AskAtRefused.{AskAtRefused}
use Rattle.planned_ports.specs.declared.refusals.AskAtRefused.TheVariants as ahead
use Rattle.planned_ports.specs.declared.refusals.AskRefused.{AskRefused}
use Rattle.planned_ports.specs.declared.refusals.AskRefused.TheVariants as asks
use Rattle.planned_ports.specs.declared.refusals.OutcomeRefused.{OutcomeRefused}
use Rattle.planned_ports.specs.declared.refusals.OutcomeRefused.TheVariants as outcomes
use Rattle.planned_ports.specs.declared.refusals.SlotRefused.{SlotRefused}
use Rattle.planned_ports.specs.declared.refusals.SlotRefused.TheVariants as slots
use Rattle.planned_ports.specs.declared.pages.PageRange.{PageRange}
use Rattle.planned_ports.specs.Pages.{foreign_page}
use Rattle.planned_ports.specs.Calls.{PortCall, after_calls}
use Rattle.planned_ports.specs.Replies.{IsGranted, IsSharedLog, MayReply, Says, opened_as}

-- what a port knows of its die
abbrev pub PortView : (N : Type 0) → Type 0
PortView N = View Request (Result Granted Refused) (OutcomeParts N)

abbrev pub PortPass : (N : Type 0) → Type 0
PortPass N = PassView Request (Result Granted Refused) (OutcomeParts N)

-- a task's port, as its callers see it: which lock it is of, what it knows, its task, and the pages that it may use
pub record TaskParts (N : Type 0) : Type 0 where
  pub lock : TableId
  pub view : PortView N
  pub task : ℕ
  pub pages : Option PageRange

-- The port's own requests

-- an ask of this task, for a job or for a burst, on pages that the port may use; or an outcome of it
abbrev pub IsOwnAsk : ℕ → Option PageRange → Request → Type 0
IsOwnAsk task pages (requests.Ask kind other ops) = (other ≡ task) × (foreign_page pages ops ≡ None)
IsOwnAsk task pages (requests.AskAt kind other ops at) = (other ≡ task) × (foreign_page pages ops ≡ None)
IsOwnAsk task pages (requests.Outcome other) = other ≡ task
IsOwnAsk task pages requests.Slot = ⊥

-- all that the port was granted are such
abbrev pub HasOwnAsks : {N : Type 0} → TaskParts N → Type 0
HasOwnAsks port = AllByRecursion (λ call. IsOwnAsk port.task port.pages call.event) (calls_by port.view.number port.view.seen)

-- The same port, which knows more
pub record IsSamePort {N : Type 0} (p q : TaskParts N) : Type 0 where
  pub lock : q.lock ≡ p.lock
  pub number : q.view.number ≡ p.view.number
  pub about : q.view.about ≡ p.view.about
  pub task : q.task ≡ p.task
  pub pages : q.pages ≡ p.pages

-- the clock's port, as its callers see it
pub record ClockParts (N : Type 0) : Type 0 where
  pub lock : TableId
  pub view : PortView N

abbrev pub IsSlotRequest : Request → Type 0
IsSlotRequest requests.Slot = Unit {0}
IsSlotRequest _ = ⊥

-- all that it was granted are slots
abbrev pub HasOwnSlots : {N : Type 0} → ClockParts N → Type 0
HasOwnSlots port = AllByRecursion (λ call. IsSlotRequest call.event) (calls_by port.view.number port.view.seen)

pub record IsSameClock {N : Type 0} (p q : ClockParts N) : Type 0 where
  pub lock : q.lock ≡ p.lock
  pub number : q.view.number ≡ p.view.number
  pub about : q.view.about ≡ p.view.about

-- Calls

-- the port has seen what others were granted since, and what it has seen is the log of a shared die
abbrev pub HasGrown : {N : Type 0} → PortView N → PortView N → Type 0
HasGrown = SeesMore IsSharedLog

-- what stands after these calls, of a die that was this when it was opened, whatever stood of it then
abbrev pub StandsSo : {N : Type 0} → OutcomeParts N → List PortCall → (Start → Told → Type 0) → Type 0
StandsSo opened calls Holds = (first : Start) (d : Ongoing) → StandsAs first d opened.die
    → Holds first (after_calls first opened.die.die.terms opened.die.die.life (opened_as opened d) calls)

-- a request that is granted: what was seen grows by what others were granted, and then by this call, as it is granted after
-- those
pub record AddsEntry {N : Type 0} (v : PortView N) (request : Request) (answer : Granted) (w : PortView N) : Type 0 where
  pub before : PortView N
  pub grown : HasGrown v before
  pub view_is : w ≡ record before { seen = before.seen ++ entry v.number request (Ok answer) ∷ [] }
  pub granted : StandsSo grown.topic before.seen (λ first t. IsGranted first grown.topic.die.die.terms grown.topic.die.die.life t v.number request answer)
  pub shared : IsSharedLog grown.topic w.seen
  pub own : calls_by v.number w.seen ≡ calls_by v.number v.seen ++ entry v.number request (Ok answer) ∷ []

-- a request that is refused: what was seen grows by what others were granted, and the die may refuse it so after that
pub record AddsNone {N : Type 0} (v : PortView N) (request : Request) (refusal : Refused) (w : PortView N) : Type 0 where
  pub grown : HasGrown v w
  pub reason : MayReply grown.topic w.seen v.number request (Err refusal)
  pub own : calls_by v.number w.seen ≡ calls_by v.number v.seen

-- the answer to a question, of all that the port has then seen
abbrev pub IsAnswer : {N : Type 0} → Query → PortView N → PortView N → Option ℕ → Type 0
IsAnswer query v w n = (g : HasGrown v w) × Says g.topic w.seen query n

-- the present slot
abbrev pub IsClock : {N : Type 0} → PortView N → PortView N → Option ℕ → Type 0
IsClock v w slot = IsAnswer queries.Clock v w slot

-- an outcome that the task takes is granted as its first; where there is none, so it is after all that the port has then seen
abbrev pub TellsOutcome : {N : Type 0} → TaskParts N → Option TaskOutcome → TaskParts N → Type 0
TellsOutcome p (Some outcome) q = AddsEntry p.view (requests.Outcome p.task) (granted.Outcome outcome) q.view
TellsOutcome p None q = AddsNone p.view (requests.Outcome p.task) refused.NoOutcome q.view

abbrev pub RefusesOutcome : {N : Type 0} → TaskParts N → OutcomeRefused → TaskParts N → Type 0
RefusesOutcome p outcomes.NoMemory q = AddsNone p.view (requests.Outcome p.task) refused.NoMemory q.view
RefusesOutcome p outcomes.LockFull q = AddsNone p.view (requests.Outcome p.task) refused.LockFull q.view

-- Why a task's ask is refused: it is on a page that isn't the port's, and the port knows no more than before; or it is on
-- its own pages, and is refused behind the lock
abbrev pub RefusesTask : {N : Type 0} → AskKind → TaskParts N → List Op → AskRefused → TaskParts N → Type 0
RefusesTask kind p ops (asks.ForeignPage page) q = (foreign_page p.pages ops ≡ Some page) × (q ≡ p)
RefusesTask kind p ops asks.LockFull q = (foreign_page p.pages ops ≡ None) × AddsNone p.view (requests.Ask kind p.task ops) refused.LockFull q.view
RefusesTask kind p ops (asks.Die stop) q = (foreign_page p.pages ops ≡ None) × AddsNone p.view (requests.Ask kind p.task ops) (refused.Ask stop) q.view

abbrev pub RefusesTaskAt : {N : Type 0} → AskKind → TaskParts N → List Op → ℕ → AskAtRefused → TaskParts N → Type 0
RefusesTaskAt kind p ops at (ahead.ForeignPage page) q = (foreign_page p.pages ops ≡ Some page) × (q ≡ p)
RefusesTaskAt kind p ops at ahead.LockFull q =
    (foreign_page p.pages ops ≡ None) × AddsNone p.view (requests.AskAt kind p.task ops at) refused.LockFull q.view
RefusesTaskAt kind p ops at (ahead.Die stop) q =
    (foreign_page p.pages ops ≡ None) × AddsNone p.view (requests.AskAt kind p.task ops at) (refused.AskAt stop) q.view

abbrev pub RefusesClock : {N : Type 0} → ClockParts N → SlotRefused → ClockParts N → Type 0
RefusesClock p slots.LockFull q = AddsNone p.view requests.Slot refused.LockFull q.view
RefusesClock p (slots.Die stop) q = AddsNone p.view requests.Slot (refused.Slot stop) q.view
