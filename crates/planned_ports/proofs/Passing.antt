-- What a call in the turn tells its port.
use Rattle.std.proofs.Common.{◌≡◌, ℕ, List, [], ◌∷◌, ◌++◌, Result, Ok, Err, IfOk, IfErr, Option, None, if◌then◌else◌, refl, sym, ◌∙◌, subst}
use Rattle.std.proofs.lemmas.List.{append-nil}
use Rattle.std.specs.Prelude.{is_ok}
use Rattle.std.specs.List.{AllByRecursion}
use Rattle.slot_types.specs.declared.events.Op.{Op}
use Rattle.planned_log.specs.declared.ask_kinds.AskKind.{AskKind}
use Rattle.turn_lock.specs.Log.{entry, calls_by}
use Rattle.turn_lock.specs.Passes.{Replies}
use Rattle.planned_ports.specs.declared.calls.Request.{Request}
use Rattle.planned_ports.specs.declared.calls.Request.TheVariants as requests
use Rattle.planned_ports.specs.declared.calls.Granted.{Granted}
use Rattle.planned_ports.specs.declared.calls.Granted.TheVariants as granted
use Rattle.planned_ports.specs.declared.calls.Refused.{Refused}
use Rattle.planned_ports.specs.declared.calls.Refused.TheVariants as refused
use Rattle.planned_ports.specs.Calls.{PortCall}
use Rattle.planned_ports.specs.Replies.{IsSharedLog, MayReply}
use Rattle.planned_ports.specs.declared.refusals.AskAtRefused.{AskAtRefused}
use Rattle.planned_ports.specs.declared.refusals.AskRefused.{AskRefused}
use Rattle.task_outcomes.specs.declared.task_outcome.TaskOutcome.{TaskOutcome}
use Rattle.planned_ports.specs.declared.refusals.OutcomeRefused.{OutcomeRefused}
use Rattle.planned_ports.specs.declared.refusals.SlotRefused.{SlotRefused}
use Rattle.planned_ports.specs.Pages.{foreign_page}
use Rattle.planned_ports.specs.Ports.{PortView, TaskParts, ClockParts, AddsEntry, AddsNone, IsOwnAsk, IsSlotRequest, HasOwnAsks, HasOwnSlots}
use Rattle.planned_ports.specs.Ports.{RefusesTask, RefusesTaskAt, RefusesClock, TellsOutcome, RefusesOutcome}
use Rattle.planned_ports.specs.Unwrapping.{IsJob, IsSlot, IsOutcome, RefusesAsks, RefusesAsksAt, RefusesSlots, RefusesOutcomes, IsAskRefusal, IsAskAtRefusal, IsSlotRefusal, IsNoOutcome}

pub all_push : {X : Type 0} (P : X → Type 0) (xs : List X) (x : X) → AllByRecursion P xs → P x → AllByRecursion P (xs ++ x ∷ [])
all_push P [] x all one = (one, tt)
all_push P (y ∷ xs) x all one = (all.0, all_push P xs x all.1 one)

module _ {N : Type 0} where
  -- what the lock says of a call
  abbrev pub Said : PortView N → Request → Result Granted Refused → PortView N → Type 0
  Said v request answer w = Replies is_ok (IsSharedLog {N = N}) (MayReply {N = N}) v request answer w

  -- and of the port's own calls
  abbrev pub Owns : PortView N → Request → Result Granted Refused → PortView N → Type 0
  Owns v request answer w = calls_by v.number w.seen ≡ calls_by v.number v.seen
      ++ (if is_ok answer then entry v.number request answer ∷ [] else [])

  pub added : (v : PortView N) (request : Request) (result : Result Granted Refused) (w : PortView N) → Said v request result w → Owns v request result w
      → IfOk result (λ answer. AddsEntry v request answer w)
  added v request (Ok answer) w said own = record {
    before = said.0;
    grown = said.1;
    view_is = said.2;
    granted = said.3.1;
    shared = said.4;
    own = own;
  }
  added v request (Err refusal) w said own = tt

  pub left : (v : PortView N) (request : Request) (result : Result Granted Refused) (w : PortView N) → Said v request result w → Owns v request result w
      → IfErr result (λ refusal. AddsNone v request refusal w)
  left v request (Ok answer) w said own = tt
  left v request (Err refusal) w said own = record {
    grown = said.0;
    reason = said.1;
    own = own ∙ append-nil (calls_by v.number v.seen);
  }

  -- an ask is answered as an ask, and a slot as a slot
  pub is_job : (v : PortView N) (kind : AskKind) (task : ℕ) (ops : List Op) (answer : Granted) (w : PortView N) → AddsEntry v (requests.Ask kind task ops) answer w → IsJob answer
  is_job v kind task ops (granted.Job answer) w a = tt
  is_job v kind task ops (granted.Slot reply) w a = let die = a.shared.is_die in a.granted die.first die.ongoing die.stands
  is_job v kind task ops (granted.Outcome outcome) w a = let die = a.shared.is_die in a.granted die.first die.ongoing die.stands

  pub is_slot : (v : PortView N) (answer : Granted) (w : PortView N) → AddsEntry v requests.Slot answer w → IsSlot answer
  is_slot v (granted.Slot reply) w a = tt
  is_slot v (granted.Job answer) w a = let die = a.shared.is_die in a.granted die.first die.ongoing die.stands
  is_slot v (granted.Outcome outcome) w a = let die = a.shared.is_die in a.granted die.first die.ongoing die.stands

  pub is_outcome : (v : PortView N) (task : ℕ) (answer : Granted) (w : PortView N) → AddsEntry v (requests.Outcome task) answer w → IsOutcome answer
  is_outcome v task (granted.Outcome outcome) w a = tt
  is_outcome v task (granted.Job answer) w a = let die = a.shared.is_die in a.granted die.first die.ongoing die.stands
  is_outcome v task (granted.Slot reply) w a = let die = a.shared.is_die in a.granted die.first die.ongoing die.stands

  pub refuses_asks : (v : PortView N) (kind : AskKind) (task : ℕ) (ops : List Op) (refusal : Refused) (w : PortView N) → AddsNone v (requests.Ask kind task ops) refusal w
      → RefusesAsks refusal
  refuses_asks v kind task ops (refused.Ask stop) w a = tt
  refuses_asks v kind task ops (refused.AskAt stop) w a = let die = a.grown.fit.is_die in a.reason.1 die.first die.ongoing die.stands
  refuses_asks v kind task ops (refused.Slot stop) w a = let die = a.grown.fit.is_die in a.reason.1 die.first die.ongoing die.stands
  refuses_asks v kind task ops refused.NoOutcome w a = let die = a.grown.fit.is_die in a.reason.1 die.first die.ongoing die.stands
  refuses_asks v kind task ops refused.NoMemory w a = let die = a.grown.fit.is_die in a.reason.1 die.first die.ongoing die.stands
  refuses_asks v kind task ops refused.LockFull w a = tt

  pub refuses_slots : (v : PortView N) (refusal : Refused) (w : PortView N) → AddsNone v requests.Slot refusal w → RefusesSlots refusal
  refuses_slots v (refused.AskAt stop) w a = let die = a.grown.fit.is_die in a.reason.1 die.first die.ongoing die.stands
  refuses_slots v (refused.Ask stop) w a = let die = a.grown.fit.is_die in a.reason.1 die.first die.ongoing die.stands
  refuses_slots v (refused.Slot stop) w a = tt
  refuses_slots v refused.NoOutcome w a = let die = a.grown.fit.is_die in a.reason.1 die.first die.ongoing die.stands
  refuses_slots v refused.NoMemory w a = let die = a.grown.fit.is_die in a.reason.1 die.first die.ongoing die.stands
  refuses_slots v refused.LockFull w a = tt

  pub refuses_outcomes : (v : PortView N) (task : ℕ) (refusal : Refused) (w : PortView N) → AddsNone v (requests.Outcome task) refusal w
      → RefusesOutcomes refusal
  refuses_outcomes v task (refused.AskAt stop) w a = let die = a.grown.fit.is_die in a.reason.1 die.first die.ongoing die.stands
  refuses_outcomes v task (refused.Ask stop) w a = let die = a.grown.fit.is_die in a.reason.1 die.first die.ongoing die.stands
  refuses_outcomes v task (refused.Slot stop) w a = let die = a.grown.fit.is_die in a.reason.1 die.first die.ongoing die.stands
  refuses_outcomes v task refused.NoOutcome w a = tt
  refuses_outcomes v task refused.NoMemory w a = tt
  refuses_outcomes v task refused.LockFull w a = tt

  -- what a port that takes no outcome is answered
  pub tells_none : (p q : TaskParts N) (refusal : Refused) (result : Result (Option TaskOutcome) OutcomeRefused)
      → AddsNone p.view (requests.Outcome p.task) refusal q.view → IsNoOutcome refusal result
      → IfOk result (λ outcome. TellsOutcome p outcome q)
  tells_none p q refused.NoOutcome result a is =
      subst (λ (r : Result (Option TaskOutcome) OutcomeRefused). IfOk r (λ outcome. TellsOutcome p outcome q)) (sym is) a
  tells_none p q refused.NoMemory result a is =
      subst (λ (r : Result (Option TaskOutcome) OutcomeRefused). IfOk r (λ outcome. TellsOutcome p outcome q)) (sym is) tt
  tells_none p q refused.LockFull result a is =
      subst (λ (r : Result (Option TaskOutcome) OutcomeRefused). IfOk r (λ outcome. TellsOutcome p outcome q)) (sym is) tt
  tells_none p q (refused.AskAt stop) result a is = absurd is
  tells_none p q (refused.Ask stop) result a is = absurd is
  tells_none p q (refused.Slot stop) result a is = absurd is

  pub refuses_outcome : (p q : TaskParts N) (refusal : Refused) (result : Result (Option TaskOutcome) OutcomeRefused)
      → AddsNone p.view (requests.Outcome p.task) refusal q.view → IsNoOutcome refusal result
      → IfErr result (λ r. RefusesOutcome p r q)
  refuses_outcome p q refused.NoOutcome result a is =
      subst (λ (r : Result (Option TaskOutcome) OutcomeRefused). IfErr r (λ e. RefusesOutcome p e q)) (sym is) tt
  refuses_outcome p q refused.NoMemory result a is =
      subst (λ (r : Result (Option TaskOutcome) OutcomeRefused). IfErr r (λ e. RefusesOutcome p e q)) (sym is) a
  refuses_outcome p q refused.LockFull result a is =
      subst (λ (r : Result (Option TaskOutcome) OutcomeRefused). IfErr r (λ e. RefusesOutcome p e q)) (sym is) a
  refuses_outcome p q (refused.AskAt stop) result a is = absurd is
  refuses_outcome p q (refused.Ask stop) result a is = absurd is
  refuses_outcome p q (refused.Slot stop) result a is = absurd is

  pub refuses_task : (kind : AskKind) (p : TaskParts N) (ops : List Op) (refusal : Refused) (result : AskRefused) (q : TaskParts N) → foreign_page p.pages ops ≡ None
      → AddsNone p.view (requests.Ask kind p.task ops) refusal q.view → IsAskRefusal refusal result → RefusesTask kind p ops result q
  refuses_task kind p ops (refused.Ask stop) result q own a is = subst (λ (r : AskRefused). RefusesTask kind p ops r q) (sym is) (own, a)
  refuses_task kind p ops (refused.AskAt stop) result q own a is = absurd is
  refuses_task kind p ops (refused.Slot stop) result q own a is = absurd is
  refuses_task kind p ops refused.NoOutcome result q own a is = absurd is
  refuses_task kind p ops refused.NoMemory result q own a is = absurd is
  refuses_task kind p ops refused.LockFull result q own a is = subst (λ (r : AskRefused). RefusesTask kind p ops r q) (sym is) (own, a)

  pub refuses_clock : (p : ClockParts N) (refusal : Refused) (result : SlotRefused) (q : ClockParts N) → AddsNone p.view requests.Slot refusal q.view
      → IsSlotRefusal refusal result → RefusesClock p result q
  refuses_clock p (refused.AskAt stop) result q a is = absurd is
  refuses_clock p (refused.Ask stop) result q a is = absurd is
  refuses_clock p (refused.Slot stop) result q a is = subst (λ (r : SlotRefused). RefusesClock p r q) (sym is) a
  refuses_clock p refused.NoOutcome result q a is = absurd is
  refuses_clock p refused.NoMemory result q a is = absurd is
  refuses_clock p refused.LockFull result q a is = subst (λ (r : SlotRefused). RefusesClock p r q) (sym is) a

  -- so it is of an ask for a slot of the clock
  pub is_job_at : (v : PortView N) (kind : AskKind) (task : ℕ) (ops : List Op) (at : ℕ) (answer : Granted) (w : PortView N)
      → AddsEntry v (requests.AskAt kind task ops at) answer w → IsJob answer
  is_job_at v kind task ops at (granted.Job answer) w a = tt
  is_job_at v kind task ops at (granted.Slot reply) w a = let die = a.shared.is_die in a.granted die.first die.ongoing die.stands
  is_job_at v kind task ops at (granted.Outcome outcome) w a = let die = a.shared.is_die in a.granted die.first die.ongoing die.stands

  pub refuses_asks_at : (v : PortView N) (kind : AskKind) (task : ℕ) (ops : List Op) (at : ℕ) (refusal : Refused) (w : PortView N)
      → AddsNone v (requests.AskAt kind task ops at) refusal w → RefusesAsksAt refusal
  refuses_asks_at v kind task ops at (refused.AskAt stop) w a = tt
  refuses_asks_at v kind task ops at refused.LockFull w a = tt
  refuses_asks_at v kind task ops at (refused.Ask stop) w a = let die = a.grown.fit.is_die in a.reason.1 die.first die.ongoing die.stands
  refuses_asks_at v kind task ops at (refused.Slot stop) w a = let die = a.grown.fit.is_die in a.reason.1 die.first die.ongoing die.stands
  refuses_asks_at v kind task ops at refused.NoOutcome w a = let die = a.grown.fit.is_die in a.reason.1 die.first die.ongoing die.stands
  refuses_asks_at v kind task ops at refused.NoMemory w a = let die = a.grown.fit.is_die in a.reason.1 die.first die.ongoing die.stands

  pub refuses_task_at : (kind : AskKind) (p : TaskParts N) (ops : List Op) (at : ℕ) (refusal : Refused) (result : AskAtRefused) (q : TaskParts N)
      → foreign_page p.pages ops ≡ None → AddsNone p.view (requests.AskAt kind p.task ops at) refusal q.view → IsAskAtRefusal refusal result
      → RefusesTaskAt kind p ops at result q
  refuses_task_at kind p ops at (refused.AskAt stop) result q own a is =
      subst (λ (r : AskAtRefused). RefusesTaskAt kind p ops at r q) (sym is) (own, a)
  refuses_task_at kind p ops at refused.LockFull result q own a is =
      subst (λ (r : AskAtRefused). RefusesTaskAt kind p ops at r q) (sym is) (own, a)
  refuses_task_at kind p ops at (refused.Ask stop) result q own a is = absurd is
  refuses_task_at kind p ops at (refused.Slot stop) result q own a is = absurd is
  refuses_task_at kind p ops at refused.NoOutcome result q own a is = absurd is
  refuses_task_at kind p ops at refused.NoMemory result q own a is = absurd is

  -- the port's own requests, with one more
  pub own_asks : (kind : AskKind) (p q : TaskParts N) (ops : List Op) (answer : Granted) → HasOwnAsks p → foreign_page p.pages ops ≡ None → q.task ≡ p.task → q.pages ≡ p.pages
      → q.view.number ≡ p.view.number → AddsEntry p.view (requests.Ask kind p.task ops) answer q.view → HasOwnAsks q
  own_asks kind p q ops answer own page task pages number a =
      rw (task, pages, number, a.own) (all_push (λ (c : PortCall). IsOwnAsk p.task p.pages c.event) (calls_by p.view.number p.view.seen)
      (entry p.view.number (requests.Ask kind p.task ops) (Ok answer)) own (refl, page))

  pub own_asks_at : (kind : AskKind) (p q : TaskParts N) (ops : List Op) (at : ℕ) (answer : Granted) → HasOwnAsks p
      → foreign_page p.pages ops ≡ None → q.task ≡ p.task → q.pages ≡ p.pages → q.view.number ≡ p.view.number
      → AddsEntry p.view (requests.AskAt kind p.task ops at) answer q.view → HasOwnAsks q
  own_asks_at kind p q ops at answer own page task pages number a =
      rw (task, pages, number, a.own) (all_push (λ (c : PortCall). IsOwnAsk p.task p.pages c.event) (calls_by p.view.number p.view.seen)
      (entry p.view.number (requests.AskAt kind p.task ops at) (Ok answer)) own (refl, page))

  pub own_outcome : (p q : TaskParts N) (answer : Granted) → HasOwnAsks p → q.task ≡ p.task → q.pages ≡ p.pages
      → q.view.number ≡ p.view.number → AddsEntry p.view (requests.Outcome p.task) answer q.view → HasOwnAsks q
  own_outcome p q answer own task pages number a =
      rw (task, pages, number, a.own) (all_push (λ (c : PortCall). IsOwnAsk p.task p.pages c.event) (calls_by p.view.number p.view.seen)
      (entry p.view.number (requests.Outcome p.task) (Ok answer)) own refl)

  pub own_slots : (p q : ClockParts N) (answer : Granted) → HasOwnSlots p → q.view.number ≡ p.view.number → AddsEntry p.view requests.Slot answer q.view
      → HasOwnSlots q
  own_slots p q answer own number a =
      rw (number, a.own) (all_push (λ (c : PortCall). IsSlotRequest c.event) (calls_by p.view.number p.view.seen)
      (entry p.view.number requests.Slot (Ok answer)) own tt)

  -- and where nothing is granted

  pub same_asks : (kind : AskKind) (p q : TaskParts N) (ops : List Op) (refusal : Refused) → HasOwnAsks p → q.task ≡ p.task → q.pages ≡ p.pages
      → q.view.number ≡ p.view.number → AddsNone p.view (requests.Ask kind p.task ops) refusal q.view → HasOwnAsks q
  same_asks kind p q ops refusal own task pages number a = rw (task, pages, number, a.own) own

  pub same_asks_at : (kind : AskKind) (p q : TaskParts N) (ops : List Op) (at : ℕ) (refusal : Refused) → HasOwnAsks p → q.task ≡ p.task
      → q.pages ≡ p.pages → q.view.number ≡ p.view.number → AddsNone p.view (requests.AskAt kind p.task ops at) refusal q.view → HasOwnAsks q
  same_asks_at kind p q ops at refusal own task pages number a = rw (task, pages, number, a.own) own

  pub same_outcome : (p q : TaskParts N) (refusal : Refused) → HasOwnAsks p → q.task ≡ p.task → q.pages ≡ p.pages
      → q.view.number ≡ p.view.number → AddsNone p.view (requests.Outcome p.task) refusal q.view → HasOwnAsks q
  same_outcome p q refusal own task pages number a = rw (task, pages, number, a.own) own

  pub same_slots : (p q : ClockParts N) (refusal : Refused) → HasOwnSlots p → q.view.number ≡ p.view.number → AddsNone p.view requests.Slot refusal q.view
      → HasOwnSlots q
  same_slots p q refusal own number a = rw (number, a.own) own
