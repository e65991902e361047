-- A moment of events that keep a plan lies after a whole log of such events: those that are left are made after it,
-- refused or not. So what holds at each moment of such logs holds at it.
use Rattle.std.proofs.Common.{◌≡◌, ◌+◌, ◌≤◌, List, [], ◌∷◌, ◌++◌, Option, Some, None, refl, sym, ◌∙◌, inl, inr, arith, append_assoc}
use Rattle.std.proofs.lemmas.List.{length_push}
use Rattle.slot_types.specs.declared.limits.TheConstants.{MAX_SLOT}
use Rattle.slot_types.specs.declared.events.Event.{Event}
use Rattle.slot_types.specs.declared.events.Event.TheVariants as events
use Rattle.slot_types.specs.declared.replies.Reply.{Reply}
use Rattle.slot_types.specs.declared.refusals.Refusal.{Refusal}
use Rattle.slot_types.specs.Arrivals.{IsArrival}
use Rattle.plan_rules.specs.Keeping.{slots}
use Rattle.plan_rules.proofs.Moments.{slots_append}
use Rattle.die_log.specs.Model.Log.{Log, carried_slots, now}
use Rattle.die_log.specs.Model.Answers.{reply_if_accepted, refusal_of, choice, slot_reply, IsAccepted, IsExact}
use Rattle.die_log.specs.Results.InTime.{AreEntered}
use Rattle.die_log.proofs.Legality.{entry, accepted_answer}
use Rattle.die_log.proofs.Planned.Running.{slot_open}
use Rattle.die_log.specs.Model.Start.{Start}

-- a log that these events leave after `past`
pub record RunsOn (start : Start) (past : Log) (rest : List Event) : Type 0 where
  pub log : Log
  pub later : Log
  pub is : log ≡ later ++ past
  pub exact : IsExact start log
  pub entered : AreEntered rest past log

with_entry : (start : Start) (past : Log) (event : Event) (rest : List Event) (reply : Reply)
    → RunsOn start (entry 0 event reply ∷ past) rest → RunsOn start past (event ∷ rest)
with_entry start past event rest reply r =
    let e = entry 0 event reply in
    record {
      log = r.log;
      later = r.later ++ e ∷ [];
      is = r.is ∙ sym (append_assoc r.later (e ∷ []) past);
      exact = r.exact;
      entered = (e ∷ past, inl (0, reply, refl), r.entered);
    }

without_entry : (start : Start) (past : Log) (event : Event) (rest : List Event) → IsArrival event → RunsOn start past rest
    → RunsOn start past (event ∷ rest)
without_entry start past event rest is r = record {
  log = r.log;
  later = r.later;
  is = r.is;
  exact = r.exact;
  entered =
      (past, inr (is, refl), r.entered);
}

-- an event that is accepted
accepted_on : (start : Start) (past : Log) (event : Event) (rest : List Event) → refusal_of start past event ≡ None
    → IsAccepted (reply_if_accepted start past event) → IsExact start past
    → (IsExact start (entry 0 event (reply_if_accepted start past event) ∷ past) → RunsOn start (entry 0 event (reply_if_accepted start past event) ∷ past) rest)
    → RunsOn start past (event ∷ rest)
accepted_on start past event rest none takes exact further = with_entry start past event rest (reply_if_accepted start past event)
    (further (exact, sym (accepted_answer start past event none), takes))

-- a job or a collection, refused or not
arrival_on : (start : Start) (past : Log) (event : Event) (rest : List Event) (o : Option Refusal) → IsArrival event
    → IsAccepted (reply_if_accepted start past event) → refusal_of start past event ≡ o → IsExact start past
    → (IsExact start (entry 0 event (reply_if_accepted start past event) ∷ past) → RunsOn start (entry 0 event (reply_if_accepted start past event) ∷ past) rest)
    → RunsOn start past rest → RunsOn start past (event ∷ rest)
arrival_on start past event rest None is takes e exact further stays = accepted_on start past event rest e takes exact further
arrival_on start past event rest (Some refusal) is takes e exact further stays = without_entry start past event rest is stays

pub runs_on : (start : Start) (past : Log) (rest : List Event) → IsExact start past → now past + slots rest ≤ MAX_SLOT
    → RunsOn start past rest
runs_on start past [] exact le = record { log = past; later = []; is = refl; exact = exact; entered = refl }
runs_on start past (events.Submit task release due ops ∷ rest) exact le =
    let event : Event = events.Submit task release due ops in
    let fits : now past + slots rest ≤ MAX_SLOT = omega (arith, le, slots_append (event ∷ []) rest) in
    arrival_on start past event rest (refusal_of start past event) tt tt refl exact
    (λ next. runs_on start (entry 0 event (reply_if_accepted start past event) ∷ past) rest next fits) (runs_on start past rest exact fits)
runs_on start past (events.Collect task release due ∷ rest) exact le =
    let event : Event = events.Collect task release due in
    let fits : now past + slots rest ≤ MAX_SLOT = omega (arith, le, slots_append (event ∷ []) rest) in
    arrival_on start past event rest (refusal_of start past event) tt tt refl exact
    (λ next. runs_on start (entry 0 event (reply_if_accepted start past event) ∷ past) rest next fits) (runs_on start past rest exact fits)
runs_on start past (events.Slot ∷ rest) exact le =
    let one = slots_append (events.Slot ∷ []) rest in
    let later = length_push (carried_slots past) (slot_reply start past (choice start past).waived (choice start past).head).ran in
    accepted_on start past events.Slot rest (slot_open start past (omega (arith, le, one))) tt exact
    (λ next. runs_on start (entry 0 events.Slot (reply_if_accepted start past events.Slot) ∷ past) rest next (omega (arith, le, one, later)))
