-- A die's serial is the number of its next program, over all lives.
use Rattle.std.proofs.Common.{◌≡◌, ℕ, ◌+◌, ◌<◌, ◌^◌, ◌==◌, ◌⊎◌, Bool, true, false, List, [], ◌∷◌, map, Option, Some, None, refl, ap, sym, ◌∙◌, subst, arith, inl, inr}
use Rattle.std.specs.Prelude.{take, drop, length, if◌then◌else◌}
use Rattle.slot_types.specs.Arrivals.{IsArrival}
use Rattle.slot_types.specs.declared.events.Event.{Event}
use Rattle.slot_types.specs.declared.events.Event.TheVariants as events
use Rattle.slot_types.specs.declared.events.Op.{Op}
use Rattle.slot_types.specs.declared.pages.PageData.{PageData}
use Rattle.slot_types.specs.declared.plans.DiePlan.{DiePlan}
use Rattle.slot_types.specs.declared.refusals.Refusal.{Refusal}
use Rattle.slot_types.specs.declared.replies.Reply.{Reply}
use Rattle.slot_types.specs.declared.replies.SlotReply.{SlotReply}
use Rattle.demand_rules.specs.declared.terms.TaskTerms.{TaskTerms}
use Rattle.demand_rules.specs.declared.terms.Terms.{Terms}
use Rattle.die_log.specs.Model.Answers.{after_call, answer, answer_by, refusal_of, run, with_answer}
use Rattle.die_log.specs.Model.Flash.{cells, contents, ran_by}
use Rattle.die_log.specs.Model.Lives.{Lives}
use Rattle.die_log.specs.Model.Log.{Log, now}
use Rattle.die_log.specs.Model.Start.{Start, fresh}
use Rattle.power_loss.specs.Labels.{IsLabelled, Labels, labels, labels_after}
use Rattle.slot_core.specs.NextSlot.{next_slot}
use Rattle.planned_log.specs.declared.ask_kinds.AskKind.{AskKind}
use Rattle.planned_log.specs.declared.ask_kinds.AskKind.TheVariants as kinds
use Rattle.planned_log.specs.declared.refusals.AskRefusal.{AskRefusal}
use Rattle.planned_log.specs.AskKinds.{jobs_as, refusal_as, with_jobs}
use Rattle.planned_log.specs.Asks.{asked_job}
use Rattle.planned_log.specs.KeptLogs.{collections_at, comes_at}
use Rattle.planned_log.specs.Moves.{Ask, Slot, after_ask, after_moves}
use Rattle.ongoing_log.specs.PastLives.{PastLife, counted}
use Rattle.ongoing_log.specs.Ongoing.{Answer, Ongoing, WaitingAsk, after_answer, answer_to, asks_of, clock_of, due_at, going_on, let_in, living_on, new_ongoing, next_life, ongoing_after_move, start_of}
use Rattle.ongoing_log.specs.Ongoing.{Enters, Waits, Refused, WaitsAlready, Past, TooFarAhead}
use Rattle.planned_die.specs.Planned.{Planned}
use Rattle.ongoing_die.specs.BegunSlots.{BegunParts, HasBegunSlot}
use Rattle.ongoing_die.specs.Standing.{OngoingParts, standing}
use Rattle.stepped_die.specs.declared.calls.Begun.{Begun}
use Rattle.stepped_die.specs.declared.calls.Call.{Call}
use Rattle.stepped_die.specs.declared.mirror.MirrorNand.{MirrorNand}
use Rattle.stepped_die.specs.declared.part.Part.{Part}
use Rattle.stepped_die.specs.DeviceCalls.{reported_by}
use Rattle.stepped_die.specs.Numbered.{first_labels}
use Rattle.stepped_die.specs.Parts.{fresh_part, serial_after}
use Rattle.stepped_die.proofs.Numbering.{by_act, first_labelled}
use Rattle.stepped_plan.specs.Calls.{HasEndedIn}
use Rattle.stepped_plan.specs.Numbered.{BeginsWith, NumbersPlanned}
use Rattle.stepped_plan.specs.Stages.{IsAsked, cells_of}

-- What arrives leaves no label

module _ (start : Start) (l : Labels) where
  by_refusal : (caller : ℕ) (past : Log) (event : Event) → IsArrival event → (r : Option Refusal)
      → labels start l (with_answer caller event (answer_by start past event r) past) ≡ labels start l past
  by_refusal caller past (events.Submit task release due ops) a None = refl
  by_refusal caller past (events.Submit task release due ops) a (Some r) = refl
  by_refusal caller past (events.Collect task release due) a None = refl
  by_refusal caller past (events.Collect task release due) a (Some r) = refl
  by_refusal caller past events.Slot a r = absurd a

  arrived : (caller : ℕ) (past : Log) (event : Event) → IsArrival event → labels start l (after_call start past (caller, event)) ≡ labels start l past
  unfolding answer
  arrived caller past event a = by_refusal caller past event a (refusal_of start past event)

  jobs_come : (terms : Terms) (log : Log) (caller task : ℕ) (jobs : List (List Op))
      → labels start l (with_jobs start terms log caller task jobs) ≡ labels start l log
  jobs_come terms log caller task [] = refl
  jobs_come terms log caller task (ops ∷ jobs) =
      jobs_come terms (after_call start log (caller, asked_job terms log task ops)) caller task jobs
      ∙ arrived caller log (asked_job terms log task ops) tt

  ask_comes : (terms : Terms) (log : Log) (kind : AskKind) (caller task : ℕ) (ops : List Op) (r : Option AskRefusal)
      → labels start l (after_ask start terms log kind caller task ops r) ≡ labels start l log
  ask_comes terms log kind caller task ops None = jobs_come terms log caller task (jobs_as kind ops)
  ask_comes terms log kind caller task ops (Some r) = refl

  -- what waited
  waited_come : (terms : Terms) (earlier : Lives) (life : ℕ) (ws : List (Option WaitingAsk)) (n : ℕ) (log : Log)
      → labels start l (after_moves start terms earlier life log (asks_of n ws)) ≡ labels start l log
  waited_come terms earlier life [] n log = refl
  waited_come terms earlier life (None ∷ ws) n log = waited_come terms earlier life ws (n + 1) log
  waited_come terms earlier life (Some w ∷ ws) n log =
      let r = refusal_as kinds.Burst start.plan terms life earlier log n w.ops in
      waited_come terms earlier life ws (n + 1) (after_ask start terms log kinds.Burst w.caller n w.ops r)
      ∙ ask_comes terms log kinds.Burst w.caller n w.ops r

  -- the collections of a slot
  collections_come : (caller slot : ℕ) (tasks : List TaskTerms) (n : ℕ) (log : Log)
      → labels start l (run start log (map (λ (event : Event). (caller, event)) (collections_at tasks n slot))) ≡ labels start l log
  collections_come caller slot [] n log = refl
  collections_come caller slot (t ∷ tasks) n log = by (λ past. collections_come caller slot tasks (n + 1) past) (comes_at t.collect_period slot)
    where
      event : Event
      event = events.Collect n slot (slot + t.collect_deadline)

      by : ((past : Log) → labels start l (run start past (map (λ (e : Event). (caller, e)) (collections_at tasks (n + 1) slot))) ≡ labels start l past)
          → (b : Bool) → labels start l (run start log (map (λ (e : Event). (caller, e))
          (if b then event ∷ collections_at tasks (n + 1) slot else collections_at tasks (n + 1) slot))) ≡ labels start l log
      by rest true = rest (after_call start log (caller, event)) ∙ arrived caller log event tt
      by rest false = rest log

-- Moves

-- an ask
by_answer : (first : Start) (l : Labels) (d : Ongoing) (part : Part) (terms : Terms) (kind : AskKind) (caller task : ℕ) (ops : List Op) (a : Answer)
    → NumbersPlanned first l d part → NumbersPlanned first l (after_answer first terms d kind caller task ops a) part
by_answer first l d part terms kind caller task ops (Enters release due) is =
    is ∙ sym (ap (λ (x : Labels). x.next) (jobs_come (start_of first d) l terms d.log caller task (jobs_as kind ops)))
by_answer first l d part terms kind caller task ops (Waits release due) is = is
by_answer first l d part terms kind caller task ops (Refused refusal) is = is
by_answer first l d part terms kind caller task ops WaitsAlready is = is
by_answer first l d part terms kind caller task ops Past is = is
by_answer first l d part terms kind caller task ops (TooFarAhead last) is = is

pub asked_on : (first : Start) (l : Labels) (d : Ongoing) (part : Part) (terms : Terms) (life : ℕ) (kind : AskKind) (caller task : ℕ) (ops : List Op)
    → NumbersPlanned first l d part → NumbersPlanned first l (ongoing_after_move first terms life d (Ask kind caller task ops)) part
asked_on first l d part terms life kind caller task ops is =
    by_answer first l d part terms kind caller task ops (answer_to first terms life d kind task ops) is

-- where a life has ended the next one begins, and what waits for the slot enters
module _ (first : Start) (terms : Terms) (life : ℕ) (l : Labels) (d : Ongoing) (part : Part) (is : NumbersPlanned first l d part) where
  abbrev left : Labels
  left = labels (start_of first d) l d.log

  abbrev MayBegin : Ongoing → Type 0
  MayBegin next = (own : Labels) × ((own ≡ l) ⊎ (own ≡ left)) × NumbersPlanned first own next part

  going : (b : Bool) → MayBegin (if b then next_life d else d)
  going true = (left, inr refl, is)
  going false = (l, inl refl, is)

  entered : (n : Ongoing) → MayBegin n → MayBegin (let_in first terms life n)
  entered n (own, which, numbers) = (
    own,
    which,
    numbers ∙ sym (ap (λ (x : Labels). x.next)
        (waited_come (start_of first n) own terms (counted n.earlier) life (map (due_at (clock_of n)) n.waiting) 0 n.log)),
  )

  gone : MayBegin (going_on first terms life d)
  gone = entered (living_on life d) (going (now d.log == life))

-- a slot
module _ (first : Start) (l : Labels) (d : Ongoing) (part : Part) (before after : OngoingParts MirrorNand) (within : BegunParts MirrorNand) (begun : Begun)
    (h : HasBegunSlot within.caller first d before within.parts) (asked : IsAsked within begun) where
  abbrev between : OngoingParts MirrorNand
  between = h.between

  abbrev start : Start
  start = within.parts.die.core.start

  abbrev log : Log
  log = within.parts.die.core.log

  -- the slot that has begun stands at the start of the present life
  starts : start ≡ between.die.core.start
  starts = ap (λ (die : Planned MirrorNand). die.core.start) h.came.came

  -- whose life goes on, and which has let in what waited for the slot
  d_is : d ≡ standing between h.begun.stands.past
  d_is = h.begun.settled

  start_is : start_of first d ≡ between.die.core.start
  start_is = ap (λ (x : Ongoing). start_of first x) d_is ∙ sym h.begun.stands.starts

  -- its collections leave no label
  within_numbers : NumbersPlanned first l d part → part.serial ≡ (labels start l log).next
  within_numbers is =
      is ∙ (ap (λ (x : Start). (labels x l d.log).next) start_is
      ∙ (ap (λ (x : Ongoing). (labels between.die.core.start l x.log).next) d_is
      ∙ (sym (ap (λ (x : Labels). x.next) (collections_come between.die.core.start l within.caller (now between.die.core.log)
      (drop between.die.entered (take (length between.die.core.start.plan.caps) between.die.terms.tasks)) between.die.entered between.die.core.log))
      ∙ ap (λ (die : Planned MirrorNand). (labels die.core.start l die.core.log).next) (sym h.came.came))))

  ends_numbered : (ok : Bool) (bytes : PageData) (reply : SlotReply) → HasEndedIn ok bytes reply within begun after → part.serial + 1 < 2 ^ 64
      → part.serial ≡ (labels start l log).next
      → serial_after begun.call part.serial ≡ (labels after.die.core.start l after.die.core.log).next
  ends_numbered ok bytes reply e room is =
      let x : Labels = labels start l log in
      ap (λ (call : Option Call). serial_after call part.serial) asked.call_is
      ∙ (ap (serial_after (reported_by (cells_of within.parts) (next_slot start log))) is
      ∙ (by_act (cells_of within.parts) start log x (omega (arith, room, is)) (ran_by (answer start log events.Slot))
      ∙ (ap (λ (r : Reply). (labels_after start.plan (cells start log) (contents start log) (ran_by r) x).next) e.carried.ended.answered
      ∙ (ap (λ (y : Log). (labels start l y).next) (sym e.carried.ended.logged)
      ∙ ap (λ (y : Start). (labels y l after.die.core.log).next) (sym e.carried.start_stays)))))

  pub numbers_on : (ok : Bool) (bytes : PageData) (reply : SlotReply) → HasEndedIn ok bytes reply within begun after → part.serial + 1 < 2 ^ 64
      → NumbersPlanned first l d part
      → (own : Labels) × BeginsWith l after own
      × NumbersPlanned first own (ongoing_after_move first before.die.terms before.die.life d (Slot within.caller))
      (record part { serial = serial_after begun.call part.serial })
  numbers_on ok bytes reply e room is =
      let c = e.slot first d before h in
      let past : List PastLife = c.stands.past in
      let next : Part = record part { serial = serial_after begun.call part.serial } in
      let numbers : NumbersPlanned first l (standing after past) next =
      ends_numbered ok bytes reply e room (within_numbers is)
      ∙ ap (λ (x : Start). (labels x l after.die.core.log).next) c.stands.starts in
      let g = gone first after.die.terms after.die.life l (standing after past) next numbers in (
        g.0,
        subst (λ (x : Start). (g.0 ≡ l) ⊎ (g.0 ≡ labels x l after.die.core.log)) (sym c.stands.starts) g.1,
        subst (λ (x : Ongoing). NumbersPlanned first g.0 x next) (sym (c.stands.runs c.runs).stands) g.2,
      )

pub new_numbers : (plan : DiePlan) → IsLabelled (fresh plan) (first_labels plan)
    × NumbersPlanned (fresh plan) (first_labels plan) (new_ongoing plan) (fresh_part plan)
new_numbers plan = (first_labelled plan, refl)
