-- A die that keeps its plan itself, as C has it.
use Rattle.std.specs.Prelude.{◌≡◌, ℕ, ◌<◌, ◌≤◌, ◌==◌, Bool, List, length, map, take, Option, Some, None, if◌then◌else◌, slice_index_or, Ok, Err, IfSome, All, vec_capacity}
use Rattle.slot_types.specs.Refusal.{number_of}
use Rattle.slot_types.specs.declared.events.Op.{Op}
use Rattle.slot_types.specs.declared.pages.PageData.{PageData}
use Rattle.slot_types.specs.declared.plans.DiePlan.{DiePlan}
use Rattle.slot_types.specs.declared.refusals.Refusal.TheVariants as because
use Rattle.slot_types.specs.declared.replies.SlotReply.{SlotReply}
use Rattle.demand_rules.specs.declared.terms.TaskTerms.{TaskTerms}
use Rattle.demand_rules.specs.declared.terms.Terms.{Terms}
use Rattle.demand_rules.specs.declared.demands.DemandFault.TheVariants as demands
use Rattle.demand_rules.specs.declared.plans.TermsFault.{TermsFault}
use Rattle.demand_rules.specs.declared.plans.TermsFault.TheVariants as faults
use Rattle.die_log.specs.Model.Log.{now}
use Rattle.planned_log.specs.declared.ask_kinds.AskKind.{AskKind}
use Rattle.planned_log.specs.declared.ask_kinds.AskKind.TheVariants as kinds
use Rattle.planned_log.specs.declared.refusals.AskRefusal.{AskRefusal}
use Rattle.planned_log.specs.declared.refusals.AskRefusal.TheVariants as refuses
use Rattle.ongoing_log.specs.Ongoing.{WaitingAsk}
use Rattle.ongoing_log.specs.Ongoing as ongoing
use Rattle.planned_die.specs.declared.refusals.PlanRefusal.TheVariants as plans
use Rattle.planned_die.specs.Planned.{Planned}
use Rattle.ongoing_die.specs.declared.answers.Taken.{Taken}
use Rattle.ongoing_die.specs.declared.answers.Taken.TheVariants as taken
use Rattle.ongoing_die.specs.declared.refusals.OngoingRefusal.{OngoingRefusal}
use Rattle.ongoing_die.specs.declared.refusals.OngoingRefusal.TheVariants as unmade
use Rattle.ongoing_die.specs.declared.refusals.LifeStop.{LifeStop}
use Rattle.ongoing_die.specs.declared.refusals.LifeStop.TheVariants as lives
use Rattle.ongoing_die.specs.declared.refusals.AskStop.TheVariants as asks
use Rattle.ongoing_die.specs.declared.refusals.SlotStop.TheVariants as slots
use Rattle.ongoing_die.specs.OngoingPlans.{RefusesOngoing}
use Rattle.stepped_die.specs.declared.calls.Begun.{Begun}
use Rattle.stepped_die.specs.declared.mirror.MirrorNand.{MirrorNand}
use Rattle.stepped_plan.specs.declared.refusals.PlanAskStop.{PlanAskStop}
use Rattle.stepped_plan.specs.declared.refusals.PlanAskStop.TheVariants as ask_stops
use Rattle.stepped_plan.specs.declared.refusals.PlanSlotStop.{PlanSlotStop}
use Rattle.stepped_plan.specs.declared.refusals.PlanSlotStop.TheVariants as slot_stops
use Rattle.stepped_plan.specs.Stages.{Stepping, begun_in}
use Rattle.stepped_plan.specs.Calls.{IsNewPlan, IsPlanAsk, IsBeginning, IsEnd}
use Rattle.flash_c.specs.declared.kept.KeptDie.{KeptDie}
use Rattle.flash_c.specs.declared.shapes.FlashCall.{FlashCall}
use Rattle.flash_c.specs.declared.shapes.FlashLife.{FlashLife}
use Rattle.flash_c.specs.declared.shapes.FlashOp.{FlashOp}
use Rattle.flash_c.specs.declared.shapes.FlashReply.{FlashReply}
use Rattle.flash_c.specs.declared.shapes.FlashTaken.{FlashTaken}
use Rattle.flash_c.specs.declared.shapes.FlashTerms.{FlashTerms}
use Rattle.flash_c.specs.declared.shapes.FlashUnasked.{FlashUnasked}
use Rattle.flash_c.specs.declared.shapes.FlashWaived.{FlashWaived}
use Rattle.flash_c.specs.Counts.{count_of}
use Rattle.flash_c.specs.Lists.{array_with}
use Rattle.flash_c.specs.Names.{op_in}
use Rattle.flash_c.specs.Slots.{call_of, reply_of, waived_of}

-- Terms, and a die of them

abbrev pub task_terms_in : FlashTerms → TaskTerms
task_terms_in t = record {
  period = t.period;
  deadline = t.deadline;
  held = t.held;
  work = t.work;
  writes = t.writes;
  collect_period = t.collect_period;
  collect_deadline = t.collect_deadline;
}

-- the terms that these stand for
abbrev pub terms_in : List FlashTerms → Terms
terms_in terms = record { tasks = map task_terms_in terms }

-- `room` operations are as many as any ask may have, of a job or of a burst, and one more
pub record HasRoom (terms : Terms) (room : ℕ) : Type 0 where
  pub job : 65 ≤ room
  pub burst : All (λ t. t.work < room) terms.tasks

-- what is looked at of an ask: as many operations as there are places for
abbrev pub ops_of : KeptDie → List FlashOp → List Op
ops_of kept ops = map op_in (take (vec_capacity kept.ops) ops)

-- a new die, with room for the operations of its asks
pub record SaysKept (plan : DiePlan) (terms : Terms) (longest : ℕ) (kept : KeptDie) : Type 0 where
  pub new : IsNewPlan plan terms longest kept.plan
  pub room : HasRoom terms (vec_capacity kept.ops)

-- Numbers of refusals

abbrev pub unasked : ℕ → ℕ → FlashUnasked
unasked next number = record { next = next; number = number }

-- terms out of their limits; too much demand; too few pages
abbrev pub terms_code : TermsFault → ℕ
terms_code (faults.Demand (demands.Limits fault)) = 407
terms_code (faults.Demand _) = 408
terms_code (faults.Supply fault) = 409

abbrev pub plan_code : OngoingRefusal → ℕ
plan_code (unmade.Plan (plans.Die refusal)) = number_of refusal
plan_code (unmade.Plan (plans.Terms fault)) = terms_code fault
plan_code (unmade.Plan plans.NoLife) = 405
plan_code (unmade.ShortLife task) = 406

-- the task whose deadline is longer than a life
abbrev pub plan_why : OngoingRefusal → FlashUnasked
plan_why (unmade.Plan refusal) = unasked 0 0
plan_why (unmade.ShortLife task) = unasked 0 task

abbrev pub life_code : LifeStop → ℕ
life_code lives.DieStopped = number_of because.DieStopped
life_code lives.ClockEnd = number_of because.ClockEnd
life_code (lives.WornOut block) = 106

abbrev pub task_code : AskRefusal → ℕ
task_code refuses.DieStopped = number_of because.DieStopped
task_code refuses.UnknownTask = number_of because.UnknownTask
task_code refuses.EmptyJob = number_of because.EmptyJob
task_code (refuses.TooManyOps most) = number_of because.TooManyOps
task_code (refuses.BadPage page) = number_of (because.BadPage page)
task_code (refuses.TooManyWrites most) = 401
task_code (refuses.TooSoon next) = 402
task_code refuses.LifeEnd = 404

abbrev pub ask_code : PlanAskStop → ℕ
ask_code ask_stops.Begun = 100
ask_code (ask_stops.Ask (asks.Ended stop)) = life_code stop
ask_code (ask_stops.Ask (asks.Plan refusal)) = task_code refusal
ask_code (ask_stops.Ask asks.WaitsAlready) = 403

-- the first slot with room, the most operations or writes, or the page
abbrev pub task_why : AskRefusal → FlashUnasked
task_why (refuses.TooManyOps most) = unasked 0 most
task_why (refuses.BadPage page) = unasked 0 page
task_why (refuses.TooManyWrites most) = unasked 0 most
task_why (refuses.TooSoon next) = unasked next 0
task_why _ = unasked 0 0

-- the block that is worn out
abbrev pub life_why : LifeStop → FlashUnasked
life_why (lives.WornOut block) = unasked 0 block
life_why _ = unasked 0 0

abbrev pub ask_why : PlanAskStop → FlashUnasked
ask_why (ask_stops.Ask (asks.Ended stop)) = life_why stop
ask_why (ask_stops.Ask (asks.Plan refusal)) = task_why refusal
ask_why _ = unasked 0 0

abbrev pub slot_code : PlanSlotStop → ℕ
slot_code slot_stops.Begun = 100
slot_code slot_stops.NotBegun = 101
slot_code slot_stops.CheckpointStands = 115
slot_code (slot_stops.Slot slots.DeviceFault) = number_of because.DeviceFault
slot_code (slot_stops.Slot (slots.Ended stop)) = life_code stop

-- Asks

-- a job, where it is 0, or a burst
abbrev pub kind_of : ℕ → AskKind
kind_of burst = if burst == 0 then kinds.Job else kinds.Burst

abbrev pub taken_of : Taken → FlashTaken
taken_of (taken.Enters release due first jobs) = record { release = release; due = due; waits = 0; first = first; jobs = jobs }
taken_of (taken.Waits release due) = record { release = release; due = due; waits = 1; first = 0; jobs = 0 }

-- an ask is taken, and this is reported of it
pub record SaysTaken (kind : AskKind) (caller task : ℕ) (ops : List Op) (before after : Stepping) (said : FlashTaken) : Type 0 where
  pub taken : Taken
  pub asked : IsPlanAsk kind caller task ops (Ok taken) before after
  pub said_is : said ≡ taken_of taken

-- it is refused, with this number and these numbers
pub record SaysUnasked (kind : AskKind) (caller task : ℕ) (ops : List Op) (before after : Stepping) (code : ℕ) (why : FlashUnasked) : Type 0 where
  pub stop : PlanAskStop
  pub refused : IsPlanAsk kind caller task ops (Err stop) before after
  pub code_is : code ≡ ask_code stop
  pub why_is : why ≡ ask_why stop

-- why no die is made, with its numbers
pub record SaysNoKept (plan : DiePlan) (terms : Terms) (longest code : ℕ) (why : FlashUnasked) : Type 0 where
  pub refusal : OngoingRefusal
  pub refuses : RefusesOngoing plan terms longest plan.shape refusal
  pub code_is : code ≡ plan_code refusal
  pub why_is : why ≡ plan_why refusal

-- Slots

-- a slot has begun, with this call
pub record SaysBegun (caller : ℕ) (before after : Stepping) (call : FlashCall) : Type 0 where
  pub begun : Begun
  pub begins : IsBeginning caller (Ok begun) before after
  pub call_is : call ≡ call_of begun

-- none begins, for this
pub record SaysUnbegun (caller : ℕ) (before after : Stepping) (code : ℕ) : Type 0 where
  pub stop : PlanSlotStop
  pub refused : IsBeginning caller (Err stop) before after
  pub code_is : code ≡ slot_code stop

-- a slot has ended with a reply, which is reported with who began it and the collections that were waived
pub record SaysEnd (ok : Bool) (bytes : PageData) (before after : Stepping) (said : FlashReply) (room waived : List FlashWaived) : Type 0 where
  pub reply : SlotReply
  pub ended : IsEnd ok bytes (Ok reply) before after
  pub caller : ℕ
  pub began : IfSome (begun_in before) (λ begun. caller ≡ begun.caller)
  pub said_is : said ≡ reply_of caller reply
  pub waived_is : waived ≡ array_with waived_of room reply.waived

-- none has ended, for this
pub record SaysUnended (ok : Bool) (bytes : PageData) (before after : Stepping) (code : ℕ) : Type 0 where
  pub stop : PlanSlotStop
  pub refused : IsEnd ok bytes (Err stop) before after
  pub code_is : code ≡ slot_code stop

-- Questions

abbrev pub life_of : Planned MirrorNand → FlashLife
life_of die = record { first = die.first; slots = die.life; now = now die.core.log }

-- how many operations an ask has that waits, or 0
abbrev pub count_waiting : Option (List Op) → ℕ
count_waiting None = 0
count_waiting (Some ops) = count_of (length ops)

abbrev pub waiting_count : List (Option WaitingAsk) → ℕ → ℕ
waiting_count waiting task = count_waiting (ongoing.ops_of (slice_index_or waiting task None))
