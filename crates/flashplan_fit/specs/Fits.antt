-- What is said of a plan that was found: it is a plan of its datasheet.
use Rattle.std.specs.Prelude.{◌≡◌, ◌⊎◌, ℕ, ◌+◌, ◌-◌, ◌*◌, ◌≤◌, ⊤, List, [], ◌∷◌, ◌++◌, length, codes, decimal, All, Option, None, Some, Ok, IsSomeAnd}
use Rattle.std.specs.List.{AllZip}
use Rattle.demand_rules.specs.Earlier.{as_task_terms}
use Rattle.demand_rules.specs.declared.terms.TaskTerms.{TaskTerms}
use Rattle.plan_rules.specs.Bound.{MeetsBound}
use Rattle.plan_rules.specs.Times.{Passes}
use Rattle.plan_texts.specs.PlanText.{plan_of}
use Rattle.plan_texts.specs.Stores.{IsStore}
use Rattle.plan_texts.specs.declared.numbers.PlanNumbers.{PlanNumbers}
use Rattle.slot_types.specs.declared.plans.DiePlan.{DiePlan}
use Rattle.slot_types.specs.declared.plans.TaskTimes.{TaskTimes}
use Rattle.terms_texts.specs.Stores.{IsUsable, IsStore as IsTermsStore}
use Rattle.terms_texts.specs.TermsText.{read_numbers}
use Rattle.terms_texts.specs.declared.numbers.TermsNumbers.{TermsNumbers}
use Rattle.terms_texts.specs.declared.stores.DieTerms.{DieTerms}
use Rattle.flashplan_fit.specs.Sheets.{IsSheetOf}
use Rattle.flashplan_fit.specs.declared.datasheets.Asked.{Asked}
use Rattle.flashplan_fit.specs.declared.datasheets.Asked.TheVariants as asked
use Rattle.flashplan_fit.specs.declared.datasheets.InSlots.{InSlots}
use Rattle.flashplan_fit.specs.declared.datasheets.Need.{Need}
use Rattle.flashplan_fit.specs.declared.datasheets.Part.{Part}
use Rattle.flashplan_fit.specs.declared.datasheets.Sheet.{Sheet}
use Rattle.flashplan_fit.specs.declared.datasheets.Suspends.{Suspends}
use Rattle.flashplan_fit.specs.declared.datasheets.Suspends.TheVariants as suspends

-- what a slot has of an erase, beside suspending and resuming it, and the margin
abbrev pub erasing : Part → ℕ → ℕ
erasing part slot_us = slot_us - (part.suspend_us + part.resume_us + part.margin_us)

-- a slot of this length holds a read and a program, each with its transfer and the margin, and `erase_slots` slots hold
-- an erase
pub record HoldsCommands (part : Part) (slot_us erase_slots : ℕ) : Type 0 where
  pub read : part.read_us + part.transfer_us + part.margin_us ≤ slot_us
  pub program : part.program_us + part.transfer_us + part.margin_us ≤ slot_us
  pub erase : part.erase_us ≤ erase_slots * erasing part slot_us

-- a part that suspends erases so allows `tasks` tasks that collect: where it suspends none, a slot holds a whole erase;
-- where one at a time, there is one task, whose collections follow each other, or a slot holds a whole erase
abbrev pub AllowsErases : Suspends → (erase_slots tasks : ℕ) → Type 0
AllowsErases suspends.Any erase_slots tasks = ⊤
AllowsErases suspends.One erase_slots tasks = (tasks ≤ 1) ⊎ (erase_slots ≤ 1)
AllowsErases suspends.No erase_slots tasks = erase_slots ≤ 1

-- a slot has the length that the datasheet says, if it says one
abbrev pub IsAskedSlot : Option ℕ → (slot_us : ℕ) → Type 0
IsAskedSlot None slot_us = ⊤
IsAskedSlot (Some asked_us) slot_us = slot_us ≡ asked_us

-- the terms of a task that asks for reads and writes once a period, which they come no seldomer than
pub record IsPeriodic (slot_us period_us reads writes : ℕ) (t : TaskTerms) : Type 0 where
  pub period : t.period * slot_us ≤ period_us
  pub work : t.work ≡ reads + writes
  pub writing : t.writes ≡ writes

-- of one that writes `pages` pages once in `every_us` microseconds
pub record IsBurst (slot_us pages every_us : ℕ) (t : TaskTerms) : Type 0 where
  pub period : t.period * slot_us ≤ every_us
  pub work : t.work ≡ pages
  pub writing : t.writes ≡ pages

-- and of one that writes `micropages_per_s` millionths of a page a second: its period is at most the time in which its
-- writes come
pub record IsPaced (slot_us micropages_per_s : ℕ) (t : TaskTerms) : Type 0 where
  pub period : micropages_per_s * (t.period * slot_us) ≤ t.writes * 1000000000000
  pub work : t.work ≡ t.writes

abbrev pub DoesWork : ℕ → Asked → TaskTerms → Type 0
DoesWork slot_us (asked.Periodic period_us reads writes) t = IsPeriodic slot_us period_us reads writes t
DoesWork slot_us (asked.Burst pages every_us) t = IsBurst slot_us pages every_us t
DoesWork slot_us (asked.Rate micropages_per_s) t = IsPaced slot_us micropages_per_s t

-- a deadline of `deadline` slots is at most the one that is asked for; where none is, at most until the task asks again
abbrev pub IsDue : ℕ → Asked → Option ℕ → ℕ → Type 0
IsDue slot_us asks (Some deadline_us) deadline = deadline * slot_us ≤ deadline_us
IsDue slot_us (asked.Periodic period_us reads writes) None deadline = deadline * slot_us ≤ period_us
IsDue slot_us (asked.Burst pages every_us) None deadline = deadline * slot_us ≤ every_us
IsDue slot_us (asked.Rate micropages_per_s) None deadline = micropages_per_s * (deadline * slot_us) ≤ 1000000000000

-- a task's terms are of what it needs
pub record IsTaskOf (slot_us : ℕ) (need : Need) (t : TaskTerms) : Type 0 where
  pub does : DoesWork slot_us need.asked t
  pub due : IsDue slot_us need.asked need.deadline_us t.deadline

-- terms that have at most this period and this deadline, this work and these writes, are of what a task needs
abbrev pub Serves : ℕ → Need → InSlots → Type 0
Serves slot_us need wanted = (t : TaskTerms) → t.period ≤ wanted.period → t.deadline ≤ wanted.deadline
    → t.work ≡ wanted.work → t.writes ≡ wanted.writes → IsTaskOf slot_us need t

-- what a plan of a datasheet has of its part, with slots of this length
pub record IsOfPart (sheet : Sheet) (slot_us : ℕ) (plan : DiePlan) : Type 0 where
  pub blocks : plan.shape.blocks ≡ sheet.part.blocks
  pub pages : plan.shape.pages ≡ sheet.part.pages
  pub logical : plan.logical ≡ sheet.part.logical
  pub slot : IsAskedSlot sheet.part.slot_us slot_us
  pub commands : HoldsCommands sheet.part slot_us plan.shape.erase_slots
  pub erases : AllowsErases sheet.part.suspends plan.shape.erase_slots (length sheet.needs)

-- a plan of a datasheet with times; a job is due a period after its release
abbrev pub IsTimedTask : ℕ → Need → TaskTimes → Type 0
IsTimedTask slot_us need task = IsTaskOf slot_us need (as_task_terms task)

pub record IsPlanOf (sheet : Sheet) (slot_us : ℕ) (plan : DiePlan) : Type 0 where
  pub of_part : IsOfPart sheet slot_us plan
  pub tasks : IsSomeAnd plan.times (λ times. AllZip (IsTimedTask slot_us) sheet.needs times.tasks)

-- and one with terms
pub record IsTermsOf (sheet : Sheet) (slot_us : ℕ) (die : DieTerms) : Type 0 where
  pub of_part : IsOfPart sheet slot_us die.plan
  pub tasks : AllZip (IsTaskOf slot_us) sheet.needs die.terms.tasks

-- a task that asks for reads and writes once a period, and for no deadline
pub record IsPlain (need : Need) : Type 0 where
  pub no_deadline : need.deadline_us ≡ None
  pub period_us : ℕ
  pub reads : ℕ
  pub writes : ℕ
  pub periodic : need.asked ≡ asked.Periodic period_us reads writes

-- a plan meets its bound, and has times that pass their test
pub record IsPassing (plan : DiePlan) : Type 0 where
  pub bound : MeetsBound plan
  pub passes : IsSomeAnd plan.times (Passes plan)

-- the text is that of a plan of one die with times: a plan of the datasheet, which passes
pub record IsTextOfPlan (sheet : Sheet) (slot_us : ℕ) (text : List ℕ) : Type 0 where
  pub plain : All IsPlain sheet.needs
  pub numbers : PlanNumbers
  pub said : plan_of text ≡ Ok numbers
  pub die : DiePlan
  pub made : IsStore numbers (die ∷ [])
  pub of_sheet : IsPlanOf sheet slot_us die
  pub passing : IsPassing die

-- the text is that of a plan of one die with terms: a plan of the datasheet, which passes its tests
pub record IsTextOfTerms (sheet : Sheet) (slot_us : ℕ) (text : List ℕ) : Type 0 where
  pub numbers : TermsNumbers
  pub said : read_numbers text ≡ Ok numbers
  pub die : DieTerms
  pub made : IsTermsStore numbers (die ∷ [])
  pub of_sheet : IsTermsOf sheet slot_us die
  pub usable : IsUsable die

-- how the text says the length of a slot
abbrev pub slot_line : ℕ → List ℕ
slot_line slot_us = codes "# a slot is " ++ decimal slot_us ++ codes " us; "

-- the text of a plan for the datasheet of a text: it begins with the length of its slots; the plan has times where each
-- task of the datasheet asks for reads and writes once a period, and else terms
pub record IsPlanFor (sheet text : List ℕ) : Type 0 where
  pub read : Sheet
  pub is_read : IsSheetOf sheet read
  pub slot_us : ℕ
  pub rest : List ℕ
  pub begins : text ≡ slot_line slot_us ++ rest
  pub plan : IsTextOfPlan read slot_us text ⊎ IsTextOfTerms read slot_us text
