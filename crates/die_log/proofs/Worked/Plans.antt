-- Plans and calls for worked rows, and what is read off a log for them.
use Rattle.std.proofs.Common.{ℕ, List, [], ◌∷◌, replicate, map, Option, Some, None, option_map, ℤ}
use Rattle.std.specs.List.{filter_map}
use Rattle.slot_types.specs.declared.plans.DiePlan.{DiePlan}
use Rattle.slot_types.specs.declared.pages.PageData.{PageData}
use Rattle.slot_types.specs.declared.acts.Act.TheVariants as does
use Rattle.slot_types.specs.declared.events.Op.{Op}
use Rattle.slot_types.specs.declared.events.Op.TheVariants.{Write}
use Rattle.slot_types.specs.declared.events.Event.{Event}
use Rattle.slot_types.specs.declared.events.Event.TheVariants.{Submit, Collect, Slot}
use Rattle.plan_rules.specs.Accounts.{Accounts}
use Rattle.die_log.specs.Model.Start.{Start, fresh}
use Rattle.die_log.specs.Model.Log.{Log, Carried, carried_slots}
use Rattle.die_log.specs.Model.Work.{lateness_of, worst}

-- a die with eight blocks for twelve pages
abbrev pub roomy_plan : DiePlan
roomy_plan = record { shape = record { blocks = 8; pages = 4; erase_slots = 3 }; logical = 12; alpha = 2; caps = 4 ∷ []; times = None }

-- a die with four blocks for five pages
abbrev pub roomy : Start
roomy = fresh roomy_plan

abbrev pub tight_plan : DiePlan
tight_plan = record { shape = record { blocks = 4; pages = 4; erase_slots = 3 }; logical = 5; alpha = 2; caps = 4 ∷ []; times = None }

abbrev pub tight : Start
tight = fresh tight_plan

-- the accounts of a plan of one task
abbrev pub amounts : DiePlan → ℕ → ℕ → ℕ → ℕ → Accounts
amounts plan spare balance hold reserve = record {
  plan = plan;
  spare = spare;
  balances = balance ∷ [];
  holds = hold
      ∷ [];
  reserves = reserve ∷ [];
}

-- a page of sixteen bytes of one value
abbrev pub bytes : ℕ → PageData
bytes b = record { 0 = replicate 16 b }

-- a write of a page's own number
abbrev pub put : ℕ → Op
put page = Write page (bytes page)

abbrev pub submit : ℕ → ℕ → List Op → ℕ × Event
submit release due ops = (0, Submit 0 release due ops)

abbrev pub collect : ℕ → ℕ → ℕ × Event
collect release due = (0, Collect 0 release due)

abbrev pub slot : ℕ × Event
slot = (0, Slot)

-- the numbers carried, by slot
abbrev pub numbers : Log → List (Option ℕ)
numbers log = map (λ c. option_map (λ r. r.0) c) (carried_slots log)

-- the worst job and its lateness
abbrev pub worst_of : DiePlan → Log → Option (ℕ × ℤ)
worst_of plan log = option_map {U = ℕ × ℤ} (λ j. (j.number, lateness_of log j)) (worst plan log)

-- the page that an act programs
abbrev pub page_programmed : Carried → Option ℕ
page_programmed (Some (n, does.Write page content)) = Some page
page_programmed (Some (n, does.CopyProgram page)) = Some page
page_programmed _ = None

-- the pages programmed, in order
abbrev pub programs : Log → List ℕ
programs log = filter_map page_programmed (carried_slots log)
