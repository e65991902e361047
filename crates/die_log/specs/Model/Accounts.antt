-- Tokens along a log: the moves of the accounts, entry by entry.
use Rattle.std.specs.Prelude.{if◌then◌else◌, List, [], ◌∷◌, ◌++◌, Option, Some, None, count_by}
use Rattle.slot_types.specs.declared.plans.DiePlan.{DiePlan}
use Rattle.slot_types.specs.declared.acts.Act.{Act}
use Rattle.slot_types.specs.declared.acts.Act.TheVariants as does
use Rattle.slot_types.specs.declared.events.Event.{Event}
use Rattle.slot_types.specs.declared.events.Event.TheVariants as events
use Rattle.slot_types.specs.declared.replies.Reply.{Reply}
use Rattle.slot_types.specs.declared.replies.Reply.TheVariants as replies
use Rattle.slot_types.specs.declared.replies.Waived.{Waived}
use Rattle.plan_rules.specs.Accounts.{Accounts, opening_accounts, accounts_after_admit, accounts_after_write, accounts_after_copy, accounts_after_collection}
use Rattle.plan_rules.specs.Accounts as moves
use Rattle.die_log.specs.Model.Log.{Log, Job, Carried, job_at, acts}
use Rattle.slot_types.specs.Operations.{writes}
use Rattle.die_log.specs.Model.Work.{are_all, is_copy_program}
use Rattle.die_log.specs.Model.Start.{Start}

-- an act of a job or collection that had these acts before
abbrev pub after_act : DiePlan → Option Job → List Act → Act → Accounts → Accounts
after_act plan None own act a = a
after_act plan (Some j) own (does.Read page bytes) a = a
after_act plan (Some j) own (does.Write page bytes) a = accounts_after_write a j.task
after_act plan (Some j) own (does.Trim page) a = a
after_act plan (Some j) own (does.CopyRead page) a = a
after_act plan (Some j) own (does.CopyProgram page) a = accounts_after_copy a j.task
after_act plan (Some j) own (does.Erase block) a =
    if are_all plan j (own ++ does.Erase block ∷ []) then accounts_after_collection a j.task (count_by is_copy_program own) else a

abbrev pub after_carried : DiePlan → Log → Carried → Accounts → Accounts
after_carried plan past None a = a
after_carried plan past (Some (n, act)) a = after_act plan (job_at past n) (acts n past) act a

abbrev pub after_waiver : Option Job → Accounts → Accounts
after_waiver None a = a
after_waiver (Some j) a = moves.accounts_after_waiver a j.task

abbrev pub after_waivers : Log → List Waived → Accounts → Accounts
after_waivers past [] a = a
after_waivers past (w ∷ ws) a = after_waivers past ws (after_waiver (job_at past w.number) a)

abbrev pub after_entry : DiePlan → Log → Event → Reply → Accounts → Accounts
after_entry plan past (events.Submit task release due ops) (replies.Taken number) a = accounts_after_admit a task (writes ops)
after_entry plan past _ (replies.Slot s) a = after_carried plan past s.ran (after_waivers past s.waived a)
after_entry plan past _ _ a = a

-- the accounts after the calls of a log
abbrev pub accounts : Start → Log → Accounts
accounts start [] = start.accounts
accounts start (e ∷ past) = after_entry start.plan past e.event e.reply (accounts start past)
