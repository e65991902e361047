-- The accounts along a log are those of its plan.
use Rattle.std.proofs.Common.{◌≡◌, Bool, true, false, cond, List, [], ◌∷◌, ◌++◌, Option, Some, None, refl, ◌∙◌}
use Rattle.slot_types.specs.declared.plans.DiePlan.{DiePlan}
use Rattle.slot_types.specs.declared.acts.Act.{Act}
use Rattle.slot_types.specs.declared.acts.Act.TheVariants as does
use Rattle.slot_types.specs.declared.events.Event.{Event}
use Rattle.slot_types.specs.declared.events.Event.TheVariants as events
use Rattle.slot_types.specs.declared.replies.Reply.{Reply}
use Rattle.slot_types.specs.declared.replies.Reply.TheVariants as replies
use Rattle.slot_types.specs.declared.replies.Waived.{Waived}
use Rattle.plan_rules.specs.Accounts.{Accounts}
use Rattle.die_log.specs.Model.Log.{Log, Job, Carried, job_at, acts}
use Rattle.die_log.specs.Model.Work.{are_all}
use Rattle.die_log.specs.Model.Accounts.{after_act, after_carried, after_waiver, after_waivers, after_entry, accounts}
use Rattle.die_log.specs.Model.Start.{Start}

settled_plan : (a b : Accounts) (test : Bool) → a.plan ≡ b.plan → (cond test a b).plan ≡ b.plan
settled_plan a b true e = e
settled_plan a b false e = refl

act_plan : (plan : DiePlan) (o : Option Job) (own : List Act) (act : Act) (a : Accounts) → (after_act plan o own act a).plan ≡ a.plan
act_plan plan None own act a = refl
act_plan plan (Some j) own (does.Read page bytes) a = refl
act_plan plan (Some j) own (does.Write page bytes) a = refl
act_plan plan (Some j) own (does.Trim page) a = refl
act_plan plan (Some j) own (does.CopyRead page) a = refl
act_plan plan (Some j) own (does.CopyProgram page) a = refl
act_plan plan (Some j) own (does.Erase block) a = settled_plan _ a (are_all plan j (own ++ does.Erase block ∷ [])) refl

carried_plan : (plan : DiePlan) (past : Log) (c : Carried) (a : Accounts) → (after_carried plan past c a).plan ≡ a.plan
carried_plan plan past None a = refl
carried_plan plan past (Some (n, act)) a = act_plan plan (job_at past n) (acts n past) act a

waiver_plan : (o : Option Job) (a : Accounts) → (after_waiver o a).plan ≡ a.plan
waiver_plan None a = refl
waiver_plan (Some j) a = refl

pub waivers_plan : (past : Log) (ws : List Waived) (a : Accounts) → (after_waivers past ws a).plan ≡ a.plan
waivers_plan past [] a = refl
waivers_plan past (w ∷ ws) a = waivers_plan past ws (after_waiver (job_at past w.number) a) ∙ waiver_plan (job_at past w.number) a

entry_plan : (plan : DiePlan) (past : Log) (event : Event) (reply : Reply) (a : Accounts) → (after_entry plan past event reply a).plan
    ≡ a.plan
entry_plan plan past (events.Submit task release due ops) (replies.Taken number) a = refl
entry_plan plan past (events.Submit task release due ops) (replies.Slot s) a = carried_plan plan past s.ran (after_waivers past s.waived a)
    ∙ waivers_plan past s.waived a
entry_plan plan past (events.Submit task release due ops) (replies.Refused r) a = refl
entry_plan plan past (events.Collect task release due) (replies.Taken number) a = refl
entry_plan plan past (events.Collect task release due) (replies.Slot s) a = carried_plan plan past s.ran (after_waivers past s.waived a)
    ∙ waivers_plan past s.waived a
entry_plan plan past (events.Collect task release due) (replies.Refused r) a = refl
entry_plan plan past events.Slot (replies.Taken number) a = refl
entry_plan plan past events.Slot (replies.Slot s) a = carried_plan plan past s.ran (after_waivers past s.waived a)
    ∙ waivers_plan past s.waived a
entry_plan plan past events.Slot (replies.Refused r) a = refl

pub accounts_plan : (start : Start) (log : Log) → (accounts start log).plan ≡ start.accounts.plan
accounts_plan start [] = refl
accounts_plan start (e ∷ past) = entry_plan start.plan past e.event e.reply (accounts start past) ∙ accounts_plan start past
