-- What an exact log takes is numbered in order.
use Rattle.std.proofs.Common.{◌≡◌, List, Option, Some, None, refl}
use Rattle.slot_types.specs.declared.plans.DiePlan.{DiePlan}
use Rattle.slot_types.specs.declared.acts.Act.{Act}
use Rattle.slot_types.specs.declared.events.Event.{Event}
use Rattle.slot_types.specs.declared.events.Event.TheVariants as events
use Rattle.slot_types.specs.declared.replies.Waived.{Waived}
use Rattle.die_log.specs.Model.Log.{Log, Job, now}
use Rattle.die_log.specs.Model.Answers.{reply_if_accepted, choice, slot_reply, reply_with, act_for}
use Rattle.die_log.specs.Results.Legal.{IsNumbered}
use Rattle.die_log.specs.Model.Start.{Start}

slot_with : (plan : DiePlan) (past : Log) (ws : List Waived) (j : Job) (o : Option Act) → (reply_with plan past ws j o).slot ≡ now past
slot_with plan past ws j None = refl
slot_with plan past ws j (Some act) = refl

-- the answer to a slot has the present one's number
pub slot_is : (start : Start) (past : Log) (ws : List Waived) (o : Option Job) → (slot_reply start past ws o).slot ≡ now past
slot_is start past ws None = refl
slot_is start past ws (Some j) = slot_with start.plan past ws j (act_for start past j)

pub numbered : (start : Start) (past : Log) (event : Event) → IsNumbered past event (reply_if_accepted start past event)
numbered start past (events.Submit task release due ops) = refl
numbered start past (events.Collect task release due) = refl
numbered start past events.Slot = slot_is start past (choice start past).waived (choice start past).head
