-- What a slot leaves.
use Rattle.std.proofs.Common.{◌≡◌, ℕ, ◌∷◌, Result, Ok, Err}
use Rattle.slot_types.specs.Refusal.{FailsForMemory}
use Rattle.slot_types.specs.declared.refusals.Refusal.{Refusal}
use Rattle.flashplan_script_runs.specs.RunningDies.{CarriesSlot, RunningDie, TakesSlot}
use Rattle.flashplan_script_runs.proofs.Calls.{not_both}
use Rattle.slot_types.specs.declared.replies.SlotReply.{SlotReply}
use Rattle.die_log.specs.Model.Log.{Log}
use Rattle.slot_types.specs.declared.plans.DiePlan.{DiePlan}
use Rattle.flashplan_watched_runs.specs.Wear.{IsWearOf, slot_entry}
use Rattle.flashplan_watched_runs.specs.declared.tallies.Tally.{Tally}

-- the counts of a log are then those of the log with one slot more
pub worn_after : (before after : DiePlan) (past log : Log) (reply : SlotReply) (old new : Tally) → log ≡ slot_entry reply ∷ past → after
    ≡ before
    → ((blocks : ℕ) (earlier : Log) → IsWearOf blocks earlier old → IsWearOf blocks (slot_entry reply ∷ earlier) new)
    → IsWearOf before.shape.blocks past old → IsWearOf after.shape.blocks log new
worn_after before after past log reply old new logged same noted worn = rw (logged, same) (noted before.shape.blocks past worn)

-- a slot that was carried out is so also where it isn't noted, out of memory
pub slot_noted : {A : Type 0} (noted : Result A Refusal) (before after : RunningDie) → CarriesSlot before after → FailsForMemory noted
    → TakesSlot noted before after
slot_noted (Ok x) before after carried fails = carried
slot_noted (Err refusal) before after carried fails = record {
  start_stays = carried.start_stays;
  memory = λ up. fails;
  log_stays = λ down. not_both after.stopped carried.runs down;
  stays = λ down. not_both before.stopped carried.ran down;
}
