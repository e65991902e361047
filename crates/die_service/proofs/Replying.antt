-- How long the log of a die is.
use Rattle.std.proofs.Common.{◌≡◌, ℕ, ◌+◌, ◌≤◌, true, false, [], length, refl, arith}
use Rattle.std.proofs.lemmas.List.{length_push}
use Rattle.slot_types.specs.declared.events.Event.{Event}
use Rattle.slot_types.specs.declared.events.Event.TheVariants as events
use Rattle.die_log.specs.Model.Log.{Log, jobs, carried_slots, now}
use Rattle.std.specs.List.{AllByRecursion}
use Rattle.die_log.specs.Model.Answers.{IsExact, reply_if_accepted, refusals, slot_reply, choice}
use Rattle.die_log.proofs.Legality.{exact_induction}
use Rattle.slot_core.specs.Core.{with_entry}
use Rattle.die_log.proofs.Limits.{keeps_limits}
use Rattle.die_log.specs.Model.Start.{Start}

-- an entry is a job or collection, or a slot
abbrev Counted : Start → Log → Type 0
Counted start log = length log ≡ length (jobs log) + now log

counted : (start : Start) (log : Log) → IsExact start log → Counted start log
counted start = exact_induction start (Counted start) refl step
  where
    step : (past : Log) (caller : ℕ) (event : Event) → IsExact start past → Counted start past
        → AllByRecursion (λ c. c.0 ≡ false) (refusals start past event)
        → Counted start (with_entry caller event (reply_if_accepted start past event) past)
    step past caller (events.Submit task release due ops) exact h none =
        omega (
          arith,
          h,
          length_push (jobs past) (record
              { number = length (jobs past); collects = false; task = task; release = release; due = due; ops = ops }),
        )
    step past caller (events.Collect task release due) exact h none =
        omega (
          arith,
          h,
          length_push (jobs past) (record
              { number = length (jobs past); collects = true; task = task; release = release; due = due; ops = [] }),
        )
    step past caller events.Slot exact h none =
        omega (arith, h, length_push (carried_slots past) (slot_reply start past (choice start past).waived (choice start past).head).ran)

-- a die has at most 65,536 jobs and collections, and 1,048,576 slots
pub few_entries : (start : Start) (log : Log) → IsExact start log → length log ≤ 4294967295
few_entries start log exact = let k = keeps_limits start log exact in omega (arith, counted start log exact, k.slots, k.few_jobs)
