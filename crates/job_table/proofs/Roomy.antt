-- The queues keep room.
use Rattle.std.proofs.Common.{◌≡◌, ℕ, ◌+◌, ◌-◌, ◌<◌, min, arith, List, length, Contains}
use Rattle.due_queue.specs.declared.keys.Key.{Key}
use Rattle.due_queue.specs.declared.keys.WaitKey.{WaitKey}
use Rattle.due_queue.specs.Queue.{with_key}
use Rattle.due_queue.specs.Keys.{is_due_before, is_released_before}
use Rattle.due_queue.proofs.Inserted.{rising-inserted, length-inserted}
use Rattle.job_table.specs.QueuedKeys.{IsRoomy}
use Rattle.job_table.proofs.Orders.{due_strict, release_strict}

pub wait_roomy : (key : WaitKey) (waiting : List WaitKey) (ready : List Key) (wait_spare spare : ℕ) → 0
    < min wait_spare (spare - length waiting) → ¬ Contains waiting key
    → IsRoomy waiting ready spare → IsRoomy (with_key is_released_before key waiting) ready spare
wait_roomy key waiting ready wait_spare spare room absent roomy = record {
  waiting_rises = rising-inserted is_released_before release_strict key waiting absent roomy.waiting_rises;
  ready_rises = roomy.ready_rises;
  room = let len = length-inserted is_released_before key waiting in omega arith;
}

pub stand_roomy : (key : Key) (waiting : List WaitKey) (ready : List Key) (wait_spare spare spare' : ℕ) → 0
    < min wait_spare (spare - length waiting) → ¬ Contains ready key → spare' + 1 ≡ spare
    → IsRoomy waiting ready spare → IsRoomy waiting (with_key is_due_before key ready) spare'
stand_roomy key waiting ready wait_spare spare spare' room absent less roomy = record {
  waiting_rises = roomy.waiting_rises;
  ready_rises = rising-inserted is_due_before due_strict key ready absent roomy.ready_rises;
  room = omega arith;
}
