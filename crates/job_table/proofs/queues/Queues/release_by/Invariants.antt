use Rattle.std.proofs.Common.{◌+◌, ◌-◌, ◌≤◌, min, length}
use Rattle.job_table.specs.QueuedKeys.{AreQueued, IsRoomy}
use Rattle.job_table.proofs.queues.Queues.release_by.Given as goal

abbrev pub invariant-loop-key : goal.invariant-loop-key
invariant-loop-key l = record {
  roomy : IsRoomy l.self-inside.waiting.keys l.self-inside.ready.keys l.self-inside.ready.spare;
  queued : AreQueued l.jobs.jobs l.now l.self-inside.waiting.keys l.self-inside.ready.keys;
  fewer : length l.self-inside.waiting.keys ≤ length l.initial.self-inside.waiting.keys;
  room : min l.initial.self-inside.waiting.spare (l.initial.self-inside.ready.spare - length l.initial.self-inside.waiting.keys)
      ≤ min l.self-inside.waiting.spare (l.self-inside.ready.spare - length l.self-inside.waiting.keys);
  memory : min (l.initial.self-inside.waiting.spare + length l.initial.self-inside.waiting.keys)
      (l.initial.self-inside.ready.spare + length l.initial.self-inside.ready.keys)
      ≤ min (l.self-inside.waiting.spare + length l.self-inside.waiting.keys) (l.self-inside.ready.spare + length l.self-inside.ready.keys);
}

abbrev pub decreases-loop-key : goal.decreases-loop-key
decreases-loop-key l = length l.self-inside.waiting.keys
