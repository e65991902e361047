use Rattle.std.proofs.Common.{◌≡◌, ◌≤◌, length, take}
use Rattle.late_cert.specs.Runs.{slots_of}
use Rattle.late_cert.specs.BusyInterval.{start_of}
use Rattle.late_cert.specs.Build.{AreMarks}
use Rattle.late_cert.proofs.busy_intervals.walk_back.Given as goal

abbrev pub invariant-loop-i : goal.invariant-loop-i
invariant-loop-i l = record {
  inside : l.i ≤ length l.runs;
  ends : l.end ≡ length (slots_of (take l.i l.runs));
  reached : l.start ≤ l.end;
  ordered : l.start ≤ l.completion;
  same : start_of l.rows l.carried l.job l.completion ≡ start_of l.rows l.carried l.job l.start;
  marked : AreMarks l.rows l.carried l.start l.completion l.marks.items;
}

abbrev pub decreases-loop-i : goal.decreases-loop-i
decreases-loop-i l = l.i
