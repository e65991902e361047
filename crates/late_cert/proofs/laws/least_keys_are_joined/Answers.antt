use Rattle.late_cert.proofs.Joined.{keys-joined, over-joined}
use Rattle.late_cert.proofs.Least.{least-late}
use Rattle.late_cert.specs.JoinedRows.{joined_rows, joined_slots}
use Rattle.std.proofs.Common.{length}
use Rattle.late_cert.proofs.laws.least_keys_are_joined.Goals as goal

pub returns : goal.returns
returns c = record {
  keys = keys-joined;
  least_late = λ rows later carried slots numbers first over second.
      least-late (joined_rows numbers (length carried) rows later) (joined_slots numbers carried slots)
      (keys-joined rows later carried slots numbers first over second);
  over = over-joined;
}
