use Rattle.std.specs.Prelude.{◌≤◌}
use Rattle.std.specs.Io.KnownBytes.{Keeps}
use Rattle.text_base.proofs.calls.read_again.Given as goal

abbrev pub invariant-loop-calls : goal.invariant-loop-calls
invariant-loop-calls g l = Keeps (g.R.Read.remaining l.initial.reader) (g.R.Read.remaining l.reader) × (l.calls ≤ l.initial.calls)

abbrev pub decreases-loop-calls : goal.decreases-loop-calls
decreases-loop-calls g l = l.calls
