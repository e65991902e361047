use Rattle.std.proofs.Common.{◌≤◌, ◌-◌, length}
use Rattle.std.specs.Io.KnownBytes.{Consumes}
use Rattle.text_base.specs.Flags.{KeepsFlag}
use Rattle.plan_texts.proofs.plan_reading.plan_text.Given as goal

abbrev pub invariant-loop-reader : goal.invariant-loop-reader
invariant-loop-reader g l = record {
  read : Consumes (g.R.Read.remaining l.initial.reader) (g.R.Read.remaining l.reader) l.text.items;
  flag : KeepsFlag (g.R.Input.has_failed l.initial.reader) (g.R.Input.has_failed l.reader);
  room : length l.text.items ≤ 1048577;
}

abbrev pub decreases-loop-reader : goal.decreases-loop-reader
decreases-loop-reader g l = 1048577 - length l.text.items
