use Rattle.std.proofs.Common.{◌≡◌, ◌-◌, ◌≤◌, length}
use Rattle.job_table.specs.Table.{Table}
use Rattle.slot_core.proofs.Foreseeing.{Foresees}
use Rattle.slot_core.proofs.next_calls.look_ahead.Given as goal

abbrev pub invariant-loop-number : goal.invariant-loop-number
invariant-loop-number g l = record {
  foresees : Foresees g.from.0 g.N.Nand.blocks g.from.1 l.present l.said (record l.table { clock = l.present }) l.volume l.spare;
  clock : l.table.clock ≤ l.present;
  table : record l.table { clock = l.present } ≡ record l.fn.table { clock = l.present };
}

abbrev pub decreases-loop-number : goal.decreases-loop-number
decreases-loop-number g l = 16 - length l.said
