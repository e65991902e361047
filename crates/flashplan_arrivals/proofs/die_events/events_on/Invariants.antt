use Rattle.std.proofs.Common.{◌≤◌, length}
use Rattle.std.specs.Prelude.{option_map}
use Rattle.script_texts.specs.ScriptLeft.{script_left}
use Rattle.script_texts.specs.Script.{script_of}
use Rattle.flashplan_arrivals.proofs.Reading.{HasCome}
use Rattle.flashplan_arrivals.proofs.die_events.events_on.Given as goal

abbrev pub invariant-loop : goal.invariant-loop
invariant-loop g l = record {
  within : l.now ≤ l.slots;
  come : HasCome (option_map (script_of (length l.plan) l.slots) (g.R.Read.remaining l.fn.reader)) (script_left g.R.Read.remaining l.script)
      l.slots l.now l.die l.events;
}
