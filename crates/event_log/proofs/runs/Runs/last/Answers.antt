use Rattle.std.proofs.Common.{◌-◌, sym, arith}
use Rattle.event_log.proofs.Spreading.{last_run}
use Rattle.event_log.proofs.runs.Runs.last.Goals as goal

pub returns : goal.returns
returns g c =
    rw (← c.self.view_is) (sym (last_run c.self.inside.runs.items (c.len-count.result - 1) c.index.result.now
    (omega (arith, c.self.inside.runs.ok.0)) c.self.invariant.0 c.index.ensures))
