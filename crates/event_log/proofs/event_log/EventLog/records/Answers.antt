use Rattle.std.proofs.Common.{arith}
use Rattle.event_log.specs.SoundLog.{notes_in}
use Rattle.event_log.proofs.Pushing.{few_records, length_of}
use Rattle.event_log.proofs.event_log.EventLog.records.Goals as goal

pub overflow_cast-result : goal.overflow_cast-result
overflow_cast-result c =
    omega (
      arith,
      c.kept.ensures,
      c.self.invariant.0.kept_is,
      c.self.invariant.0.len_is,
      c.self.invariant.0.few,
      few_records (notes_in c.self.inside.deeds.items c.self.inside.callers.items c.self.inside.waivers.items),
      length_of c.self.inside.deeds.items c.self.inside.callers.items c.self.inside.waivers.items c.self.invariant.0.callers_are,
    )
