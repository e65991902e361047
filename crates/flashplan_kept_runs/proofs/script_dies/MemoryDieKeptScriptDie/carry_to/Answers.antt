use Rattle.std.proofs.Common.{ap, arith}
use Rattle.flashplan_kept_runs.specs.KeptDies.{KeptStart, kept_of}
use Rattle.flashplan_kept_runs.proofs.Way.{way_goes_on}
use Rattle.flashplan_kept_runs.proofs.script_dies.MemoryDieKeptScriptDie.carry_to.Goals as goal

pub slot-requires : goal.slot-requires
slot-requires c =
    omega (
      arith,
      c.loop-present.invariant.clock,
      c.loop-present-test.true,
      c.requires.within,
      ap (λ (b : KeptStart). b.life) c.loop-present.invariant.moved.begun_stays,
    )

pub loop-present-preserved : goal.loop-present-preserved
loop-present-preserved c =
    way_goes_on c.args.slot c.loop-present._present (kept_of c.args.self.now) (kept_of c.loop-present.self) (kept_of c.slot.new.self)
    c.loop-present-test.true c.loop-present.invariant c.slot.ensures.moved c.slot.ensures.counted
