use Rattle.std.proofs.Common.{ap, sym, ◌∙◌, subst}
use Rattle.die_checkpoint.specs.declared.checkpoint.Checkpoint.{Checkpoint}
use Rattle.flash_die.specs.Memory.{Memory}
use Rattle.flash_volume.specs.Checkpoints.{IsAsLeft}
use Rattle.slot_core.specs.Core.{Core}
use Rattle.flashplan_checkpoint_runs.proofs.GoingOn.{resumed_as_saved}
use Rattle.flashplan_checkpoint_runs.proofs.starts.saved_die.Goals as goal

pub resume-requires : goal.resume-requires
resume-requires c = record {
  left = λ shape fits.
      subst (λ (made : Checkpoint). IsAsLeft made c.in_ok-device.device.blocks 0) (sym c.in_ok-checkpoint.ensures.checkpoint)
      c.in_ok-device.ensures.left;
}

pub returns-in-Ok-clause-ok : goal.returns-in-Ok-clause-ok
returns-in-Ok-clause-ok c =
    ap (λ (core : Core Memory). core.start) c.in-Ok.ensures.ok
    ∙ resumed_as_saved c.args.plan c.args.saved.now c.in_ok-checkpoint.checkpoint c.in_ok-device.device.blocks
    c.in_ok-checkpoint.ensures.checkpoint c.in_ok-device.ensures.holds

pub returns-in-Ok-clause-log : goal.returns-in-Ok-clause-log
returns-in-Ok-clause-log c = ap (λ (core : Core Memory). core.log) c.in-Ok.ensures.ok

pub returns-in-Ok-clause-runs : goal.returns-in-Ok-clause-runs
returns-in-Ok-clause-runs c = ap (λ (core : Core Memory). core.stopped) c.in-Ok.ensures.ok
