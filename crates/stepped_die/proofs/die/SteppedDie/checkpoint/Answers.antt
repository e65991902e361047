use Rattle.std.proofs.Common.{ap, ◌∙◌}
use Rattle.slot_core.specs.Core.{Core}
use Rattle.stepped_die.specs.declared.mirror.MirrorNand.{MirrorNand}
use Rattle.stepped_die.proofs.Naming.{cells_in, goes_on_named, names_are, names_asked}
use Rattle.stepped_die.proofs.die.SteppedDie.checkpoint.Goals.{in-Ok-names_of, in-Err-names_of}
use Rattle.stepped_die.proofs.die.SteppedDie.checkpoint.Goals as goal

pub returns-clause-names : goal.returns-clause-names
returns-clause-names c =
    let core : Core MirrorNand = c.self.inside.core in
    elim c.match-names_of.branch [
      | in-Ok-names_of w ↦ rw (w.result-is, ← c.self.view_is)
          (names_are core.start core.log c.in-Ok.checkpoint (cells_in core.device) w.in-Ok-names_of.names c.in-Ok.ensures.goes_on
          (names_asked c.device.result.now core.device c.as_slice.result.now c.in-Ok.checkpoint.places w.in-Ok-names_of.names
          w.in-Ok-names_of.ensures.names
          (c.device.ensures.device ∙ ap (λ (k : Core MirrorNand). k.device) c.checkpoint.ensures.unchanged) c.as_slice.ensures))
      | in-Err-names_of w ↦ rw w.result-is tt
    ]

pub returns-clause-goes_on : goal.returns-clause-goes_on
returns-clause-goes_on c =
    let core : Core MirrorNand = c.self.inside.core in
    elim c.match-names_of.branch [
      | in-Ok-names_of w ↦ rw (w.result-is, ← c.self.view_is)
          (goes_on_named core.start core.log c.in-Ok.checkpoint (cells_in core.device) w.in-Ok-names_of.names c.in-Ok.ensures.goes_on
          (names_asked c.device.result.now core.device c.as_slice.result.now c.in-Ok.checkpoint.places w.in-Ok-names_of.names
          w.in-Ok-names_of.ensures.names
          (c.device.ensures.device ∙ ap (λ (k : Core MirrorNand). k.device) c.checkpoint.ensures.unchanged) c.as_slice.ensures))
      | in-Err-names_of w ↦ rw w.result-is tt
    ]
