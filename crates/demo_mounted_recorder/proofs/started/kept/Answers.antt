use Rattle.std.proofs.Common.{◌≡◌, List, IfOk, ap, refl, subst, subst₂, sym, ◌∙◌}
use Rattle.std.proofs.lemmas.Result.{IfOk-weaker}
use Rattle.slot_types.specs.declared.plans.DiePlan.{DiePlan}
use Rattle.flash_die.specs.Flash.{Block}
use Rattle.die_log.specs.Model.Flash.{contents}
use Rattle.die_log.specs.Model.Log.{Log}
use Rattle.die_log.specs.Model.Opening.{renewed_start}
use Rattle.die_log.specs.Model.Start.{Start}
use Rattle.slot_core.specs.Core.{Core}
use Rattle.slot_core.specs.Resumptions.{resumed_start}
use Rattle.demo_mounted_recorder.proofs.started.kept.Goals as goal

-- The start of the resumed die is that of the renewed log, and with an empty log that has the same pages.
pub returns : goal.returns
returns g c =
    let core = c.args.core in
    let start = renewed_start core.start core.log in
    let blocks = g.N.Nand.blocks in
    let device = c.into_device.ensures ∙ ap (λ (d : Core _). d.device) c.checkpoint-taken.ensures.unchanged in
    let goes = subst₂ (λ (p : DiePlan) (b : List Block). IfOk c.checkpoint-taken.result (λ taken. resumed_start p taken b ≡ start))
    c.requires.plan (ap blocks (sym device)) c.checkpoint-taken.ensures.goes_on in
    let same = subst (λ (log : Log). contents core.start log ≡ core.start.contents) (sym c.requires.begun) refl in
    record {
      pages = IfOk-weaker c.resume.result (λ die. die.die.core.start ≡ start) (λ die. die.die.core.start.contents ≡ core.start.contents)
          (λ die e. ap (λ (s : Start). s.contents) e ∙ same) (c.resume.ensures.start start goes);
    }
