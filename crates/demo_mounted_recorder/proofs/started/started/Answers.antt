use Rattle.std.proofs.Common.{◌≡◌, List, Some, ap, subst, ◌∙◌}
use Rattle.std.proofs.lemmas.Result.{IfOk-weaker}
use Rattle.slot_types.specs.declared.pages.PageData.{PageData as Bytes}
use Rattle.slot_types.specs.declared.plans.DiePlan.{DiePlan}
use Rattle.flash_die.specs.Flash.{free_block}
use Rattle.die_log.specs.Model.Start.{Start}
use Rattle.power_loss.specs.Aside.{StandsOnPart, without_aside}
use Rattle.power_loss.specs.Mounted.{all_count}
use Rattle.slot_core.specs.Resumptions.{resumed_start}
use Rattle.saving_nand.specs.declared.saved.Saved.{Saved}
use Rattle.clean_shutdown.specs.Starting.{GoesOnFrom, shown_of}
use Rattle.demo_mounted_recorder.specs.Plan.{die_plan}
use Rattle.demo_mounted_recorder.proofs.started.started.Goals as goal

-- The die that is started has the pages that were saved, or that are found, and the one that keeps its plan has the same.
pub returns-in-Ok : goal.returns-in-Ok
returns-in-Ok g c =
    let core = c.in-Ok.core in
    let part = c.args.part in
    let had = g.N.SavingNand.saved part in
    let shape = g.N.Nand.shape_of part in
    let blocks = g.N.Nand.blocks part in
    let shown = shown_of shape.pages had (g.N.LabelledNand.labels part).blocks in
    let Goes = λ (pages : List Bytes) (p : DiePlan). (saved : Saved) → had ≡ Some saved → GoesOnFrom p shape had
    → pages ≡ (resumed_start p saved.checkpoint (without_aside p.shape.blocks saved.aside free_block blocks)).contents in
    let Mounts = λ (found : List Bytes) (p : DiePlan). (GoesOnFrom p shape had → ⊥) → (pages : List Bytes)
    → StandsOnPart p pages all_count shown → found ≡ pages in
    record {
      goes_on = IfOk-weaker c.kept.result (λ die. die.die.core.start.contents ≡ core.start.contents) (λ die. Goes die.die.core.start.contents die_plan)
          (λ die same saved has fits. same ∙ subst (Goes core.start.contents) c.in_ok-die_plan.ensures
          (λ saved has fits. ap (λ (s : Start). s.contents) (c.in-Ok.ensures.goes_on saved has fits).start) saved has fits)
          c.kept.ensures.pages;
      mounted = IfOk-weaker c.kept.result (λ die. die.die.core.start.contents ≡ core.start.contents) (λ die. Mounts die.die.core.start.contents die_plan)
          (λ die same none pages stands. same ∙ subst (Mounts core.start.contents) c.in_ok-die_plan.ensures
          (λ none pages stands. let (first, starts, labels, begins) = (c.in-Ok.ensures.mounted none).life pages stands in begins) none pages stands)
          c.kept.ensures.pages;
    }
