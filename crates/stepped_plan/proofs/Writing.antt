-- What stands between two slots is written down with the names of the pages: with them the log goes on that a renewal would begin.
use Rattle.std.proofs.Common.{◌≡◌, List, ap, sym, subst, ◌∙◌}
use Rattle.slot_types.specs.declared.pages.PageData.{PageData}
use Rattle.die_checkpoint.specs.declared.checkpoint.Checkpoint.{Checkpoint}
use Rattle.die_checkpoint.specs.Fits.{Fits}
use Rattle.flash_die.specs.Flash.{Block}
use Rattle.flash_volume.specs.Cells as volume
use Rattle.die_log.specs.Model.Flash.{cells}
use Rattle.die_log.specs.Model.Flash as model
use Rattle.die_log.specs.Model.Log.{now}
use Rattle.die_log.specs.Model.Opening.{renewed_start}
use Rattle.die_log.specs.Model.Start.{Start}
use Rattle.die_log.specs.Results.Promises.{KeepsPromises}
use Rattle.die_log.proofs.Renewal.{renewed_opens}
use Rattle.slot_core.specs.Core.{Core}
use Rattle.slot_core.specs.Renewals.{MayBeRenewed}
use Rattle.slot_core.specs.Resumptions.{checkpoint_of, start_with, resumed_start}
use Rattle.slot_core.proofs.Resuming.{opening_again}
use Rattle.ongoing_log.specs.Ongoing.{Ongoing, shut_down}
use Rattle.planned_die.specs.Resuming.{HaveEnough, lacked}
use Rattle.ongoing_die.specs.Resuming.{AreHeldForDeadlines, GoesOnAfter, NoneWaits}
use Rattle.ongoing_die.specs.Standing.{OngoingParts, StandsAs}
use Rattle.stepped_die.specs.declared.mirror.MirrorNand.{MirrorNand}
use Rattle.stepped_die.specs.declared.part.Part.{Part}
use Rattle.stepped_die.specs.Names.{pages_named}
use Rattle.stepped_die.proofs.Naming.{names_reported}
use Rattle.stepped_plan.specs.Resuming.{HasWritten}

module _ (die : OngoingParts MirrorNand) (c : Checkpoint) (names : List PageData) where
  abbrev core : Core MirrorNand
  core = die.die.core

  abbrev blocks : List Block
  blocks = core.device.memory.blocks

  abbrev renewed : Start
  renewed = renewed_start core.start core.log

  pub has_written : KeepsPromises core.start core.log → MayBeRenewed core → NoneWaits die.waiting → c ≡ checkpoint_of renewed
      → Fits core.start.plan c → names ≡ volume.contents blocks c.places
      → volume.contents blocks (cells core.start core.log).places ≡ model.contents core.start core.log
      → ((first : Start) (d : Ongoing) → StandsAs first d die
      → GoesOnAfter first (shut_down die.die.life (lacked core.start.plan c.balances) d) (resumed_start core.start.plan c blocks))
      → (now core.log ≡ die.die.life → AreHeldForDeadlines die.die.terms → HaveEnough core.start.plan die.die.terms c.balances)
      → (part : Part) → HasWritten die (record { checkpoint = c; names = names; part = part })
  has_written keeps may none is fits named pages chain stocked part = record {
    may = may;
    none_waits = none;
    checkpoint_is = is;
    names_are = named ∙ (ap (λ (k : Checkpoint). volume.contents blocks k.places) is ∙ pages);
    fits = fits;
    goes_on = same ∙ (ap (λ (k : Checkpoint). start_with core.start.plan k (volume.contents blocks k.places)) is
        ∙ (ap (λ (held : List PageData). start_with core.start.plan (checkpoint_of renewed) held) pages
        ∙ opening_again renewed (renewed_opens core.start core.log keeps.opens keeps.exact may.quiet)));
    chain = λ first d s. subst (λ (start : Start). GoesOnAfter first (shut_down die.die.life (lacked core.start.plan c.balances) d) start) (sym same)
        (chain first d s);
    stocked = stocked;
  }
    where
      same : start_with core.start.plan c (pages_named c.places names) ≡ resumed_start core.start.plan c blocks
      same = ap (λ (held : List PageData). start_with core.start.plan c held) (ap (pages_named c.places) named ∙ sym (names_reported blocks c.places))
