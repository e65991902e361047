-- Exact logs keep cells labelled, which labels count, and the bytes of placed pages.
use Rattle.std.proofs.Common.{[], ◌∷◌, Some, None, arith}
use Rattle.die_log.specs.Model.Log.{Log, Carried}
use Rattle.die_log.specs.Model.Flash.{cells, cells_after, contents, contents_after, ran_by}
use Rattle.die_log.specs.Model.Start.{Start}
use Rattle.die_log.specs.Model.Opening.{IsOpening}
use Rattle.die_log.specs.Model.Answers.{IsExact}
use Rattle.die_log.proofs.Legal.Exact.{stands_well, has_pages}
use Rattle.die_log.proofs.Renewal.{contents_len}
use Rattle.power_loss.specs.Labels.{Labels, labels, labels_after, counts_after, counts_from, AreLabelled, CountFrom}
use Rattle.power_loss.specs.Labels.{HaveBytes, IsLabelled}
use Rattle.power_loss.proofs.Carrying.{IsSoundCarried, carried_sound}
use Rattle.power_loss.proofs.Counting.{step_counts, counts_below, first_count}
use Rattle.power_loss.proofs.Having.{step_has}
use Rattle.power_loss.proofs.Steps.{step_labelled}

-- what stands of the labels after a log
pub record StandsLabelled (start : Start) (first : Labels) (log : Log) : Type 0 where
  pub labelled : AreLabelled start.plan (cells start log) (labels start first log)
  pub bytes : HaveBytes (cells start log) (labels start first log).blocks (contents start log)
  pub counts : CountFrom (cells start log) (labels start first log).blocks (counts_from start first log)

-- the same, after a log and one more slot that carried this
record Follows (start : Start) (first : Labels) (past : Log) (ran : Carried) : Type 0 where
  labelled : AreLabelled start.plan (cells_after start.plan ran (cells start past))
      (labels_after start.plan (cells start past) (contents start past) ran (labels start first past))
  bytes : HaveBytes (cells_after start.plan ran (cells start past))
      (labels_after start.plan (cells start past) (contents start past) ran (labels start first past)).blocks (contents_after ran (contents start past))
  counts : CountFrom (cells_after start.plan ran (cells start past))
      (labels_after start.plan (cells start past) (contents start past) ran (labels start first past)).blocks
      (λ page. counts_after page (labels start first past).next ran (counts_from start first past page))

follows : (start : Start) (first : Labels) → IsOpening start → (past : Log) → IsExact start past → (ran : Carried) → IsSoundCarried start past ran
    → StandsLabelled start first past → Follows start first past ran
follows start first bound past exact None k h = record { labelled = h.labelled; bytes = h.bytes; counts = h.counts }
follows start first bound past exact (Some (n, act)) k h =
    let pages = has_pages start.plan bound.bound in
    let sound = (stands_well start bound past exact).0.collects.sound in
    let l : Labels = labels start first past in
    record {
      labelled = step_labelled start.plan n act (cells start past) (contents start past) l pages sound k.room k.within k.erases h.labelled;
      bytes = step_has start.plan n act (cells start past) (contents start past) l pages sound k.room
          (λ page own. omega (arith, k.within page own, sound.places, contents_len start past, bound.pages)) k.erases h.labelled h.bytes;
      counts = step_counts start.plan n act (cells start past) (contents start past) l (counts_from start first past) pages sound k.room k.within k.erases
          h.labelled (counts_below start first past) h.counts;
    }

pub stands_labelled : (start : Start) (first : Labels) → IsOpening start → IsLabelled start first → (log : Log) → IsExact start log
    → StandsLabelled start first log
stands_labelled start first bound h [] exact = record { labelled = h.labelled; bytes = h.bytes; counts = first_count start first h.labelled }
stands_labelled start first bound h (e ∷ past) exact =
    let f = follows start first bound past exact.0 (ran_by e.reply) (carried_sound start bound e past exact)
    (stands_labelled start first bound h past exact.0) in
    record { labelled = f.labelled; bytes = f.bytes; counts = f.counts }

pub keeps_labels : (start : Start) (first : Labels) → IsOpening start → IsLabelled start first → (log : Log) → IsExact start log
    → AreLabelled start.plan (cells start log) (labels start first log)
keeps_labels start first bound h log exact = (stands_labelled start first bound h log exact).labelled
