-- What a mount finds after an exact log, or where the power went during a slot of one.
use Rattle.std.proofs.Common.{◌⊎◌, ◌∙◌, ◌∷◌, inl, inr, arith}
use Rattle.die_log.specs.Model.Log.{Log}
use Rattle.die_log.specs.Model.Flash.{cells, contents}
use Rattle.die_log.specs.Model.Start.{Start}
use Rattle.die_log.specs.Model.Opening.{IsOpening}
use Rattle.die_log.specs.Model.Answers.{IsExact}
use Rattle.die_log.proofs.Renewal.{contents_len, stay_blank}
use Rattle.power_loss.specs.Labels.{Labels, Shown, labels, counts_from, IsLabelled}
use Rattle.power_loss.specs.Laws.{ShowsPages, MountsAll, MountsPlaced, ForAllSeen, ForAllSeenDuring, ForAllRecoverable}
use Rattle.power_loss.specs.Mounted.{all_count}
use Rattle.power_loss.specs.Recovery.{IsRecoverable}
use Rattle.power_loss.specs.Seen.{MaySeeAfter, MaySeePlaced}
use Rattle.power_loss.proofs.Counting.{counts_below}
use Rattle.power_loss.proofs.Exact.{stands_labelled}
use Rattle.power_loss.proofs.Mounting.{mounts_all, mounts_placed}
use Rattle.power_loss.proofs.Seeing.{shows, after_placed, cells_sound, seen_after, seen_during}

all_by : (start : Start) (first : Labels) → IsOpening start → (log : Log) → IsExact start log → (seen : Shown)
    → ShowsPages (cells start log) (contents start log) (counts_from start first log) seen
    → MountsAll (cells start log) (contents start log) (counts_from start first log) seen
all_by start first bound log exact seen w =
    mounts_all (cells start log) (contents start log) (counts_from start first log) seen w (stay_blank start bound log exact)

placed_by : (start : Start) (first : Labels) (log : Log) (seen : Shown)
    → ShowsPages (cells start log) (contents start log) (counts_from start first log) seen
    → MountsPlaced (cells start log) (contents start log) all_count (counts_from start first log) seen
placed_by start first log seen w =
    mounts_placed (cells start log) (contents start log) all_count (counts_from start first log) seen (λ page q x e f. omega arith) w

either : {A B C D : Type 0} → (A → C) → (B → D) → A ⊎ B → C ⊎ D
either f g (inl a) = inl (f a)
either f g (inr b) = inr (g b)

pub all_after : ForAllSeen MountsAll
all_after start first bound labelled log exact seen w =
    all_by start first bound log exact seen (seen_after start first bound labelled log exact seen w)

pub all_during : ForAllSeenDuring MountsAll
all_during start first bound labelled e past exact seen w =
    either (all_by start first bound past exact.0 seen) (all_by start first bound (e ∷ past) exact seen)
    (seen_during start first bound labelled e past exact seen w)

pub placed_after : ForAllSeen (λ c pages from. MountsPlaced c pages all_count from)
placed_after start first bound labelled log exact seen w =
    placed_by start first log seen (seen_after start first bound labelled log exact seen w)

pub placed_during : ForAllSeenDuring (λ c pages from. MountsPlaced c pages all_count from)
placed_during start first bound labelled e past exact seen w =
    either (placed_by start first past seen) (placed_by start first (e ∷ past) seen)
    (seen_during start first bound labelled e past exact seen w)

-- Recoverable

pub log_recoverable : (start : Start) (first : Labels) → IsOpening start → IsLabelled start first → (log : Log) → IsExact start log
    → IsRecoverable start.plan (cells start log) (contents start log) (labels start first log) (counts_from start first log)
log_recoverable start first bound labelled log exact =
    let h = stands_labelled start first bound labelled log exact in record {
      sound = cells_sound start bound log exact;
      labelled = h.labelled;
      bytes = h.bytes;
      counts = h.counts;
      below = counts_below start first log;
      contents = contents_len start log ∙ bound.pages;
      blank = stay_blank start bound log exact;
    }

pub log_seen : (start : Start) (first : Labels) → IsOpening start → IsLabelled start first → (log : Log) → IsExact start log
    → (seen : Shown) → MaySeeAfter (cells start log) (labels start first log) seen
    → MaySeePlaced (cells start log) (labels start first log).blocks seen
log_seen start first bound labelled log exact seen w =
    after_placed start.plan (cells start log) (labels start first log) seen (cells_sound start bound log exact) w

pub shows_all : ForAllRecoverable (λ plan c pages l from. (seen : Shown) → MaySeePlaced c l.blocks seen → ShowsPages c pages from seen)
shows_all plan bound c pages l from h seen w = shows plan c pages l from seen w h.labelled h.bytes h.counts

pub mounts_it : ForAllRecoverable (λ plan c pages l from. (seen : Shown) → MaySeePlaced c l.blocks seen → MountsAll c pages from seen)
mounts_it plan bound c pages l from h seen w = mounts_all c pages from seen (shows_all plan bound c pages l from h seen w) h.blank
