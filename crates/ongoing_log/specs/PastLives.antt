-- The lives that a die had, whichever way each ended: where the next one began by itself, by a checkpoint from which the die
-- goes on, or by a loss of power, after which it was mounted.
use Rattle.std.specs.Prelude.{◌≡◌, ℕ, ◌≤◌, List, [], ◌∷◌}
use Rattle.die_log.specs.Model.Log.{Log, now}
use Rattle.die_log.specs.Model.Start.{Start}
use Rattle.die_log.specs.Model.Opening.{IsOpening, IsQuiet, renewed_start}
use Rattle.die_log.specs.Model.Answers.{IsExact}
use Rattle.die_log.specs.Model.Lives.{Lives, all_slots}
use Rattle.die_log.specs.Results.DemandedLives.{AreFull}
use Rattle.planned_log.specs.Laws.{AreDoneInTime}

-- How a life ended. Where it was the last one before the die was shut down, or lost power: how many slots the lives up to
-- it had; and what counts as asked for before the next one, or where that one starts.
pub data End : Type 0 where
  Renewed : End
  ShutDown : (life : ℕ) (counts : Lives) → End
  LostPower : (life : ℕ) (next : Start) → End

-- a life that ended; where power was lost during a call, that is in its log, or it isn't
pub record PastLife : Type 0 where
  pub log : Log
  pub ended : End

-- where the next life starts: at what stood after the log, also where the die went on from a checkpoint; or where the mount
-- has it begin
abbrev pub next_start : Start → Log → End → Start
next_start start log Renewed = renewed_start start log
next_start start log (ShutDown life counts) = renewed_start start log
next_start start log (LostPower life next) = next

abbrev pub starts_after : Start → List PastLife → Start
starts_after first [] = first
starts_after first (p ∷ earlier) = next_start (starts_after first earlier) p.log p.ended

-- What counts as asked for before the next life, as the lives in which it was: those since the die was made, shut down or
-- mounted. Of earlier ones nobody knows what was asked for; what is taken for it counts after a checkpoint, and nothing after
-- a mount.
abbrev pub next_counted : Lives → Log → End → Lives
next_counted before log Renewed = log ∷ before
next_counted before log (ShutDown life counts) = counts
next_counted before log (LostPower life next) = []

abbrev pub counted : List PastLife → Lives
counted [] = []
counted (p ∷ earlier) = next_counted (counted earlier) p.log p.ended

-- how many slots a life had that ended so, where those after it have `later`
abbrev pub slots_up_to : (later : ℕ) → End → ℕ
slots_up_to later Renewed = later
slots_up_to later (ShutDown life counts) = life
slots_up_to later (LostPower life next) = life

-- A life of `life` slots may end so. Where the next one begins by itself it went to its end, and all was done or waived. The
-- die may be shut down earlier, as soon as that is so, and the clock begins at 0 again. Power may be lost at any moment; a
-- mount begins a life with full accounts, of the same plan.
abbrev pub MayEnd : Start → (life : ℕ) → Log → End → Type 0
MayEnd start life log Renewed = (now log ≡ life) × IsQuiet start log
MayEnd start life log (ShutDown slots counts) = (now log ≤ life) × IsQuiet start log × (all_slots counts ≡ 0)
MayEnd start life log (LostPower slots next) = (now log ≤ life) × IsOpening next × (next.plan ≡ start.plan) × AreFull next

-- The life is exact from its start, each of its jobs that was due before it ended was done by its deadline, and it ended as a
-- life may.
pub record HasPassed (start : Start) (life : ℕ) (p : PastLife) : Type 0 where
  pub exact : IsExact start p.log
  pub in_time : AreDoneInTime start.plan p.log
  pub may_end : MayEnd start life p.log p.ended

-- so has each of these; the lives after them have `life` slots
abbrev pub HavePassed : Start → ℕ → List PastLife → Type 0
HavePassed first life [] = Unit {0}
HavePassed first life (p ∷ earlier) =
    HavePassed first (slots_up_to life p.ended) earlier × HasPassed (starts_after first earlier) (slots_up_to life p.ended) p

-- Since the last loss of power

-- where the first life after it started, or the first of all
abbrev pub start_then : Start → End → Start
start_then before Renewed = before
start_then before (ShutDown life counts) = before
start_then before (LostPower life next) = next

abbrev pub start_since_loss : Start → List PastLife → Start
start_since_loss first [] = first
start_since_loss first (p ∷ earlier) = start_then (start_since_loss first earlier) p.ended

-- and the logs of the lives since then, whether they ended by a checkpoint or not
abbrev pub lives_then : Lives → Log → End → Lives
lives_then before log Renewed = log ∷ before
lives_then before log (ShutDown life counts) = log ∷ before
lives_then before log (LostPower life next) = []

abbrev pub lives_since_loss : List PastLife → Lives
lives_since_loss [] = []
lives_since_loss (p ∷ earlier) = lives_then (lives_since_loss earlier) p.log p.ended
