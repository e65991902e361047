-- A die's lives, one after the other: each begins with a renewal of the one before it, or with a mount after a loss of
-- power.
use Rattle.std.specs.Prelude.{◌≡◌, ◌≢◌, ◌⊎◌, ℕ, ◌≤◌, ◌<◌, Bool, true, false, List, [], ◌∷◌, Some, map, length}
use Rattle.slot_types.specs.declared.replies.Entry.{Entry}
use Rattle.slot_types.specs.declared.pages.PageData.{PageData}
use Rattle.slot_types.specs.declared.pages.Place.{Place}
use Rattle.slot_types.specs.declared.plans.DiePlan.{DiePlan}
use Rattle.slot_types.specs.declared.acts.Act.TheVariants as does
use Rattle.die_log.specs.Model.Log.{Log, Carried}
use Rattle.die_log.specs.Model.Flash.{cells, contents, contents_after, ran_by}
use Rattle.die_log.specs.Model.Lives.{Lives, start_after}
use Rattle.die_log.specs.Model.Start.{Start}
use Rattle.die_log.specs.Model.Opening.{IsOpening, renewed_start}
use Rattle.die_log.specs.Model.Answers.{IsExact}
use Rattle.power_loss.specs.Aside.{NothingTrimmed, MaySeeOnPart, MaySeeAgainOnPart, MountsTo}
use Rattle.power_loss.specs.Aside.{most_acts_beside, most_rounds_beside}
use Rattle.power_loss.specs.Labels.{Label, Labels, Shown, label_at, labels, IsLabelled, CountFrom, MayCountFrom}
use Rattle.power_loss.specs.Mounted.{all_count}
use Rattle.power_loss.specs.Recovery.{FitRounds}
use Rattle.power_loss.specs.Seen.{MaySeeAfter, MaySeeDuring, MaySeePlaced}

-- where a log starts, with which labels, and from which numbers on these count; the log, up to where the power went or
-- the die was renewed (a call during which the power went is in it, or it isn't); and whether the power was lost before
-- it
pub record Life : Type 0 where
  pub start : Start
  pub first : Labels
  pub from : ℕ → ℕ
  pub log : Log
  pub lost : Bool

pub record IsLife (life : Life) : Type 0 where
  pub opens : IsOpening life.start
  pub labelled : IsLabelled life.start life.first
  pub exact : IsExact life.start life.log

-- Renewals

-- the next life starts with the plan, with what the pages held, where they lay, and with the labels, which count as
-- before
pub record FollowsRenewal (before life : Life) : Type 0 where
  pub plan : life.start.plan ≡ before.start.plan
  pub contents : life.start.contents ≡ contents before.start before.log
  pub places : life.start.cells.places ≡ (cells before.start before.log).places
  pub labels : life.first ≡ labels before.start before.first before.log
  pub from : (page : ℕ) → life.from page ≡ before.from page

-- Losses

-- what may be seen of the part where the power went after the life's last slot; and during it
abbrev pub MaySeeAtEnd : Life → ℕ → Shown → Type 0
MaySeeAtEnd life aside =
    MaySeeOnPart life.start.plan.shape.blocks aside (MaySeeAfter (cells life.start life.log) (labels life.start life.first life.log))

abbrev pub MaySeeInCall : Life → Entry → Log → ℕ → Shown → Type 0
MaySeeInCall life e past aside =
    MaySeeOnPart life.start.plan.shape.blocks aside
    (MaySeeDuring life.start.plan (cells life.start past) (contents life.start past) (labels life.start life.first past) (ran_by e.reply))

-- at least this, in each of these cases
abbrev pub MaySeeAtLoss : Life → ℕ → Shown → Type 0
MaySeeAtLoss life aside =
    MaySeeOnPart life.start.plan.shape.blocks aside
    (MaySeePlaced (cells life.start life.log) (labels life.start life.first life.log).blocks)

-- Mounts may be cut, one after the other: what is seen after each of them, the newest first

abbrev pub seen_last : Shown → List Shown → Shown
seen_last seen [] = seen
seen_last seen (last ∷ earlier) = last

abbrev pub AreSeenSince : DiePlan → (from : ℕ → ℕ) → Shown → List Shown → Type 0
AreSeenSince plan from seen [] = Unit {0}
AreSeenSince plan from seen (last ∷ earlier) =
    AreSeenSince plan from seen earlier × MaySeeAgainOnPart plan from (seen_last seen earlier) last

-- what mounts after a life know of trims: maybe nothing, but as much as those before it
pub record MayKnow (before : Life) (known : ℕ → ℕ) : Type 0 where
  pub may : MayCountFrom (cells before.start before.log) (labels before.start before.first before.log) known
  pub grows : (page : ℕ) → before.from page ≤ known page

-- the power goes, mounts are cut, and one isn't, by which the next life begins
pub record FollowsLoss (before life : Life) : Type 0 where
  pub aside : ℕ
  pub within : aside ≤ before.start.plan.shape.blocks
  pub less : before.start.plan.shape.blocks < 1024
  pub seen : Shown
  pub sees : MaySeeAtLoss before aside seen
  pub knows : MayKnow before life.from
  pub since : List Shown
  pub again : AreSeenSince before.start.plan life.from seen since
  pub mounts : MountsTo before.start.plan life.from (seen_last seen since) life.start life.first

-- Lives

abbrev pub FollowsBy : Bool → Life → Life → Type 0
FollowsBy true before life = FollowsLoss before life
FollowsBy false before life = FollowsRenewal before life

-- the first of all begins without old labels that count, as a fresh die does
abbrev pub FollowsNewest : List Life → Life → Type 0
FollowsNewest [] life = CountFrom life.start.cells life.first.blocks life.from × MayCountFrom life.start.cells life.first life.from
FollowsNewest (before ∷ earlier) life = FollowsBy life.lost before life

-- the newest first: after a life lie those before it
abbrev pub AreLives : List Life → Type 0
AreLives [] = Unit {0}
AreLives (life ∷ earlier) = AreLives earlier × IsLife life × FollowsNewest earlier life

-- the life as it was before its last calls
abbrev pub up_to : Log → Life → Life
up_to past life = record life { log = past }

-- the life that a renewal begins
abbrev pub renewed_life : Life → Life
renewed_life life = record {
  start = renewed_start life.start life.log;
  first = labels life.start life.first life.log;
  from = life.from;
  log = [];
  lost = false;
}

-- the lives of a die that never loses power, from a first start on
abbrev pub labels_after_all : Start → Labels → Lives → Labels
labels_after_all start first [] = first
labels_after_all start first (log ∷ earlier) =
    labels (start_after start earlier) (labels_after_all start first earlier) log

abbrev pub renewed_lives : Start → Labels → Lives → List Life
renewed_lives start first [] = []
renewed_lives start first (log ∷ earlier) =
    record {
      start = start_after start earlier;
      first = labels_after_all start first earlier;
      from = all_count;
      log = log;
      lost = false;
    }
    ∷ renewed_lives start first earlier

-- Contents, as writes and trims leave them, losses or none

-- what the slots of a log leave of these pages
abbrev pub contents_by : List PageData → Log → List PageData
contents_by pages [] = pages
contents_by pages (e ∷ past) = contents_after (ran_by e.reply) (contents_by pages past)

-- and those of several logs, the newest first
abbrev pub contents_left : List PageData → List Log → List PageData
contents_left pages [] = pages
contents_left pages (log ∷ earlier) = contents_by (contents_left pages earlier) log

-- the logs of lives
abbrev pub logs : List Life → List Log
logs lives = map (λ life. life.log) lives

-- what the pages held where the first of them began
abbrev pub first_contents : Life → List Life → List PageData
first_contents life [] = life.start.contents
first_contents life (before ∷ earlier) = first_contents before earlier

-- Trims that a loss may undo

-- the slot neither wrote nor trimmed the page
abbrev pub LeavesPage : ℕ → Carried → Type 0
LeavesPage page (Some (n, does.Write p bytes)) = p ≢ page
LeavesPage page (Some (n, does.Trim p)) = p ≢ page
LeavesPage page _ = Unit {0}

abbrev pub LeavesAlone : ℕ → Log → Type 0
LeavesAlone page [] = Unit {0}
LeavesAlone page (e ∷ past) = LeavesAlone page past × LeavesPage page (ran_by e.reply)

abbrev pub TrimsPage : ℕ → Carried → Type 0
TrimsPage page (Some (n, does.Trim p)) = p ≡ page
TrimsPage page _ = ⊥

-- the log trims the page, and doesn't write it again
abbrev pub LeavesTrimmed : ℕ → Log → Type 0
LeavesTrimmed page [] = ⊥
LeavesTrimmed page (e ∷ past) =
    TrimsPage page (ran_by e.reply) ⊎ (LeavesTrimmed page past × LeavesPage page (ran_by e.reply))

-- of all writes and trims of the page in these lives the last one is a trim, and the power wasn't lost since
abbrev pub IsTrimmedSinceLoss : ℕ → List Life → Type 0
IsTrimmedSinceLoss page [] = ⊥
IsTrimmedSinceLoss page (life ∷ earlier) =
    LeavesTrimmed page life.log ⊎ (LeavesAlone page life.log × (life.lost ≡ false) × IsTrimmedSinceLoss page earlier)

-- the mount after these lives wasn't told that the page was trimmed: a label of it counted, if it could be seen
abbrev pub WasUntold : ℕ → (from : ℕ → ℕ) → List Life → Type 0
WasUntold page from [] = ⊥
WasUntold page from (life ∷ earlier) =
    (place : Place) × (x : Label) × (label_at (labels life.start life.first life.log).blocks place ≡ Some x) × (x.page ≡ page)
    × (from page ≤ x.serial)

-- the last one is a trim, and at the first loss since, the mount wasn't told of it
abbrev pub IsTrimmedAndLost : ℕ → List Life → Type 0
IsTrimmedAndLost page [] = ⊥
IsTrimmedAndLost page (life ∷ earlier) =
    LeavesAlone page life.log
    × (((life.lost ≡ true) × IsTrimmedSinceLoss page earlier × WasUntold page life.from earlier) ⊎ IsTrimmedAndLost page earlier)

-- the slot wrote these bytes on the page
abbrev pub WritesPage : ℕ → PageData → Carried → Type 0
WritesPage page bytes (Some (n, does.Write p written)) = (p ≡ page) × (written ≡ bytes)
WritesPage page bytes _ = ⊥

abbrev pub WritesIn : ℕ → PageData → Log → Type 0
WritesIn page bytes [] = ⊥
WritesIn page bytes (e ∷ past) = WritesIn page bytes past ⊎ WritesPage page bytes (ran_by e.reply)

-- a label of the page had these bytes where the first of the lives began
abbrev pub StoodAtFirst : ℕ → PageData → Life → List Life → Type 0
StoodAtFirst page bytes life [] =
    (place : Place) × (x : Label) × (label_at life.first.blocks place ≡ Some x) × (x.page ≡ page) × (x.bytes ≡ bytes)
StoodAtFirst page bytes life (before ∷ earlier) = ⊥

-- these bytes were written on the page, in one of these lives or before them
abbrev pub WasWritten : ℕ → PageData → List Life → Type 0
WasWritten page bytes [] = ⊥
WasWritten page bytes (life ∷ earlier) =
    WritesIn page bytes life.log ⊎ (StoodAtFirst page bytes life earlier ⊎ WasWritten page bytes earlier)

-- nothing was trimmed in any of them
abbrev pub AreTrimless : List Life → Type 0
AreTrimless [] = Unit {0}
AreTrimless (life ∷ earlier) = AreTrimless earlier × NothingTrimmed life.log

-- The next life

-- it begins by a mount that went by what was seen and knew this of trims, in not more acts than those, with full
-- accounts, and nothing has happened in it yet
pub record BeginsNext (before : Life) (earlier : List Life) (known : ℕ → ℕ) (seen : Shown) (life : Life) : Type 0 where
  pub lives : AreLives (life ∷ before ∷ earlier)
  pub lost : life.lost ≡ true
  pub begun : life.log ≡ []
  pub from : life.from ≡ known
  pub full : life.start.accounts.balances ≡ before.start.plan.caps
  pub mounts : MountsTo before.start.plan known seen life.start life.first
  pub few : length mounts.acts ≤ most_acts_beside before.start.plan
  pub rounds : FitRounds before.start.plan (most_rounds_beside before.start.plan) mounts.acts

-- it holds of all lives, whichever block stands aside, on a part of at most 1,024 blocks
abbrev pub ForAllLives : (Life → List Life → ℕ → Type 0) → Type 0
ForAllLives Holds =
    (life : Life) (earlier : List Life) → AreLives (life ∷ earlier)
    → (aside : ℕ) → aside ≤ life.start.plan.shape.blocks → life.start.plan.shape.blocks < 1024 → Holds life earlier aside
