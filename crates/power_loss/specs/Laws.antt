-- What laws of labelled logs say.
use Rattle.std.specs.Prelude.{◌≡◌, ◌⊎◌, ℕ, ◌<◌, ◌≤◌, List, ◌∷◌, Some, None, length, sum_by, slice_index_or}
use Rattle.slot_types.specs.Places.{place_of}
use Rattle.slot_types.specs.declared.plans.DiePlan.{DiePlan}
use Rattle.slot_types.specs.declared.acts.Act.{Act}
use Rattle.slot_types.specs.declared.pages.PageData.{PageData}
use Rattle.slot_types.specs.declared.pages.Place.{Place}
use Rattle.slot_types.specs.declared.replies.Entry.{Entry}
use Rattle.die_log.specs.Model.Log.{Log}
use Rattle.die_log.specs.Model.Flash.{Cells, free_in, cells, cells_after, contents, ran_by}
use Rattle.die_log.specs.Model.Start.{Start, blank_page}
use Rattle.die_log.specs.Model.Answers.{IsExact}
use Rattle.plan_rules.specs.Bound.{MeetsBound}
use Rattle.plan_rules.specs.Accounts.{Accounts}
use Rattle.die_log.specs.Invariants.TrueAccounts.{AccountsAgree}
use Rattle.die_log.specs.Model.Opening.{IsOpening}
use Rattle.power_loss.specs.Aside.{StandsOnPart, found_pages, part_cells, part_labels}
use Rattle.power_loss.specs.Labels.{Label, Labels, Shown, label_at, labels, labels_after, counts_from}
use Rattle.power_loss.specs.Labels.{CountFrom, HaveBytes, WasProgrammed, IsLabelled, IsNewest}
use Rattle.power_loss.specs.Mounted.{mounted_place, mounted_content, mounted_places, mounted_contents}
use Rattle.power_loss.specs.Recovery.{IsRecoverable, IsMountable, MayErase, remounted_cells, remounted_labels, IsAbove}
use Rattle.power_loss.specs.Recovery.{IsFreeBlock, MayMount}
use Rattle.power_loss.specs.Recovery.{AreIdle, mounted_start, MaySeeInActs}
use Rattle.power_loss.specs.Seen.{MaySeeAfter, MaySeeDuring, MaySeePlaced}

-- it holds of each log that starts at an opening whose cells are labelled, and is exact from there
abbrev pub ForEveryLabelledLog : (Start → Labels → Log → Type 0) → Type 0
ForEveryLabelledLog Holds =
    (start : Start) (first : Labels) → IsOpening start → IsLabelled start first → (log : Log) → IsExact start log
    → Holds start first log

-- each label was there when the log began, or a program of the log left it
abbrev pub OfPrograms : Start → Labels → Log → Type 0
OfPrograms start first log = (place : Place) (x : Label) → label_at (labels start first log).blocks place ≡ Some x
    → (label_at first.blocks place ≡ Some x) ⊎ WasProgrammed start first log x

-- these labels show where the pages are and what they hold: a page's newest label is where it is placed, with its
-- bytes, and counts; and where a page is placed nowhere, none of its labels counts
pub record ShowsPages (c : Cells) (pages : List PageData) (from : ℕ → ℕ) (seen : Shown) : Type 0 where
  pub placed : (page : ℕ) (place : Place) → place_of c.places page ≡ Some place → IsNewest seen page place
  pub bytes : HaveBytes c seen pages
  pub counts : CountFrom c seen from

-- a mount that knows from which number each page's labels count finds all of it
pub record MountsAll (c : Cells) (pages : List PageData) (from : ℕ → ℕ) (seen : Shown) : Type 0 where
  pub places : mounted_places from (length c.places) seen ≡ c.places
  pub contents : mounted_contents from (length pages) seen ≡ pages

-- one that knows of some trims, or of none, finds each placed page; and of a page that is placed nowhere nothing, or
-- what an earlier program of it left, from before it was trimmed. Where it knows of that trim, it finds nothing
pub record MountsPlaced (c : Cells) (pages : List PageData) (known from : ℕ → ℕ) (seen : Shown) : Type 0 where
  pub places : (page : ℕ) (place : Place) → place_of c.places page ≡ Some place → mounted_place (known page) page seen ≡ Some place
  pub contents : (page : ℕ) (place : Place) → place_of c.places page ≡ Some place
      → mounted_content (known page) page seen ≡ slice_index_or pages page blank_page
  pub unplaced : (page : ℕ) (place : Place) → place_of c.places page ≡ None → mounted_place (known page) page seen ≡ Some place
      → (x : Label) × (label_at seen place ≡ Some x) × (x.page ≡ page) × (known page ≤ x.serial) × (x.serial < from page)
      × (mounted_content (known page) page seen ≡ x.bytes)
  pub told : (page : ℕ) → place_of c.places page ≡ None → from page ≤ known page → mounted_place (known page) page seen ≡ None

-- it holds of what stands after the log, and of whatever a mount may see then
abbrev pub ForAllSeen : (Cells → List PageData → (ℕ → ℕ) → Shown → Type 0) → Type 0
ForAllSeen Holds = ForEveryLabelledLog (λ start first log.
    (seen : Shown) → MaySeeAfter (cells start log) (labels start first log) seen
    → Holds (cells start log) (contents start log) (counts_from start first log) seen)

-- it holds of whatever a mount may see where the power went during the log's last call, and of what stood before the
-- call, or stands after it
abbrev pub ForAllSeenDuring : (Cells → List PageData → (ℕ → ℕ) → Shown → Type 0) → Type 0
ForAllSeenDuring Holds =
    (start : Start) (first : Labels) → IsOpening start → IsLabelled start first → (e : Entry) (past : Log) → IsExact start (e ∷ past)
    → (seen : Shown)
    → MaySeeDuring start.plan (cells start past) (contents start past) (labels start first past) (ran_by e.reply) seen
    → Holds (cells start past) (contents start past) (counts_from start first past) seen
    ⊎ Holds (cells start (e ∷ past)) (contents start (e ∷ past)) (counts_from start first (e ∷ past)) seen

-- from which labels count
abbrev pub From : Type 0
From = ℕ → ℕ

-- it holds wherever a die can be recovered whose plan meets its bound
abbrev pub ForAllRecoverable : (DiePlan → Cells → List PageData → Labels → From → Type 0) → Type 0
ForAllRecoverable Holds =
    (plan : DiePlan) → MeetsBound plan → (c : Cells) (pages : List PageData) (l : Labels) (from : From) → IsRecoverable plan c pages l from
    → Holds plan c pages l from

-- it holds of whatever is seen from which a mount can go on, and of each block that it may erase first
abbrev pub ForAllMountable : (DiePlan → List PageData → From → Shown → ℕ → Type 0) → Type 0
ForAllMountable Holds =
    (plan : DiePlan) → MeetsBound plan → (pages : List PageData) (from : From) (seen : Shown) → IsMountable plan pages from seen
    → (erased : ℕ) → MayErase plan from seen erased → Holds plan pages from seen erased

-- a mount erases that block, and closes the others
abbrev pub Remounts : DiePlan → List PageData → From → Shown → ℕ → Type 0
Remounts plan pages from seen erased = (erases : ℕ → ℕ) (next : ℕ) → IsAbove seen from next
    → IsRecoverable plan (remounted_cells plan from erased erases seen) pages (remounted_labels erased seen next) from
    × AreIdle (remounted_cells plan from erased erases seen) × IsFreeBlock (remounted_cells plan from erased erases seen) erased

-- an act of a mount
abbrev pub GoesOn : DiePlan → Cells → List PageData → Labels → From → Type 0
GoesOn plan c pages l from = (act : Act) → MayMount plan c act → let ran = Some (0, act) in
    IsRecoverable plan (cells_after plan ran c) pages (labels_after plan c pages ran l) from

-- where the power goes during it
abbrev pub GoesOnDuring : DiePlan → Cells → List PageData → Labels → From → Type 0
GoesOnDuring plan c pages l from = (act : Act) → MayMount plan c act → let ran = Some (0, act) in
    (seen : Shown) → MaySeeDuring plan c pages l ran seen
    → MaySeePlaced c l.blocks seen ⊎ MaySeePlaced (cells_after plan ran c) (labels_after plan c pages ran l).blocks seen

-- a log may start
abbrev pub Opens : DiePlan → Cells → List PageData → Labels → From → Type 0
Opens plan c pages l from = AreIdle c → (a : Accounts)
    → AccountsAgree plan a (λ task. 0) (λ task. 0) 0 (sum_by (free_in plan) c.blocks)
    → IsOpening (mounted_start plan c pages a) × IsLabelled (mounted_start plan c pages a) l

-- where the power goes at a moment of a mount's acts, or during the next one
abbrev pub CutsInActs : DiePlan → Cells → List PageData → Labels → From → Type 0
CutsInActs plan c pages l from = (seen : Shown) → MaySeeInActs plan c pages l seen → IsMountable plan pages from seen

-- what is seen of the part shows a log's pages: a mount can go on from it; each page that is placed is found at its
-- place, with its bytes; one that is placed nowhere is found nowhere, or with what a label of it bears, in the cell
-- that had it; and where no such page has a label that counts, just the log's pages are found
pub record ShowsOnPart (plan : DiePlan) (aside : ℕ) (c : Cells) (pages : List PageData) (l : Labels) (known from : From) (seen : Shown) : Type 0 where
  pub stands : StandsOnPart plan (found_pages plan known seen) known seen
  pub finds : MountsPlaced (part_cells plan.shape.blocks aside c) pages known from seen
  pub had : (place : Place) (x : Label) → label_at seen place ≡ Some x → label_at (part_labels aside l).blocks place ≡ Some x
  pub all : CountFrom c l.blocks known → found_pages plan known seen ≡ pages
