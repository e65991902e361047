-- How a mount begins with what a part shows.
use Rattle.std.proofs.Common.{◌≡◌, ℕ, ◌+◌, ◌*◌, ◌-◌, ◌<◌, List, length, ap, sym, ◌∙◌, subst, arith}
use Rattle.slot_types.specs.declared.pages.PageData.{PageData}
use Rattle.slot_types.specs.declared.plans.DiePlan.{DiePlan}
use Rattle.slot_types.specs.declared.plans.Shape.{Shape}
use Rattle.flash_die.specs.Flash as device
use Rattle.die_mount.specs.Beginning.{HasIdle}
use Rattle.die_mount.specs.Mounting.{BeginsWith, Mounting, calls_left, calls_left_at, most_calls, round_calls}
use Rattle.die_mount.specs.Nexts.{BeginsFirst}
use Rattle.die_mount.specs.Scanned.{IsScanOf, Scanned}
use Rattle.die_mount.specs.declared.stage.Stage.{Stage}
use Rattle.die_mount.specs.declared.stage.Stage.TheVariants as stage
use Rattle.die_mount.proofs.PagesFound.{none_counted}
use Rattle.labelled_die.specs.Scanning.{shown_by}
use Rattle.labelled_nand.specs.PoweredUp.{IsPoweredUp}
use Rattle.part_mount.specs.Going.{GoesBySeen}
use Rattle.part_mount.specs.OnPart.{OnPart}
use Rattle.part_mount.proofs.Powered.{labels_shown}
use Rattle.power_loss.specs.Aside.{StandsOnPart, most_rounds_beside, part_of}
use Rattle.power_loss.specs.Labels.{FitPlan, Labels, Shown}
use Rattle.power_loss.specs.Mounted.{all_count}
use Rattle.power_loss.specs.Recovery.{FindsNoneIn, MayErase}
use Rattle.die_mount.specs.Faults.{IsMountPlan}
use Rattle.die_mount.specs.Told.{HaveFitLabels, told_cells}
use Rattle.labelled_die.specs.Scanning.{cells_shown}
use Rattle.device_mount.specs.Parts.{BeginsSafely, IsPartOf, KeepsPages}
use Rattle.device_mount.proofs.Keeping.{keeps_first_idle, keeps_newest, may_within}

-- the scan of what the cells show is that of the part's labels
pub scan_is : (plan : DiePlan) (s : Scanned) (shape : Shape) (blocks : List device.Block) (labels : Labels) (failures : ℕ)
    → IsPoweredUp shape blocks labels failures → IsScanOf (part_of plan) s (shown_by shape labels.blocks) → IsScanOf (part_of plan) s labels.blocks
scan_is plan s shape blocks labels failures up h = subst (IsScanOf (part_of plan) s) (sym (labels_shown shape blocks labels failures up)) h

-- a block is idle in the scan that is so in what was seen
pub has_idle : (plan : DiePlan) (s : Scanned) (seen : Shown) (block : ℕ) → IsScanOf (part_of plan) s seen → length seen ≡ plan.shape.blocks + 1
    → FindsNoneIn (part_of plan) all_count seen block → MayErase (part_of plan) all_count seen block → HasIdle s
has_idle plan s seen block h long none may = (
  block,
  record {
    stands = omega (arith, may_within plan seen block long may, long, ap (λ (x : Shape). x.blocks) h.shape);
    none = none_counted (part_of plan) s seen h block none;
  },
)

-- the block of the first erase
abbrev first_of : Stage → ℕ
first_of (stage.First block slots) = block
first_of (stage.Read page from) = 0
first_of (stage.Program page from to) = 0
first_of (stage.Erase block slots) = 0
first_of stage.Done = 0

pub safe_by : (plan : DiePlan) (seen : Shown) (m : Mounting) → BeginsFirst plan m
    → (FitPlan (part_of plan) seen → (b : BeginsWith plan seen m) × KeepsPages plan seen b.erased) → BeginsSafely plan seen m
safe_by plan seen m f h = record {
  block = f.block;
  stage_is = f.stage_is;
  keeps = λ fit. let k = h fit in subst (KeepsPages plan seen) (ap first_of (sym k.0.stage_is ∙ f.stage_is)) k.1;
}

pub first_calls : (plan : DiePlan) (m : Mounting) → BeginsFirst plan m → calls_left m ≡ most_calls plan
first_calls plan m f =
    ap (calls_left_at m.plan m.cells m.rounds) f.stage_is
    ∙ (ap (λ (p : DiePlan). p.shape.erase_slots - 0 + m.rounds * round_calls p) f.plan_is
    ∙ (ap (λ (n : ℕ). plan.shape.erase_slots - 0 + n * round_calls plan) f.rounds_is ∙ less plan.shape.erase_slots (most_rounds_beside plan * round_calls plan)))
  where
    less : (a b : ℕ) → a - 0 + b ≡ a + b
    less a b = omega arith

-- a mount on the part goes by what was seen
pub goes_so : {N : Type 0} (labels : N → Labels) (old new : N) (plan : DiePlan) (m : Mounting) (v : OnPart N) → labels new ≡ labels old → m.plan ≡ plan
    → ((pages : List PageData) → StandsOnPart m.plan pages all_count (labels new).blocks → BeginsWith m.plan (labels new).blocks m
    → GoesBySeen labels pages (labels new).blocks v)
    → (FitPlan (part_of plan) (labels old).blocks → BeginsWith plan (labels old).blocks m) → (pages : List PageData)
    → StandsOnPart plan pages all_count (labels old).blocks → GoesBySeen labels pages (labels old).blocks v
goes_so labels old new plan m v same plan_is goes begins pages stands =
    subst (λ (l : Labels). GoesBySeen labels pages l.blocks v) same
    (goes pages
    (subst (λ (p : DiePlan). StandsOnPart p pages all_count (labels new).blocks) (sym plan_is)
    (subst (λ (l : Labels). StandsOnPart plan pages all_count l.blocks) (sym same) stands))
    (subst (λ (p : DiePlan). BeginsWith p (labels new).blocks m) (sym plan_is)
    (subst (λ (l : Labels). BeginsWith plan l.blocks m) (sym same) (begins stands.fit))))

-- Where it begins safely

pub safe_first_idle : (plan : DiePlan) (seen : Shown) (m : Mounting) (idle : ℕ) → BeginsFirst plan m → (FitPlan (part_of plan) seen → BeginsWith plan seen m)
    → FindsNoneIn (part_of plan) all_count seen idle → (FitPlan (part_of plan) seen → MayErase (part_of plan) all_count seen idle) → BeginsSafely plan seen m
safe_first_idle plan seen m idle f begins none may =
    safe_by plan seen m f (λ fit. let b = begins fit in (b, keeps_first_idle plan seen idle b.erased fit none (may fit) b.may))

pub safe_undone : (plan : DiePlan) (seen : Shown) (m : Mounting) (block : ℕ) → BeginsFirst plan m → (FitPlan (part_of plan) seen → BeginsWith plan seen m)
    → ((other : ℕ) → other < (part_of plan).shape.blocks → FindsNoneIn (part_of plan) all_count seen other → ⊥)
    → (FitPlan (part_of plan) seen → MayErase (part_of plan) all_count seen block) → (FitPlan (part_of plan) seen → KeepsPages plan seen block)
    → BeginsSafely plan seen m
safe_undone plan seen m block f begins none may keeps =
    safe_by plan seen m f (λ fit. let b = begins fit in (b, keeps_newest plan seen block b.erased none (may fit) b.may (keeps fit)))

-- A part that was scanned

pub scanned_part : {N : Type 0} (shape_of : N → Shape) (blocks : N → List device.Block) (labels : N → Labels) (failures : N → ℕ) (plan : DiePlan) (part : N)
    → IsPoweredUp (shape_of part) (blocks part) (labels part) (failures part) → IsMountPlan plan → shape_of part ≡ (part_of plan).shape
    → ((block : ℕ) → block < (shape_of part).blocks → HaveFitLabels plan.logical (told_cells (cells_shown (labels part).blocks block plan.shape.pages)))
    → IsPartOf shape_of blocks labels failures plan part
scanned_part shape_of blocks labels failures plan part up may is fit = record {
  powered = up;
  of_plan = (may, is);
  fit = λ block lt. fit block (omega (arith, lt, ap (λ (s : Shape). s.blocks) is));
}
