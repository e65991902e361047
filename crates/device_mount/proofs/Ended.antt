-- Where a mount has ended, what stands on the device beside the block aside is the checkpoint, and the start of a life.
use Rattle.std.proofs.Common.{◌≡◌, ◌≢◌, ◌⊎◌, ℕ, ◌+◌, ◌-◌, ◌<◌, ◌≤◌, Bool, false, cond, List, [], ◌∷◌, length, get_or, set, map, take}
use Rattle.std.proofs.Common.{Option, Some, None, refl, ap, sym, ◌∙◌, subst, inl, inr, arith}
use Rattle.std.specs.Prelude.{option_map, sum_by}
use Rattle.std.proofs.lemmas.Bool.{cases_eq, cases_lt, eq-eqb, ne_eqb, true≢false}
use Rattle.std.proofs.lemmas.List.{ext_get_or, get_or-map, get_or-set_same, get_or-set_other, get_or_past, length-map, length-set, map-set, take-map}
use Rattle.slot_types.specs.Places.{place_of}
use Rattle.slot_types.specs.declared.acts.Act.{Act}
use Rattle.slot_types.specs.declared.pages.PageData.{PageData}
use Rattle.slot_types.specs.declared.pages.Place.{Place}
use Rattle.slot_types.specs.declared.plans.DiePlan.{DiePlan}
use Rattle.slot_types.specs.declared.plans.Shape.{Shape}
use Rattle.die_checkpoint.specs.declared.checkpoint.BlockCounts.{BlockCounts}
use Rattle.die_checkpoint.specs.declared.checkpoint.Checkpoint.{Checkpoint}
use Rattle.flash_die.specs.Flash as device
use Rattle.flash_die.specs.Flash.{blank}
use Rattle.flash_volume.specs.Cells.{content_at, contents}
use Rattle.flash_volume.specs.Checkpoints as volume
use Rattle.die_log.specs.Model.Flash.{Block, Cells, block_at, free_block, free_in}
use Rattle.die_log.specs.Invariants.SoundCells.{AreSoundCells}
use Rattle.die_log.specs.Model.Opening.{IsOpening}
use Rattle.die_log.specs.Model.Start.{Start}
use Rattle.power_loss.specs.Aside.{StartsBeside, die_cells, die_labels, on_die, on_part, part_of, renumbered, without_aside}
use Rattle.power_loss.specs.Labels.{Labels, Shown, label_at}
use Rattle.power_loss.specs.Mounted.{all_count}
use Rattle.power_loss.specs.Recovery.{AreIdle, AreMountActs, IsFreeBlock, IsRecoverable, cells_of, enough_of, full_accounts, labels_of, mounted_start, remounted_cells, remounted_labels}
use Rattle.power_loss.proofs.Aside.ComingBack.{ends_beside}
use Rattle.power_loss.proofs.Aside.Lists.{die_last, die_other, part_aside, part_other}
use Rattle.power_loss.proofs.Aside.Parts.{die_idle, places_at}
use Rattle.power_loss.proofs.Remounting.{erased_within}
use Rattle.labelled_nand.specs.PoweredUp.{AreBorne, counts_of}
use Rattle.slot_core.specs.Resumptions.{resumed_start, start_with}
use Rattle.part_mount.proofs.Bearing.{counted}
use Rattle.slot_core.proofs.Resuming.{opening_again}
use Rattle.labelled_die.proofs.Besides.{cell_is}
use Rattle.die_mount.specs.Cutting.{GoesBy, labels_at}
use Rattle.die_mount.specs.Ending as mount
use Rattle.die_mount.specs.Ending.{IsEndOf, checkpoint_beside, start_beside}
use Rattle.die_mount.specs.Erases as mount_erases
use Rattle.die_mount.proofs.Counted.{counted_at as counted_there, counted_length}
use Rattle.die_mount.specs.SoundMount.{StandsWell}
use Rattle.die_mount.specs.Mounting.{IsAtEnd, Mounting, first_cells}
use Rattle.slot_core.specs.Core.{Core, nothing_reserved}
use Rattle.labelled_die.specs.Beside.{Beside, IsPartBeside, beside_of, blocks_beside}
use Rattle.device_mount.specs.Mounted.{BeginsLife, HasEnded, IsMountedStart}
use Rattle.die_mount.specs.declared.mounted.Mounted.{Mounted}
use Rattle.die_mount.specs.declared.stage.Stage.{Stage}
use Rattle.die_mount.specs.declared.stage.Stage.TheVariants as stage
use Rattle.part_mount.specs.Going.{GoesBySeen, HasLabelsAt}
use Rattle.part_mount.specs.OnPart.{CountsOne, IsOnPart, IsSoundOnPart, OnPart, StandsAt, erased_more, once_erased}
use Rattle.part_mount.proofs.Erased.{alike, free_kept}
use Rattle.part_mount.proofs.GoingOn.{recoverable}
use Rattle.device_mount.proofs.Once.{acts_once, cells_once, labels_once, once, remounted_once}

-- The counts of a mount that knows of the erase of its first block alone

counted_once : (m : Mounting) → StandsWell m → (erased : ℕ) → erased < m.plan.shape.blocks + 1 → CountsOne erased m
    → mount_erases.counted m.counts m.cells ≡ once_erased erased m.cells
counted_once m w erased here one = λ i. record { blocks = blocks_are i; places = m.cells.places }
  where
    c : Cells
    c = m.cells

    more : Block
    more = erased_more (block_at c erased)

    with : Block → ℕ → Block
    with s n = record s { erases = n + s.erases }

    at : (b : ℕ) → b < length c.blocks → (b ≡ erased) ⊎ (b ≡ erased → ⊥) → block_at (mount_erases.counted m.counts c) b ≡ get_or (set c.blocks erased more) b free_block
    at b below (inl is) =
        let count : get_or m.counts b 0 ≡ 1 = one b ∙ ap (λ (t : Bool). cond t 1 0) (eq-eqb b erased is) in
        let up : 1 + (block_at c erased).erases ≡ (block_at c erased).erases + 1 = omega arith in
        counted_there m.counts c b below
        ∙ (ap (with (block_at c b)) count
        ∙ (ap (λ (k : ℕ). with (block_at c k) 1) is
        ∙ ((λ i. record (block_at c erased) { erases = up i })
        ∙ sym (ap (λ (k : ℕ). get_or (set c.blocks erased more) k free_block) is
        ∙ get_or-set_same c.blocks erased more free_block (omega (arith, below, is))))))
    at b below (inr other) =
        let count : get_or m.counts b 0 ≡ 0 = one b ∙ ap (λ (t : Bool). cond t 1 0) (ne_eqb b erased other) in
        let none : 0 + (block_at c b).erases ≡ (block_at c b).erases = omega arith in
        counted_there m.counts c b below
        ∙ (ap (with (block_at c b)) count
        ∙ ((λ i. record (block_at c b) { erases = none i })
        ∙ sym (get_or-set_other c.blocks erased b more free_block other)))

    blocks_are : (mount_erases.counted m.counts c).blocks ≡ set c.blocks erased more
    blocks_are = ext_get_or free_block (mount_erases.counted m.counts c).blocks (set c.blocks erased more)
        (counted_length m.counts c ∙ sym (length-set c.blocks erased more))
        (λ b below. at b (omega (arith, below, counted_length m.counts c)) (cases_eq b erased))

-- The die's number of a block of the part

module _ (last aside first : ℕ) (le : aside ≤ last) (here : first < last + 1) where
  -- where it isn't the one aside
  own_is : first ≢ aside → (on_die last aside first < last) × (on_part last aside (on_die last aside first) ≡ first)
  own_is apart = by_case (cases_eq first last)
    where
      by_case : (first ≡ last) ⊎ (first ≡ last → ⊥) → (on_die last aside first < last) × (on_part last aside (on_die last aside first) ≡ first)
      by_case (inl is) = (
        omega (arith, die_last last aside first is, is, le, apart),
        part_aside last aside (on_die last aside first) (die_last last aside first is) ∙ sym is,
      )
      by_case (inr other) = (
        omega (arith, die_other last aside first other, here, other),
        part_other last aside (on_die last aside first) (λ (e : on_die last aside first ≡ aside). apart (sym (die_other last aside first other) ∙ e))
            ∙ die_other last aside first other,
      )

-- The device is as the checkpoint says

map_without : {A B : Type 0} (f : A → B) (last aside : ℕ) (none : A) (all : List A) → last < length all
    → map f (without_aside last aside none all) ≡ without_aside last aside (f none) (map f all)
map_without f last aside none all lt =
    sym (take-map f last (set all aside (get_or all last none)))
    ∙ ap (take last) (map-set f all aside (get_or all last none)
    ∙ ap (λ y. set (map f all) aside y) (sym (get_or-map f all last none (f none) lt)))

counted_so : (bs : List device.Block) → map volume.counts_of bs ≡ map mount.counts_of (map counts_of bs)
counted_so [] = refl
counted_so (b ∷ bs) = ap (λ (l : List BlockCounts). volume.counts_of b ∷ l) (counted_so bs)

-- where the part's blocks, counted, are these cells
module _ (plan : DiePlan) (aside : ℕ) (d : Cells) (blocks : List device.Block) (e : length d.blocks ≡ plan.shape.blocks + 1) (le : aside ≤ plan.shape.blocks)
    (are : map counts_of blocks ≡ d.blocks) where
  abbrev last : ℕ
  last = plan.shape.blocks

  abbrev beside : List device.Block
  beside = without_aside last aside device.free_block blocks

  long : length blocks ≡ last + 1
  long = sym (length-map blocks counts_of) ∙ (ap (λ (bs : List Block). length bs) are ∙ e)

  beside_counts : map counts_of beside ≡ (die_cells last aside d).blocks
  beside_counts = map_without counts_of last aside device.free_block blocks (omega (arith, long)) ∙ ap (without_aside last aside free_block) are

  pub left_so : AreIdle d → (failures : ℕ) → failures ≡ 0 → volume.IsAsLeft (checkpoint_beside plan aside d) beside failures
  left_so idle failures well = record {
    counts = counted_so beside ∙ ap (map mount.counts_of) beside_counts;
    idle = λ b. ap (λ (s : Block). s.erasing) (counted beside b ∙ ap (λ (bs : List Block). get_or bs b free_block) beside_counts)
        ∙ die_idle plan aside d e idle b;
    well = well;
  }

  -- a page's cell on the die is its cell on the part
  content_so : (q : Place) → q.block < last + 1 → q.block ≢ aside
      → device.cell_at beside (renumbered (on_die last aside) q) ≡ device.cell_at blocks q
  content_so q lt apart =
      let k = own_is last aside q.block le lt apart in
      sym (cell_is last aside le blocks (renumbered (on_die last aside) q) long k.0)
      ∙ ap (λ (b : ℕ). device.cell_at blocks (record { block = b; page = q.page })) k.1

-- The start

-- a page lies in a block that is there, and isn't the one aside
lies_there : (plan : DiePlan) (c : Cells) (page : ℕ) (q : Place) (aside : ℕ) → AreSoundCells plan c → IsFreeBlock c aside
    → place_of c.places page ≡ Some q → (q.block < length c.blocks) × (q.block ≢ aside)
lies_there plan c page q aside s free lies =
    let filled = s.placed page q lies in (
      by_case filled (cases_lt q.block (length c.blocks)),
      λ (is : q.block ≡ aside). omega (arith, filled, ap (λ (b : ℕ). (block_at c b).filled) is, free.unfilled),
    )
  where
    by_case : q.page < (block_at c q.block).filled → (q.block < length c.blocks) ⊎ (length c.blocks ≤ q.block) → q.block < length c.blocks
    by_case filled (inl lt) = lt
    by_case filled (inr past) = absurd (omega (arith, filled, ap (λ (s : Block). s.filled) (get_or_past c.blocks q.block free_block past)))

-- a mount that goes by what was seen has ended, beside this block; the part has its blocks and its labels
module _ (pages : List PageData) (seen : Shown) (first next : ℕ) (acts : List Act) (m : Mounting) (g : GoesBy pages seen first next acts m) (h : IsAtEnd m)
    (aside : ℕ) (free : IsFreeBlock m.cells aside) (blocks : List device.Block) (labels : Labels) (are : map counts_of blocks ≡ (once_erased first m.cells).blocks)
    (borne : AreBorne blocks labels.blocks) (has : labels.blocks ≡ (labels_at pages seen first next acts m).blocks) (number : labels.next ≡ m.next) where
  abbrev plan : DiePlan
  plan = m.plan

  abbrev part : DiePlan
  part = part_of m.plan

  abbrev d : Cells
  d = once_erased first m.cells

  abbrev begun : Cells
  begun = remounted_cells part all_count first (once first) seen

  abbrev own : List device.Block
  own = without_aside m.plan.shape.blocks aside device.free_block blocks

  here : first < plan.shape.blocks + 1
  here = omega (arith, erased_within part pages all_count seen first g.stood g.may, g.stood.blocks)

  begun_is : begun ≡ once_erased first (first_cells plan first seen)
  begun_is = remounted_once part all_count first seen here

  cells_are : cells_of part acts begun ≡ d
  cells_are = ap (cells_of part acts) begun_is ∙ (cells_once part first acts (first_cells plan first seen) ∙ ap (once_erased first) g.is.cells)

  can : IsRecoverable part m.cells pages (labels_at pages seen first next acts m) all_count
  can = recoverable pages seen first next acts m g

  once_long : length d.blocks ≡ plan.shape.blocks + 1
  once_long = length-set m.cells.blocks first (erased_more (block_at m.cells first)) ∙ can.sound.blocks

  within : aside ≤ plan.shape.blocks
  within = omega (arith, free.stands, can.sound.blocks)

  idle : AreIdle d
  idle b = (alike first m.cells b).erasing ∙ h.idle b

  free_there : IsFreeBlock d aside
  free_there = record {
    stands = omega (arith, free.stands, can.sound.blocks, once_long);
    unfilled = (alike first m.cells aside).filled ∙ free.unfilled;
    idle = idle aside;
  }

  may : AreMountActs part begun acts
  may = subst (λ (c : Cells). AreMountActs part c acts) (sym begun_is) (acts_once part first acts (first_cells plan first seen) g.is.may)

  abbrev Starts : List PageData → Start → Labels → Type 0
  Starts ps start fresh = StartsBeside plan all_count begun ps (remounted_labels first seen next) acts aside start fresh

  starts : (start : Start) × (fresh : Labels) × Starts pages start fresh
  starts = ends_beside plan pages all_count seen g.bound g.beside g.stood first g.may (once first) next g.above acts may
      (subst AreIdle (sym cells_are) idle) aside (subst (λ (c : Cells). IsFreeBlock c aside) (sym cells_are) free_there)
      (subst (λ (c : Cells). enough_of plan + plan.shape.pages ≤ sum_by (free_in plan) c.blocks) (sym cells_are)
      (omega (arith, h.enough, free_kept plan first m.cells)))

  start_is : starts.0 ≡ start_beside plan aside d pages
  start_is = starts.2.is ∙ ap (λ (c : Cells). mounted_start plan c pages (full_accounts plan (sum_by (free_in plan) c.blocks)))
      (starts.2.cells ∙ ap (die_cells plan.shape.blocks aside) cells_are)

  opens : IsOpening (start_beside plan aside d pages)
  opens = subst IsOpening start_is starts.2.opens

  abbrev places : List (Option Place)
  places = (die_cells plan.shape.blocks aside d).places

  placed : (page : ℕ) (o : Option Place) → place_of m.cells.places page ≡ o → content_at own (place_of places page) ≡ get_or pages page blank
  placed page None e =
      let none : place_of places page ≡ None = places_at (on_die plan.shape.blocks aside) m.cells.places page
      ∙ ap (option_map (renumbered (on_die plan.shape.blocks aside))) e in
      ap (content_at own) none ∙ sym (opens.blank page none)
  placed page (Some q) e =
      let newest = can.labelled.newest page q e in
      let k = lies_there part m.cells page q aside can.sound free e in
      ap (content_at own) (places_at (on_die plan.shape.blocks aside) m.cells.places page
      ∙ ap (option_map (renumbered (on_die plan.shape.blocks aside))) e)
      ∙ (content_so plan aside d blocks once_long within are q (omega (arith, k.0, can.sound.blocks)) k.1
      ∙ (borne.bytes q newest.label (ap (λ (bs : Shown). label_at bs q) has ∙ newest.stands) ∙ can.bytes page q newest.label e newest.stands))

  contents_are : contents own places ≡ pages
  contents_are = ext_get_or blank (contents own places) pages (length-map places (content_at own) ∙ (opens.sound.places ∙ sym opens.pages))
      (λ page lt. get_or-map (content_at own) places page None blank (omega (arith, lt, length-map places (content_at own)))
      ∙ placed page (place_of m.cells.places page) refl)

  resumed_is : resumed_start plan (checkpoint_beside plan aside d) own ≡ start_beside plan aside d pages
  resumed_is = ap (start_with plan (checkpoint_beside plan aside d)) contents_are ∙ opening_again (start_beside plan aside d pages) opens

  labels_are : labels ≡ labels_of part pages acts begun (remounted_labels first seen next)
  labels_are =
      let same : labels ≡ labels_at pages seen first next acts m =
      λ i. record { blocks = has i; next = (number ∙ sym (g.is.serial pages)) i } in
      same ∙ (sym (labels_once part first pages acts (first_cells plan first seen) (remounted_labels first seen next))
      ∙ ap (λ (c : Cells). labels_of part pages acts c (remounted_labels first seen next)) (sym begun_is))

  -- the life that begins there
  pub begins_life : (start : Start) → start ≡ resumed_start plan (checkpoint_beside plan aside d) own
      → (fresh : Labels) × IsMountedStart plan seen start fresh × (die_labels plan.shape.blocks aside labels ≡ fresh) × (start.contents ≡ pages)
  begins_life start is =
      let same : starts.0 ≡ start = start_is ∙ sym (is ∙ resumed_is) in (
        starts.1,
        record {
          mounts = record {
            erased = first;
            rule = g.may;
            next = next;
            above = g.above;
            erases = once first;
            acts = acts;
            may = may;
            aside = aside;
            starts = subst (λ (ps : List PageData). Starts ps start starts.1) (sym g.stood.found)
                (subst (λ (x : Start). Starts pages x starts.1) same starts.2);
          };
          rounds = record { copies = omega (arith, g.is.rounds.copies); slots = omega (arith, g.is.rounds.slots) };
        },
        ap (die_labels plan.shape.blocks aside) labels_are ∙ sym starts.2.labels,
        ap (λ (x : Start). x.contents) (is ∙ resumed_is),
      )

-- A mount that has ended on its part

-- what `Mount::finish` tells
pub ended_so : (m : Mounting) → StandsWell m → IsAtEnd m → (erased : ℕ) → erased < m.plan.shape.blocks + 1 → CountsOne erased m → (end : Mounted)
    → IsEndOf m end → HasEnded m erased end
ended_so m w h erased here one end e = record {
  stands = w;
  at_end = h;
  free = e.free;
  checkpoint = e.checkpoint ∙ ap (checkpoint_beside m.plan end.aside) (counted_once m w erased here one);
  next = e.next;
}

-- a die that was resumed on a device, from a checkpoint
abbrev pub born : {N : Type 0} → (N → List device.Block) → DiePlan → Checkpoint → Beside N → Core (Beside N)
born blocks plan c d = record {
  start = resumed_start plan c (blocks_beside blocks d);
  device = d;
  stopped = false;
  reserved = nothing_reserved;
  lasting = nothing_reserved;
  log = [];
}

-- a device beside the block aside, with the part's blocks and labels; the serials go on
pub record IsBesideEnd {N : Type 0} (blocks : N → List device.Block) (labels : N → Labels) (failures : N → ℕ) (v : OnPart N) (end : Mounted)
    (d : Beside N) : Type 0 where
  pub last : d.shape.blocks ≡ v.mount.plan.shape.blocks
  pub aside : d.aside ≡ end.aside
  pub refused : d.refused ≡ 0
  pub blocks_are : blocks d.part ≡ blocks v.part
  pub labels_are : labels d.part ≡ record (labels v.part) { next = end.next }
  pub failures_are : failures d.part ≡ failures v.part

done_at : (m : Mounting) (first : ℕ) (blocks : List device.Block) (st : Stage) → st ≡ stage.Done → StandsAt m.plan first m.cells blocks st
    → map counts_of blocks ≡ (once_erased first m.cells).blocks
done_at m first blocks st is h = subst (StandsAt m.plan first m.cells blocks) is h

done_has : (pages : List PageData) (seen : Shown) (first next : ℕ) (acts : List Act) (m : Mounting) (now : Shown) (st : Stage) → st ≡ stage.Done
    → HasLabelsAt pages seen first next acts m now st → now ≡ (labels_at pages seen first next acts m).blocks
done_has pages seen first next acts m now st is h = subst (HasLabelsAt pages seen first next acts m now) is h

module _ {N : Type 0} (shape_of : N → Shape) (blocks : N → List device.Block) (labels : N → Labels) (failures : N → ℕ) (v : OnPart N)
    (on : IsOnPart shape_of blocks labels failures v) (done : v.mount.stage ≡ stage.Done) (end : Mounted) (h : HasEnded v.mount v.erased end)
    (d : Beside N) (at : IsBesideEnd blocks labels failures v end d) where
  long_once : length (once_erased v.erased v.mount.cells).blocks ≡ v.mount.plan.shape.blocks + 1
  long_once = length-set v.mount.cells.blocks v.erased (erased_more (block_at v.mount.cells v.erased)) ∙ h.stands.sound.blocks

  idle_once : AreIdle (once_erased v.erased v.mount.cells)
  idle_once b = (alike v.erased v.mount.cells b).erasing ∙ h.at_end.idle b

  are : map counts_of (blocks d.part) ≡ (once_erased v.erased v.mount.cells).blocks
  are = ap (map counts_of) at.blocks_are ∙ done_at v.mount v.erased (blocks v.part) v.mount.stage done on.at

  pub left_beside : volume.IsAsLeft end.checkpoint (blocks_beside blocks d) (failures d.part + d.refused)
  left_beside =
      subst (λ (c : Checkpoint). volume.IsAsLeft c (blocks_beside blocks d) (failures d.part + d.refused)) (sym h.checkpoint)
      (subst (λ (a : ℕ). volume.IsAsLeft (checkpoint_beside v.mount.plan end.aside (once_erased v.erased v.mount.cells))
      (without_aside d.shape.blocks a device.free_block (blocks d.part)) (failures d.part + d.refused)) (sym at.aside)
      (subst (λ (last : ℕ). volume.IsAsLeft (checkpoint_beside v.mount.plan end.aside (once_erased v.erased v.mount.cells))
      (without_aside last end.aside device.free_block (blocks d.part)) (failures d.part + d.refused)) (sym at.last)
      (left_so v.mount.plan end.aside (once_erased v.erased v.mount.cells) (blocks d.part) long_once (omega (arith, h.free.stands, h.stands.sound.blocks)) are
      idle_once (failures d.part + d.refused) (omega (arith, at.refused, at.failures_are, on.well)))))

  pub life_begins : (pages : List PageData) (seen : Shown) → GoesBySeen labels pages seen v
      → BeginsLife labels v.mount.plan seen pages (born blocks v.mount.plan end.checkpoint d)
  life_begins pages seen g =
      subst (λ (c : Checkpoint). BeginsLife labels v.mount.plan seen pages (born blocks v.mount.plan c d)) (sym h.checkpoint)
      (subst (λ (a : ℕ). Begins d.shape.blocks a) (sym at.aside)
      (subst (λ (last : ℕ). Begins last end.aside) (sym at.last)
      (begins_life pages seen v.erased g.next g.acts v.mount g.by h.at_end end.aside h.free (blocks d.part) (labels d.part) are
      (subst (λ (bs : List device.Block). AreBorne bs (labels d.part).blocks) (sym at.blocks_are)
      (subst (λ (l : Labels). AreBorne (blocks v.part) l.blocks) (sym at.labels_are) on.borne))
      (ap (λ (l : Labels). l.blocks) at.labels_are ∙ done_has pages seen v.erased g.next g.acts v.mount (labels v.part).blocks v.mount.stage done g.has)
      (ap (λ (l : Labels). l.next) at.labels_are ∙ h.next)
      (resumed_start v.mount.plan cp (without_aside v.mount.plan.shape.blocks end.aside device.free_block (blocks d.part))) refl)))
    where
      cp : Checkpoint
      cp = checkpoint_beside v.mount.plan end.aside (once_erased v.erased v.mount.cells)

      Begins : (last aside : ℕ) → Type 0
      Begins last aside =
          let start = resumed_start v.mount.plan cp (without_aside last aside device.free_block (blocks d.part)) in
          (fresh : Labels) × IsMountedStart v.mount.plan seen start fresh × (die_labels last aside (labels d.part) ≡ fresh) × (start.contents ≡ pages)

  -- the part without the block aside, once its serials go on
  pub part_beside : (p : N) → shape_of p ≡ shape_of v.part → blocks p ≡ blocks v.part → labels p ≡ record (labels v.part) { next = end.next }
      → IsPartBeside (shape_of p) (blocks p) (labels p) end.aside
  part_beside p shape bs ls =
      let count : (shape_of p).blocks ≡ v.mount.plan.shape.blocks + 1 = ap (λ (s : Shape). s.blocks) (shape ∙ on.shape) in
      let many : length (blocks v.part) ≡ v.mount.plan.shape.blocks + 1 =
      sym (length-map (blocks v.part) counts_of) ∙ (ap (λ (xs : List Block). length xs) (done_at v.mount v.erased (blocks v.part) v.mount.stage done on.at) ∙ long_once) in
      record {
        count = omega (arith, count, many, ap (λ (xs : List device.Block). length xs) bs);
        labelled = omega (arith, count, many, on.borne.count, ap (λ (l : Labels). length l.blocks) ls);
        has = omega (arith, count, h.free.stands, h.stands.sound.blocks);
      }

-- and the device there
pub beside_end : {N : Type 0} (shape_of : N → Shape) (blocks : N → List device.Block) (labels : N → Labels) (failures : N → ℕ) (v : OnPart N)
    → IsOnPart shape_of blocks labels failures v → (end : Mounted) (p : N) → shape_of p ≡ shape_of v.part → blocks p ≡ blocks v.part
    → labels p ≡ record (labels v.part) { next = end.next } → failures p ≡ failures v.part → (d : Beside N) → d ≡ beside_of (shape_of p) p end.aside
    → IsBesideEnd blocks labels failures v end d
beside_end {N} shape_of blocks labels failures v on end p shape bs ls fs d is = record {
  last = ap (λ (x : Beside N). x.shape.blocks) is ∙ less;
  aside = ap (λ (x : Beside N). x.aside) is;
  refused = ap (λ (x : Beside N). x.refused) is;
  blocks_are = ap (λ (x : Beside N). blocks x.part) is ∙ bs;
  labels_are = ap (λ (x : Beside N). labels x.part) is ∙ ls;
  failures_are = ap (λ (x : Beside N). failures x.part) is ∙ fs;
}
  where
    less : (shape_of p).blocks - 1 ≡ v.mount.plan.shape.blocks
    less = omega (arith, ap (λ (s : Shape). s.blocks) (shape ∙ on.shape))

-- the device is of the plan's shape
pub beside_shape : {N : Type 0} (shape_of : N → Shape) (blocks : N → List device.Block) (labels : N → Labels) (failures : N → ℕ) (v : OnPart N)
    → IsOnPart shape_of blocks labels failures v → (p : N) (aside : ℕ) → shape_of p ≡ shape_of v.part → (beside_of (shape_of p) p aside).shape ≡ v.mount.plan.shape
beside_shape shape_of blocks labels failures v on p aside shape =
    let e : shape_of p ≡ (part_of v.mount.plan).shape = shape ∙ on.shape in
    let less : (shape_of p).blocks - 1 ≡ v.mount.plan.shape.blocks = omega (arith, ap (λ (s : Shape). s.blocks) e) in
    λ i. record { blocks = less i; pages = (e i).pages; erase_slots = (e i).erase_slots }
