-- Where the power of a device goes during a mount, it shows what a mount may see that was cut there.
use Rattle.std.proofs.Common.{◌≡◌, ◌⊎◌, ℕ, ◌+◌, ◌<◌, ◌≤◌, ◌==◌, ◌&&◌, Bool, true, false, List, length, get_or, map, replicate, not, set}
use Rattle.std.proofs.Common.{Option, Some, None, refl, ap, sym, ◌∙◌, subst, inl, inr, arith}
use Rattle.std.specs.Prelude.{IsTrue, slice_index_or}
use Rattle.std.proofs.lemmas.Bool.{cases_eq, cases_lt, eq-eqb, true≢false}
use Rattle.std.proofs.lemmas.List.{get_or-replicate, get_or-set_other, get_or-set_same, get_or_past, length-replicate, set_past}
use Rattle.slot_types.specs.declared.acts.Act.{Act}
use Rattle.slot_types.specs.declared.pages.PageData.{PageData}
use Rattle.slot_types.specs.declared.plans.DiePlan.{DiePlan}
use Rattle.slot_types.specs.declared.plans.Shape.{Shape}
use Rattle.flash_die.specs.Flash as device
use Rattle.die_log.specs.Model.Flash.{Block, Cells, block_at, cells_after_program_in, free_block, open_block}
use Rattle.die_log.specs.Model.Start.{blank_page}
use Rattle.power_loss.specs.Aside.{StandsOnPart, part_of}
use Rattle.power_loss.specs.Labels.{Labels, Shown, label_at, labels_after_program}
use Rattle.power_loss.specs.Mounted.{all_count}
use Rattle.power_loss.specs.Seen.{MaySee, is_whole}
use Rattle.die_mount.specs.Cutting.{GoesBy, MaySeeCut, MaySeeCutAt, labels_at}
use Rattle.die_mount.specs.Mounting.{GoesOnAt, IsAt, IsStep, Mounting, call_at, first_cells}
use Rattle.die_mount.specs.PartState.{closed_block}
use Rattle.die_mount.specs.SoundMount.{StandsWell}
use Rattle.die_mount.specs.declared.stage.Stage.{Stage}
use Rattle.die_mount.specs.declared.stage.Stage.TheVariants as stage
use Rattle.die_mount.proofs.Cutting.{cut_at_end, cut_in_call}
use Rattle.labelled_nand.specs.PoweredUp.{counts_of}
use Rattle.part_mount.specs.Cuts.{MayShow, is_quiet}
use Rattle.part_mount.specs.Going.{GoesBySeen, HasLabelsAt, HoldsAt}
use Rattle.part_mount.specs.OnPart.{IsOnPart, OnPart, StandsAt, closed_beside, in_erase, once_erased}
use Rattle.part_mount.proofs.Bearing.{counted}
use Rattle.part_mount.proofs.Erased.{alike}
use Rattle.part_mount.proofs.GoingOn.{program_labels}
use Rattle.part_mount.proofs.Standing.{there}

-- the same labels, and no more blocks that have to be whole
see_same : (p q : ℕ → Bool) (xs ys later : Shown) → xs ≡ ys → ((b : ℕ) → IsTrue (q b) → IsTrue (p b)) → MaySee p xs later → MaySee q ys later
see_same p q xs ys later is h sees = record {
  long = sees.long ∙ ap (λ (l : Shown). length l) is;
  whole = λ place t. sees.whole place (h place.block t) ∙ ap (λ (l : Shown). label_at l place) is;
  remains = λ place x e. sym (ap (λ (l : Shown). label_at l place) is) ∙ sees.remains place x e;
}

both : (p q : Bool) → IsTrue p → IsTrue q → IsTrue (p && q)
both true true s t = refl
both true false s t = t
both false true s t = s
both false false s t = s

left_of : (p q : Bool) → IsTrue (p && q) → IsTrue p
left_of true q t = refl
left_of false q t = t

right_of : (p q : Bool) → IsTrue (p && q) → IsTrue q
right_of true q t = t
right_of false q t = absurd (true≢false (sym t))

-- which blocks are in erase

quiet_beside : (plan : DiePlan) (first slots b : ℕ) (blocks : List device.Block) → map counts_of blocks ≡ closed_beside plan first (in_erase plan slots)
    → IsTrue (not (b == first)) → IsTrue (is_quiet blocks b)
quiet_beside plan first slots b blocks are t = by_case (cases_eq b first)
  where
    all : List Block
    all = replicate (plan.shape.blocks + 1) (closed_block plan.shape.pages)

    idle : (b < length all) ⊎ (length all ≤ b) → (get_or all b free_block).erasing ≡ 0
    idle (inl lt) = ap (λ (s : Block). s.erasing)
        (get_or-replicate (plan.shape.blocks + 1) b (closed_block plan.shape.pages) free_block
        (omega (arith, lt, length-replicate (plan.shape.blocks + 1) (closed_block plan.shape.pages))))
    idle (inr past) = ap (λ (s : Block). s.erasing) (get_or_past all b free_block past)

    by_case : (b ≡ first) ⊎ (b ≡ first → ⊥) → IsTrue (is_quiet blocks b)
    by_case (inl is) = absurd (true≢false (sym t ∙ ap not (eq-eqb b first is)))
    by_case (inr other) =
        eq-eqb (device.block_at blocks b).erasing 0
        (ap (λ (s : Block). s.erasing) (counted blocks b ∙ (ap (λ (bs : List Block). get_or bs b free_block) are
        ∙ get_or-set_other all first b (in_erase plan slots) free_block other)) ∙ idle (cases_lt b (length all)))

quiet_there : (first : ℕ) (c : Cells) (blocks : List device.Block) → map counts_of blocks ≡ (once_erased first c).blocks → (b : ℕ)
    → is_whole c b ≡ is_quiet blocks b
quiet_there first c blocks are b =
    ap (λ (n : ℕ). n == 0) (sym (ap (λ (s : Block). s.erasing) (there first c blocks b are) ∙ (alike first c b).erasing))

-- a program leaves each block in erase, or not in erase
erasing_stays : (page : ℕ) (o : Option ℕ) (c : Cells) (b : ℕ) → (block_at (cells_after_program_in page o c) b).erasing ≡ (block_at c b).erasing
erasing_stays page None c b = refl
erasing_stays page (Some a) c b = by_case (cases_eq b a) (cases_lt a (length c.blocks))
  where
    more : Block
    more = record (block_at c a) { filled = (block_at c a).filled + 1 }

    by_case : (b ≡ a) ⊎ (b ≡ a → ⊥) → (a < length c.blocks) ⊎ (length c.blocks ≤ a)
        → (get_or (set c.blocks a more) b free_block).erasing ≡ (get_or c.blocks b free_block).erasing
    by_case (inl is) (inl lt) =
        ap (λ (i : ℕ). (get_or (set c.blocks a more) i free_block).erasing) is
        ∙ (ap (λ (s : Block). s.erasing) (get_or-set_same c.blocks a more free_block lt)
        ∙ ap (λ (i : ℕ). (get_or c.blocks i free_block).erasing) (sym is))
    by_case (inl is) (inr past) = ap (λ (bs : List Block). (get_or bs b free_block).erasing) (set_past c.blocks a more past)
    by_case (inr other) h = ap (λ (s : Block). s.erasing) (get_or-set_other c.blocks a b more free_block other)

module _ (pages : List PageData) (seen : Shown) (first next : ℕ) (acts : List Act) (m : Mounting) (blocks : List device.Block) (held : PageData)
    (own : Labels) (g : GoesBy pages seen first next acts m) where
  abbrev part : DiePlan
  part = part_of m.plan

  abbrev l : Labels
  l = labels_at pages seen first next acts m

  quiet : map counts_of blocks ≡ (once_erased first m.cells).blocks → (b : ℕ) → IsTrue (is_whole m.cells b) → IsTrue (is_quiet blocks b)
  quiet are b t = sym (quiet_there first m.cells blocks are b) ∙ t

  sees_so : (later : Shown) (st : Stage) → IsAt m st → GoesOnAt m.plan (first_cells m.plan first seen) m.cells first acts st
      → StandsAt m.plan first m.cells blocks st → HasLabelsAt pages seen first next acts m own.blocks st → HoldsAt pages held st
      → MayShow blocks own held (call_at m.next st) later → MaySeeCutAt pages seen first next acts m st later
  sees_so later (stage.First block slots) h goes a has holds sees =
      see_same (λ b. is_quiet blocks b && not (b == block)) (λ b. not (b == first)) own.blocks seen later has
      (λ b t. both (is_quiet blocks b) (not (b == block)) (quiet_beside m.plan first slots b blocks a.2 t)
      (subst (λ (i : ℕ). IsTrue (not (b == i))) (sym a.0) t)) sees
  sees_so later (stage.Read page from) h goes a has holds sees =
      see_same (is_quiet blocks) (is_whole m.cells) own.blocks l.blocks later has (quiet a) sees
  sees_so later (stage.Program page from to) h goes a has holds (inl sees) =
      inl (see_same (is_quiet blocks) (is_whole m.cells) own.blocks l.blocks later has (quiet a) sees)
  sees_so later (stage.Program page from to) h goes a has holds (inr sees) =
      let bytes : PageData = slice_index_or pages page blank_page in
      let o : Option ℕ = open_block part m.cells in
      let opens : o ≡ Some to.block = h.opens in
      inr (see_same (is_quiet blocks) (is_whole (cells_after_program_in page o m.cells))
      (labels_after_program page held (Some to.block) (record own { next = m.next })).blocks (labels_after_program page bytes o l).blocks later
      (program_labels page to.block m.next bytes held own l has (sym (g.is.serial pages)) holds
      ∙ ap (λ (x : Option ℕ). (labels_after_program page bytes x l).blocks) (sym opens))
      (λ b t. quiet a b (ap (λ (n : ℕ). n == 0) (sym (erasing_stays page o m.cells b)) ∙ t)) sees)
  sees_so later (stage.Erase block slots) h goes a has holds sees =
      see_same (λ b. is_quiet blocks b && not (b == block)) (λ b. is_whole m.cells b && not (b == block)) own.blocks l.blocks later has
      (λ b t. both (is_quiet blocks b) (not (b == block)) (quiet a b (left_of (is_whole m.cells b) (not (b == block)) t))
      (right_of (is_whole m.cells b) (not (b == block)) t)) sees
  sees_so later stage.Done h goes a has holds sees =
      see_same (is_quiet blocks) (is_whole m.cells) own.blocks l.blocks later has (quiet a) sees

module _ {N : Type 0} (shape_of : N → Shape) (blocks : N → List device.Block) (labels : N → Labels) (failures : N → ℕ) (pages : List PageData)
    (seen later : Shown) (v : OnPart N) (w : StandsWell v.mount) (on : IsOnPart shape_of blocks labels failures v) (g : GoesBySeen labels pages seen v)
    (sees : MayShow (blocks v.part) (labels v.part) v.held (call_at v.mount.next v.mount.stage) later) where
  cut_there : MaySeeCut pages seen v.erased g.next g.acts v.mount later
  cut_there =
      sees_so pages seen v.erased g.next g.acts v.mount (blocks v.part) v.held (labels v.part) g.by later v.mount.stage w.at g.by.is.goes_on on.at g.has g.holds
      sees

  -- the next mount can go on from it, with the same pages
  pub shows_in_call : (after : Mounting) → IsStep v.mount after → StandsOnPart v.mount.plan pages all_count later
  shows_in_call after k = cut_in_call pages seen v.erased g.next g.acts v.mount g.by after k later cut_there

  pub shows_at_end : v.mount.stage ≡ stage.Done → StandsOnPart v.mount.plan pages all_count later
  shows_at_end at = cut_at_end pages seen v.erased g.next g.acts v.mount g.by at later cut_there
