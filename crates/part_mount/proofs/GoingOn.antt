-- A call that is carried out leaves the labels that the mount's acts have, and of what was read the page's bytes.
use Rattle.std.proofs.Common.{◌≡◌, ℕ, ◌+◌, ◌++◌, ◌<◌, ◌==◌, Bool, cond, List, [], ◌∷◌, get_or}
use Rattle.std.proofs.Common.{Option, Some, ap, sym, ◌∙◌, subst, inl, inr, arith}
use Rattle.std.specs.Prelude.{slice_index_or, slice_set}
use Rattle.std.proofs.lemmas.Bool.{eq-eqb, ne_eqb}
use Rattle.std.proofs.lemmas.Option.{same_Some}
use Rattle.slot_types.specs.declared.acts.Act.{Act}
use Rattle.slot_types.specs.declared.acts.Act.TheVariants as does
use Rattle.slot_types.specs.declared.pages.PageData.{PageData}
use Rattle.slot_types.specs.declared.plans.DiePlan.{DiePlan}
use Rattle.flash_die.specs.Flash as device
use Rattle.die_log.specs.Model.Flash.{Block, Cells, block_at, free_block, open_block}
use Rattle.die_log.specs.Model.Start.{blank_page}
use Rattle.power_loss.specs.Aside.{part_of}
use Rattle.power_loss.specs.Labels.{Labels, Shown, label_at, labels_after_erase_slot, labels_after_program, labels_in}
use Rattle.power_loss.specs.Mounted.{all_count}
use Rattle.power_loss.specs.Recovery.{IsRecoverable, labels_of, remounted_labels}
use Rattle.power_loss.proofs.Aside.ComingBack.{part_bound}
use Rattle.power_loss.proofs.MountActs.{all_go_on}
use Rattle.power_loss.proofs.Remounting.{remounts}
use Rattle.labelled_nand.specs.PoweredUp.{AreBorne}
use Rattle.part_mount.proofs.Bearing.{counted}
use Rattle.die_mount.specs.Cutting.{GoesBy, labels_at}
use Rattle.die_mount.specs.declared.stage.MountCall.{MountCall}
use Rattle.die_mount.specs.declared.stage.MountCall.TheVariants as calls
use Rattle.die_mount.specs.declared.stage.Stage.{Stage}
use Rattle.die_mount.specs.declared.stage.Stage.TheVariants as stage
use Rattle.die_mount.specs.Nexts.{IsNextStage, IsPastFirst}
use Rattle.die_mount.specs.Mounting.{GoesOnAt, IsAt, IsStep, Mounting, acts_after, call_at, first_cells, never_erased}
use Rattle.die_mount.specs.SoundMount.{StandsWell}
use Rattle.die_mount.proofs.Cutting.{goes_on_by}
use Rattle.part_mount.specs.Calls.{held_by, labels_by}
use Rattle.part_mount.specs.Going.{GoesBySeen, HasLabelsAt, HoldsAt}
use Rattle.part_mount.specs.OnPart.{OnPart, StandsAt, closed_beside, in_erase}
use Rattle.part_mount.proofs.Bearing.{erased_labels}
use Rattle.part_mount.proofs.Erased.{alike}
use Rattle.part_mount.proofs.Standing.{first_at, there}

pub past_has : (pages : List PageData) (seen : Shown) (first next : ℕ) (acts : List Act) (m : Mounting) (now : Shown) (st : Stage) → IsPastFirst st
    → now ≡ (labels_at pages seen first next acts m).blocks → HasLabelsAt pages seen first next acts m now st
past_has pages seen first next acts m now (stage.First block slots) p is = absurd p
past_has pages seen first next acts m now (stage.Read page from) p is = is
past_has pages seen first next acts m now (stage.Program page from to) p is = is
past_has pages seen first next acts m now (stage.Erase block slots) p is = is
past_has pages seen first next acts m now stage.Done p is = is

past_holds : (pages : List PageData) (held : PageData) (st : Stage) → IsPastFirst st → HoldsAt pages held st
past_holds pages held (stage.First block slots) p = tt
past_holds pages held (stage.Read page from) p = tt
past_holds pages held (stage.Program page from to) p = absurd p
past_holds pages held (stage.Erase block slots) p = tt
past_holds pages held stage.Done p = tt

-- What a mount has after these acts can be recovered, with just these pages
pub recoverable : (pages : List PageData) (seen : Shown) (first next : ℕ) (acts : List Act) (m : Mounting) → GoesBy pages seen first next acts m
    → IsRecoverable (part_of m.plan) m.cells pages (labels_at pages seen first next acts m) all_count
recoverable pages seen first next acts m g =
    let part = part_of m.plan in
    let at_first = remounts part pages all_count seen g.stood first g.may never_erased next g.above in
    subst (λ (c : Cells). IsRecoverable part c pages (labels_at pages seen first next acts m) all_count) g.is.cells
    (all_go_on part (first_cells m.plan first seen) pages (remounted_labels first seen next) all_count (part_bound m.plan g.bound g.beside) at_first acts
    g.is.may)

-- one program more
pub program_labels : (page to serial : ℕ) (bytes held : PageData) (own : Labels) (l : Labels) → own.blocks ≡ l.blocks → serial ≡ l.next → held ≡ bytes
    → slice_set own.blocks to (labels_in own.blocks to ++ Some (record { page = page; serial = serial; bytes = held }) ∷ [])
    ≡ (labels_after_program page bytes (Some to) l).blocks
program_labels page to serial bytes held own l blocks number is =
    ap (λ (bs : Shown). slice_set bs to (labels_in bs to ++ Some (record { page = page; serial = serial; bytes = held }) ∷ [])) blocks
    ∙ (ap (λ (n : ℕ). slice_set l.blocks to (labels_in l.blocks to ++ Some (record { page = page; serial = n; bytes = held }) ∷ [])) number
    ∙ ap (λ (b : PageData). slice_set l.blocks to (labels_in l.blocks to ++ Some (record { page = page; serial = l.next; bytes = b }) ∷ [])) is)

-- one slot of an erase more
slot_labels : (all b n k : ℕ) (own l : Labels) → own.blocks ≡ l.blocks → n ≡ k
    → (cond (n + 1 == all) (record own { blocks = slice_set own.blocks b [] }) own).blocks
    ≡ (cond (k + 1 == all) (record l { blocks = slice_set l.blocks b [] }) l).blocks
slot_labels all b n k own l blocks same =
    erased_labels (n + 1 == all) own (slice_set own.blocks b [])
    ∙ (ap (λ (bs : Shown). cond (n + 1 == all) (slice_set bs b []) bs) blocks
    ∙ (ap (λ (i : ℕ). cond (i + 1 == all) (slice_set l.blocks b []) l.blocks) same ∙ sym (erased_labels (k + 1 == all) l (slice_set l.blocks b []))))

module _ (pages : List PageData) (seen : Shown) (first next : ℕ) (acts : List Act) (old new : Mounting) (blocks : List device.Block) (held : PageData)
    (own : Labels) (w : StandsWell old) (k : IsStep old new) (g : GoesBy pages seen first next acts old) (borne : AreBorne blocks own.blocks) where
  abbrev part : DiePlan
  part = part_of old.plan

  abbrev all : ℕ
  all = old.plan.shape.erase_slots

  abbrev l : Labels
  l = labels_at pages seen first next acts old

  -- the labels after these acts are the same, whichever of both mounts is asked
  labels_new : (more : List Act) → (labels_at pages seen first next more old).blocks ≡ (labels_at pages seen first next more new).blocks
  labels_new more = ap (λ (p : DiePlan). (labels_of (part_of p) pages more (first_cells p first seen) (remounted_labels first seen next)).blocks) (sym k.plan)

  has_by : (st : Stage) (call : MountCall) → IsAt old st → GoesOnAt old.plan (first_cells old.plan first seen) old.cells first acts st
      → StandsAt old.plan first old.cells blocks st → call_at old.next st ≡ Some call → IsNextStage all st new.stage
      → HasLabelsAt pages seen first next acts old own.blocks st → HoldsAt pages held st
      → HasLabelsAt pages seen first next (acts_after st acts) new (labels_by all held call blocks own).blocks new.stage
  has_by (stage.First block slots) call h goes a e n has holds =
      subst (λ (x : MountCall). HasLabelsAt pages seen first next acts new (labels_by all held x blocks own).blocks new.stage)
      (same_Some (calls.EraseSlot block) call e) (by_next n)
    where
      erasing : (device.block_at blocks block).erasing ≡ slots
      erasing = ap (λ (s : Block). s.erasing) (counted blocks block ∙ (ap (λ (bs : List Block). get_or bs block free_block) a.2
          ∙ (ap (λ (i : ℕ). get_or (closed_beside old.plan first (in_erase old.plan slots)) i free_block) a.0
          ∙ first_at old.plan first (in_erase old.plan slots)
          (subst (λ (i : ℕ). i < old.plan.shape.blocks + 1) a.0 (omega (arith, h.free.stands, w.sound.blocks))))))

      slot : (labels_by all held (calls.EraseSlot block) blocks own).blocks ≡ cond (slots + 1 == all) (slice_set own.blocks block []) own.blocks
      slot = erased_labels ((device.block_at blocks block).erasing + 1 == all) own (slice_set own.blocks block [])
          ∙ ap (λ (i : ℕ). cond (i + 1 == all) (slice_set own.blocks block []) own.blocks) erasing

      by_next : IsNextStage all (stage.First block slots) new.stage
          → HasLabelsAt pages seen first next acts new (labels_by all held (calls.EraseSlot block) blocks own).blocks new.stage
      by_next (inl n) =
          subst (HasLabelsAt pages seen first next acts new (labels_by all held (calls.EraseSlot block) blocks own).blocks) (sym n.1)
          (slot ∙ (ap (λ (t : Bool). cond t (slice_set own.blocks block []) own.blocks)
          (ne_eqb (slots + 1) all (λ (x : slots + 1 ≡ all). omega (arith, x, n.0))) ∙ has))
      by_next (inr n) =
          past_has pages seen first next acts new (labels_by all held (calls.EraseSlot block) blocks own).blocks new.stage n.1
          (slot ∙ (ap (λ (t : Bool). cond t (slice_set own.blocks block []) own.blocks) (eq-eqb (slots + 1) all (omega (arith, n.0, h.more)))
          ∙ (ap (λ (bs : Shown). slice_set bs block []) has
          ∙ (ap (λ (i : ℕ). slice_set seen i []) goes.1
          ∙ (ap (λ (more : List Act). (labels_at pages seen first next more old).blocks) (sym goes.0) ∙ labels_new acts)))))
  has_by (stage.Read page from) call h goes a e n has holds =
      subst (HasLabelsAt pages seen first next acts new (labels_by all held call blocks own).blocks) (sym n.1)
      (subst (λ (x : MountCall). (labels_by all held x blocks own).blocks ≡ (labels_at pages seen first next acts new).blocks)
      (same_Some (calls.Read from) call e) (has ∙ labels_new acts))
  has_by (stage.Program page from to) call h goes a e n has holds =
      subst (λ (x : MountCall). HasLabelsAt pages seen first next (does.CopyProgram page ∷ acts) new (labels_by all held x blocks own).blocks new.stage)
      (same_Some (calls.Program to (record { page = page; serial = old.next })) call e)
      (past_has pages seen first next (does.CopyProgram page ∷ acts) new
      (labels_by all held (calls.Program to (record { page = page; serial = old.next })) blocks own).blocks new.stage n
      (program_labels page to.block old.next (slice_index_or pages page blank_page) held own l has (sym (g.is.serial pages)) holds
      ∙ (ap (λ (o : Option ℕ). (labels_after_program page (slice_index_or pages page blank_page) o l).blocks)
      (sym (ap (open_block part) g.is.cells ∙ h.opens)) ∙ labels_new (does.CopyProgram page ∷ acts))))
  has_by (stage.Erase block slots) call h goes a e n has holds =
      let al = alike first old.cells block in
      let erasing : (device.block_at blocks block).erasing ≡ (block_at old.cells block).erasing =
      ap (λ (s : Block). s.erasing) (there first old.cells blocks block a) ∙ al.erasing in
      subst (λ (x : MountCall). HasLabelsAt pages seen first next (does.Erase block ∷ acts) new (labels_by all held x blocks own).blocks new.stage)
      (same_Some (calls.EraseSlot block) call e)
      (past_has pages seen first next (does.Erase block ∷ acts) new (labels_by all held (calls.EraseSlot block) blocks own).blocks new.stage n
      (slot_labels all block (device.block_at blocks block).erasing (block_at old.cells block).erasing own l has erasing
      ∙ (ap (λ (c : Cells). (labels_after_erase_slot part (block_at c block) block l).blocks) (sym g.is.cells) ∙ labels_new (does.Erase block ∷ acts))))
  has_by stage.Done call h goes a e n has holds = absurd n

  -- what was read is the page
  holds_by : (st : Stage) (call : MountCall) → IsAt old st → call_at old.next st ≡ Some call → IsNextStage all st new.stage
      → HasLabelsAt pages seen first next acts old own.blocks st → HoldsAt pages (held_by call blocks held) new.stage
  holds_by (stage.First block slots) call h e n has = by_next n
    where
      by_next : IsNextStage all (stage.First block slots) new.stage → HoldsAt pages (held_by call blocks held) new.stage
      by_next (inl n) = subst (HoldsAt pages (held_by call blocks held)) (sym n.1) tt
      by_next (inr n) = past_holds pages (held_by call blocks held) new.stage n.1
  holds_by (stage.Read page from) call h e n has =
      let now = recoverable pages seen first next acts old g in
      let newest = now.labelled.newest page from h.lies in
      let read : device.cell_at blocks from ≡ slice_index_or pages page blank_page =
      borne.bytes from newest.label (ap (λ (bs : Shown). label_at bs from) has ∙ newest.stands)
      ∙ now.bytes page from newest.label h.lies newest.stands in
      subst (HoldsAt pages (held_by call blocks held)) (sym n.1)
      (subst (λ (x : MountCall). held_by x blocks held ≡ slice_index_or pages page blank_page) (same_Some (calls.Read from) call e) read)
  holds_by (stage.Program page from to) call h e n has = past_holds pages (held_by call blocks held) new.stage n
  holds_by (stage.Erase block slots) call h e n has = past_holds pages (held_by call blocks held) new.stage n
  holds_by stage.Done call h e n has = absurd n

pub goes_on : {N : Type 0} (labels : N → Labels) (pages : List PageData) (seen : Shown) (v after : OnPart N) (blocks : List device.Block) (call : MountCall)
    → StandsWell v.mount → AreBorne blocks (labels v.part).blocks → StandsAt v.mount.plan v.erased v.mount.cells blocks v.mount.stage
    → IsStep v.mount after.mount → IsNextStage v.mount.plan.shape.erase_slots v.mount.stage after.mount.stage
    → call_at v.mount.next v.mount.stage ≡ Some call → after.erased ≡ v.erased → after.held ≡ held_by call blocks v.held
    → labels after.part ≡ labels_by v.mount.plan.shape.erase_slots v.held call blocks (labels v.part)
    → GoesBySeen labels pages seen v → GoesBySeen labels pages seen after
goes_on labels pages seen v after blocks call w borne a k n e same held made g =
    let old = v.mount in
    let new = after.mount in
    let more = acts_after old.stage g.acts in
    record {
      next = g.next;
      acts = more;
      by = subst (λ (b : ℕ). GoesBy pages seen b g.next more new) (sym same) (goes_on_by pages seen v.erased g.next g.acts old new g.by k);
      has = subst (λ (b : ℕ). HasLabelsAt pages seen b g.next more new (labels after.part).blocks new.stage) (sym same)
          (subst (λ (l : Labels). HasLabelsAt pages seen v.erased g.next more new l.blocks new.stage) (sym made)
          (has_by pages seen v.erased g.next g.acts old new blocks v.held (labels v.part) w k g.by borne old.stage call w.at g.by.is.goes_on a e n g.has
          g.holds));
      holds = subst (λ (b : PageData). HoldsAt pages b new.stage) (sym held)
          (holds_by pages seen v.erased g.next g.acts old new blocks v.held (labels v.part) w k g.by borne old.stage call w.at e n g.has);
    }
