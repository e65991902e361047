-- The calls of a mount are such as the part may do, and leave the part's blocks as the mount has them.
use Rattle.std.proofs.Common.{◌≡◌, ℕ, ◌+◌, ◌<◌, Bool, cond, List, length, get_or, set, map}
use Rattle.std.proofs.Common.{Option, Some, refl, ap, sym, ◌∙◌, subst, inl, inr, arith, replicate}
use Rattle.std.proofs.lemmas.Bool.{eq-eqb, ne_eqb}
use Rattle.std.proofs.lemmas.List.{get_or-set_same, length-map, length-replicate, length-set, set-set}
use Rattle.std.proofs.lemmas.Option.{none-some, same_Some}
use Rattle.slot_types.specs.declared.acts.Act.TheVariants as does
use Rattle.slot_types.specs.declared.pages.PageData.{PageData}
use Rattle.slot_types.specs.declared.plans.DiePlan.{DiePlan}
use Rattle.flash_die.specs.Flash as device
use Rattle.die_log.specs.Model.Flash.{Block, Cells, block_after_erase_slot, block_at, cells_after, cells_after_program_in, free_block}
use Rattle.die_log.proofs.Cells.Steps.{open_is}
use Rattle.die_log.proofs.Legal.Exact.{has_pages}
use Rattle.power_loss.specs.Aside.{part_of}
use Rattle.power_loss.proofs.Aside.ComingBack.{part_bound}
use Rattle.labelled_nand.specs.PoweredUp.{counts_of}
use Rattle.part_mount.proofs.Bearing.{counted}
use Rattle.die_mount.specs.declared.stage.MountCall.{MountCall}
use Rattle.die_mount.specs.declared.stage.MountCall.TheVariants as calls
use Rattle.die_mount.specs.declared.stage.Stage.{Stage}
use Rattle.die_mount.specs.declared.stage.Stage.TheVariants as stage
use Rattle.die_mount.specs.Mounting.{IsAt, IsStep, Mounting, call_at, carried_at}
use Rattle.die_mount.specs.Nexts.{IsNextStage, IsPastFirst}
use Rattle.die_mount.specs.PartState.{closed_block}
use Rattle.die_mount.specs.SoundMount.{StandsWell}
use Rattle.die_mount.proofs.Beginning.{rounds_few}
use Rattle.part_mount.specs.Calls.{CanCarryOut, blocks_by}
use Rattle.part_mount.specs.OnPart.{StandsAt, closed_beside, erased_more, in_erase, once_erased}
use Rattle.part_mount.proofs.Bearing.{erased, is_there, programmed}
use Rattle.part_mount.proofs.Erased.{alike, erase_kept, program_kept}

-- Blocks as the part counts them

-- the block that is erased first
pub first_at : (plan : DiePlan) (first : ℕ) (own : Block) → first < plan.shape.blocks + 1 → get_or (closed_beside plan first own) first free_block ≡ own
first_at plan first own lt =
    let all : List Block = replicate (plan.shape.blocks + 1) (closed_block plan.shape.pages) in
    get_or-set_same all first own free_block (omega (arith, lt, length-replicate (plan.shape.blocks + 1) (closed_block plan.shape.pages)))

pub beside_length : (plan : DiePlan) (first : ℕ) (own : Block) → length (closed_beside plan first own) ≡ plan.shape.blocks + 1
beside_length plan first own =
    length-set (replicate (plan.shape.blocks + 1) (closed_block plan.shape.pages)) first own
    ∙ length-replicate (plan.shape.blocks + 1) (closed_block plan.shape.pages)

-- a block of the part, where the part has the mount's blocks
pub there : (first : ℕ) (c : Cells) (blocks : List device.Block) (b : ℕ) → map counts_of blocks ≡ (once_erased first c).blocks
    → counts_of (device.block_at blocks b) ≡ block_at (once_erased first c) b
there first c blocks b is = counted blocks b ∙ ap (λ (bs : List Block). get_or bs b free_block) is

module _ (m : Mounting) (first : ℕ) (blocks : List device.Block) (w : StandsWell m) where
  some_pages : 0 < m.plan.shape.pages
  some_pages = has_pages (part_of m.plan) (part_bound m.plan w.bound w.beside)

  by_stage : (st : Stage) (call : MountCall) → IsAt m st → StandsAt m.plan first m.cells blocks st → call_at m.next st ≡ Some call
      → CanCarryOut blocks m.plan.shape.pages call
  by_stage (stage.First block slots) call h a e =
      let lt : block < m.plan.shape.blocks + 1 = omega (arith, h.free.stands, w.sound.blocks) in
      let at : counts_of (device.block_at blocks block) ≡ in_erase m.plan slots =
      counted blocks block ∙ (ap (λ (bs : List Block). get_or bs block free_block) a.2
      ∙ (ap (λ (i : ℕ). get_or (closed_beside m.plan first (in_erase m.plan slots)) i free_block) a.0
      ∙ first_at m.plan first (in_erase m.plan slots) (subst (λ (i : ℕ). i < m.plan.shape.blocks + 1) a.0 lt))) in
      subst (CanCarryOut blocks m.plan.shape.pages) (same_Some (calls.EraseSlot block) call e) (record {
        in_range = omega (arith, lt, sym (length-map blocks counts_of) ∙ (ap (λ (bs : List Block). length bs) a.2 ∙ beside_length m.plan first (in_erase m.plan slots)));
        closed = λ idle. ap (λ (s : Block). s.filled) at;
        few_erases = omega (arith, ap (λ (s : Block). s.erases) at);
      })
  by_stage (stage.Read page from) call h a e =
      let al = alike first m.cells from.block in
      let at = there first m.cells blocks from.block a in
      let filled : length (device.block_at blocks from.block).pages ≡ (block_at m.cells from.block).filled =
      ap (λ (s : Block). s.filled) at ∙ al.filled in
      let lies = w.sound.placed page from h.lies in
      subst (CanCarryOut blocks m.plan.shape.pages) (same_Some (calls.Read from) call e) (record {
        in_range = is_there blocks from.block (omega (arith, filled, lies));
        filled = omega (arith, filled, lies);
        quiet = ap (λ (s : Block). s.erasing) at ∙ (al.erasing ∙ h.idle from.block);
      })
  by_stage (stage.Program page from to) call h a e =
      let al = alike first m.cells to.block in
      let at = there first m.cells blocks to.block a in
      let filled : length (device.block_at blocks to.block).pages ≡ (block_at m.cells to.block).filled =
      ap (λ (s : Block). s.filled) at ∙ al.filled in
      let takes = open_is (part_of m.plan) m.cells to.block some_pages w.sound h.opens in
      let long : length blocks ≡ length m.cells.blocks = sym (length-map blocks counts_of) ∙ (ap (λ (bs : List Block). length bs) a
      ∙ length-set m.cells.blocks first (erased_more (block_at m.cells first))) in
      subst (CanCarryOut blocks m.plan.shape.pages) (same_Some (calls.Program to (record { page = page; serial = m.next })) call e) (record {
        in_range = omega (arith, takes.stands, long);
        next = h.next ∙ sym filled;
        room = omega (arith, takes.room, h.next);
        quiet = ap (λ (s : Block). s.erasing) at ∙ (al.erasing ∙ h.at.idle to.block);
      })
  by_stage (stage.Erase block slots) call h a e =
      let al = alike first m.cells block in
      let at = there first m.cells blocks block a in
      let filled : length (device.block_at blocks block).pages ≡ m.plan.shape.pages =
      ap (λ (s : Block). s.filled) at ∙ (al.filled ∙ h.closed) in
      let few = rounds_few m.plan w.bound w.beside in
      subst (CanCarryOut blocks m.plan.shape.pages) (same_Some (calls.EraseSlot block) call e) (record {
        in_range = is_there blocks block (omega (arith, filled, some_pages));
        closed = λ idle. filled;
        few_erases = omega (arith, ap (λ (s : Block). s.erases) at, al.few, h.erased block, few);
      })
  by_stage stage.Done call h a e = absurd (none-some call e)

  -- the call that comes next may be carried out
  pub can_carry : (call : MountCall) → StandsAt m.plan first m.cells blocks m.stage → call_at m.next m.stage ≡ Some call
      → CanCarryOut blocks m.plan.shape.pages call
  can_carry call a e = by_stage m.stage call w.at a e

-- Past the first erase

pub past_stands : (plan : DiePlan) (first : ℕ) (c : Cells) (blocks : List device.Block) (st : Stage) → IsPastFirst st
    → map counts_of blocks ≡ (once_erased first c).blocks → StandsAt plan first c blocks st
past_stands plan first c blocks (stage.First block slots) p is = absurd p
past_stands plan first c blocks (stage.Read page from) p is = is
past_stands plan first c blocks (stage.Program page from to) p is = absurd p
past_stands plan first c blocks (stage.Erase block slots) p is = is
past_stands plan first c blocks stage.Done p is = is

-- a slot of the first erase
not_last : (plan : DiePlan) (slots : ℕ) → slots + 1 < plan.shape.erase_slots → block_after_erase_slot plan (in_erase plan slots) ≡ in_erase plan (slots + 1)
not_last plan slots less =
    ap (λ (t : Bool). cond t (record { filled = 0; erasing = 0; erases = 1 }) (in_erase plan (slots + 1)))
    (ne_eqb (slots + 1) plan.shape.erase_slots (λ (e : slots + 1 ≡ plan.shape.erase_slots). omega (arith, e, less)))

last_one : (plan : DiePlan) (slots : ℕ) → slots + 1 ≡ plan.shape.erase_slots → block_after_erase_slot plan (in_erase plan slots) ≡ erased_more free_block
last_one plan slots full =
    ap (λ (t : Bool). cond t (record { filled = 0; erasing = 0; erases = 1 }) (in_erase plan (slots + 1))) (eq-eqb (slots + 1) plan.shape.erase_slots full)

module _ (old new : Mounting) (first : ℕ) (blocks : List device.Block) (held : PageData) (w : StandsWell old) (k : IsStep old new) where
  abbrev all : ℕ
  all = old.plan.shape.erase_slots

  -- cells of the mount after the call of this stage
  cells_on : (st : Stage) → old.stage ≡ st → new.cells ≡ cells_after (part_of old.plan) (carried_at st) old.cells
  cells_on st at = k.cells ∙ ap (λ (s : Stage). cells_after (part_of old.plan) (carried_at s) old.cells) at

  after_by : (st : Stage) (call : MountCall) → old.stage ≡ st → IsAt old st → StandsAt old.plan first old.cells blocks st → call_at old.next st ≡ Some call
      → IsNextStage all st new.stage → StandsAt old.plan first new.cells (blocks_by all held call blocks) new.stage
  after_by (stage.First block slots) call at h a e n =
      let lt : block < old.plan.shape.blocks + 1 = omega (arith, h.free.stands, w.sound.blocks) in
      let here : first < old.plan.shape.blocks + 1 = subst (λ (i : ℕ). i < old.plan.shape.blocks + 1) a.0 lt in
      let own : Block = in_erase old.plan slots in
      let same : new.cells ≡ old.cells = cells_on (stage.First block slots) at in
      let counts : map counts_of (device.blocks_after_erase_slot blocks all block)
      ≡ closed_beside old.plan first (block_after_erase_slot old.plan own) =
      erased old.plan blocks block
      ∙ (ap (λ (bs : List Block). set bs block (block_after_erase_slot old.plan (get_or bs block free_block))) a.2
      ∙ (ap (λ (i : ℕ). set (closed_beside old.plan first own) i (block_after_erase_slot old.plan (get_or (closed_beside old.plan first own) i free_block))) a.0
      ∙ (ap (λ (s : Block). set (closed_beside old.plan first own) first (block_after_erase_slot old.plan s)) (first_at old.plan first own here)
      ∙ set-set (replicate (old.plan.shape.blocks + 1) (closed_block old.plan.shape.pages)) first own (block_after_erase_slot old.plan own)))) in
      let cells_are : new.cells.blocks ≡ closed_beside old.plan first free_block = ap (λ (c : Cells). c.blocks) same ∙ a.1 in
      subst (λ (x : MountCall). StandsAt old.plan first new.cells (blocks_by all held x blocks) new.stage) (same_Some (calls.EraseSlot block) call e)
      (by_next block slots here (a.0) cells_are counts (h.more) n)
    where
      by_next : (block slots : ℕ) → first < old.plan.shape.blocks + 1 → block ≡ first → new.cells.blocks ≡ closed_beside old.plan first free_block
          → map counts_of (device.blocks_after_erase_slot blocks all block)
          ≡ closed_beside old.plan first (block_after_erase_slot old.plan (in_erase old.plan slots)) → slots < all
          → IsNextStage all (stage.First block slots) new.stage
          → StandsAt old.plan first new.cells (device.blocks_after_erase_slot blocks all block) new.stage
      by_next block slots here own_is cells_are counts more (inl n) =
          subst (StandsAt old.plan first new.cells (device.blocks_after_erase_slot blocks all block)) (sym n.1)
          (own_is, cells_are, counts ∙ ap (closed_beside old.plan first) (not_last old.plan slots n.0))
      by_next block slots here own_is cells_are counts more (inr n) =
          past_stands old.plan first new.cells (device.blocks_after_erase_slot blocks all block) new.stage n.1
          (counts ∙ (ap (closed_beside old.plan first) (last_one old.plan slots (omega (arith, n.0, more)))
          ∙ sym (ap (λ (bs : List Block). set bs first (erased_more (get_or bs first free_block))) cells_are
          ∙ (ap (λ (s : Block). set (closed_beside old.plan first free_block) first (erased_more s)) (first_at old.plan first free_block here)
          ∙ set-set (replicate (old.plan.shape.blocks + 1) (closed_block old.plan.shape.pages)) first free_block (erased_more free_block)))))
  after_by (stage.Read page from) call at h a e n =
      let same : new.cells ≡ old.cells = cells_on (stage.Read page from) at in
      subst (StandsAt old.plan first new.cells (blocks_by all held call blocks)) (sym n.1)
      (subst (λ (x : MountCall). map counts_of (blocks_by all held x blocks) ≡ (once_erased first new.cells).blocks) (same_Some (calls.Read from) call e)
      (a ∙ sym (ap (λ (c : Cells). (once_erased first c).blocks) same)))
  after_by (stage.Program page from to) call at h a e n =
      let o : Option ℕ = Some to.block in
      let same : new.cells ≡ cells_after_program_in page o old.cells = cells_on (stage.Program page from to) at
      ∙ ap (λ (x : Option ℕ). cells_after_program_in page x old.cells) h.opens in
      let counts : map counts_of (device.blocks_after_program blocks to.block held) ≡ (once_erased first new.cells).blocks =
      programmed blocks to.block held
      ∙ (ap (λ (bs : List Block). set bs to.block (record (get_or bs to.block free_block) { filled = (get_or bs to.block free_block).filled + 1 })) a
      ∙ (ap (λ (c : Cells). c.blocks) (program_kept first page o old.cells)
      ∙ sym (ap (λ (c : Cells). (once_erased first c).blocks) same))) in
      subst (λ (x : MountCall). StandsAt old.plan first new.cells (blocks_by all held x blocks) new.stage)
      (same_Some (calls.Program to (record { page = page; serial = old.next })) call e)
      (past_stands old.plan first new.cells (device.blocks_after_program blocks to.block held) new.stage n counts)
  after_by (stage.Erase block slots) call at h a e n =
      let same : new.cells ≡ cells_after (part_of old.plan) (Some (0, does.Erase block)) old.cells = cells_on (stage.Erase block slots) at in
      let counts : map counts_of (device.blocks_after_erase_slot blocks all block) ≡ (once_erased first new.cells).blocks =
      erased old.plan blocks block
      ∙ (ap (λ (bs : List Block). set bs block (block_after_erase_slot old.plan (get_or bs block free_block))) a
      ∙ (ap (λ (c : Cells). c.blocks) (erase_kept (part_of old.plan) first block old.cells)
      ∙ sym (ap (λ (c : Cells). (once_erased first c).blocks) same))) in
      subst (λ (x : MountCall). StandsAt old.plan first new.cells (blocks_by all held x blocks) new.stage) (same_Some (calls.EraseSlot block) call e)
      (past_stands old.plan first new.cells (device.blocks_after_erase_slot blocks all block) new.stage n counts)
  after_by stage.Done call at h a e n = absurd n

  -- the part's blocks are the mount's after the call, too
  pub stands_on : (call : MountCall) → StandsAt old.plan first old.cells blocks old.stage → call_at old.next old.stage ≡ Some call
      → IsNextStage all old.stage new.stage → StandsAt new.plan first new.cells (blocks_by all held call blocks) new.stage
  stands_on call a e n =
      subst (λ (p : DiePlan). StandsAt p first new.cells (blocks_by all held call blocks) new.stage) (sym k.plan)
      (after_by old.stage call refl w.at a e n)
