-- What a slot's call leaves of a device's labels is what the log leaves of its own.
use Rattle.std.proofs.Common.{◌≡◌, ℕ, ◌+◌, ◌<◌, ◌^◌, ◌==◌, Bool, true, cond, List, [], Option, Some, None, option_map, arith, refl, ap, sym, ◌∙◌, map}
use Rattle.std.specs.Prelude.{slice_index_or, slice_set, Ok}
use Rattle.slot_types.specs.Places.{place_of}
use Rattle.slot_types.specs.declared.acts.Act.TheVariants as does
use Rattle.slot_types.specs.declared.events.Event.{Event}
use Rattle.slot_types.specs.declared.events.Event.TheVariants as events
use Rattle.slot_types.specs.declared.pages.PageData.{PageData}
use Rattle.slot_types.specs.declared.pages.Place.{Place}
use Rattle.slot_types.specs.declared.plans.Shape.{Shape}
use Rattle.slot_types.specs.declared.replies.Reply.{Reply}
use Rattle.flash_die.specs.Flash as device
use Rattle.flash_die.specs.declared.nand.NandCall.{NandCall}
use Rattle.flash_die.specs.declared.nand.NandCall.TheVariants as calls
use Rattle.die_log.specs.Model.Answers.{answer}
use Rattle.die_log.specs.Model.Flash.{Block, Cells, block_at, cells, contents, free_block, open_block, ran_by}
use Rattle.die_log.specs.Model.Log.{Carried, Log}
use Rattle.die_log.specs.Model.NeededCalls.{call_by, needed_call}
use Rattle.die_log.specs.Model.Start.{Start}
use Rattle.labelled_nand.specs.Calls.{labels_after_call, serial_after}
use Rattle.power_loss.specs.Labels.{Labels, labels, labels_after, labels_after_program}
use Rattle.slot_core.specs.Calls.{HasEntered, IsCall}
use Rattle.slot_core.specs.Core.{Core}
use Rattle.slot_core.specs.Device.{counts_of}
use Rattle.slot_core.specs.Needs.{IsOnlyCall}
use Rattle.slot_core.proofs.Flashing.{counted}
use Rattle.labelled_die.specs.Labelled.{HasLabels, labels_by}

-- The call and the act

erasing_is : (blocks : List device.Block) (c : Cells) (b : ℕ) → map counts_of blocks ≡ c.blocks
    → (device.block_at blocks b).erasing ≡ (block_at c b).erasing
erasing_is blocks c b are =
    ap (λ (s : Block). s.erasing) (counted blocks b) ∙ ap (λ (bs : List Block). (slice_index_or bs b free_block).erasing) are

read_none : (slots : ℕ) (blocks : List device.Block) (o : Option Place) (l : Labels)
    → labels_by slots blocks (option_map (λ place. calls.Read place) o) l ≡ l
read_none slots blocks None l = refl
read_none slots blocks (Some place) l = refl

one_more : (n : ℕ) → n + 1 < 2 ^ 64 → serial_after n ≡ n + 1
one_more n room = omega (arith, room)

program_one : (slots : ℕ) (blocks : List device.Block) (c : Cells) (b : Option ℕ) (page : ℕ) (bytes : PageData) (l : Labels) → l.next + 1 < 2 ^ 64
    → labels_by slots blocks (option_map (λ place. calls.Program place (Some page) bytes)
    (option_map (λ b. record { block = b; page = (block_at c b).filled }) b)) l
    ≡ labels_after_program page bytes b l
program_one slots blocks c None page bytes l room = refl
program_one slots blocks c (Some b) page bytes l room =
    ap (λ (n : ℕ). record (labels_after_program page bytes (Some b) l) { next = n }) (one_more l.next room)

erase_slot : (slots : ℕ) (b n m : ℕ) (l : Labels) → n ≡ m
    → cond (n + 1 == slots) (record l { blocks = slice_set l.blocks b [] }) l
    ≡ cond (m + 1 == slots) (record l { blocks = slice_set l.blocks b [] }) l
erase_slot slots b n m l same = ap (λ (k : ℕ). cond (k + 1 == slots) (record l { blocks = slice_set l.blocks b [] }) l) same

by_act : (start : Start) (past : Log) (blocks : List device.Block) (l : Labels) → l.next + 1 < 2 ^ 64 → map counts_of blocks ≡ (cells start past).blocks
    → (ran : Carried) → labels_by start.plan.shape.erase_slots blocks (call_by start past ran) l
    ≡ labels_after start.plan (cells start past) (contents start past) ran l
by_act start past blocks l room are None = refl
by_act start past blocks l room are (Some (n, does.Read page bytes)) =
    read_none start.plan.shape.erase_slots blocks (place_of (cells start past).places page) l
by_act start past blocks l room are (Some (n, does.Write page bytes)) =
    program_one start.plan.shape.erase_slots blocks (cells start past) (open_block start.plan (cells start past)) page bytes l room
by_act start past blocks l room are (Some (n, does.Trim page)) = refl
by_act start past blocks l room are (Some (n, does.CopyRead page)) =
    read_none start.plan.shape.erase_slots blocks (place_of (cells start past).places page) l
by_act start past blocks l room are (Some (n, does.CopyProgram page)) =
    program_one start.plan.shape.erase_slots blocks (cells start past) (open_block start.plan (cells start past)) page _ l room
by_act start past blocks l room are (Some (n, does.Erase block)) =
    erase_slot start.plan.shape.erase_slots block _ _ l (erasing_is blocks (cells start past) block are)

pub labels_as_log : (start : Start) (log : Log) (blocks : List device.Block) (l : Labels) → l.next + 1 < 2 ^ 64
    → map counts_of blocks ≡ (cells start log).blocks
    → labels_by start.plan.shape.erase_slots blocks (needed_call start log) l
    ≡ labels_after start.plan (cells start log) (contents start log) (ran_by (answer start log events.Slot)) l
labels_as_log start log blocks l room are = by_act start log blocks l room are (ran_by (answer start log events.Slot))

-- A die

module _ {N : Type 0} (ends : N → NandCall → Bool → N → Type 0) (shape_of : N → Shape) (blocks_of : N → List device.Block) (labels_of : N → Labels)
    (follows : (before after : N) (call : NandCall) → ends before call true after
    → labels_of after ≡ labels_after_call (shape_of before).erase_slots (blocks_of before) call (labels_of before)) where
  by_call : (before after : N) (needed : Option NandCall) → IsOnlyCall ends needed true before after
      → labels_of after ≡ labels_by (shape_of before).erase_slots (blocks_of before) needed (labels_of before)
  by_call before after None made = ap labels_of made
  by_call before after (Some call) made = follows before after call made

  pub slot_keeps : (failures : N → ℕ) (never : Bool) (first : Labels) (caller : ℕ) (reply : Reply) (before after : Core N)
      → shape_of before.device ≡ before.start.plan.shape
      → map counts_of (blocks_of before.device) ≡ (cells before.start before.log).blocks
      → (labels_of before.device).next + 1 < 2 ^ 64
      → IsCall ends failures never caller events.Slot (Ok reply) before after → HasLabels labels_of first before
      → HasLabels labels_of first after
  slot_keeps failures never first caller reply before after shape are room call is =
      by_call before.device after.device (needed_call before.start before.log) call.device.made
      ∙ (ap (λ (s : Shape). labels_by s.erase_slots (blocks_of before.device) (needed_call before.start before.log) (labels_of before.device)) shape
      ∙ (labels_as_log before.start before.log (blocks_of before.device) (labels_of before.device) room are
      ∙ (ap (λ (r : Reply). labels_after before.start.plan (cells before.start before.log) (contents before.start before.log) (ran_by r)
      (labels_of before.device)) call.ended.answered
      ∙ (ap (labels_after before.start.plan (cells before.start before.log) (contents before.start before.log) (ran_by reply)) is
      ∙ (ap (labels before.start first) (sym call.ended.logged)
      ∙ ap (λ (x : Start). labels x first after.log) (sym call.start_stays))))))

  pub arrival_keeps : (first : Labels) (caller : ℕ) (event : Event) (number : ℕ) (before after : Core N)
      → HasEntered caller event number before after → HasLabels labels_of first before → HasLabels labels_of first after
  arrival_keeps first caller event number before after entered is = rw entered.logged is
