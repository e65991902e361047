-- A die's serial is the number of its next program.
use Rattle.std.proofs.Common.{◌≡◌, ℕ, ◌+◌, ◌<◌, ◌^◌, Bool, true, false, cond, List, Option, Some, None, refl, ap, sym, ◌∙◌, subst, arith}
use Rattle.std.specs.Prelude.{option_map}
use Rattle.slot_types.specs.Places.{place_of}
use Rattle.slot_types.specs.declared.acts.Act.TheVariants as does
use Rattle.slot_types.specs.declared.events.Event.TheVariants as events
use Rattle.slot_types.specs.declared.pages.PageData.{PageData}
use Rattle.slot_types.specs.declared.pages.Place.{Place}
use Rattle.slot_types.specs.declared.plans.DiePlan.{DiePlan}
use Rattle.slot_types.specs.declared.replies.Reply.{Reply}
use Rattle.slot_types.specs.declared.replies.SlotReply.{SlotReply}
use Rattle.flash_die.specs.Memory.{Memory}
use Rattle.flash_die.specs.declared.nand.NandCall.TheVariants as needs
use Rattle.die_checkpoint.specs.declared.checkpoint.Checkpoint.{Checkpoint}
use Rattle.die_log.specs.Model.Answers.{answer}
use Rattle.die_log.specs.Model.Flash.{Cells, block_at, cells, content, contents, open_block, ran_by}
use Rattle.die_log.specs.Model.Log.{Carried, Log}
use Rattle.die_log.specs.Model.Start.{Start, fresh}
use Rattle.power_loss.specs.Labels.{IsLabelled, Labels, Shown, labels, labels_after, labels_after_program}
use Rattle.power_loss.proofs.Opening.{fresh_labelled, none_at}
use Rattle.slot_core.specs.NextSlot.{next_by, next_slot}
use Rattle.stepped_die.specs.declared.calls.Call.{Call}
use Rattle.stepped_die.specs.declared.part.Part.{Part}
use Rattle.stepped_die.specs.DeviceCalls.{call_reported, reported_by}
use Rattle.stepped_die.specs.Names.{GoesOn}
use Rattle.stepped_die.specs.Numbered.{NumbersPrograms, first_labels}
use Rattle.stepped_die.specs.Parts.{serial_after}
use Rattle.stepped_die.specs.Stepped.{IsStepped, Stepped, mirror_of}
use Rattle.stepped_die.specs.Steps.{HasEnded, IsNew}
use Rattle.stepped_die.proofs.Ending.{present_of}

-- a read is no program
read_none : (device : Memory) (o : Option Place) (n : ℕ) → serial_after (call_reported device (option_map (λ place. needs.Read place) o)) n ≡ n
read_none device None n = refl
read_none device (Some place) n = refl

-- a program, where a page is free for it
program_one : (device : Memory) (b : Option ℕ) (c : Cells) (page : ℕ) (bytes kept : PageData) (l : Labels) → l.next + 1 < 2 ^ 64
    → serial_after (call_reported device (option_map (λ place. needs.Program place (Some page) bytes)
    (option_map (λ b. record { block = b; page = (block_at c b).filled }) b))) l.next
    ≡ (labels_after_program page kept b l).next
program_one device None c page bytes kept l room = refl
program_one device (Some b) c page bytes kept l room = omega (arith, room)

-- an erase has no label
erase_none : (t : Bool) (l : Labels) (blocks : Shown) → l.next ≡ (cond t (record l { blocks = blocks }) l).next
erase_none true l blocks = refl
erase_none false l blocks = refl

pub by_act : (device : Memory) (start : Start) (past : Log) (l : Labels) → l.next + 1 < 2 ^ 64 → (ran : Carried)
    → serial_after (reported_by device (next_by start past ran)) l.next
    ≡ (labels_after start.plan (cells start past) (contents start past) ran l).next
by_act device start past l room None = refl
by_act device start past l room (Some (n, does.Read page bytes)) = read_none device (place_of (cells start past).places page) l.next
by_act device start past l room (Some (n, does.Write page bytes)) =
    program_one device (open_block start.plan (cells start past)) (cells start past) page bytes bytes l room
by_act device start past l room (Some (n, does.Trim page)) = refl
by_act device start past l room (Some (n, does.CopyRead page)) = read_none device (place_of (cells start past).places page) l.next
by_act device start past l room (Some (n, does.CopyProgram page)) =
    program_one device (open_block start.plan (cells start past)) (cells start past) page (content start past page) (content start past page) l room
by_act device start past l room (Some (n, does.Erase block)) = erase_none _ l _

module _ (first : Labels) (before after : Stepped) (s : IsStepped before) where
  start : Start
  start = before.core.start

  pub numbers_on : (h : Bool) (bytes : PageData) (reply : SlotReply) → HasEnded h bytes reply before after → before.part.serial + 1 < 2 ^ 64
      → NumbersPrograms first before → NumbersPrograms first after
  numbers_on ok bytes reply h room is =
      let l : Labels = labels before.core.start first before.core.log in
      let p = present_of before.core before.begun h.begun h.held s.present in
      ap (λ (x : Part). x.serial) h.serial
      ∙ (ap (λ (call : Option Call). serial_after call before.part.serial) p.call_is
      ∙ (ap (serial_after (reported_by (mirror_of before.core) (next_slot before.core.start before.core.log))) is
      ∙ (by_act (mirror_of before.core) before.core.start before.core.log l (omega (arith, room, is)) (ran_by (answer before.core.start before.core.log events.Slot))
      ∙ (ap (λ (r : Reply). (labels_after before.core.start.plan (cells before.core.start before.core.log) (contents before.core.start before.core.log) (ran_by r) l).next)
      h.carried.answered
      ∙ (ap (λ (log : Log). (labels before.core.start first log).next) (sym h.carried.logged)
      ∙ ap (λ (x : Start). (labels x first after.core.log).next) (sym h.start_stays))))))

-- a fresh die
pub first_labelled : (plan : DiePlan) → IsLabelled (fresh plan) (first_labels plan)
first_labelled plan =
    let f = fresh_labelled plan in record {
      labelled = record {
        fit = f.labelled.fit;
        blocks = f.labelled.blocks;
        filled = f.labelled.filled;
        below = λ q x e. absurd (none_at plan.shape.blocks q x e);
        newest = f.labelled.newest;
      };
      bytes = f.bytes;
    }

pub fresh_numbers : (plan : DiePlan) (die : Stepped) → IsNew plan die
    → IsLabelled die.core.start (first_labels plan) × NumbersPrograms (first_labels plan) die
fresh_numbers plan die n = (
  subst (λ (x : Start). IsLabelled x (first_labels plan)) (sym n.start) (first_labelled plan),
  ap (λ (x : Part). x.serial) n.part ∙ sym (ap (λ (log : Log). (labels die.core.start (first_labels plan) log).next) n.log),
)

-- a die that was resumed with its serial
pub resumed_numbers : (first : Labels) (plan : DiePlan) (c : Checkpoint) (names : List PageData) (die : Stepped) → GoesOn plan c names die
    → die.part.serial ≡ first.next → NumbersPrograms first die
resumed_numbers first plan c names die on is = is ∙ sym (ap (λ (log : Log). (labels die.core.start first log).next) on.log)
