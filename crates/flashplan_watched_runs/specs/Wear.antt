-- What the slots of a log wore.
use Rattle.std.specs.Prelude.{◌≡◌, ℕ, ◌<◌, ◌==◌, ◌&&◌, Bool, true, false, Some, None, is_some, length, count_by, get_or}
use Rattle.slot_types.specs.declared.events.Event.TheVariants as events
use Rattle.slot_types.specs.declared.replies.Entry.{Entry}
use Rattle.slot_types.specs.declared.replies.Reply.{Reply}
use Rattle.slot_types.specs.declared.replies.Reply.TheVariants as replies
use Rattle.slot_types.specs.declared.replies.SlotReply.{SlotReply}
use Rattle.die_log.specs.Model.Answers.{IsExact}
use Rattle.die_log.specs.Model.Log.{Log, Carried}
use Rattle.flashplan_script_runs.specs.RunningDies.{RunningDie}
use Rattle.flashplan_run_pictures.specs.Briefs.{brief_of}
use Rattle.flashplan_run_pictures.specs.declared.briefs.ActBrief.{ActBrief}
use Rattle.flashplan_run_pictures.specs.declared.briefs.Kind.{Kind}
use Rattle.flashplan_run_pictures.specs.declared.briefs.Kind.TheVariants as kind
use Rattle.flashplan_watched_runs.specs.declared.tallies.Tally.{Tally}

-- a page that a job wrote
abbrev pub is_write : Kind → Bool
is_write kind.Write = true
is_write _ = false

-- a page that a collection programmed
abbrev pub is_copy : Kind → Bool
is_copy kind.CopyProgram = true
is_copy _ = false

abbrev pub is_erase : Kind → Bool
is_erase kind.Erase = true
is_erase _ = false

-- this is so of what a slot carried, if it carried anything
abbrev pub carried_passes : (ActBrief → Bool) → Carried → Bool
carried_passes is None = false
carried_passes is (Some did) = is (brief_of did.1)

abbrev pub does_write : Reply → Bool
does_write (replies.Slot s) = carried_passes (λ brief. is_write brief.kind) s.ran
does_write _ = false

abbrev pub does_copy : Reply → Bool
does_copy (replies.Slot s) = carried_passes (λ brief. is_copy brief.kind) s.ran
does_copy _ = false

-- an erase has ended, and its collection with it
abbrev pub ends_erase : Reply → Bool
ends_erase (replies.Slot s) = is_some s.finished && carried_passes (λ brief. is_erase brief.kind) s.ran
ends_erase _ = false

-- the erase of this block has ended
abbrev pub ends_erase_of : ℕ → Reply → Bool
ends_erase_of block (replies.Slot s) = is_some s.finished && carried_passes (λ brief. is_erase brief.kind && brief.of == block) s.ran
ends_erase_of block _ = false

-- in how many slots of a log this was so
abbrev pub slots_of : (Reply → Bool) → Log → ℕ
slots_of is log = count_by (λ e. is e.reply) log

-- these are the counts of the log of a die of `blocks` blocks
pub record IsWearOf (blocks : ℕ) (log : Log) (tally : Tally) : Type 0 where
  pub all : length tally.erases.items ≡ blocks
  pub by_block : (block : ℕ) → block < blocks → get_or tally.erases.items block 0 ≡ slots_of (ends_erase_of block) log
  pub erased : tally.erased ≡ slots_of ends_erase log
  pub written : tally.written ≡ slots_of does_write log
  pub copied : tally.copied ≡ slots_of does_copy log

-- a die that ran, and the counts of what it wore
pub record Worn : Type 0 where
  pub run : RunningDie
  pub tally : Tally

-- its log is the exact answer to its calls, and the counts are those of the log
abbrev pub IsWorn : Worn → Type 0
IsWorn die = IsExact die.run.start die.run.log × IsWearOf die.run.start.plan.shape.blocks die.run.log die.tally

-- the entry of a slot of caller 0
abbrev pub slot_entry : SlotReply → Entry
slot_entry reply = record { caller = 0; event = events.Slot; reply = replies.Slot reply }
