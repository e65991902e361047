-- When a collection begins, and what it finds.
use Rattle.std.specs.Prelude.{◌≡◌, ℕ, ◌-◌, ◌≤◌, true, Some}
use Rattle.die_log.specs.Model.Log.{Log, Job, job_at, work}
use Rattle.die_log.specs.Model.Flash.{cells, valid}
use Rattle.die_log.specs.Model.Answers.{choice, victim}
use Rattle.die_log.specs.Results.Promises.{HasSlot}
use Rattle.slot_types.specs.declared.acts.Act.{Act}
use Rattle.slot_types.specs.declared.replies.SlotReply.{SlotReply}
use Rattle.die_log.specs.Model.Start.{Start}

-- a collection that is the head of the next slot, and that had none so far
pub record BeginsNext (start : Start) (log : Log) (j : Job) : Type 0 where
  pub head : (choice start log).head ≡ Some j
  pub collects : j.collects ≡ true
  pub unbegun : work j.number log ≡ 0

-- the block is the victim, and has so few valid pages that they fit a collector's reserve
pub record IsSmallVictim (start : Start) (log : Log) (b : ℕ) : Type 0 where
  pub victim : victim start log ≡ Some b
  pub few : valid (cells start log) b ≤ start.plan.shape.pages - start.plan.alpha

-- the log has a slot, after `past`, that carried the first act of the collection
pub record HasFirstAct (log past : Log) (j : Job) : Type 0 where
  pub reply : SlotReply
  pub act : Act
  pub slot : HasSlot log reply past
  pub ran : reply.ran ≡ Some (j.number, act)
  pub known : job_at past j.number ≡ Some j
  pub collects : j.collects ≡ true
  pub unbegun : work j.number past ≡ 0
