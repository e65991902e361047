-- A fresh die may start a log.
use Rattle.std.proofs.Common.{◌≡◌, ℕ, inl, inr, arith, get_or, replicate, ap}
use Rattle.std.proofs.lemmas.Bool.{cases_lt}
use Rattle.std.proofs.lemmas.List.{length-replicate, get_or-replicate, get_or_past}
use Rattle.slot_types.specs.declared.plans.DiePlan.{DiePlan}
use Rattle.slot_types.specs.declared.pages.PageData.{PageData}
use Rattle.slot_types.specs.declared.plans.Times.{Times}
use Rattle.plan_rules.specs.Bound.{MeetsBound}
use Rattle.die_log.specs.Model.Start.{Block, fresh, fresh_cells, free_block, blank_page}
use Rattle.die_log.specs.Model.Flash.{block_at}
use Rattle.die_log.specs.Model.Opening.{IsOpening}
use Rattle.die_log.specs.Results.Supply.{AreStocked}
use Rattle.die_log.proofs.Cells.Steps.{fresh_sound, fresh_idle}
use Rattle.die_log.proofs.Tokens.Opening.{agree_opening}

blank_at : (n page : ℕ) → get_or (replicate n blank_page) page blank_page ≡ blank_page
blank_at n page = elim (cases_lt page n) [
  | inl below ↦ get_or-replicate n page blank_page blank_page below
  | inr past ↦ get_or_past (replicate n blank_page) page blank_page (omega (arith, past, length-replicate {A = PageData} n blank_page))
]

no_erases : (n b : ℕ) → (get_or (replicate n free_block) b free_block).erases ≡ 0
no_erases n b = elim (cases_lt b n) [
  | inl below ↦ ap (λ (s : Block). s.erases) (get_or-replicate n b free_block free_block below)
  | inr past ↦ ap (λ (s : Block). s.erases) (get_or_past (replicate n free_block) b free_block (omega (arith, past, length-replicate n free_block)))
]

pub fresh_erases : (plan : DiePlan) (b : ℕ) → (block_at (fresh_cells plan) b).erases ≡ 0
fresh_erases plan b = no_erases plan.shape.blocks b

pub fresh_opens : (plan : DiePlan) → MeetsBound plan → IsOpening (fresh plan)
fresh_opens plan bound = record {
  bound = bound;
  sound = fresh_sound plan;
  idle = fresh_idle plan;
  agree = agree_opening plan bound;
  pages = length-replicate plan.logical blank_page;
  blank = λ page none. blank_at plan.logical page;
}

pub fresh_stocked : (plan : DiePlan) (times : Times) → AreStocked (fresh plan) times
fresh_stocked plan times task lt = omega arith
