-- Where the log of a die starts: its plan, and what its pages, cells and accounts are then.
use Rattle.std.specs.Prelude.{ℕ, List, Option, None, replicate}
use Rattle.slot_types.specs.declared.plans.DiePlan.{DiePlan}
use Rattle.slot_types.specs.declared.pages.PageData.{PageData}
use Rattle.slot_types.specs.declared.pages.Place.{Place}
use Rattle.plan_rules.specs.Accounts.{Accounts, opening_accounts}

-- a page that was never written, or was trimmed since
abbrev pub blank_page : PageData
blank_page = record { 0 = replicate 16 255 }

-- a block: how many of its pages are programmed, how many slots its running erase has had, how many erases it has had
pub record Block : Type 0 where
  pub filled : ℕ
  pub erasing : ℕ
  pub erases : ℕ

-- the blocks, and by logical page the cell that its last program filled, if it wasn't trimmed since
pub record Cells : Type 0 where
  pub blocks : List Block
  pub places : List (Option Place)

-- a wholly free block that was never erased
abbrev pub free_block : Block
free_block = record { filled = 0; erasing = 0; erases = 0 }

abbrev pub fresh_cells : DiePlan → Cells
fresh_cells plan = record { blocks = replicate plan.shape.blocks free_block; places = replicate plan.logical None }

-- a die's plan, and what stood when its log began
pub record Start : Type 0 where
  pub plan : DiePlan
  pub contents : List PageData
  pub cells : Cells
  pub accounts : Accounts

-- a die on which nothing was written
abbrev pub fresh : DiePlan → Start
fresh plan = record {
  plan = plan;
  contents = replicate plan.logical blank_page;
  cells = fresh_cells plan;
  accounts = opening_accounts plan;
}

-- the same state, over this plan
abbrev pub over : DiePlan → Start → Start
over plan start = record start { plan = plan }
