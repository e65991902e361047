-- The checkpoints that are read back from their text.
use Rattle.std.specs.Prelude.{◌<◌, ◌≤◌, ◌^◌, ⊤, List, length, Option, Some, None, IfSome, All}
use Rattle.die_checkpoint.specs.declared.checkpoint.BlockCounts.{BlockCounts}
use Rattle.slot_types.specs.declared.pages.PageData.{PageData}
use Rattle.slot_types.specs.declared.pages.Place.{Place}
use Rattle.text_base.specs.Pages.{IsPage}
use Rattle.checkpoint_texts.specs.declared.saved.SavedDie.{SavedDie}
use Rattle.checkpoint_texts.specs.declared.saved.SavedPage.{SavedPage}

abbrev pub IsPlace : Place → Type 0
IsPlace place = (place.block < 2 ^ 32) × (place.page < 2 ^ 32)

-- bytes are kept only of a page that lies in a cell
abbrev pub HasBytes : Option Place → Option PageData → Type 0
HasBytes place None = ⊤
HasBytes None (Some page) = ⊥
HasBytes (Some place) (Some page) = IsPage page

pub record IsSavedPage (page : SavedPage) : Type 0 where
  pub place : IfSome page.place IsPlace
  pub bytes : HasBytes page.place page.bytes

abbrev pub IsBlock : BlockCounts → Type 0
IsBlock block = (block.filled < 2 ^ 32) × (block.erases < 2 ^ 32)

-- a die of a shape within the limits, with numbers that fit 32 bits
pub record IsSavedDie (die : SavedDie) : Type 0 where
  pub few_pages : length die.pages ≤ 262144
  pub few_blocks : length die.blocks ≤ 1024
  pub few_tasks : length die.balances ≤ 16
  pub pages : All IsSavedPage die.pages
  pub blocks : All IsBlock die.blocks
  pub balances : All (λ n. n < 2 ^ 32) die.balances
  pub spare : die.spare < 2 ^ 32

-- one to eight dies
pub record IsStore (store : List SavedDie) : Type 0 where
  pub some : 0 < length store
  pub few : length store ≤ 8
  pub dies : All IsSavedDie store
