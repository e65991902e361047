-- What is said of a run whose power goes.
use Rattle.std.specs.Prelude.{◌≡◌, ◌↔◌, ℕ, All, IsTrue, is_none, List, Option}
use Rattle.slot_types.specs.declared.plans.DiePlan.{DiePlan}
use Rattle.flashplan_power_cuts.specs.Runs.{HasTried, IsCutRun}
use Rattle.flashplan_power_cuts.specs.Said.{IsRight}
use Rattle.flashplan_power_cuts.specs.Texts.{IsCutText}
use Rattle.flashplan_power_cuts.specs.TriedTexts.{tried_text}
use Rattle.flashplan_power_cuts.specs.declared.runs.CutAt.{CutAt}
use Rattle.flashplan_power_cuts.specs.declared.runs.CutRun.{CutRun}
use Rattle.flashplan_power_cuts.specs.declared.runs.TriedRun.{TriedRun}
use Rattle.flashplan_power_cuts.specs.declared.told.Told.{Told}

-- the text is that of such a run, and whether none of its pages is wrong
pub record TellsCut (store : List DiePlan) (text : Option (List ℕ)) (slots : ℕ) (at : CutAt) (slot_us : Option ℕ) (told : Told)
    : Type 0 where
  pub run : CutRun
  pub cut : IsCutRun store text slots at.die run
  pub is_text : IsCutText at.die run at.loss.leaves slot_us told.text.items
  pub verdict : IsTrue told.right ↔ All IsRight run.pages.items

-- the text is that of cuts that were tried while the die ran the script to its end, and whether none was wrong
pub record TellsEach (store : List DiePlan) (text : Option (List ℕ)) (slots die : ℕ) (slot_us : Option ℕ) (told : Told) : Type 0 where
  pub run : TriedRun
  pub tried : HasTried store text slots die run
  pub is_text : told.text.items ≡ tried_text die run slot_us
  pub verdict : told.right ≡ is_none run.wrong
