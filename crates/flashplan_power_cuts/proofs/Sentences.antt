-- What is said of a run is its text, and whether it is right.
use Rattle.std.proofs.Common.{◌≡◌, ◌↔◌, ℕ, None, Option, List}
use Rattle.std.specs.Prelude.{◌++◌, [], All, IsTrue, is_none}
use Rattle.slot_types.specs.declared.plans.DiePlan.{DiePlan}
use Rattle.flashplan_labelled_parts.specs.declared.cuts.Leaves.{Leaves}
use Rattle.flashplan_power_cuts.specs.CutDies.{Cutting}
use Rattle.flashplan_power_cuts.specs.Runs.{HasTried, IsCutRun, RanCutting}
use Rattle.flashplan_power_cuts.specs.Said.{IsRight}
use Rattle.flashplan_power_cuts.specs.Texts.{IsCutText, cut_text}
use Rattle.flashplan_power_cuts.specs.Told.{TellsCut, TellsEach}
use Rattle.flashplan_power_cuts.specs.TriedTexts.{tried_text}
use Rattle.flashplan_power_cuts.specs.declared.erasing.InErase.{InErase}
use Rattle.flashplan_power_cuts.specs.declared.runs.CutAt.{CutAt}
use Rattle.flashplan_power_cuts.specs.declared.runs.CutRun.{CutRun}
use Rattle.flashplan_power_cuts.specs.declared.runs.TriedRun.{TriedRun}
use Rattle.flashplan_power_cuts.specs.declared.told.Told.{Told}

pub is_cut_text : (die : ℕ) (run : CutRun) (left : Leaves) (slot_us : Option ℕ) (slot : ℕ) (erasing : List InErase) (text : List ℕ)
    → text ≡ [] ++ cut_text die run left slot_us slot erasing → IsCutText die run left slot_us text
is_cut_text die run left slot_us slot erasing text is = record { slot = slot; erasing = erasing; is = is }

pub tells_cut : (store : List DiePlan) (text : Option (List ℕ)) (slots : ℕ) (at : CutAt) (slot_us : Option ℕ) (told : Told) (run : CutRun)
    → IsCutRun store text slots at.die run → IsCutText at.die run at.loss.leaves slot_us told.text.items
    → (IsTrue told.right ↔ All IsRight run.pages.items) → TellsCut store text slots at slot_us told
tells_cut store text slots at slot_us told run cut is_text verdict =
    record { run = run; cut = cut; is_text = is_text; verdict = verdict }

pub has_tried : (store : List DiePlan) (text : Option (List ℕ)) (slots number : ℕ) (run : TriedRun) (die : Cutting)
    → RanCutting store text slots number run.refused die → die.ended ≡ None → HasTried store text slots number run
has_tried store text slots number run die ran whole = record { die = die; ran = ran; whole = whole }

pub tells_each : (store : List DiePlan) (text : Option (List ℕ)) (slots die : ℕ) (slot_us : Option ℕ) (told : Told) (run : TriedRun)
    → HasTried store text slots die run → told.text.items ≡ tried_text die run slot_us → told.right ≡ is_none run.wrong
    → TellsEach store text slots die slot_us told
tells_each store text slots die slot_us told run tried is_text verdict =
    record { run = run; tried = tried; is_text = is_text; verdict = verdict }
