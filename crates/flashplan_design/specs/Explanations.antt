-- What is said of a plan's text, whole.
use Rattle.std.specs.Prelude.{◌≡◌, ◌↔◌, ◌⊎◌, ℕ, List, [], ◌++◌, All, codes, take, Bool, IsTrue, MatchBool, IfOk, Option}
use Rattle.slot_types.specs.Texts.{refusal_text}
use Rattle.slot_types.specs.declared.refusals.Refusal.{Refusal}
use Rattle.plan_texts.specs.PlanText.{plan_of}
use Rattle.plan_texts.specs.Stores.{RefusesPlan}
use Rattle.plan_texts.specs.declared.numbers.PlanNumbers.{PlanNumbers}
use Rattle.flashplan_design.specs.AcceptedPlans.{IsAccepted}
use Rattle.flashplan_design.specs.Alphas.{IsRow, rows_text}
use Rattle.flashplan_design.specs.Changes.{AreRanked, changes_text}
use Rattle.flashplan_design.specs.Findings.{IsSo, findings_text}
use Rattle.flashplan_design.specs.declared.alphas.AlphaRow.{AlphaRow}
use Rattle.flashplan_design.specs.declared.changes.Change.{Change}
use Rattle.flashplan_design.specs.declared.findings.Finding.{Finding}

-- what is said first: that the plan is accepted, or as what it is refused
abbrev pub IsVerdict : List ℕ → List ℕ → Type 0
IsVerdict plan line = (IsAccepted plan × (line ≡ codes "The plan is accepted.\n"))
    ⊎ ((refusal : Refusal) × (RefusesPlan (plan_of plan) refusal × (line ≡ codes "The plan is refused: " ++ refusal_text refusal ++ codes ".\n")))

-- with which numbers a plan would do, one at a time; what each alpha comes to with the numbers that go with it; and, of a
-- plan that is refused, the changes that these findings name, the cheapest first
pub record AreFound (plan : PlanNumbers) (is_accepted : Bool) (findings : List Finding) (rows : List AlphaRow) (changes : List Change) : Type 0 where
  pub so : All (IsSo plan) findings
  pub rows_so : All (IsRow plan) rows
  pub ranked : MatchBool is_accepted (changes ≡ []) (AreRanked plan findings changes)

-- how it is said, of the changes at most ten; a number of slots is followed by its time, where it is known how many us a
-- slot takes
abbrev pub found_text : Option ℕ → List Finding → List AlphaRow → List Change → List ℕ
found_text us findings rows changes = findings_text us findings ++ rows_text us rows ++ changes_text us (take 10 changes)

-- a text says first whether the plan is accepted, and last what was found of it, if it is a plan's; and all that was found
-- holds
pub record IsExplanation (slot_us : Option ℕ) (plan text : List ℕ) : Type 0 where
  pub verdict : List ℕ
  pub judged : IsVerdict plan verdict
  pub figures : List ℕ
  pub is_accepted : Bool
  pub accepted : IsTrue is_accepted ↔ IsAccepted plan
  pub findings : List Finding
  pub rows : List AlphaRow
  pub changes : List Change
  pub said : text ≡ (verdict ++ figures) ++ found_text slot_us findings rows changes
  pub found : IfOk (plan_of plan) (λ numbers. AreFound numbers is_accepted findings rows changes)
