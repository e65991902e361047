-- Which plans are accepted.
use Rattle.std.specs.Prelude.{◌≡◌, ℕ, List, Ok}
use Rattle.plan_texts.specs.PlanText.{plan_of}
use Rattle.plan_texts.specs.Stores.{IsShaped, HasUsableDies}
use Rattle.plan_texts.specs.declared.numbers.PlanNumbers.{PlanNumbers}

-- the text is that of a plan whose numbers make a store
pub record IsAccepted (text : List ℕ) : Type 0 where
  pub plan : PlanNumbers
  pub said : plan_of text ≡ Ok plan
  pub shaped : IsShaped plan.top
  pub served : HasUsableDies plan
