-- A page of a design: what it holds.
use Rattle.std.specs.Prelude.{◌≡◌, ◌==◌, ◌⊎◌, ℕ, true, if◌then◌else◌, List, [], ◌∷◌, ◌++◌, flat_map, codes, None, Some, Ok}
use Rattle.slot_types.specs.declared.plans.DiePlan.{DiePlan}
use Rattle.plan_texts.specs.PlanText.{plan_of}
use Rattle.plan_texts.specs.Stores.{IsStore}
use Rattle.plan_texts.specs.declared.numbers.PlanNumbers.{PlanNumbers}
use Rattle.terms_texts.specs.Plans.{plans_in}
use Rattle.terms_texts.specs.Stores.{IsStore as IsTermsStore}
use Rattle.terms_texts.specs.TermsText.{read_numbers}
use Rattle.terms_texts.specs.declared.numbers.TermsNumbers.{TermsNumbers}
use Rattle.terms_texts.specs.declared.stores.DieTerms.{DieTerms}
use Rattle.flashplan_arrivals.specs.PlannedScripts.{IsPlannedScript}
use Rattle.flashplan_fit.specs.Fits.{IsPlanFor}
use Rattle.flashplan_terms_keeping.specs.Verdicts.{IsKeptScript}
use Rattle.flashplan_slot_times.specs.declared.units.Units.{Units}
use Rattle.flashplan_run_figures.specs.declared.lives.Life.{Life}
use Rattle.flashplan_watched_runs.specs.Runs.{IsReportOf}
use Rattle.flashplan_watched_runs.specs.declared.script_runs.Reported.{Reported}

-- a byte of a text as it stands in a page: `&`, `<`, `>` and `"` have names
abbrev pub escape : ℕ → List ℕ
escape byte = if byte == 38 then codes "&amp;"
    else if byte == 60 then codes "&lt;"
    else if byte == 62 then codes "&gt;"
    else if byte == 34 then codes "&quot;"
    else byte ∷ []

abbrev pub escaped : List ℕ → List ℕ
escaped text = flat_map escape text

-- the script is one of `slots` slots for the dies of a plan's text, and its rows keep that plan, which passes its test
pub record AsksOfTimes (plan : List ℕ) (store : List DiePlan) (slots : ℕ) (script : List ℕ) : Type 0 where
  pub numbers : PlanNumbers
  pub said : plan_of plan ≡ Ok numbers
  pub made : IsStore numbers store
  pub planned : IsPlannedScript store slots script

-- the same of a plan with terms
pub record AsksOfTerms (plan : List ℕ) (store : List DiePlan) (slots : ℕ) (script : List ℕ) : Type 0 where
  pub numbers : TermsNumbers
  pub said : read_numbers plan ≡ Ok numbers
  pub dies : List DieTerms
  pub made : IsTermsStore numbers dies
  pub plans : store ≡ plans_in dies
  pub kept : IsKeptScript dies slots script

-- the figures, as CSV, of fresh dies of these plans that ran the script and `slots` slots, on devices that fail nowhere
pub record AreFiguresOf (store : List DiePlan) (script : List ℕ) (slots : ℕ) (figures : List ℕ) : Type 0 where
  pub said : Reported
  pub life : Life
  pub units : Units
  pub ran : IsReportOf store (Some script) slots life units true None said
  pub is : figures ≡ said.text.items

-- the figures are those of a run of what the tasks of a plan's text may ask for
pub record IsRunFor (plan : List ℕ) (slots : ℕ) (figures : List ℕ) : Type 0 where
  pub store : List DiePlan
  pub script : List ℕ
  pub asks : AsksOfTimes plan store slots script ⊎ AsksOfTerms plan store slots script
  pub ran : AreFiguresOf store script slots figures

-- a page has the plan's text whole, and after it the figures of a run of it
pub record HoldsDesign (plan page : List ℕ) : Type 0 where
  pub slots : ℕ
  pub figures : List ℕ
  pub run : IsRunFor plan slots figures
  pub front : List ℕ
  pub between : List ℕ
  pub back : List ℕ
  pub is : page ≡ front ++ escaped plan ++ between ++ escaped figures ++ back

-- a page of a datasheet's text has a plan for it, which passes its test, and a run of that plan
pub record IsPageFor (sheet page : List ℕ) : Type 0 where
  pub plan : List ℕ
  pub found : IsPlanFor sheet plan
  pub holds : HoldsDesign plan page
