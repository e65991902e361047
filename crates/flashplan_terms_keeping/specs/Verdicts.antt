-- What is reported of a script, by the plans with terms of its dies.
use Rattle.std.specs.Prelude.{◌≡◌, ℕ, ◌<◌, List, length, Ok, Some, IfSome, slice_get}
use Rattle.demand_keeping.specs.Breaches.{IsFirstBreach}
use Rattle.demand_keeping.specs.declared.keeping.Breach.{Breach}
use Rattle.demand_rules.specs.Keeping.{KeepsDemandPlan}
use Rattle.script_texts.specs.Script.{script_of}
use Rattle.script_texts.specs.declared.script_rows.ScriptItem.{ScriptItem}
use Rattle.task_script.specs.Feeds.{feed_of}
use Rattle.task_script.specs.PlannedRuns.{events_of_rows}
use Rattle.terms_texts.specs.declared.stores.DieTerms.{DieTerms}
use Rattle.flashplan_terms_keeping.specs.declared.verdicts.Verdict.{Verdict}
use Rattle.flashplan_terms_keeping.specs.declared.verdicts.Verdict.TheVariants as verdict

-- the events that the rows of a die make keep its plan
abbrev pub RowsKeepTerms : DieTerms → ℕ → List ScriptItem → Type 0
RowsKeepTerms made slots rows = KeepsDemandPlan made.plan made.terms (events_of_rows slots rows)

-- the text is a script for the dies of a store and `slots` slots, and the rows of each die keep its plan
pub record IsKeptScript (store : List DieTerms) (slots : ℕ) (text : List ℕ) : Type 0 where
  pub items : List ScriptItem
  pub said : script_of (length store) slots text ≡ Ok items
  pub kept : (die : ℕ) → IfSome (slice_get store die) (λ made. RowsKeepTerms made slots (feed_of items die))

-- the text is such a script, and the rows of this die don't keep its plan: this is the first condition that doesn't hold of
-- the events that they make
pub record IsBrokenScript (store : List DieTerms) (slots : ℕ) (text : List ℕ) (die : ℕ) (breach : Breach) : Type 0 where
  pub items : List ScriptItem
  pub said : script_of (length store) slots text ≡ Ok items
  pub made : DieTerms
  pub there : slice_get store die ≡ Some made
  pub unkept : ¬ RowsKeepTerms made slots (feed_of items die)
  pub broken : IsFirstBreach made.plan made.terms (events_of_rows slots (feed_of items die)) breach

-- it is, and the rows of this die keep its plan
pub record KeepsOn (store : List DieTerms) (slots : ℕ) (text : List ℕ) (die : ℕ) : Type 0 where
  pub items : List ScriptItem
  pub said : script_of (length store) slots text ≡ Ok items
  pub kept : (made : DieTerms) → slice_get store die ≡ Some made → RowsKeepTerms made slots (feed_of items die)

-- and so do those of each die below this one
abbrev pub KeepsBelow : List DieTerms → ℕ → List ℕ → ℕ → Type 0
KeepsBelow store slots text n = (die : ℕ) → die < n → KeepsOn store slots text die

-- what a verdict says
abbrev pub Says : List DieTerms → ℕ → List ℕ → Verdict → Type 0
Says store slots text verdict.Kept = IsKeptScript store slots text
Says store slots text (verdict.Broken b) = IsBrokenScript store slots text b.die b.breach × KeepsBelow store slots text b.die
