-- Where the rows of each die keep its plan, the script keeps the plans of the store.
use Rattle.std.proofs.Common.{◌≡◌, ℕ, ◌<◌, ◌≤◌, List, length, Option, Some, None, Result, Ok, refl, sym, ◌∙◌, subst, arith}
use Rattle.std.specs.Prelude.{slice_get, IfSome}
use Rattle.std.proofs.lemmas.Option.{slice_get_within}
use Rattle.slot_types.specs.declared.plans.DiePlan.{DiePlan}
use Rattle.slot_types.specs.declared.refusals.Refusal.{Refusal}
use Rattle.script_texts.specs.declared.script_rows.ScriptItem.{ScriptItem}
use Rattle.task_script.specs.Feeds.{feed_of}
use Rattle.task_script.specs.PlannedRuns.{RowsKeepPlan}
use Rattle.flashplan_arrivals.specs.PlannedScripts.{IsPlannedScript}
use Rattle.flashplan_keeping.specs.Verdicts.{KeepsOn}

same_items : (a b : List ScriptItem) → ◌≡◌ {A = Result (List ScriptItem) Refusal} (Ok a) (Ok b) → a ≡ b
same_items a b e = cc

if_some : (o : Option DiePlan) (P : DiePlan → Type 0) → ((plan : DiePlan) → o ≡ Some plan → P plan) → IfSome o P
if_some None P each = tt
if_some (Some plan) P each = each plan refl

-- each die below n keeps its plan
abbrev pub KeepBelow : List DiePlan → ℕ → List ℕ → ℕ → Type 0
KeepBelow plans slots text n = (die : ℕ) → die < n → KeepsOn plans slots text die

pub all_keep : (plans : List DiePlan) (slots : ℕ) (text : List ℕ) (n : ℕ) → 1 ≤ length plans → n ≡ length plans
    → KeepBelow plans slots text n → IsPlannedScript plans slots text
all_keep plans slots text n some all each =
    let first = each 0 (omega (arith, some, all)) in
    record {
      items = first.items;
      said = first.said;
      kept = λ die. if_some (slice_get plans die) (λ plan. RowsKeepPlan plan slots (feed_of first.items die)) (λ plan at.
          let own = each die (subst (λ (m : ℕ). die < m) (sym all) (slice_get_within plans die plan at)) in
          subst (λ (items : List ScriptItem). RowsKeepPlan plan slots (feed_of items die)) (same_items own.items first.items (sym own.said ∙ first.said))
          (own.kept plan at));
    }
