-- What holds of each die holds of all of them.
use Rattle.std.proofs.Common.{◌≡◌, ℕ, suc, ◌+◌, ◌<◌, ◌≤◌, ◌⊎◌, List, [], ◌∷◌, refl, ap, sym, ◌∙◌, subst, length, arith}
use Rattle.std.proofs.Common.{inl, inr, Option, Some, None, Result, Ok}
use Rattle.std.specs.Prelude.{slice_get, IfSome, IsSomeAnd}
use Rattle.std.specs.List.{AllZip}
use Rattle.std.proofs.lemmas.Option.{slice_get_within}
use Rattle.slot_types.specs.declared.events.Event.{Event}
use Rattle.slot_types.specs.declared.plans.DiePlan.{DiePlan}
use Rattle.slot_types.specs.declared.plans.Times.{Times}
use Rattle.slot_types.specs.declared.refusals.Refusal.{Refusal}
use Rattle.plan_rules.specs.Times.{Passes}
use Rattle.plan_rules.specs.Keeping.{KeepsPlan}
use Rattle.script_texts.specs.Script.{script_of}
use Rattle.script_texts.specs.declared.script_rows.ScriptItem.{ScriptItem}
use Rattle.task_script.specs.DieRuns.{DieRun}
use Rattle.task_script.specs.Feeds.{feed_of}
use Rattle.task_script.specs.PlannedRuns.{AreAsPlanned, RowsGoAsPlanned, RowsKeepPlan, events_of_rows}
use Rattle.flashplan_arrivals.proofs.Carrying.{order}
use Rattle.flashplan_arrivals.specs.PlannedScripts.{AreEventsOf, AreKept, IsPlannedScript}

-- One die

both : (plan : DiePlan) (events : List Event) (times : Option Times) → IsSomeAnd times (Passes plan)
    → IsSomeAnd times (λ t. KeepsPlan plan t events) → AreKept plan events
both plan events None passes keeps = absurd passes
both plan events (Some t) passes keeps = record { times = t; passes = passes; keeps = keeps }

pub kept_by : (plan : DiePlan) (events : List Event) → IsSomeAnd plan.times (Passes plan)
    → IsSomeAnd plan.times (λ t. KeepsPlan plan t events) → AreKept plan events
kept_by plan events passes keeps = both plan events plan.times passes keeps

die_keeps : (plan : DiePlan) (slots : ℕ) (items : List ScriptItem) (events : List Event) → events ≡ events_of_rows slots items
    → AreKept plan events → RowsKeepPlan plan slots items
die_keeps plan slots items events is kept = record {
  times = kept.times;
  passes = kept.passes;
  keeps = subst (KeepsPlan plan kept.times) is
      kept.keeps;
}

-- The dies up to one

-- the script was read, unless no die was looked at, and the rows of the first dies keep their plans
pub record KeepBelow (plans : List DiePlan) (slots : ℕ) (text : List ℕ) (count : ℕ) : Type 0 where
  pub read : 1 ≤ count → (items : List ScriptItem) × (script_of (length plans) slots text ≡ Ok items)
  pub kept : (items : List ScriptItem) → script_of (length plans) slots text ≡ Ok items
      → (die : ℕ) (plan : DiePlan) → die < count → slice_get plans die ≡ Some plan → RowsKeepPlan plan slots (feed_of items die)

pub none_kept : (plans : List DiePlan) (slots : ℕ) (text : List ℕ) → KeepBelow plans slots text 0
none_kept plans slots text = record {
  read = λ none. absurd (omega arith);
  kept = λ items said die plan below at. absurd (omega arith);
}

same_items : (a b : List ScriptItem) → ◌≡◌ {A = Result (List ScriptItem) Refusal} (Ok a) (Ok b) → a ≡ b
same_items a b e = cc

same_plan : (a b : DiePlan) → ◌≡◌ {A = Option DiePlan} (Some a) (Some b) → a ≡ b
same_plan a b e = cc

pub one_more_kept : (plans : List DiePlan) (slots : ℕ) (text : List ℕ) (count : ℕ) (own : DiePlan) (events : List Event)
    → slice_get plans count ≡ Some own
    → AreEventsOf (Some text) (length plans) slots count events → AreKept own events → KeepBelow plans slots text count
    → KeepBelow plans slots text (count + 1)
one_more_kept plans slots text count own events at of kept h = record {
  read = λ some. (of.0, of.1);
  kept = λ items said die plan below at_die. elim (last die below) [
    | inl e ↦ h.kept items said die plan e at_die
    | inr e ↦ subst (λ d. RowsKeepPlan plan slots (feed_of items d)) (sym e)
        (own_kept items said plan (sym (ap (slice_get plans) e) ∙ at_die))
  ];
}
  where
    last : (die : ℕ) → die < count + 1 → (die < count) ⊎ (die ≡ count)
    last die below = elim (order (suc die) count) [ inl h ↦ inl (omega arith) | inr h ↦ inr (omega arith) ]

    own_kept : (items : List ScriptItem) → script_of (length plans) slots text ≡ Ok items → (plan : DiePlan) → slice_get plans count
        ≡ Some plan → RowsKeepPlan plan slots (feed_of items count)
    own_kept items said plan here =
        subst (λ (p : DiePlan). RowsKeepPlan p slots (feed_of items count)) (same_plan own plan (sym at ∙ here))
        (die_keeps own slots (feed_of items count) events (of.2
        ∙ ap (λ (l : List ScriptItem). events_of_rows slots (feed_of l count)) (same_items of.0 items (sym of.1 ∙ said))) kept)

each_kept : (plans : List DiePlan) (slots : ℕ) (items : List ScriptItem) (die : ℕ) (o : Option DiePlan) → slice_get plans die ≡ o
    → ((plan : DiePlan) → die < length plans → slice_get plans die ≡ Some plan → RowsKeepPlan plan slots (feed_of items die))
    → IfSome o (λ plan. RowsKeepPlan plan slots (feed_of items die))
each_kept plans slots items die None at h = tt
each_kept plans slots items die (Some plan) at h = h plan (slice_get_within plans die plan at) at

pub all_kept : (plans : List DiePlan) (slots : ℕ) (text : List ℕ) (count : ℕ) → 1 ≤ length plans → count ≡ length plans
    → KeepBelow plans slots text count → IsPlannedScript plans slots text
all_kept plans slots text count some all h =
    let found = h.read (omega arith) in
    record {
      items = found.0;
      said = found.1;
      kept = λ die. each_kept plans slots found.0 die (slice_get plans die) refl
          (λ plan below at. h.kept found.0 found.1 die plan (omega arith) at);
    }

-- Runs

go_from : (slots die : ℕ) (feed : ℕ → List ScriptItem) (plans : List DiePlan) (runs : List DieRun)
    → ((k : ℕ) (plan : DiePlan) → slice_get plans k ≡ Some plan → RowsKeepPlan plan slots (feed (die + k)))
    → AreAsPlanned slots feed die plans runs → AllZip RowsGoAsPlanned plans runs
go_from slots die feed [] [] kept h = tt
go_from slots die feed (plan ∷ plans) [] kept h = absurd h
go_from slots die feed [] (run ∷ runs) kept h = absurd h
go_from slots die feed (plan ∷ plans) (run ∷ runs) kept h = (
  h.0 (subst (λ d. RowsKeepPlan plan slots (feed d)) (let e : die + 0 ≡ die = omega arith in e) (kept 0 plan refl)),
  go_from slots (die + 1) feed plans runs (λ k p at. subst (λ d. RowsKeepPlan p slots (feed d)) (let e : die + suc k
      ≡ die + 1 + k = omega arith in e) (kept (suc k) p at)) h.1,
)

at_plan : (plans : List DiePlan) (slots die : ℕ) (items : List ScriptItem) (plan : DiePlan) → slice_get plans die ≡ Some plan
    → IfSome (slice_get plans die) (λ p. RowsKeepPlan p slots (feed_of items die)) → RowsKeepPlan plan slots (feed_of items die)
at_plan plans slots die items plan at h = subst (λ (o : Option DiePlan). IfSome o (λ p. RowsKeepPlan p slots (feed_of items die))) at h

pub all_go : (plans : List DiePlan) (slots : ℕ) (text : List ℕ) (items : List ScriptItem) (runs : List DieRun)
    → IsPlannedScript plans slots text
    → script_of (length plans) slots text ≡ Ok items → AreAsPlanned slots (feed_of items) 0 plans runs → AllZip RowsGoAsPlanned plans runs
all_go plans slots text items runs script said h =
    let same = same_items script.items items (sym script.said ∙ said) in
    go_from slots 0 (feed_of items) plans runs
    (λ k plan at. subst (λ d. RowsKeepPlan plan slots (feed_of items d)) (let e : k ≡ 0 + k = omega arith in e)
    (subst (λ (l : List ScriptItem). RowsKeepPlan plan slots (feed_of l k)) same
    (at_plan plans slots k script.items plan at (script.kept k)))) h
