-- A plan was read, with terms or without.
use Rattle.std.proofs.Common.{◌≡◌, ◌≤◌, ℕ, Bool, true, false, List, All, Option, Ok, length, sym, subst}
use Rattle.std.specs.Prelude.{MatchBool}
use Rattle.std.specs.List.{AllZip}
use Rattle.slot_types.specs.declared.plans.DiePlan.{DiePlan}
use Rattle.plan_rules.specs.Bound.{MeetsBound}
use Rattle.plan_texts.specs.PlanReading.{IsStoreOf}
use Rattle.terms_texts.specs.Plans.{plans_in}
use Rattle.terms_texts.specs.Stores.{IsUsable}
use Rattle.terms_texts.specs.TermsReading.{IsStoreOf as IsTermsStoreOf}
use Rattle.terms_texts.specs.declared.stores.DieTerms.{DieTerms}
use Rattle.flashplan_terms_design.specs.Kinds.{is_terms_text}
use Rattle.plan_texts.specs.PlanText.{plan_of}
use Rattle.plan_texts.specs.Stores.{IsStore}
use Rattle.plan_texts.specs.declared.numbers.PlanNumbers.{PlanNumbers}
use Rattle.plan_texts.proofs.PlanFronts.{store-front}
use Rattle.terms_texts.specs.Stores.{IsStore as IsTermsStore}
use Rattle.terms_texts.specs.TermsText.{read_numbers}
use Rattle.terms_texts.specs.declared.numbers.TermsNumbers.{TermsNumbers}
use Rattle.terms_texts.proofs.TermsFronts.{store-front as terms-front}
use Rattle.flashplan_kept_runs.specs.KeptPlans.{IsKeptPlan}
use Rattle.flashplan_commands.specs.KeptActs.{KeepsTimes, ReadsKept}
use Rattle.flashplan_commands.specs.PlanKinds.{ArePlansOf, ByKind, IsOfKind, IsReadOf, ReadsPlain, ReadsStore, ReadsTerms}

-- what holds of a plan with terms, or of one without, holds by its kind
pub with-terms : (plan : Option (List ℕ)) (P Q : Type 0) → IsOfKind plan true → P → ByKind plan P Q
with-terms plan P Q kind p = record { text = kind.text; read = kind.read; holds = subst (λ (b : Bool). MatchBool b P Q) (sym kind.kind) p }

pub without-terms : (plan : Option (List ℕ)) (P Q : Type 0) → IsOfKind plan false → Q → ByKind plan P Q
without-terms plan P Q kind q = record { text = kind.text; read = kind.read; holds = subst (λ (b : Bool). MatchBool b P Q) (sym kind.kind) q }

-- the plans of a store with terms, which was read
pub reads-plans : (plan : Option (List ℕ)) (dies : List DieTerms) (store : List DiePlan) → IsOfKind plan true → IsTermsStoreOf plan dies
    → store ≡ plans_in dies → ReadsStore plan store
reads-plans plan dies store kind made plans =
    with-terms plan (ArePlansOf plan store) (IsStoreOf plan store) kind (record { dies = dies; made = made; plans = plans })

-- the store that what was read makes is that of the plan, of either kind
pub reads-terms : (plan : Option (List ℕ)) (text : List ℕ) (store : List DieTerms) → IsReadOf plan text → is_terms_text text ≡ true
    → (numbers : TermsNumbers) × (read_numbers text ≡ Ok numbers) × IsTermsStore numbers store → 1 ≤ length store → length store ≤ 8
    → All IsUsable store → ReadsTerms plan store
reads-terms plan text store read kind made some few usable = record {
  kind = record { text = text; read = read; kind = kind };
  made = terms-front plan text (Ok store) read made;
  some = some;
  few = few;
  usable = usable;
}

pub reads-plain : (plan : Option (List ℕ)) (text : List ℕ) (store : List DiePlan) → IsReadOf plan text → is_terms_text text ≡ false
    → (numbers : PlanNumbers) × (plan_of text ≡ Ok numbers) × IsStore numbers store → 1 ≤ length store → length store ≤ 8
    → All MeetsBound store → ReadsPlain plan store
reads-plain plan text store read kind made some few bound = record {
  kind = record { text = text; read = read; kind = kind };
  made = store-front plan text (Ok store) read made;
  some = some;
  few = few;
  bound = bound;
}

-- the plans that dies keep, of a plan with terms and of one with times
pub keeps-terms : (plan : Option (List ℕ)) (kept : List DieTerms) → ReadsTerms plan kept → ReadsKept plan kept
keeps-terms plan kept read = with-terms plan (IsTermsStoreOf plan kept) (KeepsTimes plan kept) read.kind read.made

pub keeps-times : (plan : Option (List ℕ)) (store : List DiePlan) (kept : List DieTerms) → ReadsPlain plan store → AllZip IsKeptPlan store kept
    → ReadsKept plan kept
keeps-times plan store kept read kept_are =
    without-terms plan (IsTermsStoreOf plan kept) (KeepsTimes plan kept) read.kind (record { store = store; made = read.made; kept_are = kept_are })
