use Rattle.std.proofs.Common.{◌≡◌, ◌⊎◌, inl, inr, ℕ, List, Result, Ok, Err, sym, ap, ◌∙◌, subst}
use Rattle.std.specs.Prelude.{IfOk, IfErr, IsErrAnd, Some}
use Rattle.slot_types.specs.declared.plans.DiePlan.{DiePlan}
use Rattle.slot_types.specs.declared.refusals.Refusal.{Refusal}
use Rattle.text_base.specs.Readings.{IsOutside}
use Rattle.plan_texts.specs.PlanReading.{IsStoreOf, RefusesPlanOf}
use Rattle.plan_texts.specs.PlanText.{plan_of}
use Rattle.plan_texts.specs.Stores.{RefusesPlan}
use Rattle.plan_texts.proofs.OneReading.{dies_read, not-both, one-refusal}
use Rattle.plan_texts.proofs.ReadFaults.{fault_by_flag, one_by_flag}
use Rattle.plan_texts.proofs.laws.reading_a_plan_from_a_reader_has_one_answer.Goals as goal

one_store : (known : List ℕ) (one other : Result (List DiePlan) Refusal) → IfOk one (IsStoreOf (Some known))
    → IfOk other (IsStoreOf (Some known)) → IfErr one (RefusesPlanOf (Some known)) → IfErr other (RefusesPlanOf (Some known))
    → (one ≡ other) ⊎ IsErrAnd one IsOutside ⊎ IsErrAnd other IsOutside
one_store known (Ok s) (Ok t) h h' fine well =
    inl (ap Ok (h.1.dies ∙ (ap dies_read (sym h.2 ∙ h'.2) ∙ sym h'.1.dies)))
one_store known (Err e) other none h' (inl out) k' = inr (inl out)
one_store known (Ok s) (Err e) h none k (inl out) = inr (inr out)
one_store known (Ok s) (Err e) h none k (inr refuses) =
    absurd (not-both h.0 s e h.1 (subst (λ r. RefusesPlan r e) h.2 refuses))
one_store known (Err e) (Ok t) none h' (inr refuses) k' =
    absurd (not-both h'.0 t e h'.1 (subst (λ r. RefusesPlan r e) h'.2 refuses))
one_store known (Err e) (Err f) none nil (inr a) (inl out) = inr (inr out)
one_store known (Err e) (Err f) none nil (inr a) (inr b) = inl (ap Err (one-refusal (plan_of known) e f a b))

pub returns-clause-plan : goal.returns-clause-plan
returns-clause-plan c = one_store

pub returns-clause-flagged : goal.returns-clause-flagged
returns-clause-flagged c = λ known left right one other is is' h k out out'.
    (one_by_flag left right one other h k (one_store known one other is is' out out'), fault_by_flag left one h)
