-- A plan's text is read in one way, except for memory.
use Rattle.std.proofs.Common.{◌≡◌, List, [], Result, Ok, Err, sym, ◌∙◌, inl, inr}
use Rattle.slot_types.specs.declared.plans.DiePlan.{DiePlan}
use Rattle.slot_types.specs.declared.refusals.Refusal.{Refusal}
use Rattle.plan_texts.specs.Stores.{IsStore, RefusesPlan, RefusesStore, dies_of}
use Rattle.plan_texts.specs.declared.numbers.PlanNumbers.{PlanNumbers}

abbrev pub dies_read : Result PlanNumbers Refusal → List DiePlan
dies_read (Ok plan) = dies_of plan
dies_read (Err e) = []

-- numbers that make a store are refused for nothing that they lack
pub not-both : (plan : PlanNumbers) (store : List DiePlan) (refusal : Refusal) → IsStore plan store → RefusesStore plan refusal → ⊥
not-both plan store refusal makes (inl (bad, unshaped)) = unshaped makes.shaped
not-both plan store refusal makes (inr (bad, (shaped, unusable))) = unusable makes.served

-- numbers are refused for one cause
one-cause : (plan : PlanNumbers) (one other : Refusal) → RefusesStore plan one → RefusesStore plan other → one ≡ other
one-cause plan one other (inl (a, unshaped)) (inl (b, unshaped_too)) = a ∙ sym b
one-cause plan one other (inl (a, unshaped)) (inr (b, (shaped, unusable))) = absurd (unshaped shaped)
one-cause plan one other (inr (a, (shaped, unusable))) (inl (b, unshaped)) = absurd (unshaped shaped)
one-cause plan one other (inr (a, lacks)) (inr (b, lacks_too)) = a ∙ sym b

pub one-refusal : (read : Result PlanNumbers Refusal) (one other : Refusal) → RefusesPlan read one → RefusesPlan read other → one ≡ other
one-refusal (Ok plan) one other a b = one-cause plan one other a b
one-refusal (Err e) one other a b = a ∙ sym b
