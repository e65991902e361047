-- A plan is read up to one byte more than it may have: what it says, or is refused for, is what the whole text says.
use Rattle.std.proofs.Common.{◌≡◌, ℕ, ◌<◌, ◌≤◌, ◌⊎◌, List, ◌++◌, true, Option, Some, None, Result, Ok, Err, IfOk, IfErr, IfSome, length}
use Rattle.std.proofs.Common.{take, refl, sym, ap, subst, ◌∙◌, inl, inr, arith}
use Rattle.std.specs.Prelude.{nat_lt}
use Rattle.std.specs.Io.KnownBytes.{Consumes, IsAtEnd}
use Rattle.std.proofs.lemmas.Bool.{cases_lt}
use Rattle.std.proofs.lemmas.List.{append-nil, length-take-le, take_all}
use Rattle.std.proofs.Math.Seq.{take-append_seam}
use Rattle.slot_types.specs.declared.plans.DiePlan.{DiePlan}
use Rattle.slot_types.specs.declared.refusals.Refusal.{Refusal}
use Rattle.slot_types.specs.declared.refusals.Cause.TheVariants.{TooLong}
use Rattle.slot_types.specs.declared.refusals.Refusal.TheVariants.{NoMemory, PlanText}
use Rattle.plan_texts.specs.PlanReading.{IsShort, IsStoreOf, RefusesPlanOf}
use Rattle.plan_texts.specs.PlanText.{plan_of}
use Rattle.plan_texts.specs.Stores.{IsStore, RefusesPlan}
use Rattle.plan_texts.specs.declared.numbers.PlanNumbers.{PlanNumbers}

-- The first bytes

-- a text that was read to its end, within its bound, is whole
pub read-whole : (text rest : Option (List ℕ)) (got : List ℕ) → Consumes text rest got → IsAtEnd rest → length got ≤ 1048577
    → IfSome text (λ bytes. got ≡ take 1048577 bytes)
read-whole None rest got taken end few = tt
read-whole (Some bytes) None got taken end few = absurd taken
read-whole (Some bytes) (Some left) got taken end few =
    let whole : bytes ≡ got = taken ∙ ap (λ xs. got ++ xs) end ∙ append-nil got in
    rw whole (sym (take_all 1048577 got few))

-- and of one that goes on, these are the first bytes
pub read-first : (text rest : Option (List ℕ)) (got : List ℕ) → Consumes text rest got → length got ≡ 1048577
    → IfSome text (λ bytes. got ≡ take 1048577 bytes)
read-first None rest got taken full = tt
read-first (Some bytes) None got taken full = absurd taken
read-first (Some bytes) (Some left) got taken full =
    rw taken (sym (subst (λ n. take n (got ++ left) ≡ got) full (take-append_seam got left)))

too-long : (bytes : List ℕ) → 1048576 < length bytes → plan_of bytes ≡ Err (PlanText TooLong)
too-long bytes long =
    let is : nat_lt 1048576 (length bytes) ≡ true = grind (arith, long) in
    rw is refl

plan-front : (bytes : List ℕ) → plan_of (take 1048577 bytes) ≡ plan_of bytes
plan-front bytes = elim (cases_lt 1048576 (length bytes)) [
  | inl long ↦
      let whole : length (take 1048577 bytes) ≡ 1048577 = length-take-le 1048577 bytes (omega (arith, long)) in
      too-long (take 1048577 bytes) (omega (arith, whole)) ∙ sym (too-long bytes long)
  | inr short ↦ ap plan_of (take_all 1048577 bytes (omega (arith, short)))
]

-- a text of a plan is short
plan-short : (bytes : List ℕ) (plan : PlanNumbers) → plan_of bytes ≡ Ok plan → length bytes ≤ 1048576
plan-short bytes plan is = elim (cases_lt 1048576 (length bytes)) [
  | inl long ↦ cc (rw (too-long bytes long) at is)
  | inr short ↦ omega (arith, short)
]

-- What was read

said-front : (P : Result PlanNumbers Refusal → Type 0) (text : Option (List ℕ)) (got : List ℕ)
    → IfSome text (λ bytes. got ≡ take 1048577 bytes)
    → P (plan_of got) → IfSome text (λ bytes. P (plan_of bytes))
said-front P None got front h = tt
said-front P (Some bytes) got front h = subst P (ap plan_of front ∙ plan-front bytes) h

-- the store of what was read is that of the text
pub store-front : (text : Option (List ℕ)) (got : List ℕ) (r : Result (List DiePlan) Refusal)
    → IfSome text (λ bytes. got ≡ take 1048577 bytes)
    → IfOk r (λ store. (plan : PlanNumbers) × (plan_of got ≡ Ok plan) × IsStore plan store) → IfOk r (IsStoreOf text)
store-front text got (Ok store) front h = (h.0, h.2, said-front (λ read. read ≡ Ok h.0) text got front h.1)
store-front text got (Err e) front h = tt

-- which is short
pub short-front : (text : Option (List ℕ)) (r : Result (List DiePlan) Refusal) → IfOk r (IsStoreOf text) → IfOk r (λ _. IsShort text)
short-front None (Ok store) h = tt
short-front (Some bytes) (Ok store) h = plan-short bytes h.0 h.2
short-front text (Err e) h = tt

-- and what refuses it refuses the text
pub refused-front : (text : Option (List ℕ)) (got : List ℕ) (r : Result (List DiePlan) Refusal)
    → IfSome text (λ bytes. got ≡ take 1048577 bytes)
    → IfErr r (λ refusal. (refusal ≡ NoMemory) ⊎ RefusesPlan (plan_of got) refusal) → IfErr r (RefusesPlanOf text)
refused-front text got (Ok store) front h = tt
refused-front text got (Err e) front (inl memory) = inl (inl memory)
refused-front text got (Err e) front (inr fault) = inr (said-front (λ read. RefusesPlan read e) text got front fault)
