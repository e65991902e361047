-- A plan is read up to one byte more than it may have: what it says, or is refused for, is what the whole text says.
use Rattle.std.proofs.Common.{◌≡◌, ℕ, ◌<◌, ◌≤◌, ◌⊎◌, List, true, Option, Some, None, Result, Ok, Err, IfOk, IfErr, IfSome, length}
use Rattle.std.proofs.Common.{take, refl, sym, ap, subst, ◌∙◌, inl, inr, arith}
use Rattle.std.specs.Prelude.{nat_lt}
use Rattle.std.proofs.lemmas.Bool.{cases_lt}
use Rattle.std.proofs.lemmas.List.{length-take-le, take_all}
use Rattle.slot_types.specs.declared.refusals.Cause.TheVariants.{TooLong}
use Rattle.plan_texts.specs.PlanReading.{IsShort}
use Rattle.terms_texts.specs.Refusing.{IsMemory}
use Rattle.terms_texts.specs.Stores.{IsStore, RefusesText}
use Rattle.terms_texts.specs.TermsReading.{IsStoreOf, RefusesTextOf}
use Rattle.terms_texts.specs.TermsText.{read_numbers}
use Rattle.terms_texts.specs.declared.faults.Place.TheVariants.{Whole}
use Rattle.terms_texts.specs.declared.faults.TermsRefusal.{TermsRefusal}
use Rattle.terms_texts.specs.declared.faults.TermsRefusal.TheVariants.{Text}
use Rattle.terms_texts.specs.declared.numbers.TermsNumbers.{TermsNumbers}
use Rattle.terms_texts.specs.declared.stores.DieTerms.{DieTerms}

too-long : (bytes : List ℕ) → 1048576 < length bytes → read_numbers bytes ≡ Err (Text TooLong Whole)
too-long bytes long =
    let is : nat_lt 1048576 (length bytes) ≡ true = grind (arith, long) in
    rw is refl

numbers-front : (bytes : List ℕ) → read_numbers (take 1048577 bytes) ≡ read_numbers bytes
numbers-front bytes = elim (cases_lt 1048576 (length bytes)) [
  | inl long ↦
      let whole : length (take 1048577 bytes) ≡ 1048577 = length-take-le 1048577 bytes (omega (arith, long)) in
      too-long (take 1048577 bytes) (omega (arith, whole)) ∙ sym (too-long bytes long)
  | inr short ↦ ap read_numbers (take_all 1048577 bytes (omega (arith, short)))
]

-- a text of a plan is short
numbers-short : (bytes : List ℕ) (plan : TermsNumbers) → read_numbers bytes ≡ Ok plan → length bytes ≤ 1048576
numbers-short bytes plan is = elim (cases_lt 1048576 (length bytes)) [
  | inl long ↦ cc (rw (too-long bytes long) at is)
  | inr short ↦ omega (arith, short)
]

said-front : (P : Result TermsNumbers TermsRefusal → Type 0) (text : Option (List ℕ)) (got : List ℕ)
    → IfSome text (λ bytes. got ≡ take 1048577 bytes)
    → P (read_numbers got) → IfSome text (λ bytes. P (read_numbers bytes))
said-front P None got front h = tt
said-front P (Some bytes) got front h = subst P (ap read_numbers front ∙ numbers-front bytes) h

-- the store of what was read is that of the text
pub store-front : (text : Option (List ℕ)) (got : List ℕ) (r : Result (List DieTerms) TermsRefusal)
    → IfSome text (λ bytes. got ≡ take 1048577 bytes)
    → IfOk r (λ store. (plan : TermsNumbers) × (read_numbers got ≡ Ok plan) × IsStore plan store) → IfOk r (IsStoreOf text)
store-front text got (Ok store) front h = (h.0, h.2, said-front (λ read. read ≡ Ok h.0) text got front h.1)
store-front text got (Err e) front h = tt

-- which is short
pub short-front : (text : Option (List ℕ)) (r : Result (List DieTerms) TermsRefusal) → IfOk r (IsStoreOf text)
    → IfOk r (λ _. IsShort text)
short-front None (Ok store) h = tt
short-front (Some bytes) (Ok store) h = numbers-short bytes h.0 h.2
short-front text (Err e) h = tt

-- and what refuses it refuses the text
pub refused-front : (text : Option (List ℕ)) (got : List ℕ) (r : Result (List DieTerms) TermsRefusal)
    → IfSome text (λ bytes. got ≡ take 1048577 bytes)
    → IfErr r (λ refusal. IsMemory refusal ⊎ RefusesText (read_numbers got) refusal) → IfErr r (RefusesTextOf text)
refused-front text got (Ok store) front h = tt
refused-front text got (Err e) front (inl memory) = inl memory
refused-front text got (Err e) front (inr fault) = inr (inr (said-front (λ read. RefusesText read e) text got front fault))
