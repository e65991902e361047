-- Why a call that reads a text is refused, apart from what the text says.
use Rattle.std.specs.Prelude.{◌≡◌, ◌⊎◌, Result, Ok, Err}
use Rattle.slot_types.specs.declared.refusals.Refusal.{Refusal}
use Rattle.slot_types.specs.declared.refusals.Refusal.TheVariants.{NoMemory, BadPlan, PlanText}
use Rattle.slot_types.specs.declared.refusals.Refusal.TheVariants as refused
use Rattle.terms_texts.specs.declared.faults.TermsRefusal.{TermsRefusal}
use Rattle.terms_texts.specs.declared.faults.TermsRefusal.TheVariants.{Outside, Text, BadShape, NoDie, Die}

-- the refusal of a plan without terms for the like of it
abbrev pub refusal_of : TermsRefusal → Refusal
refusal_of (Outside refusal) = refusal
refusal_of (Text cause place) = PlanText cause
refusal_of BadShape = refused.BadShape
refusal_of (NoDie task) = BadPlan
refusal_of (Die die fault) = BadPlan

-- memory ran out
abbrev pub IsMemory : TermsRefusal → Type 0
IsMemory refusal = refusal ≡ Outside NoMemory

-- the second step, if the first gave a value
infixl 10 ◌>>=◌
abbrev pub ◌>>=◌ : {A B : Type 0} → Result A TermsRefusal → (A → Result B TermsRefusal) → Result B TermsRefusal
(Ok x) >>= f = f x
(Err e) >>= f = Err e

-- what a call gave, seen by view, is what the text says, unless memory ran out
abbrev pub Shows : {X Y : Type 0} → (X → Y) → Result X TermsRefusal → Result Y TermsRefusal → Type 0
Shows view (Ok x) read = read ≡ Ok (view x)
Shows view (Err e) read = IsMemory e ⊎ (read ≡ Err e)

abbrev pub GivesReading : {X : Type 0} → Result X TermsRefusal → Result X TermsRefusal → Type 0
GivesReading result read = Shows (λ x. x) result read
