-- What reading a plan's text answers, where the text is known.
use Rattle.std.specs.Prelude.{◌≡◌, ◌≢◌, ◌≤◌, ◌⊎◌, ℕ, List, ◌++◌, length, Bool, Option, Result, Ok, Err, IfSome}
use Rattle.std.specs.Io.KnownBytes.{Consumes, IsAtEnd}
use Rattle.slot_types.specs.declared.plans.DiePlan.{DiePlan}
use Rattle.slot_types.specs.declared.refusals.Refusal.{Refusal}
use Rattle.slot_types.specs.declared.refusals.Refusal.TheVariants.{ReadFault}
use Rattle.plan_texts.specs.PlanText.{plan_of}
use Rattle.text_base.specs.Readings.{IsOutside}
use Rattle.text_base.specs.Flags.{KeepsFlag, SetsFlag}
use Rattle.plan_texts.specs.Stores.{IsStore, RefusesPlan}
use Rattle.plan_texts.specs.declared.numbers.PlanNumbers.{PlanNumbers}

-- `n` bytes of what was left stand after the text; there are none at the end alone
abbrev pub TakesMore : Option (List ℕ) → Option (List ℕ) → List ℕ → List ℕ → ℕ → Type 0
TakesMore left rest old new n = (more : List ℕ) × (new ≡ old ++ more) × (length more ≡ n) × Consumes left rest more × (n ≡ 0 → IsAtEnd rest)

-- the reader's flag is set where the answer is ReadFault, and stays with any other answer
abbrev pub FlagsReadFault : {X : Type 0} → Result X Refusal → Option Bool → Option Bool → Type 0
FlagsReadFault (Ok x) old new = KeepsFlag old new
FlagsReadFault (Err refusal) old new = ((refusal ≡ ReadFault) × SetsFlag old new) ⊎ ((refusal ≢ ReadFault) × KeepsFlag old new)

-- the store that a plan's text makes
abbrev pub IsStoreOf : Option (List ℕ) → List DiePlan → Type 0
IsStoreOf text store = (plan : PlanNumbers) × IsStore plan store × IfSome text (λ bytes. plan_of bytes ≡ Ok plan)

-- no more bytes than a plan may have
abbrev pub IsShort : Option (List ℕ) → Type 0
IsShort text = IfSome text (λ bytes. length bytes ≤ 1048576)

-- why a plan's text makes no store: memory ran out, or the reader failed, or the text has it
abbrev pub RefusesPlanOf : Option (List ℕ) → Refusal → Type 0
RefusesPlanOf text refusal = IsOutside refusal ⊎ IfSome text (λ bytes. RefusesPlan (plan_of bytes) refusal)
