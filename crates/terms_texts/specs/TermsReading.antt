-- What reading a plan's text with terms answers, where the text is known.
use Rattle.std.specs.Prelude.{◌≡◌, ◌≢◌, ◌⊎◌, ℕ, List, Bool, Option, Result, Ok, Err, IfSome}
use Rattle.slot_types.specs.declared.refusals.Refusal.TheVariants.{NoMemory, ReadFault}
use Rattle.text_base.specs.Flags.{KeepsFlag, SetsFlag}
use Rattle.terms_texts.specs.declared.faults.TermsRefusal.{TermsRefusal}
use Rattle.terms_texts.specs.declared.faults.TermsRefusal.TheVariants.{Outside}
use Rattle.terms_texts.specs.declared.numbers.TermsNumbers.{TermsNumbers}
use Rattle.terms_texts.specs.declared.stores.DieTerms.{DieTerms}
use Rattle.terms_texts.specs.Stores.{IsStore, RefusesText}
use Rattle.terms_texts.specs.TermsText.{read_numbers}

-- the reader's flag is set where the answer is ReadFault, and stays with any other answer
abbrev pub FlagsReadFault : {X : Type 0} → Result X TermsRefusal → Option Bool → Option Bool → Type 0
FlagsReadFault (Ok x) old new = KeepsFlag old new
FlagsReadFault (Err refusal) old new =
    ((refusal ≡ Outside ReadFault) × SetsFlag old new) ⊎ ((refusal ≢ Outside ReadFault) × KeepsFlag old new)

-- the store that a plan's text makes
abbrev pub IsStoreOf : Option (List ℕ) → List DieTerms → Type 0
IsStoreOf text store = (plan : TermsNumbers) × IsStore plan store × IfSome text (λ bytes. read_numbers bytes ≡ Ok plan)

-- why a plan's text makes no store: memory ran out, or the reader failed, or the text has it
abbrev pub RefusesTextOf : Option (List ℕ) → TermsRefusal → Type 0
RefusesTextOf text refusal = (refusal ≡ Outside NoMemory) ⊎ (refusal ≡ Outside ReadFault)
    ⊎ IfSome text (λ bytes. RefusesText (read_numbers bytes) refusal)
