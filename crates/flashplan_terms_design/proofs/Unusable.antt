-- What is said of a die that may not be used.
use Rattle.std.proofs.Common.{◌≡◌, ◌∙◌, ℕ, List, ◌++◌, Option, Result, Ok, Err, IfOk, ap, refl, append_assoc}
use Rattle.terms_texts.specs.Stores.{die_of}
use Rattle.terms_texts.specs.declared.faults.DieFault.{DieFault}
use Rattle.terms_texts.specs.declared.faults.TermsRefusal.{TermsRefusal}
use Rattle.terms_texts.specs.declared.faults.TermsRefusal.TheVariants.{Die}
use Rattle.terms_texts.specs.declared.numbers.TermsNumbers.{TermsNumbers}
use Rattle.terms_texts.specs.declared.stores.DieTerms.{DieTerms}
use Rattle.flashplan_terms_changes.specs.Alphas.{SaysAlphas}
use Rattle.flashplan_terms_changes.specs.Changes.{SaysCheapest}
use Rattle.flashplan_terms_design.specs.DieTexts.{numbers_text}
use Rattle.flashplan_terms_design.specs.Explaining.{ExplainsDieFault, ExplainsFirst, ExplainsRefusal, ExplainsUnusable}

-- what follows of each value
pub if_ok : {A E : Type 0} {P Q : A → Type 0} (answer : Result A E) → IfOk answer P → ((x : A) → P x → Q x) → IfOk answer Q
if_ok (Ok x) holds then = then x holds
if_ok (Err e) holds then = holds

-- its numbers were added, and then why
pub numbers-and-fault : (us : Option ℕ) (die : ℕ) (made : DieTerms) (fault : DieFault) (start middle end : List ℕ) → middle ≡ start ++ numbers_text us die made
    → (why : List ℕ) × ExplainsDieFault us die made fault why × (end ≡ middle ++ why)
    → (said : List ℕ) × ExplainsUnusable us die made fault said × (end ≡ start ++ said)
numbers-and-fault us die made fault start middle end numbers (why, explained, put) = (
  numbers_text us die made ++ why,
  record { why = why; explained = explained; is = refl },
  put ∙ rw numbers (append_assoc start (numbers_text us die made) why),
)

-- that of the first such die of a text
pub refusal-of-die : (us : Option ℕ) (read : Result TermsNumbers TermsRefusal) (numbers : TermsNumbers) (die : ℕ) (fault : DieFault) (start end : List ℕ)
    → read ≡ Ok numbers
    → (said : List ℕ) × ExplainsFirst us numbers die fault said × (end ≡ start ++ said)
    → (said : List ℕ) × ExplainsRefusal us read (Die die fault) said × (end ≡ start ++ said)
refusal-of-die us read numbers die fault start end is (said, explained, put) = (said, rw is explained, put)

-- what is said of such a die, then what each alpha comes to, and then the cheapest changes
pub first-and-changes : (us : Option ℕ) (plan : TermsNumbers) (die : ℕ) (fault : DieFault) (start middle after end : List ℕ)
    → (own : List ℕ) × ExplainsUnusable us die (die_of plan die) fault own × (middle ≡ start ++ own)
    → (rows : List ℕ) × SaysAlphas us plan plan.top.pages rows × (after ≡ middle ++ rows)
    → (changes : List ℕ) × SaysCheapest us plan changes × (end ≡ after ++ changes)
    → (said : List ℕ) × ExplainsFirst us plan die fault said × (end ≡ start ++ said)
first-and-changes us plan die fault start middle after end (own, unusable, first) (rows, alphas, second) (changes, cheapest, put) = (
  own ++ rows ++ changes,
  record { own = own; unusable = unusable; rows = rows; alphas = alphas; changes = changes; cheapest = cheapest; is = refl },
  put ∙ rw (second, first)
      (ap (λ l. l ++ changes) (append_assoc start own rows) ∙ append_assoc start (own ++ rows) changes),
)
