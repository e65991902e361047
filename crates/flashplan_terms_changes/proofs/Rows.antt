-- What each alpha comes to, die by die and alpha by alpha.
use Rattle.std.proofs.Common.{◌≡◌, ◌∙◌, ℕ, ◌+◌, List, ◌++◌, Option, Result, Ok, Err, OnOk, refl, sym, subst, add-one, append_assoc}
use Rattle.terms_texts.specs.declared.numbers.TermsNumbers.{TermsNumbers}
use Rattle.flashplan_terms_changes.specs.Alphas.{SaysAlphas, SaysDies, SaysRow}

-- words, and then what follows them
pub and-then : {A E : Type 0} (answer : Result A E) (start middle end words more : List ℕ) → middle ≡ start ++ words
    → OnOk answer (end ≡ middle ++ more) → OnOk answer (end ≡ start ++ (words ++ more))
and-then (Ok x) start middle end words more first put = put ∙ rw first (append_assoc start words more)
and-then (Err e) start middle end words more first put = put

-- that of one die more
pub one-die : (us : Option ℕ) (plan : TermsNumbers) (alpha die : ℕ) (first last : List ℕ) → SaysDies us plan alpha die first
    → SaysRow us plan alpha die last → SaysDies us plan alpha (die + 1) (first ++ last)
one-die us plan alpha die first last some more =
    subst (λ n. SaysDies us plan alpha n (first ++ last)) (sym (add-one die)) (first, last, some, more, refl)

-- that of one alpha more
pub one-alpha : (us : Option ℕ) (plan : TermsNumbers) (before : ℕ) (first last : List ℕ) → SaysAlphas us plan before first
    → SaysDies us plan (before + 1) plan.top.dies last → SaysAlphas us plan (before + 1) (first ++ last)
one-alpha us plan before first last some more =
    subst (λ n. SaysAlphas us plan n (first ++ last)) (sym (add-one before))
    (first, last, some, subst (λ n. SaysDies us plan n plan.top.dies last) (add-one before) more, refl)
