-- Changes that were found, one after the other.
use Rattle.std.proofs.Common.{◌≡◌, ◌∙◌, ℕ, List, ◌++◌, ◌+◌, ◌<◌, drop, length, Option, Result, Ok, Err, OnOk, get_or, ap, refl, subst, drop-cons, add-one, append_assoc}
use Rattle.terms_texts.specs.Stores.{die_of}
use Rattle.terms_texts.specs.declared.numbers.TermsNumbers.{TermsNumbers}
use Rattle.terms_texts.specs.declared.stores.DieTerms.{DieTerms}
use Rattle.flashplan_terms_changes.specs.Changes.{AreFound, Does, Finds, FindsNearest, change_of, die_at, from_of, loosest, number_of, task_at, to_of}
use Rattle.flashplan_terms_changes.specs.declared.asked_numbers.Asked.{Asked}
use Rattle.flashplan_terms_changes.specs.declared.changes.Change.{Change}

-- the change of the number at a place, and then those of the numbers after it
pub found-from : (plan : TermsNumbers) (asked : List Asked) (i : ℕ) (d : Asked) (found : Option ℕ) (rest : List Change) → i < length asked
    → Finds plan (get_or asked i d) found → AreFound plan (drop (i + 1) asked) rest
    → AreFound plan (drop i asked) (change_of (get_or asked i d) (from_of plan (get_or asked i d)) found ++ rest)
found-from plan asked i d found rest below finds more = rw (drop-cons asked i d below) (found, rest, finds, refl, rw (add-one i) at more)

-- the changes so far, and that of one number more
pub found-more : (plan : TermsNumbers) (asked : List Asked) (i : ℕ) (d : Asked) (start middle end : List Change) → i < length asked
    → (more : List Change) × (middle ≡ start ++ more)
    × ((rest : List Change) → AreFound plan (drop i asked) rest → AreFound plan asked (more ++ rest))
    → (found : Option ℕ) × Finds plan (get_or asked i d) found
    × (end ≡ middle ++ change_of (get_or asked i d) (from_of plan (get_or asked i d)) found)
    → (more : List Change) × (end ≡ start ++ more)
    × ((rest : List Change) → AreFound plan (drop (i + 1) asked) rest → AreFound plan asked (more ++ rest))
found-more plan asked i d start middle end below (more, is, all) (found, finds, put) =
    let added = change_of (get_or asked i d) (from_of plan (get_or asked i d)) found in (
      more ++ added,
      put ∙ rw is (append_assoc start more added),
      λ rest others. rw (append_assoc more added rest)
          (all (added ++ rest) (found-from plan asked i d found rest below finds others)),
    )

-- what follows of a call that was carried out
pub on-ok : {A E P Q : Type 0} (answer : Result A E) → OnOk answer P → (P → Q) → OnOk answer Q
on-ok (Ok x) holds follows = follows holds
on-ok (Err e) holds follows = holds

-- a number and the one that asks for least, as a die has them that was made of the plan
pub finds-at : (plan : TermsNumbers) (a : Asked) (found : Option ℕ) (die task from to : ℕ) (made : DieTerms) → die ≡ die_at a.of
    → task ≡ task_at a.of → made ≡ die_of plan die → from ≡ number_of made task a.which → to ≡ loosest made task a.which
    → FindsNearest (Does plan a.of a.which) from to found → Finds plan a found
finds-at plan a found die task from to made is_die is_task is_made is_from is_to finds =
    let own : made ≡ die_of plan (die_at a.of) = is_made ∙ ap (die_of plan) is_die in
    let first : from ≡ from_of plan a =
    is_from ∙ (ap (λ (d : DieTerms). number_of d task a.which) own ∙ ap (λ t. number_of (die_of plan (die_at a.of)) t a.which) is_task) in
    let last : to ≡ to_of plan a =
    is_to ∙ (ap (λ (d : DieTerms). loosest d task a.which) own ∙ ap (λ t. loosest (die_of plan (die_at a.of)) t a.which) is_task) in
    subst (λ n. FindsNearest (Does plan a.of a.which) n (to_of plan a) found) first
    (subst (λ n. FindsNearest (Does plan a.of a.which) from n found) last finds)
