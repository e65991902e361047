-- The head of a slot has the least key of those that wait and aren't waived; without a head all are waived.
use Rattle.std.proofs.Common.{◌≡◌, ℕ, zero, suc, ◌+◌, ◌<◌, ◌≤◌, ◌==◌, ◌||◌, ◌⊎◌, not, Bool, true, false, cond, List, [], ◌∷◌, Option, Some}
use Rattle.std.proofs.Common.{None, refl, ap, ◌∙◌, inl, inr, fold, length, arith}
use Rattle.std.specs.List.{AllByRecursion, list_any}
use Rattle.std.proofs.lemmas.Bool.Decides.{nat_tests}
use Rattle.slot_types.specs.declared.plans.DiePlan.{DiePlan}
use Rattle.slot_types.specs.declared.replies.Waived.{Waived}
use Rattle.die_log.specs.Model.Log.{Log, Job}
use Rattle.die_log.specs.Model.Work.{goes_first, least}
use Rattle.plan_rules.specs.Accounts.{Accounts, given_of, accounts_after_waiver}
use Rattle.die_log.specs.Model.Answers.{Choice, head_or_waiver, choice_by_head, choice_among, is_waivable, without, with_waiver}
use Rattle.die_log.specs.Results.Legal.{is_among}
use Rattle.die_log.proofs.Choices.{OfSome}

-- Keys

self_key : (i : Job) → goes_first i i ≡ false
self_key i = grind (arith, nat_tests)

asym_key : (i j : Job) → goes_first i j ≡ true → goes_first j i ≡ false
asym_key i j h = grind (arith, nat_tests)

trans_key : (i j k : Job) → goes_first i j ≡ false → goes_first j k ≡ false → goes_first i k ≡ false
trans_key i j k p q = grind (arith, nat_tests)

abbrev lesser : Job → Job → Job
lesser best j = cond (goes_first j best) j best

-- the lesser of two goes before neither
lesser_first : (best x : Job) (b : Bool) → goes_first x best ≡ b → goes_first best (cond b x best) ≡ false
lesser_first best x true e = asym_key x best e
lesser_first best x false e = self_key best

lesser_second : (best x : Job) (b : Bool) → goes_first x best ≡ b → goes_first x (cond b x best) ≡ false
lesser_second best x true e = self_key x
lesser_second best x false e = e

fold_least : (best : Job) (xs : List Job) → (goes_first best (fold lesser best xs) ≡ false)
    × AllByRecursion (λ i. goes_first i (fold lesser best xs) ≡ false) xs
fold_least best [] = (self_key best, tt)
fold_least best (x ∷ xs) =
    let rest = fold_least (lesser best x) xs in
    let m = fold lesser (lesser best x) xs in (
      trans_key best (lesser best x) m (lesser_first best x (goes_first x best) refl) rest.0,
      (trans_key x (lesser best x) m (lesser_second best x (goes_first x best) refl) rest.0, rest.1),
    )

-- nothing in the list goes before its least
pub none_before : (xs : List Job) → OfSome (λ j. AllByRecursion (λ i. goes_first i j ≡ false) xs) (least xs)
none_before [] = tt
none_before (x ∷ xs) = let h = fold_least x xs in (h.0, h.1)

-- Without the least the list is shorter

abbrev has_number : Job → Job → Bool
has_number j i = i.number == j.number

same_number : (j : Job) → has_number j j ≡ true
same_number j = grind (arith, nat_tests)

or_left : (a b : Bool) → a ≡ true → (a || b) ≡ true
or_left true b h = refl
or_left false b h = absurd cc

or_right : (a b : Bool) → b ≡ true → (a || b) ≡ true
or_right true b h = refl
or_right false b h = h

or_middle : (a b c : Bool) → (a || c) ≡ true → (a || (b || c)) ≡ true
or_middle true b c h = refl
or_middle false b c h = or_right b c h

lesser_among : (best x : Job) (xs : List Job) (c : Bool)
    → list_any (has_number (fold lesser (cond c x best) xs)) (cond c x best ∷ xs) ≡ true
    → list_any (has_number (fold lesser (cond c x best) xs)) (best ∷ x ∷ xs) ≡ true
lesser_among best x xs true h = or_right (has_number (fold lesser x xs) best) (list_any (has_number (fold lesser x xs)) (x ∷ xs)) h
lesser_among best x xs false h =
    or_middle (has_number (fold lesser best xs) best) (has_number (fold lesser best xs) x) (list_any (has_number (fold lesser best xs)) xs)
    h

fold_among : (best : Job) (xs : List Job) → list_any (has_number (fold lesser best xs)) (best ∷ xs) ≡ true
fold_among best [] = or_left (has_number best best) false (same_number best)
fold_among best (x ∷ xs) = lesser_among best x xs (goes_first x best) (fold_among (lesser best x) xs)

kept_length : {X : Type 0} (b : Bool) (x : X) (ys : List X) (n : ℕ) → length ys ≤ n → length (cond b (x ∷ ys) ys) ≤ n + 1
kept_length true x ys n h = omega arith
kept_length false x ys n h = omega arith

without_le : (j : Job) (xs : List Job) → length (without j xs) ≤ length xs
without_le j [] = omega arith
without_le j (x ∷ xs) = omega (arith, kept_length (not (has_number j x)) x (without j xs) (length xs) (without_le j xs))

shorter_by : (j x : Job) (xs : List Job) (b : Bool) → has_number j x ≡ b → (b || list_any (has_number j) xs) ≡ true
    → (list_any (has_number j) xs ≡ true → length (without j xs) < length xs)
    → length (cond (not b) (x ∷ without j xs) (without j xs)) < length xs + 1
shorter_by j x xs true is h ih = omega (arith, without_le j xs)
shorter_by j x xs false is h ih = omega (arith, ih h)

-- taking a number out that is there makes the list shorter
without_less : (j : Job) (xs : List Job) → list_any (has_number j) xs ≡ true → length (without j xs) < length xs
without_less j [] h = absurd cc
without_less j (x ∷ xs) h = omega (arith, shorter_by j x xs (has_number j x) refl h (without_less j xs))

pub least_less : (xs : List Job) → OfSome (λ j. length (without j xs) < length xs) (least xs)
least_less [] = tt
least_less (x ∷ xs) = without_less (fold lesser x xs) (x ∷ xs) (fold_among x xs)

-- Choices

abbrev pub NotBefore : Job → Option Job → Type 0
NotBefore i None = ⊥
NotBefore i (Some j) = goes_first i j ≡ false

-- waived, or not before the head
abbrev pub IsPassed : Choice → Job → Type 0
IsPassed c i = (is_among i.number c.waived ≡ true) ⊎ NotBefore i c.head

number_is : (i j : Job) → (i.number == j.number) ≡ true → (j.number == i.number) ≡ true
number_is i j h = grind (arith, nat_tests)

more_passed : (w : Waived) (rest : Choice) (i : Job) → IsPassed rest i → IsPassed (with_waiver w rest) i
more_passed w rest i (inl h) = inl (or_right (w.number == i.number) (is_among i.number rest.waived) h)
more_passed w rest i (inr h) = inr h

passed_case : (w : Waived) (rest : Choice) (j x : Job) (xs : List Job) (b : Bool) → w.number ≡ j.number → (x.number == j.number) ≡ b
    → AllByRecursion (IsPassed rest) (cond (not b) (x ∷ without j xs) (without j xs))
    → (AllByRecursion (IsPassed rest) (without j xs) → AllByRecursion (IsPassed (with_waiver w rest)) xs)
    → AllByRecursion (IsPassed (with_waiver w rest)) (x ∷ xs)
passed_case w rest j x xs true e is h ih =
    (inl (or_left (w.number == x.number) (is_among x.number rest.waived) (ap (λ (n : ℕ). n == x.number) e ∙ number_is x j is)), ih h)
passed_case w rest j x xs false e is h ih = (more_passed w rest x h.0, ih h.1)

passed_with : (w : Waived) (rest : Choice) (j : Job) (xs : List Job) → w.number ≡ j.number → AllByRecursion (IsPassed rest) (without j xs)
    → AllByRecursion (IsPassed (with_waiver w rest)) xs
passed_with w rest j [] e h = tt
passed_with w rest j (x ∷ xs) e h = passed_case w rest j x xs (x.number == j.number) e refl h (passed_with w rest j xs e)

passed_all : (c : Choice) (j : Job) (xs : List Job) → c.head ≡ Some j → AllByRecursion (λ i. goes_first i j ≡ false) xs
    → AllByRecursion (IsPassed c) xs
passed_all c j [] e h = tt
passed_all c j (x ∷ xs) e h = (inr (rw e h.0), passed_all c j xs e h.1)

abbrev waiver : ℕ → ℕ → Waived
waiver number given = record { number = number; given = given }

passed_weighed : (a : Accounts) (xs : List Job) (again : Accounts → List Job → Choice) (j : Job) (b : Bool)
    → AllByRecursion (λ i. goes_first i j ≡ false) xs
    → ((a' : Accounts) → AllByRecursion (IsPassed (again a' (without j xs))) (without j xs))
    → AllByRecursion (IsPassed (head_or_waiver a xs again j b)) xs
passed_weighed a xs again j true least ih = passed_with (waiver j.number (given_of a j.task)) (again (accounts_after_waiver a j.task) (without j xs)) j xs
    refl (ih (accounts_after_waiver a j.task))
passed_weighed a xs again j false least ih = passed_all (head_or_waiver a xs again j false) j xs refl least

passed_chosen : (plan : DiePlan) (past : Log) (rounds : ℕ) (a : Accounts) (xs : List Job) (again : Accounts → List Job → Choice)
    (o : Option Job) → least xs ≡ o → length xs ≤ rounds + 1
    → OfSome (λ j. AllByRecursion (λ i. goes_first i j ≡ false) xs) o → OfSome (λ j. length (without j xs) < length xs) o
    → ((a' : Accounts) (ys : List Job) → length ys ≤ rounds → AllByRecursion (IsPassed (again a' ys)) ys)
    → AllByRecursion (IsPassed (choice_by_head plan past a xs again o)) xs
passed_chosen plan past rounds a [] again None e le h k ih = tt
passed_chosen plan past rounds a (x ∷ xs) again None e le h k ih = absurd cc
passed_chosen plan past rounds a xs again (Some j) e le h k ih =
    passed_weighed a xs again j (is_waivable plan past a j) h (λ a'. ih a' (without j xs) (omega arith))

-- all that wait are waived, or not before the head
pub all_passed : (plan : DiePlan) (past : Log) (rounds : ℕ) (a : Accounts) (xs : List Job) → length xs ≤ rounds
    → AllByRecursion (IsPassed (choice_among plan past rounds a xs)) xs
all_passed plan past zero a [] le = tt
all_passed plan past zero a (x ∷ xs) le = absurd (omega arith)
all_passed plan past (suc rounds) a xs le =
    passed_chosen plan past rounds a xs (choice_among plan past rounds) (least xs) refl (omega arith) (none_before xs) (least_less xs)
    (all_passed plan past rounds)
