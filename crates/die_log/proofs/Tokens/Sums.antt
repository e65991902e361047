-- Sums over jobs, of which one changes.
use Rattle.std.proofs.Common.{◌≡◌, ℕ, zero, suc, ◌+◌, ◌≤◌, ◌==◌, ◌&&◌, Bool, true, false, cond, eqb, List, [], ◌∷◌, sum_by, count_by, Some}
use Rattle.std.proofs.Common.{refl, ap, sym, ◌∙◌, arith, slice_get}
use Rattle.std.specs.List.{AllByRecursion}
use Rattle.std.proofs.lemmas.Bool.{eq-eqb, and_from}
use Rattle.std.proofs.lemmas.Option.{same_Some}
use Rattle.std.proofs.lemmas.List.Sums.{sum_by-cons}
use Rattle.slot_types.specs.declared.plans.DiePlan.{DiePlan}
use Rattle.slot_types.specs.declared.acts.Act.{Act}
use Rattle.die_log.specs.Model.Log.{Job}
use Rattle.die_log.specs.Invariants.TrueAccounts.{at_task, left_of, held_of, is_pending, copied_of, lent_of, lent_to, pending_of}

pub sum_same : {X : Type 0} (f g : X → ℕ) (xs : List X) → ((k : ℕ) (y : X) → slice_get xs k ≡ Some y → f y ≡ g y) → sum_by f xs
    ≡ sum_by g xs
sum_same f g [] h = refl
sum_same f g (x ∷ xs) h = omega (arith, sum_by-cons f x xs, sum_by-cons g x xs, h zero x refl, sum_same f g xs (λ k y e. h (suc k) y e))

-- one has d more, and the others are the same
pub sum_at : {X : Type 0} (f g : X → ℕ) (d : ℕ) (xs : List X) (k : ℕ) (x : X) → slice_get xs k ≡ Some x → f x ≡ g x + d
    → ((m : ℕ) (y : X) → slice_get xs m ≡ Some y → (m ≡ k → ⊥) → f y ≡ g y) → sum_by f xs ≡ sum_by g xs + d
sum_at f g d [] k x e more same = absurd cc
sum_at f g d (z ∷ xs) zero x e more same =
    let is : z ≡ x = same_Some z x e in
    let here : f z ≡ g z + d = rw is more in
    omega (
      arith,
      sum_by-cons f z xs,
      sum_by-cons g z xs,
      here,
      sum_same f g xs
          (λ m y i. same (suc m) y i (λ h. absurd (omega (arith, h)))),
    )
sum_at f g d (z ∷ xs) (suc k) x e more same =
    omega (
      arith,
      sum_by-cons f z xs,
      sum_by-cons g z xs,
      same zero z refl (λ h. absurd (omega (arith, h))),
      sum_at f g d xs k x e more
          (λ m y i apart. same (suc m) y i (λ h. apart (omega (arith, h)))),
    )

pub le_at : {X : Type 0} (f g : X → ℕ) (xs : List X) → ((k : ℕ) (y : X) → slice_get xs k ≡ Some y → f y ≤ g y) → sum_by f xs ≤ sum_by g xs
le_at f g [] h = omega arith
le_at f g (x ∷ xs) h = omega (arith, sum_by-cons f x xs, sum_by-cons g x xs, h zero x refl, le_at f g xs (λ k y e. h (suc k) y e))

abbrev pub one_if : Bool → ℕ
one_if b = cond b 1 0

abbrev pub some_if : Bool → ℕ → ℕ
some_if b n = cond b n 0

-- where at most one passes, those that don't count nothing
pub sum_none : {X : Type 0} (p : X → Bool) (f : X → ℕ) (xs : List X) → count_by p xs ≤ 0 → ((y : X) → p y ≡ false → f y ≡ 0) → sum_by f xs
    ≡ 0
sum_none p f [] few none = refl
sum_none p f (x ∷ xs) few none = omega (
  arith,
  sum_by-cons f x xs,
  none x
      (fails (p x) (omega (arith, sum_by-cons (λ y. cond (p y) 1 0) x xs))),
  sum_none p f xs
      (omega (arith, sum_by-cons (λ y. cond (p y) 1 0) x xs)) none,
)
  where
    fails : (b : Bool) → cond b 1 0 ≤ 0 → b ≡ false
    fails true le = absurd (omega (arith, le))
    fails false le = refl

pub some_pass : {X : Type 0} (p : X → Bool) (xs : List X) (k : ℕ) (x : X) → slice_get xs k ≡ Some x → p x ≡ true → 1 ≤ count_by p xs
some_pass p [] k x e is = absurd cc
some_pass p (y ∷ ys) zero x e is =
    let here : p y ≡ true = rw (same_Some y x e) is in
    omega (arith, sum_by-cons (λ v. cond (p v) 1 0) y ys, ap one_if here)
some_pass p (y ∷ ys) (suc k) x e is = omega (arith, sum_by-cons (λ v. cond (p v) 1 0) y ys, some_pass p ys k x e is)

by_first : {X : Type 0} (p : X → Bool) (f : X → ℕ) (z : X) (xs : List X) (k : ℕ) (x : X) (b : Bool) → p z ≡ b → count_by p (z ∷ xs) ≤ 1
    → slice_get xs k ≡ Some x → p x ≡ true
    → ((y : X) → p y ≡ false → f y ≡ 0) → (count_by p xs ≤ 1 → sum_by f xs ≡ f x) → sum_by f (z ∷ xs) ≡ f x
by_first p f z xs k x true here few e is none rest = absurd
    (omega (arith, few, sum_by-cons (λ v. cond (p v) 1 0) z xs, ap one_if here, some_pass p xs k x e is))
by_first p f z xs k x false here few e is none rest = omega
    (arith, sum_by-cons f z xs, none z here, rest (omega (arith, few, sum_by-cons (λ v. cond (p v) 1 0) z xs)))

pub sum_one : {X : Type 0} (p : X → Bool) (f : X → ℕ) (xs : List X) (k : ℕ) (x : X) → count_by p xs ≤ 1 → slice_get xs k ≡ Some x → p x
    ≡ true → ((y : X) → p y ≡ false → f y ≡ 0) → sum_by f xs ≡ f x
sum_one p f [] k x few e is none = absurd cc
sum_one p f (z ∷ xs) zero x few e is none =
    let same : z ≡ x = same_Some z x e in
    let here : p z ≡ true = rw same is in
    omega (
      arith,
      sum_by-cons f z xs,
      ap f same,
      sum_none p f xs
          (omega (arith, few, sum_by-cons (λ y. cond (p y) 1 0) z xs, ap one_if here)) none,
    )
sum_one p f (z ∷ xs) (suc k) x few e is none = by_first p f z xs k x (p z) refl few e is none (λ le. sum_one p f xs k x le e is none)

pub all_at : {X : Type 0} (P : X → Type 0) (xs : List X) (k : ℕ) (x : X) → AllByRecursion P xs → slice_get xs k ≡ Some x → P x
all_at P [] k x h e = absurd cc
all_at P (y ∷ xs) zero x h e = rw (sym (same_Some y x e)) h.0
all_at P (y ∷ xs) (suc k) x h e = all_at P xs k x h.1 e

pub at_sum : (task m n t : ℕ) → at_task task (m + n) t ≡ at_task task m t + at_task task n t
at_sum task m n t = either (eqb task t)
  where
    either : (b : Bool) → cond b (m + n) 0 ≡ cond b m 0 + cond b n 0
    either true = refl
    either false = refl

-- Held

pub held_same : (own own' : ℕ → List Act) (js : List Job) → ((k : ℕ) (i : Job) → slice_get js k ≡ Some i → left_of own i ≡ left_of own' i)
    → (t : ℕ) → held_of own js t ≡ held_of own' js t
held_same own own' js h t = sum_same (λ i. at_task i.task (left_of own i) t) (λ i. at_task i.task (left_of own' i) t) js
    (λ k i e. ap (λ n. at_task i.task n t) (h k i e))

pub held_at : (own own' : ℕ → List Act) (js : List Job) (d k : ℕ) (j : Job) → slice_get js k ≡ Some j → left_of own j ≡ left_of own' j + d
    → ((m : ℕ) (i : Job) → slice_get js m ≡ Some i → (m ≡ k → ⊥) → left_of own i ≡ left_of own' i) → (t : ℕ) → held_of own js t
    ≡ held_of own' js t + at_task j.task d t
held_at own own' js d k j e more same t =
    sum_at (λ i. at_task i.task (left_of own i) t) (λ i. at_task i.task (left_of own' i) t) (at_task j.task d t) js k j e
    (ap (λ n. at_task j.task n t) more ∙ at_sum j.task (left_of own' j) d t)
    (λ m i is apart. ap (λ n. at_task i.task n t) (same m i is apart))

-- Lent

pub lent_same : (plan : DiePlan) (own own' : ℕ → List Act) (gone gone' : ℕ → Bool) (js : List Job)
    → ((k : ℕ) (i : Job) → slice_get js k ≡ Some i → lent_of plan own gone i ≡ lent_of plan own' gone' i)
    → (t : ℕ) → lent_to plan own gone js t ≡ lent_to plan own' gone' js t
lent_same plan own own' gone gone' js h t = sum_same (λ i. at_task i.task (lent_of plan own gone i) t)
    (λ i. at_task i.task (lent_of plan own' gone' i) t) js (λ k i e. ap (λ n. at_task i.task n t) (h k i e))

pub lent_at : (plan : DiePlan) (own own' : ℕ → List Act) (gone gone' : ℕ → Bool) (js : List Job) (d k : ℕ) (j : Job) → slice_get js k
    ≡ Some j → lent_of plan own gone j ≡ lent_of plan own' gone' j + d
    → ((m : ℕ) (i : Job) → slice_get js m ≡ Some i → (m ≡ k → ⊥) → lent_of plan own gone i ≡ lent_of plan own' gone' i)
    → (t : ℕ) → lent_to plan own gone js t ≡ lent_to plan own' gone' js t + at_task j.task d t
lent_at plan own own' gone gone' js d k j e more same t =
    sum_at (λ i. at_task i.task (lent_of plan own gone i) t) (λ i. at_task i.task (lent_of plan own' gone' i) t) (at_task j.task d t) js k j
    e
    (ap (λ n. at_task j.task n t) more ∙ at_sum j.task (lent_of plan own' gone' j) d t)
    (λ m i is apart. ap (λ n. at_task i.task n t) (same m i is apart))

-- with at most one pending collection a task, what the task is lent is what that one copied
pub not_pending : (e b : Bool) (n : ℕ) → (e && b) ≡ false → cond e (cond b n 0) 0 ≡ 0
not_pending true true n h = absurd cc
not_pending true false n h = refl
not_pending false b n h = refl

pub lent_alone : (plan : DiePlan) (own : ℕ → List Act) (gone : ℕ → Bool) (js : List Job) (k : ℕ) (j : Job)
    → pending_of plan own gone js j.task ≤ 1 → slice_get js k ≡ Some j → is_pending plan own gone j ≡ true
    → lent_to plan own gone js j.task ≡ copied_of own j
lent_alone plan own gone js k j few e is =
    let itself : eqb j.task j.task ≡ true = eq-eqb j.task j.task refl in
    sum_one (λ i. (i.task == j.task) && is_pending plan own gone i) (λ i. at_task i.task (lent_of plan own gone i) j.task) js k j few e
    (and_from (eqb j.task j.task) (is_pending plan own gone j) itself is)
    (λ i no. not_pending (eqb i.task j.task) (is_pending plan own gone i) (copied_of own i) no)
    ∙ (ap (λ b. cond b (lent_of plan own gone j) 0) itself ∙ ap (λ b. cond b (copied_of own j) 0) is)
