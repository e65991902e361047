-- Counting the slots of a schedule.
use Rattle.std.proofs.Common.{◌≡◌, ℕ, zero, suc, ◌+◌, ◌-◌, ◌<◌, ◌≤◌, Bool, true, false, cond, eqb, ◌||◌, List, [], ◌∷◌, length, Option}
use Rattle.std.proofs.Common.{Some, None, count_by, sum_by, arith, refl, sym, ap, ◌∙◌, subst, eqb-true, eq-eqb, ne_eqb, AllPairs, All, inl}
use Rattle.std.proofs.Common.{inr}
use Rattle.std.proofs.lemmas.Bool.{true≢false, cases_Bool, false_from_ne_true, or_from, or_left, or_right, or_cases}
use Rattle.std.proofs.lemmas.List.Sums.{sum_by-cons}
use Rattle.std.proofs.lemmas.List.Elements.{All-tail}
use Rattle.late_cert.specs.Schedule.{Slots, slot_at, is_named, work_in, end_step, end_by}
use Rattle.late_cert.specs.Bound.{is_listed}

pub end_step-pos : (n : ℕ) → 0 < end_step true n
end_step-pos zero = omega arith
end_step-pos (suc n) = omega arith

pub end_step-more : (b : Bool) (t n : ℕ) → t < n → suc t < end_step b n
end_step-more b t zero h = absurd (omega arith)
end_step-more b t (suc n) h = omega arith

-- a slot that passes is below the end
pub slot-below-end : (p : Option ℕ → Bool) (f : Slots) (t : ℕ) → t < length f → p (slot_at f t) ≡ true → t < end_by p f
slot-below-end p [] t h e = absurd (omega arith)
slot-below-end p (x ∷ xs) zero h e = rw e (end_step-pos (end_by p xs))
slot-below-end p (x ∷ xs) (suc t) h e =
    let h' : t < length xs = omega arith in
    end_step-more (p x) t (end_by p xs) (slot-below-end p xs t h' e)

-- the slot just below the end passes
pub last-cons : (p : Option ℕ → Bool) (x : Option ℕ) (xs : Slots) (e n : ℕ) (b : Bool) → p x ≡ b
    → ((d : ℕ) → n ≡ suc d → p (slot_at xs d) ≡ true)
    → end_step b n ≡ suc e → p (slot_at (x ∷ xs) e) ≡ true
last-cons p x xs e zero true is below h = let z : e ≡ zero = omega arith in rw z is
last-cons p x xs e zero false is below h = absurd (omega arith)
last-cons p x xs e (suc n) b is below h = let z : e ≡ suc n = omega arith in rw z (below n refl)

pub slot-at-end : (p : Option ℕ → Bool) (f : Slots) (e : ℕ) → end_by p f ≡ suc e → p (slot_at f e) ≡ true
slot-at-end p [] e h = absurd (omega arith)
slot-at-end p (x ∷ xs) e h = last-cons p x xs e (end_by p xs) (p x) refl (λ d g. slot-at-end p xs d g) h

pub count-step : (b : Bool) (c n : ℕ) → c ≤ n → cond b 1 0 + c ≤ end_step b n
count-step true c zero h = omega arith
count-step false c zero h = omega arith
count-step true c (suc n) h = omega arith
count-step false c (suc n) h = omega arith

pub skip-step : (c n s : ℕ) → c ≤ n - s → c ≤ end_step false n - suc s
skip-step c zero s h = omega arith
skip-step c (suc n) s h = omega arith

-- slots that pass, none of them below s, do not fit below the end if they are too many
pub count-le-end : (p : Option ℕ → Bool) (f : Slots) (s : ℕ)
    → ((t : ℕ) → t < length f → p (slot_at f t) ≡ true → s ≤ t)
    → count_by p f ≤ end_by p f - s
count-le-end p [] s h = omega arith
count-le-end p (x ∷ xs) zero h =
    let ih : count_by p xs ≤ end_by p xs - 0 = count-le-end p xs 0 (λ t a b. omega arith) in
    let ih' : count_by p xs ≤ end_by p xs = omega arith in
    let step : cond (p x) 1 0 + count_by p xs ≤ end_step (p x) (end_by p xs) = count-step (p x) (count_by p xs) (end_by p xs) ih' in
    omega (arith, step, sum_by-cons (λ y. cond (p y) 1 0) x xs)
count-le-end p (x ∷ xs) (suc s) h =
    let fails : p x ≡ false = false_from_ne_true (p x) (λ e. let k : suc s ≤ 0 = h 0 (omega arith) e in absurd (omega arith)) in
    let ih : count_by p xs ≤ end_by p xs - s =
    count-le-end p xs s (λ t a b. let k : suc s ≤ suc t = h (suc t) (omega arith) b in omega arith) in
    let step : count_by p xs ≤ end_step false (end_by p xs) - suc s = skip-step (count_by p xs) (end_by p xs) s ih in
    let c : count_by p (x ∷ xs) ≡ cond (p x) 1 0 + count_by p xs = sum_by-cons (λ y. cond (p y) 1 0) x xs in
    let z : ◌≡◌ {A = ℕ} (cond (p x) 1 0) 0 = ap (λ b. cond b 1 0) fails in
    let c' : count_by p (x ∷ xs) ≡ count_by p xs = omega (arith, c, z) in
    let e : end_step (p x) (end_by p xs) ≡ end_step false (end_by p xs) = ap (λ b. end_step b (end_by p xs)) fails in
    omega (arith, step, c', e)

-- a slot that carries one of the jobs
abbrev pub is_one_of : List ℕ → Option ℕ → Bool
is_one_of js None = false
is_one_of js (Some k) = is_listed js k

pub apart : (j k : ℕ) (js : List ℕ) → is_listed js j ≡ false
    → cond (eqb j k || is_listed js k) 1 0 ≡ cond (eqb j k) 1 0 + cond (is_listed js k) 1 0
apart j k js fails =
    elim (cases_Bool (eqb j k)) [
      | inl passes ↦
          let e : is_listed js k ≡ false = ap (λ n. is_listed js n) (sym (eqb-true j k passes)) ∙ fails in
          rw (passes, e) (omega arith)
      | inr other ↦ rw other (omega arith)
    ]

pub apart-slot : (j : ℕ) (js : List ℕ) (o : Option ℕ) → is_listed js j ≡ false
    → cond (is_one_of (j ∷ js) o) 1 0 ≡ cond (is_named j o) 1 0 + cond (is_one_of js o) 1 0
apart-slot j js None fails = omega arith
apart-slot j js (Some k) fails = apart j k js fails

pub count-cons : (j : ℕ) (js : List ℕ) (f : Slots) → is_listed js j ≡ false
    → count_by (is_one_of (j ∷ js)) f ≡ count_by (is_named j) f + count_by (is_one_of js) f
count-cons j js [] fails = omega arith
count-cons j js (o ∷ f) fails =
    let a : count_by (is_one_of (j ∷ js)) (o ∷ f) ≡ cond (is_one_of (j ∷ js) o) 1 0 + count_by (is_one_of (j ∷ js)) f = sum_by-cons
    (λ y. cond (is_one_of (j ∷ js) y) 1 0) o f in
    let b : count_by (is_named j) (o ∷ f) ≡ cond (is_named j o) 1 0 + count_by (is_named j) f = sum_by-cons (λ y. cond (is_named j y) 1 0) o
    f in
    let c : count_by (is_one_of js) (o ∷ f) ≡ cond (is_one_of js o) 1 0 + count_by (is_one_of js) f = sum_by-cons
    (λ y. cond (is_one_of js y) 1 0) o f in
    omega (arith, a, b, c, apart-slot j js o fails, count-cons j js f fails)

pub count-nil : (f : Slots) → count_by (is_one_of []) f ≡ 0
count-nil [] = refl
count-nil (None ∷ f) = sum_by-cons (λ y. cond (is_one_of [] y) 1 0) None f ∙ omega (arith, count-nil f)
count-nil (Some k ∷ f) = sum_by-cons (λ y. cond (is_one_of [] y) 1 0) (Some k) f ∙ omega (arith, count-nil f)

-- each number is below all later ones
abbrev pub Rises : List ℕ → Type 0
Rises js = AllPairs (λ x y. x < y) js

pub rises-tail : (j : ℕ) (js : List ℕ) → Rises (j ∷ js) → Rises js
rises-tail j js r = λ a b d h k. r (suc a) (suc b) d (omega arith) (omega arith)

pub rises-head : (j : ℕ) (js : List ℕ) → Rises (j ∷ js) → All (λ y. j < y) js
rises-head j js r = λ k d h. r 0 (suc k) d (omega arith) (omega arith)

pub above-not-listed : (j : ℕ) (js : List ℕ) → All (λ y. j < y) js → is_listed js j ≡ false
above-not-listed j [] h = refl
above-not-listed j (k ∷ js) h =
    let lt : j < k = h 0 0 (omega arith) in
    let tail : is_listed js j ≡ false = above-not-listed j js (All-tail (λ y. j < y) k js h) in
    let ne : eqb k j ≡ false = ne_eqb k j (λ e. absurd (omega arith)) in
    or_from (eqb k j) (is_listed js j) ne tail

-- what holds of each member holds of a listed number
pub listed-all : (P : ℕ → Type 0) (js : List ℕ) → All P js → (k : ℕ) → is_listed js k ≡ true → P k
listed-all P [] h k l = absurd (true≢false (sym l))
listed-all P (j ∷ js) h k l =
    elim (or_cases (eqb j k) (is_listed js k) l) [
      | inl here ↦ subst P (eqb-true j k here) (h 0 0 (omega arith))
      | inr there ↦ listed-all P js (All-tail P j js h) k there
    ]

-- the slots that carry one of the jobs are those of each job
pub count-jobs : (js : List ℕ) (f : Slots) → Rises js → count_by (is_one_of js) f ≡ sum_by (work_in f) js
count-jobs [] f r = count-nil f
count-jobs (j ∷ js) f r =
    let s : sum_by (work_in f) (j ∷ js) ≡ work_in f j + sum_by (work_in f) js = sum_by-cons (work_in f) j js in
    let fails : is_listed js j ≡ false = above-not-listed j js (rises-head j js r) in
    omega (arith, s, count-cons j js f fails, count-jobs js f (rises-tail j js r))

-- sums of equal terms
pub sum-same : (g h : ℕ → ℕ) (js : List ℕ) → ((j : ℕ) → is_listed js j ≡ true → g j ≡ h j) → sum_by g js ≡ sum_by h js
sum-same g h [] e = refl
sum-same g h (j ∷ js) e =
    let a : sum_by g (j ∷ js) ≡ g j + sum_by g js = sum_by-cons g j js in
    let b : sum_by h (j ∷ js) ≡ h j + sum_by h js = sum_by-cons h j js in
    let here : g j ≡ h j = e j (or_left (eqb j j) (is_listed js j) (eq-eqb j j refl)) in
    omega (arith, a, b, here, sum-same g h js (λ k l. e k (or_right (eqb j k) (is_listed js k) l)))

-- a slot that carries a number names it
pub some-named : (j : ℕ) (o : Option ℕ) → o ≡ Some j → is_named j o ≡ true
some-named j o e = rw e (eq-eqb j j refl)
