-- Counting the slots below an end by what they carry.
use Rattle.std.proofs.Common.{◌≡◌, ℕ, zero, suc, ◌+◌, ◌<◌, ◌≤◌, ◌==◌, ◌&&◌, ◌||◌, Bool, true, false, cond, List, [], ◌∷◌, length, map, take}
use Rattle.std.proofs.Common.{Option, Some, None, option_map, count_by, sum_by, refl, sym, ap, ◌∙◌, arith}
use Rattle.std.specs.Prelude.{Contains}
use Rattle.std.specs.List.{AllByRecursion, list_any, filter_map, cons_option}
use Rattle.std.proofs.lemmas.Bool.{true≢false, eq-eqb}
use Rattle.std.proofs.lemmas.Bool.Decides.{nat_tests}
use Rattle.std.proofs.lemmas.Option.{none-some}
use Rattle.std.proofs.lemmas.List.Sums.{sum_by-cons}
use Rattle.slot_types.specs.declared.acts.Act.{Act}
use Rattle.late_cert.specs.Schedule.{Slots, slot_at, is_named, work_in}
use Rattle.die_log.specs.Model.Log.{Log, Job, Carried, carried_slots, act_of, work}
use Rattle.die_log.specs.Model.Rows.{carried_numbers}

count_cons : (p : Option ℕ → Bool) (o : Option ℕ) (f : Slots) → count_by p (o ∷ f) ≡ cond (p o) 1 0 + count_by p f
count_cons p o f = sum_by-cons (λ y. cond (p y) 1 0) o f

one_by : (b : Bool) → b ≡ true → ◌≡◌ {A = ℕ} (cond b 1 0) 1
one_by b e = ap (λ c. cond c 1 0) e

-- where each slot from `start` on passes, below `end`, as many pass as there are between them
pub filled : (p : Option ℕ → Bool) (f : Slots) (start end : ℕ) → end ≤ length f → ((t : ℕ) → start ≤ t → t < end → p (slot_at f t) ≡ true)
    → end ≤ start + count_by p (take end f)
filled p f start zero le pass = omega arith
filled p [] start (suc end) le pass = absurd (omega (arith, le))
filled p (o ∷ f) zero (suc end) le pass =
    omega (
      arith,
      count_cons p o (take end f),
      one_by (p o) (pass 0 (omega arith) (omega arith)),
      filled p f 0 end (omega (arith, le))
          (λ t a b. pass (suc t) (omega arith) (omega (arith, b))),
    )
filled p (o ∷ f) (suc start) (suc end) le pass =
    omega (
      arith,
      count_cons p o (take end f),
      filled p f start end (omega (arith, le))
          (λ t a b. pass (suc t) (omega (arith, a)) (omega (arith, b))),
    )

-- a slot at the end or after it is not counted below the end
pub one_after : (n : ℕ) (f : Slots) (end t : ℕ) → end ≤ t → slot_at f t ≡ Some n → work_in (take end f) n < work_in f n
one_after n [] end t le e = absurd (none-some n e)
one_after n (o ∷ f) zero zero le e = omega (
  arith,
  count_cons (is_named n) o f,
  one_by (is_named n o) (ap (is_named n) e
      ∙ eq-eqb n n refl),
)
one_after n (o ∷ f) zero (suc t) le e = omega (arith, count_cons (is_named n) o f, one_after n f zero t (omega arith) e)
one_after n (o ∷ f) (suc end) zero le e = absurd (omega (arith, le))
one_after n (o ∷ f) (suc end) (suc t) le e = omega (
  arith,
  count_cons (is_named n) o f,
  count_cons (is_named n) o (take end f),
  one_after
      n f end t (omega (arith, le)) e,
)

-- The slots of chosen jobs

-- the slot carries a chosen one
abbrev pub carries_one : (Job → Bool) → List Job → Option ℕ → Bool
carries_one chosen js o = list_any (λ j. chosen j && is_named j.number o) js

either_or : (a b : Bool) → cond (a || b) 1 0 ≤ cond a 1 0 + cond b 1 0
either_or true b = omega arith
either_or false b = omega arith

count_none : (f : Slots) → count_by (λ o. false) f ≡ 0
count_none [] = refl
count_none (o ∷ f) = omega (arith, count_cons (λ o. false) o f, count_none f)

count_either : (p q : Option ℕ → Bool) (f : Slots) → count_by (λ o. p o || q o) f ≤ count_by p f + count_by q f
count_either p q [] = omega arith
count_either p q (o ∷ f) = omega (
  arith,
  count_cons (λ o. p o || q o) o f,
  count_cons p o f,
  count_cons q o f,
  either_or (p o) (q o),
  count_either p q f,
)

count_chosen : (b : Bool) (p : Option ℕ → Bool) (f : Slots) → count_by (λ o. b && p o) f ≤ cond b (count_by p f) 0
count_chosen true p f = omega arith
count_chosen false p f = omega (arith, count_none f)

-- no more slots carry chosen ones than these have
pub count_carried : (chosen : Job → Bool) (js : List Job) (f : Slots) → count_by (carries_one chosen js) f
    ≤ sum_by (λ j. cond (chosen j) (work_in f j.number) 0) js
count_carried chosen [] f = omega (arith, count_none f)
count_carried chosen (j ∷ js) f =
    omega (
      arith,
      sum_by-cons (λ i. cond (chosen i) (work_in f i.number) 0) j js,
      count_either (λ o. chosen j && is_named j.number o) (carries_one chosen js) f,
      count_chosen (chosen j) (is_named j.number) f,
      count_carried chosen js f,
    )

-- one smaller term makes a sum smaller
pub sum_by_less : {X : Type 0} (f g : X → ℕ) (xs : List X) (x : X) → Contains xs x → AllByRecursion (λ y. f y ≤ g y) xs → f x < g x
    → sum_by f xs < sum_by g xs
sum_by_less f g [] x h le lt = absurd (omega (arith, h.1))
sum_by_less f g (y ∷ xs) x (zero, inside, is) le lt = omega
    (arith, sum_by-cons f y xs, sum_by-cons g y xs, ap f is, ap g is, lt, each f g xs le.1)
  where
    each : {X : Type 0} (f g : X → ℕ) (xs : List X) → AllByRecursion (λ y. f y ≤ g y) xs → sum_by f xs ≤ sum_by g xs
    each f g [] h = omega arith
    each f g (x ∷ xs) h = omega (arith, sum_by-cons f x xs, sum_by-cons g x xs, h.0, each f g xs h.1)
sum_by_less f g (y ∷ xs) x (suc i, inside, is) le lt = omega
    (arith, sum_by-cons f y xs, sum_by-cons g y xs, le.0, sum_by_less f g xs x (i, omega (arith, inside), is) le.1 lt)

-- Work of a log, by its slots

same_test : (n k : ℕ) → (n == k) ≡ (k == n)
same_test n k = grind (arith, nat_tests)

with_act : (own named : Bool) (act : Act) (rest : List Act) → named ≡ own → length (cons_option (cond own (Some act) None) rest)
    ≡ cond named 1 0 + length rest
with_act true true act rest e = omega arith
with_act true false act rest e = absurd (true≢false (sym e))
with_act false true act rest e = absurd (true≢false e)
with_act false false act rest e = omega arith

pub work_carried : (n : ℕ) (log : Log) → work_in (carried_numbers log) n ≡ work n log
work_carried n log = by_slot (carried_slots log)
  where
    by_slot : (cs : List Carried) → count_by (is_named n) (map (λ c. option_map (λ ran. ran.0) c) cs)
        ≡ length (filter_map (λ c. act_of n c) cs)
    by_slot [] = refl
    by_slot (None ∷ cs) = omega (arith, count_cons (is_named n) None (map (λ c. option_map (λ ran. ran.0) c) cs), by_slot cs)
    by_slot (Some (k, act) ∷ cs) =
        omega (
          arith,
          count_cons (is_named n) (Some k) (map (λ c. option_map (λ ran. ran.0) c) cs),
          with_act (k == n) (n == k) act (filter_map (λ c. act_of n c) cs) (same_test n k),
          by_slot cs,
        )
