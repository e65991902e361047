-- Lists of amounts, of which one is changed.
use Rattle.std.proofs.Common.{◌≡◌, ℕ, ◌+◌, ◌-◌, ◌*◌, suc, ◌<◌, ◌≤◌, cond, List, [], ◌∷◌, length, sum, get_or, slice_index, slice_set, inl}
use Rattle.std.proofs.Common.{inr, ap, refl, arith}
use Rattle.std.proofs.lemmas.Bool.{cases_eq, eq-eqb, ne_eqb}
use Rattle.std.proofs.lemmas.List.{length-set, get_or-set_same, get_or-set_other}
use Rattle.std.proofs.lemmas.List.Sums.{sum_by-set, sum_by-cons, get_or-le-sum_by}
use Rattle.die_log.specs.Invariants.TrueAccounts.{at_task}

abbrev pub added : List ℕ → ℕ → ℕ → List ℕ
added amounts task n = slice_set amounts task (slice_index amounts task + n)

abbrev pub taken : List ℕ → ℕ → ℕ → List ℕ
taken amounts task n = slice_set amounts task (slice_index amounts task - n)

pub at_itself : (task n : ℕ) → at_task task n task ≡ n
at_itself task n = ap (λ b. cond b n 0) (eq-eqb task task refl)

pub at_other : (task n i : ℕ) → (i ≡ task → ⊥) → at_task task n i ≡ 0
at_other task n i apart = ap (λ b. cond b n 0) (ne_eqb task i (λ e. apart (omega (arith, e))))

pub added_at : (xs : List ℕ) (task n i : ℕ) → task < length xs → get_or (added xs task n) i 0 ≡ get_or xs i 0 + at_task task n i
added_at xs task n i h =
    elim (cases_eq i task) [
      | inl e ↦ rw e (omega (arith, get_or-set_same xs task (get_or xs task 0 + n) 0 h, at_itself task n))
      | inr apart ↦ omega (arith, get_or-set_other xs task i (get_or xs task 0 + n) 0 apart, at_other task n i apart)
    ]

pub taken_at : (xs : List ℕ) (task n i : ℕ) → task < length xs → n ≤ get_or xs task 0 → get_or (taken xs task n) i 0 + at_task task n i
    ≡ get_or xs i 0
taken_at xs task n i h le =
    elim (cases_eq i task) [
      | inl e ↦ rw e (omega (arith, get_or-set_same xs task (get_or xs task 0 - n) 0 h, at_itself task n))
      | inr apart ↦ omega (arith, get_or-set_other xs task i (get_or xs task 0 - n) 0 apart, at_other task n i apart)
    ]

pub sum_added : (xs : List ℕ) (task n : ℕ) → task < length xs → sum (added xs task n) ≡ sum xs + n
sum_added xs task n h = omega (arith, sum_by-set (λ (x : ℕ). x) xs task (get_or xs task 0 + n) 0 h)

pub sum_taken : (xs : List ℕ) (task n : ℕ) → task < length xs → n ≤ get_or xs task 0 → sum (taken xs task n) + n ≡ sum xs
sum_taken xs task n h le = omega (arith, sum_by-set (λ (x : ℕ). x) xs task (get_or xs task 0 - n) 0 h)

pub one_le_sum : (xs : List ℕ) (task : ℕ) → task < length xs → get_or xs task 0 ≤ sum xs
one_le_sum xs task h = get_or-le-sum_by (λ (x : ℕ). x) xs task 0 h

pub length_added : (xs : List ℕ) (task n : ℕ) → length (added xs task n) ≡ length xs
length_added xs task n = length-set xs task (get_or xs task 0 + n)

pub length_taken : (xs : List ℕ) (task n : ℕ) → length (taken xs task n) ≡ length xs
length_taken xs task n = length-set xs task (get_or xs task 0 - n)

one-more : (n k : ℕ) → (n + 1) * k ≡ n * k + k
one-more n k = grind arith

pub sum_le : (xs : List ℕ) (m k : ℕ) → length xs ≡ k → ((i : ℕ) → i < k → get_or xs i 0 ≤ m) → sum xs ≤ k * m
sum_le [] m k e _ = omega arith
sum_le (x ∷ xs) m k e below =
    let is : k * m ≡ (length xs + 1) * m = ap (λ n. n * m) (omega (arith, e)) in
    omega (
      arith,
      sum_by-cons (λ (n : ℕ). n) x xs,
      below 0 (omega (arith, e)),
      sum_le xs m (length xs) refl
          (λ i h. below (suc i) (omega (arith, h, e))),
      is,
      one-more (length xs) m,
    )
