-- The worst of what is done.
use Rattle.std.proofs.Common.{◌≡◌, ℕ, ◌+◌, ◌≤◌, ◌==◌, ◌&&◌, ◌||◌, nat_lt, not, Bool, true, false, cond, List, [], ◌∷◌, Some, fold, filter}
use Rattle.std.proofs.Common.{refl, subst, arith, pos, ◌-ℤ◌, ◌≤ℤ◌}
use Rattle.std.proofs.lemmas.Int.{ints}
use Rattle.std.specs.Prelude.{Contains, int_lt}
use Rattle.std.specs.List.{AllByRecursion, reduce}
use Rattle.std.proofs.lemmas.Bool.Decides.{nat_tests}
use Rattle.std.proofs.lemmas.List.Elements.{All-contains, All-from_recursion, All-contains_itself, recursion_from_All}
use Rattle.slot_types.specs.declared.plans.DiePlan.{DiePlan}
use Rattle.die_log.specs.Model.Log.{Log, Job, jobs}
use Rattle.die_log.specs.Model.Work.{is_done, is_worse, worst, completion, IsWorst}
use Rattle.die_log.proofs.Choices.{OfSome}
use Rattle.die_log.proofs.LogInvariants.OneMoreEntry.{kept_both, best_all}
use Rattle.die_log.proofs.Legal.Runs.{kept_in}

-- below, a job by its completion, its deadline and its number

abbrev worse : ℕ → ℕ → ℕ → ℕ → ℕ → ℕ → Bool
worse c d n c' d' n' =
    int_lt (pos c' -ℤ pos d') (pos c -ℤ pos d) || (not (int_lt (pos c -ℤ pos d) (pos c' -ℤ pos d'))
    && (nat_lt c c' || ((c == c') && nat_lt n n')))

-- the first is no worse than the second
record Beyond (c d n c' d' n' : ℕ) : Type 0 where
  late : c + d' ≤ c' + d
  ended : c' + d ≤ c + d' → c' ≤ c
  number : c' + d ≤ c + d' → c ≤ c' → n' ≤ n

not_worse_late : (c d n c' d' n' : ℕ) → worse c d n c' d' n' ≡ false → c + d' ≤ c' + d
not_worse_late c d n c' d' n' h = grind (arith, nat_tests)

not_worse_ended : (c d n c' d' n' : ℕ) → worse c d n c' d' n' ≡ false → c' + d ≤ c + d' → c' ≤ c
not_worse_ended c d n c' d' n' h k = grind (arith, nat_tests)

not_worse_number : (c d n c' d' n' : ℕ) → worse c d n c' d' n' ≡ false → c' + d ≤ c + d' → c ≤ c' → n' ≤ n
not_worse_number c d n c' d' n' h k l = grind (arith, nat_tests)

after_if : (c d n c' d' n' : ℕ) → worse c d n c' d' n' ≡ false → Beyond c d n c' d' n'
after_if c d n c' d' n' h = record {
  late = not_worse_late c d n c' d' n' h;
  ended = not_worse_ended c d n c' d' n' h;
  number =
      not_worse_number c d n c' d' n' h;
}

-- of two one is after the other
turned_late : (c d n c' d' n' : ℕ) → worse c d n c' d' n' ≡ true → c' + d ≤ c + d'
turned_late c d n c' d' n' h = grind (arith, nat_tests)

turned_ended : (c d n c' d' n' : ℕ) → worse c d n c' d' n' ≡ true → c + d' ≤ c' + d → c ≤ c'
turned_ended c d n c' d' n' h k = grind (arith, nat_tests)

turned_number : (c d n c' d' n' : ℕ) → worse c d n c' d' n' ≡ true → c + d' ≤ c' + d → c' ≤ c → n ≤ n'
turned_number c d n c' d' n' h k l = grind (arith, nat_tests)

turned : (c d n c' d' n' : ℕ) → worse c d n c' d' n' ≡ true → Beyond c' d' n' c d n
turned c d n c' d' n' h = record {
  late = turned_late c d n c' d' n' h;
  ended = turned_ended c d n c' d' n' h;
  number = turned_number c d n
      c' d' n' h;
}

through : (c d n c' d' n' c'' d'' n'' : ℕ) → Beyond c d n c' d' n' → Beyond c' d' n' c'' d'' n'' → Beyond c d n c'' d'' n''
through c d n c' d' n' c'' d'' n'' h k = record {
  late = omega (arith, h.late, k.late);
  ended = λ e. omega (arith, h.ended (omega (arith, e, h.late, k.late)), k.ended (omega (arith, e, h.late, k.late)));
  number = λ e l.
      let one : c' + d ≤ c + d' = omega (arith, e, h.late, k.late) in
      let two : c'' + d' ≤ c' + d'' = omega (arith, e, h.late, k.late) in
      omega (arith, h.number one (omega (arith, l, k.ended two)), k.number two (omega (arith, l, h.ended one)));
}

-- Jobs of a log

abbrev NoWorse : Log → Job → Job → Type 0
NoWorse log i j = Beyond (completion i.number log) i.due i.number (completion j.number log) j.due j.number

abbrev worst_of_two : Log → Job → Job → Job
worst_of_two log best j = cond (is_worse log j best) j best

itself : (log : Log) (j : Job) → NoWorse log j j
itself log j = record { late = omega arith; ended = λ e. omega arith; number = λ e l. omega arith }

-- the worse of two is no better than either
of_two : (log : Log) (best j : Job) (b : Bool) → is_worse log j best ≡ b → NoWorse log best (cond b j best) × NoWorse log j (cond b j best)
of_two log best j true e = (
  turned (completion j.number log) j.due j.number (completion best.number log) best.due best.number e,
  itself log
      j,
)
of_two log best j false e = (
  itself log best,
  after_if (completion j.number log) j.due j.number (completion best.number log) best.due
      best.number e,
)

between : (log : Log) (i j k : Job) → NoWorse log i j → NoWorse log j k → NoWorse log i k
between log i j k = through (completion i.number log) i.due i.number (completion j.number log) j.due j.number (completion k.number log)
    k.due k.number

fold_worst : (log : Log) (best : Job) (xs : List Job) → NoWorse log best (fold (worst_of_two log) best xs)
    × AllByRecursion (λ i. NoWorse log i (fold (worst_of_two log) best xs)) xs
fold_worst log best [] = (itself log best, tt)
fold_worst log best (x ∷ xs) =
    let rest = fold_worst log (worst_of_two log best x) xs in
    let two = of_two log best x (is_worse log x best) refl in (
      between log best (worst_of_two log best x) (fold (worst_of_two log) (worst_of_two log best x) xs) two.0 rest.0,
      (between log x (worst_of_two log best x) (fold (worst_of_two log) (worst_of_two log best x) xs) two.1 rest.0, rest.1),
    )

reduce_worst : (log : Log) (xs : List Job) → OfSome (λ j. AllByRecursion (λ i. NoWorse log i j) xs) (reduce (worst_of_two log) xs)
reduce_worst log [] = tt
reduce_worst log (x ∷ xs) = let h = fold_worst log x xs in (h.0, h.1)

-- the worst stands, and is done
pub worst_stands : (plan : DiePlan) (log : Log) → OfSome (λ j. Contains (jobs log) j × (is_done plan log j ≡ true)) (worst plan log)
worst_stands plan log =
    best_all (λ j. Contains (jobs log) j × (is_done plan log j ≡ true)) (is_worse log) (filter (is_done plan log) (jobs log))
    (kept_both (Contains (jobs log)) (is_done plan log) (jobs log)
    (recursion_from_All (Contains (jobs log)) (jobs log) (All-contains_itself (jobs log))))

later : (c d c' d' : ℕ) → c + d' ≤ c' + d → (pos c -ℤ pos d) ≤ℤ (pos c' -ℤ pos d')
later c d c' d' h = omega (arith, ints)

sooner : (c d c' d' : ℕ) → (pos c -ℤ pos d) ≤ℤ (pos c' -ℤ pos d') → c + d' ≤ c' + d
sooner c d c' d' h = omega (arith, ints)

pub worst_is : (plan : DiePlan) (log : Log) (j : Job) → worst plan log ≡ Some j → IsWorst plan log j
worst_is plan log j is = record {
  stands = stands.0;
  done = stands.1;
  latest = λ i h d. later (completion i.number log) i.due (completion j.number log) j.due (each i h d).late;
  first = λ i h d e. (each i h d).ended (sooner (completion j.number log) j.due (completion i.number log) i.due e);
  least = λ i h d e l. (each i h d).number (sooner (completion j.number log) j.due (completion i.number log) i.due e) l;
}
  where
    stands : Contains (jobs log) j × (is_done plan log j ≡ true)
    stands = subst (OfSome (λ i. Contains (jobs log) i × (is_done plan log i ≡ true))) is (worst_stands plan log)

    all : AllByRecursion (λ i. NoWorse log i j) (filter (is_done plan log) (jobs log))
    all = subst (OfSome (λ k. AllByRecursion (λ i. NoWorse log i k) (filter (is_done plan log) (jobs log)))) is
        (reduce_worst log (filter (is_done plan log) (jobs log)))

    each : (i : Job) → Contains (jobs log) i → is_done plan log i ≡ true → NoWorse log i j
    each i h d =
        All-contains (λ k. is_done plan log k ≡ true → NoWorse log k j) (jobs log) i
        (All-from_recursion (λ k. is_done plan log k ≡ true → NoWorse log k j) (jobs log)
        (kept_in (is_done plan log) (λ k. NoWorse log k j) (jobs log) all)) h d
