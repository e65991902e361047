-- Numbers that others divide, and the greatest deadline, task by task.
use Rattle.std.proofs.Common.{◌≡◌, ℕ, zero, suc, ◌+◌, ◌*◌, ◌/◌, ◌%◌, ◌<◌, ◌≤◌, List, length, take, get_or, All, subst, arith}
use Rattle.std.specs.Prelude.{max}
use Rattle.std.specs.Int.{IsGcd}
use Rattle.std.proofs.Math.Nat.{mul-dvd-mul_left, le-mul_of_pos_right}
use Prim.Native.Nat.{◌∣◌}
use Rattle.std.proofs.lemmas.Nat.{div-add-mod'}
use Rattle.std.proofs.lemmas.Nat.Gcd.{dvd_of_mod-eq-zero, dvd_trans, mod-eq-zero_of_dvd}
use Rattle.std.proofs.lemmas.List.Elements.{All-more, All-weaker}
use Rattle.demand_rules.specs.declared.terms.TaskTerms.{TaskTerms}
use Rattle.demand_trials.specs.Repeats.{AreDueBy, Divide}

-- what divides a number divides what that divides
pub divides_more : (period common more : ℕ) → common % period ≡ 0 → more % common ≡ 0 → more % period ≡ 0
divides_more period common more once again =
    mod-eq-zero_of_dvd period (dvd_trans period (dvd_of_mod-eq-zero period once) (dvd_of_mod-eq-zero common again))

-- a number is its quotient by a divisor, times the divisor
parts_of : (n divisor : ℕ) → divisor ∣ n → n / divisor * divisor ≡ n
parts_of n divisor divides = omega (arith, div-add-mod' n divisor, mod-eq-zero_of_dvd divisor divides)

-- the quotient of one by a common divisor, times the other, is a multiple of the first
pub first_divides : (first second divisor : ℕ) → IsGcd first second divisor → (first / divisor * second) % first ≡ 0
first_divides first second divisor greatest =
    let parts = parts_of first divisor greatest.0 in
    mod-eq-zero_of_dvd first (subst (λ n. n ∣ first / divisor * second) parts (mul-dvd-mul_left divisor (first / divisor) greatest.1))

-- and is at least 1, where both are
pub some_both : (first second divisor : ℕ) → IsGcd first second divisor → 1 ≤ first → 1 ≤ second → 1 ≤ first / divisor * second
some_both first second divisor greatest some others = positive (first / divisor) second (quotient (first / divisor) (parts_of first divisor greatest.0)) others
  where
    quotient : (q : ℕ) → q * divisor ≡ first → 1 ≤ q
    quotient zero parts = absurd (omega (arith, parts, some))
    quotient (suc q) parts = omega arith

    positive : (a b : ℕ) → 1 ≤ a → 1 ≤ b → 1 ≤ a * b
    positive a b one two = omega (arith, one, le-mul_of_pos_right {m = b} a (omega (arith, two)))

-- of tasks that both periods divide a number, both divide each of its multiples
pub still_divide : (tasks : List TaskTerms) (common more : ℕ) → more % common ≡ 0 → All (Divide common) tasks → All (Divide more) tasks
still_divide tasks common more multiple = All-weaker (Divide common) (Divide more) (λ t divide. record {
  period = divides_more t.period common more divide.period multiple;
  collect_period = divides_more t.collect_period common more divide.collect_period multiple;
}) tasks

-- and what lies within a number of slots lies within more
pub still_due : (tasks : List TaskTerms) (far further : ℕ) → far ≤ further → All (AreDueBy far) tasks → All (AreDueBy further) tasks
still_due tasks far further le = All-weaker (AreDueBy far) (AreDueBy further) (λ t due. record {
  deadline = omega (arith, due.deadline, le);
  collect_deadline = omega (arith, due.collect_deadline, le);
}) tasks

-- the greatest deadline of one task more
pub with_next : (tasks : List TaskTerms) (i : ℕ) (d : TaskTerms) (far grown further : ℕ) → i < length tasks → grown ≡ max far (get_or tasks i d).deadline
    → further ≡ max grown (get_or tasks i d).collect_deadline → All (AreDueBy far) (take i tasks) → All (AreDueBy further) (take (i + 1) tasks)
with_next tasks i d far grown further lt jobs collections due = All-more (AreDueBy further) tasks i d lt
    (still_due (take i tasks) far further (omega (arith, jobs, collections)) due)
    record { deadline = omega (arith, jobs, collections); collect_deadline = omega (arith, collections) }
