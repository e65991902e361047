-- Least common multiples.
use Rattle.std.proofs.Common.{◌≡◌, ℕ, zero, suc, ◌+◌, ◌*◌, ◌/◌, ◌%◌, ◌<◌, ◌≤◌, List, Option, Some, None, get_or, inl, inr, refl, sym, subst, ◌∙◌, arith}
use Rattle.std.proofs.Math.Nat.{div-mul-le_self, div-mul_cancel, mod-one, mul-div-le, mul-le-mul_left, dvd-mod_iff, dvd-mul_right, lt_of_mul-lt-mul_left}
use Rattle.slot_types.specs.declared.plans.TaskTimes.{TaskTimes}
use Rattle.flashplan_design.specs.Commons.{Divide, FindsDivisor, FindsLeastCommon, IsCommonMultiple}
use Rattle.flashplan_design.specs.declared.commons.Periods.{Periods}
use Rattle.flashplan_design.specs.declared.commons.Periods.TheVariants as periods
use Rattle.std.proofs.lemmas.Bool.{cases_order}
use Rattle.std.proofs.lemmas.Nat.{le-div, mod_below}
use Rattle.std.proofs.lemmas.Nat.Gcd.{dvd_of_mod-eq-zero, dvd_trans, le_of_dvd, mod-eq-zero_of_dvd}

-- the times of a task that isn't there
abbrev pub nobody : TaskTimes
nobody = record { period = 0; collect_period = 0; work = 0; writes = 0 }

-- what divides a divisor divides the number
pub through : (a b n : ℕ) → b % a ≡ 0 → n % b ≡ 0 → n % a ≡ 0
through a b n one other = mod-eq-zero_of_dvd a (dvd_trans a (dvd_of_mod-eq-zero a one) (dvd_of_mod-eq-zero b other))

-- a multiple is no smaller
pub no_less : (m n : ℕ) → 1 ≤ n → n % m ≡ 0 → m ≤ n
no_less m n some whole = le_of_dvd some (dvd_of_mod-eq-zero m whole)

-- a multiple, by its quotient
filled : (of n : ℕ) → n % of ≡ 0 → of * (n / of) ≡ n
filled of n whole = turned of (n / of) ∙ div-mul_cancel of (dvd_of_mod-eq-zero of whole)
  where
    turned : (a b : ℕ) → a * b ≡ b * a
    turned a b = grind arith

pub multiple_divides : (of k : ℕ) → (of * k) % of ≡ 0
multiple_divides of k = mod-eq-zero_of_dvd of (dvd-mul_right of k)

-- a remainder of common multiples is one, too
remains : (a m n : ℕ) → m % a ≡ 0 → n % a ≡ 0 → (n % m) % a ≡ 0
remains a m n one other =
    mod-eq-zero_of_dvd a ((dvd-mod_iff a (dvd_of_mod-eq-zero a one)).1 (dvd_of_mod-eq-zero a other))

none_left : (of period k r : ℕ) → r % of ≡ 0 → r % period ≡ 0 → r < of * k
    → ((j : ℕ) → 1 ≤ j → j < k → ¬ ((of * j) % period ≡ 0)) → r ≡ 0
none_left of period k zero whole part less none = refl
none_left of period k (suc r) whole part less none =
    let fill : of * (suc r / of) ≡ suc r = filled of (suc r) whole in
    absurd (none (suc r / of) (some of (suc r / of) r fill) (lt_of_mul-lt-mul_left of (subst (λ x. x < of * k) (sym fill) less))
    (subst (λ x. x % period ≡ 0) (sym fill) part))
  where
    some : (of q r : ℕ) → of * q ≡ suc r → 1 ≤ q
    some of zero r e = absurd (omega (arith, e, nothing of))
      where
        nothing : (k : ℕ) → k * 0 ≡ 0
        nothing k = grind arith
    some of (suc q) r e = omega arith

-- the least common multiple of two numbers divides each other one
pub least_divides : (of period k n : ℕ) → 1 ≤ of * k → (of * k) % period ≡ 0
    → ((j : ℕ) → 1 ≤ j → j < k → ¬ ((of * j) % period ≡ 0)) → n % of ≡ 0 → n % period ≡ 0 → n % (of * k) ≡ 0
least_divides of period k n some own none whole part =
    none_left of period k (n % (of * k)) (remains of (of * k) n (multiple_divides of k) whole) (remains period (of * k) n own part)
    (mod_below n (of * k) some) none

-- and where none of the multiples up to a number is one, none is
pub none_divides : (of period most n last : ℕ) → 1 ≤ of → most ≡ last / of → 1 ≤ n → n ≤ last
    → ((j : ℕ) → 1 ≤ j → j < most + 1 → ¬ ((of * j) % period ≡ 0)) → n % of ≡ 0 → n % period ≡ 0 → ⊥
none_divides of period most n last one is some few none whole part =
    let fill : of * (n / of) ≡ n = filled of n whole in
    none (n / of) (quotient_some of (n / of) n some fill) (omega (arith, is, quotient_few of n last one few))
    (subst (λ x. x % period ≡ 0) (sym fill) part)
  where
    quotient_some : (of q n : ℕ) → 1 ≤ n → of * q ≡ n → 1 ≤ q
    quotient_some of zero n some e = absurd (omega (arith, some, e, nothing of))
      where
        nothing : (k : ℕ) → k * 0 ≡ 0
        nothing k = grind arith
    quotient_some of (suc q) n some e = omega arith

    quotient_few : (of n last : ℕ) → 1 ≤ of → n ≤ last → n / of ≤ last / of
    quotient_few of n last one le = le-div (n / of) last of one (omega (arith, le, div-mul-le_self n of))

pub divide_through : (which : Periods) (m n : ℕ) (t : TaskTimes) → n % m ≡ 0 → Divide which m t → Divide which n t
divide_through periods.All m n t whole d = (through t.period m n d.0 whole, through t.collect_period m n d.1 whole)
divide_through periods.Collect m n t whole d = through t.collect_period m n d whole

pub some_product : (a b : ℕ) → 1 ≤ a → 1 ≤ b → 1 ≤ a * b
some_product (suc a) (suc b) one other = less a b
  where
    less : (a b : ℕ) → 1 ≤ suc a * suc b
    less a b = grind arith
some_product zero b one other = absurd (omega (arith, one))
some_product (suc a) zero one other = absurd (omega (arith, other))

pub few_product : (of times last : ℕ) → times ≤ last / of → of * times ≤ last
few_product of times last le = omega (arith, mul-le-mul_left of le, mul-div-le last of)

-- the step to the next task
pub next_divided : (which : Periods) (multiple next index : ℕ) (tasks : List TaskTimes) → next % multiple ≡ 0
    → Divide which next (get_or tasks index nobody) → ((j : ℕ) → j < index → Divide which multiple (get_or tasks j nobody))
    → (j : ℕ) → j < index + 1 → Divide which next (get_or tasks j nobody)
next_divided which multiple next index tasks whole at below j lt = elim (cases_order j index) [
  | inl same ↦ subst (λ k. Divide which next (get_or tasks k nobody)) (sym same) at
  | inr (inl less) ↦ divide_through which multiple next (get_or tasks j nobody) whole (below j less)
  | inr (inr more) ↦ absurd (omega (arith, lt, more))
]

-- such a number is the least
pub least_found : (which : Periods) (tasks : List TaskTimes) (found : Option ℕ) → FindsDivisor (IsCommonMultiple which 1 tasks) found
    → FindsLeastCommon which tasks found
least_found which tasks None none = λ n one few all. none n one few (mod-one n, all)
least_found which tasks (Some m) d = record {
  some = d.some;
  divided = d.own.1;
  least = λ fewer one less all. omega (arith, less, no_less m fewer one (d.all fewer (mod-one fewer, all)));
}
