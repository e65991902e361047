-- The inequality that covers a task's next job, and what each kind of event does to it: over plain numbers.
--
-- Let `since` be the slot in which a collection last filled the task up to its cap, except for what was held, or else
-- 0. What was held then was for jobs that are due after it. Each collection that closed since then gave alpha pages,
-- and of those that came by then there are at most since / q + 1. So with `owed` the writes of all jobs that are due
-- after it, and at first what the start lacked, and with any share of `rate` pages in `span` slots that the collections
-- give at least (rate * q ≤ span * alpha),
--
--     span * cap + rate * q * count ≤ span * balance + span * owed + rate * (since + q) + rate * q * pending
use Rattle.std.proofs.Common.{◌≡◌, ℕ, ◌+◌, ◌-◌, ◌*◌, ◌<◌, ◌≤◌, ap, inl, inr, arith}
use Rattle.std.proofs.lemmas.Bool.{cases_lt}
use Rattle.std.proofs.Math.Nat.{mul-le-mul_left, le_of_mul-le-mul_left}

times_sum : (k a b : ℕ) → k * (a + b) ≡ k * a + k * b
times_sum k a b = grind arith

times_one : (k : ℕ) → k * 1 ≡ k
times_one k = grind arith

-- a slot passes, and nothing is closed
pub kept : (span rate q ago cap bal bal' owed count since pend pend' : ℕ)
    → span * cap + rate * q * count + rate * ago ≤ span * bal + span * owed + rate * (since + q) + rate * q * pend → bal ≤ bal' → pend ≤ pend'
    → span * cap + rate * q * count + rate * ago ≤ span * bal' + span * owed + rate * (since + q) + rate * q * pend'
kept span rate q ago cap bal bal' owed count since pend pend' h le more = omega
    (arith, h, mul-le-mul_left span le, mul-le-mul_left (rate * q) more)

-- a collection is closed and gives alpha pages
pub given : (span rate q alpha ago cap bal bal' owed count since pend pend' : ℕ)
    → span * cap + rate * q * count + rate * ago ≤ span * bal + span * owed + rate * (since + q) + rate * q * pend → bal + alpha ≤ bal' → pend ≤ 1
    → rate * q ≤ span * alpha
    → span * cap + rate * q * count + rate * ago ≤ span * bal' + span * owed + rate * (since + q) + rate * q * pend'
given span rate q alpha ago cap bal bal' owed count since pend pend' h le one share =
    omega (arith, h, mul-le-mul_left span le, times_sum span bal alpha, share, mul-le-mul_left (rate * q) one, times_one (rate * q))

-- a collection is closed and fills up to the cap, except for what is held
pub filled : (span rate q cap bal' held owed count since pend' : ℕ) → cap ≤ bal' + held → held ≤ owed → q * count ≤ since + q
    → span * cap + rate * q * count + rate * 0 ≤ span * bal' + span * owed + rate * (since + q) + rate * q * pend'
filled span rate q cap bal' held owed count since pend' full few some =
    let all : cap ≤ bal' + owed = omega (arith, full, few) in
    let by_three : rate * (q * count) ≡ rate * q * count = grind arith in
    let none : rate * 0 ≡ 0 = grind arith in
    omega (arith, none, mul-le-mul_left span all, times_sum span bal' owed, mul-le-mul_left rate some, by_three)

-- a job is taken
pub taken : (span rate q ago cap bal bal' wants owed owed' count since pend : ℕ)
    → span * cap + rate * q * count + rate * ago ≤ span * bal + span * owed + rate * (since + q) + rate * q * pend → bal' + wants ≡ bal
    → owed + wants ≤ owed'
    → span * cap + rate * q * count + rate * ago ≤ span * bal' + span * owed' + rate * (since + q) + rate * q * pend
taken span rate q ago cap bal bal' wants owed owed' count since pend h is more =
    let before : bal ≤ bal' + wants = omega (arith, is) in
    omega (arith, h, mul-le-mul_left span before, times_sum span bal' wants, mul-le-mul_left span more, times_sum span owed wants)

-- a collection is taken
pub opened : (span rate q ago cap bal owed count since pend pend' : ℕ)
    → span * cap + rate * q * count + rate * ago ≤ span * bal + span * owed + rate * (since + q) + rate * q * pend → pend + 1 ≤ pend'
    → span * cap + rate * q * (count + 1) + rate * ago ≤ span * bal + span * owed + rate * (since + q) + rate * q * pend'
opened span rate q ago cap bal owed count since pend pend' h one =
    omega (arith, h, times_sum (rate * q) count 1, times_one (rate * q), mul-le-mul_left (rate * q) one, times_sum (rate * q) pend 1)

-- at the start
pub started : (span rate q ago owed cap bal : ℕ) → span * cap + rate * ago ≤ span * (bal + owed) + rate * q
    → span * cap + rate * q * 0 + rate * ago ≤ span * bal + span * (0 + owed) + rate * (0 + q) + rate * q * 0
started span rate q ago owed cap bal h =
    let none : rate * q * 0 ≡ 0 = grind arith in
    let own : rate * (0 + q) ≡ rate * q = grind arith in
    let all : span * (0 + owed) ≡ span * owed = grind arith in
    omega (arith, h, times_sum span bal owed, none, own, all)

-- what is lacked beyond alpha pages
pub lacks_few : (p w held alpha cap bal : ℕ) → p * cap ≤ p * bal + w * held + alpha * p → p * (cap - (bal + alpha)) ≤ w * held
lacks_few p w held alpha cap bal h = elim (cases_lt cap (bal + alpha)) [
  | inl less ↦
      let none : p * (cap - (bal + alpha)) ≡ p * 0 = ap (λ (n : ℕ). p * n) (omega (arith, less)) in
      let nothing : p * 0 ≡ 0 = grind arith in
      omega (arith, none, nothing)
  | inr more ↦
      let all : p * cap ≡ p * ((bal + alpha) + (cap - (bal + alpha))) = ap (λ (n : ℕ). p * n) (omega (arith, more)) in
      let turned : p * alpha ≡ alpha * p = grind arith in
      omega (arith, h, all, times_sum p (bal + alpha) (cap - (bal + alpha)), times_sum p bal alpha, turned)
]

pub start_lacks : (q alpha cap bal : ℕ) → q * cap + alpha * 0 ≤ q * (bal + (cap - (bal + alpha))) + alpha * q
start_lacks q alpha cap bal =
    let all : cap ≤ bal + (cap - (bal + alpha)) + alpha = omega arith in
    let none : alpha * 0 ≡ 0 = grind arith in
    let turned : q * alpha ≡ alpha * q = grind arith in
    omega (arith, mul-le-mul_left q all, times_sum q (bal + (cap - (bal + alpha))) alpha, none, turned)

-- `gap` slots after `since` all collections but the last are closed, and what is owed with a job's own writes is at most
-- what may come in these slots, in `ago` slots before, in those for which a job may be held, and in a period: so the
-- balance covers the job
pub enough : (p q w alpha held ago cap bal owed wants count since gap pend : ℕ)
    → q * cap + alpha * q * count + alpha * ago ≤ q * bal + q * owed + alpha * (since + q) + alpha * q * pend
    → (since + gap) + q * pend ≤ q * count + q → p * (owed + wants) ≤ w * (gap + ago + held + p)
    → w * q ≤ alpha * p → w * (p + held) + 2 * alpha * p ≤ cap * p → 0 < p → 0 < q → wants ≤ bal
enough p q w alpha held ago cap bal owed wants count since gap pend h closed few regained stocked has_p has_q =
    let one : q * cap + alpha * (gap + ago) ≤ q * bal + q * owed + 2 * (alpha * q) = omega (
      arith,
      h,
      mul-le-mul_left alpha closed,
      spread_four alpha since gap q pend,
      spread_closed alpha q count,
      times_sum alpha since q,
      times_sum alpha gap ago,
    ) in
    let first : p * (q * cap + alpha * (gap + ago)) ≤ p * (q * bal + q * owed + 2 * (alpha * q)) = mul-le-mul_left p one in
    let second : q * (p * (owed + wants)) ≤ q * (w * (gap + ago + held + p)) = mul-le-mul_left q few in
    let third : (gap + ago) * (w * q) ≤ (gap + ago) * (alpha * p) = mul-le-mul_left (gap + ago) regained in
    let fourth : q * (w * (p + held) + 2 * alpha * p) ≤ q * (cap * p) = mul-le-mul_left q stocked in
    let all : (p * q) * wants ≤ (p * q) * bal = omega (
      arith,
      first,
      second,
      third,
      fourth,
      by_first p q cap alpha (gap + ago),
      by_right p q bal owed alpha,
      by_second q p owed wants,
      by_third q w (gap + ago) held p,
      by_gap (gap + ago) w q,
      by_gap (gap + ago) alpha p,
      by_fourth q w p held alpha,
      by_cap q cap p,
    ) in
    le_of_mul-le-mul_left all (positive p q has_p has_q)
  where
    spread_four : (alpha since gap q pend : ℕ) → alpha * ((since + gap) + q * pend) ≡ alpha * since + alpha * gap + alpha * q * pend
    spread_four alpha since gap q pend = grind arith

    spread_closed : (alpha q count : ℕ) → alpha * (q * count + q) ≡ alpha * q * count + alpha * q
    spread_closed alpha q count = grind arith

    by_first : (p q cap alpha g : ℕ) → p * (q * cap + alpha * g) ≡ p * q * cap + alpha * p * g
    by_first p q cap alpha g = grind arith

    by_right : (p q bal owed alpha : ℕ) → p * (q * bal + q * owed + 2 * (alpha * q)) ≡ (p * q) * bal + (p * q) * owed + 2 * (p * q * alpha)
    by_right p q bal owed alpha = grind arith

    by_second : (q p owed wants : ℕ) → q * (p * (owed + wants)) ≡ (p * q) * owed + (p * q) * wants
    by_second q p owed wants = grind arith

    by_third : (q w g held p : ℕ) → q * (w * (g + held + p)) ≡ w * q * g + q * w * (p + held)
    by_third q w g held p = grind arith

    by_gap : (g a b : ℕ) → g * (a * b) ≡ a * b * g
    by_gap g a b = grind arith

    by_fourth : (q w p held alpha : ℕ) → q * (w * (p + held) + 2 * alpha * p) ≡ q * w * (p + held) + 2 * (p * q * alpha)
    by_fourth q w p held alpha = grind arith

    by_cap : (q cap p : ℕ) → q * (cap * p) ≡ p * q * cap
    by_cap q cap p = grind arith

    positive : (a b : ℕ) → 0 < a → 0 < b → 0 < a * b
    positive a b h k = omega (arith, mul-le-mul_left a k, times_one a, h)

-- where all collections are closed, and they reach the slot, so little is lacked
pub again : (span rate q ago cap bal owed count since gap : ℕ)
    → span * cap + rate * q * count + rate * ago ≤ span * bal + span * owed + rate * (since + q) → since + gap ≤ q * count
    → span * cap + rate * (gap + ago) ≤ span * (bal + owed) + rate * q
again span rate q ago cap bal owed count since gap h all =
    let grouped : rate * q * count ≡ rate * (q * count) = grind arith in
    omega (
      arith,
      h,
      grouped,
      mul-le-mul_left rate all,
      times_sum rate since gap,
      times_sum rate since q,
      times_sum rate gap ago,
      times_sum span bal owed,
    )
