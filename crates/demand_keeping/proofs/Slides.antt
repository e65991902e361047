-- What a window that slides says, job by job.
use Rattle.std.proofs.Common.{◌≡◌, ℕ, ◌+◌, ◌-◌, ◌<◌, ◌≤◌, Bool, true, false, cond, List, length, get_or, take}
use Rattle.std.proofs.Common.{ap, inl, inr, arith}
use Rattle.std.specs.List.Sorted.{IsNonDecreasingBy}
use Rattle.std.proofs.lemmas.Bool.{cases_Bool, cases_lt}
use Rattle.std.proofs.lemmas.Bool.Decides.{nat_tests}
use Rattle.std.proofs.lemmas.List.{get_or_default, take_all, take-take}
use Rattle.std.proofs.lemmas.List.Sums.{sum_by_more, sum_by-take-le}
use Rattle.demand_keeping.specs.declared.sliding.Sliding.{Sliding}
use Rattle.demand_keeping.specs.declared.windows.Counted.{Counted}
use Rattle.demand_keeping.specs.BySlot.{counted, counted_in, own, own_in, HaveRoom, IsFirstAbove}
use Rattle.demand_keeping.specs.Sliding.{AreNear, IsSliding}
use Rattle.demand_keeping.specs.Windows.{first_with, is_in}
use Rattle.demand_keeping.proofs.Between.{less_between, none_between}

-- the job at an index
abbrev pub at : List Counted → ℕ → Counted
at jobs i = get_or jobs i (record { index = 0; slot = 0; amount = 0 })

pub at_any : (jobs : List Counted) (i : ℕ) → i < length jobs → at jobs i ≡ get_or jobs i (at jobs i)
at_any jobs i lt = get_or_default jobs i (record { index = 0; slot = 0; amount = 0 }) (at jobs i) lt

abbrev one_if : Bool → ℕ → ℕ
one_if b n = cond b n 0

inside : (start end slot : ℕ) → start ≤ slot → slot < end → is_in start end slot ≡ true
inside start end slot from below = grind (arith, nat_tests)

ended : (start end slot : ℕ) → end ≤ slot → is_in start end slot ≡ false
ended start end slot after = grind (arith, nat_tests)

sooner : (start end slot : ℕ) → slot < start → is_in start end slot ≡ false
sooner start end slot before = grind (arith, nat_tests)

below_end : (start end slot : ℕ) → is_in start end slot ≡ true → slot < end
below_end start end slot is = grind (arith, nat_tests)

in_is_own : (seen start end : ℕ) (job : Counted) → is_in start end job.slot ≡ true → own_in seen start end job ≡ own seen job
in_is_own seen start end job is = ap (λ (b : Bool). one_if b (own seen job)) is

out_is_none : (seen start end : ℕ) (job : Counted) → is_in start end job.slot ≡ false → own_in seen start end job ≡ 0
out_is_none seen start end job is = ap (λ (b : Bool). one_if b (own seen job)) is

in_is_less : (seen start end : ℕ) (job : Counted) → own_in seen start end job ≤ own seen job
in_is_less seen start end job = either (is_in start end job.slot)
  where
    either : (b : Bool) → one_if b (own seen job) ≤ own seen job
    either true = omega arith
    either false = omega arith

module _ (period limit seen : ℕ) (jobs : List Counted) (rising : IsNonDecreasingBy (λ job. job.slot) jobs) (head : ℕ) (job : Counted)
    (is : job ≡ get_or jobs head job) (lt : head < length jobs)
  where
    same_slot : job.slot ≡ (get_or jobs head job).slot
    same_slot = ap (λ (j : Counted). j.slot) is

    -- with this job, too, no window has more than the limit
    pub room_more : (w : Sliding) → IsSliding period limit seen jobs head w → w.sum + own seen job ≤ limit
        → HaveRoom period limit seen (take head jobs) → HaveRoom period limit seen (take (head + 1) jobs)
    room_more w h fits room start = elim (cases_Bool (is_in start (start + period) job.slot)) [
      | inl is_inside ↦ (
          let below : job.slot < start + period = below_end start (start + period) job.slot is_inside in
          omega (
            arith,
            less_between jobs job w.tail (own seen) (own_in seen start (start + period)) (head + 1) (omega (arith, h.order)) (omega (arith, lt))
                (λ k from before. in_is_less seen start (start + period) (get_or jobs k job)),
            none_between jobs job 0 (own_in seen start (start + period)) w.tail (omega arith) (omega (arith, h.order, lt)) (λ k from before.
                out_is_none seen start (start + period) (get_or jobs k job) (sooner start (start + period) (get_or jobs k job).slot
                (omega (arith, h.past k head job before (omega arith) lt, same_slot, below)))),
            sum_by_more (own seen) jobs head job lt,
            ap (own seen) is,
            h.sum,
            fits,
          ))
      | inr is_outside ↦ omega (
        arith,
        sum_by_more (own_in seen start (start + period)) jobs head job lt,
        ap (own_in seen start (start + period)) is,
        out_is_none seen start (start + period) job is_outside,
        room start,
      )
    ]

    pub sliding_more : (w : Sliding) → IsSliding period limit seen jobs head w → w.sum + own seen job ≤ limit
        → IsSliding period limit seen jobs (head + 1) (record w { sum = w.sum + own seen job })
    sliding_more w h fits = record {
      order = omega (arith, h.order);
      small = fits;
      sum = omega (arith, h.sum, sum_by_more (own seen) jobs head job lt, ap (own seen) is);
      past = λ before from d less after within. h.past before from d less (omega (arith, after)) within;
    }

    -- with this job the window that ends with it has more
    pub has_too_much : 1 ≤ period → (w : Sliding) → IsSliding period limit seen jobs head w → AreNear period jobs w.tail head
        → limit < w.sum + own seen job → HaveRoom period limit seen (take head jobs)
        → IsFirstAbove period limit seen jobs (first_with period job.slot)
    has_too_much some w h near too_much room =
        let first : ℕ = first_with period job.slot in
        record {
          above = omega (
            arith,
            less_between jobs job w.tail (own_in seen first (first + period)) (own seen) (head + 1) (omega (arith, h.order)) (omega (arith, lt))
                (λ k from before. omega (
                  arith,
                  in_is_own seen first (first + period) (get_or jobs k job)
                      (inside first (first + period) (get_or jobs k job).slot
                      (omega (arith, close k from before, some)) (omega (arith, rising k head job (omega (arith, before)) lt, same_slot, some))),
                )),
            sum_by-take-le (own_in seen first (first + period)) jobs (head + 1),
            sum_by_more (own seen) jobs head job lt,
            ap (own seen) is,
            h.sum,
            too_much,
          );
          sooner = λ other less. omega (
            arith,
            none_between jobs job head (own_in seen other (other + period)) (length jobs) (omega (arith, lt)) (omega arith) (λ k from within.
                out_is_none seen other (other + period) (get_or jobs k job) (ended other (other + period) (get_or jobs k job).slot
                (omega (arith, rising head k job from within, same_slot, less, some)))),
            ap (counted_in seen other (other + period)) (take_all (length jobs) jobs (omega arith)),
            room other,
          );
        }
      where
        close : (k : ℕ) → w.tail ≤ k → k < head + 1 → job.slot < (get_or jobs k job).slot + period
        close k from before = elim (cases_lt k head) [
          | inl less ↦ omega (arith, near k job from less, same_slot)
          | inr not_less ↦ (
              let same : head ≡ k = omega (arith, before, not_less) in
              omega (arith, same_slot, ap (λ (n : ℕ). (get_or jobs n job).slot) same, some))
        ]

    -- a job at the tail is left out
    module _ (w : Sliding) (h : IsSliding period limit seen jobs head w) (before : w.tail < head) (left : Counted)
        (is_left : left ≡ get_or jobs w.tail left)
      where
        whole : counted seen (take (w.tail + 1) jobs) ≡ counted seen (take w.tail jobs) + own seen left
        whole = omega (arith, sum_by_more (own seen) jobs w.tail left (omega (arith, before, lt)), ap (own seen) is_left)

        pub counted_before : own seen left ≤ w.sum
        counted_before = omega (
          arith,
          whole,
          h.sum,
          sum_by-take-le (own seen) (take head jobs) (w.tail + 1),
          ap (counted seen) (take-take (w.tail + 1) head jobs (omega (arith, before))),
        )

        pub sliding_past : left.slot + period ≤ job.slot
            → IsSliding period limit seen jobs head (record { tail = w.tail + 1; sum = w.sum - own seen left })
        sliding_past gone = record {
          order = omega (arith, before);
          small = omega (arith, h.small);
          sum = omega (arith, h.sum, whole, counted_before);
          past = λ k from d less after within. elim (cases_lt k w.tail) [
            | inl sooner ↦ h.past k from d sooner after within
            | inr not_sooner ↦ (
                let same : w.tail ≡ k = omega (arith, less, not_sooner) in
                omega (
                  arith,
                  gone,
                  ap (λ (j : Counted). j.slot) is_left,
                  ap (λ (j : Counted). j.slot) (get_or_default jobs w.tail left d (omega (arith, before, lt))),
                  ap (λ (n : ℕ). (get_or jobs n d).slot) same,
                  same_slot,
                  ap (λ (j : Counted). j.slot) (get_or_default jobs head job d lt),
                  rising head from d after within,
                ))
          ];
        }

        -- or it isn't, and those after it are near, too
        pub near_from : job.slot < left.slot + period → AreNear period jobs w.tail head
        near_from close k d from less = omega (
          arith,
          close,
          ap (λ (j : Counted). j.slot) is_left,
          ap (λ (j : Counted). j.slot) (get_or_default jobs w.tail left d (omega (arith, before, lt))),
          same_slot,
          ap (λ (j : Counted). j.slot) (get_or_default jobs head job d lt),
          rising w.tail k d from (omega (arith, less, lt)),
        )

-- of no job all windows have room
pub none_above : (period limit seen : ℕ) (jobs : List Counted) → HaveRoom period limit seen (take 0 jobs)
none_above period limit seen jobs start = omega arith

-- all were looked at
pub all_room : (period limit seen : ℕ) (jobs : List Counted) (i : ℕ) → length jobs ≤ i → HaveRoom period limit seen (take i jobs)
    → HaveRoom period limit seen jobs
all_room period limit seen jobs i all room start = omega (arith, room start, ap (counted_in seen start (start + period)) (take_all i jobs all))
