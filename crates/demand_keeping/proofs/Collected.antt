-- What is counted of a task's jobs is what the first events count, however many.
use Rattle.std.proofs.Common.{◌≡◌, ℕ, ◌+◌, ◌<◌, ◌≤◌, Bool, true, false, cond, List, [], ◌∷◌, ◌++◌, length, get_or, take}
use Rattle.std.proofs.Common.{refl, ap, sym, subst, ◌∙◌, inl, inr, arith}
use Rattle.std.proofs.lemmas.Bool.{cases_lt, lt-ltb, le-ltb}
use Rattle.std.proofs.lemmas.List.{length-take, take_all, take-take}
use Rattle.std.proofs.lemmas.List.Sums.{sum_by-cons, sum_by_push}
use Rattle.std.proofs.lemmas.List.Sorted.{sum_by-IsPermutation}
use Rattle.std.specs.List.Sorted.{IsPermutation}
use Rattle.slot_types.specs.declared.events.Event.{Event}
use Rattle.plan_rules.specs.Keeping.{TaskArrival, arrivals, slots}
use Rattle.demand_keeping.specs.declared.windows.Count.{Count}
use Rattle.demand_keeping.specs.declared.windows.Counted.{Counted}
use Rattle.demand_keeping.specs.BySlot.{counted_in, own, own_in, AreCounted, CountsNothing, CountsOne, HaveRoom, IsFirstAbove, IsFirstOfAll}
use Rattle.demand_keeping.specs.Overfull.{IsFirstOverfull}
use Rattle.demand_keeping.specs.Windows.{amount_in, is_in, window, KeepsLimit}
use Rattle.demand_keeping.proofs.Taking.{sum_more}

abbrev one_if : Bool → ℕ → ℕ
one_if b n = cond b n 0

none_if : (b : Bool) → one_if b 0 ≡ 0
none_if true = refl
none_if false = refl

module _ (seen : ℕ) (job : Counted) where
  is_own : job.index < seen → own seen job ≡ job.amount
  is_own less = ap (λ (b : Bool). one_if b job.amount) (lt-ltb job.index seen less)

  is_later : seen ≤ job.index → own seen job ≡ 0
  is_later le = ap (λ (b : Bool). one_if b job.amount) (le-ltb job.index seen le)

-- the event at an index
module _ (c : Count) (task : ℕ) (events : List Event) (i : ℕ) (event : Event) (is : event ≡ get_or events i event) (lt : i < length events) (now : ℕ)
    (at : now ≡ slots (take i events)) (jobs : List Counted)
    (old : AreCounted c task (take i events) jobs)
  where
    abbrev come : List TaskArrival
    come = arrivals now (event ∷ [])

    first_to : (n : ℕ) → n ≤ length events → length (take n events) ≡ n
    first_to n within = omega (arith, length-take n events, within)

    -- later events aren't among the first
    earlier : (seen : ℕ) → seen ≤ i → take seen (take (i + 1) events) ≡ take seen (take i events)
    earlier seen le = take-take seen (i + 1) events (omega (arith, le)) ∙ sym (take-take seen i events le)

    before_all : (seen : ℕ) → i < seen → take seen (take i events) ≡ take i events
    before_all seen less = take_all seen (take i events) (omega (arith, first_to i (omega (arith, lt)), less))

    with_all : (seen : ℕ) → i < seen → take seen (take (i + 1) events) ≡ take (i + 1) events
    with_all seen less = take_all seen (take (i + 1) events) (omega (arith, first_to (i + 1) (omega (arith, lt)), less))

    abbrev window_of : ℕ → ℕ → List Event → ℕ
    window_of start end es = window c task start end (arrivals 0 es)

    pub counted_without : CountsNothing c task come → AreCounted c task (take (i + 1) events) jobs
    counted_without none seen start end = elim (cases_lt i seen) [
      | inl less ↦ omega (
        arith,
        old seen start end,
        ap (window_of start end) (before_all seen less),
        ap (window_of start end) (with_all seen less),
        sum_more events i event is lt now at (amount_in c task start end),
        none.inside start end,
      )
      | inr le ↦ omega (arith, old seen start end, ap (window_of start end) (earlier seen le))
    ]

    pub counted_with : (job : Counted) → job.index ≡ i → CountsOne c task come job.slot job.amount
        → AreCounted c task (take (i + 1) events) (jobs ++ job ∷ [])
    counted_with job index one seen start end = elim (cases_lt i seen) [
      | inl less ↦ omega (
        arith,
        sum_by_push (own_in seen start end) jobs job,
        ap (one_if (is_in start end job.slot)) (is_own seen job (omega (arith, index, less))),
        old seen start end,
        ap (window_of start end) (before_all seen less),
        ap (window_of start end) (with_all seen less),
        sum_more events i event is lt now at (amount_in c task start end),
        one.inside start end,
      )
      | inr le ↦ omega (
        arith,
        sum_by_push (own_in seen start end) jobs job,
        ap (one_if (is_in start end job.slot)) (is_later seen job (omega (arith, index, le))),
        none_if (is_in start end job.slot),
        old seen start end,
        ap (window_of start end) (earlier seen le),
      )
    ]

module _ (c : Count) (task : ℕ) (events : List Event) (jobs : List Counted) where
  -- all events were looked at
  pub counted_all : (i : ℕ) → length events ≤ i → AreCounted c task (take i events) jobs → AreCounted c task events jobs
  counted_all i all h = subst (λ (es : List Event). AreCounted c task es jobs) (take_all i events all) h

  -- in another order they count the same
  pub counted_sorted : (sorted : List Counted) → IsPermutation jobs sorted → AreCounted c task events jobs → AreCounted c task events sorted
  counted_sorted sorted moved h seen start end = sum_by-IsPermutation (own_in seen start end) jobs sorted moved ∙ h seen start end

  -- what is said of the jobs is said of the events
  module _ (period limit : ℕ) (h : AreCounted c task events jobs) where
    keeps_first : (seen : ℕ) → HaveRoom period limit seen jobs → KeepsLimit c task period limit (take seen events)
    keeps_first seen room start = omega (arith, h seen start (start + period), room start)

    pub keeps_limit : HaveRoom period limit (length events) jobs → KeepsLimit c task period limit events
    keeps_limit room =
        subst (λ (es : List Event). KeepsLimit c task period limit es) (take_all (length events) events (omega arith)) (keeps_first (length events) room)

    pub first_overfull : (start : ℕ) → IsFirstOfAll period limit jobs start → IsFirstOverfull c task period limit events start
    first_overfull start first = record {
      index = first.index;
      before = keeps_first first.index first.before;
      above = omega (arith, first.first.above, h (first.index + 1) start (start + period));
      sooner = λ other less. omega (arith, first.first.sooner other less, h (first.index + 1) other (other + period));
    }

-- with no events no window has anything
pub none_first : (period limit : ℕ) (jobs : List Counted) → HaveRoom period limit 0 jobs
none_first period limit jobs start = omega (arith, nothing jobs)
  where
    nothing : (js : List Counted) → counted_in 0 start (start + period) js ≡ 0
    nothing [] = refl
    nothing (job ∷ js) = omega (
      arith,
      sum_by-cons (own_in 0 start (start + period)) job js,
      ap (one_if (is_in start (start + period) job.slot)) (is_later 0 job (omega arith)),
      none_if (is_in start (start + period) job.slot),
      nothing js,
    )

pub some_events : (period limit : ℕ) (jobs : List Counted) (few many start : ℕ) → few ≡ 0 → HaveRoom period limit few jobs
    → IsFirstAbove period limit many jobs start → few < many
some_events period limit jobs few many start is_few room first = elim (cases_lt few many) [
  | inl less ↦ less
  | inr le ↦ (
      let same : many ≡ few = omega (arith, le, is_few) in
      absurd (omega (arith, room start, first.above, ap (λ (n : ℕ). counted_in n start (start + period) jobs) same)))
]

-- the first events with which a window has too much are one more than those with which none has
pub first_of_all : (period limit : ℕ) (jobs : List Counted) (few many start : ℕ) → few < many → many ≤ few + 1 → HaveRoom period limit few jobs
    → IsFirstAbove period limit many jobs start → IsFirstOfAll period limit jobs start
first_of_all period limit jobs few many start order near room first =
    let next : many ≡ few + 1 = omega (arith, order, near) in
    record { index = few; before = room; first = subst (λ (n : ℕ). IsFirstAbove period limit n jobs start) next first }
