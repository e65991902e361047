-- Jobs that count no more are passed by, the oldest first; and from which slot on there is room again.
use Rattle.std.proofs.Common.{◌≡◌, ℕ, zero, suc, ◌+◌, ◌-◌, ◌<◌, ◌≤◌, nat_lt, nat_le, max, ◌&&◌, Bool, true, false, cond, if◌then◌else◌, List, [], ◌∷◌, ◌++◌, length, get_or, take, drop, sum_by}
use Rattle.std.proofs.Common.{refl, ap, sym, ◌∙◌, inl, inr, arith, append_assoc, append-nil}
use Rattle.std.specs.Prelude.{All}
use Rattle.std.proofs.Math.Seq.{drop-nil}
use Rattle.std.proofs.lemmas.Bool.{lt-ltb, cases_lt}
use Rattle.std.proofs.lemmas.Bool.Decides.{nat_tests}
use Rattle.std.proofs.lemmas.List.{take_more, drop_more, drop_all, take-append-drop, get_or_append_left, get_or_push, length_push}
use Rattle.std.proofs.lemmas.List.Sums.{sum_by-cons, sum_by_push, sum_by-drop_more}
use Rattle.std.proofs.lemmas.List.Elements.{All-push, All-drop, filter-append}
use Rattle.demand_rules.specs.declared.terms.TaskTerms.{TaskTerms}
use Rattle.demand_rules.specs.declared.terms.Terms.{Terms}
use Rattle.demand_rules.specs.Demand.{terms_of}
use Rattle.planned_log.specs.Asks.{Asked, free_at, counts_in, counting, has_room, room_at, writes_in}
use Rattle.planned_die.specs.declared.memory.AskedJob.{AskedJob}
use Rattle.planned_die.specs.declared.task_asks.TaskAsks.{TaskAsks}
use Rattle.planned_die.proofs.Sums.{sum_counting}
use Rattle.planned_die.specs.Remembered.{amount_of, newest_first, AllCount, CameInOrder, IsKeptFor, AreKept}

-- All from one on that counts

order_kept : (n : ℕ) (jobs : List AskedJob) → CameInOrder jobs → CameInOrder (drop n jobs)
order_kept zero jobs o = o
order_kept (suc n) [] o = o
order_kept (suc n) (j ∷ jobs) o = order_kept n jobs o.1

first_counts : (period clock : ℕ) (jobs : List AskedJob) (j : AskedJob) (later : List AskedJob) → jobs ≡ j ∷ later → CameInOrder jobs
    → clock < j.at + period → AllCount period clock jobs
first_counts period clock jobs j later is o counts = rw is (all (rw is at o))
  where
    all : CameInOrder (j ∷ later) → AllCount period clock (j ∷ later)
    all order zero d lt = counts
    all order (suc k) d lt = let le = order.0 k d (omega (arith, lt)) in omega (arith, le, counts)

pub all_count : (period clock : ℕ) (jobs : List AskedJob) (n : ℕ) (d : AskedJob) → n < length jobs → CameInOrder jobs
    → clock < (get_or jobs n d).at + period → AllCount period clock (drop n jobs)
all_count period clock jobs n d lt o counts =
    first_counts period clock (drop n jobs) (get_or jobs n d) (drop (n + 1) jobs) (drop_more jobs n d lt) (order_kept n jobs o) counts

pub none_left : (period clock : ℕ) (jobs : List AskedJob) (n : ℕ) → length jobs ≤ n → AllCount period clock (drop n jobs)
none_left period clock jobs n le = rw (drop_all n jobs le) (λ k d lt. absurd (omega (arith, lt)))

-- One more that counts no more

pub passed_one : (period clock : ℕ) (t u : TaskAsks) (d : AskedJob) → IsKeptFor period clock t → t.passed < length t.jobs.items
    → (get_or t.jobs.items t.passed d).at + period ≤ clock → u.jobs.items ≡ t.jobs.items → u.passed ≡ t.passed + 1
    → u.operations + (get_or t.jobs.items t.passed d).operations ≡ t.operations → u.writes + (get_or t.jobs.items t.passed d).writes ≡ t.writes
    → IsKeptFor period clock u
passed_one period clock t u d k lt gone jobs passed operations writes = record {
  fits = rw jobs (omega (arith, passed, lt));
  gone = rw jobs (rw passed (rw (take_more t.jobs.items t.passed d lt)
      (All-push (λ j. j.at + period ≤ clock) (take t.passed t.jobs.items) (get_or t.jobs.items t.passed d) k.gone gone)));
  came = rw jobs k.came;
  in_order = rw jobs k.in_order;
  operations = rw jobs (rw passed (omega (arith, operations, k.operations, sum_by-drop_more (λ j. j.operations) t.jobs.items t.passed d lt)));
  writes = rw jobs (rw passed (omega (arith, writes, k.writes, sum_by-drop_more (λ j. j.writes) t.jobs.items t.passed d lt)));
}

-- From which slot on there is room

abbrev pub as_asked : AskedJob → Asked
as_asked j = record { at = j.at; operations = j.operations; writes = j.writes }

module _ (of : Asked → ℕ) (limit period : ℕ) where
  -- this slot, where there is room without any
  abbrev pub free_or : ℕ → List Asked → ℕ → ℕ
  free_or base [] n = base
  free_or base (a ∷ older) n = if nat_lt limit (of a + n) then a.at + period else free_or base older (of a + n)

  pub free_or_none : (asked : List Asked) (n : ℕ) → free_at of limit period asked n ≡ free_or 0 asked n
  free_or_none [] n = refl
  free_or_none (a ∷ older) n = ap (cond (nat_lt limit (of a + n)) (a.at + period)) (free_or_none older (of a + n))

  -- with the oldest one there is too much
  pub free_or_oldest : (base : ℕ) (asked : List Asked) (a : Asked) (n : ℕ) → limit < sum_by of asked + of a + n
      → free_or base (asked ++ a ∷ []) n ≡ free_or (a.at + period) asked n
  free_or_oldest base [] a n more = rw (lt-ltb limit (of a + n) (omega (arith, more))) refl
  free_or_oldest base (b ∷ asked) a n more =
      ap (cond (nat_lt limit (of b + n)) (b.at + period))
      (free_or_oldest base asked a (of b + n) (omega (arith, more, sum_by-cons of b asked)))

  -- with all there isn't
  pub free_or_all : (base : ℕ) (asked : List Asked) (n : ℕ) → sum_by of asked + n ≤ limit → free_or base asked n ≡ base
  free_or_all base [] n few = refl
  free_or_all base (a ∷ asked) n few =
      let not_more : nat_lt limit (of a + n) ≡ false = grind (arith, nat_tests, few, sum_by-cons of a asked) in
      rw not_more (free_or_all base asked (of a + n) (omega (arith, few, sum_by-cons of a asked)))

-- the amounts of jobs
abbrev pub amount_in : Bool → AskedJob → ℕ
amount_in of_writes j = amount_of of_writes (as_asked j)

pub sum_newest : (of_writes : Bool) (jobs : List AskedJob) → sum_by (amount_of of_writes) (newest_first jobs) ≡ sum_by (amount_in of_writes) jobs
sum_newest of_writes [] = refl
sum_newest of_writes (j ∷ jobs) = omega (
  arith,
  sum_by_push (amount_of of_writes) (newest_first jobs) (as_asked j),
  sum_newest of_writes jobs,
  sum_by-cons (amount_in of_writes) j jobs,
)

module _ (of_writes : Bool) (limit period : ℕ) (jobs : List AskedJob) (more : ℕ) where
  abbrev pub free : ℕ → ℕ → ℕ
  free place base = free_or (amount_of of_writes) limit period base (newest_first (drop place jobs)) more

  module _ (place left : ℕ) (d : AskedJob) (base : ℕ) where
    pub one_place : place < length jobs → left ≡ sum_by (amount_in of_writes) (drop place jobs) + more → limit < left
        → free place base ≡ free (place + 1) ((get_or jobs place d).at + period)
    one_place lt is much =
        ap (λ l. free_or (amount_of of_writes) limit period base (newest_first l) more) (drop_more jobs place d lt)
        ∙ free_or_oldest (amount_of of_writes) limit period base (newest_first (drop (place + 1) jobs)) (as_asked (get_or jobs place d)) more
        (omega (arith, is, much, sum_newest of_writes (drop (place + 1) jobs), sum_by-drop_more (amount_in of_writes) jobs place d lt))

    pub left_one : place < length jobs → left ≡ sum_by (amount_in of_writes) (drop place jobs) + more
        → (amount_in of_writes (get_or jobs place d) ≤ left)
        × ((rest : ℕ) → rest + amount_in of_writes (get_or jobs place d) ≡ left → rest ≡ sum_by (amount_in of_writes) (drop (place + 1) jobs) + more)
    left_one lt is =
        let e = sum_by-drop_more (amount_in of_writes) jobs place d lt in (omega (arith, is, e), (λ rest r. omega (arith, is, e, r)))

  pub enough : (place left base : ℕ) → left ≡ sum_by (amount_in of_writes) (drop place jobs) + more → left ≤ limit → free place base ≡ base
  enough place left base is few = free_or_all (amount_of of_writes) limit period base (newest_first (drop place jobs)) more
      (omega (arith, is, few, sum_newest of_writes (drop place jobs)))

-- What counts is what was not passed by

newest_parts : (xs ys : List AskedJob) → newest_first (xs ++ ys) ≡ newest_first ys ++ newest_first xs
newest_parts [] ys = sym (append-nil (newest_first ys))
newest_parts (x ∷ xs) ys = rw (newest_parts xs ys) (simp append_assoc)

-- the newest one first
pub newest_one : (xs : List AskedJob) (j : AskedJob) → newest_first (xs ++ j ∷ []) ≡ as_asked j ∷ newest_first xs
newest_one xs j = newest_parts xs (j ∷ [])

module _ (period : ℕ) where
  none_counts : (clock : ℕ) (xs : List AskedJob) → All (λ j. j.at + period ≤ clock) xs → counting period clock (newest_first xs) ≡ []
  none_counts clock [] gone = refl
  none_counts clock (x ∷ xs) gone =
      let not_x : nat_lt clock (x.at + period) ≡ false = grind (arith, nat_tests, gone 0 x (omega arith)) in
      filter-append (counts_in period clock) (newest_first xs) (as_asked x ∷ [])
      ∙ rw not_x (rw (none_counts clock xs (λ k d lt. gone (suc k) d (omega (arith, lt)))) refl)

  all_counted : (clock : ℕ) (xs : List AskedJob) → AllCount period clock xs → counting period clock (newest_first xs) ≡ newest_first xs
  all_counted clock [] all = refl
  all_counted clock (x ∷ xs) all =
      let x_counts : nat_lt clock (x.at + period) ≡ true = lt-ltb clock (x.at + period) (all 0 x (omega arith)) in
      filter-append (counts_in period clock) (newest_first xs) (as_asked x ∷ [])
      ∙ rw x_counts (rw (all_counted clock xs (λ k d lt. all (suc k) d (omega (arith, lt)))) refl)

  module _ (clock : ℕ) (t : TaskAsks) (k : IsKeptFor period clock t) where
    -- in this slot or a later one, what was passed by counts no more
    pub without_passed : (slot : ℕ) → clock ≤ slot → counting period slot (newest_first t.jobs.items)
        ≡ counting period slot (newest_first (drop t.passed t.jobs.items))
    without_passed slot le =
        ap (λ l. counting period slot (newest_first l)) (sym (take-append-drop t.passed t.jobs.items))
        ∙ (ap (counting period slot) (newest_parts (take t.passed t.jobs.items) (drop t.passed t.jobs.items))
        ∙ (filter-append (counts_in period slot) (newest_first (drop t.passed t.jobs.items)) (newest_first (take t.passed t.jobs.items))
        ∙ (ap (λ l. counting period slot (newest_first (drop t.passed t.jobs.items)) ++ l)
        (none_counts slot (take t.passed t.jobs.items)
        (λ i d lt. let gone = k.gone i d lt in omega (arith, gone, le))) ∙ append-nil (counting period slot (newest_first (drop t.passed t.jobs.items))))))

    module _ (all : AllCount period clock (drop t.passed t.jobs.items)) where
      pub counted : counting period clock (newest_first t.jobs.items) ≡ newest_first (drop t.passed t.jobs.items)
      counted = without_passed clock (omega arith) ∙ all_counted clock (drop t.passed t.jobs.items) all

      sum_of : (of_writes : Bool) → sum_by (λ a. cond (counts_in period clock a) (amount_of of_writes a) 0) (newest_first t.jobs.items)
          ≡ sum_by (amount_in of_writes) (drop t.passed t.jobs.items)
      sum_of of_writes =
          sum_counting period clock (amount_of of_writes) (newest_first t.jobs.items)
          ∙ (ap (sum_by (amount_of of_writes)) counted ∙ sum_newest of_writes (drop t.passed t.jobs.items))

      pub room_is : (own : TaskTerms) → own.period ≡ period → (ops written : ℕ)
          → has_room own clock (newest_first t.jobs.items) ops written
          ≡ (nat_le (t.operations + ops) own.work && nat_le (t.writes + written) own.writes)
      room_is own is ops written =
          rw is (ap (λ n. nat_le (n + ops) own.work && nat_le (writes_in period clock (newest_first t.jobs.items) + written) own.writes)
          (sum_of false ∙ sym k.operations)
          ∙ ap (λ n. nat_le (t.operations + ops) own.work && nat_le (n + written) own.writes) (sum_of true ∙ sym k.writes))

      -- the slot in which there is room
      pub room_now : (own : TaskTerms) → own.period ≡ period → (ops written m n : ℕ)
          → m ≡ free_at (amount_of false) own.work period (newest_first (drop t.passed t.jobs.items)) ops
          → n ≡ free_at (amount_of true) own.writes period (newest_first (drop t.passed t.jobs.items)) written
          → max m n ≡ room_at own (counting own.period clock (newest_first t.jobs.items)) ops written
      room_now own is ops written m n of_ops of_writes = rw (of_ops, of_writes, is) (rw counted refl)

-- One more

drop_one : (n : ℕ) (jobs : List AskedJob) → drop n (drop 1 jobs) ≡ drop (suc n) jobs
drop_one n [] = drop-nil n
drop_one n (j ∷ jobs) = refl

pub one_less : (passed : ℕ) (jobs : List AskedJob) → 0 < passed → drop (passed - 1) (drop 1 jobs) ≡ drop passed jobs
one_less passed jobs some =
    let is : suc (passed - 1) ≡ passed = omega (arith, some) in
    drop_one (passed - 1) jobs ∙ ap (λ n. drop n jobs) is

order_push : (jobs : List AskedJob) (j : AskedJob) → CameInOrder jobs → All (λ k. k.at ≤ j.at) jobs → CameInOrder (jobs ++ j ∷ [])
order_push [] j o came = ((λ k d lt. absurd (omega (arith, lt))), tt)
order_push (x ∷ jobs) j o came = (
  All-push (λ k. x.at ≤ k.at) jobs j o.0 (came 0 x (omega arith)),
  order_push jobs j o.1 (λ k d lt. came (suc k) d (omega (arith, lt))),
)

pub noted : (period : ℕ) (t u : TaskAsks) (j : AskedJob) → IsKeptFor period j.at t → u.jobs.items ≡ drop t.passed t.jobs.items ++ j ∷ []
    → u.passed ≡ 0 → u.operations ≡ t.operations + j.operations → u.writes ≡ t.writes + j.writes → IsKeptFor period j.at u
noted period t u j k is none operations writes =
    let came : All (λ i. i.at ≤ j.at) (drop t.passed t.jobs.items) = All-drop (λ i. i.at ≤ j.at) t.passed t.jobs.items k.came in
    record {
      fits = omega (arith, none);
      gone = rw none (λ i d lt. absurd (omega (arith, lt)));
      came = rw is (All-push (λ i. i.at ≤ j.at) (drop t.passed t.jobs.items) j came (omega arith));
      in_order = rw is (order_push (drop t.passed t.jobs.items) j (order_kept t.passed t.jobs.items k.in_order) came);
      operations = rw none (rw is (omega (arith, operations, k.operations, sum_by_push (λ i. i.operations) (drop t.passed t.jobs.items) j)));
      writes = rw none (rw is (omega (arith, writes, k.writes, sum_by_push (λ i. i.writes) (drop t.passed t.jobs.items) j)));
    }

-- One task more

pub fresh : (t : TaskAsks) → t.jobs.items ≡ [] → t.passed ≡ 0 → t.operations ≡ 0 → t.writes ≡ 0 → (period clock : ℕ) → IsKeptFor period clock t
fresh t empty none operations writes period clock = record {
  fits = omega (arith, none);
  gone = rw none (λ i d lt. absurd (omega (arith, lt)));
  came = rw empty (λ i d lt. absurd (omega (arith, lt)));
  in_order = rw empty tt;
  operations = rw none (rw empty operations);
  writes = rw none (rw empty writes);
}

pub kept_push : (terms : Terms) (clock : ℕ) (asked : List TaskAsks) (t : TaskAsks) → AreKept terms clock asked
    → ((period : ℕ) → IsKeptFor period clock t) → AreKept terms clock (asked ++ t ∷ [])
kept_push terms clock asked t kept new task d lt = elim (cases_lt task (length asked)) [
  | inl less ↦ rw (get_or_append_left asked (t ∷ []) d task less) (kept task d less)
  | inr more ↦ rw (get_or_push asked t d task (omega (arith, more, lt, length_push asked t))) (new (terms_of terms task).period)
]

-- The clock goes on

pub kept_later : (terms : Terms) (clock after : ℕ) (asked : List TaskAsks) → clock ≤ after → AreKept terms clock asked → AreKept terms after asked
kept_later terms clock after asked le kept task d lt =
    let k = kept task d lt in
    record {
      fits = k.fits;
      gone = λ i e less. let gone = k.gone i e less in omega (arith, gone, le);
      came = λ i e less. let came = k.came i e less in omega (arith, came, le);
      in_order = k.in_order;
      operations = k.operations;
      writes = k.writes;
    }
