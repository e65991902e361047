-- The walk back from a completion finds the busy interval, and its numbers.
use Rattle.std.proofs.Common.{◌≡◌, ◌≢◌, ℕ, zero, suc, ◌+◌, ◌-◌, ◌<◌, ◌≤◌, ◌==◌, ◌||◌, Bool, true, false, cond, List, [], ◌∷◌, ◌++◌, Option, Some, None, refl}
use Rattle.std.proofs.Common.{ap, sym, ◌∙◌, subst, length, take, slice_get, get_or, append_assoc, append-nil, arith, inl, inr, eq-eqb, eqb-true, ne_eqb}
use Rattle.std.proofs.Common.{length-append, eqb, nat_cmp}
use Rattle.std.specs.Prelude.{replicate, Contains}
use Rattle.std.specs.List.{cons_option, dedup}
use Rattle.std.specs.List.Sorted.{IsStrictlyIncreasing, IsSorted, IsPermutation}
use Rattle.std.specs.List.Retain.{IsFiltered, DiffersFromLast}
use Rattle.std.proofs.lemmas.Bool.{true≢false, false≢true, or_cases, or_left, or_right}
use Rattle.std.proofs.lemmas.List.{get_or-take, length-replicate}
use Rattle.std.proofs.lemmas.List.Filters.{dedup_is}
use Rattle.std.proofs.lemmas.List.Kept.{Contains-dedup_nat, Contains-from_dedup}
use Rattle.std.proofs.lemmas.List.Sorted.{Contains-permutation, IsPermutation-sym}
use Rattle.std.proofs.lemmas.Map.Keys.{IsStrictlyIncreasing-dedup}
use Rattle.std.proofs.lemmas.Option.{same_Some, none-some}
use Rattle.late_cert.specs.declared.rows.JobRow.{JobRow}
use Rattle.late_cert.specs.declared.certificates.Certificate.{Certificate}
use Rattle.late_cert.specs.Schedule.{Slots, slot_at}
use Rattle.late_cert.specs.Rows.{RowsRise, row_of, number_in, is_done, due_of, completion_of}
use Rattle.late_cert.specs.Bound.{is_listed}
use Rattle.late_cert.specs.BusyInterval.{is_within, IsBusyInterval, start_of, is_carried, jobs_of}
use Rattle.late_cert.specs.Build.{busy_interval_of, busy_interval_if_done}
use Rattle.late_cert.proofs.Marks.{carried-none}
use Rattle.late_cert.proofs.OneBusyInterval.{same-start, same-jobs}
use Rattle.late_cert.proofs.Walking.{AllCarry, start-run, start-stays, carried-further}
use Rattle.late_cert.proofs.Window.{carried-true, true-carried, busy_interval-is}
use Rattle.job_table.specs.declared.stages.Stage.{Stage}
use Rattle.job_table.specs.declared.stages.Stage.TheVariants as stages
use Rattle.job_table.specs.Jobs.{JobRecord}
use Rattle.job_table.specs.Jobs as kept
use Rattle.slot_core.specs.MarkedWorst.{completion_at}
use Rattle.slot_core.specs.TableRows.{row_as, row_in, rows_in}

-- The row of a number

named : (s : Stage) (n : ℕ) (r : JobRecord) (row : JobRow) → row_as s n r ≡ Some row → row.number ≡ n
named stages.Pending n r row is = sym (ap (λ (x : JobRow). x.number) (same_Some _ row is))
named (stages.Done c g) n r row is = sym (ap (λ (x : JobRow). x.number) (same_Some _ row is))
named (stages.Waived g) n r row is = absurd (none-some row is)

passed : (o : Option JobRow) (rows : List JobRow) (n : ℕ) → ((row : JobRow) → o ≡ Some row → row.number ≢ n)
    → row_of (cons_option o rows) n ≡ row_of rows n
passed None rows n other = refl
passed (Some row) rows n other = rw (ne_eqb row.number n (other row refl)) refl

found : (o : Option JobRow) (rows : List JobRow) (n : ℕ) → ((row : JobRow) → o ≡ Some row → row.number ≡ n) → row_of rows n ≡ None
    → row_of (cons_option o rows) n ≡ o
found None rows n own none = none
found (Some row) rows n own none = rw (eq-eqb row.number n (own row refl)) refl

none_below : (first n : ℕ) (rs : List JobRecord) → n < first → row_of (rows_in first rs) n ≡ None
none_below first n [] h = refl
none_below first n (r ∷ rs) h =
    passed (row_in first r) (rows_in (first + 1) rs) n (λ row is same. absurd (omega (arith, named r.stage first r row is, same)))
    ∙ none_below (first + 1) n rs (omega arith)

row_from : (first n k : ℕ) (rs : List JobRecord) (r : JobRecord) → n ≡ first + k → slice_get rs k ≡ Some r → row_of (rows_in first rs) n
    ≡ row_in n r
row_from first n k [] r e at = absurd (none-some r at)
row_from first n zero (x ∷ rs) r e at =
    let here : first ≡ n = omega (arith, e) in
    found (row_in first x) (rows_in (first + 1) rs) n (λ row is. named x.stage first x row is ∙ here) (none_below (first + 1) n rs (omega
    (arith, e)))
    ∙ ap (λ (m : ℕ). row_in m x) here ∙ ap (row_in n) (same_Some x r at)
row_from first n (suc k) (x ∷ rs) r e at =
    passed (row_in first x) (rows_in (first + 1) rs) n (λ row is same. absurd (omega (arith, named x.stage first x row is, same, e)))
    ∙ row_from (first + 1) n k rs r (omega (arith, e)) at

none_from : (first n k : ℕ) (rs : List JobRecord) → n ≡ first + k → slice_get rs k ≡ None → row_of (rows_in first rs) n ≡ None
none_from first n k [] e at = refl
none_from first n zero (x ∷ rs) e at = absurd (none-some x (sym at))
none_from first n (suc k) (x ∷ rs) e at =
    passed (row_in first x) (rows_in (first + 1) rs) n (λ row is same. absurd (omega (arith, named x.stage first x row is, same, e)))
    ∙ none_from (first + 1) n k rs (omega (arith, e)) at

pub row_is : (rs : List JobRecord) (n : ℕ) (r : JobRecord) → slice_get rs n ≡ Some r → row_of (rows_in 0 rs) n ≡ row_in n r
row_is rs n r at = row_from 0 n n rs r (omega arith) at

pub no_row : (rs : List JobRecord) (n : ℕ) → slice_get rs n ≡ None → row_of (rows_in 0 rs) n ≡ None
no_row rs n at = none_from 0 n n rs (omega arith) at

-- where it is done, its row says so
pub done_row : (rs : List JobRecord) (n : ℕ) (r : JobRecord) → slice_get rs n ≡ Some r → kept.is_done r.stage ≡ true
    → (is_done (rows_in 0 rs) n ≡ true) × (completion_of (rows_in 0 rs) n ≡ completion_at rs n)
done_row rs n r at done = by_stage r.stage refl done
  where
    by_stage : (s : Stage) → r.stage ≡ s → kept.is_done s ≡ true
        → (is_done (rows_in 0 rs) n ≡ true) × (completion_of (rows_in 0 rs) n ≡ completion_at rs n)
    by_stage stages.Pending e undone = absurd (false≢true undone)
    by_stage (stages.Waived g) e undone = absurd (false≢true undone)
    by_stage (stages.Done c g) e ended =
        let is : row_of (rows_in 0 rs) n ≡ row_as (stages.Done c g) n r = row_is rs n r at ∙ ap (λ (s : Stage). row_as s n r) e in
        (rw is refl, rw (is, at, e) refl)

-- Numbers

-- one more at the end
pub listed_push : (xs : List ℕ) (n k : ℕ) → is_listed (xs ++ n ∷ []) k ≡ ((n == k) || is_listed xs k)
listed_push [] n k = refl
listed_push (x ∷ xs) n k = ap (λ (b : Bool). (x == k) || b) (listed_push xs n k) ∙ swapped (x == k) (n == k) (is_listed xs k)
  where
    swapped : (a b c : Bool) → (a || (b || c)) ≡ (b || (a || c))
    swapped true true c = refl
    swapped true false c = refl
    swapped false b c = refl

-- one that stands there already
pub listed_again : (xs : List ℕ) (i n k d : ℕ) → i < length xs → get_or xs i d ≡ n → is_listed xs k ≡ ((n == k) || is_listed xs k)
listed_again xs i n k d h at = by_same (n == k) refl
  where
    stands : (ys : List ℕ) (m : ℕ) → m < length ys → is_listed ys (get_or ys m d) ≡ true
    stands [] m g = absurd (omega arith)
    stands (y ∷ ys) zero g = or_left (y == y) (is_listed ys y) (eq-eqb y y refl)
    stands (y ∷ ys) (suc m) g = or_right (y == get_or ys m d) (is_listed ys (get_or ys m d)) (stands ys m (omega arith))

    by_same : (b : Bool) → (n == k) ≡ b → is_listed xs k ≡ (b || is_listed xs k)
    by_same true e = ap (is_listed xs) (sym (at ∙ eqb-true n k e)) ∙ stands xs i h
    by_same false e = refl

listed_contains : (xs : List ℕ) (k : ℕ) → is_listed xs k ≡ true → Contains xs k
listed_contains [] k e = absurd (false≢true e)
listed_contains (x ∷ xs) k e =
    elim (or_cases (x == k) (is_listed xs k) e) [
      | inl here ↦ (0, omega arith, eqb-true x k here)
      | inr there ↦ let q = listed_contains xs k there in let lt : q.0 < length xs = q.1 in (suc q.0, omega arith, q.2)
    ]

contains_listed : (xs : List ℕ) (k : ℕ) → Contains xs k → is_listed xs k ≡ true
contains_listed xs k c = at xs c.0 c.1 c.2
  where
    at : (ys : List ℕ) (i : ℕ) → i < length ys → get_or ys i k ≡ k → is_listed ys k ≡ true
    at [] i h e = absurd (omega arith)
    at (y ∷ ys) zero h e = or_left (y == k) (is_listed ys k) (eq-eqb y k e)
    at (y ∷ ys) (suc i) h e = or_right (y == k) (is_listed ys k) (at ys i (omega arith) e)

same_test : (a b : Bool) → (a ≡ true → b ≡ true) → (b ≡ true → a ≡ true) → a ≡ b
same_test true b to from = sym (to refl)
same_test false true to from = from refl
same_test false false to from = refl

-- sorted, and each once
pub deduped : (xs ys zs : List ℕ) → IsPermutation xs ys → IsSorted nat_cmp ys → IsFiltered (DiffersFromLast eqb) [] ys zs
    → IsStrictlyIncreasing zs × ((k : ℕ) → is_listed zs k ≡ is_listed xs k)
deduped xs ys zs moved sorted once =
    let is : zs ≡ dedup eqb ys = dedup_is eqb ys zs once in (
      subst IsStrictlyIncreasing (sym is) (IsStrictlyIncreasing-dedup ys sorted),
      λ k. same_test (is_listed zs k) (is_listed xs k)
          (λ l. contains_listed xs k (Contains-permutation ys xs k (IsPermutation-sym xs ys moved)
          (Contains-from_dedup eqb ys k (subst (λ (qs : List ℕ). Contains qs k) is (listed_contains zs k l)))))
          (λ l. contains_listed zs k (subst (λ (qs : List ℕ). Contains qs k) (sym is)
          (Contains-dedup_nat ys k (Contains-permutation xs ys k moved (listed_contains xs k l))))),
    )

-- The walk

-- the slots that are left come first; of those after them, down to start, each is within, and these numbers were carried
pub record IsWalked (rows : List JobRow) (whole left : Slots) (j n start : ℕ) (numbers : List ℕ) : Type 0 where
  pub rest : Slots
  pub whole_is : whole ≡ left ++ rest
  pub start_is : start ≡ length left
  pub by : start ≤ n
  pub stays : start_of rows whole j n ≡ start_of rows whole j start
  pub listed : (k : ℕ) → is_listed numbers k ≡ is_carried whole start n k

pub walk_starts : (rows : List JobRow) (whole : Slots) (j n : ℕ) → length whole ≡ n → IsWalked rows whole whole j n n []
walk_starts rows whole j n is = record {
  rest = [];
  whole_is = sym (append-nil whole);
  start_is = sym is;
  by = omega arith;
  stays = refl;
  listed = λ k. sym (carried-none whole n n k (omega arith));
}

in_run : (before rest : Slots) (count t : ℕ) (o : Option ℕ) → length before ≤ t → t < length before + count
    → slot_at (before ++ (replicate count o ++ rest)) t ≡ o
in_run [] rest zero t o h k = absurd (omega arith)
in_run [] rest (suc count) zero o h k = refl
in_run [] rest (suc count) (suc t) o h k = in_run [] rest count t o (omega arith) (omega arith)
in_run (x ∷ xs) rest count zero o h k = absurd (omega arith)
in_run (x ∷ xs) rest count (suc t) o h k = in_run xs rest count t o (omega arith) (omega arith)

-- the slots that are taken away
record IsTaken (whole before : Slots) (count start : ℕ) (o : Option ℕ) : Type 0 where
  pub rest : Slots
  pub whole_is : whole ≡ before ++ rest
  pub fits : length before + count ≡ start
  pub carry : AllCarry whole (length before) start o

taken : (rows : List JobRow) (whole left before : Slots) (j n start : ℕ) (numbers : List ℕ) (count : ℕ) (o : Option ℕ)
    → IsWalked rows whole left j n start numbers → left ≡ before ++ replicate count o → IsTaken whole before count start o
taken rows whole left before j n start numbers count o w is =
    let whole_is : whole ≡ before ++ (replicate count o ++ w.rest) = w.whole_is ∙ ap (λ (f : Slots). f ++ w.rest) is
    ∙ append_assoc before (replicate count o) w.rest in
    let fits : length before + count ≡ start =
    omega (arith, w.start_is, ap length is, length-append before (replicate count o), length-replicate count o) in
    record {
      rest = replicate count o ++ w.rest;
      whole_is = whole_is;
      fits = fits;
      carry = λ t h k. ap (λ (f : Slots). slot_at f t) whole_is ∙ in_run before w.rest count t o h (omega (arith, fits));
    }

-- slots of a number that is within
pub walk_goes_on : (rows : List JobRow) (whole left before : Slots) (j n start : ℕ) (numbers more : List ℕ) (count k : ℕ)
    → IsWalked rows whole left j n start numbers → left ≡ before ++ replicate count (Some k) → 0 < count → is_within rows j (Some k) ≡ true
    → ((q : ℕ) → is_listed more q ≡ ((k == q) || is_listed numbers q)) → IsWalked rows whole before j n (start - count) more
walk_goes_on rows whole left before j n start numbers more count k w is some within noted =
    let t = taken rows whole left before j n start numbers count (Some k) w is in
    let down : length before ≡ start - count = omega (arith, t.fits) in
    let fewer : start - count < start = omega (arith, t.fits) in
    let carry : AllCarry whole (start - count) start (Some k) = subst (λ (b : ℕ). AllCarry whole b start (Some k)) down t.carry in
    record {
      rest = t.rest;
      whole_is = t.whole_is;
      start_is = sym down;
      by = omega (arith, w.by);
      stays = w.stays ∙ start-run rows whole j (start - count) start (Some k) (omega arith) carry within;
      listed = λ q. noted q ∙ by_same q carry fewer (k == q) refl;
    }
  where
    by_same : (q : ℕ) → AllCarry whole (start - count) start (Some k) → start - count < start → (b : Bool) → (k == q) ≡ b
        → (b || is_listed numbers q) ≡ is_carried whole (start - count) n q
    by_same q carry fewer true e = sym (true-carried whole (start - count) n q (start - count) (omega arith) (omega (arith, w.by, fewer))
        (carry (start - count) (omega arith) fewer ∙ ap Some (eqb-true k q e)))
    by_same q carry fewer false e =
        w.listed q ∙ carried-further whole (start - count) start n q k (omega (arith, fewer)) w.by carry
        (λ same. true≢false (sym (eq-eqb k q (sym same)) ∙ e))

-- slots of another, or idle ones
pub walk_ends : (rows : List JobRow) (whole left before : Slots) (j n start : ℕ) (numbers : List ℕ) (count : ℕ) (o : Option ℕ)
    → IsWalked rows whole left j n start numbers → left ≡ before ++ replicate count o → 0 < count → is_within rows j o ≡ false
    → start ≡ start_of rows whole j n
walk_ends rows whole left before j n start numbers count o w is some outside =
    let t = taken rows whole left before j n start numbers count o w is in
    sym (w.stays ∙ start-stays rows whole j start (start - 1) o (omega (arith, t.fits))
    (t.carry (start - 1) (omega (arith, t.fits)) (omega (arith, t.fits))) outside)

-- The busy interval

numbers_are : (rows : List JobRow) → RowsRise rows → (c : Slots) (j n : ℕ) (numbers jobs : List ℕ)
    → ((k : ℕ) → is_listed numbers k ≡ is_carried c (start_of rows c j n) n k) → IsStrictlyIncreasing jobs
    → ((k : ℕ) → is_listed jobs k ≡ is_listed numbers k) → jobs ≡ jobs_of rows c (start_of rows c j n) n
numbers_are rows r c j n numbers jobs carried rises same =
    let s : ℕ = start_of rows c j n in
    let ours : IsBusyInterval rows c j s n (jobs_of rows c s n) = busy_interval-is rows c j n r in
    let theirs : IsBusyInterval rows c j s n jobs = record {
      ordered = ours.ordered;
      carries = ours.carries;
      least = ours.least;
      rising = rises;
      listed = λ k. (
        λ l. carried-true c s n k (sym (same k ∙ carried k) ∙ l),
        λ q. same k ∙ carried k ∙ true-carried c s n k q.0 q.1 q.2 q.3,
      );
    } in
    same-jobs rows c j n s s jobs (jobs_of rows c s n) theirs ours

done_by_row : (rows : List JobRow) (j : ℕ) (row : JobRow) (completion : ℕ) → row_of rows j ≡ Some row → row.completion ≡ Some completion
    → (is_done rows j ≡ true) × (due_of rows j ≡ row.due) × (completion_of rows j ≡ completion)
done_by_row rows j row completion is done = (rw (is, done) refl, rw is refl, rw (is, done) refl)

pub row_named : (rows : List JobRow) (j : ℕ) (row : JobRow) → row_of rows j ≡ Some row → row.number ≡ j
row_named [] j row is = absurd (none-some row is)
row_named (x ∷ rows) j row is = by_same (x.number == j) refl is (row_named rows j row)
  where
    by_same : (b : Bool) → (x.number == j) ≡ b → cond b (Some x) (row_of rows j) ≡ Some row
        → (row_of rows j ≡ Some row → row.number ≡ j) → row.number ≡ j
    by_same true e same below = sym (ap (λ (r : JobRow). r.number) (same_Some x row same)) ∙ eqb-true x.number j e
    by_same false e rest below = below rest

pub due_by_row : (rows : List JobRow) (j : ℕ) (row : JobRow) → row_of rows j ≡ Some row → row.due ≡ due_of rows row.number
due_by_row rows j row is = sym (ap (due_of rows) (row_named rows j row is) ∙ ap (number_in (λ (r : JobRow). r.due)) is)

-- what the walk gives is the busy interval of the job
pub interval_is : (rows : List JobRow) → RowsRise rows → (c : Slots) (j : ℕ) (row : JobRow) (completion start : ℕ) (numbers jobs : List ℕ)
    → row_of rows j ≡ Some row → row.completion ≡ Some completion → start ≡ start_of rows c j completion
    → ((k : ℕ) → is_listed numbers k ≡ is_carried c start completion k) → IsStrictlyIncreasing jobs
    → ((k : ℕ) → is_listed jobs k ≡ is_listed numbers k)
    → Some (record { job = j; start = start; due = row.due; completion = completion; jobs = jobs }) ≡ busy_interval_if_done rows c j
interval_is rows r c j row completion start numbers jobs is done start_is carried rises same =
    let known = done_by_row rows j row completion is done in
    let here : jobs ≡ jobs_of rows c start completion =
    numbers_are rows r c j completion numbers jobs (subst (λ (s : ℕ). (k : ℕ) → is_listed numbers k ≡ is_carried c s completion k) start_is
    carried) rises same ∙ ap (λ (s : ℕ). jobs_of rows c s completion) (sym start_is) in
    rw (known.0, known.1, known.2, ← start_is, here) refl

-- as the walk is called
pub walked_is : (rows : List JobRow) → RowsRise rows → (c : Slots) (j : ℕ) (row : JobRow) (completion start : ℕ) (numbers jobs : List ℕ)
    → row_of rows j ≡ Some row → row.completion ≡ Some completion → start ≡ start_of rows c row.number completion
    → ((k : ℕ) → is_listed numbers k ≡ is_carried c start completion k) → IsStrictlyIncreasing jobs
    → ((k : ℕ) → is_listed jobs k ≡ is_listed numbers k)
    → Some (record { job = j; start = start; due = row.due; completion = completion; jobs = jobs }) ≡ busy_interval_if_done rows c j
walked_is rows r c j row completion start numbers jobs is done start_is carried rises same =
    interval_is rows r c j row completion start numbers jobs is done
    (start_is ∙ ap (λ (n : ℕ). start_of rows c n completion) (row_named rows j row is)) carried rises same

-- Later slots

-- a busy interval goes by the slots up to its end alone
over_more : (rows : List JobRow) (c : Slots) (j n s : ℕ) (js : List ℕ) → IsBusyInterval rows (take n c) j s n js → IsBusyInterval rows c j s n js
over_more rows c j n s js h =
    let ordered : s ≤ n = h.ordered in
    record {
      ordered = h.ordered;
      carries = λ t a b. ap (is_within rows j) (sym (get_or-take n c t None b)) ∙ h.carries t a b;
      least = λ t e. ap (is_within rows j) (sym (get_or-take n c t None (omega (arith, e)))) ∙ h.least t e;
      rising = h.rising;
      listed = λ k. (
        λ l. let q = (h.listed k).0 l in (q.0, q.1, q.2, sym (get_or-take n c q.0 None q.2) ∙ q.3),
        λ q. (h.listed k).1 (q.0, q.1, q.2, get_or-take n c q.0 None q.2 ∙ q.3),
      );
    }

pub interval_over_more : (rows : List JobRow) → RowsRise rows → (c : Slots) (j n : ℕ) → completion_of rows j ≡ n
    → busy_interval_of rows (take n c) j ≡ busy_interval_of rows c j
interval_over_more rows r c j n is =
    let s : ℕ = start_of rows (take n c) j n in
    let theirs : IsBusyInterval rows c j s n (jobs_of rows (take n c) s n) = over_more rows c j n s (jobs_of rows (take n c) s n)
    (busy_interval-is rows (take n c) j n r) in
    let ours : IsBusyInterval rows c j (start_of rows c j n) n (jobs_of rows c (start_of rows c j n) n) = busy_interval-is rows c j n r in
    let starts : s ≡ start_of rows c j n = same-start rows c j n s (start_of rows c j n) (jobs_of rows (take n c) s n)
    (jobs_of rows c (start_of rows c j n) n) theirs ours in
    let jobs : jobs_of rows (take n c) s n ≡ jobs_of rows c (start_of rows c j n) n = same-jobs rows c j n s (start_of rows c j n)
    (jobs_of rows (take n c) s n) (jobs_of rows c (start_of rows c j n) n) theirs ours in
    rw is (made s (start_of rows c j n) (jobs_of rows (take n c) s n) (jobs_of rows c (start_of rows c j n) n) starts jobs)
  where
    made : (s t : ℕ) (js ks : List ℕ) → s ≡ t → js ≡ ks
        → ◌≡◌ {A = Certificate} (record { job = j; start = s; due = due_of rows j; completion = n; jobs = js })
        (record { job = j; start = t; due = due_of rows j; completion = n; jobs = ks })
    made s t js ks a b = rw (a, b) refl
