-- Room in a queue.
use Rattle.std.proofs.Common.{◌≡◌, ◌≢◌, ℕ, suc, ◌+◌, ◌-◌, ◌≤◌, ◌&&◌, nat_le, nat_lt, Bool, true, false, cond, List, [], ◌∷◌, ◌++◌, length, refl, ap, sym, ◌∙◌, arith}
use Rattle.std.proofs.lemmas.Bool.Decides.{nat_tests}
use Rattle.std.proofs.lemmas.List.{length_push}
use Rattle.std.proofs.lemmas.List.Sums.{sum_by_push}
use Rattle.task_outcomes.specs.declared.task_outcome.TaskOutcome.{TaskOutcome}
use Rattle.task_outcomes.specs.Queues.{Queue, pages_in, have_room, newest_in, counted, with_outcome, without_oldest}

-- there is room for one more
pub room_is : (room : ℕ) (kept : List TaskOutcome) (o : TaskOutcome)
    → have_room room (kept ++ o ∷ []) ≡ (nat_lt (length kept) room && nat_le (pages_in kept + length o.reads) room)
room_is room kept o =
    rw (length_push kept o) (rw (sum_by_push (λ (x : TaskOutcome). length x.reads) kept o)
    (ap (λ b. b && nat_le (pages_in kept + length o.reads) room) (grind (arith, nat_tests))))

-- the test of it, where there is room for the job, or there is none
pub room_then : (len room pages reads : ℕ) → nat_lt len room ≡ true → pages ≤ room
    → nat_le reads (room - pages) ≡ (nat_lt len room && nat_le (pages + reads) room)
room_then len room pages reads few le = rw few (grind (arith, nat_tests, le))

pub room_else : (len room pages reads : ℕ) → nat_lt len room ≡ false
    → nat_lt len room ≡ (nat_lt len room && nat_le (pages + reads) room)
room_else len room pages reads few = few ∙ sym (ap (λ b. b && nat_le (pages + reads) room) few)

-- what has room stays
pub all_fit : (room : ℕ) (xs : List TaskOutcome) → have_room room xs ≡ true → newest_in room xs ≡ xs
all_fit room [] e = refl
all_fit room (x ∷ xs) e = rw e refl

pub no_more : (room : ℕ) (xs : List TaskOutcome) → length (newest_in room xs) ≤ length xs
no_more room [] = omega arith
no_more room (x ∷ xs) = by (no_more room xs) (have_room room (x ∷ xs))
  where
    by : length (newest_in room xs) ≤ length xs → (b : Bool) → length (cond b (x ∷ xs) (newest_in room xs)) ≤ length (x ∷ xs)
    by later true = omega arith
    by later false = omega (arith, later)

-- one that fits comes last
pub fits : (o : TaskOutcome) (q : Queue) → q.dropped ≤ 18446744073709551615 → have_room q.room (q.kept ++ o ∷ []) ≡ true
    → record q { kept = q.kept ++ o ∷ [] } ≡ with_outcome o q
fits o q few e =
    let all = all_fit q.room (q.kept ++ o ∷ []) e in
    let same : q.dropped ≡ counted (q.dropped + (length (q.kept ++ o ∷ []) - length (newest_in q.room (q.kept ++ o ∷ [])))) =
    rw all (grind (arith, few)) in
    (λ i. record q { kept = sym all i; dropped = same i })

-- one that doesn't fit even alone is counted
pub is_dropped : (o : TaskOutcome) (q : Queue) → length q.kept ≡ 0 → have_room q.room (q.kept ++ o ∷ []) ≡ false
    → record q { dropped = counted (q.dropped + 1) } ≡ with_outcome o q
is_dropped o q none e = by q.kept none e
  where
    by : (kept : List TaskOutcome) → length kept ≡ 0 → have_room q.room (kept ++ o ∷ []) ≡ false
        → record q { kept = kept; dropped = counted (q.dropped + 1) } ≡ with_outcome o (record q { kept = kept })
    by [] n k = rw k refl
    by (x ∷ xs) n k = absurd (omega (arith, n))

count_on : (d n k : ℕ) → k ≤ n → counted (counted (d + 1) + (n - k)) ≡ counted (d + (suc n - k))
count_on d n k le = grind (arith, le)

-- the oldest goes where there is no room
pub oldest_goes : (o : TaskOutcome) (q : Queue) → length q.kept ≢ 0 → have_room q.room (q.kept ++ o ∷ []) ≡ false
    → with_outcome o (without_oldest q) ≡ with_outcome o q
oldest_goes o q some e = by q.kept some e
  where
    by : (kept : List TaskOutcome) → length kept ≢ 0 → have_room q.room (kept ++ o ∷ []) ≡ false
        → with_outcome o (without_oldest (record q { kept = kept })) ≡ with_outcome o (record q { kept = kept })
    by [] n k = absurd (n refl)
    by (x ∷ xs) n k =
        let goes : newest_in q.room (x ∷ (xs ++ o ∷ [])) ≡ newest_in q.room (xs ++ o ∷ []) = rw k refl in
        let count : counted (counted (q.dropped + 1) + (length (xs ++ o ∷ []) - length (newest_in q.room (xs ++ o ∷ []))))
        ≡ counted (q.dropped + (length (x ∷ (xs ++ o ∷ [])) - length (newest_in q.room (x ∷ (xs ++ o ∷ []))))) =
        count_on q.dropped (length (xs ++ o ∷ [])) (length (newest_in q.room (xs ++ o ∷ []))) (no_more q.room (xs ++ o ∷ []))
        ∙ ap (λ (ys : List TaskOutcome). counted (q.dropped + (length (x ∷ (xs ++ o ∷ [])) - length ys))) (sym goes) in
        (λ i. record q { kept = sym goes i; dropped = count i })
