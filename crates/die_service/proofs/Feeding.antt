-- The rows of a feed, and what a course reads of them.
use Rattle.std.proofs.Common.{◌≡◌, ℕ, zero, suc, ◌+◌, ◌-◌, ◌<◌, ◌≤◌, Bool, true, false, true≢false, List, [], ◌∷◌, ◌++◌, Option, Some, None}
use Rattle.std.proofs.Common.{refl, sym, ap, ◌∙◌, subst, arith, length, take, drop, slice_get, get_or, add-one, length-append}
use Rattle.std.specs.Prelude.{option_map, not, ◌&&◌, nat_le, OnOk, Result, Ok, Err}
use Rattle.std.proofs.lemmas.Bool.Decides.{nat_tests}
use Rattle.std.specs.List.{AllByRecursion}
use Rattle.std.proofs.Math.Seq.{drop-append_seam}
use Rattle.std.proofs.lemmas.List.{length-take, length-drop, take_all, take-append-le, drop-append-le}
use Rattle.std.proofs.lemmas.List.Elements.{All-from_recursion, recursion_from_All}
use Rattle.std.proofs.lemmas.Option.{none-some, same_Some, slice_get-get_or}
use Rattle.slot_types.specs.Arrivals.{IsArrival, arrival_of}
use Rattle.slot_types.specs.Operations.{writes}
use Rattle.slot_types.proofs.Arriving.{arrived_none, later_none}
use Rattle.slot_types.specs.declared.events.Event.{Event}
use Rattle.slot_types.specs.declared.events.Op.{Op}
use Rattle.die_service.specs.declared.ends.RefusedEvent.{RefusedEvent}
use Rattle.die_service.specs.declared.feeds.Arrival.{Arrival}
use Rattle.die_service.specs.declared.feeds.FeedRow.{FeedRow}
use Rattle.slot_types.specs.declared.events.JobHead.{JobHead}
use Rattle.slot_core.specs.declared.events.EventHead.{EventHead}
use Rattle.slot_core.specs.declared.events.EventHead.TheVariants as heads
use Rattle.slot_core.specs.Events.{with_ops}
use Rattle.die_service.specs.Feeds.{ops_in, ops_if, ops_at, last_ops, ops_between, arrival_at, feed_from, AreRowsOf, begins_at, writes_before, last_end}
use Rattle.die_service.specs.Feeds.{is_job, arrives, follows, all_follow, IsInOrder}
use Rattle.die_service.specs.Runs.{AllArrive, comes_at}
use Rattle.die_service.specs.Drives.{Course, Comes, NoneDue}

-- Lists

drop_next : {A : Type 0} (xs : List A) (n : ℕ) (x : A) → slice_get xs n ≡ Some x → drop n xs ≡ x ∷ drop (n + 1) xs
drop_next [] n x at = absurd (none-some x at)
drop_next (y ∷ xs) zero x at = ap (λ z. z ∷ xs) (same_Some y x at)
drop_next (y ∷ xs) (suc n) x at =
    let next : suc (n + 1) ≡ suc n + 1 = omega arith in
    drop_next xs n x at ∙ ap (λ (k : ℕ). x ∷ drop k (y ∷ xs)) next

drop_past : {A : Type 0} (xs : List A) (n : ℕ) → length xs ≤ n → drop n xs ≡ []
drop_past [] zero past = refl
drop_past [] (suc n) past = refl
drop_past (x ∷ xs) zero past = absurd (omega (arith, past))
drop_past (x ∷ xs) (suc n) past = drop_past xs n (omega (arith, past))

-- Rows

pub end_within : (ops : List Op) (first : ℕ) (rows : List FeedRow) → AreRowsOf ops first rows → first ≤ last_end first rows
end_within ops first [] are = let same : first ≤ first = omega arith in same
end_within ops first (row ∷ rows) are = let later = end_within ops row.ops_end rows are.2 in let here = are.0 in omega arith

row_stays : (ops more : List Op) (first : ℕ) (row : FeedRow) → first ≤ row.ops_end → row.ops_end ≤ length ops
    → arrival_at (ops ++ more) first row ≡ arrival_at ops first row
row_stays ops more first row forward there = ap (λ (l : List Op). record { at = row.at; event = with_ops row.head l }) same
  where
    same : ops_between (ops ++ more) first row.ops_end ≡ ops_between ops first row.ops_end
    same =
        ap (take (row.ops_end - first)) (drop-append-le first ops more (omega (arith, forward, there)))
        ∙ take-append-le (row.ops_end - first) (drop first ops) more (omega (arith, forward, there, length-drop first ops))

-- the operations of a job that came last
pub new_ops : (ops more : List Op) (first count : ℕ) → first ≡ length ops → count ≡ length more → take count (drop first (ops ++ more))
    ≡ more
new_ops ops more first count first_is count_is = ap (λ n. take count (drop n (ops ++ more))) first_is
    ∙ ap (take count) (drop-append_seam ops more) ∙ take_all count more (omega (arith, count_is))

-- one row more, over operations that go on
pub feed_more : (ops more : List Op) (first : ℕ) (rows : List FeedRow) (row : FeedRow) → AreRowsOf ops first rows
    → last_end first rows ≡ length ops → row.ops_end ≡ length ops + length more
    → feed_from (ops ++ more) first (rows ++ row ∷ [])
    ≡ feed_from ops first rows ++ record { at = row.at; event = with_ops row.head more } ∷ []
feed_more ops more first [] row are ends is = ap (λ (l : List Op). record { at = row.at; event = with_ops row.head l } ∷ [])
    (new_ops ops more first (row.ops_end - first) ends (omega (arith, ends, is)))
feed_more ops more first (r ∷ rows) row are ends is =
    ap (λ (a : Arrival). a ∷ feed_from (ops ++ more) r.ops_end (rows ++ row ∷ [])) (row_stays ops more first r are.0
    (let within = end_within ops r.ops_end rows are.2 in omega (arith, ends, within)))
    ∙ ap (λ (l : List Arrival). arrival_at ops first r ∷ l) (feed_more ops more r.ops_end rows row are.2 ends is)

pub rows_more : (ops more : List Op) (first : ℕ) (rows : List FeedRow) (row : FeedRow) → AreRowsOf ops first rows
    → last_end first rows ≡ length ops → row.ops_end ≡ length ops + length more → row.writes_end ≡ writes (ops ++ more)
    → AreRowsOf (ops ++ more) first (rows ++ row ∷ [])
rows_more ops more first [] row are ends is written = (
  omega (arith, ends, is),
  written ∙ ap writes (sym (take_all row.ops_end (ops ++ more) (omega (arith, is, length-append ops more)))),
  tt,
)
rows_more ops more first (r ∷ rows) row are ends is written = (
  are.0,
  are.1 ∙ ap writes (sym (take-append-le r.ops_end ops more
      (let within = end_within ops r.ops_end rows are.2 in omega (arith, ends, within)))),
  rows_more ops more r.ops_end rows row are.2 ends is written,
)

pub end_more : (first : ℕ) (rows : List FeedRow) (row : FeedRow) → last_end first (rows ++ row ∷ []) ≡ row.ops_end
end_more first [] row = refl
end_more first (r ∷ rows) row = end_more r.ops_end rows row

pub length_feed : (ops : List Op) (first : ℕ) (rows : List FeedRow) → length (feed_from ops first rows) ≡ length rows
length_feed ops first [] = refl
length_feed ops first (row ∷ rows) = ap suc (length_feed ops row.ops_end rows)

-- A place

all_at : {A : Type 0} (P : A → Type 0) (xs : List A) (n : ℕ) (x : A) → AllByRecursion P xs → slice_get xs n ≡ Some x → P x
all_at P [] n x all at = absurd (none-some x at)
all_at P (y ∷ xs) zero x all at = subst P (same_Some y x at) all.0
all_at P (y ∷ xs) (suc n) x all at = all_at P xs n x all.1 at

pub get_at : {A : Type 0} (xs : List A) (n : ℕ) (x : A) → n < length xs → x ≡ get_or xs n x → slice_get xs n ≡ Some x
get_at xs n x within is = slice_get-get_or xs n x within ∙ ap Some (sym is)

-- where the row of a place lies among the operations, and how many of those before its end write
pub row_at : (ops : List Op) (first : ℕ) (rows : List FeedRow) (n : ℕ) (row : FeedRow) → slice_get rows n ≡ Some row → AreRowsOf ops first rows
    → (begins_at first rows n ≤ row.ops_end) × (row.ops_end ≤ last_end first rows) × (row.writes_end ≡ writes (take row.ops_end ops))
row_at ops first [] n row at are = absurd (none-some row at)
row_at ops first (r ∷ rows) zero row at are =
    let same : r ≡ row = same_Some r row at in
    let within = end_within ops r.ops_end rows are.2 in
    subst (λ (x : FeedRow). (first ≤ x.ops_end) × (x.ops_end ≤ last_end r.ops_end rows) × (x.writes_end ≡ writes (take x.ops_end ops))) same
    (are.0, within, are.1)
row_at ops first (r ∷ rows) (suc n) row at are = row_at ops r.ops_end rows n row at are.2

-- the operations of a row begin where those of the row before it end
pub begins_after : (first : ℕ) (rows : List FeedRow) (n : ℕ) (before : FeedRow) → slice_get rows n ≡ Some before
    → begins_at first rows (suc n) ≡ before.ops_end
begins_after first [] n before at = absurd (none-some before at)
begins_after first (r ∷ rows) zero before at = ap (λ (x : FeedRow). x.ops_end) (same_Some r before at)
begins_after first (r ∷ rows) (suc n) before at = begins_after r.ops_end rows n before at

pub writes_after : (first : ℕ) (rows : List FeedRow) (n : ℕ) (before : FeedRow) → slice_get rows n ≡ Some before
    → writes_before first rows (suc n) ≡ before.writes_end
writes_after first [] n before at = absurd (none-some before at)
writes_after first (r ∷ rows) zero before at = ap (λ (x : FeedRow). x.writes_end) (same_Some r before at)
writes_after first (r ∷ rows) (suc n) before at = writes_after r.writes_end rows n before at

-- how many operations before those of a row write
pub counted_before : (ops : List Op) (first written : ℕ) (rows : List FeedRow) (n : ℕ) (row : FeedRow) → slice_get rows n ≡ Some row
    → AreRowsOf ops first rows → written ≡ writes (take first ops)
    → writes_before written rows n ≡ writes (take (begins_at first rows n) ops)
counted_before ops first written [] n row at are is = absurd (none-some row at)
counted_before ops first written (r ∷ rows) zero row at are is = is
counted_before ops first written (r ∷ rows) (suc n) row at are is = counted_before ops r.ops_end r.writes_end rows n row at are.2 are.1

pub place_at : (ops : List Op) (first : ℕ) (rows : List FeedRow) (n : ℕ) (row : FeedRow) → slice_get rows n ≡ Some row
    → slice_get (feed_from ops first rows) n ≡ Some (arrival_at ops (begins_at first rows n) row)
place_at ops first [] n row at = absurd (none-some row at)
place_at ops first (r ∷ rows) zero row at = ap (λ (x : FeedRow). Some (arrival_at ops first x)) (same_Some r row at)
place_at ops first (r ∷ rows) (suc n) row at = place_at ops r.ops_end rows n row at

pub none_at : (ops : List Op) (first : ℕ) (rows : List FeedRow) (n : ℕ) → slice_get rows n ≡ None
    → slice_get (feed_from ops first rows) n ≡ None
none_at ops first [] n at = refl
none_at ops first (r ∷ rows) zero at = absurd (none-some r (sym at))
none_at ops first (r ∷ rows) (suc n) at = none_at ops r.ops_end rows n at

job_by : (head : JobHead) (ops : List Op) (b : Bool) → head.collects ≡ b → not b ≡ true → ops_in (arrival_of head ops) ≡ ops
job_by head ops true e is = absurd (true≢false (sym is))
job_by head ops false e is = rw e refl

-- the operations of a job are those beside its head
pub job_ops : (head : EventHead) (ops : List Op) → is_job head ≡ true → ops_in (with_ops head ops) ≡ ops
job_ops (heads.Arrive head) ops is = job_by head ops head.collects refl is
job_ops heads.Slot ops is = absurd (true≢false (sym is))

other_by : (head : JobHead) (ops : List Op) (b : Bool) → head.collects ≡ b → not b ≡ false
    → (ops_in (arrival_of head ops) ≡ []) × (arrival_of head ops ≡ arrival_of head [])
other_by head ops true e is = rw e (refl, refl)
other_by head ops false e is = absurd (true≢false is)

-- an event that isn't a job has none
pub other_ops : (head : EventHead) (ops : List Op) → is_job head ≡ false
    → (ops_in (with_ops head ops) ≡ []) × (with_ops head ops ≡ with_ops head [])
other_ops (heads.Arrive head) ops is = other_by head ops head.collects refl is
other_ops heads.Slot ops is = (refl, refl)

job_if : (head : EventHead) (ops : List Op) (n : ℕ) (b : Bool) → is_job head ≡ b → n < length (ops_in (with_ops head ops)) → b ≡ true
job_if head ops n true e within = refl
job_if head ops n false e within = let none = ap length (other_ops head ops e).0 in absurd (omega (arith, within, none))

-- where there is an operation, there is a job
pub job_of : (head : EventHead) (ops : List Op) (n : ℕ) → n < length (ops_in (with_ops head ops)) → is_job head ≡ true
job_of head ops n within = job_if head ops n (is_job head) refl within

own_by : (head : JobHead) (ops : List Op) (b : Bool) → head.collects ≡ b → arrival_of head (ops_in (arrival_of head ops))
    ≡ arrival_of head ops
own_by head ops true e = rw e refl
own_by head ops false e = rw e refl

-- an event is its head and its operations
pub own_ops : (head : EventHead) (ops : List Op) → with_ops head (ops_in (with_ops head ops)) ≡ with_ops head ops
own_ops (heads.Arrive head) ops = own_by head ops head.collects refl
own_ops heads.Slot ops = refl

pub between_length : (ops : List Op) (first last : ℕ) → first ≤ last → last ≤ length ops → length (ops_between ops first last) ≡ last - first
between_length ops first last forward there =
    omega (arith, forward, there, length-take (last - first) (drop first ops), length-drop first ops)

get_taken : {A : Type 0} (xs : List A) (count n : ℕ) → n < count → slice_get (take count xs) n ≡ slice_get xs n
get_taken [] zero n within = absurd (omega (arith, within))
get_taken [] (suc count) n within = refl
get_taken (x ∷ xs) zero n within = absurd (omega (arith, within))
get_taken (x ∷ xs) (suc count) zero within = refl
get_taken (x ∷ xs) (suc count) (suc n) within = get_taken xs count n (omega (arith, within))

slice_get_drop : {A : Type 0} (xs : List A) (first n : ℕ) → slice_get (drop first xs) n ≡ slice_get xs (first + n)
slice_get_drop xs zero n = ap (slice_get xs) (let same : n ≡ zero + n = omega arith in same)
slice_get_drop [] (suc first) n = refl
slice_get_drop (x ∷ xs) (suc first) n = slice_get_drop xs first n
    ∙ ap (slice_get (x ∷ xs)) (let same : suc (first + n) ≡ suc first + n = omega arith in same)

-- an operation of a row
pub op_between : (ops : List Op) (first last n : ℕ) → n < last - first → slice_get (ops_between ops first last) n ≡ slice_get ops (first + n)
op_between ops first last n within = get_taken (drop first ops) (last - first) n within ∙ slice_get_drop ops first n

-- an operation of an event lies between the ends of its row
pub item_within : (head : EventHead) (ops : List Op) (first last n : ℕ) → first ≤ last → last ≤ length ops
    → n < length (ops_in (with_ops head (ops_between ops first last)))
    → (n < last - first) × (ops_in (with_ops head (ops_between ops first last)) ≡ ops_between ops first last)
    × ((count : ℕ) → count ≡ length (ops_in (with_ops head (ops_between ops first last))) → first + n ≡ last - (count - n))
item_within head ops first last n forward there within =
    let all = job_ops head (ops_between ops first last) (job_of head (ops_between ops first last) n within) in
    let same = ap length all in
    let long = between_length ops first last forward there in
    let here : n < last - first = omega (arith, within, same, long) in
    (here, all, λ count is. omega (arith, is, same, long, here, forward))

pub get_past : {A : Type 0} (xs : List A) (n : ℕ) → length xs ≤ n → slice_get xs n ≡ None
get_past [] n past = refl
get_past (x ∷ xs) zero past = absurd (omega (arith, past))
get_past (x ∷ xs) (suc n) past = get_past xs n (omega (arith, past))

-- the event of a place is its head and its operations
pub event_at : (feed : List Arrival) (n : ℕ) (at : ℕ) (head : EventHead) (own : List Op)
    → slice_get feed n ≡ Some (record { at = at; event = with_ops head own })
    → option_map (λ (a : Arrival). a.event) (slice_get feed n) ≡ Some (with_ops head (ops_at feed n))
event_at feed n at head own here =
    ap (option_map (λ (a : Arrival). a.event)) here
    ∙ ap Some (sym (own_ops head own))
    ∙ ap (λ (o : Option Arrival). Some (with_ops head (ops_if o))) (sym here)

-- of one event more that came, its operations are those of the last
pub last_next : (place : ℕ) (feed : List Arrival) → last_ops (place + 1) feed ≡ ops_at feed place
last_next place feed = rw add-one refl

-- In order

head_arrives : (head : EventHead) (ops : List Op) → (arrives head ≡ true → IsArrival (with_ops head ops))
    × (IsArrival (with_ops head ops) → arrives head ≡ true)
head_arrives (heads.Arrive head) ops = (λ _. arrival_by head ops head.collects refl, λ _. refl)
  where
    arrival_by : (head : JobHead) (ops : List Op) (b : Bool) → head.collects ≡ b → IsArrival (arrival_of head ops)
    arrival_by head ops true e = rw e tt
    arrival_by head ops false e = rw e tt
head_arrives heads.Slot ops = (λ is. absurd (true≢false (sym is)), λ is. absurd is)

both_true : (a b : Bool) → a && b ≡ true → (a ≡ true) × (b ≡ true)
both_true true true is = (refl, refl)
both_true true false is = absurd (true≢false (sym is))
both_true false b is = absurd (true≢false (sym is))

true_both : (a b : Bool) → a ≡ true → b ≡ true → a && b ≡ true
true_both a b here there = rw (here, there) refl

at_most : (m n : ℕ) → (nat_le m n ≡ true → m ≤ n) × (m ≤ n → nat_le m n ≡ true)
at_most m n = (λ is. grind (arith, nat_tests), λ le. grind (arith, nat_tests))

-- the rows of a feed that a run may be given are those that pass its test
pub in_order : (ops : List Op) (from first : ℕ) (rows : List FeedRow) → all_follow from rows ≡ true
    → IsInOrder from (feed_from ops first rows)
in_order ops from first [] is = tt
in_order ops from first (row ∷ rows) is =
    let both = both_true (follows from row) (all_follow row.at rows) is in
    let here = both_true (arrives row.head) (nat_le from row.at) both.0 in (
      (head_arrives row.head (ops_between ops first row.ops_end)).0 here.0,
      (at_most from row.at).0 here.1,
      in_order ops row.at row.ops_end rows both.1,
    )

pub order_reports : (ops : List Op) (from first : ℕ) (rows : List FeedRow) → IsInOrder from (feed_from ops first rows)
    → all_follow from rows ≡ true
order_reports ops from first [] is = refl
order_reports ops from first (row ∷ rows) is = true_both (follows from row) (all_follow row.at rows)
    (true_both (arrives row.head) (nat_le from row.at) ((head_arrives row.head (ops_between ops first row.ops_end)).1 is.0)
    ((at_most from row.at).1 is.1)) (order_reports ops row.at row.ops_end rows is.2)

arrive_by : (from : ℕ) (feed : List Arrival) → IsInOrder from feed → AllByRecursion (λ (a : Arrival). IsArrival a.event) feed
arrive_by from [] is = tt
arrive_by from (a ∷ feed) is = (is.0, arrive_by a.at feed is.2)

pub all_arrive : (from : ℕ) (feed : List Arrival) → IsInOrder from feed → AllArrive feed
all_arrive from feed is = All-from_recursion (λ (a : Arrival). IsArrival a.event) feed (arrive_by from feed is)

-- A course

get_some : {A B : Type 0} (f : A → B) (o : Option A) (y : B) → option_map f o ≡ Some y → (x : A) × (o ≡ Some x) × (f x ≡ y)
get_some f None y e = absurd (none-some y e)
get_some f (Some x) y e = (x, refl, same_Some (f x) y e)

-- nothing is left
pub none_left : (clock place : ℕ) (feed : List Arrival) → length feed ≤ place → NoneDue clock (drop place feed)
none_left clock place feed past = subst (NoneDue clock) (sym (drop_past feed place past)) (refl, refl)

none_by : (clock : ℕ) (a : Arrival) (rest : List Arrival) → clock < a.at → NoneDue clock (a ∷ rest)
none_by clock a rest later = (arrived_none comes_at clock a rest later, later_none comes_at clock a rest later)

-- the next event comes later
pub none_yet : (clock place at : ℕ) (feed : List Arrival) → option_map (λ (a : Arrival). a.at) (slice_get feed place) ≡ Some at → clock < at
    → NoneDue clock (drop place feed)
none_yet clock place at feed is later =
    let a = get_some (λ (a : Arrival). a.at) (slice_get feed place) at is in
    subst (NoneDue clock) (sym (drop_next feed place a.0 a.1)) (none_by clock a.0 (drop (place + 1) feed) (omega (arith, a.2, later)))

abbrev pub on : ℕ → List Arrival → List Op → List RefusedEvent → Course
on place feed ops refused = record { rest = drop place feed; place = place; ops = ops; refused = refused }

-- the next event comes now
pub comes_now : (clock place at : ℕ) (feed : List Arrival) (event : Event) (old ops : List Op) (refused : List RefusedEvent)
    → option_map (λ (a : Arrival). a.at) (slice_get feed place) ≡ Some at → at ≤ clock
    → option_map (λ (a : Arrival). a.event) (slice_get feed place) ≡ Some event → AllArrive feed
    → Comes clock (on place feed old refused) event (on (place + 1) feed ops refused)
comes_now clock place at feed event old ops refused is by event_is arrive =
    let a = get_some (λ (a : Arrival). a.at) (slice_get feed place) at is in
    let same : a.0.event ≡ event = same_Some a.0.event event (sym (ap (option_map (λ (a : Arrival). a.event)) a.1) ∙ event_is) in record {
      arrival = a.0;
      event_is = sym same;
      by = omega (arith, by, a.2);
      arrives = subst IsArrival same (all_at (λ (a : Arrival). IsArrival a.event) feed place a.0
          (recursion_from_All (λ (a : Arrival). IsArrival a.event) feed arrive) a.1);
      rest = drop_next feed place a.0 a.1;
      place = refl;
      refused = refl;
    }

-- One event more at the end

get_front : {A : Type 0} (xs : List A) (n : ℕ) (x : A) → n < length xs → slice_get (xs ++ x ∷ []) n ≡ slice_get xs n
get_front [] n x below = absurd (omega (arith, below))
get_front (y ∷ xs) zero x below = refl
get_front (y ∷ xs) (suc n) x below = get_front xs n x (omega (arith, below))

last_stays : (place : ℕ) (feed : List Arrival) (x : Arrival) → place ≤ length feed → last_ops place (feed ++ x ∷ []) ≡ last_ops place feed
last_stays zero feed x within = refl
last_stays (suc place) feed x within = ap ops_if (get_front feed place x (omega (arith, within)))

pub course_more : {T E : Type 0} (r : Result T E) (feed new : List Arrival) (place : ℕ) (x : Arrival) (refused noted : List RefusedEvent)
    → place ≤ length feed → noted ≡ refused → OnOk r (new ≡ feed ++ x ∷ [])
    → OnOk r (on place new (last_ops place new) noted ≡ record (on place feed (last_ops place feed) refused) { rest = drop place feed ++ x ∷ [] })
course_more (Err e) feed new place x refused noted within same is = tt
course_more (Ok u) feed new place x refused noted within same is =
    let rest : drop place new ≡ drop place feed ++ x ∷ [] = ap (drop place) is ∙ drop-append-le place feed (x ∷ []) within in
    let ops : last_ops place new ≡ last_ops place feed = ap (last_ops place) is ∙ last_stays place feed x within in
    λ i. record { rest = rest i; place = place; ops = ops i; refused = same i }
