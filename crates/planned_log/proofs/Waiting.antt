-- From which slot on a task has room for an ask.
use Rattle.std.proofs.Common.{◌≡◌, ℕ, ◌+◌, ◌<◌, ◌≤◌, ◌==◌, ◌↔◌, nat_le, nat_lt, max, Bool, true, false, cond, filter}
use Rattle.std.proofs.Common.{List, [], ◌∷◌, ◌++◌, length, sum_by, refl, ap, sym, subst, arith}
use Rattle.std.specs.Prelude.{IsTrue}
use Rattle.std.specs.List.{AllByRecursion}
use Rattle.std.proofs.lemmas.Bool.{and_parts, and_from, leb-true, le-leb, ltb-true}
use Rattle.std.proofs.lemmas.Bool.Decides.{nat_tests}
use Rattle.std.proofs.lemmas.List.Sums.{sum_by-cons}
use Rattle.std.proofs.lemmas.List.Elements.{recursion_from_All}
use Rattle.slot_types.specs.declared.events.Event.{Event}
use Rattle.slot_types.specs.declared.events.Event.TheVariants as events
use Rattle.slot_types.specs.Operations.{writes}
use Rattle.plan_rules.specs.Keeping.{TaskArrival, arrivals, slots}
use Rattle.plan_rules.proofs.Moments.{arrivals_after, slots_append}
use Rattle.demand_rules.specs.declared.terms.TaskTerms.{TaskTerms}
use Rattle.demand_rules.specs.declared.terms.Terms.{Terms}
use Rattle.demand_rules.specs.Demand.{terms_of}
use Rattle.die_log.specs.Model.Log.{Log, now}
use Rattle.die_log.specs.Model.Start.{Start}
use Rattle.die_log.specs.Model.Lives.{Lives, all_slots}
use Rattle.die_log.specs.Results.InTime.{events_of_log}
use Rattle.planned_log.specs.Asks.{Asked, with_ask, asked_in, asked_by, counts_in, counting, operations_in, writes_in}
use Rattle.planned_log.specs.Asks.{has_room, free_at, room_at}
use Rattle.planned_log.specs.Lives.{IsWithinLife, ArePlannedLives}
use Rattle.planned_log.specs.Laws.{IsKept}
use Rattle.planned_log.proofs.Asking.{all_parts, all_as, prompt}
use Rattle.planned_log.proofs.Kept.{clock_is}

-- The newest stands first

abbrev by_slot : ℕ → List Asked → Type 0
by_slot slot asked = AllByRecursion (λ a. a.at ≤ slot) asked

abbrev AreNewestFirst : List Asked → Type 0
AreNewestFirst [] = Unit {0}
AreNewestFirst (a ∷ older) = by_slot a.at older × AreNewestFirst older

abbrev StandBy : ℕ → List Asked → Type 0
StandBy slot asked = by_slot slot asked × AreNewestFirst asked

later : (n m : ℕ) → n ≤ m → (asked : List Asked) → by_slot n asked → by_slot m asked
later n m le = all_as (λ a. a.at ≤ n) (λ a. a.at ≤ m) (λ a h. omega (arith, le, h))

one_more : (task first : ℕ) (event : Event) (n : ℕ) (asked : List Asked) → AllByRecursion (λ a. a.release ≡ a.at) (arrivals n (event ∷ []))
    → StandBy (first + n) asked → StandBy (first + n) (with_ask task first event asked)
one_more task first (events.Submit other release due ops) n asked p h = by_test (other == task)
  where
    at_is : first + release ≡ first + n
    at_is = ap (λ k. first + k) p.0

    by_test : (b : Bool) → StandBy (first + n) (cond b (record { at = first + release; operations = length ops; writes = writes ops } ∷ asked) asked)
    by_test true = ((omega (arith, at_is), h.0), (subst (λ k. by_slot k asked) (sym at_is) h.0, h.1))
    by_test false = h
one_more task first (events.Collect other release due) n asked p h = h
one_more task first events.Slot n asked p h = h

in_log : (task first : ℕ) (before : List Asked) (log : Log) → AllByRecursion (λ a. a.release ≡ a.at) (arrivals 0 (events_of_log log))
    → StandBy first before → StandBy (first + slots (events_of_log log)) (asked_in task first before log)
in_log task first before [] p h = (later first (first + 0) (omega arith) before h.0, h.1)
in_log task first before (entry ∷ past) p h =
    let xs : List Event = events_of_log past in
    let parts = arrivals_after xs (entry.event ∷ []) in
    let q = all_parts (λ a. a.release ≡ a.at) (arrivals 0 xs) (arrivals (slots xs) (entry.event ∷ []))
    (subst (AllByRecursion (λ a. a.release ≡ a.at)) parts p) in
    let k = one_more task first entry.event (slots xs) (asked_in task first before past) q.1 (in_log task first before past q.0 h) in
    (later (first + slots xs) (first + slots (xs ++ entry.event ∷ [])) (omega (arith, slots_append xs (entry.event ∷ []))) _ k.0, k.1)

in_lives : (life task : ℕ) (lives : Lives) → ArePlannedLives life lives → StandBy (all_slots lives) (asked_by task lives)
in_lives life task [] h = (tt, tt)
in_lives life task (log ∷ earlier) h =
    let own : List TaskArrival = arrivals 0 (events_of_log log) in
    let k = in_log task (all_slots earlier) (asked_by task earlier) log (prompt life own (recursion_from_All (IsWithinLife life) own h.1))
    (in_lives life task earlier h.0) in
    (later (all_slots earlier + slots (events_of_log log)) (all_slots (log ∷ earlier)) (omega (arith, h.2, sum_by-cons now log earlier)) _ k.0, k.1)

-- What counts in a slot

module _ (amount : Asked → ℕ) (limit period : ℕ) where
  abbrev counted : ℕ → List Asked → ℕ
  counted slot asked = sum_by (λ a. cond (counts_in period slot a) (amount a) 0) asked

  -- where the newest doesn't count, none does
  none_counts : (slot newest : ℕ) (asked : List Asked) → newest + period ≤ slot → by_slot newest asked → counted slot asked ≡ 0
  none_counts slot newest [] old h = refl
  none_counts slot newest (a ∷ asked) old h =
      let out : counts_in period slot a ≡ false = not_now a.at h.0 in
      omega (
        arith,
        sum_by-cons (λ b. cond (counts_in period slot b) (amount b) 0) a asked,
        ap {B = ℕ} (λ b. cond b (amount a) 0) out,
        none_counts slot newest asked old h.1,
      )
    where
      not_now : (n : ℕ) → n ≤ newest → nat_lt slot (n + period) ≡ false
      not_now n le = grind (arith, nat_tests, le, old)

  counted_cons : (slot : ℕ) (a : Asked) (asked : List Asked) (b : Bool) → counts_in period slot a ≡ b
      → counted slot (a ∷ asked) ≡ cond b (amount a) 0 + counted slot asked
  counted_cons slot a asked b is = omega (
    arith,
    sum_by-cons (λ x. cond (counts_in period slot x) (amount x) 0) a asked,
    ap {B = ℕ} (λ c. cond c (amount a) 0) is,
  )

  -- what is known of the older ones
  abbrev Known : ℕ → ℕ → List Asked → Type 0
  Known slot moment asked = (n : ℕ) → n ≤ limit
      → (counted slot asked + n ≤ limit) ↔ (free_at amount limit period (filter (counts_in period moment) asked) n ≤ slot)

  module _ (slot moment : ℕ) (le : moment ≤ slot) (a : Asked) (asked : List Asked) (old : by_slot a.at asked) (n : ℕ) (small : n ≤ limit)
      (known : Known slot moment asked) where
    abbrev rest : List Asked
    rest = filter (counts_in period moment) asked

    -- it counts no more in a later slot
    over : counts_in period moment a ≡ false → counts_in period slot a ≡ false
    over e = grind (arith, nat_tests, le, e)

    still : counts_in period slot a ≡ true → slot < a.at + period
    still e = ltb-true slot (a.at + period) e

    gone : counts_in period slot a ≡ false → a.at + period ≤ slot
    gone e = grind (arith, nat_tests, e)

    nothing : counts_in period slot a ≡ false → counted slot (a ∷ asked) ≡ 0
    nothing e = omega (arith, counted_cons slot a asked false e, none_counts slot a.at asked (gone e) old)

    too_much : limit < amount a + n → (b : Bool) → counts_in period slot a ≡ b
        → (counted slot (a ∷ asked) + n ≤ limit) ↔ (a.at + period ≤ slot)
    too_much more true e = (
      (λ k. absurd (omega (arith, k, more, counted_cons slot a asked true e))),
      (λ k. absurd (omega (arith, k, still e))),
    )
    too_much more false e = ((λ k. gone e), (λ k. omega (arith, nothing e, small)))

    fits : amount a + n ≤ limit → (b : Bool) → counts_in period slot a ≡ b
        → (counted slot (a ∷ asked) + n ≤ limit) ↔ (free_at amount limit period rest (amount a + n) ≤ slot)
    fits within true e = (
      (λ k. (known (amount a + n) within).0 (omega (arith, k, counted_cons slot a asked true e))),
      (λ k. omega (arith, (known (amount a + n) within).1 k, counted_cons slot a asked true e)),
    )
    fits within false e = (
      (λ k. (known (amount a + n) within).0 (omega (arith, within, nothing e, counted_cons slot a asked false e))),
      (λ k. omega (arith, nothing e, small)),
    )

    by_limit : (b : Bool) → nat_lt limit (amount a + n) ≡ b
        → (counted slot (a ∷ asked) + n ≤ limit) ↔ (cond b (a.at + period) (free_at amount limit period rest (amount a + n)) ≤ slot)
    by_limit true e = too_much (ltb-true limit (amount a + n) e) (counts_in period slot a) refl
    by_limit false e = fits (grind (arith, nat_tests, e)) (counts_in period slot a) refl

    by_moment : (b : Bool) → counts_in period moment a ≡ b
        → (counted slot (a ∷ asked) + n ≤ limit) ↔ (free_at amount limit period (cond b (a ∷ rest) rest) n ≤ slot)
    by_moment true e = by_limit (nat_lt limit (amount a + n)) refl
    by_moment false e = (
      (λ k. (known n small).0 (omega (arith, k, counted_cons slot a asked false (over e)))),
      (λ k. omega (arith, (known n small).1 k, counted_cons slot a asked false (over e))),
    )

  pub free_from : (slot moment : ℕ) → moment ≤ slot → (asked : List Asked) → AreNewestFirst asked → Known slot moment asked
  free_from slot moment le [] h n small = ((λ k. omega arith), (λ k. omega (arith, small)))
  free_from slot moment le (a ∷ asked) h n small =
      by_moment slot moment le a asked h.0 n small (free_from slot moment le asked h.1) (counts_in period moment a) refl

-- of both, operations and writes
pub room_from : (t : TaskTerms) (asked : List Asked) → AreNewestFirst asked → (moment slot ops written : ℕ) → moment ≤ slot → ops ≤ t.work
    → written ≤ t.writes
    → IsTrue (has_room t slot asked ops written) ↔ (room_at t (counting t.period moment asked) ops written ≤ slot)
room_from t asked h moment slot ops written le few few_written =
    let o = free_from (λ a. a.operations) t.work t.period slot moment le asked h ops few in
    let w = free_from (λ a. a.writes) t.writes t.period slot moment le asked h written few_written in (
      (λ room.
          let p = and_parts (nat_le (operations_in t.period slot asked + ops) t.work) (nat_le (writes_in t.period slot asked + written) t.writes) room in
          most (o.0 (leb-true _ _ p.0)) (w.0 (leb-true _ _ p.1))),
      (λ by.
          let q = least by in
          and_from (nat_le (operations_in t.period slot asked + ops) t.work) (nat_le (writes_in t.period slot asked + written) t.writes)
          (le-leb _ _ (o.1 q.0)) (le-leb _ _ (w.1 q.1))),
    )
  where
    most : {a b c : ℕ} → a ≤ c → b ≤ c → max a b ≤ c
    most {a} {b} {c} p q = grind (arith, p, q)

    least : {a b c : ℕ} → max a b ≤ c → (a ≤ c) × (b ≤ c)
    least {a} {b} {c} p = (omega (arith, p), omega (arith, p))

pub waits_until : (start : Start) (terms : Terms) (earlier : Lives) (life entered : ℕ) (log : Log) → IsKept start terms earlier life entered log
    → (task slot ops written : ℕ) → now log ≤ slot → ops ≤ (terms_of terms task).work → written ≤ (terms_of terms task).writes
    → IsTrue (has_room (terms_of terms task) (all_slots earlier + slot) (asked_by task (log ∷ earlier)) ops written)
    ↔ (room_at (terms_of terms task) (counting (terms_of terms task).period (all_slots earlier + now log) (asked_by task (log ∷ earlier))) ops written
    ≤ all_slots earlier + slot)
waits_until start terms earlier life entered log k task slot ops written le few few_written =
    room_from (terms_of terms task) (asked_by task (log ∷ earlier))
    (in_lives life task (log ∷ earlier) (k.lived, k.kept.each, sym (clock_is start terms earlier life entered log k))).1
    (all_slots earlier + now log) (all_slots earlier + slot) ops written (omega (arith, le)) few few_written
