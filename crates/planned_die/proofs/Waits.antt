-- From which slot on what a task asked for leaves room for a job more.
use Rattle.std.proofs.Common.{◌≡◌, ℕ, ◌+◌, ◌<◌, ◌≤◌, ◌==◌, ◌↔◌, nat_lt, nat_le, Bool, true, false, cond, filter}
use Rattle.std.proofs.Common.{List, [], ◌∷◌, ◌-◌, not, length, sum_by, refl, ap, sym, ◌∙◌, arith, Option, Some, None, is_some, unwrap_or, inl, inr}
use Rattle.std.proofs.lemmas.Option.{same_Some}
use Rattle.slot_types.specs.Operations.{writes}
use Rattle.planned_log.specs.declared.refusals.AskRefusal.{AskRefusal}
use Rattle.planned_die.specs.Remembered.{next_room}
use Rattle.std.proofs.lemmas.Bool.{ltb-true, le-leb, and_from, true≢false, cases_lt}
use Rattle.std.proofs.lemmas.Bool.Decides.{nat_tests}
use Rattle.std.proofs.lemmas.List.Sums.{sum_by-cons}
use Rattle.slot_types.specs.declared.events.Op.{Op}
use Rattle.slot_types.specs.declared.plans.DiePlan.{DiePlan}
use Rattle.demand_rules.specs.declared.terms.TaskTerms.{TaskTerms}
use Rattle.demand_rules.specs.declared.terms.Terms.{Terms}
use Rattle.demand_rules.specs.Demand.{terms_of}
use Rattle.die_log.specs.Model.Answers.{bad_page}
use Rattle.planned_log.specs.declared.refusals.AskRefusal.TheVariants as because
use Rattle.planned_log.specs.Asks.{Asked, counts_in, counting, free_at, room_at, has_room, operations_in, writes_in}
use Rattle.planned_log.specs.Asks.{refusals_above, first_refusal}

-- Whether there is room now

module _ (amount : Asked → ℕ) (limit period slot : ℕ) where
  abbrev total : List Asked → ℕ
  total asked = sum_by (λ a. cond (counts_in period slot a) (amount a) 0) asked

  abbrev free_in : List Asked → ℕ → ℕ
  free_in asked n = free_at amount limit period (filter (counts_in period slot) asked) n

  abbrev IsFree : List Asked → Type 0
  IsFree asked = (n : ℕ) → n ≤ limit → (total asked + n ≤ limit) ↔ (free_in asked n ≤ slot)

  module _ (a : Asked) (asked : List Asked) (rest : IsFree asked) (n : ℕ) (small : n ≤ limit) where
    sum : total (a ∷ asked) ≡ cond (counts_in period slot a) (amount a) 0 + total asked
    sum = sum_by-cons (λ b. cond (counts_in period slot b) (amount b) 0) a asked

    by_limit : (b : Bool) → nat_lt limit (amount a + n) ≡ b → slot < a.at + period → total (a ∷ asked) ≡ amount a + total asked
        → (total (a ∷ asked) + n ≤ limit) ↔ (cond b (a.at + period) (free_in asked (amount a + n)) ≤ slot)
    by_limit true e later is = (
      (λ k. absurd (omega (arith, k, is, ltb-true limit (amount a + n) e))),
      (λ k. absurd (omega (arith, k, later))),
    )
    by_limit false e later is =
        let within : amount a + n ≤ limit = grind (arith, nat_tests, e) in
        let r = rest (amount a + n) within in (
          (λ k. r.0 (omega (arith, k, is))),
          (λ k. omega (arith, is, r.1 k)),
        )

    by_count : (b : Bool) → counts_in period slot a ≡ b → (total (a ∷ asked) + n ≤ limit)
        ↔ (free_at amount limit period (cond b (a ∷ filter (counts_in period slot) asked) (filter (counts_in period slot) asked)) n ≤ slot)
    by_count true e = by_limit (nat_lt limit (amount a + n)) refl (ltb-true slot (a.at + period) e)
        (sum ∙ ap {B = ℕ} (λ b. cond b (amount a) 0 + total asked) e)
    by_count false e =
        let is : total (a ∷ asked) ≡ total asked = omega (arith, sum, ap {B = ℕ} (λ b. cond b (amount a) 0) e) in
        let r = rest n small in (
          (λ k. r.0 (omega (arith, k, is))),
          (λ k. omega (arith, is, r.1 k)),
        )

  pub free_now : (asked : List Asked) → IsFree asked
  free_now [] n small = ((λ k. omega arith), (λ k. omega (arith, small)))
  free_now (a ∷ asked) n small = by_count a asked (free_now asked) n small (counts_in period slot a) refl

-- of both, operations and writes
module _ (t : TaskTerms) (asked : List Asked) (first slot ops written : ℕ) (few : ops ≤ t.work) (few_written : written ≤ t.writes) where
  abbrev room : ℕ
  room = room_at t (counting t.period slot asked) ops written

  -- there is some now
  has : room ≤ slot → has_room t slot asked ops written ≡ true
  has now_is = and_from (nat_le (operations_in t.period slot asked + ops) t.work) (nat_le (writes_in t.period slot asked + written) t.writes)
      (le-leb _ _ ((free_now (λ a. a.operations) t.work t.period slot asked ops few).1 (omega (arith, now_is))))
      (le-leb _ _ ((free_now (λ a. a.writes) t.writes t.period slot asked written few_written).1 (omega (arith, now_is))))

  -- there is none yet
  pub later : has_room t slot asked ops written ≡ false → slot < room
  later none = elim (cases_lt slot room) [
    | inl lt ↦ lt
    | inr le ↦ absurd (true≢false (sym (has le) ∙ none))
  ]

-- A page that the die doesn't have is the first cause where the task, the number of operations and their limit are right
pub bad_page_first : (most : ℕ) (plan : DiePlan) (terms : Terms) (life first slot : ℕ) (asked : List Asked) (task : ℕ) (ops : List Op) (page : ℕ)
    → task < length plan.caps → 1 ≤ length ops → length ops ≤ most → bad_page plan ops ≡ Some page
    → Some (because.BadPage page) ≡ first_refusal (refusals_above most plan terms life first slot asked task ops)
bad_page_first most plan terms life first slot asked task ops page known some few bad =
    let is_known : nat_le (length plan.caps) task ≡ false = grind (arith, nat_tests, known) in
    let is_some_op : (length ops == 0) ≡ false = grind (arith, nat_tests, some) in
    let is_few : nat_lt most (length ops) ≡ false = grind (arith, nat_tests, few) in
    rw is_known (rw is_some_op (rw is_few (rw bad refl)))

-- the first five conditions are false, and the sixth stands
sixth : (a b c d e f g : Bool) (most page limit next : ℕ) → a ≡ false → b ≡ false → c ≡ false → d ≡ false → e ≡ false → f ≡ true
    → first_refusal ((a, because.UnknownTask) ∷ (b, because.EmptyJob) ∷ (c, because.TooManyOps most) ∷ (d, because.BadPage page)
    ∷ (e, because.TooManyWrites limit) ∷ (f, because.TooSoon next) ∷ (g, because.LifeEnd) ∷ []) ≡ Some (because.TooSoon next)
sixth a b c d e f g most page limit next ea eb ec ed ee ef = rw ea (rw eb (rw ec (rw ed (rw ee (rw ef refl)))))

-- So the slot from which on there is room is named where there is none now, and all before it is right
pub too_soon_first : (most : ℕ) (plan : DiePlan) (terms : Terms) (life first slot : ℕ) (asked : List Asked) (task : ℕ) (ops : List Op)
    (own : TaskTerms) (clock n written next : ℕ) → own ≡ terms_of terms task → clock ≡ first + slot → n ≡ length ops → written ≡ writes ops
    → task < length plan.caps → 1 ≤ length ops → length ops ≤ most → bad_page plan ops ≡ None → writes ops ≤ (terms_of terms task).writes
    → Some next ≡ next_room own first clock asked n written
    → Some (because.TooSoon next) ≡ first_refusal (refusals_above most plan terms life first slot asked task ops)
too_soon_first most plan terms life first slot asked task ops own clock n written next own_is clock_is n_is written_is known some few pages fits e =
    by_room (has_room (terms_of terms task) (first + slot) asked (length ops) (writes ops)) refl
    (e ∙ (λ i. next_room (own_is i) first (clock_is i) asked (n_is i) (written_is i)))
  where
    not_below : (m k : ℕ) → k < m → nat_le m k ≡ false
    not_below m k h = grind (arith, nat_tests, h)

    not_none : (k : ℕ) → 1 ≤ k → (k == 0) ≡ false
    not_none k h = grind (arith, nat_tests, h)

    not_above : (m k : ℕ) → k ≤ m → nat_lt m k ≡ false
    not_above m k h = grind (arith, nat_tests, h)

    none_some : Some next ≡ None → ⊥
    none_some h = absurd cc

    by_room : (b : Bool) → has_room (terms_of terms task) (first + slot) asked (length ops) (writes ops) ≡ b
        → Some next ≡ cond b None (Some (room_at (terms_of terms task) (counting (terms_of terms task).period (first + slot) asked) (length ops) (writes ops) - first))
        → Some (because.TooSoon next) ≡ first_refusal (refusals_above most plan terms life first slot asked task ops)
    by_room true there h = absurd (none_some h)
    by_room false there h =
        ap (λ k. Some (because.TooSoon k)) (same_Some next _ h)
        ∙ sym (sixth (nat_le (length plan.caps) task) (length ops == 0) (nat_lt most (length ops)) (is_some (bad_page plan ops))
        (nat_lt (terms_of terms task).writes (writes ops)) (not (has_room (terms_of terms task) (first + slot) asked (length ops) (writes ops)))
        (nat_lt life (slot + (terms_of terms task).deadline)) most (unwrap_or (bad_page plan ops) 0) (terms_of terms task).writes
        (room_at (terms_of terms task) (counting (terms_of terms task).period (first + slot) asked) (length ops) (writes ops) - first)
        (not_below (length plan.caps) task known) (not_none (length ops) some) (not_above most (length ops) few) (ap is_some pages)
        (not_above (terms_of terms task).writes (writes ops) fits) (ap not there))
