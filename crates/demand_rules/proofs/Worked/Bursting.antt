-- A plan with bursts that passes both tests, two that don't, and events that keep it: two jobs come at once, are due long
-- before their period ends, and one is released after it came.
use Rattle.std.proofs.Common.{◌≡◌, ℕ, zero, suc, ◌+◌, ◌-◌, ◌*◌, ◌/◌, ◌<◌, ◌≤◌, nat_le, Bool, true, false, cond, None, List, [], ◌∷◌}
use Rattle.std.proofs.Common.{replicate, length, count_by, sum_by, refl, arith}
use Rattle.std.specs.Prelude.{All}
use Rattle.std.proofs.Math.Nat.{mod-eq_of_lt, div-mul-le_self}
use Rattle.std.proofs.lemmas.Bool.{leb-true}
use Rattle.std.proofs.lemmas.List.Elements.{All-from_recursion}
use Rattle.std.proofs.lemmas.List.Sums.{sum_by-cons}
use Rattle.slot_types.specs.declared.plans.DiePlan.{DiePlan}
use Rattle.slot_types.specs.declared.events.Op.TheVariants.{Read, Write}
use Rattle.slot_types.specs.declared.events.Event.{Event}
use Rattle.slot_types.specs.declared.events.Event.TheVariants.{Submit, Collect, Slot}
use Rattle.slot_types.specs.Operations.{page_of, writes}
use Rattle.plan_rules.specs.Times.{collection_work}
use Rattle.plan_rules.specs.Keeping.{TaskArrival, arrivals, is_collection_at}
use Rattle.demand_rules.specs.declared.terms.TaskTerms.{TaskTerms}
use Rattle.demand_rules.specs.declared.terms.Terms.{Terms}
use Rattle.demand_rules.specs.Demand.{terms_of, demand_in, FitsAllSlots, IsTaskTerms, HasTerms, PassesDemand}
use Rattle.demand_rules.specs.Supply.{PassesSupply}
use Rattle.demand_rules.specs.Keeping.{IsDemanded, IsCollectSlot, is_released_in, comes_in, KeepsDemandPlan}

-- a die with four blocks for two pages and one task
abbrev pub small : ℕ → DiePlan
small cap = record { shape = record { blocks = 4; pages = 4; erase_slots = 3 }; logical = 2; alpha = 2; caps = cap ∷ []; times = None }

-- `work` operations in twenty slots, two of them writes, by jobs that are due six slots after their release or later,
-- and seven after they come or sooner; and a collection in twenty
abbrev pub in_twenty : ℕ → TaskTerms
in_twenty work = record { period = 20; deadline = 6; held = 7; work = work; writes = 2; collect_period = 20; collect_deadline = 20 }

abbrev pub terms : ℕ → Terms
terms work = record { tasks = in_twenty work ∷ [] }

in_limits : IsTaskTerms (in_twenty 4)
in_limits = record {
  some_period = omega arith;
  some_deadline = omega arith;
  few_deadline = omega arith;
  few_held = omega arith;
  some_work = omega arith;
  few_work = omega arith;
  few_writes = omega arith;
  some_collect_period = omega arith;
  few_collect_period = omega arith;
  some_collect_deadline = omega arith;
  few_collect_deadline = omega arith;
}

has_terms : HasTerms (small 7) (terms 4)
has_terms = record { one_each = refl; each = All-from_recursion IsTaskTerms (in_twenty 4 ∷ []) (in_limits, tt) }

-- a collection takes seven slots at most
seven : collection_work (small 7) ≡ 7
seven = refl

-- four slots in six, and eleven in twenty
urgent : demand_in (small 7) (terms 4) 6 ≡ 4
urgent = refl

with_collection : demand_in (small 7) (terms 4) 20 ≡ 11
with_collection = refl

fits : (n : ℕ) → demand_in (small 7) (terms 4) n ≤ n
fits n = by_tests (nat_le 6 n) refl (nat_le 20 n) refl
  where
    by_tests : (b : Bool) → nat_le 6 n ≡ b → (c : Bool) → nat_le 20 n ≡ c
        → 0 + (4 * cond b ((n - 6) / 20 + 1) 0 + 7 * cond c ((n - 20) / 20 + 1) 0) ≤ n
    by_tests true six true twenty = omega
        (arith, leb-true 20 n twenty, div-mul-le_self (n - 6) 20, div-mul-le_self (n - 20) 20)
    by_tests true six false twenty = omega (arith, leb-true 6 n six, div-mul-le_self (n - 6) 20)
    by_tests false six true twenty = omega (arith, leb-true 20 n twenty, div-mul-le_self (n - 20) 20)
    by_tests false six false twenty = omega arith

pub passes : PassesDemand (small 7) (terms 4)
passes = record { has = has_terms; lasts = omega arith; fits = λ n within. fits n }

pub supplied : PassesSupply (small 7) (terms 4)
supplied = record { has = has_terms; sustained = (record { regained = omega arith; stocked = omega arith }, tt) }

-- seven operations don't fit into six slots
overloaded : PassesDemand (small 7) (terms 7) → ⊥
overloaded h = omega (arith, h.fits 6 (omega arith))

-- in each slot as many operations as nearly a life has slots, due at its end: any number of slots of a life has room for
-- what is asked of it, and still no die can do it
abbrev pub for_ever : TaskTerms
for_ever = record {
  period = 1;
  deadline = 1048576;
  held = 1048576;
  work = 1048569;
  writes = 0;
  collect_period = 1048576;
  collect_deadline = 7;
}

abbrev pub endless : Terms
endless = record { tasks = for_ever ∷ [] }

a_life_fits : FitsAllSlots (small 7) endless
a_life_fits n within = by_tests (nat_le 1048576 n) refl (nat_le 7 n) refl
  where
    by_tests : (b : Bool) → nat_le 1048576 n ≡ b → (c : Bool) → nat_le 7 n ≡ c
        → 0 + (1048569 * cond b ((n - 1048576) / 1 + 1) 0 + 7 * cond c ((n - 7) / 1048576 + 1) 0) ≤ n
    by_tests true last true seven = omega
        (arith, leb-true 1048576 n last, within, div-mul-le_self (n - 1048576) 1, div-mul-le_self (n - 7) 1048576)
    by_tests true last false seven = omega (arith, leb-true 1048576 n last, within, div-mul-le_self (n - 1048576) 1)
    by_tests false last true seven = omega (arith, leb-true 7 n seven, within, div-mul-le_self (n - 7) 1048576)
    by_tests false last false seven = omega arith

no_die_lasts : PassesDemand (small 7) endless → ⊥
no_die_lasts h = omega (arith, h.lasts)

-- with a cap of six pages the task runs short
understocked : PassesSupply (small 6) (terms 4) → ⊥
understocked h = omega (arith, h.sustained.0.stocked)

-- a collection, and two jobs
abbrev pub history : List Event
history =
    Collect 0 0 20 ∷ Submit 0 0 6 (Write 0 (record { 0 = replicate 16 17 }) ∷ [])
    ∷ Submit 0 1 7 (Read 0 ∷ Write 1 (record { 0 = replicate 16 18 }) ∷ []) ∷ replicate 20 Slot

abbrev pub came : List TaskArrival
came = arrivals 0 history

planned : All (IsDemanded (small 7) (terms 4) 20) came
planned = All-from_recursion (IsDemanded (small 7) (terms 4) 20) came (
  record {
    task = omega arith;
    comes = refl;
    slot = record { multiple = refl; before_end = omega arith; due_limit = omega arith };
    due = refl;
  },
  (
    record {
      task = omega arith;
      comes = omega arith;
      due = omega arith;
      soon = omega arith;
      due_limit = omega arith;
      some = omega arith;
      few = omega arith;
      pages = All-from_recursion (λ op. page_of op < 2) (Write 0 (record { 0 = replicate 16 17 }) ∷ []) (omega arith, tt);
    },
    (
      record {
        task = omega arith;
        comes = omega arith;
        due = omega arith;
        soon = omega arith;
        due_limit = omega arith;
        some = omega arith;
        few = omega arith;
        pages = All-from_recursion (λ op. page_of op < 2) (Read 0 ∷ Write 1 (record { 0 = replicate 16 18 }) ∷ [])
            (omega arith, (omega arith, tt));
      },
      tt,
    ),
  ),
)

-- what passes a test weighs no more than all
pub some_of_all : (test : TaskArrival → Bool) (weight : TaskArrival → ℕ) (xs : List TaskArrival)
    → sum_by (λ a. cond (test a) (weight a) 0) xs ≤ sum_by weight xs
some_of_all test weight [] = omega arith
some_of_all test weight (a ∷ xs) = omega (
  arith,
  sum_by-cons (λ b. cond (test b) (weight b) 0) a xs,
  sum_by-cons weight a xs,
  either (test a) (weight a),
  some_of_all test weight xs,
)
  where
    either : (b : Bool) (n : ℕ) → cond b n 0 ≤ n
    either true n = omega arith
    either false n = omega arith

collected : (task slot : ℕ) → task < 1 → IsCollectSlot (terms 4) 20 task slot → count_by (is_collection_at task slot) came ≡ 1
collected zero zero lt at = refl
collected zero (suc slot) lt at = absurd (omega (arith, mod-eq_of_lt {n = suc slot} {m = 20} at.before_end, at.multiple))
collected (suc task) slot lt at = absurd (omega (arith, lt))

few_operations : (task slot : ℕ) → task < 1
    → sum_by (λ a. cond (is_released_in task slot (slot + 20) a) (length a.ops) 0) came ≤ 4
few_operations task slot lt = omega (arith, some_of_all (is_released_in task slot (slot + 20)) (λ a. length a.ops) came)

few_writes : (task slot : ℕ) → task < 1 → sum_by (λ a. cond (comes_in task slot (slot + 20) a) (writes a.ops) 0) came ≤ 2
few_writes task slot lt = omega (arith, some_of_all (comes_in task slot (slot + 20)) (λ a. writes a.ops) came)

pub keeps : KeepsDemandPlan (small 7) (terms 4) history
keeps = record {
  has = has_terms;
  few_slots = omega arith;
  few_arrivals = omega arith;
  planned = planned;
  few_operations = operations;
  few_writes = of_writes;
  collected = collected;
}
  where
    operations : (task slot : ℕ) → task < 1 → let t = terms_of (terms 4) task in
        sum_by (λ a. cond (is_released_in task slot (slot + t.period) a) (length a.ops) 0) came ≤ t.work
    operations zero slot lt = few_operations zero slot lt
    operations (suc task) slot lt = absurd (omega (arith, lt))

    of_writes : (task slot : ℕ) → task < 1 → let t = terms_of (terms 4) task in
        sum_by (λ a. cond (comes_in task slot (slot + t.period) a) (writes a.ops) 0) came ≤ t.writes
    of_writes zero slot lt = few_writes zero slot lt
    of_writes (suc task) slot lt = absurd (omega (arith, lt))
