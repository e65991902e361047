-- Events that keep to a plan, and two lists that don't.
use Rattle.std.proofs.Common.{◌≡◌, ℕ, zero, suc, ◌+◌, ◌-◌, ◌<◌, ◌≤◌, ◌%◌, ◌++◌, false, List, [], ◌∷◌, replicate, length, count_by, refl}
use Rattle.std.proofs.Common.{arith}
use Rattle.std.specs.Prelude.{All, AllPairs}
use Rattle.std.specs.List.{AllByRecursion}
use Rattle.std.proofs.Math.Nat.{mod-eq_of_lt}
use Rattle.std.proofs.lemmas.Bool.{true≢false}
use Rattle.std.proofs.lemmas.List.Elements.{All-from_recursion, recursion_from_All}
use Rattle.std.proofs.lemmas.List.Kept.{AllPairs-cons}
use Rattle.slot_types.specs.declared.limits.TheConstants.{MAX_SLOT}
use Rattle.slot_types.specs.declared.events.Op.{Op}
use Rattle.slot_types.specs.declared.events.Op.TheVariants.{Read, Write}
use Rattle.slot_types.specs.declared.events.Event.{Event}
use Rattle.slot_types.specs.declared.events.Event.TheVariants.{Submit, Collect, Slot}
use Rattle.plan_rules.specs.Times.{times_of}
use Rattle.slot_types.specs.Operations.{page_of}
use Rattle.plan_rules.specs.Keeping.{TaskArrival, arrivals, slots, IsPlanned, AreApart, is_collection_at, IsCollectSlot, KeepsPlan}
use Rattle.plan_rules.proofs.Worked.PlansWithTimes.{small, each_ten, has_times}

-- a collection and a job, and `wait` slots later a second job; twenty slots in all
abbrev pub history : Op → ℕ → List Event
history first wait =
    Collect 0 0 20 ∷ Submit 0 0 10 (first ∷ [])
    ∷ (replicate wait Slot ++ Submit 0 wait (wait + 10) (Write 1 (record { 0 = replicate 16 17 }) ∷ []) ∷ replicate (20 - wait) Slot)

abbrev come : Op → ℕ → List TaskArrival
come first wait = arrivals 0 (history first wait)

twenty : slots (history (Read 0) 10) ≡ 20
twenty = refl

three : length (come (Read 0) 10) ≡ 3
three = refl

planned : All (IsPlanned (small 6) (each_ten 2) 20) (come (Read 0) 10)
planned = All-from_recursion (IsPlanned (small 6) (each_ten 2) 20) (come (Read 0) 10) (
  record {
    task = omega arith;
    comes = refl;
    slot = record { multiple = refl; before_end = omega arith; due_limit = omega arith };
    due =
        refl;
  },
  (
    record {
      task = omega arith;
      comes = refl;
      due = refl;
      due_limit = omega arith;
      some = omega arith;
      few = omega arith;
      pages =
          All-from_recursion (λ op. page_of op < 2) (Read 0 ∷ []) (omega arith, tt);
      few_writes = omega arith;
    },
    (
      record {
        task = omega arith;
        comes = refl;
        due = refl;
        due_limit = omega arith;
        some = omega arith;
        few = omega arith;
        pages =
            All-from_recursion (λ op. page_of op < 2) (Write 1 (record { 0 = replicate 16 17 }) ∷ []) (omega arith, tt);
        few_writes = omega
            arith;
      },
      tt,
    ),
  ),
)

collected : (task slot : ℕ) → task < 1 → IsCollectSlot (each_ten 2) 20 task slot → count_by (is_collection_at task slot) (come (Read 0) 10)
    ≡ 1
collected zero zero lt at = refl
collected zero (suc slot) lt at = absurd (omega (arith, mod-eq_of_lt {n = suc slot} {m = 20} at.before_end, at.multiple))
collected (suc task) slot lt at = absurd (omega (arith, lt))

-- of a list of two or more, each earlier with each later one
abbrev ApartInTurn : List TaskArrival → Type 0
ApartInTurn [] = Unit {0}
ApartInTurn (a ∷ rest) = AllByRecursion (AreApart (each_ten 2) a) rest × ApartInTurn rest

apart_by : (all : List TaskArrival) → ApartInTurn all → AllPairs (AreApart (each_ten 2)) all
apart_by [] h = λ i j d lt below. absurd (omega (arith, below))
apart_by (a ∷ rest) h =
    AllPairs-cons (AreApart (each_ten 2)) a rest (All-from_recursion (AreApart (each_ten 2) a) rest h.0) (apart_by rest h.1)

apart : AllPairs (AreApart (each_ten 2)) (come (Read 0) 10)
apart = apart_by (come (Read 0) 10) (
  (λ job other same. absurd (true≢false job), (λ job other same. absurd (true≢false job), tt)),
  ((λ job other same. omega arith, tt), (tt, tt)),
)

pub keeps : KeepsPlan (small 6) (each_ten 2) (history (Read 0) 10)
keeps = record {
  timed = has_times;
  few_slots = omega arith;
  few_arrivals = omega arith;
  planned = planned;
  apart = apart;
  collected = collected;
}

-- a second job after nine slots comes too early
early : KeepsPlan (small 6) (each_ten 2) (history (Read 0) 9) → ⊥
early h = omega (
  arith,
  h.apart 1 2 (record { at = 0; collects = false; task = 0; release = 0; due = 0; ops = [] }) (omega arith)
      (omega arith) refl refl refl,
)

-- and page 2 is not on the die
beyond : KeepsPlan (small 6) (each_ten 2) (history (Read 2) 10) → ⊥
beyond h =
    let job = (recursion_from_All (IsPlanned (small 6) (each_ten 2) 20) (come (Read 2) 10) h.planned).1.0 in
    omega (arith, (recursion_from_All (λ op. page_of op < 2) (Read 2 ∷ []) job.pages).0)
