-- The collections of a task, where events keep a plan with deadlines: how many have come by a slot.
use Rattle.std.proofs.Common.{◌≡◌, ℕ, ◌+◌, ◌*◌, ◌/◌, ◌%◌, ◌<◌, ◌≤◌, ◌==◌, Bool, true, false, List, [], ◌∷◌, ◌++◌, count_by}
use Rattle.std.proofs.Common.{refl, ap, sym, ◌∙◌, ◌⊎◌, inl, inr, arith}
use Rattle.std.specs.List.{AllByRecursion}
use Rattle.std.proofs.Math.Nat.{le_of_mul-le-mul_left, div-add-mod, mul-mod_right}
use Rattle.std.proofs.lemmas.Bool.{cases_lt, and_parts}
use Rattle.std.proofs.lemmas.Bool.Decides.{nat_tests}
use Rattle.std.proofs.lemmas.List.Sums.{sum_by-cons, sum_by_push}
use Rattle.slot_types.specs.declared.limits.TheConstants.{MAX_SLOT}
use Rattle.plan_rules.specs.Keeping.{TaskArrival, is_collection_at}
use Rattle.plan_rules.proofs.Pacing.{is_collection_of, collections_in, IsBefore, one_if}

-- By slot `now` the collections of the task came at the multiples of its period, one at each: all that there are up to
-- `now`, except for one at `now` itself, and those that would be due beyond the last slot.
pub record ArePaced (period deadline task : ℕ) (came : List TaskArrival) (now : ℕ) : Type 0 where
  pub few : period * collections_in task came ≤ now + period
  pub many : (now ≤ period * collections_in task came) ⊎ (MAX_SLOT < period * collections_in task came + deadline)
  pub each : AllByRecursion (IsBefore task period (period * collections_in task came)) came
  pub last : (k : ℕ) → collections_in task came ≡ k + 1 → 1 ≤ count_by (is_collection_at task (period * k)) came

count_push : {X : Type 0} (p : X → Bool) (xs : List X) (x : X) → count_by p (xs ++ x ∷ []) ≡ count_by p xs + one_if (p x)
count_push p xs x = sum_by_push (λ y. one_if (p y)) xs x

all_push : {X : Type 0} (P : X → Type 0) (xs : List X) (x : X) → AllByRecursion P xs → P x → AllByRecursion P (xs ++ x ∷ [])
all_push P [] x h p = (p, tt)
all_push P (y ∷ xs) x h p = (h.0, all_push P xs x h.1 p)

all_map : {X : Type 0} (P Q : X → Type 0) → ((x : X) → P x → Q x) → (xs : List X) → AllByRecursion P xs → AllByRecursion Q xs
all_map P Q f [] h = tt
all_map P Q f (x ∷ xs) h = (f x h.0, all_map P Q f xs h.1)

times_suc : (k n : ℕ) → k * (n + 1) ≡ k * n + k
times_suc k n = grind arith

no_times : (k : ℕ) → k * 0 ≡ 0
no_times k = grind arith

-- at the start
pub paced_start : (period deadline task : ℕ) → ArePaced period deadline task [] 0
paced_start period deadline task = record {
  few = omega (arith, no_times period);
  many = inl (omega (arith, no_times period));
  each = tt;
  last = λ k e. absurd (omega (arith, e));
}

-- no collection of the task comes
pub paced_other : (period deadline task : ℕ) (came : List TaskArrival) (now : ℕ) (a : TaskArrival) → is_collection_of task a ≡ false
    → ArePaced period deadline task came now → ArePaced period deadline task (came ++ a ∷ []) now
paced_other period deadline task came now a other h =
    let same : collections_in task (came ++ a ∷ []) ≡ collections_in task came = omega
    (arith, count_push (is_collection_of task) came a, ap one_if other) in
    record {
      few = rw same h.few;
      many = rw same h.many;
      each = rw same (all_push (IsBefore task period (period * collections_in task came)) came a h.each
          (λ is. absurd (false_true other is)));
      last = λ k e. omega (arith, h.last k (omega (arith, same, e)), count_push (is_collection_at task (period * k)) came a);
    }
  where
    false_true : {b : Bool} → b ≡ false → b ≡ true → ⊥
    false_true p q = cc

-- the multiple of the period that the next collection comes at
next_multiple : (period count now m : ℕ) → 0 < period → now ≡ period * m → period * count ≤ now + period → now ≤ period * count
    → (count ≡ m) ⊎ (count ≡ m + 1)
next_multiple period count now m some is few many =
    let least : m ≤ count = le_of_mul-le-mul_left (omega (arith, is, many)) some in
    let most : count ≤ m + 1 = le_of_mul-le-mul_left (omega (arith, is, few, times_suc period m)) some in
    elim (cases_lt m count) [
      | inl more ↦ inr (omega (arith, more, most))
      | inr all ↦ inl (omega (arith, all, least))
    ]

at_slot : (task slot : ℕ) (a : TaskArrival) → is_collection_of task a ≡ true → a.at ≡ slot → is_collection_at task slot a ≡ true
at_slot task slot a is e = grind (arith, nat_tests)

-- a collection of the task comes, and none has come in this slot
pub paced_collection : (period deadline task : ℕ) (came : List TaskArrival) (now : ℕ) (a : TaskArrival) → 0 < period → deadline ≤ period → is_collection_of task a ≡ true → a.at
    ≡ now → a.due ≡ now + deadline → now % period ≡ 0 → now + deadline ≤ MAX_SLOT
    → count_by (is_collection_at task now) came ≡ 0 → ArePaced period deadline task came now → (now ≡ period * collections_in task came)
    × ArePaced period deadline task (came ++ a ∷ []) now
paced_collection period deadline task came now a some short is at due multiple within none h =
    let count : ℕ = collections_in task came in
    let m : ℕ = now / period in
    let now_is : now ≡ period * m = omega (arith, div-add-mod now period, multiple) in
    let reached : now ≤ period * count = by_reach h.many within in
    let here : now ≡ period * count = elim (next_multiple period count now m some now_is h.few reached) [
      | inl e ↦ now_is ∙ ap (λ n. period * n) (sym e)
      | inr e ↦ absurd (omega (arith, h.last m e, none, ap (λ n. count_by (is_collection_at task n) came) now_is))
    ] in
    let more : collections_in task (came ++ a ∷ []) ≡ count + 1 = omega (arith, count_push (is_collection_of task) came a, ap one_if is) in
    let next : period * collections_in task (came ++ a ∷ []) ≡ now + period = ap (λ n. period * n) more
    ∙ omega (arith, times_suc period count, here) in (
      here,
      record {
        few = omega (arith, next);
        many = inl (omega (arith, next));
        each = all_push (IsBefore task period (period * collections_in task (came ++ a ∷ []))) came a
            (all_map (IsBefore task period (period * count)) (IsBefore task period (period * collections_in task (came ++ a ∷ [])))
            (λ b k is_one. let q = k is_one in (omega (arith, q.0, next, here), omega (arith, q.1, next, here))) came h.each)
            (λ is_one. (omega (arith, at, next), omega (arith, due, next, short)));
        last = λ k e.
            let place : period * k ≡ now = ap (λ n. period * n) (omega (arith, e, more)) ∙ sym here in
            omega (
              arith,
              count_push (is_collection_at task (period * k)) came a,
              ap one_if
                  (at_slot task (period * k) a is (at ∙ sym place)),
            );
      },
    )
  where
    by_reach : (now ≤ period * collections_in task came) ⊎ (MAX_SLOT < period * collections_in task came + deadline) → now + deadline ≤ MAX_SLOT
        → now ≤ period * collections_in task came
    by_reach (inl le) w = le
    by_reach (inr beyond) w = omega (arith, beyond, w)

-- one of those that came passes
some_of : {X : Type 0} (p : X → Bool) (P : X → Type 0) (xs : List X) → 1 ≤ count_by p xs → AllByRecursion P xs → (x : X) × (p x ≡ true)
    × P x
some_of p P [] h all = absurd (omega (arith, h))
some_of {X = X} p P (x ∷ xs) h all = by_test (p x) refl (λ le. some_of p P xs le all.1)
  where
    by_test : (b : Bool) → p x ≡ b → (1 ≤ count_by p xs → (y : X) × (p y ≡ true) × P y) → (y : X) × (p y ≡ true) × P y
    by_test true e further = (x, e, all.0)
    by_test false e further = further (omega (arith, h, sum_by-cons (λ y. one_if (p y)) x xs, ap one_if e))

-- a slot passes, in which the task's collection has come if one must
pub paced_slot : (period deadline task : ℕ) (came : List TaskArrival) (now : ℕ) → 0 < period
    → (now % period ≡ 0 → now + deadline ≤ MAX_SLOT → 1 ≤ count_by (is_collection_at task now) came)
    → ArePaced period deadline task came now → ArePaced period deadline task came (now + 1)
paced_slot period deadline task came now some comes h = record {
  few = omega (arith, h.few);
  many = by_reach h.many;
  each = h.each;
  last = h.last;
}
  where
    none_here : now ≡ period * collections_in task came → now + deadline ≤ MAX_SLOT → ⊥
    none_here e within =
        let multiple : now % period ≡ 0 = ap (λ n. n % period) e ∙ mul-mod_right period (collections_in task came) in
        let one = some_of (is_collection_at task now) (IsBefore task period (period * collections_in task came)) came
        (comes multiple within) h.each in
        let parts = and_parts (is_collection_of task one.0) (one.0.at == now) one.1 in
        let at : one.0.at ≡ now = grind (arith, nat_tests, parts.1) in
        omega (arith, at, (one.2 parts.0).0, some, e)

    by_reach : (now ≤ period * collections_in task came) ⊎ (MAX_SLOT < period * collections_in task came + deadline)
        → (now + 1 ≤ period * collections_in task came) ⊎ (MAX_SLOT < period * collections_in task came + deadline)
    by_reach (inr beyond) = inr beyond
    by_reach (inl le) = elim (cases_lt now (period * collections_in task came)) [
      | inl below ↦ inl (omega (arith, below))
      | inr at_it ↦ elim (cases_lt MAX_SLOT (now + deadline)) [
        | inl beyond ↦ inr (omega (arith, beyond, at_it, le))
        | inr within ↦ absurd (none_here (omega (arith, at_it, le)) within)
      ]
    ]
