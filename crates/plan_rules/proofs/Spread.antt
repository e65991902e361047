-- Sums over the blocks of a die, of what each thing gives to at most one block.
use Rattle.std.proofs.Common.{◌≡◌, ℕ, zero, suc, ◌+◌, ◌<◌, ◌≤◌, Bool, true, false, cond, eqb, nat_lt, ◌||◌, ◌&&◌, List, [], ◌∷◌, length}
use Rattle.std.proofs.Common.{map, sum_by, count_by, ◌⊎◌, inl, inr, Any, get_or, Option, Some, None, refl, sym, ap, ◌∙◌, arith}
use Rattle.std.specs.List.{list_any, range_with_len}
use Rattle.std.specs.Option.{is_some}
use Rattle.std.proofs.lemmas.Bool.{cases_Bool}
use Rattle.std.proofs.lemmas.Bool.Decides.{nat_tests}
use Rattle.std.proofs.lemmas.List.Sums.{sum_by-cons, count_by-le-length}
use Rattle.std.proofs.lemmas.List.FromFn.{length-map-range_with_len, get_or-map-range_with_len}
use Rattle.slot_types.specs.declared.pages.Place.{Place}
use Rattle.slot_types.specs.declared.plans.DiePlan.{DiePlan}
use Rattle.slot_types.specs.Places.{is_in}
use Rattle.plan_rules.specs.Bound.{MeetsBound}
use Rattle.plan_rules.specs.Blocks.{BlockUse, is_open, is_of, use_of, uses_of, MayBegin, IsVictim, BeginsShort, IsChoice}
use Rattle.plan_rules.proofs.Pigeon.{victim}

sum_by-map : {X Y : Type 0} (g : Y → ℕ) (f : X → Y) (xs : List X) → sum_by g (map f xs) ≡ sum_by (λ x. g (f x)) xs
sum_by-map g f [] = refl
sum_by-map g f (x ∷ xs) = omega (arith, sum_by-cons g (f x) (map f xs), sum_by-cons (λ y. g (f y)) x xs, sum_by-map g f xs)

-- below, a sum goes over the n blocks from a on
sum_le : (f g : ℕ → ℕ) (a n : ℕ) → ((k : ℕ) → k < a + n → f k ≤ g k) → sum_by f (range_with_len a n) ≤ sum_by g (range_with_len a n)
sum_le f g a zero below = omega arith
sum_le f g a (suc n) below =
    omega (
      arith,
      sum_by-cons f a (range_with_len (a + 1) n),
      sum_by-cons g a (range_with_len (a + 1) n),
      below a (omega arith),
      sum_le f g
          (a + 1) n (λ k h. below k (omega arith)),
    )

sum_both : (f g h : ℕ → ℕ) (xs : List ℕ) → ((k : ℕ) → f k ≤ g k + h k) → sum_by f xs ≤ sum_by g xs + sum_by h xs
sum_both f g h [] below = omega arith
sum_both f g h (x ∷ xs) below =
    omega (arith, sum_by-cons f x xs, sum_by-cons g x xs, sum_by-cons h x xs, below x, sum_both f g h xs below)

sum_none : (f : ℕ → ℕ) (xs : List ℕ) → ((k : ℕ) → f k ≡ 0) → sum_by f xs ≡ 0
sum_none f [] none = refl
sum_none f (x ∷ xs) none = omega (arith, sum_by-cons f x xs, none x, sum_none f xs none)

abbrev one_if : Bool → ℕ
one_if b = cond b 1 0

-- 1 at the number itself
abbrev bit : ℕ → ℕ → ℕ
bit j k = cond (eqb j k) 1 0

-- a number is at most one of them
past : (j a n : ℕ) → j < a → sum_by (bit j) (range_with_len a n) ≡ 0
past j a zero h = refl
past j a (suc n) h =
    let differs : bit j a ≡ 0 = grind (arith, nat_tests) in
    omega (arith, sum_by-cons (bit j) a (range_with_len (a + 1) n), differs, past j (a + 1) n (omega arith))

one : (j a n : ℕ) → sum_by (bit j) (range_with_len a n) ≤ 1
one j a zero = omega arith
one j a (suc n) =
    elim (cases_Bool (eqb j a)) [
      | inl same ↦
          let here : j ≡ a = grind (arith, nat_tests) in
          omega (arith, sum_by-cons (bit j) a (range_with_len (a + 1) n), ap one_if same, past j (a + 1) n (omega (arith, here)))
      | inr differs ↦ omega (arith, sum_by-cons (bit j) a (range_with_len (a + 1) n), ap one_if differs, one j (a + 1) n)
    ]

-- each logical page lies in at most one block
pub places_spread : (places : List (Option Place)) (a n : ℕ) → sum_by (λ k. count_by (is_in k) places) (range_with_len a n) ≤ length places
places_spread [] a n = omega (arith, sum_none (λ _. 0) (range_with_len a n) (λ _. refl))
places_spread (None ∷ places) a n =
    omega (
      arith,
      sum_le (λ k. count_by (is_in k) (None ∷ places)) (λ k. count_by (is_in k) places) a n
          (λ k _. omega (arith, sum_by-cons (λ x. cond (is_in k x) 1 0) None places)),
      places_spread places a n,
    )
places_spread (Some place ∷ places) a n =
    omega (
      arith,
      sum_both (λ k. count_by (is_in k) (Some place ∷ places)) (bit place.block) (λ k. count_by (is_in k) places)
          (range_with_len a n) (λ k. omega (arith, sum_by-cons (λ x. cond (is_in k x) 1 0) (Some place) places)),
      one place.block a n,
      places_spread places a n,
    )

at_most_one : (b : Bool) → one_if b ≤ 1
at_most_one true = omega arith
at_most_one false = omega arith

either : (s t : Bool) → cond (s || t) 1 0 ≤ cond s 1 0 + cond t 1 0
either true t = omega arith
either false t = omega arith

-- each collection works on at most one block
pub victims_spread : (victims : List (Option ℕ)) (a n : ℕ) → sum_by (λ k. cond (list_any (is_of k) victims) 1 0) (range_with_len a n)
    ≤ count_by is_some victims
victims_spread [] a n = omega (arith, sum_none (λ _. 0) (range_with_len a n) (λ _. refl))
victims_spread (None ∷ victims) a n = omega (
  arith,
  sum_by-cons (λ (x : Option ℕ). cond (is_some x) 1 0) None victims,
  victims_spread
      victims a n,
)
victims_spread (Some j ∷ victims) a n =
    omega (
      arith,
      sum_by-cons (λ (x : Option ℕ). cond (is_some x) 1 0) (Some j) victims,
      sum_both (λ k. cond (list_any (is_of k) (Some j ∷ victims)) 1 0) (bit j) (λ k. cond (list_any (is_of k) victims) 1 0)
          (range_with_len a n) (λ k. either (eqb j k) (list_any (is_of k) victims)),
      one j a n,
      victims_spread victims a n,
    )

-- a task without a collection leaves fewer collections than tasks
fewer : (victims : List (Option ℕ)) (k : ℕ) → k < length victims → get_or victims k None ≡ None → count_by is_some victims < length victims
fewer [] k h is = absurd (omega arith)
fewer (v ∷ victims) zero h is =
    omega (
      arith,
      sum_by-cons (λ (x : Option ℕ). cond (is_some x) 1 0) v victims,
      ap (λ (x : Option ℕ). one_if (is_some x)) is,
      count_by-le-length (λ (x : Option ℕ). is_some x) victims,
    )
fewer (v ∷ victims) (suc k) h is =
    omega (
      arith,
      sum_by-cons (λ (x : Option ℕ). cond (is_some x) 1 0) v victims,
      at_most_one (is_some v),
      fewer victims k
          (omega (arith, h)) is,
    )

not_open : (free pages : ℕ) → (free ≡ 0) ⊎ (pages ≤ free) → (nat_lt 0 free && nat_lt free pages) ≡ false
not_open free pages (inl none) = grind (arith, nat_tests)
not_open free pages (inr many) = grind (arith, nat_tests)

itself : (k : ℕ) → eqb k k ≡ true
itself k = grind (arith, nat_tests)

-- only the block being written to is open
opens : (free pages k : ℕ) (writing : Option ℕ) → (writing ≡ Some k) ⊎ ((free ≡ 0) ⊎ (pages ≤ free))
    → one_if (nat_lt 0 free && nat_lt free pages) ≤ one_if (is_of k writing)
opens free pages k writing (inl is) = omega (
  arith,
  at_most_one (nat_lt 0 free && nat_lt free pages),
  ap
      (λ (o : Option ℕ). one_if (is_of k o)) is,
  ap one_if (itself k),
)
opens free pages k writing (inr is) = omega (arith, ap one_if (not_open free pages is))

one_of : (o : Option ℕ) (a n : ℕ) → sum_by (λ k. one_if (is_of k o)) (range_with_len a n) ≤ 1
one_of None a n = omega (arith, sum_none (λ _. 0) (range_with_len a n) (λ _. refl))
one_of (Some j) a n = one j a n

chosen : (plan : DiePlan) (free : ℕ → ℕ) (places : List (Option Place)) (victims : List (Option ℕ))
    → Any (IsVictim plan) (uses_of plan free places victims) → (block : ℕ) × IsChoice plan free places victims block
chosen plan free places victims (k, b, below, is, v) =
    let in_range : k < plan.shape.blocks = omega (arith, below, length-map-range_with_len (use_of free places victims) 0 plan.shape.blocks)
    in
    let b_is : use_of free places victims k ≡ b = sym (get_or-map-range_with_len (use_of free places victims) 0 plan.shape.blocks k k b
    in_range (omega arith)) ∙ is in (
      k,
      record {
        in_range = in_range;
        closed = ap (λ (u : BlockUse). u.free) b_is ∙ v.closed;
        alone = ap (λ (u : BlockUse). u.collected) b_is ∙ v.alone;
        few_valid = omega (arith, ap (λ (u : BlockUse). u.valid) b_is, v.few_valid);
      },
    )

begins : (plan : DiePlan) (free : ℕ → ℕ) (places : List (Option Place)) (victims : List (Option ℕ)) (writing : Option ℕ)
    → BeginsShort plan free places victims writing → MayBegin plan (uses_of plan free places victims)
begins plan free places victims writing short =
    let blocks : List ℕ = range_with_len 0 plan.shape.blocks in
    let used : ℕ → BlockUse = use_of free places victims in
    record {
      count = length-map-range_with_len used 0 plan.shape.blocks;
      one_open = omega (
        arith,
        sum_by-map (λ (u : BlockUse). one_if (is_open plan u)) used blocks,
        sum_le (λ k. one_if (is_open plan (used k))) (λ k. one_if (is_of k writing)) 0 plan.shape.blocks
            (λ k h. opens (free k) plan.shape.pages k writing (short.one_open k (omega (arith, h)))),
        one_of writing 0 plan.shape.blocks,
      );
      others_collect = omega (
        arith,
        sum_by-map (λ (u : BlockUse). one_if u.collected) used blocks,
        victims_spread victims 0 plan.shape.blocks,
        fewer victims short.none_yet.0 short.none_yet.1 short.none_yet.2,
        short.victims_len,
      );
      few_free = omega (arith, sum_by-map (λ (u : BlockUse). u.free) used blocks, short.few_free);
      few_valid = omega (
        arith,
        sum_by-map (λ (u : BlockUse). u.valid) used blocks,
        places_spread places 0 plan.shape.blocks,
        short.places_len,
      );
    }

pub choice : (plan : DiePlan) (free : ℕ → ℕ) (places : List (Option Place)) (victims : List (Option ℕ)) (writing : Option ℕ)
    → MeetsBound plan → BeginsShort plan free places victims writing → (block : ℕ) × IsChoice plan free places victims block
choice plan free places victims writing bound short =
    chosen plan free places victims (victim plan (uses_of plan free places victims) bound (begins plan free places victims writing short))
