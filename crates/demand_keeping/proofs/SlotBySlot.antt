-- Collections, counted slot by slot as the events come.
use Rattle.std.proofs.Common.{◌≡◌, ℕ, ◌+◌, ◌-◌, ◌*◌, ◌/◌, ◌%◌, ◌<◌, ◌≤◌, Bool, true, false, cond, List, [], ◌∷◌, length, get_or}
use Rattle.std.proofs.Common.{take, drop, count_by, refl, ap, sym, subst, ◌∙◌, inl, inr, arith}
use Rattle.std.specs.List.{AllByRecursion}
use Rattle.std.proofs.Math.Nat.{mul-le-mul_right, add-mul-mod_self_right}
use Rattle.std.proofs.lemmas.Nat.{div-add-mod'}
use Rattle.std.proofs.lemmas.Bool.{cases_lt}
use Rattle.std.proofs.lemmas.Bool.Decides.{nat_tests}
use Rattle.std.proofs.lemmas.List.{take-append-drop, take_all}
use Rattle.std.proofs.lemmas.List.Sums.{sum_by-cons, sum_by-append}
use Rattle.slot_types.specs.declared.plans.DiePlan.{DiePlan}
use Rattle.slot_types.specs.declared.events.Event.{Event}
use Rattle.slot_types.specs.declared.events.Event.TheVariants as events
use Rattle.plan_rules.specs.Keeping.{TaskArrival, arrivals, slots, is_collection_at}
use Rattle.plan_rules.proofs.Moments.{arrivals_after}
use Rattle.demand_rules.specs.declared.terms.Terms.{Terms}
use Rattle.demand_rules.specs.Demand.{terms_of}
use Rattle.demand_rules.specs.Keeping.{IsCollectSlot, IsDemanded}
use Rattle.demand_keeping.specs.Collecting.{ComesOnce, IsCollection}
use Rattle.std.specs.Prelude.{All}
use Rattle.std.proofs.lemmas.Option.{slice_get_read}
use Rattle.std.proofs.lemmas.List.Elements.{recursion_from_All}
use Rattle.demand_keeping.proofs.Taking.{sum_more, sum_grows}
use Rattle.demand_keeping.proofs.Breaking.{all_at}

-- two multiples of a number that are less than it apart are one
pub one_multiple : (n m q : ℕ) → n % q ≡ 0 → m % q ≡ 0 → n ≤ m → m < n + q → n ≡ m
one_multiple n m q a b le near =
    let first : n ≡ n / q * q = omega (arith, div-add-mod' n q, a) in
    let second : m ≡ m / q * q = omega (arith, div-add-mod' m q, b) in
    elim (cases_lt (n / q) (m / q)) [
      | inl less ↦ (
          let up : (n / q + 1) * q ≤ m / q * q = mul-le-mul_right q (omega (arith, less)) in
          absurd (omega (arith, up, first, second, one_more (n / q) q, near)))
      | inr more ↦ (
          let down : m / q * q ≤ n / q * q = mul-le-mul_right q (omega (arith, more)) in
          omega (arith, down, first, second, le))
    ]
  where
    one_more : (k p : ℕ) → (k + 1) * p ≡ k * p + p
    one_more k p = grind arith

pub next_multiple : (n q : ℕ) → n % q ≡ 0 → (n + q) % q ≡ 0
next_multiple n q h = ap (λ (k : ℕ). (n + k) % q) (once q) ∙ add-mul-mod_self_right n 1 q ∙ h
  where
    once : (k : ℕ) → k ≡ 1 * k
    once k = omega arith

-- how often the task collects in a slot
abbrev pub collected : ℕ → ℕ → List TaskArrival → ℕ
collected task slot came = count_by (is_collection_at task slot) came

abbrev one_if : Bool → ℕ
one_if b = cond b 1 0

-- what comes later comes at a later slot
pub none_later : (task n m : ℕ) (xs : List Event) → n < m → collected task n (arrivals m xs) ≡ 0
none_later task n m [] h = refl
none_later task n m (events.Submit t release due ops ∷ xs) h = omega (
  arith,
  sum_by-cons (λ a. one_if (is_collection_at task n a))
      (record { at = m; collects = false; task = t; release = release; due = due; ops = ops }) (arrivals m xs),
  none_later task n m xs h,
)
none_later task n m (events.Collect t release due ∷ xs) h =
    let a : TaskArrival = record { at = m; collects = true; task = t; release = release; due = due; ops = [] } in
    omega (
      arith,
      sum_by-cons (λ b. one_if (is_collection_at task n b)) a (arrivals m xs),
      ap one_if (apart a (omega arith)),
      none_later task n m xs h,
    )
  where
    apart : (a : TaskArrival) → m ≤ a.at → is_collection_at task n a ≡ false
    apart a k = grind (arith, nat_tests)
none_later task n m (events.Slot ∷ xs) h = none_later task n (m + 1) xs (omega (arith, h))

-- one collection is counted where it comes, and nowhere else
pub counts_one : (task now : ℕ) (event : Event) → IsCollection task event → collected task now (arrivals now (event ∷ [])) ≡ 1
counts_one task now event is = ap (λ (e : Event). collected task now (arrivals now (e ∷ []))) is.is ∙ here is.release is.due
  where
    here : (release due : ℕ) → collected task now (arrivals now (events.Collect task release due ∷ [])) ≡ 1
    here release due = grind (arith, nat_tests)

pub counts_none : (task now slot : ℕ) (event : Event) → IsCollection task event → (now ≡ slot → ⊥)
    → collected task slot (arrivals now (event ∷ [])) ≡ 0
counts_none task now slot event is other = ap (λ (e : Event). collected task slot (arrivals now (e ∷ []))) is.is ∙ elsewhere is.release is.due
  where
    elsewhere : (release due : ℕ) → collected task slot (arrivals now (events.Collect task release due ∷ [])) ≡ 0
    elsewhere release due = grind (arith, nat_tests, other)

module _ (terms : Terms) (task : ℕ) (all : List Event) (i : ℕ) (event : Event) (is_event : event ≡ get_or all i event) (lt : i < length all) (now : ℕ)
    (is_now : now ≡ slots (take i all))
  where
    abbrev pub seen : ℕ → ℕ
    seen slot = collected task slot (arrivals 0 (take i all))

    abbrev pub seen_next : ℕ → ℕ
    seen_next slot = collected task slot (arrivals 0 (take (i + 1) all))

    one_more : (slot : ℕ) → seen_next slot ≡ seen slot + collected task slot (arrivals now (event ∷ []))
    one_more slot = sum_more all i event is_event lt now is_now (λ a. one_if (is_collection_at task slot a))

    pub other_event : ((now slot : ℕ) → collected task slot (arrivals now (event ∷ [])) ≡ 0) → (slot : ℕ) → seen_next slot ≡ seen slot
    other_event none slot = omega (arith, one_more slot, none now slot)

    -- of a slot that is past all was seen
    pub whole : (slot : ℕ) → slot < now → collected task slot (arrivals 0 all) ≡ seen slot
    whole slot past = omega (
      arith,
      ap (λ (es : List Event). collected task slot (arrivals 0 es)) (sym (take-append-drop i all)),
      ap (λ (came : List TaskArrival). collected task slot came) (arrivals_after (take i all) (drop i all)),
      sum_by-append (λ a. one_if (is_collection_at task slot a)) (arrivals 0 (take i all)) (arrivals (slots (take i all)) (drop i all)),
      none_later task slot (slots (take i all)) (drop i all) (omega (arith, past, is_now)),
    )

    -- the collection that was expected
    module _ (period next : ℕ) (multiple : next % period ≡ 0) (before : (slot : ℕ) → slot % period ≡ 0 → slot < next → seen slot ≡ 1)
        (after : (slot : ℕ) → next ≤ slot → seen slot ≡ 0) (is : IsCollection task event)
      where
        pub expected_before : now ≡ next → (slot : ℕ) → slot % period ≡ 0 → slot < next + period → seen_next slot ≡ 1
        expected_before here slot fits less = elim (cases_lt slot next) [
          | inl sooner ↦ omega (
            arith,
            one_more slot,
            before slot fits sooner,
            counts_none task now slot event is (λ same. omega (arith, same, here, sooner)),
          )
          | inr not_sooner ↦
              let same : next ≡ slot = one_multiple next slot period multiple fits not_sooner less in
              let at : now ≡ slot = omega (arith, here, same) in
              omega (
                arith,
                one_more slot,
                after slot not_sooner,
                subst (λ n. collected task n (arrivals now (event ∷ [])) ≡ 1) at (counts_one task now event is),
              )
        ]

        pub expected_after : 1 ≤ period → now ≡ next → (slot : ℕ) → next + period ≤ slot → seen_next slot ≡ 0
        expected_after some here slot beyond = omega (
          arith,
          one_more slot,
          after slot (omega (arith, beyond)),
          counts_none task now slot event is (λ same. omega (arith, same, here, beyond, some)),
        )

        -- it comes a second time
        pub comes_twice : now % period ≡ 0 → now < next → collected task now (arrivals 0 all) ≡ 1 → ⊥
        comes_twice fits sooner once =
            let same : (i + 1) + (length all - (i + 1)) ≡ length all = omega (arith, lt) in
            let grows : collected task now (arrivals 0 (take (i + 1) all)) ≤ collected task now (arrivals 0 (take ((i + 1) + (length all - (i + 1))) all)) = sum_grows all event (i + 1) (λ a. one_if (is_collection_at task now a)) (length all - (i + 1)) (omega (arith, same)) in
            let whole : take ((i + 1) + (length all - (i + 1))) all ≡ all = ap (λ (n : ℕ). take n all) same ∙ take_all (length all) all (omega arith) in
            omega (
              arith,
              once,
              grows,
              ap (λ (es : List Event). collected task now (arrivals 0 es)) whole,
              one_more now,
              before now fits sooner,
              counts_one task now event is,
            )

        -- one didn't come
        pub is_missing : next < now → collected task next (arrivals 0 all) ≡ 1 → ⊥
        is_missing sooner once = omega (arith, once, whole next sooner, after next (omega arith))

        -- each before came once
        pub came_before : (bound : ℕ) → bound ≤ now → bound ≤ next → (end earlier : ℕ) → earlier < bound
            → IsCollectSlot terms end task earlier → period ≡ (terms_of terms task).collect_period → ComesOnce task all earlier
        came_before bound by_now by_next end earlier sooner at is_period = whole earlier (omega (arith, sooner, by_now))
            ∙ before earlier (subst (λ (p : ℕ). earlier % p ≡ 0) (sym is_period) at.multiple) (omega (arith, sooner, by_next))

-- a planned collection comes in a slot in which the plan has one
pub planned_here : (plan : DiePlan) (terms : Terms) (end task now : ℕ) (event : Event) → IsCollection task event
    → AllByRecursion (IsDemanded plan terms end) (arrivals now (event ∷ [])) → IsCollectSlot terms end task now
planned_here plan terms end task now event is h = of is.release is.due
    (subst (λ e. AllByRecursion (IsDemanded plan terms end) (arrivals now (e ∷ []))) is.is h)
  where
    of : (release due : ℕ) → AllByRecursion (IsDemanded plan terms end) (arrivals now (events.Collect task release due ∷ []))
        → IsCollectSlot terms end task now
    of release due h = subst (λ n. IsCollectSlot terms end task n) h.0.comes h.0.slot

-- and where it comes, by all that is planned
pub here : (plan : DiePlan) (terms : Terms) (end task : ℕ) (all : List Event) (i : ℕ) (event : Event) → event ≡ get_or all i event → i < length all
    → (now : ℕ) → now ≡ slots (take i all) → IsCollection task event → All (IsDemanded plan terms end) (arrivals 0 all)
    → IsCollectSlot terms end task now
here plan terms end task all i event is_event lt now is_now is planned =
    subst (λ (n : ℕ). IsCollectSlot terms end task n) (sym is_now)
    (planned_here plan terms end task (slots (take i all)) event is
    (all_at (IsDemanded plan terms end) all i event (slice_get_read all (length all) i event refl lt is_event)
    (recursion_from_All (IsDemanded plan terms end) (arrivals 0 all) planned)))

-- a collection that is missing was planned, if a later one was
pub sooner_planned : (terms : Terms) (end task next now : ℕ) → next % (terms_of terms task).collect_period ≡ 0 → next < now
    → IsCollectSlot terms end task now → IsCollectSlot terms end task next
sooner_planned terms end task next now multiple sooner at = record {
  multiple = multiple;
  before_end = omega (arith, sooner, at.before_end);
  due_limit = omega (arith, sooner, at.due_limit);
}

-- all events were seen
pub seen_all : (task slot : ℕ) (all : List Event) (i : ℕ) → length all ≤ i
    → collected task slot (arrivals 0 (take i all)) ≡ collected task slot (arrivals 0 all)
seen_all task slot all i le = ap (λ (es : List Event). collected task slot (arrivals 0 es)) (take_all i all le)
