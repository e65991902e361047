-- The first events of a list, and one more.
use Rattle.std.proofs.Common.{◌≡◌, ℕ, zero, suc, ◌+◌, ◌<◌, ◌≤◌, List, [], ◌∷◌, ◌++◌, length, get_or, take, drop, sum_by}
use Rattle.std.proofs.Common.{refl, sym, ap, subst, ◌∙◌, arith}
use Rattle.std.specs.List.{AllByRecursion}
use Rattle.std.proofs.Math.Seq.{take-suc}
use Rattle.std.proofs.lemmas.List.{take-append-drop, get_or_default}
use Rattle.std.proofs.lemmas.List.Sums.{sum_by-append}
use Rattle.slot_types.specs.declared.events.Event.{Event}
use Rattle.plan_rules.specs.Keeping.{TaskArrival, arrivals, slots}
use Rattle.plan_rules.proofs.Moments.{slots_append, arrivals_after}

-- the event at an index
module _ (events : List Event) (i : ℕ) (event : Event) (is : event ≡ get_or events i event) (lt : i < length events) where
  abbrev pub before : List Event
  before = take i events

  one_more : take (i + 1) events ≡ before ++ event ∷ []
  one_more =
      let next : i + 1 ≡ suc i = omega arith in
      ap (λ (n : ℕ). take n events) next ∙ take-suc events i event lt ∙ ap (λ (e : Event). before ++ e ∷ []) (sym is)

  pub slots_more : slots (take (i + 1) events) ≡ slots before + slots (event ∷ [])
  slots_more = ap (λ (es : List Event). slots es) one_more ∙ slots_append before (event ∷ [])

  pub arrivals_more : (now : ℕ) → now ≡ slots before → arrivals 0 (take (i + 1) events) ≡ arrivals 0 before ++ arrivals now (event ∷ [])
  arrivals_more now at = ap (λ (es : List Event). arrivals 0 es) one_more ∙ arrivals_after before (event ∷ [])
      ∙ ap (λ n. arrivals 0 before ++ arrivals n (event ∷ [])) (sym at)

  pub sum_more : (now : ℕ) → now ≡ slots before → (f : TaskArrival → ℕ)
      → sum_by f (arrivals 0 (take (i + 1) events)) ≡ sum_by f (arrivals 0 before) + sum_by f (arrivals now (event ∷ []))
  sum_more now at f = ap (λ (came : List TaskArrival). sum_by f came) (arrivals_more now at) ∙ sum_by-append f (arrivals 0 before) (arrivals now (event ∷ []))

  pub each_more : (P : TaskArrival → Type 0) (now : ℕ) → now ≡ slots before → AllByRecursion P (arrivals 0 before)
      → AllByRecursion P (arrivals now (event ∷ [])) → AllByRecursion P (arrivals 0 (take (i + 1) events))
  each_more P now at old own = subst (λ (came : List TaskArrival). AllByRecursion P came) (sym (arrivals_more now at))
      (joined (arrivals 0 before) old)
    where
      joined : (xs : List TaskArrival) → AllByRecursion P xs → AllByRecursion P (xs ++ arrivals now (event ∷ []))
      joined [] h = own
      joined (x ∷ xs) h = (h.0, joined xs h.1)

-- the first events have at most as many slots as all of them
pub slots_first : (events : List Event) (i : ℕ) → slots (take i events) ≤ slots events
slots_first events i = omega (
  arith,
  slots_append (take i events) (drop i events),
  ap (λ (es : List Event). slots es) (take-append-drop i events),
)

-- what is counted in the first of some events is counted in all of them
module _ (f : TaskArrival → ℕ) (events : List Event) where
  pub first_in_all : (n : ℕ) → sum_by f (arrivals 0 (take n events)) ≤ sum_by f (arrivals 0 events)
  first_in_all n = omega (
    arith,
    ap (λ (es : List Event). sum_by f (arrivals 0 es)) (take-append-drop n events),
    ap (λ (came : List TaskArrival). sum_by f came) (arrivals_after (take n events) (drop n events)),
    sum_by-append f (arrivals 0 (take n events)) (arrivals (slots (take n events)) (drop n events)),
  )

-- what holds of all that comes holds of what comes first
pub all_left : {X : Type 0} (P : X → Type 0) (xs ys : List X) → AllByRecursion P (xs ++ ys) → AllByRecursion P xs
all_left P [] ys h = tt
all_left P (x ∷ xs) ys h = (h.0, all_left P xs ys h.1)

-- what is counted grows with the events
module _ (events : List Event) (d : Event) (i : ℕ) where
  abbrev up_to : ℕ → List TaskArrival
  up_to n = arrivals 0 (take n events)

  pub sum_grows : (f : TaskArrival → ℕ) (j : ℕ) → i + j ≤ length events → sum_by f (up_to i) ≤ sum_by f (up_to (i + j))
  sum_grows f zero within = omega (arith, ap (λ (n : ℕ). sum_by f (up_to n)) (same i))
    where
      same : (n : ℕ) → n + 0 ≡ n
      same n = omega arith
  sum_grows f (suc j) within =
      let next : i + suc j ≡ (i + j) + 1 = omega arith in
      omega (
        arith,
        sum_grows f j (omega (arith, within)),
        sum_more events (i + j) (get_or events (i + j) d) (get_or_default events (i + j) d (get_or events (i + j) d) (omega (arith, within)))
            (omega (arith, within)) (slots (take (i + j) events)) refl f,
        ap (λ (n : ℕ). sum_by f (up_to n)) next,
      )
