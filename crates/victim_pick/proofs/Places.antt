-- Places of blocks. A block that comes to a list gets the highest place, and the others keep their order.
use Rattle.std.proofs.Common.{◌≡◌, ◌≢◌, ◌⊎◌, ◌↔◌, ℕ, ◌+◌, ◌-◌, ◌<◌, ◌≤◌, ap, ◌∙◌, sym, arith, inl, inr}
use Rattle.std.specs.Prelude.{cond, eqb, ltb}
use Rattle.std.proofs.lemmas.Bool.{cases_eq, cases_lt}
use Rattle.std.proofs.lemmas.Bool.Decides.{nat_tests}

-- the places with a block moved to the top
abbrev pub moved_up : ℕ → ℕ → (ℕ → ℕ) → ℕ → ℕ
moved_up n block place x = cond (eqb x block) (n - 1) (cond (ltb (place block) (place x)) (place x - 1) (place x))

-- a place is below the number of blocks, and no other block's
pub record ArePlaces (n : ℕ) (place : ℕ → ℕ) : Type 0 where
  pub places : (block : ℕ) → block < n → place block < n
  pub apart : (one other : ℕ) → one < n → other < n → place one ≡ place other → one ≡ other

-- the block is on top, and those that were above it are one lower
pub record IsMovedUp (n block : ℕ) (place now : ℕ → ℕ) : Type 0 where
  pub top : now block + 1 ≡ n
  pub others : (x : ℕ) → x < n → x ≢ block
      → ((place x < place block) × (now x ≡ place x)) ⊎ ((place block < place x) × (now x + 1 ≡ place x))

moved_up-same : (n block : ℕ) (place : ℕ → ℕ) → moved_up n block place block ≡ n - 1
moved_up-same n block place = grind (arith, nat_tests)

moved_up-low : (n block x : ℕ) (place : ℕ → ℕ) → x ≢ block → place x ≤ place block → moved_up n block place x ≡ place x
moved_up-low n block x place other low = grind (arith, nat_tests)

moved_up-high : (n block x : ℕ) (place : ℕ → ℕ) → x ≢ block → place block < place x → moved_up n block place x ≡ place x - 1
moved_up-high n block x place other high = grind (arith, nat_tests)

pub moved_up_is : (n block : ℕ) (place : ℕ → ℕ) → block < n → ArePlaces n place → IsMovedUp n block place (moved_up n block place)
moved_up_is n block place below are = record {
  top = omega (arith, below, moved_up-same n block place);
  others = λ x x_below other. elim (cases_lt (place block) (place x)) [
    | inl high ↦ inr (high, omega (arith, high, moved_up-high n block x place other high))
    | inr low ↦
        let unlike : place x ≢ place block = (λ same. other (are.apart x block x_below below same)) in
        inl (omega (arith, low, unlike), moved_up-low n block x place other low)
  ];
}

-- the order of the others stays
pub same_order : (n block one other : ℕ) (place now : ℕ → ℕ) → IsMovedUp n block place now → one < n → other < n → one ≢ block
    → other ≢ block → (place one < place other) ↔ (now one < now other)
same_order n block one other place now moved one_below other_below one_apart other_apart =
    elim (moved.others one one_below one_apart) [
      | inl a ↦ elim (moved.others other other_below other_apart) [
        | inl b ↦ (λ h. omega arith, λ h. omega arith)
        | inr b ↦ (λ h. omega arith, λ h. omega arith)
      ]
      | inr a ↦ elim (moved.others other other_below other_apart) [
        | inl b ↦ (λ h. omega arith, λ h. omega arith)
        | inr b ↦ (λ h. omega arith, λ h. omega arith)
      ]
    ]

-- and they are below the block
pub below_top : (n block x : ℕ) (place now : ℕ → ℕ) → ArePlaces n place → IsMovedUp n block place now → block < n → x < n → x ≢ block
    → now x < now block
below_top n block x place now are moved below x_below apart =
    elim (moved.others x x_below apart) [
      | inl a ↦ omega (arith, a.0, a.1, moved.top, are.places block below)
      | inr a ↦ omega (arith, a.0, a.1, moved.top, are.places x x_below)
    ]

pub moved_places : (n block : ℕ) (place now : ℕ → ℕ) → ArePlaces n place → IsMovedUp n block place now → block < n → ArePlaces n now
moved_places n block place now are moved below = record {
  places = λ x x_below. elim (cases_eq x block) [
    | inl same ↦ omega (arith, moved.top, ap now same)
    | inr apart ↦ omega (arith, moved.top, below_top n block x place now are moved below x_below apart)
  ];
  apart = λ one other one_below other_below same. elim (cases_eq one block) [
    | inl one_same ↦ elim (cases_eq other block) [
      | inl other_same ↦ one_same ∙ sym other_same
      | inr other_apart ↦
          let low = below_top n block other place now are moved below other_below other_apart in
          absurd (omega (arith, same, ap now one_same))
    ]
    | inr one_apart ↦ elim (cases_eq other block) [
      | inl other_same ↦
          let low = below_top n block one place now are moved below one_below one_apart in
          absurd (omega (arith, same, ap now other_same))
      | inr other_apart ↦
          let order = same_order n block one other place now moved one_below other_below one_apart other_apart in
          let back = same_order n block other one place now moved other_below one_below other_apart one_apart in
          are.apart one other one_below other_below (omega (arith, order.0, back.0, same))
    ]
  ];
}
