-- How long a slot is, as the first line of a plan says it.
use Rattle.std.specs.Prelude.{◌≡◌, ℕ, ◌<◌, ◌≤◌, ◌==◌, Bool, List, ◌++◌, codes, decimal, Option, Some, IfSome}

-- what a plan begins with that says how long a slot is
abbrev pub slot_line : ℕ → List ℕ
slot_line slot_us = codes "# a slot is " ++ decimal slot_us ++ codes " us; "

-- what stands after the length
abbrev pub is_space : ℕ → Bool
is_space byte = byte == 32

-- a text begins so
abbrev pub SaysSlot : List ℕ → ℕ → Type 0
SaysSlot text slot_us = (rest : List ℕ) × (text ≡ slot_line slot_us ++ rest)

-- the length of a slot that a text begins with, from 1 us on, if it begins with one
pub record IsSlotOf (text : List ℕ) (found : Option ℕ) : Type 0 where
  pub said : IfSome found (λ us. (1 ≤ us) × SaysSlot text us)
  pub whole : (us : ℕ) → 1 ≤ us → us < 4294967296 → SaysSlot text us → found ≡ Some us
