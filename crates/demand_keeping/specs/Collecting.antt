-- Collections that come where the plan has them.
use Rattle.std.specs.Prelude.{ℕ, ◌≡◌, ◌<◌, List, count_by}
use Rattle.slot_types.specs.declared.events.Event.{Event}
use Rattle.slot_types.specs.declared.events.Event.TheVariants as events
use Rattle.plan_rules.specs.Keeping.{arrivals, slots, is_collection_at}
use Rattle.demand_rules.specs.declared.terms.Terms.{Terms}
use Rattle.demand_rules.specs.Keeping.{IsCollectSlot}

-- an event collects for the task
pub record IsCollection (task : ℕ) (event : Event) : Type 0 where
  pub release : ℕ
  pub due : ℕ
  pub is : event ≡ events.Collect task release due

-- one collection of the task comes in this slot
abbrev pub ComesOnce : ℕ → List Event → ℕ → Type 0
ComesOnce task all slot = count_by (is_collection_at task slot) (arrivals 0 all) ≡ 1

-- in each slot in which the plan has a collection of the task, one comes
abbrev pub IsCollected : Terms → ℕ → List Event → Type 0
IsCollected terms task all = (slot : ℕ) → IsCollectSlot terms (slots all) task slot → ComesOnce task all slot

-- the first slot in which the plan has a collection of the task, and none comes, or more than one
pub record IsFirstWrong (terms : Terms) (task : ℕ) (all : List Event) (slot : ℕ) : Type 0 where
  pub planned : IsCollectSlot terms (slots all) task slot
  pub other : ComesOnce task all slot → ⊥
  pub before : (earlier : ℕ) → earlier < slot → IsCollectSlot terms (slots all) task earlier → ComesOnce task all earlier
