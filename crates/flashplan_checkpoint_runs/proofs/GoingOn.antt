-- What is saved of a die starts where the renewed die would.
use Rattle.std.proofs.Common.{◌≡◌, List, [], ◌∷◌, ◌++◌, append_assoc, map, Option, Some, None, refl, sym, ap, ◌∙◌, subst}
use Rattle.slot_types.specs.declared.pages.PageData.{PageData}
use Rattle.slot_types.specs.declared.pages.Place.{Place}
use Rattle.slot_types.specs.declared.plans.DiePlan.{DiePlan}
use Rattle.checkpoint_texts.specs.SavedDies.{checkpoint_of, places_of}
use Rattle.checkpoint_texts.specs.declared.saved.SavedDie.{SavedDie}
use Rattle.checkpoint_texts.specs.declared.saved.SavedPage.{SavedPage}
use Rattle.die_checkpoint.specs.Fits.{Fits}
use Rattle.die_checkpoint.specs.declared.checkpoint.Checkpoint.{Checkpoint}
use Rattle.die_log.specs.Model.Opening.{renewed_start}
use Rattle.flash_die.specs.Flash.{Block}
use Rattle.flash_die.specs.Memory.{Memory}
use Rattle.flash_volume.specs.Cells.{content_at, contents}
use Rattle.slot_core.specs.Core.{Core}
use Rattle.slot_core.specs.Resumptions as slots
use Rattle.slot_core.specs.Resumptions.{resumed_start, start_with}
use Rattle.flashplan_checkpoint_runs.specs.SavedDies.{held_by, saved_by, saved_end, saved_page, saved_start}

saved_places : (blocks : List Block) (places : List (Option Place)) → places_of (map (saved_page blocks) places) ≡ places
saved_places blocks [] = refl
saved_places blocks (place ∷ places) = ap (λ (l : List (Option Place)). place ∷ l) (saved_places blocks places)

saved_bytes : (blocks : List Block) (place : Option Place) → held_by (saved_page blocks place) ≡ content_at blocks place
saved_bytes blocks None = refl
saved_bytes blocks (Some place) = refl

saved_contents : (blocks : List Block) (places : List (Option Place)) → map held_by (map (saved_page blocks) places) ≡ contents blocks places
saved_contents blocks [] = refl
saved_contents blocks (place ∷ places) =
    ap (λ (b : PageData). b ∷ map held_by (map (saved_page blocks) places)) (saved_bytes blocks place)
    ∙ ap (λ (l : List PageData). content_at blocks place ∷ l) (saved_contents blocks places)

-- the checkpoint that was saved is that which was taken
pub saved_checkpoint : (c : Checkpoint) (blocks : List Block) → checkpoint_of (saved_by c blocks) ≡ c
saved_checkpoint c blocks =
    ap (λ (places : List (Option Place)). record { places = places; blocks = c.blocks; spare = c.spare; balances = c.balances })
    (saved_places blocks c.places)

pub saved_goes_on : (plan : DiePlan) (c : Checkpoint) (blocks : List Block) → saved_start plan (saved_by c blocks) ≡ resumed_start plan c blocks
saved_goes_on plan c blocks =
    ap (λ (taken : Checkpoint). start_with plan taken (map held_by (map (saved_page blocks) c.places))) (saved_checkpoint c blocks)
    ∙ ap (start_with plan c) (saved_contents blocks c.places)

-- What is saved of a die

-- these pages, and all else as it was taken
abbrev pub with_pages : Checkpoint → List SavedPage → SavedDie
with_pages c pages = record { pages = pages; blocks = c.blocks; balances = c.balances; spare = c.spare }

pub saved_with : (c : Checkpoint) (blocks : List Block) (places : List (Option Place)) (pages : List SavedPage) → places ≡ c.places
    → pages ≡ map (saved_page blocks) places → with_pages c pages ≡ saved_by c blocks
saved_with c blocks places pages same are = ap (with_pages c) (are ∙ ap (map (saved_page blocks)) same)

-- what is saved by the checkpoint of a die and its device is what is saved of it
pub end_saved : (core : Core Memory) (device : Memory) (taken : Checkpoint) (saved : SavedDie) → device ≡ core.device
    → taken ≡ slots.checkpoint_of (renewed_start core.start core.log) → saved ≡ saved_by taken device.blocks → saved ≡ saved_end core
end_saved core device taken saved same is by =
    by ∙ ap (λ (d : Memory). saved_by taken d.blocks) same ∙ ap (λ (c : Checkpoint). saved_by c core.device.blocks) is

pub saved_fits : (plan : DiePlan) (blocks : List Block) (taken : Checkpoint) (saved : SavedDie) → saved ≡ saved_by taken blocks
    → Fits plan taken → Fits plan (checkpoint_of saved)
saved_fits plan blocks taken saved by fits = subst (Fits plan) (sym (ap checkpoint_of by ∙ saved_checkpoint taken blocks)) fits

pub saved_end_goes_on : (core : Core Memory) (device : Memory) (taken : Checkpoint) (saved : SavedDie) → device ≡ core.device
    → saved ≡ saved_by taken device.blocks
    → resumed_start core.start.plan taken core.device.blocks ≡ renewed_start core.start core.log
    → saved_start core.start.plan saved ≡ renewed_start core.start core.log
saved_end_goes_on core device taken saved same by goes_on =
    ap (saved_start core.start.plan) by
    ∙ saved_goes_on core.start.plan taken device.blocks
    ∙ ap (λ (d : Memory). resumed_start core.start.plan taken d.blocks) same
    ∙ goes_on

-- a die that is resumed with what was saved of it starts as it was saved
pub resumed_as_saved : (plan : DiePlan) (saved : SavedDie) (made : Checkpoint) (blocks : List Block) → made ≡ checkpoint_of saved
    → contents blocks (checkpoint_of saved).places ≡ map held_by saved.pages → resumed_start plan made blocks ≡ saved_start plan saved
resumed_as_saved plan saved made blocks is holds =
    ap (λ (c : Checkpoint). resumed_start plan c blocks) is ∙ ap (start_with plan (checkpoint_of saved)) holds

-- one more die is saved
pub one_saved : (store : List SavedDie) (die : Core Memory) (saved : SavedDie) (left : List (Core Memory)) (all : List SavedDie)
    → saved ≡ saved_end die → store ++ map saved_end (die ∷ left) ≡ all → (store ++ saved ∷ []) ++ map saved_end left ≡ all
one_saved store die saved left all is so =
    append_assoc store (saved ∷ []) (map saved_end left) ∙ ap (λ (s : SavedDie). store ++ s ∷ map saved_end left) is ∙ so
