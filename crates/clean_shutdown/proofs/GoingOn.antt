-- A die that was shut down goes on with its pages and its labels.
use Rattle.std.proofs.Common.{◌≡◌, ◌⊎◌, ℕ, ◌+◌, ◌<◌, ◌≤◌, Bool, false, List, [], ◌∷◌, length, get_or, map, Option, Some, None, refl, ap, sym, ◌∙◌, inl, inr, arith}
use Rattle.std.proofs.lemmas.Bool.{cases_lt}
use Rattle.std.proofs.lemmas.List.{get_or-map, get_or_past, length-map}
use Rattle.std.proofs.lemmas.Option.{same_Some}
use Rattle.slot_types.specs.declared.pages.PageData.{PageData}
use Rattle.slot_types.specs.declared.pages.Place.{Place}
use Rattle.slot_types.specs.declared.plans.Shape.{Shape}
use Rattle.die_checkpoint.specs.declared.checkpoint.Checkpoint.{Checkpoint}
use Rattle.flash_die.specs.Flash.{Block, blank, block_at, free_block}
use Rattle.flash_volume.specs.Cells.{content_at}
use Rattle.flash_volume.specs.Cells as volume
use Rattle.die_log.specs.Model.Opening.{renewed_start}
use Rattle.die_log.specs.Model.Start.{Start}
use Rattle.power_loss.specs.Aside.{die_labels, on_part, without_aside}
use Rattle.power_loss.specs.Labels.{Labels}
use Rattle.power_loss.specs.Losses.{FollowsRenewal}
use Rattle.power_loss.proofs.Aside.Lists.{without_at, without_past}
use Rattle.slot_core.specs.Core.{Core}
use Rattle.slot_core.specs.Resumptions.{checkpoint_of}
use Rattle.labelled_die.specs.Beside.{Beside, labels_beside}
use Rattle.labelled_die.specs.Labelled.{HasLabels}
use Rattle.saving_nand.specs.Saving.{numbered}
use Rattle.saving_nand.specs.declared.saved.Saved.{Saved}
use Rattle.clean_shutdown.specs.Between.{ShowsSaved, life_of}
use Rattle.clean_shutdown.specs.Shutting.{IsSavedOn, ResumesAsRenewed, saved_of}
use Rattle.clean_shutdown.specs.Starting.{GoesOn}

-- Cells by what they hold

abbrev cells_of : List Block → List (List PageData)
cells_of blocks = map (λ (block : Block). block.pages) blocks

same_pages : (bs cs : List Block) → cells_of bs ≡ cells_of cs → (b : ℕ) → (block_at bs b).pages ≡ (block_at cs b).pages
same_pages bs cs e b = at bs ∙ (ap (λ (l : List (List PageData)). get_or l b []) e ∙ sym (at cs))
  where
    by_case : (xs : List Block) → (b < length xs) ⊎ (length xs ≤ b) → (block_at xs b).pages ≡ get_or (cells_of xs) b []
    by_case xs (inl lt) = sym (get_or-map (λ (block : Block). block.pages) xs b free_block [] lt)
    by_case xs (inr past) =
        ap (λ (x : Block). x.pages) (get_or_past xs b free_block past)
        ∙ sym (get_or_past (cells_of xs) b [] (omega (arith, past, length-map xs (λ (block : Block). block.pages))))

    at : (xs : List Block) → (block_at xs b).pages ≡ get_or (cells_of xs) b []
    at xs = by_case xs (cases_lt b (length xs))

-- also beside a block
beside_pages : (last aside : ℕ) (bs cs : List Block) → length bs ≡ last + 1 → length cs ≡ last + 1 → cells_of bs ≡ cells_of cs → (b : ℕ)
    → (block_at (without_aside last aside free_block bs) b).pages ≡ (block_at (without_aside last aside free_block cs) b).pages
beside_pages last aside bs cs long also e b = by_case (cases_lt b last)
  where
    by_case : (b < last) ⊎ (last ≤ b)
        → (block_at (without_aside last aside free_block bs) b).pages ≡ (block_at (without_aside last aside free_block cs) b).pages
    by_case (inl lt) =
        ap (λ (x : Block). x.pages) (without_at last aside free_block bs b long lt)
        ∙ (same_pages bs cs e (on_part last aside b) ∙ sym (ap (λ (x : Block). x.pages) (without_at last aside free_block cs b also lt)))
    by_case (inr past) =
        ap (λ (x : Block). x.pages) (without_past last aside free_block bs b long past)
        ∙ sym (ap (λ (x : Block). x.pages) (without_past last aside free_block cs b also past))

same_content : (bs cs : List Block) → ((b : ℕ) → (block_at bs b).pages ≡ (block_at cs b).pages) → (o : Option Place) → content_at bs o ≡ content_at cs o
same_content bs cs e None = refl
same_content bs cs e (Some q) = ap (λ (l : List PageData). get_or l q.page blank) (e q.block)

same_contents : (bs cs : List Block) → ((b : ℕ) → (block_at bs b).pages ≡ (block_at cs b).pages) → (places : List (Option Place))
    → volume.contents bs places ≡ volume.contents cs places
same_contents bs cs e [] = refl
same_contents bs cs e (o ∷ os) =
    ap (λ (x : PageData). x ∷ volume.contents bs os) (same_content bs cs e o) ∙ ap (λ (l : List PageData). content_at cs o ∷ l) (same_contents bs cs e os)

module _ {N : Type 0} (saved : N → Option Saved) (shape_of : N → Shape) (blocks : N → List Block) (labels : N → Labels) (failures : N → ℕ) where
  abbrev cp : Core (Beside N) → Checkpoint
  cp die = checkpoint_of (renewed_start die.start die.log)

  pub goes_on : (die next : Core (Beside N)) (first : Labels) (from : ℕ → ℕ) (lost : Bool) (left shown : N) (found : Saved)
      → IsSavedOn saved shape_of blocks labels failures die.device (checkpoint_of (renewed_start die.start die.log)) left
      → ResumesAsRenewed blocks die
      → length (blocks die.device.part) ≡ die.start.plan.shape.blocks + 1 → die.device.shape.blocks ≡ die.start.plan.shape.blocks
      → HasLabels (labels_beside labels) first die → ShowsSaved saved blocks labels left shown found
      → GoesOn saved labels die.start.plan (blocks shown) (numbered (Some found) (labels shown)) found next → next.log ≡ []
      → FollowsRenewal (life_of die first from lost) (life_of next (labels_beside labels next.device) from false)
  goes_on die next first from lost left shown found on goes long last has shows g empty = record {
    plan = ap (λ (s : Start). s.plan) g.start;
    contents = ap (λ (s : Start). s.contents) g.start
        ∙ (ap (λ (a : ℕ). volume.contents (without_aside n a free_block (blocks shown)) found.checkpoint.places) aside_is
        ∙ (ap (λ (ps : List (Option Place)). volume.contents (without_aside n die.device.aside free_block (blocks shown)) ps) places_are
        ∙ (same_contents (without_aside n die.device.aside free_block (blocks shown)) (without_aside n die.device.aside free_block (blocks die.device.part))
        (beside_pages n die.device.aside (blocks shown) (blocks die.device.part) shown_long long cells_are) (cp die).places
        ∙ (ap (λ (l : ℕ). volume.contents (without_aside l die.device.aside free_block (blocks die.device.part)) (cp die).places) (sym last)
        ∙ ap (λ (s : Start). s.contents) goes))));
    places = ap (λ (s : Start). s.cells.places) g.start ∙ places_are;
    labels = g.labels_are
        ∙ (ap (λ (a : ℕ). die_labels n a (numbered (Some found) (labels shown))) aside_is
        ∙ (ap (λ (l : Labels). die_labels n die.device.aside l) labels_same
        ∙ (ap (λ (l : ℕ). die_labels l die.device.aside (labels die.device.part)) (sym last) ∙ has)));
    from = λ page. refl;
  }
    where
      n : ℕ
      n = die.start.plan.shape.blocks

      was_is : shows.was ≡ saved_of labels die.device (cp die)
      was_is = same_Some shows.was (saved_of labels die.device (cp die)) (sym shows.had ∙ on.has)

      aside_is : found.aside ≡ die.device.aside
      aside_is = shows.aside ∙ ap (λ (s : Saved). s.aside) was_is

      next_is : found.next ≡ (labels die.device.part).next
      next_is = shows.next ∙ ap (λ (s : Saved). s.next) was_is

      places_are : found.checkpoint.places ≡ (cp die).places
      places_are = shows.places ∙ ap (λ (s : Saved). s.checkpoint.places) was_is

      cells_are : cells_of (blocks shown) ≡ cells_of (blocks die.device.part)
      cells_are = shows.cells ∙ ap cells_of on.blocks_are

      shown_long : length (blocks shown) ≡ n + 1
      shown_long = sym (length-map (blocks shown) (λ (block : Block). block.pages))
          ∙ (ap (λ (l : List (List PageData)). length l) cells_are ∙ (length-map (blocks die.device.part) (λ (block : Block). block.pages) ∙ long))

      shown_labels : (labels shown).blocks ≡ (labels die.device.part).blocks
      shown_labels = shows.labels_are ∙ ap (λ (l : Labels). l.blocks) on.labels_are

      labels_same : numbered (Some found) (labels shown) ≡ labels die.device.part
      labels_same = λ i. record { blocks = shown_labels i; next = next_is i }
