-- The cells of a block before which no page lies.
use Rattle.std.proofs.Common.{◌≡◌, ℕ, ◌<◌, ◌≤◌, List, get_or, set, Option, Some, None, ap, ◌∙◌, inl, inr, arith}
use Rattle.std.proofs.Common.{length-set, get_or-set_same, get_or-set_other}
use Rattle.std.proofs.lemmas.Bool.{cases_eq, cases_lt}
use Rattle.slot_types.specs.declared.pages.Place.{Place}
use Rattle.slot_types.specs.Places.{owner_of}
use Rattle.page_map.proofs.Owners.{no_owner, unowned}
use Rattle.flash_volume.specs.FirstCells.{LieAfter}

module _ (blocks : ℕ) (places : List (Option Place)) (firsts : List ℕ) (sound : LieAfter blocks places firsts) where
  pub none_before : (block from page : ℕ) → from ≡ get_or firsts block 0 → page < from
      → owner_of places (record { block = block; page = page }) ≡ None
  none_before block from page is before =
      no_owner places (record { block = block; page = page }) (λ p lies. omega (arith, is, before, sound.beyond p _ lies))

  -- where no page lies from that cell on, none lies in the block
  pub none_at_all : (block from pages : ℕ) → from ≡ get_or firsts block 0
      → ((page : ℕ) → from ≤ page → page < pages → owner_of places (record { block = block; page = page }) ≡ None)
      → (page : ℕ) → page < pages → owner_of places (record { block = block; page = page }) ≡ None
  none_at_all block from pages is none page below =
      elim (cases_lt page from) [
        | inl before ↦ none_before block from page is before
        | inr beyond ↦ none page beyond below
      ]

  -- looks go on from another cell before which no page lies
  pub passed : (cell : Place) → cell.block < blocks
      → ((page : ℕ) → page < cell.page → owner_of places (record { block = cell.block; page = page }) ≡ None)
      → LieAfter blocks places (set firsts cell.block cell.page)
  passed cell below none = record {
    len = length-set firsts cell.block cell.page ∙ sound.len;
    beyond = λ page place lies.
        elim (cases_eq place.block cell.block) [
          | inl same ↦
              let here : get_or (set firsts cell.block cell.page) place.block 0 ≡ cell.page =
              ap (λ (b : ℕ). get_or (set firsts cell.block cell.page) b 0) same
              ∙ get_or-set_same firsts cell.block cell.page 0 (omega (arith, below, sound.len)) in
              elim (cases_lt place.page cell.page) [
                | inl before ↦ absurd (unowned places page (record { block = cell.block; page = place.page }) (none place.page before)
                    (lies ∙ ap (λ (b : ℕ). Some (record { block = b; page = place.page })) same))
                | inr beyond ↦ omega (arith, here, beyond)
              ]
          | inr other ↦ omega (
            arith,
            get_or-set_other firsts cell.block place.block cell.page 0 other,
            sound.beyond page place lies,
          )
        ];
  }
