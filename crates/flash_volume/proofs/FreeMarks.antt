-- The set of the blocks that are wholly free.
use Rattle.std.proofs.Common.{◌≡◌, ℕ, List, length, get_or, Option, Some, None, refl, ap, inl, inr, arith}
use Rattle.std.specs.Prelude.{position, IfSome, IfNone}
use Rattle.std.proofs.lemmas.Bool.{cases_eq, cases_lt}
use Rattle.std.proofs.lemmas.List.Quantifiers.{position-Some}
use Rattle.page_map.proofs.Owners.{fails_where_none}
use Rattle.flash_volume.specs.Cells.{is_wholly_free}
use Rattle.flash_volume.specs.FreeBlocks.{bit_of, IsLeastIn, MarksFree}
use Rattle.flash_volume.proofs.Opening.{free_means, free_fails}

module _ (counts words : List ℕ) (marks : MarksFree counts words (length counts)) where
  -- a block that is found is in the set
  found_marked : (block : ℕ) → position is_wholly_free counts ≡ Some block → bit_of words block ≡ 1
  found_marked block is =
      let at = position-Some is_wholly_free counts block 0 is in
      marks.marked block at.0 (free_means (get_or counts block 0) at.1)

  none_found : (found : Option ℕ) → position is_wholly_free counts ≡ found → ((block : ℕ) → bit_of words block ≡ 0) → None ≡ found
  none_found None is none = refl
  none_found (Some block) is none = absurd (omega (arith, none block, found_marked block is))

  some_found : (least : ℕ) (found : Option ℕ) → position is_wholly_free counts ≡ found → IsLeastIn words least → Some least ≡ found
  some_found least None is first =
      let below = marks.in_range least first.within in
      absurd (omega (
        arith,
        marks.free least first.within,
        free_fails (get_or counts least 0) (fails_where_none is_wholly_free counts least 0 is below),
      ))
  some_found least (Some block) is first =
      let at = position-Some is_wholly_free counts block 0 is in
      let here = found_marked block is in
      let same : least ≡ block =
      elim (cases_eq least block) [
        | inl equal ↦ equal
        | inr apart ↦
            elim (cases_lt block least) [
              | inl before ↦ absurd (omega (arith, here, first.first block before))
              | inr beyond ↦ absurd (omega (
                arith,
                marks.free least first.within,
                free_fails (get_or counts least 0) (at.2 least (omega (arith, apart, beyond))),
              ))
            ]
      ] in
      ap (λ (b : ℕ). Some b) same

  -- the least of the set is the first block that is wholly free
  pub first_free : (least : Option ℕ) → IfSome least (IsLeastIn words) → IfNone least ((block : ℕ) → bit_of words block ≡ 0)
      → least ≡ position is_wholly_free counts
  first_free None some none = none_found (position is_wholly_free counts) refl none
  first_free (Some least) some none = some_found least (position is_wholly_free counts) refl some
