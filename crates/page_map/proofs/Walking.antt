-- The entries of a block, one after the other.
use Rattle.std.proofs.Common.{◌≡◌, ℕ, ◌+◌, ◌-◌, ◌<◌, ◌≤◌, true, false, List, length, get_or, drop, count_by}
use Rattle.std.proofs.Common.{Option, Some, None, refl, sym, ap, ◌∙◌, arith, inl, inr}
use Rattle.std.specs.Prelude.{is_some, IsSome, position, slice_range}
use Rattle.std.proofs.lemmas.Bool.{cases_lt}
use Rattle.std.proofs.lemmas.List.{get_or-take, get_or-drop, get_or_past, length-take}
use Rattle.std.proofs.lemmas.List.Quantifiers.{position-Some}
use Rattle.slot_types.specs.declared.pages.Place.{Place}
use Rattle.slot_types.specs.Places.{is_in, owner_of}
use Rattle.page_map.proofs.Owners.{no_owner, within, fails_where_none}
use Rattle.page_map.proofs.Moving.{one_less}

-- in a block of which no page is counted, none lies
pub empty_block : (places : List (Option Place)) (block page : ℕ) → count_by (is_in block) places ≡ 0
    → owner_of places (record { block = block; page = page }) ≡ None
empty_block places block page none =
    let place : Place = record { block = block; page = page } in
    no_owner places place (λ i lies. omega (arith, one_less places i place (within places i place lies) lies, none))

is_none : (o : Option ℕ) → is_some o ≡ false → o ≡ None
is_none None is = refl
is_none (Some n) is = absurd (cc)

is_one : (o : Option ℕ) → is_some o ≡ true → IsSome o
is_one None is = absurd (cc)
is_one (Some n) is = refl

in_range_at : (words : List (Option ℕ)) (first finish at : ℕ) → first ≤ at → at < finish
    → get_or (slice_range words first finish) (at - first) None ≡ get_or words at None
in_range_at words first finish at from_on below =
    let same : first + (at - first) ≡ at = omega (arith, from_on) in
    get_or-take (finish - first) (drop first words) (at - first) None (omega (arith, from_on, below))
    ∙ get_or-drop first words (at - first) None ∙ ap (λ (n : ℕ). get_or words n None) same

-- where none of the words from `first` on is a number
pub none_at : (words : List (Option ℕ)) (first finish at : ℕ) → position is_some (slice_range words first finish) ≡ None → first ≤ at
    → (finish ≤ at → length words ≤ at) → get_or words at None ≡ None
none_at words first finish at none from_on ends =
    elim (cases_lt at finish) [
      | inl below ↦
          let here = in_range_at words first finish at from_on below in
          elim (cases_lt (at - first) (length (slice_range words first finish))) [
            | inl inside ↦ sym here ∙ is_none (get_or (slice_range words first finish) (at - first) None)
                (fails_where_none is_some (slice_range words first finish) (at - first) None none inside)
            | inr past ↦ sym here ∙ get_or_past (slice_range words first finish) (at - first) None past
          ]
      | inr past ↦ get_or_past words at None (ends past)
    ]

-- the first of these words that is a number
pub record IsFirstAt (words : List (Option ℕ)) (first finish beyond : ℕ) : Type 0 where
  pub below : first + beyond < finish
  pub owned : IsSome (get_or words (first + beyond) None)
  pub before : (at : ℕ) → first ≤ at → at < first + beyond → get_or words at None ≡ None

pub first_at : (words : List (Option ℕ)) (first finish beyond : ℕ) → position is_some (slice_range words first finish) ≡ Some beyond
    → IsFirstAt words first finish beyond
first_at words first finish beyond is =
    let found = position-Some is_some (slice_range words first finish) beyond None is in
    let below : first + beyond < finish = omega (arith, found.0, length-take (finish - first) (drop first words)) in
    let back : first + beyond - first ≡ beyond = omega arith in
    record {
      below = below;
      owned = is_one (get_or words (first + beyond) None)
          (ap is_some (sym (in_range_at words first finish (first + beyond) (omega arith) below)
          ∙ ap (λ (n : ℕ). get_or (slice_range words first finish) n None) back) ∙ found.1);
      before = λ at from_on less. sym (in_range_at words first finish at from_on (omega (arith, below, less)))
          ∙ is_none (get_or (slice_range words first finish) (at - first) None) (found.2 (at - first) (omega (arith, from_on, less)));
    }
