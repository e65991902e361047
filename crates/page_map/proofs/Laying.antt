-- A map as far as the first of given places are bound.
use Rattle.std.proofs.Common.{◌≡◌, ℕ, ◌+◌, ◌<◌, ◌≤◌, List, length, Option, Some, None, refl, sym, ◌∙◌, ap, arith, inl, inr}
use Rattle.std.specs.Prelude.{is_some, false}
use Rattle.std.proofs.Math.ListN.{set}
use Rattle.std.proofs.lemmas.Bool.{cases_eq}
use Rattle.std.proofs.lemmas.List.{length-set, get_or-set_other, get_or-set_same, ext_get_or}
use Rattle.slot_types.specs.declared.pages.Place.{Place}
use Rattle.slot_types.specs.Places.{place_of, owner_of}
use Rattle.page_map.specs.Placing.{HaveOwnCells}
use Rattle.page_map.proofs.Moving.{apart_with}

-- the first pages lie where they are given, no two in one cell, and the others nowhere
pub record IsLaid (given places : List (Option Place)) (page : ℕ) : Type 0 where
  pub len : length places ≡ length given
  pub below : (k : ℕ) → k < page → place_of places k ≡ place_of given k
  pub above : (k : ℕ) → page ≤ k → place_of places k ≡ None
  pub apart : HaveOwnCells places

pub none_else : {X : Type 0} (o : Option X) → ((x : X) → o ≡ Some x → ⊥) → o ≡ None
none_else None h = refl
none_else (Some x) h = absurd (h x refl)

pub none_where : {X : Type 0} (o : Option X) → is_some o ≡ false → o ≡ None
none_where None h = refl
none_where (Some x) h = absurd cc

-- a page that is given no place stays so
pub laid_none : (given places : List (Option Place)) (page : ℕ) → IsLaid given places page → place_of given page ≡ None
    → IsLaid given places (page + 1)
laid_none given places page so none = record {
  len = so.len;
  below = λ k below. elim (cases_eq k page) [
    | inl same ↦ ap (λ (j : ℕ). place_of places j) same ∙ so.above page (omega arith) ∙ sym none
        ∙ ap (λ (j : ℕ). place_of given j) (sym same)
    | inr other ↦ so.below k (omega arith)
  ];
  above = λ k above. so.above k (omega arith);
  apart = so.apart;
}

-- one that is given a free cell is bound to it
pub laid_some : (given places : List (Option Place)) (page : ℕ) (place : Place) → IsLaid given places page → page < length given
    → place_of given page ≡ Some place → owner_of places place ≡ None → IsLaid given (set places page (Some place)) (page + 1)
laid_some given places page place so inside lies free =
    let fits : page < length places = omega (arith, so.len) in
    record {
      len = length-set places page (Some place) ∙ so.len;
      below = λ k below. elim (cases_eq k page) [
        | inl same ↦ ap (λ (j : ℕ). place_of (set places page (Some place)) j) same
            ∙ get_or-set_same places page (Some place) None fits ∙ sym lies ∙ ap (λ (j : ℕ). place_of given j) (sym same)
        | inr other ↦ get_or-set_other places page k (Some place) None other ∙ so.below k (omega arith)
      ];
      above = λ k above. get_or-set_other places page k (Some place) None (λ same. omega (arith, same)) ∙ so.above k (omega arith);
      apart = apart_with places page place so.apart fits free;
    }

-- all of them
pub laid_all : (given places : List (Option Place)) (page : ℕ) → IsLaid given places page → length given ≤ page → places ≡ given
laid_all given places page so all = ext_get_or None places given so.len (λ i inside. so.below i (omega (arith, inside, so.len)))

pub laid_apart : (given places : List (Option Place)) (page : ℕ) → IsLaid given places page → length given ≤ page → HaveOwnCells given
laid_apart given places page so all = rw (← laid_all given places page so all) so.apart
