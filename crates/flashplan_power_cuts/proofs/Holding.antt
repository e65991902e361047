-- What a page of a die holds, by where it lies, and what it isn't.
use Rattle.std.proofs.Common.{◌≡◌, ◌↔◌, ℕ, Bool, true, false, List, Option, None, sym, ap, ◌∙◌, inl, inr, length, subst}
use Rattle.std.specs.Prelude.{slice_index_or, ◌≤◌}
use Rattle.std.proofs.lemmas.Bool.{cases_lt}
use Rattle.std.proofs.lemmas.List.{length-map, get_or-map, get_or_past}
use Rattle.slot_types.specs.Places.{place_of}
use Rattle.slot_types.specs.declared.pages.Place.{Place}
use Rattle.flash_die.specs.Flash.{Block, blank}
use Rattle.flash_volume.specs.Cells.{content_at, contents}

-- a page holds what its cell does; one that lies nowhere is blank
pub held_at : (blocks : List Block) (places : List (Option Place)) (page : ℕ) (o : Option Place) → place_of places page ≡ o
    → slice_index_or (contents blocks places) page blank ≡ content_at blocks o
held_at blocks places page o lies = elim (cases_lt page (length places)) [
  | inl below ↦ get_or-map (content_at blocks) places page None blank below ∙ ap (content_at blocks) lies
  | inr past ↦
      get_or_past (contents blocks places) page blank (subst (λ n. n ≤ page) (sym (length-map places (content_at blocks))) past)
      ∙ ap (content_at blocks) (sym (get_or_past places page None past) ∙ lies)
]

-- what a test denies doesn't hold
pub denied : {P : Type 0} (is : Bool) → ((is ≡ true) ↔ P) → is ≡ false → P → ⊥
denied is same fails p = let holds : is ≡ true = same.1 p in absurd cc
