-- The tables of a map in which no page lies anywhere.
use Rattle.std.proofs.Common.{◌≡◌, ℕ, zero, suc, ◌<◌, ◌*◌, ◌^◌, List, count_by, Option, None, refl, sym, ◌∙◌, arith, inl, inr}
use Rattle.std.specs.Prelude.{replicate}
use Rattle.std.proofs.lemmas.Bool.{cases_lt}
use Rattle.std.proofs.lemmas.List.{get_or-replicate, length-replicate, get_or_past}
use Rattle.slot_types.specs.declared.pages.Place.{Place}
use Rattle.slot_types.specs.declared.plans.Shape.{Shape}
use Rattle.slot_types.specs.Places.{is_in, place_of}
use Rattle.page_map.specs.Placing.{cell_index}
use Rattle.page_map.specs.Tables.{AreTables}
use Rattle.page_map.proofs.Owners.{no_owner}
use Rattle.page_map.proofs.Moving.{in_table}

abbrev pub nowhere : ℕ → List (Option Place)
nowhere logical = replicate logical None

pub lies_nowhere : (logical page : ℕ) → place_of (nowhere logical) page ≡ None
lies_nowhere logical page =
    elim (cases_lt page logical) [
      | inl below ↦ get_or-replicate logical page None None below
      | inr past ↦ get_or_past (nowhere logical) page None (omega (arith, past, length-replicate {A = Option Place} logical None))
    ]

none_here : (logical block : ℕ) → count_by (is_in block) (nowhere logical) ≡ 0
none_here zero block = refl
none_here (suc logical) block = omega (arith, none_here logical block)

pub tables_blank : (shape : Shape) (logical : ℕ) → logical < 2 ^ 32
    → AreTables shape (replicate logical None) (replicate (shape.blocks * shape.pages) None) (replicate shape.blocks 0)
tables_blank shape logical few = record {
  few = rw (length-replicate {A = Option Place} logical None) few;
  apart = record { apart = λ i j place at_i at_j. let none : place_of (nowhere logical) i ≡ None = lies_nowhere logical i in absurd (cc) };
  within = λ page place lies. let none : place_of (nowhere logical) page ≡ None = lies_nowhere logical page in absurd (cc);
  owners_len = length-replicate (shape.blocks * shape.pages) None;
  owners_are = λ place cell. get_or-replicate (shape.blocks * shape.pages) (cell_index shape place) None None (in_table shape place cell)
      ∙ sym (no_owner (nowhere logical) place (λ page lies. let none : place_of (nowhere logical) page
      ≡ None = lies_nowhere logical page in absurd (cc)));
  valid_len = length-replicate shape.blocks 0;
  valid_are = λ block below. get_or-replicate shape.blocks block 0 0 below ∙ sym (none_here logical block);
}
