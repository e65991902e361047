-- A part whose blocks were all erased, and one whose power has come.
use Rattle.std.proofs.Common.{◌≡◌, ℕ, Bool, true, false, List, length, get_or, refl, ap, sym, ◌∙◌, subst, arith}
use Rattle.slot_types.specs.declared.plans.Shape.{Shape}
use Rattle.spare_blocks.specs.declared.cells.BlockUse.{BlockUse}
use Rattle.spare_blocks.specs.declared.cells.BlockUse.TheVariants as use_as
use Rattle.spare_blocks.specs.Parts.{PartBlock, part_block}
use Rattle.spare_blocks.specs.Preparing.{IsPrepared, IsWholePart}
use Rattle.spare_blocks.specs.Powering.{IsPoweredPart, IsPoweredTable, AreNumbered, AreSeen, IsSeen, HasNumber, seen_at}
use Rattle.spare_blocks.specs.Tables.{Table, IsTable, IsSpare, use_of, on_part}
use Rattle.spare_blocks.specs.Trying.{IsUsedUp}
use Rattle.spare_blocks.proofs.Tabled.{powered_table}
use Rattle.slot_types.specs.Shapes.{IsShape}
use Rattle.stepped_spares.specs.Telling.{Told, IsScanOf, IsPoweredUp}
use Rattle.stepped_spares.specs.declared.moves.Stage.{Stage}
use Rattle.stepped_spares.specs.declared.moves.Stage.TheVariants as stage
use Rattle.stepped_spares.specs.Beginning.{IsBegun}
use Rattle.stepped_spares.specs.Erasing.{AreErased, BeginsErasing, HasErased}
use Rattle.stepped_spares.specs.Stepping.{Stepping, must_erase}
use Rattle.stepped_spares.proofs.Lefts.{erased_within}

must_be : (u : BlockUse) → (u ≡ use_as.Bad → ⊥) → must_erase true u ≡ true
must_be (use_as.InPlan b) other = refl
must_be use_as.Spare other = refl
must_be use_as.Bad other = absurd (other refl)

pub erases_all : (shape : Shape) (count : ℕ) (bad : List ℕ) (s : Stepping) (b : List PartBlock) → IsBegun shape count bad s → IsWholePart count b
    → BeginsErasing true s b
erases_all shape count bad s b begun whole = record {
  next = begun.next;
  whole = λ x must. whole x (omega (arith, erased_within true s.table x must, begun.uses));
}

pub erased_at : (all : Bool) (s : Stage) (first t : Table) (before after : List PartBlock) (f : Bool) → s ≡ stage.Working → HasErased s all first t before after f
    → AreErased all first t before after
erased_at all s first t before after f e is = (subst (λ (v : Stage). HasErased v all first t before after f) e is).0

pub all_prepared : (shape : Shape) (count : ℕ) (bad : List ℕ) (s u : Stepping) (before after : List PartBlock) (f : Bool) → IsBegun shape count bad s
    → HasErased u.stage true s.table u.table before after f → u.stage ≡ stage.Working
    → IsPrepared shape.blocks bad u.table after × (length u.table.blocks ≡ shape.blocks)
all_prepared shape count bad s u before after f begun is works =
    let r = erased_at true u.stage s.table u.table before after f works is in
    let same : length u.table.blocks ≡ shape.blocks = r.count ∙ begun.count in (
      record {
        few = omega (arith, same);
        free = λ x other. r.free x (must_be (use_of u.table x) other);
        known = λ x listed. r.bad x (begun.known x listed);
      },
      same,
    )

-- A part whose power has come

no-number : HasNumber use_as.Bad → ⊥
no-number (b, e) = cc

no-spare : HasNumber use_as.Spare → ⊥
no-spare (b, e) = cc

module _ (part : Shape) (told : Told) (s u : Stepping) (before after : List PartBlock) (up : IsPoweredPart part before) (scan : IsScanOf before told)
    (whole : length told.all ≡ told.blocks) (count : told.blocks ≡ part.blocks) (pages : told.shape.pages ≡ part.pages) (limits : IsShape told.shape)
    (begun : IsPoweredUp told s) (sound : IsTable u.table) (is : AreErased false s.table u.table before after) where
  used : IsUsedUp s.table u.table
  used = is.used refl

  -- a block with a number had it before
  had_number : (x : ℕ) → HasNumber (use_of u.table x) → HasNumber (use_of s.table x)
  had_number x (b, e) =
      let r = sound.listed x b e in
      let on : on_part s.table b ≡ x = sym (ap (λ (l : List ℕ). get_or l b 0) used.numbers) ∙ r.1 in
      (b, ap (use_of s.table) (sym on) ∙ begun.table.numbered b (omega (arith, r.0, is.count)))

  apart : (x : ℕ) → HasNumber (use_of s.table x) → IsSpare s.table x → ⊥
  apart x has spare = no-spare (subst HasNumber spare has)

  numbered : AreNumbered told.bad told.all u.table before after
  numbered = record {
    number = λ x has. is.others refl x (apart x (had_number x has));
    spare = λ x has. is.free x (ap (must_erase false) has);
    known = λ x listed. is.bad x (begun.numbered.known x listed);
    own = λ x lt off o. still x (begun.numbered.own x (omega (arith, lt, is.uses)) off o);
    once = λ x has c. begun.numbered.once x (had_number x has) c;
    groups = λ x lt. begun.numbered.groups x (omega (arith, lt, is.uses));
  }
    where
      still : (x : ℕ) → HasNumber (use_of s.table x) → HasNumber (use_of u.table x)
      still x has = subst HasNumber (sym (used.others x (apart x has))) has

  seen : AreSeen part before told.bad told.all
  seen = record {
    count = whole ∙ count;
    listed = scan.listed;
    seen = λ x lt off. subst (λ (n : ℕ). IsSeen (part_block before x) n (seen_at told.all x)) pages (scan.seen x (omega (arith, lt, whole, count)) off);
  }

  pub all_powered : IsPoweredTable told.shape told.bad u.table part before after
  all_powered = powered_table part told.shape told.bad told.all u.table before after up seen sound numbered (is.uses ∙ (begun.uses ∙ count)) limits
      (is.count ∙ begun.count)

-- spare blocks alone are erased, of which none is known to fail
pub erases_spares : (part : Shape) (told : Told) (s : Stepping) (b : List PartBlock) → IsPoweredUp told s → told.blocks ≡ part.blocks → IsPoweredPart part b
    → BeginsErasing false s b
erases_spares part told s b begun count up = record {
  next = begun.next;
  whole = λ x must. up.whole x (omega (arith, erased_within false s.table x must, begun.uses, count));
}
