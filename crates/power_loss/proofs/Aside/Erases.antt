-- A log may start whatever the counts of erases are.
use Rattle.std.proofs.Common.{◌≡◌, ℕ, suc, ◌==◌, ◌-◌, cond, List, [], ◌∷◌, length, Option, Some, None, refl, ap, sym}
use Rattle.std.proofs.Common.{◌∙◌, subst, inr, arith, get_or}
use Rattle.std.specs.Prelude.{option_map, sum_by}
use Rattle.std.proofs.lemmas.List.Sums.{sum_by-cons}
use Rattle.slot_types.specs.Places.{place_of}
use Rattle.slot_types.specs.declared.plans.DiePlan.{DiePlan}
use Rattle.slot_types.specs.declared.pages.Place.{Place}
use Rattle.die_log.specs.Invariants.TrueAccounts.{AccountsAgree}
use Rattle.die_log.specs.Model.Flash.{Block, Cells, free_block, free_in}
use Rattle.die_log.specs.Model.Opening.{IsOpening}
use Rattle.die_log.specs.Model.Start.{Start}
use Rattle.power_loss.specs.Aside.{renumbered, with_cells, AgreeButErases, AreUntrimmed}
use Rattle.power_loss.specs.Labels.{Labels, Shown, IsLabelled}
use Rattle.power_loss.specs.Recovery.{IsRecoverable}
use Rattle.power_loss.proofs.Aside.Renumbering.{AreRenumbered, renumbered_recoverable}

-- Free pages

free_by : (plan : DiePlan) (s t : Block) → s.filled ≡ t.filled → s.erasing ≡ t.erasing → free_in plan s ≡ free_in plan t
free_by plan s t f e =
    ap (λ n. cond (n == 0) (plan.shape.pages - s.filled) 0) e ∙ ap (λ n. cond (t.erasing == 0) (plan.shape.pages - n) 0) f

frees_alike : (plan : DiePlan) (xs ys : List Block) → length ys ≡ length xs
    → ((b : ℕ) → (get_or ys b free_block).filled ≡ (get_or xs b free_block).filled)
    → ((b : ℕ) → (get_or ys b free_block).erasing ≡ (get_or xs b free_block).erasing)
    → sum_by (free_in plan) ys ≡ sum_by (free_in plan) xs
frees_alike plan [] [] e f g = refl
frees_alike plan [] (y ∷ ys) e f g = absurd (omega (arith, e))
frees_alike plan (x ∷ xs) [] e f g = absurd (omega (arith, e))
frees_alike plan (x ∷ xs) (y ∷ ys) e f g =
    omega (
      arith,
      sum_by-cons (free_in plan) x xs,
      sum_by-cons (free_in plan) y ys,
      free_by plan y x (f 0) (g 0),
      frees_alike plan xs ys (omega (arith, e)) (λ b. f (suc b)) (λ b. g (suc b)),
    )

-- Openings

same_place_of : (o : Option Place) → o ≡ option_map (renumbered (λ b. b)) o
same_place_of None = refl
same_place_of (Some q) = refl

agree : (c d : Cells) (blocks : Shown) → AgreeButErases c d → AreRenumbered (λ b. b) (λ b. b) c d blocks blocks
agree c d blocks a = record {
  here = λ b. inr (record { filled = a.filled b; erasing = a.erasing b; labels = refl; back_again = refl });
  there = λ b. inr (record { filled = a.filled b; erasing = a.erasing b; labels = refl; back_again = refl });
  places = λ page. ap (λ (places : List (Option Place)). place_of places page) a.places ∙ same_place_of (place_of c.places page);
}

pub any_erases : (start : Start) (first : Labels) → IsOpening start → IsLabelled start first → AreUntrimmed start.cells first.blocks → (d : Cells)
    → AgreeButErases start.cells d → IsOpening (with_cells d start) × IsLabelled (with_cells d start) first × AreUntrimmed d first.blocks
any_erases start first opens labelled untrimmed d a =
    let plan = start.plan in
    let c : Cells = start.cells in
    let h : IsRecoverable plan c start.contents first (λ page. 0) = record {
      sound = opens.sound;
      labelled = labelled.labelled;
      bytes = labelled.bytes;
      counts = untrimmed;
      below = λ page. omega arith;
      contents = opens.pages;
      blank = opens.blank;
    } in
    let k : IsRecoverable plan d start.contents first (λ page. 0) = renumbered_recoverable plan plan (λ b. b) (λ b. b) c d start.contents first first (λ page. 0)
    (refl, refl, refl) (agree c d first.blocks a) refl (a.blocks ∙ opens.sound.blocks) (labelled.labelled.blocks ∙ sym a.blocks)
    (ap (λ (places : List (Option Place)). length places) a.places) h in (
      record {
        bound = opens.bound;
        sound = k.sound;
        idle = λ b. a.erasing b ∙ opens.idle b;
        agree = subst (AccountsAgree plan start.accounts (λ task. 0) (λ task. 0) 0) (sym (frees_alike plan c.blocks d.blocks a.blocks a.filled a.erasing))
            opens.agree;
        pages = opens.pages;
        blank = k.blank;
      },
      record { labelled = k.labelled; bytes = k.bytes },
      k.counts,
    )
