-- A fresh die has no labels, and a renewed one goes on with those that it has.
use Rattle.std.proofs.Common.{◌≡◌, ℕ, zero, suc, List, [], length, Option, Some, None, refl, ap, sym, ◌∙◌, replicate}
use Rattle.std.proofs.Common.{get_or}
use Rattle.std.proofs.lemmas.List.{length-replicate}
use Rattle.std.proofs.lemmas.Option.{none-some}
use Rattle.slot_types.specs.Places.{place_of}
use Rattle.slot_types.specs.declared.plans.DiePlan.{DiePlan}
use Rattle.slot_types.specs.declared.pages.Place.{Place}
use Rattle.die_log.specs.Model.Log.{Log}
use Rattle.die_log.specs.Model.Flash.{Block}
use Rattle.die_log.specs.Model.Start.{Start, fresh, free_block}
use Rattle.die_log.specs.Model.Opening.{IsOpening, renewed_start}
use Rattle.die_log.specs.Model.Answers.{IsExact}
use Rattle.power_loss.specs.Labels.{Label, Labels, labels_in, label_at, labels, fresh_labels, IsLabelled}
use Rattle.power_loss.proofs.Exact.{stands_labelled}

none_in : (n b : ℕ) → labels_in (replicate n []) b ≡ []
none_in zero b = refl
none_in (suc n) zero = refl
none_in (suc n) (suc b) = none_in n b

pub none_at : (n : ℕ) (q : Place) (x : Label) → label_at (replicate n []) q ≡ Some x → ⊥
none_at n q x e = none-some x (sym (ap (λ (xs : List (Option Label)). get_or xs q.page None) (none_in n q.block)) ∙ e)

unfilled : (n b : ℕ) → (get_or (replicate n free_block) b free_block).filled ≡ 0
unfilled zero b = refl
unfilled (suc n) zero = refl
unfilled (suc n) (suc b) = unfilled n b

abbrev nowhere : Option Place
nowhere = None

unplaced : (n p : ℕ) → place_of (replicate n nowhere) p ≡ None
unplaced zero p = refl
unplaced (suc n) zero = refl
unplaced (suc n) (suc p) = unplaced n p

pub fresh_labelled : (plan : DiePlan) → IsLabelled (fresh plan) (fresh_labels plan)
fresh_labelled plan = record {
  labelled = record {
    fit = record {
      cells = λ q x e. absurd (none_at plan.shape.blocks q x e);
      pages = λ q x e. absurd (none_at plan.shape.blocks q x e);
      apart = λ q r x y e f. absurd (none_at plan.shape.blocks q x e);
    };
    blocks = length-replicate {A = List (Option Label)} plan.shape.blocks [] ∙ sym (length-replicate {A = Block} plan.shape.blocks free_block);
    filled = λ b room. ap length (none_in plan.shape.blocks b) ∙ sym (unfilled plan.shape.blocks b);
    below = λ q x e. absurd (none_at plan.shape.blocks q x e);
    newest = λ p q e. absurd (none-some q (sym (unplaced plan.logical p) ∙ e));
  };
  bytes = λ p q x e f. absurd (none_at plan.shape.blocks q x f);
}

pub renewed_labelled : (start : Start) (first : Labels) → IsOpening start → IsLabelled start first → (log : Log) → IsExact start log
    → IsLabelled (renewed_start start log) (labels start first log)
renewed_labelled start first bound h log exact =
    let s = stands_labelled start first bound h log exact in
    record { labelled = s.labelled; bytes = s.bytes }
