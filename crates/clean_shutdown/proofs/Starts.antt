-- A start by what was saved: what each step says of its part, said of the part before.
use Rattle.std.proofs.Common.{◌≡◌, ℕ, ◌-◌, Option, Some, None, Result, Ok, Err, refl, ap, sym, ◌∙◌, subst}
use Rattle.std.specs.Prelude.{IfErr, List}
use Rattle.std.proofs.lemmas.Option.{same_Some}
use Rattle.slot_types.specs.declared.plans.DiePlan.{DiePlan}
use Rattle.slot_types.specs.declared.plans.Shape.{Shape}
use Rattle.die_checkpoint.specs.declared.checkpoint.Checkpoint.{Checkpoint}
use Rattle.die_checkpoint.specs.declared.fault.CheckpointFault.{CheckpointFault}
use Rattle.die_checkpoint.specs.declared.fault.CheckpointFault.TheVariants as faults
use Rattle.die_checkpoint.specs.Faults.{HasCheckpointFault}
use Rattle.die_checkpoint.specs.Fits.{Fits}
use Rattle.die_checkpoint.proofs.Excluding.{fault_breaks}
use Rattle.flash_die.specs.Flash.{Block, free_block}
use Rattle.power_loss.specs.Aside.{die_labels, without_aside}
use Rattle.power_loss.specs.Labels.{Labels, Shown}
use Rattle.slot_core.specs.Core.{Core}
use Rattle.slot_core.specs.Resumptions.{resumed_start}
use Rattle.labelled_die.specs.Beside.{Beside, beside_of}
use Rattle.saving_nand.specs.Saving.{closed_labels, numbered}
use Rattle.saving_nand.specs.declared.saved.Saved.{Saved}
use Rattle.device_mount.proofs.Ended.{born}
use Rattle.clean_shutdown.specs.Starting.{BeginsByMount, GoesOn, GoesOnFrom, RefusesStart, beside_one, shown_of}
use Rattle.clean_shutdown.specs.declared.refusals.NotStarted.{NotStarted}
use Rattle.clean_shutdown.specs.declared.refusals.StartRefusal.{StartRefusal}
use Rattle.clean_shutdown.specs.declared.refusals.StartRefusal.TheVariants as starts

pub no_fit : (plan : DiePlan) (c : Checkpoint) (fault : CheckpointFault) → HasCheckpointFault plan c fault → (fault ≡ faults.NoMemory → ⊥) → Fits plan c → ⊥
no_fit = fault_breaks

pub both_err : {A B : Type 0} {P Q R : B → Type 0} (r : Result A B) → ((e : B) → P e → Q e → R e) → IfErr r P → IfErr r Q → IfErr r R
both_err (Ok x) f p q = p
both_err (Err e) f p q = f e p q

module _ {N : Type 0} (saved_of : N → Option Saved) (labels_of : N → Labels) (blocks_of : N → List Block) (plan : DiePlan) where
  -- the die that is resumed beside the block aside
  pub goes_so : (shape : Shape) (part : N) (s : Saved) → saved_of part ≡ None → beside_one shape ≡ plan.shape
      → GoesOn saved_of labels_of plan (blocks_of part) (labels_of part) s (born blocks_of plan s.checkpoint (beside_of shape part s.aside))
  goes_so shape part s void is =
      let last : shape.blocks - 1 ≡ plan.shape.blocks = ap (λ (x : Shape). x.blocks) is in
      record {
        void = void;
        aside = refl;
        start = ap (λ (n : ℕ). resumed_start plan s.checkpoint (without_aside n s.aside free_block (blocks_of part))) last;
        labels_are = ap (λ (n : ℕ). die_labels n s.aside (labels_of part)) last;
      }

  -- what is said of the part from which it was taken
  pub goes_again : (core : Core (Beside N)) (shape then : Shape) (blocks after : List Block) (labels next : Labels) (had : Option Saved) (found s : Saved)
      → then ≡ shape → after ≡ blocks → next ≡ numbered (Some found) labels → Some found ≡ had → had ≡ Some s
      → (GoesOnFrom plan then (Some found) → GoesOn saved_of labels_of plan after next found core) → GoesOnFrom plan shape had
      → GoesOn saved_of labels_of plan blocks (numbered had labels) s core
  goes_again core shape then blocks after labels next had found s sh bl lb is has goes from =
      let g : GoesOn saved_of labels_of plan after next found core =
      goes (subst (GoesOnFrom plan then) (sym is) (subst (λ (x : Shape). GoesOnFrom plan x had) (sym sh) from)) in
      subst (λ (x : Saved). GoesOn saved_of labels_of plan blocks (numbered had labels) x core) (same_Some found s (is ∙ has))
      (subst (λ (l : Labels). GoesOn saved_of labels_of plan blocks l found core) (lb ∙ ap (λ (o : Option Saved). numbered o labels) is)
      (subst (λ (b : List Block). GoesOn saved_of labels_of plan b next found core) bl g))

  -- and of a die that was mounted
  pub begins_again : (core : Core (Beside N)) (shape then : Shape) (labels next : Shown) (had : Option Saved) (found : Saved)
      → then ≡ shape → next ≡ labels → Some found ≡ had
      → ((GoesOnFrom plan then (Some found) → ⊥) → BeginsByMount saved_of labels_of plan (closed_labels then.pages next) core)
      → (GoesOnFrom plan shape had → ⊥) → BeginsByMount saved_of labels_of plan (shown_of shape.pages had labels) core
  begins_again core shape then labels next had found sh ls is begins other =
      let b : BeginsByMount saved_of labels_of plan (closed_labels then.pages next) core =
      begins (λ goes. other (subst (GoesOnFrom plan shape) is (subst (λ (x : Shape). GoesOnFrom plan x (Some found)) sh goes))) in
      subst (λ (o : Option Saved). BeginsByMount saved_of labels_of plan (shown_of shape.pages o labels) core) is
      (subst (λ (l : Shown). BeginsByMount saved_of labels_of plan (closed_labels shape.pages l) core) ls
      (subst (λ (x : Shape). BeginsByMount saved_of labels_of plan (closed_labels x.pages next) core) sh b))

-- Refusals

-- a mount of a part of which each block counts as closed
pub closed_so : {A N : Type 0} (plan : DiePlan) (shape then : Shape) (shown seen : Shown) (failures : N → ℕ) (r : Result A (NotStarted N))
    → then ≡ shape → seen ≡ shown → IfErr r (λ no. RefusesStart plan then None seen 0 (failures no.part) no.refusal)
    → IfErr r (λ no. RefusesStart plan shape None shown 0 (failures no.part) no.refusal)
closed_so plan shape then shown seen failures r sh sn h =
    subst (λ (x : Shape). IfErr r (λ no. RefusesStart plan x None shown 0 (failures no.part) no.refusal)) sh
    (subst (λ (x : Shown). IfErr r (λ no. RefusesStart plan then None x 0 (failures no.part) no.refusal)) sn h)

-- a mount, where what was saved doesn't fit
pub refuses_other : (plan : DiePlan) (shape : Shape) (s : Saved) (shown : Shown) (after : ℕ) (why : StartRefusal)
    → (GoesOnFrom plan shape (Some s) → ⊥) → (why ≡ starts.NoMemory → ⊥)
    → RefusesStart plan shape None shown 0 after why → RefusesStart plan shape (Some s) shown 0 after why
refuses_other plan shape s shown after starts.NotTaken none known h = h
refuses_other plan shape s shown after starts.NoMemory none known h = absurd (known refl)
refuses_other plan shape s shown after (starts.NotMounted why) none known h = (none, h.1)

pub refuses_again : (plan : DiePlan) (shape then : Shape) (had : Option Saved) (found : Saved) (labels next : Shown) (before after : ℕ) (why : StartRefusal)
    → then ≡ shape → Some found ≡ had → next ≡ labels → before ≡ 0
    → RefusesStart plan then (Some found) (closed_labels then.pages next) 0 after why
    → RefusesStart plan shape had (shown_of shape.pages had labels) before after why
refuses_again plan shape then had found labels next before after why sh is ls zero h =
    subst (λ (n : ℕ). RefusesStart plan shape had (shown_of shape.pages had labels) n after why) (sym zero)
    (subst (λ (o : Option Saved). RefusesStart plan shape o (shown_of shape.pages o labels) 0 after why) is
    (subst (λ (l : Shown). RefusesStart plan shape (Some found) (closed_labels shape.pages l) 0 after why) ls
    (subst (λ (x : Shape). RefusesStart plan x (Some found) (closed_labels x.pages next) 0 after why) sh h)))
