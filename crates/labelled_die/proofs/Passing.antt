-- A call that is passed on to the part, on a device beside a block.
use Rattle.std.proofs.Common.{◌≡◌, ℕ, ◌+◌, ◌≤◌, Bool, true, false, List, length, Result, Ok, Err, refl, ap, sym, ◌∙◌, subst, arith}
use Rattle.std.specs.Prelude.{OnOk, is_err, is_ok}
use Rattle.std.proofs.lemmas.Bool.{true≢false}
use Rattle.slot_types.specs.declared.plans.Shape.{Shape}
use Rattle.slot_types.specs.declared.refusals.Refusal.{Refusal}
use Rattle.flash_die.specs.Flash.{Block}
use Rattle.flash_die.specs.declared.nand.NandCall.{NandCall}
use Rattle.labelled_nand.specs.Calls.{labels_after_call}
use Rattle.power_loss.specs.Aside.{die_labels}
use Rattle.power_loss.specs.Labels.{Labels}
use Rattle.labelled_die.specs.Beside.{Beside, EndsBeside, IsPartBeside, IsSoundBeside, blocks_beside, call_on_part, labels_beside}
use Rattle.labelled_die.proofs.Besides.{IsBelow, labels_follow}

-- Where no call has failed yet

pub record Ready {N : Type 0} (shape_of : N → Shape) (blocks : N → List Block) (labels : N → Labels) (d : Beside N) : Type 0 where
  pub le : d.aside ≤ d.shape.blocks
  pub long : length (blocks d.part) ≡ d.shape.blocks + 1
  pub labelled : length (labels d.part).blocks ≡ d.shape.blocks + 1
  pub pages : (shape_of d.part).pages ≡ d.shape.pages
  pub slots : (shape_of d.part).erase_slots ≡ d.shape.erase_slots

-- Answers

pub on_ok : {A P Q : Type 0} (r : Result A Refusal) → (P → Q) → OnOk r P → OnOk r Q
on_ok (Ok x) f h = f h
on_ok (Err e) f h = h

pub of_ok : {A P : Type 0} (r : Result A Refusal) → is_err r ≡ false → OnOk r P → P
of_ok (Ok x) well h = h
of_ok (Err e) well h = absurd (true≢false well)

module _ {N : Type 0} (ends : N → NandCall → Bool → N → Type 0) (never : Bool) (shape_of : N → Shape) (blocks : N → List Block) (labels : N → Labels)
    (failures : N → ℕ) (follows : (before after : N) (call : NandCall) → ends before call true after
    → labels after ≡ labels_after_call (shape_of before).erase_slots (blocks before) call (labels before)) where
  pub ready : (d : Beside N) → IsSoundBeside never shape_of blocks labels failures d → d.failed ≡ false → Ready shape_of blocks labels d
  ready d s f =
      let p = s.part f in
      let e : (shape_of d.part).blocks ≡ d.shape.blocks + 1 = ap (λ (x : Shape). x.blocks) s.shape_is in
      record {
        le = omega (arith, p.has, e);
        long = p.count ∙ e;
        labelled = p.labelled ∙ e;
        pages = ap (λ (x : Shape). x.pages) s.shape_is;
        slots = ap (λ (x : Shape). x.erase_slots) s.shape_is;
      }

  -- where no call has failed the part is one of which the block stands aside
  pub stands : (d : Beside N) → IsSoundBeside never shape_of blocks labels failures d → failures d.part ≡ 0
      → IsPartBeside (shape_of d.part) (blocks d.part) (labels d.part) d.aside
  stands d s well = by_flag d.failed refl
    where
      by_flag : (t : Bool) → d.failed ≡ t → IsPartBeside (shape_of d.part) (blocks d.part) (labels d.part) d.aside
      by_flag false e = s.part e
      by_flag true e = absurd (omega (arith, s.counted e, well))

  -- the labels after a call that ended well
  pub labels_pass : (d : Beside N) (call : NandCall) (part : N) → IsSoundBeside never shape_of blocks labels failures d → d.failed ≡ false
      → IsBelow d.shape.blocks call → ends d.part (call_on_part d.shape.blocks d.aside call) true part
      → die_labels d.shape.blocks d.aside (labels part)
      ≡ labels_after_call d.shape.erase_slots (blocks_beside blocks d) call (labels_beside labels d)
  labels_pass d call part s f below made =
      let k = ready d s f in
      ap (λ (l : Labels). die_labels d.shape.blocks d.aside l) (follows d.part part (call_on_part d.shape.blocks d.aside call) made)
      ∙ (ap (λ (n : ℕ). die_labels d.shape.blocks d.aside
      (labels_after_call n (blocks d.part) (call_on_part d.shape.blocks d.aside call) (labels d.part))) k.slots
      ∙ labels_follow d.shape.blocks d.aside k.le d.shape.erase_slots (blocks d.part) call (labels d.part) k.long k.labelled below)

  pub passes : {A : Type 0} (d : Beside N) (call : NandCall) (r : Result A Refusal) (failed : Bool) (part : N)
      → IsSoundBeside never shape_of blocks labels failures d → d.failed ≡ false → IsBelow d.shape.blocks call
      → ends d.part (call_on_part d.shape.blocks d.aside call) (is_ok r) part
      → EndsBeside ends blocks labels d call (is_ok r) (record d { part = part; failed = failed })
  passes d call r failed part s f below made = record {
    shape = refl;
    aside = refl;
    refused = λ g. absurd (true≢false (sym g ∙ f));
    passed = λ _. made;
    labelled = λ well. labels_pass d call part s f below
        (subst (λ (w : Bool). ends d.part (call_on_part d.shape.blocks d.aside call) w part) well made);
  }
