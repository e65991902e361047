-- What was reported to a mount stands, as blocks are reported and calls are made.
use Rattle.std.proofs.Common.{◌≡◌, ◌≢◌, ℕ, ◌+◌, ◌++◌, ◌<◌, false, List, [], ◌∷◌, length, take, Option, Some, None, Result, Ok, Err, refl, sym, ap, subst, ◌∙◌, arith}
use Rattle.std.specs.Prelude.{IfErr, IfOk, OnOk, is_some}
use Rattle.std.proofs.lemmas.Bool.{true≢false}
use Rattle.std.proofs.lemmas.Option.{none-some}
use Rattle.std.proofs.lemmas.List.{get_or-set_other, get_or-set_same, length-set, length_push, take_all, take_more}
use Rattle.slot_types.specs.declared.pages.PageData.{PageData}
use Rattle.slot_types.specs.declared.plans.DiePlan.{DiePlan}
use Rattle.slot_types.specs.declared.plans.Shape.{Shape}
use Rattle.power_loss.specs.Aside.{part_of}
use Rattle.power_loss.specs.Labels.{FitPlan, Label, Shown, labels_in}
use Rattle.power_loss.specs.Mounted.{all_count}
use Rattle.power_loss.specs.Recovery.{MayErase, without_block}
use Rattle.die_mount.specs.declared.begin_fault.BeginFault.{BeginFault}
use Rattle.die_mount.specs.declared.label.Label.{Label as Told}
use Rattle.die_mount.specs.declared.mounted.Mounted.{Mounted}
use Rattle.die_mount.specs.declared.stage.Stage.{Stage}
use Rattle.die_mount.specs.declared.stage.Stage.TheVariants as stage
use Rattle.die_mount.specs.Ending.{IsEndOf}
use Rattle.die_mount.specs.Faults.{IsNextBlock}
use Rattle.die_mount.specs.Mounting.{BeginsWith, IsStep, Mounting, acts_after, call_at, calls_left}
use Rattle.die_mount.specs.Scanned.{IsScanOf, Scanned}
use Rattle.die_mount.specs.Told.{told_cells}
use Rattle.stepped_die.specs.Names.{GoesOn}
use Rattle.stepped_die.specs.Stepped.{Stepped}
use Rattle.flash_c.specs.declared.recoveries.Recovery.{Recovery}
use Rattle.flash_c.specs.declared.recoveries.Recovery.TheVariants as recovery
use Rattle.flash_c.specs.Mounts.{BeginsAt, GoesBySeen, HasCalled, HasSeen, HasTold, IsFirstScan, TellsAgain, calls_left_of}

-- Told again

-- what a block shows once one is left out
pub undone : (seen : Shown) (block n : ℕ) → n ≡ block → n < length seen → labels_in (without_block block seen) n ≡ []
undone seen block n is below = ap (labels_in (without_block block seen)) is
    ∙ get_or-set_same seen block [] [] (omega (arith, is, below))

pub kept : (seen : Shown) (block n : ℕ) → n ≢ block → labels_in (without_block block seen) n ≡ labels_in seen n
kept seen block n other = get_or-set_other seen block n [] [] other

-- a block more
pub again_more : (plan : DiePlan) (old new : Scanned) (seen : Shown) (block : ℕ) (shown : List (Option Label)) → old.told < length seen
    → IsScanOf plan old (take old.told (without_block block seen))
    → IsScanOf plan new (take old.told (without_block block seen) ++ shown ∷ []) → labels_in (without_block block seen) old.told ≡ shown
    → IsScanOf plan new (take new.told (without_block block seen))
again_more plan old new seen block shown below before after is =
    let xs = without_block block seen in
    let one : new.told ≡ old.told + 1 = sym after.told ∙ (length_push (take old.told xs) shown ∙ ap (λ (n : ℕ). n + 1) before.told) in
    let all : take new.told xs ≡ take old.told xs ++ shown ∷ [] = ap (λ (n : ℕ). take n xs) one
    ∙ (take_more xs old.told [] (omega (arith, below, length-set seen block []))
    ∙ ap (λ (s : List (Option Label)). take old.told xs ++ s ∷ []) is) in
    subst (IsScanOf plan new) (sym all) after

-- all blocks were reported before
pub all_seen : (plan : DiePlan) (before again : Scanned) (seen : Shown) → IsScanOf plan before seen → before.told ≡ before.shape.blocks
    → again.shape ≡ plan.shape → again.told < again.shape.blocks → again.told < length seen
all_seen plan before again seen s whole shape more =
    omega (arith, more, s.told, whole, ap (λ (x : Shape). x.blocks) s.shape, ap (λ (x : Shape). x.blocks) shape)

-- and again
pub all_again : (plan : DiePlan) (before again : Scanned) (seen : Shown) (block : ℕ) → IsScanOf plan before seen → before.told ≡ before.shape.blocks
    → again.told ≡ again.shape.blocks → IsScanOf plan again (take again.told (without_block block seen)) → IsScanOf plan again (without_block block seen)
all_again plan before again seen block s whole done h =
    let xs = without_block block seen in
    subst (IsScanOf plan again) (take_all again.told xs (omega (
      arith,
      length-set seen block [],
      s.told,
      whole,
      done,
      ap (λ (x : Shape). x.blocks) s.shape,
      ap (λ (x : Shape). x.blocks) h.shape,
    ))) h

-- nothing was reported again yet
pub none_again : (plan : DiePlan) (again : Scanned) (seen : Shown) (block : ℕ) → IsScanOf plan again []
    → IsScanOf plan again (take again.told (without_block block seen))
none_again plan again seen block h =
    subst (λ (n : ℕ). IsScanOf plan again (take n (without_block block seen))) h.told h

-- The calls

pub goes_by : (own plan : DiePlan) (seen : Shown) (m : Mounting) → own ≡ plan → BeginsWith own seen m → GoesBySeen plan seen m
goes_by own plan seen m is b = subst (λ (p : DiePlan). GoesBySeen p seen m) is (record {
  erased = b.erased;
  next = b.next;
  acts = [];
  plan_is = b.plan_is;
  may = b.may;
  above = b.above;
  is = b.is;
})

pub goes_on : (plan : DiePlan) (seen : Shown) (old new : Mounting) → IsStep old new → GoesBySeen plan seen old → GoesBySeen plan seen new
goes_on plan seen old new k g = record {
  erased = g.erased;
  next = g.next;
  acts = acts_after old.stage g.acts;
  plan_is = k.plan ∙ g.plan_is;
  may = g.may;
  above = g.above;
  is = k.acts seen g.erased g.next g.acts g.is;
}

-- Answers

pub on_ok : {X E : Type 0} {A B : Type 0} (r : Result X E) → (A → B) → OnOk r A → OnOk r B
on_ok (Ok x) f a = f a
on_ok (Err e) f a = tt

pub on_both : {X E : Type 0} {A B C : Type 0} (r : Result X E) → (A → B → C) → OnOk r A → OnOk r B → OnOk r C
on_both (Ok x) f a b = f a b
on_both (Err e) f a b = tt

-- what `Scan::tell` says
abbrev pub Tells : (old new : Scanned) → List (Option Told) → Type 0
Tells old new cells = (plan : DiePlan) (seen : Shown) (shown : List (Option Label)) → IsScanOf plan old seen → cells ≡ told_cells shown
    → IsScanOf plan new (seen ++ shown ∷ [])

pub first_told : (own : DiePlan) (scan after : Scanned) (cells : List (Option Told)) (r : Recovery) → r ≡ recovery.Scan own scan → Tells scan after cells
    → (plan : DiePlan) (seen : Shown) (shown : List (Option Label)) → HasSeen plan seen r → IsFirstScan r → cells ≡ told_cells shown
    → HasSeen plan (seen ++ shown ∷ []) (recovery.Scan own after)
first_told own scan after cells r is tells plan seen shown h first e =
    let k = subst (HasSeen plan seen) is h in (k.0, tells (part_of plan) seen shown k.1 e)

pub again_told : (own : DiePlan) (before again after : Scanned) (block : ℕ) (cells labels : List (Option Told)) (r : Recovery)
    → r ≡ recovery.Again own before again block
    → ((seen : Shown) → again.told < length seen → labels ≡ told_cells (labels_in seen again.told)
    → cells ≡ told_cells (labels_in (without_block block seen) again.told))
    → Tells again after cells → IsNextBlock again cells
    → (plan : DiePlan) (seen : Shown) (n : ℕ) → HasSeen plan seen r → TellsAgain r n → labels ≡ told_cells (labels_in seen n)
    → HasSeen plan seen (recovery.Again own before after block)
again_told own before again after block cells labels r is same tells fits plan seen n h t e =
    let k = subst (HasSeen plan seen) is h in
    let at : again.told ≡ n = subst (λ (x : Recovery). TellsAgain x n) is t in
    let lt = all_seen (part_of plan) before again seen k.1 k.2 k.3.shape fits.more in
    let there = same seen lt (subst (λ (b : ℕ). labels ≡ told_cells (labels_in seen b)) (sym at) e) in
    let more = tells (part_of plan) (take again.told (without_block block seen)) (labels_in (without_block block seen) again.told) k.3 there in
    (k.0, k.1, k.2, again_more (part_of plan) again after seen block (labels_in (without_block block seen) again.told) lt k.3 more refl, k.4)

-- what is reported of the block that is undone, and of another one
pub tells_none : (block n : ℕ) → n ≡ block → (seen : Shown) → n < length seen → [] ≡ told_cells (labels_in (without_block block seen) n)
tells_none block n is seen lt = sym (ap told_cells (undone seen block n is lt))

pub tells_same : (block n : ℕ) (labels : List (Option Told)) → n ≢ block → (seen : Shown) → n < length seen
    → labels ≡ told_cells (labels_in seen n) → labels ≡ told_cells (labels_in (without_block block seen) n)
tells_same block n labels other seen lt e = e ∙ sym (ap told_cells (kept seen block n other))

-- a mount that was made
pub calls_seen : (made : Result Mounting BeginFault) (result : Result Recovery BeginFault) (P : Mounting → Type 0) (Q : Recovery → Type 0)
    → IfOk made (λ mount. result ≡ Ok (recovery.Calls mount)) → IfErr made (λ fault. result ≡ Err fault) → IfOk made P
    → ((m : Mounting) → P m → Q (recovery.Calls m)) → IfOk result Q
calls_seen (Ok m) result P Q a b h f = subst (λ (r : Result Recovery BeginFault). IfOk r Q) (sym a) (f m h)
calls_seen (Err e) result P Q a b h f = subst (λ (r : Result Recovery BeginFault). IfOk r Q) (sym b) tt

-- of another plan that is the same one
pub seen_of : (own plan : DiePlan) (seen : Shown) (after : Recovery) → own ≡ plan → HasSeen own seen after → HasSeen plan seen after
seen_of own plan seen after is h = subst (λ (p : DiePlan). HasSeen p seen after) is h

pub stage_done : (n : ℕ) (s : Stage) → call_at n s ≡ None → s ≡ stage.Done
stage_done n (stage.First b k) e = absurd (none-some _ (sym e))
stage_done n (stage.Read p q) e = absurd (none-some _ (sym e))
stage_done n (stage.Program p q t) e = absurd (none-some _ (sym e))
stage_done n (stage.Erase b k) e = absurd (none-some _ (sym e))
stage_done n stage.Done e = refl

pub none_of : {A : Type 0} (o : Option A) → is_some o ≡ false → o ≡ None
none_of None e = refl
none_of (Some x) e = absurd (true≢false e)

pub begun_seen : (result : Result Recovery BeginFault) (own : DiePlan) (scan : Scanned) (r : Recovery) → r ≡ recovery.Scan own scan
    → IfOk result (λ after. (seen : Shown) → IsScanOf (part_of own) scan seen → FitPlan (part_of own) seen → HasSeen own seen after)
    → IfOk result (λ after. (plan : DiePlan) (seen : Shown) → HasSeen plan seen r → FitPlan (part_of plan) seen → HasSeen plan seen after)
begun_seen (Ok after) own scan r is f = λ plan seen h fit.
    let k = subst (HasSeen plan seen) is h in
    seen_of own plan seen after k.0 (f seen (subst (λ (p : DiePlan). IsScanOf (part_of p) scan seen) (sym k.0) k.1)
    (subst (λ (p : DiePlan). FitPlan (part_of p) seen) (sym k.0) fit))
begun_seen (Err e) own scan r is f = tt

-- a block is reported, and the calls begin where it was the last
pub told_seen : (labels : List (Option Told)) (old mid new : Recovery)
    → ((plan : DiePlan) (seen : Shown) (shown : List (Option Label)) → HasSeen plan seen old → IsFirstScan old → labels ≡ told_cells shown
    → HasSeen plan (seen ++ shown ∷ []) mid)
    → ((plan : DiePlan) (seen : Shown) (block : ℕ) → HasSeen plan seen old → TellsAgain old block → labels ≡ told_cells (labels_in seen block)
    → HasSeen plan seen mid)
    → ((plan : DiePlan) (seen : Shown) → HasSeen plan seen mid → FitPlan (part_of plan) seen → HasSeen plan seen new) → HasTold labels old new
told_seen labels old mid new a b f = record {
  first = λ plan seen shown h t e fit. f plan (seen ++ shown ∷ []) (a plan seen shown h t e) fit;
  again = λ plan seen block h t e fit. f plan seen (b plan seen block h t e) fit;
}

-- a call is made
pub called_on : (old new : Mounting) (r : Recovery) → r ≡ recovery.Calls old → IsStep old new → HasCalled r (recovery.Calls new)
called_on old new r is k = record {
  seen = λ plan seen h. goes_on plan seen old new k (subst (HasSeen plan seen) is h);
  less = subst (λ (x : Recovery). calls_left new < calls_left_of x) (sym is) k.less;
}

pub of_ok : {X E : Type 0} {A : Type 0} (r : Result X E) (x : X) → r ≡ Ok x → OnOk r A → A
of_ok {A = A} r x is h = subst (λ s. OnOk s A) is h

-- a die
pub begins_at : (m : Mounting) (end : Mounted) (plan : DiePlan) (names : List PageData) (die : Stepped) → m.stage ≡ stage.Done → IsEndOf m end
    → plan ≡ m.plan → GoesOn plan end.checkpoint names die → die.part ≡ record { aside = end.aside; serial = end.next; stands = false } → BeginsAt m names die
begins_at m end plan names die ended is same on part = record {
  ended = ended;
  end = end;
  is = is;
  goes_on = subst (λ (p : DiePlan). GoesOn p end.checkpoint names die) same on;
  part = part;
}

pub again_seen : (result : Result Recovery BeginFault) (own : DiePlan) (before again : Scanned) (block : ℕ) (r : Recovery)
    → r ≡ recovery.Again own before again block
    → IfOk result (λ after. (seen : Shown) → IsScanOf (part_of own) before seen
    → IsScanOf (part_of own) again (take again.told (without_block block seen)) → MayErase (part_of own) all_count seen block → HasSeen own seen after)
    → IfOk result (λ after. (plan : DiePlan) (seen : Shown) → HasSeen plan seen r → FitPlan (part_of plan) seen → HasSeen plan seen after)
again_seen (Ok after) own before again block r is f = λ plan seen h fit.
    let k = subst (HasSeen plan seen) is h in
    let o = sym k.0 in
    seen_of own plan seen after k.0 (f seen (subst (λ (p : DiePlan). IsScanOf (part_of p) before seen) o k.1)
    (subst (λ (p : DiePlan). IsScanOf (part_of p) again (take again.told (without_block block seen))) o k.3)
    (subst (λ (p : DiePlan). MayErase (part_of p) all_count seen block) o k.4))
again_seen (Err e) own before again block r is f = tt
