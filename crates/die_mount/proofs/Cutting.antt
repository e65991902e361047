-- Where the power goes during a mount, the next one finds what it needs; and where a mount ends, a log may start.
use Rattle.std.proofs.Common.{◌≡◌, ◌⊎◌, ℕ, ◌+◌, ◌<◌, ◌≤◌, List, [], ◌∷◌, Some, refl, ap, sym, subst, inl, inr, arith}
use Rattle.std.specs.Prelude.{sum_by}
use Rattle.slot_types.specs.declared.plans.DiePlan.{DiePlan}
use Rattle.slot_types.specs.declared.pages.PageData.{PageData}
use Rattle.slot_types.specs.declared.acts.Act.{Act}
use Rattle.slot_types.specs.declared.acts.Act.TheVariants as does
use Rattle.plan_rules.specs.Bound.{MeetsBound}
use Rattle.die_log.specs.Model.Flash.{Cells, free_in}
use Rattle.die_log.proofs.Legal.Exact.{has_pages}
use Rattle.power_loss.specs.Aside.{StandsOnPart, part_of}
use Rattle.power_loss.specs.Labels.{Shown}
use Rattle.power_loss.specs.Mounted.{all_count}
use Rattle.power_loss.specs.Recovery.{AreIdle, AreSafe, IsSafe, MayErase, MayMount, MaySeeInActs, MaySeeInErase, cells_of, enough_of}
use Rattle.power_loss.specs.Recovery.{remounted_labels}
use Rattle.power_loss.specs.Seen.{MaySeeAfter, MaySeeDuring}
use Rattle.power_loss.proofs.Aside.ComingBack.{cut_on_part, ends_beside, part_bound}
use Rattle.power_loss.proofs.FreeBlocks.{has_free_block}
use Rattle.power_loss.proofs.MountActs.{all_go_on}
use Rattle.power_loss.proofs.Remounting.{remounts}
use Rattle.die_mount.specs.declared.stage.Stage.{Stage}
use Rattle.die_mount.specs.declared.stage.Stage.TheVariants as stage
use Rattle.die_mount.specs.Cutting.{GoesBy, MaySeeCut, MaySeeCutAt, StartsLog, labels_at}
use Rattle.die_mount.specs.Mounting.{Mounting, IsAtEnd, IsMountOf, IsStep, acts_after, act_at, first_cells, never_erased}

safe_now : (plan : DiePlan) (c : Cells) (acts : List Act) → AreSafe plan c acts → IsSafe plan c acts
safe_now plan c [] s = s
safe_now plan c (act ∷ earlier) s = s.1

-- it goes by the same still
pub goes_on_by : (pages : List PageData) (before : Shown) (erased next : ℕ) (acts : List Act) (old new : Mounting)
    → GoesBy pages before erased next acts old → IsStep old new → GoesBy pages before erased next (acts_after old.stage acts) new
goes_on_by pages before erased next acts old new g k = record {
  bound = subst (λ (p : DiePlan). MeetsBound p) (sym k.plan) g.bound;
  beside = subst (λ (p : DiePlan). p.shape.blocks < 1024) (sym k.plan) g.beside;
  stood = subst (λ (p : DiePlan). StandsOnPart p pages all_count before) (sym k.plan) g.stood;
  may = subst (λ (p : DiePlan). MayErase (part_of p) all_count before erased) (sym k.plan) g.may;
  above = g.above;
  is = k.acts before erased next acts g.is;
}

module _ (pages : List PageData) (before : Shown) (erased next : ℕ) (acts : List Act) (m : Mounting) (g : GoesBy pages before erased next acts m) where
  part : DiePlan
  part = part_of m.plan

  abbrev In : List PageData → Shown → Type 0
  In ps seen = MaySeeInActs (part_of m.plan) (first_cells m.plan erased before) ps (remounted_labels erased before next) seen

  again : (seen : Shown) → MaySeeInErase erased before seen ⊎ In pages seen → StandsOnPart m.plan pages all_count seen
  again seen sees = cut_on_part m.plan pages all_count before seen g.bound g.beside g.stood (record {
    erased = erased;
    rule = g.may;
    next = next;
    above = g.above;
    erases = never_erased;
    sees = subst (λ (ps : List PageData). MaySeeInErase erased before seen ⊎ In ps seen) (sym g.stood.found) sees;
  })

  after : (seen : Shown) → MaySeeAfter m.cells (labels_at pages before erased next acts m) seen → StandsOnPart m.plan pages all_count seen
  after seen sees = again seen (inr (record {
    acts = acts;
    may = g.is.may;
    safe = safe_now (part_of m.plan) (first_cells m.plan erased before) acts g.is.safe;
    sees = inl (subst (λ (c : Cells). MaySeeAfter c (labels_at pages before erased next acts m) seen) (sym g.is.cells) sees);
  }))

  during : (seen : Shown) (act : Act) → MayMount (part_of m.plan) m.cells act
      → IsSafe (part_of m.plan) (first_cells m.plan erased before) (act ∷ acts)
      → MaySeeDuring (part_of m.plan) m.cells pages (labels_at pages before erased next acts m) (Some (0, act)) seen
      → StandsOnPart m.plan pages all_count seen
  during seen act may safe sees = again seen (inr (record {
    acts = acts;
    may = g.is.may;
    safe = safe_now (part_of m.plan) (first_cells m.plan erased before) acts g.is.safe;
    sees = inr (
      act,
      subst (λ (c : Cells). MayMount (part_of m.plan) c act) (sym g.is.cells) may,
      safe,
      subst (λ (c : Cells). MaySeeDuring (part_of m.plan) c pages (labels_at pages before erased next acts m) (Some (0, act)) seen) (sym g.is.cells) sees,
    );
  }))

  safe_next : (new : Mounting) → IsStep m new → (act : Act) → acts_after m.stage acts ≡ act ∷ acts
      → IsSafe (part_of m.plan) (first_cells m.plan erased before) (act ∷ acts)
  safe_next new k act is =
      let n = subst (λ (xs : List Act). IsMountOf before erased next xs new) is (k.acts before erased next acts g.is) in
      subst (λ (p : DiePlan). IsSafe (part_of p) (first_cells p erased before) (act ∷ acts)) k.plan n.safe.1

  cut_by : (new : Mounting) → IsStep m new → (seen : Shown) (st : Stage) → m.stage ≡ st → MaySeeCutAt pages before erased next acts m st seen
      → StandsOnPart m.plan pages all_count seen
  cut_by new k seen (stage.First block slots) at sees = again seen (inl sees)
  cut_by new k seen (stage.Read page from) at sees = after seen sees
  cut_by new k seen (stage.Program page from to) at sees =
      during seen (does.CopyProgram page) (k.may (does.CopyProgram page) (ap act_at at))
      (safe_next new k (does.CopyProgram page) (ap (λ (st : Stage). acts_after st acts) at)) sees
  cut_by new k seen (stage.Erase block slots) at sees =
      during seen (does.Erase block) (k.may (does.Erase block) (ap act_at at))
      (safe_next new k (does.Erase block) (ap (λ (st : Stage). acts_after st acts) at)) sees
  cut_by new k seen stage.Done at sees = after seen sees

  pub cut_in_call : (new : Mounting) → IsStep m new → (seen : Shown) → MaySeeCut pages before erased next acts m seen
      → StandsOnPart m.plan pages all_count seen
  cut_in_call new k seen sees = cut_by new k seen m.stage refl sees

  pub cut_at_end : m.stage ≡ stage.Done → (seen : Shown) → MaySeeCut pages before erased next acts m seen
      → StandsOnPart m.plan pages all_count seen
  cut_at_end at seen sees = after seen (subst (λ (st : Stage). MaySeeCutAt pages before erased next acts m st seen) at sees)

  -- The end

  pub starts_log : IsAtEnd m → StartsLog pages before erased next acts m
  starts_log h =
      let wide = part_bound m.plan g.bound g.beside in
      let first = remounts (part_of m.plan) pages all_count before g.stood erased g.may never_erased next g.above in
      let now = all_go_on (part_of m.plan) (first_cells m.plan erased before) pages (remounted_labels erased before next) all_count wide first acts g.is.may in
      let idle : AreIdle (cells_of (part_of m.plan) acts (first_cells m.plan erased before)) = subst AreIdle (sym g.is.cells) h.idle in
      let enough : enough_of m.plan + m.plan.shape.pages
      ≤ sum_by (free_in m.plan) (cells_of (part_of m.plan) acts (first_cells m.plan erased before)).blocks =
      subst (λ (c : Cells). enough_of m.plan + m.plan.shape.pages ≤ sum_by (free_in m.plan) c.blocks) (sym g.is.cells) h.enough in
      let free = has_free_block (part_of m.plan) (cells_of (part_of m.plan) acts (first_cells m.plan erased before)) (has_pages (part_of m.plan) wide)
      now.sound (omega (arith, enough)) in
      let starts = ends_beside m.plan pages all_count before g.bound g.beside g.stood erased g.may never_erased next g.above acts g.is.may
      idle free.0 free.1 enough in
      (free.0, starts.0, starts.1, starts.2)
