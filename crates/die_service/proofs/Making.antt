-- Making the dies of a store, one after the other.
use Rattle.std.proofs.Common.{◌≡◌, ℕ, zero, suc, ◌<◌, List, [], ◌∷◌, ◌++◌, length, map, All, ne_eqb, refl, ap, sym, ◌∙◌, subst, arith}
use Rattle.std.proofs.lemmas.List.{length-map, map-append}
use Rattle.std.proofs.lemmas.List.Elements.{All-from_recursion, recursion_from_All}
use Rattle.std.specs.List.{AllByRecursion, AllZip}
use Rattle.slot_types.specs.declared.plans.DiePlan.{DiePlan}
use Rattle.slot_types.specs.declared.plans.Shape.{Shape}
use Rattle.plan_rules.specs.Bound.{MeetsBound}
use Rattle.flash_die.specs.Flash.{Block, IsFresh}
use Rattle.turn_lock.specs.Log.{times}
use Rattle.die_log.specs.Model.Start.{Start, fresh}
use Rattle.turn_lock.specs.Views.{first_view, IsLive}
use Rattle.slot_core.specs.Core.{Core}
use Rattle.die_service.specs.Passes.{DieView}
use Rattle.die_service.specs.Stores.{DiePass, Fit, HasUsablePlans, IsAtStart, AreRenewed}

module _ {N : Type 0} (shape_of : N → Shape) (blocks : N → List Block) (failures : N → ℕ) where
  -- a die can be made of these
  pub record IsReady (plan : DiePlan) (nand : N) : Type 0 where
    pub fresh : IsFresh (shape_of nand) (blocks nand) (failures nand)
    pub fits : shape_of nand ≡ plan.shape
    pub bound : MeetsBound plan

  ready_by : (plans : List DiePlan) (nands : List N) → length nands ≡ length plans
      → AllByRecursion (λ nand. IsFresh (shape_of nand) (blocks nand) (failures nand)) nands
      → Fit plans (map shape_of nands) → AllByRecursion MeetsBound plans → AllZip IsReady plans nands
  ready_by [] [] same fresh fit bound = tt
  ready_by [] (nand ∷ nands) same fresh fit bound = absurd (omega (arith, same))
  ready_by (plan ∷ plans) [] same fresh fit bound = absurd (omega (arith, same))
  ready_by (plan ∷ plans) (nand ∷ nands) same fresh fit bound =
      (record { fresh = fresh.0; fits = fit.0; bound = bound.0 }, ready_by plans nands (omega (arith, same)) fresh.1 fit.1 bound.1)

  pub all_ready : (plans : List DiePlan) (nands : List N) → All (λ nand. IsFresh (shape_of nand) (blocks nand) (failures nand)) nands
      → Fit plans (map shape_of nands)
      → HasUsablePlans plans (length nands) → AllZip IsReady plans nands
  all_ready plans nands fresh fit served =
      ready_by plans nands served.one_each (recursion_from_All (λ nand. IsFresh (shape_of nand) (blocks nand) (failures nand)) nands fresh)
      fit (recursion_from_All MeetsBound plans served.bound)

-- First passes are live

only_zero : (p : ℕ) → times (suc p) (0 ∷ []) ≡ 0
only_zero p = rw (ne_eqb 0 (suc p) (λ e. absurd (omega (arith, e)))) refl

below_one : (p : ℕ) → 0 < times p (0 ∷ []) → p < 1
below_one zero stands = omega arith
below_one (suc p) stands = absurd (omega (arith, stands, only_zero p))

-- what the first pass of a die knows whose log begins here
abbrev pub first_at : Start → DieView
first_at start = first_view start

first_is_live : (start : Start) (v : DieView) → v ≡ first_at start → IsLive v
first_is_live start v is = subst (λ (u : DieView). IsLive u) (sym is) (refl, below_one)

pub first_live : (ps : List DiePass) (starts : List Start) → map (λ (p : DiePass). p.view) ps ≡ map first_at starts
    → AllByRecursion (λ (p : DiePass). IsLive p.view) ps
first_live [] starts is = tt
first_live (p ∷ ps) [] is = absurd (omega (arith, ap length is))
first_live (p ∷ ps) (start ∷ starts) is =
    let first : p.view ≡ first_at start = cc in
    (first_is_live start p.view first, first_live ps starts cc)

module _ {N : Type 0} where
  abbrev pub start_of : Core N → Start
  start_of core = core.start

  pub first_views : (cores : List (Core N)) → map (λ (core : Core N). first_at core.start) cores ≡ map first_at (map start_of cores)
  first_views [] = refl
  first_views (core ∷ cores) = ap (λ (l : List DieView). first_at core.start ∷ l) (first_views cores)

  pub same_count : (cores : List (Core N)) (plans : List DiePlan) → map start_of cores ≡ map fresh plans → length cores ≡ length plans
  same_count cores plans is = sym (length-map cores start_of) ∙ (ap length is ∙ length-map plans fresh)

  -- one die more, and its first pass
  pub firsts_more : (ps qs : List DiePass) (p : DiePass) (old cores : List (Core N)) (core : Core N) → qs ≡ ps ++ p ∷ []
      → old ≡ cores ++ core ∷ [] → p.view ≡ first_at core.start
      → map (λ (q : DiePass). q.view) ps ≡ map (λ (k : Core N). first_at k.start) cores
      → map (λ (q : DiePass). q.view) qs ≡ map (λ (k : Core N). first_at k.start) old
  firsts_more ps qs p old cores core more last first so_far =
      ap (map (λ (q : DiePass). q.view)) more ∙ map-append (λ (q : DiePass). q.view) ps (p ∷ [])
      ∙ ap (λ (l : List DieView). l ++ p.view ∷ []) so_far
      ∙ ap (λ (v : DieView). map (λ (k : Core N). first_at k.start) cores ++ v ∷ []) first
      ∙ sym (map-append (λ (k : Core N). first_at k.start) cores (core ∷ []))
      ∙ ap (map (λ (k : Core N). first_at k.start)) (sym last)

pub last_all : {X : Type 0} (P : X → Type 0) (xs : List X) (x : X) → AllByRecursion P (xs ++ x ∷ []) → P x
last_all P [] x all = all.0
last_all P (y ∷ xs) x all = last_all P xs x all.1

pub front_all : {X : Type 0} (P : X → Type 0) (xs : List X) (ys : List X) → AllByRecursion P (xs ++ ys) → AllByRecursion P xs
front_all P [] ys all = tt
front_all P (x ∷ xs) ys all = (all.0, front_all P xs ys all.1)

-- Renewed dies

module _ {N : Type 0} where
  renewed_by : (dies afters : List (Core N)) → AreRenewed dies afters → AllByRecursion IsAtStart afters
  renewed_by [] [] are = tt
  renewed_by [] (after ∷ afters) are = absurd are
  renewed_by (die ∷ dies) [] are = absurd are
  renewed_by (die ∷ dies) (after ∷ afters) are = (
    record {
      no_call = ap (λ (core : Core N). core.log) are.1;
      runs = ap (λ (core : Core N). core.stopped) are.1 ∙ are.0.runs;
    },
    renewed_by dies afters are.2,
  )

  -- a renewed die is at its start
  pub renewed_at_start : (dies afters : List (Core N)) → AreRenewed dies afters → All IsAtStart afters
  renewed_at_start dies afters are = All-from_recursion IsAtStart afters (renewed_by dies afters are)

  pub renewed_length : (dies afters : List (Core N)) → AreRenewed dies afters → length afters ≡ length dies
  renewed_length [] [] are = refl
  renewed_length [] (after ∷ afters) are = absurd are
  renewed_length (die ∷ dies) [] are = absurd are
  renewed_length (die ∷ dies) (after ∷ afters) are = ap suc (renewed_length dies afters are.2)

  -- no die was renewed where there is none
  pub none_renewed : (dies : List (Core N)) → length dies ≡ 0 → AreRenewed dies dies
  none_renewed [] none = tt
  none_renewed (die ∷ dies) none = absurd (omega (arith, none))

pub none_of : {X : Type 0} (P : X → Type 0) (xs : List X) → length xs ≡ 0 → AllByRecursion P xs
none_of P [] none = tt
none_of P (x ∷ xs) none = absurd (omega (arith, none))
