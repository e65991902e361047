-- A renewal and a checkpoint are refused for one cause.
use Rattle.std.proofs.Common.{◌≡◌, ◌≢◌, ℕ, suc, ◌<◌, ◌⊎◌, ◌==◌, ◌&&◌, ◌||◌, not, nat_lt, nat_le, Bool, true, false, List, [], ◌∷◌, Some, None, refl, ap, sym, ◌∙◌}
use Rattle.std.proofs.Common.{subst, length, get_or, map, arith, inl, inr}
use Rattle.std.specs.Prelude.{Contains, IsTrue, Option, position}
use Rattle.std.specs.List.{AllByRecursion}
use Rattle.std.proofs.lemmas.Bool.{true≢false}
use Rattle.std.proofs.lemmas.Bool.Decides.{nat_tests}
use Rattle.std.proofs.lemmas.List.{get_or-map, length-map}
use Rattle.std.proofs.lemmas.List.Quantifiers.{position-Some}
use Rattle.std.proofs.lemmas.Option.{same_Some}
use Rattle.slot_types.specs.declared.plans.DiePlan.{DiePlan}
use Rattle.flash_volume.specs.Cells.{is_worn_beyond}
use Rattle.die_log.specs.Model.Start.{Start, Block, free_block}
use Rattle.die_log.specs.Model.Log.{Log, Job, jobs, now, is_waived}
use Rattle.die_log.specs.Model.Flash.{cells}
use Rattle.die_log.specs.Model.Work.{is_done, is_ready, ready, least}
use Rattle.die_log.specs.Model.Opening.{IsQuiet, CanBeErased, renewed_start}
use Rattle.die_log.proofs.Choices.{OfSome, least_all}
use Rattle.die_log.proofs.LogInvariants.OneMoreEntry.{kept_both}
use Rattle.slot_core.specs.Core.{Core}
use Rattle.slot_core.specs.declared.renewals.RenewalRefusal.{RenewalRefusal}
use Rattle.slot_core.specs.declared.renewals.RenewalRefusal.TheVariants.{DieStopped, NotQuiet, WornOut}
use Rattle.slot_core.specs.declared.resumptions.CheckpointRefusal.TheVariants as untaken
use Rattle.slot_core.specs.declared.resumptions.ResumeRefusal.{ResumeRefusal}
use Rattle.slot_core.specs.declared.resumptions.ResumeRefusal.TheVariants as unresumed
use Rattle.slot_types.specs.declared.plans.Shape.{Shape}
use Rattle.die_checkpoint.specs.declared.checkpoint.Checkpoint.{Checkpoint}
use Rattle.die_checkpoint.specs.Fits.{Fits}
use Rattle.die_checkpoint.proofs.Excluding.{fault_breaks}
use Rattle.die_checkpoint.proofs.OneFault.{one_fault}
use Rattle.slot_core.specs.Renewals.{IsReleasedNext, IsNextCarried, IsFirstWorn, most_erases, MayBeRenewed, RefusesRenewal}
use Rattle.slot_core.specs.Resumptions.{RefusesResume, no_memory}

-- Work that is left

each_of : {X : Type 0} (P : X → Type 0) (xs : List X) → ((x : X) → Contains xs x → P x) → AllByRecursion P xs
each_of P [] h = tt
each_of P (x ∷ xs) h = (h x (0, omega arith, refl), each_of P xs (λ y at. h y (suc at.0, omega (arith, at.1), at.2)))

-- what is over is not left
not_left : (before done gone : Bool) → (before && (not done && not gone)) ≡ true → IsTrue done ⊎ IsTrue gone → ⊥
not_left true true gone left over = absurd (true≢false (sym left))
not_left false done gone left over = absurd (true≢false (sym left))
not_left true false true left over = absurd (true≢false (sym left))
not_left true false false left (inl h) = absurd (true≢false (sym h))
not_left true false false left (inr h) = absurd (true≢false (sym h))

not_ready : (due done gone : Bool) → ((due && not done) && not gone) ≡ true → IsTrue done ⊎ IsTrue gone → ⊥
not_ready true true gone left over = absurd (true≢false (sym left))
not_ready false done gone left over = absurd (true≢false (sym left))
not_ready true false true left over = absurd (true≢false (sym left))
not_ready true false false left (inl h) = absurd (true≢false (sym h))
not_ready true false false left (inr h) = absurd (true≢false (sym h))

of_some : (P : Job → Type 0) (o : Option Job) (j : Job) → OfSome P o → o ≡ Some j → P j
of_some P o j h is = subst (OfSome P) is h

-- where a job is next, the log is not quiet
pub next_is_left : (start : Start) (log : Log) (number : ℕ) → IsNextCarried start.plan log number → IsQuiet start log → ⊥
next_is_left start log number n quiet = by_case n.next
  where
    all_ready : AllByRecursion (λ j. (IsTrue (is_done start.plan log j) ⊎ IsTrue (is_waived log j.number)) × (is_ready start.plan log j ≡ true))
        (ready start.plan log)
    all_ready = kept_both (λ (j : Job). IsTrue (is_done start.plan log j) ⊎ IsTrue (is_waived log j.number)) (is_ready start.plan log) (jobs log)
        (each_of (λ (j : Job). IsTrue (is_done start.plan log j) ⊎ IsTrue (is_waived log j.number)) (jobs log) quiet)

    by_case : (least (ready start.plan log) ≡ Some n.job) ⊎ ((least (ready start.plan log) ≡ None) × IsReleasedNext start.plan log n.job) → ⊥
    by_case (inl is) =
        let P : Job → Type 0 = λ j. (IsTrue (is_done start.plan log j) ⊎ IsTrue (is_waived log j.number)) × (is_ready start.plan log j ≡ true) in
        let both : P n.job = of_some P (least (ready start.plan log)) n.job (least_all P (ready start.plan log) all_ready) is in
        not_ready (nat_le n.job.release (now log)) (is_done start.plan log n.job) (is_waived log n.job.number) both.1 both.0
    by_case (inr later) = not_left (nat_lt (now log) n.job.release) (is_done start.plan log n.job) (is_waived log n.job.number)
        later.1.coming (quiet n.job later.1.stands)

-- neither is released before the other
as_early : (a b m n : ℕ) → (nat_lt a b || ((a == b) && nat_lt m n)) ≡ false → (nat_lt b a || ((b == a) && nat_lt n m)) ≡ false → m ≡ n
as_early a b m n h k = grind (arith, nat_tests)

some_none : (o : Option Job) (j : Job) → o ≡ Some j → o ≡ None → ⊥
some_none o j is none = absurd cc

pub one_next : (plan : DiePlan) (log : Log) (one other : ℕ) → IsNextCarried plan log one → IsNextCarried plan log other → one ≡ other
one_next plan log one other a b = sym a.number_is ∙ by_case a.next b.next ∙ b.number_is
  where
    by_case : (least (ready plan log) ≡ Some a.job) ⊎ ((least (ready plan log) ≡ None) × IsReleasedNext plan log a.job)
        → (least (ready plan log) ≡ Some b.job) ⊎ ((least (ready plan log) ≡ None) × IsReleasedNext plan log b.job)
        → a.job.number ≡ b.job.number
    by_case (inl is) (inl also) = ap (λ (j : Job). j.number) (same_Some a.job b.job (sym is ∙ also))
    by_case (inl is) (inr none) = absurd (some_none (least (ready plan log)) a.job is none.0)
    by_case (inr none) (inl is) = absurd (some_none (least (ready plan log)) b.job is none.0)
    by_case (inr later) (inr also) = as_early a.job.release b.job.release a.job.number b.job.number
        (also.1.first a.job later.1.stands later.1.coming) (later.1.first b.job also.1.stands also.1.coming)

-- Wear

worn_by : (most n : ℕ) → nat_lt most n ≡ true → most < n
worn_by most n h = grind (arith, nat_tests)

-- a block that is worn out can't be erased in each slot of a life
pub worn_is_worn : (start : Start) (log : Log) (block : ℕ) → IsFirstWorn start log block → CanBeErased (renewed_start start log) → ⊥
worn_is_worn start log block worn left =
    let bs = (cells start log).blocks in
    let found = position-Some (is_worn_beyond most_erases) (map (λ (b : Block). b.erases) bs) block 0 worn in
    let erases : most_erases < get_or (map (λ (b : Block). b.erases) bs) block 0 = worn_by most_erases _ found.1 in
    omega (
      arith,
      erases,
      left block,
      get_or-map (λ (b : Block). b.erases) bs block free_block 0
          (omega (arith, found.0, length-map bs (λ (b : Block). b.erases))),
    )

-- One cause

stopped_or_runs : (b : Bool) → b ≡ true → b ≡ false → ⊥
stopped_or_runs b h k = true≢false (sym h ∙ k)

pub one_renewal_refusal : {N : Type 0} (core : Core N) (one other : RenewalRefusal) → RefusesRenewal core one → RefusesRenewal core other
    → one ≡ other
one_renewal_refusal core DieStopped DieStopped a b = refl
one_renewal_refusal core DieStopped (NotQuiet j) a b = absurd (stopped_or_runs core.stopped a b.0)
one_renewal_refusal core DieStopped (WornOut k) a b = absurd (stopped_or_runs core.stopped a b.0)
one_renewal_refusal core (NotQuiet i) DieStopped a b = absurd (stopped_or_runs core.stopped b a.0)
one_renewal_refusal core (NotQuiet i) (NotQuiet j) a b = ap NotQuiet (one_next core.start.plan core.log i j a.1 b.1)
one_renewal_refusal core (NotQuiet i) (WornOut k) a b = absurd (next_is_left core.start core.log i a.1 b.1)
one_renewal_refusal core (WornOut k) DieStopped a b = absurd (stopped_or_runs core.stopped b a.0)
one_renewal_refusal core (WornOut k) (NotQuiet i) a b = absurd (next_is_left core.start core.log i b.1 a.1)
one_renewal_refusal core (WornOut k) (WornOut l) a b = ap WornOut (same_Some k l (sym a.2 ∙ b.2))

pub refusal_or_renewal : {N : Type 0} (core : Core N) (refusal : RenewalRefusal) → RefusesRenewal core refusal → MayBeRenewed core → ⊥
refusal_or_renewal core DieStopped a may = stopped_or_runs core.stopped a may.runs
refusal_or_renewal core (NotQuiet i) a may = next_is_left core.start core.log i a.1 may.quiet
refusal_or_renewal core (WornOut k) a may = worn_is_worn core.start core.log k a.2 may.unworn

pub one_resume_refusal : (plan : DiePlan) (c : Checkpoint) (shape : Shape) (one other : ResumeRefusal) → RefusesResume plan c shape one
    → RefusesResume plan c shape other → one ≢ no_memory → other ≢ no_memory → one ≡ other
one_resume_refusal plan c shape unresumed.OtherDevice unresumed.OtherDevice a b some also = refl
one_resume_refusal plan c shape unresumed.OtherDevice (unresumed.Unfit g) a b some also = absurd (a b.0)
one_resume_refusal plan c shape (unresumed.Unfit f) unresumed.OtherDevice a b some also = absurd (b a.0)
one_resume_refusal plan c shape (unresumed.Unfit f) (unresumed.Unfit g) a b some also =
    ap unresumed.Unfit (one_fault plan c f g a.1 b.1 (λ e. some (ap unresumed.Unfit e)) (λ e. also (ap unresumed.Unfit e)))

pub refusal_or_resumption : (plan : DiePlan) (c : Checkpoint) (shape : Shape) (refusal : ResumeRefusal) → RefusesResume plan c shape refusal
    → refusal ≢ no_memory → (shape ≡ plan.shape) × Fits plan c → ⊥
refusal_or_resumption plan c shape unresumed.OtherDevice a some both = a both.0
refusal_or_resumption plan c shape (unresumed.Unfit fault) a some both =
    fault_breaks plan c fault a.1 (λ e. some (ap unresumed.Unfit e)) both.1
