-- A die that keeps its plan goes on from what the arrays say, or where a mount has ended; or it doesn't.
use Rattle.std.proofs.Common.{◌≡◌, ◌≢◌, ◌⊎◌, ℕ, List, Option, Some, None, Result, Ok, Err, refl, true, sym, subst, ◌∙◌, inl, inr}
use Rattle.std.specs.Prelude.{IfErr, IfOk, IfSome, IsSome, vec_capacity}
use Rattle.slot_types.specs.declared.pages.PageData.{PageData}
use Rattle.slot_types.specs.declared.plans.DiePlan.{DiePlan}
use Rattle.demand_rules.specs.declared.terms.Terms.{Terms}
use Rattle.die_checkpoint.specs.declared.checkpoint.Checkpoint.{Checkpoint}
use Rattle.ongoing_die.specs.declared.refusals.OngoingResumeRefusal.{OngoingResumeRefusal}
use Rattle.ongoing_die.specs.Resuming.{RefusesOngoingResume, out_of_memory}
use Rattle.stepped_die.specs.declared.part.Part.{Part}
use Rattle.stepped_plan.specs.Resuming.{GoesOnPlanned}
use Rattle.flash_c.specs.declared.kept.KeptDie.{KeptDie}
use Rattle.flash_c.specs.declared.recoveries.Recovery.{Recovery}
use Rattle.flash_c.specs.declared.shapes.FlashUnresumed.{FlashUnresumed}
use Rattle.flash_c.specs.Planned.{HasRoom}
use Rattle.flash_c.specs.PlannedResuming.{BeginsKept, IsOver, IsUnbegun, NoneBegins, SaysResumed, SaysUnmounted, SaysUnresumed, unresumed_code, unresumed_why}
use Rattle.flash_c.proofs.Unresumed.{never_411, not_memory}

pub is_kept : {value : Option KeptDie} {kept : KeptDie} → value ≡ Some kept → IsSome value
is_kept is = subst IsSome (sym is) refl

module _ (own plan : DiePlan) (own_terms terms : Terms) (longest : ℕ) (own_c c : Checkpoint) (plan_is : own ≡ plan) (terms_are : own_terms ≡ terms)
    (c_is : own_c ≡ c) (made : Result KeptDie OngoingResumeRefusal) where
  -- the die that was made of the arrays goes on from what they stand for
  pub says_resumed : (own_names names : List PageData) (own_part part_then : Part) (kept : KeptDie) {value : Option KeptDie} → own_names ≡ names
      → record own_part { stands = true } ≡ part_then → made ≡ Ok kept
      → IfOk made (λ k. GoesOnPlanned own own_terms longest own_c own_names k.plan) → IfOk made (λ k. k.plan.part ≡ record own_part { stands = true })
      → IfOk made (λ k. HasRoom own_terms (vec_capacity k.ops)) → value ≡ Some kept → IfSome value (SaysResumed plan terms longest c names part_then)
  says_resumed own_names names own_part part_then kept names_are part_is ok on part room is =
      subst (λ (v : Option KeptDie). IfSome v (SaysResumed plan terms longest c names part_then)) (sym is) (record {
        goes_on = subst (λ (ns : List PageData). GoesOnPlanned plan terms longest c ns kept.plan) names_are
            (subst (λ (k : Checkpoint). GoesOnPlanned plan terms longest k own_names kept.plan) c_is
            (subst (λ (t : Terms). GoesOnPlanned plan t longest own_c own_names kept.plan) terms_are
            (subst (λ (p : DiePlan). GoesOnPlanned p own_terms longest own_c own_names kept.plan) plan_is
            (subst (λ (x : Result KeptDie OngoingResumeRefusal).
            IfOk x (λ k. GoesOnPlanned own own_terms longest own_c own_names k.plan)) ok on))));
        part = subst (λ (x : Result KeptDie OngoingResumeRefusal). IfOk x (λ k. k.plan.part ≡ record own_part { stands = true })) ok part ∙ part_is;
        room = subst (λ (t : Terms). HasRoom t (vec_capacity kept.ops)) terms_are
            (subst (λ (x : Result KeptDie OngoingResumeRefusal). IfOk x (λ k. HasRoom own_terms (vec_capacity k.ops))) ok room);
      })

  pub says_unresumed : (refusal : OngoingResumeRefusal) (code : ℕ) (why : FlashUnresumed) → (refusal ≡ out_of_memory) ⊎ (made ≡ Err refusal)
      → IfErr made (λ r. r ≢ out_of_memory → RefusesOngoingResume own own_terms longest own_c own.shape r)
      → code ≡ unresumed_code refusal → why ≡ unresumed_why refusal → code ≢ 1 → SaysUnresumed plan terms longest c code why
  says_unresumed refusal code why (inl memory) h code_is why_is other = absurd (not_memory refusal code code_is other memory)
  says_unresumed refusal code why (inr is) h code_is why_is other = record {
    refusal = refusal;
    refused = subst (λ (k : Checkpoint). RefusesOngoingResume plan terms longest k plan.shape refusal) c_is
        (subst (λ (t : Terms). RefusesOngoingResume plan t longest own_c plan.shape refusal) terms_are
        (subst (λ (p : DiePlan). RefusesOngoingResume p own_terms longest own_c p.shape refusal) plan_is
        (subst (λ (x : Result KeptDie OngoingResumeRefusal).
        IfErr x (λ r. r ≢ out_of_memory → RefusesOngoingResume own own_terms longest own_c own.shape r)) is h
        (not_memory refusal code code_is other))));
    code_is = code_is;
    why_is = why_is;
  }

-- a die that begins where a mount has ended
pub says_begun : (at held : Recovery) (own_terms terms : Terms) (longest : ℕ) (own_names names : List PageData) (kept : KeptDie) {value : Option KeptDie}
    → at ≡ held → own_terms ≡ terms → own_names ≡ names → BeginsKept at own_terms longest own_names kept → value ≡ Some kept
    → IfSome value (BeginsKept held terms longest names)
says_begun at held own_terms terms longest own_names names kept at_is terms_are names_are h is =
    subst (λ (v : Option KeptDie). IfSome v (BeginsKept held terms longest names)) (sym is)
    (subst (λ (ns : List PageData). BeginsKept held terms longest ns kept) names_are
    (subst (λ (t : Terms). BeginsKept held t longest own_names kept) terms_are
    (subst (λ (r : Recovery). BeginsKept r own_terms longest own_names kept) at_is h)))

pub says_unmounted : (at held : Recovery) (own_terms terms : Terms) (longest : ℕ) (cause : Option OngoingResumeRefusal) (refusal : OngoingResumeRefusal)
    (code : ℕ) (why : FlashUnresumed) → at ≡ held → own_terms ≡ terms → cause ≡ Some refusal → IsUnbegun at own_terms longest cause
    → code ≡ unresumed_code refusal → why ≡ unresumed_why refusal → code ≢ 1 → SaysUnmounted held terms longest code why
says_unmounted at held own_terms terms longest cause refusal code why at_is terms_are is h code_is why_is other = record {
  refusal = refusal;
  refused = subst (λ (t : Terms). NoneBegins held t longest refusal) terms_are
      (subst (λ (r : Recovery). NoneBegins r own_terms longest refusal) at_is
      ((subst (IsUnbegun at own_terms longest) is h).0 (not_memory refusal code code_is other)));
  code_is = code_is;
  why_is = why_is;
}

-- which is never that a task has too few pages
pub mounted_below : (at : Recovery) (terms : Terms) (longest : ℕ) (cause : Option OngoingResumeRefusal) (refusal : OngoingResumeRefusal)
    → cause ≡ Some refusal → IsUnbegun at terms longest cause → unresumed_code refusal ≢ 411
mounted_below at terms longest cause refusal is h = never_411 refusal ((subst (IsUnbegun at terms longest) is h).1)

pub not_ended : (at held : Recovery) (terms : Terms) (longest : ℕ) (cause : Option OngoingResumeRefusal) → at ≡ held → cause ≡ None
    → IsUnbegun at terms longest cause → ¬ IsOver held
not_ended at held terms longest cause at_is is h over = subst (IsUnbegun at terms longest) is h (subst IsOver (sym at_is) over)

-- what a handle holds
pub same_of : (o : Option Recovery) (a b : Recovery) → o ≡ Some a → o ≡ Some b → a ≡ b
same_of o a b p q = cc
