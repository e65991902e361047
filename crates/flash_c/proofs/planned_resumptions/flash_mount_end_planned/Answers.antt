use Rattle.std.proofs.Common.{refl, sym, ◌∙◌, inl, inr}
use Rattle.flash_c.proofs.KeptResuming.{is_kept, mounted_below, not_ended, same_of, says_begun, says_unmounted}
use Rattle.flash_c.proofs.Unresumed.{memory_is_alone, unresumed_above}
use Rattle.flash_c.proofs.planned_resumptions.flash_mount_end_planned.Goals as goal

pub returns-in-Ok-clause-made : goal.returns-in-Ok-clause-made
returns-in-Ok-clause-made g c = λ zero. is_kept c.put_kept.ensures

pub returns-in-Ok-clause-begins : goal.returns-in-Ok-clause-begins
returns-in-Ok-clause-begins g c = λ zero.
    says_begun c.deref.result.now g.held c.in-Ok-Ok.terms _ c.args.longest c.as_slice.result.now _ c.in-Ok.made.value
    (c.deref.ensures ∙ same_of _ _ _ c.take_mount-boxed.ensures.mount c.requires.0) c.in-Ok-Ok.ensures.terms
    (c.as_slice.ensures ∙ c.in-Ok-Ok.ensures'.pages) c.in-Ok.ensures.made c.put_kept.ensures

pub returns-in-Err-None-clause-cause : goal.returns-in-Err-None-clause-cause
returns-in-Err-None-clause-cause g c = λ fails other. inl (
  refl,
  c.three-in-Err-None.ensures,
  not_ended c.deref.result.now g.held c.in-Ok-Ok.terms c.args.longest c.in-Err-None.field-0
      (c.deref.ensures ∙ same_of _ _ _ c.take_mount-boxed.ensures.mount c.requires.0) c.in-Err-None.field-0-is c.in-Err-None.ensures.refused,
)

pub returns-clause-over : goal.returns-clause-over
returns-clause-over g c = λ zero. absurd (unresumed_above c.in-Err-Some.refusal (sym c.of_unresumed.ensures ∙ zero))

pub returns-clause-made : goal.returns-clause-made
returns-clause-made g c = λ zero. absurd (unresumed_above c.in-Err-Some.refusal (sym c.of_unresumed.ensures ∙ zero))

pub returns-clause-begins : goal.returns-clause-begins
returns-clause-begins g c = λ zero. absurd (unresumed_above c.in-Err-Some.refusal (sym c.of_unresumed.ensures ∙ zero))

pub returns-clause-cause : goal.returns-clause-cause
returns-clause-cause g c = λ fails other. inr (says_unmounted c.deref.result.now g.held c.in-Ok-Ok.terms _ c.args.longest c.in-Err-Some.field-0
    c.in-Err-Some.refusal c.of_unresumed.result c.unresumed_why.result (c.deref.ensures ∙ same_of _ _ _ c.take_mount-boxed.ensures.mount c.requires.0)
    c.in-Ok-Ok.ensures.terms c.in-Err-Some.field-0-is c.in-Err-Some.ensures.refused c.of_unresumed.ensures c.unresumed_why.ensures other)

pub returns-clause-stocked : goal.returns-clause-stocked
returns-clause-stocked g c = λ is. mounted_below c.deref.result.now c.in-Ok-Ok.terms c.args.longest c.in-Err-Some.field-0
    c.in-Err-Some.refusal c.in-Err-Some.field-0-is c.in-Err-Some.ensures.refused (sym c.of_unresumed.ensures ∙ is)

pub returns-clause-memory : goal.returns-clause-memory
returns-clause-memory g c = λ one. c.unresumed_why.ensures ∙ memory_is_alone c.in-Err-Some.refusal (sym c.of_unresumed.ensures ∙ one)

pub returns-clause-well : goal.returns-clause-well
returns-clause-well g c = λ zero. absurd (unresumed_above c.in-Err-Some.refusal (sym c.of_unresumed.ensures ∙ zero))
