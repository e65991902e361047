use Rattle.std.proofs.Common.{sym, ◌∙◌, inl, inr}
use Rattle.std.proofs.lemmas.List.Elements.{All-nil}
use Rattle.test_planned_ports.proofs.Handed.{refusal_of, both}
use Rattle.test_planned_ports.proofs.missing.stays_open.Goals as goal

pub returns-clause-die : goal.returns-clause-die
returns-clause-die g c = refusal_of _ c.close.result c.what_is_refused.result c.what_is_refused.ensures c.close.ensures.back

pub returns-clause-clock : goal.returns-clause-clock
returns-clause-clock g c = refusal_of _ c.close.result c.what_is_refused.result c.what_is_refused.ensures
    (both _ _ _ c.close.result (λ kept back same. same.lock ∙ (c.requires.clock ∙ sym back)) c.close.ensures.back c.close.ensures.same)

pub returns-clause-tasks : goal.returns-clause-tasks
returns-clause-tasks g c = refusal_of _ c.close.result c.what_is_refused.result c.what_is_refused.ensures
    (both _ _ _ c.close.result (λ kept back stays. elim stays [
      | inl out ↦ rw (out.back, back) c.requires.tasks
      | inr joined ↦ rw joined.none_back (All-nil _)
    ]) c.close.ensures.back c.close.ensures.refused)
