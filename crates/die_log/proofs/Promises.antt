-- An exact log of a plan within its bound keeps all that is promised.
use Rattle.std.proofs.Common.{◌≡◌, ℕ, ◌≤◌, [], ◌∷◌, ◌++◌, Option, Some, None, refl, ap, sym, ◌∙◌, subst, arith}
use Rattle.std.proofs.lemmas.Option.{same_Some, none-some}
use Rattle.slot_types.specs.declared.plans.DiePlan.{DiePlan}
use Rattle.slot_types.specs.declared.acts.Act.{Act}
use Rattle.slot_types.specs.declared.replies.Entry.{Entry}
use Rattle.slot_types.specs.declared.replies.Reply.TheVariants as replies
use Rattle.slot_types.specs.declared.replies.SlotReply.{SlotReply}
use Rattle.late_cert.specs.declared.certificates.Certificate.{Certificate}
use Rattle.late_cert.proofs.Binds.{binds}
use Rattle.late_cert.proofs.Faults.{certificate-verdict}
use Rattle.die_log.specs.Model.Log.{Log, Job, waived_collections}
use Rattle.die_log.specs.Model.Flash.{free}
use Rattle.die_log.specs.Model.Work.{worst, owed_writes}
use Rattle.die_log.specs.Model.Answers.{IsExact}
use Rattle.die_log.specs.Results.Legal.{IsLegal, IsLegalEntry, IsLegalReply, IsLegalRun, IsLegalAct}
use Rattle.die_log.specs.Model.Rows.{rows, certificate, certificate_for, IsCertified}
use Rattle.die_log.specs.Results.Certificates.{IsOfWorst, HoldsOver, BindsAll}
use Rattle.die_log.specs.Results.Promises.{HasEntry, HasSlot, HasMoment, KeepsPromises}
use Rattle.die_log.proofs.Exact.{moment_exact}
use Rattle.die_log.proofs.Legal.Exact.{exact_legal}
use Rattle.die_log.proofs.Least.Exact.{least_keys, exact_least}
use Rattle.die_log.proofs.Least.Certificates.{worst_certified, none_is}
use Rattle.die_log.proofs.Bounds.Exact.{few_copies, bounded_work}
use Rattle.die_log.specs.Model.Start.{Start}
use Rattle.die_log.specs.Model.Opening.{IsOpening}

-- Parts of a legal log

legal_after : (start : Start) (later moment : Log) → IsLegal start (later ++ moment) → IsLegal start moment
legal_after start [] moment h = h
legal_after start (e ∷ later) moment h = legal_after start later moment h.0

legal_entry : (start : Start) (log : Log) (e : Entry) (past : Log) → IsLegal start log → HasEntry log e past → IsLegalEntry start past e
legal_entry start log e past h has = (legal_after start has.0 (e ∷ past) (subst (IsLegal start) has.1 h)).1

legal_slot : (start : Start) (log : Log) (s : SlotReply) (past : Log) → IsLegal start log → HasSlot log s past
    → IsLegalReply start past (replies.Slot s)
legal_slot start log s past h has = subst (IsLegalReply start past) has.1 (legal_entry start log has.0 past h has.2).slot

pub legal_act : (start : Start) (log : Log) (s : SlotReply) (past : Log) (number : ℕ) (act : Act) → IsLegal start log → HasSlot log s past
    → s.ran ≡ Some (number, act)
    → (j : Job) × IsLegalAct start past (waived_collections past ++ s.waived) j number act
legal_act start log s past number act h has ran = subst (IsLegalRun start past s.waived) ran (legal_slot start log s past h has).1

owed_fits : (start : Start) (moment : Log) → IsLegal start moment → owed_writes moment ≤ free start moment
owed_fits start [] h = omega arith
owed_fits start (e ∷ past) h = h.1.room

legal_moment : (start : Start) (log moment : Log) → IsLegal start log → HasMoment log moment → IsLegal start moment
legal_moment start log moment h has = legal_after start has.0 moment (subst (IsLegal start) has.1 h)

-- The certificate

of_worst : (start : Start) (log : Log) (c : Certificate) → IsOpening start → IsExact start log → certificate start.plan log ≡ Some c
    → IsOfWorst start.plan log c
of_worst start log c bound exact is = by_worst (worst start.plan log) refl
  where
    by_worst : (o : Option Job) → worst start.plan log ≡ o → IsOfWorst start.plan log c
    by_worst None e = absurd (none-some c (sym (ap (certificate_for start.plan log) e) ∙ is))
    by_worst (Some j) e =
        let d = worst_certified start log j bound exact e in
        (j, e, subst (IsCertified start.plan log j) (same_Some d.0 c (sym d.1 ∙ is)) d.2)

said : (plan : DiePlan) (log : Log) (c : Certificate) → IsOfWorst plan log c → IsOfWorst plan log c × HoldsOver plan log c
    × BindsAll plan log c
said plan log c own = (
  own,
  certificate-verdict (rows plan log) c.start c.due c.completion c.jobs own.2.own.holds,
  binds (rows plan log) c.start c.due c.completion c.jobs own.2.own.holds,
)

-- All of it

pub keeps_promises : (start : Start) → IsOpening start → (log : Log) → IsExact start log → KeepsPromises start log
keeps_promises start bound log exact =
    let legal = exact_legal start bound log exact in
    record {
      opens = bound;
      exact = exact;
      legal = legal;
      arrivals = λ e past has. (legal_entry start log e past legal has).in_time;
      reads = λ s past number page bytes has ran. (legal_act start log s past number _ legal has ran).1.says;
      programs = λ s past number act has ran. (legal_act start log s past number act legal has ran).1.finds;
      room = λ moment has. owed_fits start moment (legal_moment start log moment legal has);
      never_idle = λ s past has idle. subst (IsLegalRun start past s.waived) idle (legal_slot start log s past legal has).1;
      waivers = λ s past has. (legal_slot start log s past legal has).0;
      least_keys = λ moment has. least_keys start bound moment (moment_exact start has.0 moment (subst (IsExact start) has.1 exact));
      least_late = λ moment has. exact_least start bound has.0 moment (subst (IsExact start) has.1 exact);
      few_copies = few_copies start bound log exact;
      few_slots = bounded_work start bound log exact;
      uncertified = none_is start log bound exact;
      certified = λ c is. said start.plan log c (of_worst start log c bound exact is);
    }

pub moment_promises : (start : Start) → IsOpening start → (later moment : Log) → IsExact start (later ++ moment) → KeepsPromises start moment
moment_promises start bound later moment exact = keeps_promises start bound moment (moment_exact start later moment exact)
