-- What is known of the log of a die on which nothing was done but one run.
use Rattle.std.proofs.Common.{◌≡◌, ℕ, List, [], ◌∷◌, ◌++◌, length, ap, sym, ◌∙◌, subst, take, Bool, Err}
use Rattle.std.proofs.lemmas.List.{length-take-le}
use Rattle.turn_lock.specs.Log.{calls_by, AllBy}
use Rattle.die_log.specs.Model.Log.{Log}
use Rattle.die_log.specs.Model.Answers.{IsExact}
use Rattle.die_service.specs.declared.ends.DieEnd.{DieEnd}
use Rattle.die_service.specs.declared.feeds.Arrival.{Arrival}
use Rattle.die_service.specs.Logs.{DieCall, log_of, calls_of}
use Rattle.die_service.specs.PlannedRuns.{RanAlone}
use Rattle.slot_core.specs.Calls.{MayRefuse}
use Rattle.slot_types.specs.declared.events.Event.{Event}
use Rattle.die_service.specs.declared.refused.RefusedAt.{RefusedAt}
use Rattle.die_service.specs.Runs.{AskedEvent, asked_event, accepted_by}
use Rattle.die_service.proofs.LastPasses.{same_plan}
use Rattle.die_service.proofs.Transcripts.{AreReported, said_log, reported_accepted, own_of_log, front_own}
use Rattle.die_log.specs.Model.Start.{Start}

module _ (never_fails : Bool) (slots : ℕ) (start : Start) (feed : List Arrival) (end : DieEnd) (log : Log)
    (r : RanAlone never_fails start slots feed end log) where
  abbrev pub saids : List AskedEvent
  saids = r.ran.saids

  pub start_is : r.ran.start ≡ start
  start_is = same_plan r.ran.start start (sym r.ran.about_is ∙ ap (λ v. v.about) r.fresh)

  number_is : r.first.view.number ≡ 0
  number_is = ap (λ v. v.number) r.fresh

  all_mine : AllBy (0 ∷ []) (calls_of (log_of r.last.view.seen))
  all_mine = subst (λ (x : List ℕ × List DieCall). AllBy x.0 x.1)
      (λ i. ((r.same.1 ∙ number_is) i ∷ (r.same.2 ∙ ap (λ v. v.joined) r.fresh) i, calls_of (r.log_is i))) r.by_own

  mine : calls_by 0 r.last.view.seen ≡ r.last.view.seen
  mine = own_of_log 0 r.last.view.seen all_mine

  seen_is : r.last.view.seen ≡ accepted_by 0 saids
  seen_is = sym mine ∙ (ap (λ n. calls_by n r.last.view.seen) (sym number_is) ∙ (r.ran.own
      ∙ λ i. calls_by (number_is i) (ap (λ v. v.seen) r.fresh i) ++ accepted_by (number_is i) saids))

  pub said_is : log ≡ said_log saids
  said_is = r.log_is ∙ ap log_of seen_is

  pub said_exact : IsExact start (said_log saids)
  said_exact = subst (λ (x : Start × Log). IsExact x.0 x.1) (λ i. (start_is i, log_of (seen_is i))) r.ran.exact.exact

  pub are_reported : AreReported never_fails start saids
  are_reported = record {
    accepted = λ before after event reply is. reported_accepted start saids before after event reply said_exact is;
    refused = λ before after event refused is.
        let why = r.ran.refused before after event refused is in
        let these : take refused.entries r.last.view.seen
        ≡ accepted_by 0 before = sym (front_own 0 refused.entries r.last.view.seen all_mine)
        ∙ (ap (λ n. calls_by n (take refused.entries r.last.view.seen)) (sym number_is) ∙ (why.own
        ∙ λ i. calls_by (number_is i) (ap (λ v. v.seen) r.fresh i) ++ accepted_by (number_is i) before)) in
        subst (λ (x : Start × Log). MayRefuse never_fails x.0 x.1 event refused.refusal) (λ i. (start_is i, log_of (these i))) why.reason;
  }

  -- a call was refused after as many entries as were accepted before it
  pub counted : (before after : List AskedEvent) (event : Event) (refused : RefusedAt) → saids ≡ before ++ asked_event event (Err refused) ∷ after
      → refused.entries ≡ length (accepted_by 0 before)
  counted before after event refused is =
      let why = r.ran.refused before after event refused is in
      let these : take refused.entries r.last.view.seen
      ≡ accepted_by 0 before = sym (front_own 0 refused.entries r.last.view.seen all_mine)
      ∙ (ap (λ n. calls_by n (take refused.entries r.last.view.seen)) (sym number_is) ∙ (why.own
      ∙ λ i. calls_by (number_is i) (ap (λ v. v.seen) r.fresh i) ++ accepted_by (number_is i) before)) in
      sym (length-take-le refused.entries r.last.view.seen why.within) ∙ ap length these
