-- What holds of the lives that a die had, whichever way each ended.
use Rattle.std.proofs.Common.{◌≡◌, ℕ, List, [], ◌∷◌, refl, ap, sym, subst, ◌∙◌}
use Rattle.die_log.specs.Model.Log.{Log}
use Rattle.die_log.specs.Model.Start.{Start}
use Rattle.die_log.specs.Model.Opening.{IsQuiet, renewed_start}
use Rattle.die_log.specs.Model.Answers.{IsExact}
use Rattle.die_log.specs.Model.Lives.{start_after, HaveEnded}
use Rattle.ongoing_log.specs.PastLives.{PastLife, End, Renewed, ShutDown, LostPower, next_start, starts_after, slots_up_to, MayEnd, HavePassed}
use Rattle.ongoing_log.specs.PastLives.{start_since_loss, lives_since_loss}

-- the plan stays
plan_after : (start : Start) (life : ℕ) (log : Log) (ended : End) → MayEnd start life log ended → (next_start start log ended).plan ≡ start.plan
plan_after start life log Renewed may = refl
plan_after start life log (ShutDown slots counts) may = refl
plan_after start life log (LostPower slots next) may = may.2

pub plan_stays : (first : Start) (life : ℕ) (past : List PastLife) → HavePassed first life past → (starts_after first past).plan ≡ first.plan
plan_stays first life [] h = refl
plan_stays first life (p ∷ earlier) h =
    plan_after (starts_after first earlier) (slots_up_to life p.ended) p.log p.ended h.1.may_end
    ∙ plan_stays first (slots_up_to life p.ended) earlier h.0

-- the lives since the last loss of power ended quiet, and the next one starts after them
pub record AreSinceLoss (first : Start) (past : List PastLife) : Type 0 where
  pub ended : HaveEnded (start_since_loss first past) (lives_since_loss past)
  pub starts : start_after (start_since_loss first past) (lives_since_loss past) ≡ starts_after first past

module _ (first : Start) (past : List PastLife) (before : AreSinceLoss first past) (log : Log) (exact : IsExact (starts_after first past) log)
    (quiet : IsQuiet (starts_after first past) log) where
  then_ended : HaveEnded (start_since_loss first past) (log ∷ lives_since_loss past)
  then_ended = (
    before.ended,
    subst (λ (s : Start). IsExact s log) (sym before.starts) exact,
    subst (λ (s : Start). IsQuiet s log) (sym before.starts) quiet,
  )

  then_starts : renewed_start (start_after (start_since_loss first past) (lives_since_loss past)) log ≡ renewed_start (starts_after first past) log
  then_starts = ap (λ (s : Start). renewed_start s log) before.starts

pub since_loss : (first : Start) (life : ℕ) (past : List PastLife) → HavePassed first life past → AreSinceLoss first past
since_loss first life [] h = record { ended = tt; starts = refl }
since_loss first life (p ∷ earlier) h =
    by p.ended h.1.may_end (since_loss first (slots_up_to life p.ended) earlier h.0)
  where
    by : (e : End) → MayEnd (starts_after first earlier) (slots_up_to life e) p.log e → AreSinceLoss first earlier
        → AreSinceLoss first (record { log = p.log; ended = e } ∷ earlier)
    by Renewed may before = record {
      ended = then_ended first earlier before p.log h.1.exact may.1;
      starts = then_starts first earlier before p.log h.1.exact may.1;
    }
    by (ShutDown slots counts) may before = record {
      ended = then_ended first earlier before p.log h.1.exact may.1;
      starts = then_starts first earlier before p.log h.1.exact may.1;
    }
    by (LostPower slots next) may before = record { ended = tt; starts = refl }
