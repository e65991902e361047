-- Each of a die's lives is an exact log from an opening.
use Rattle.std.proofs.Common.{◌≡◌, [], ◌∷◌, ◌++◌, refl, subst}
use Rattle.die_log.specs.Model.Log.{Log}
use Rattle.die_log.specs.Model.Start.{Start}
use Rattle.die_log.specs.Model.Answers.{IsExact}
use Rattle.die_log.specs.Model.Opening.{IsOpening}
use Rattle.die_log.specs.Results.Promises.{KeepsPromises}
use Rattle.die_log.specs.Model.Lives.{Lives, start_after, HaveEnded, AreLives, HasLife}
use Rattle.die_log.proofs.Promises.{keeps_promises}
use Rattle.die_log.proofs.Renewal.{renewed_opens}

-- a die's plan stays
pub plan_same : (first : Start) (lives : Lives) → (start_after first lives).plan ≡ first.plan
plan_same first [] = refl
plan_same first (log ∷ earlier) = plan_same first earlier

pub ended_opens : (first : Start) → IsOpening first → (lives : Lives) → HaveEnded first lives → IsOpening (start_after first lives)
ended_opens first opens [] h = opens
ended_opens first opens (log ∷ earlier) h = renewed_opens (start_after first earlier) log (ended_opens first opens earlier h.0) h.1 h.2

pub ended_live : (first : Start) (lives : Lives) → HaveEnded first lives → AreLives first lives
ended_live first [] h = tt
ended_live first (log ∷ earlier) h = (h.0, h.1)

-- the logs before one of them have ended, and it is exact
record IsLife (first : Start) (log : Log) (earlier : Lives) : Type 0 where
  pub ended : HaveEnded first earlier
  pub exact : IsExact (start_after first earlier) log

life_after : (first : Start) (later : Lives) (log : Log) (earlier : Lives) → AreLives first (later ++ log ∷ earlier)
    → IsLife first log earlier
life_after first [] log earlier h = record { ended = h.0; exact = h.1 }
life_after first (l ∷ later) log earlier h = life_after first later log earlier (ended_live first (later ++ log ∷ earlier) h.0)

life_is : (first : Start) (lives : Lives) (log : Log) (earlier : Lives) → AreLives first lives → HasLife lives log earlier
    → IsLife first log earlier
life_is first lives log earlier h has = life_after first has.0 log earlier (subst (AreLives first) has.1 h)

pub life_opens : (first : Start) → IsOpening first → (lives : Lives) (log : Log) (earlier : Lives) → AreLives first lives
    → HasLife lives log earlier → IsOpening (start_after first earlier)
life_opens first opens lives log earlier h has = ended_opens first opens earlier (life_is first lives log earlier h has).ended

pub life_exact : (first : Start) (lives : Lives) (log : Log) (earlier : Lives) → AreLives first lives → HasLife lives log earlier
    → IsExact (start_after first earlier) log
life_exact first lives log earlier h has = (life_is first lives log earlier h has).exact

pub life_promises : (first : Start) → IsOpening first → (lives : Lives) → AreLives first lives → (log : Log) (earlier : Lives)
    → HasLife lives log earlier → KeepsPromises (start_after first earlier) log
life_promises first opens lives h log earlier has =
    keeps_promises (start_after first earlier) (life_opens first opens lives log earlier h has) log
    (life_exact first lives log earlier h has)
