-- A die that idles while a job waits. Beside it the right log, which is legal.
use Rattle.std.proofs.Common.{lit≤, false, [], ◌∷◌, refl, arith}
use Rattle.slot_types.specs.declared.events.Op.TheVariants.{Read}
use Rattle.die_log.specs.Model.Log.{Log, Job}
use Rattle.die_log.specs.Model.Answers.{run, answer}
use Rattle.die_log.specs.Results.Legal.{IsLegal}
use Rattle.die_log.proofs.Worked.Plans.{roomy, submit, slot}
use Rattle.die_log.proofs.Wrong.Entries.{idle}

abbrev one : Log
one = run roomy [] (submit 0 10 (Read 0 ∷ []) ∷ [])

abbrev its_job : Job
its_job = record { number = 0; collects = false; task = 0; release = 0; due = 10; ops = Read 0 ∷ [] }

not_legal : IsLegal roomy (idle 0 ∷ one) → ⊥
unfolding answer
not_legal h = cc (h.1.slot.1 its_job (0, omega arith, refl) refl)

taken_legal : IsLegal roomy one
unfolding answer
taken_legal = (tt, record { numbered = refl; in_time = (omega arith, omega arith, lit≤ tt); slot = tt; room = omega arith })

read_legal : IsLegal roomy (run roomy one (slot ∷ []))
unfolding answer
read_legal = (
  taken_legal,
  record {
    numbered = refl;
    in_time = tt;
    slot = (
      tt,
      (
        its_job,
        record {
          known = refl;
          released = omega arith;
          undone = refl;
          unwaived = refl;
          next = refl;
          says = refl;
          finds =
              tt;
        },
      ),
    );
    room = omega arith;
  },
)
