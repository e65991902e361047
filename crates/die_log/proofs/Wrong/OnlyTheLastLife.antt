-- A law of reads over a die's lives that speaks of the last one alone: what an earlier life wrote would be forgotten.
use Rattle.std.proofs.Common.{◌≡◌, ℕ, [], ◌∷◌, Some, refl, ap, arith}
use Rattle.slot_types.specs.declared.acts.Act.TheVariants as does
use Rattle.slot_types.specs.declared.pages.PageData.{PageData}
use Rattle.slot_types.specs.declared.replies.SlotReply.{SlotReply}
use Rattle.die_log.specs.Model.Log.{Log}
use Rattle.die_log.specs.Model.Start.{Start}
use Rattle.die_log.specs.Model.Answers.{answer}
use Rattle.die_log.specs.Model.Opening.{IsOpening}
use Rattle.die_log.specs.Results.Promises.{HasSlot}
use Rattle.die_log.specs.Model.Lives.{Lives, AreLives, HasLife, last_content}
use Rattle.die_log.proofs.Openings.{fresh_opens}
use Rattle.die_log.proofs.Worked.Plans.{roomy, roomy_plan, bytes}
use Rattle.die_log.proofs.Worked.TwoLives.{both, first_log, second_log, asked, bound, are_lives}
use Rattle.die_log.proofs.Wrong.StaleBytesRead.{first_byte}

abbrev OfTheLastAlone : Type 0
OfTheLastAlone = (first : Start) → IsOpening first → (lives : Lives) → AreLives first lives → (log : Log) (earlier : Lives)
    → HasLife lives log earlier → (s : SlotReply) (past : Log) (number page : ℕ) (said : PageData) → HasSlot log s past
    → s.ran ≡ Some (number, does.Read page said) → said ≡ last_content first (past ∷ []) page

-- the slot of the read
abbrev reply : SlotReply
reply = record { slot = 0; waived = []; ran = Some (0, does.Read 3 (bytes 17)); finished = Some 0 }

it_read : HasSlot second_log reply asked
unfolding answer
it_read = (_, refl, ([], refl))

blank : first_byte (last_content roomy (asked ∷ []) 3) ≡ 255
unfolding answer
blank = refl

not_a_law : OfTheLastAlone → ⊥
not_a_law law = absurd (omega (
  arith,
  ap first_byte (law roomy (fresh_opens roomy_plan bound) both are_lives second_log (first_log ∷ []) ([], refl) reply asked 0 3 (bytes 17)
      it_read refl),
  blank,
))
