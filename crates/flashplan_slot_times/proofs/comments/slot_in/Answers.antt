use Rattle.std.proofs.Common.{◌∙◌, ◌≡◌, ◌≤◌, ◌<◌, ℕ, arith, rules, subst, sym}
use Rattle.std.proofs.lemmas.Bool.{false≢true}
use Rattle.std.proofs.lemmas.Option.{same_Some}
use Rattle.flashplan_slot_times.specs.Comments.{SaysSlot}
use Rattle.flashplan_slot_times.proofs.comments.slot_in.Goals as goal
use Rattle.flashplan_slot_times.proofs.comments.slot_in.Goals.{else-slot_us-gt0-via-then-slot_us-gt0+in_ok-says_slot+else-branch, else-slot_us-gt0-via-else-slot_us-gt0}

pub returns-then-branch-clause-slot : goal.returns-then-branch-clause-slot
returns-then-branch-clause-slot c = record {
  said = (omega (arith, c.if-slot_us-gt0.true), c.in_ok-says_slot.ensures.says.0 c.if-branch.true);
  whole = λ us some small says. sym c.in-Some.is ∙ c.number_in.ensures us small says;
}

pub returns-else-slot_us-gt0-clause-slot : goal.returns-else-slot_us-gt0-clause-slot
returns-else-slot_us-gt0-clause-slot c = record {
  said = tt;
  whole = λ us some small says.
      let same : us ≡ c.in-Some.slot_us = same_Some us c.in-Some.slot_us (sym (c.number_in.ensures us small says) ∙ c.in-Some.is) in
      absurd (elim c.else-slot_us-gt0.branch [
        | else-slot_us-gt0-via-then-slot_us-gt0+in_ok-says_slot+else-branch w ↦
            false≢true (sym w.if-branch.false ∙ w.in_ok-says_slot.ensures.says.1 (subst (SaysSlot c.args.text.now) same says))
        | else-slot_us-gt0-via-else-slot_us-gt0 w ↦ omega (arith, same, some, w.if-slot_us-gt0.false)
      ]);
}
