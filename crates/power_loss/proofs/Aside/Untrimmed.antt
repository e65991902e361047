-- Where nothing is trimmed, a page that is placed nowhere has no label.
use Rattle.std.proofs.Common.{◌≡◌, ◌⊎◌, ℕ, ◌+◌, ◌<◌, ◌≤◌, ◌==◌, Bool, true, false, cond, List, [], ◌∷◌, Option, Some}
use Rattle.std.proofs.Common.{None, is_some, refl, ap, ◌∙◌, inl, inr, arith, set}
use Rattle.slot_types.specs.Places.{place_of}
use Rattle.slot_types.specs.declared.plans.DiePlan.{DiePlan}
use Rattle.slot_types.specs.declared.pages.PageData.{PageData}
use Rattle.slot_types.specs.declared.pages.Place.{Place}
use Rattle.slot_types.specs.declared.acts.Act.TheVariants as does
use Rattle.die_log.specs.Model.Log.{Log, Carried}
use Rattle.die_log.specs.Model.Flash.{Block, Cells, block_at, cells, contents, ran_by, open_block}
use Rattle.die_log.specs.Model.Start.{Start, fresh}
use Rattle.die_log.specs.Model.Opening.{IsOpening}
use Rattle.die_log.specs.Model.Answers.{IsExact}
use Rattle.power_loss.specs.Aside.{AreUntrimmed, IsNoTrim, NothingTrimmed}
use Rattle.power_loss.specs.Labels.{Label, Labels, label_at, labels, labels_after, labels_after_program}
use Rattle.power_loss.specs.Labels.{labels_after_erase_slot, counts_after, counts_from, fresh_labels, CountFrom}
use Rattle.power_loss.specs.Labels.{IsLabelled, WasProgrammed}
use Rattle.power_loss.proofs.Exact.{stands_labelled}
use Rattle.power_loss.proofs.Opening.{none_at}
use Rattle.power_loss.proofs.Programming.{of_programs}

-- Numbers rise

program_next : (page : ℕ) (bytes : PageData) (o : Option ℕ) (l : Labels) → l.next ≤ (labels_after_program page bytes o l).next
program_next page bytes None l = omega arith
program_next page bytes (Some b) l = omega arith

either_next : (l m : Labels) (t : Bool) → m.next ≡ l.next → (cond t m l).next ≡ l.next
either_next l m true e = e
either_next l m false e = refl

erase_next : (plan : DiePlan) (s : Block) (b : ℕ) (l : Labels) → (labels_after_erase_slot plan s b l).next ≡ l.next
erase_next plan s b l = either_next l (record l { blocks = set l.blocks b [] }) (s.erasing + 1 == plan.shape.erase_slots) refl

pub after_next : (plan : DiePlan) (c : Cells) (pages : List PageData) (ran : Carried) (l : Labels) → l.next ≤ (labels_after plan c pages ran l).next
after_next plan c pages None l = omega arith
after_next plan c pages (Some (n, does.Read page bytes)) l = omega arith
after_next plan c pages (Some (n, does.Write page bytes)) l = program_next page bytes (open_block plan c) l
after_next plan c pages (Some (n, does.Trim page)) l = omega arith
after_next plan c pages (Some (n, does.CopyRead page)) l = omega arith
after_next plan c pages (Some (n, does.CopyProgram page)) l = program_next page _ (open_block plan c) l
after_next plan c pages (Some (n, does.Erase b)) l = omega (arith, erase_next plan (block_at c b) b l)

next_rises : (start : Start) (first : Labels) (log : Log) → first.next ≤ (labels start first log).next
next_rises start first [] = omega arith
next_rises start first (e ∷ past) =
    omega (
      arith,
      next_rises start first past,
      after_next start.plan (cells start past) (contents start past) (ran_by e.reply) (labels start first past),
    )

-- From which number labels count

counts_stay : (page next : ℕ) (ran : Carried) (before : ℕ) → IsNoTrim ran → counts_after page next ran before ≡ before
counts_stay page next None before h = refl
counts_stay page next (Some (n, does.Read p bytes)) before h = refl
counts_stay page next (Some (n, does.Write p bytes)) before h = refl
counts_stay page next (Some (n, does.Trim p)) before h = absurd h
counts_stay page next (Some (n, does.CopyRead p)) before h = refl
counts_stay page next (Some (n, does.CopyProgram p)) before h = refl
counts_stay page next (Some (n, does.Erase b)) before h = refl

counts_begin : (start : Start) (first : Labels) (log : Log) (page : ℕ) → NothingTrimmed log → counts_from start first log page ≡ counts_from start first [] page
counts_begin start first [] page h = refl
counts_begin start first (e ∷ past) page h =
    counts_stay page (labels start first past).next (ran_by e.reply) (counts_from start first past page) h.1
    ∙ counts_begin start first past page h.0

pub stay_untrimmed : (start : Start) (first : Labels) → IsOpening start → IsLabelled start first → AreUntrimmed start.cells first.blocks → (log : Log)
    → IsExact start log → NothingTrimmed log → AreUntrimmed (cells start log) (labels start first log).blocks
stay_untrimmed start first bound labelled untrimmed log exact none = record {
  placed = λ page q x e f. omega arith;
  unplaced = λ page nowhere place x e own. by_begin page place x e own (place_of start.cells.places page) refl
      (counts.unplaced page nowhere place x e own) (of_programs start first bound labelled log exact place x e);
}
  where
    counts : CountFrom (cells start log) (labels start first log).blocks (counts_from start first log)
    counts = (stands_labelled start first bound labelled log exact).counts

    by_begin : (page : ℕ) (place : Place) (x : Label) → label_at (labels start first log).blocks place ≡ Some x → x.page ≡ page
        → (o : Option Place) → place_of start.cells.places page ≡ o → x.serial < counts_from start first log page
        → (label_at first.blocks place ≡ Some x) ⊎ WasProgrammed start first log x → x.serial < 0
    by_begin page place x e own (Some q) f less any =
        omega (arith, less, counts_begin start first log page none, ap (λ (o : Option Place). cond (is_some o) 0 first.next) f)
    by_begin page place x e own None f less (inl stood) = untrimmed.unplaced page f place x stood own
    by_begin page place x e own None f less (inr was) =
        absurd (omega (
          arith,
          less,
          counts_begin start first log page none,
          ap (λ (o : Option Place). cond (is_some o) 0 first.next) f,
          was.serial,
          next_rises start first was.past,
        ))

-- a fresh die has no labels
pub fresh_untrimmed : (plan : DiePlan) → AreUntrimmed (fresh plan).cells (fresh_labels plan).blocks
fresh_untrimmed plan = record {
  placed = λ page q x e f. omega arith;
  unplaced = λ page nowhere place x e own. absurd (none_at plan.shape.blocks place x e);
}
