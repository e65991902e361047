-- Each label was there when the log began, or a program of the log left it.
use Rattle.std.proofs.Common.{◌≡◌, ◌⊎◌, ℕ, ◌<◌, List, [], ◌∷◌, length, Some, None, refl, ap, sym, ◌∙◌, subst, inl, inr}
use Rattle.std.proofs.Common.{arith, get_or}
use Rattle.std.specs.Prelude.{sum_by}
use Rattle.std.proofs.lemmas.Bool.{cases_lt}
use Rattle.std.proofs.lemmas.List.{get_or-set_same}
use Rattle.slot_types.specs.declared.plans.DiePlan.{DiePlan}
use Rattle.slot_types.specs.declared.pages.PageData.{PageData}
use Rattle.slot_types.specs.declared.pages.Place.{Place}
use Rattle.slot_types.specs.declared.acts.Act.{Act}
use Rattle.slot_types.specs.declared.acts.Act.TheVariants as does
use Rattle.slot_types.specs.declared.replies.Entry.{Entry}
use Rattle.die_log.specs.Model.Log.{Log, Carried}
use Rattle.die_log.specs.Model.Flash.{Cells, block_at, open_block, free_in, cells, contents, contents_after, ran_by}
use Rattle.die_log.specs.Model.Start.{Start, blank_page}
use Rattle.die_log.specs.Model.Opening.{IsOpening}
use Rattle.die_log.specs.Model.Answers.{IsExact}
use Rattle.die_log.specs.Invariants.SoundCells.{IsClosed, IsUnplaced, AreSoundCells, HasFreePage}
use Rattle.die_log.proofs.Cells.Steps.{opens, open_is, within_blocks}
use Rattle.die_log.proofs.Legal.Exact.{stands_well, has_pages}
use Rattle.die_log.proofs.Renewal.{contents_len}
use Rattle.power_loss.specs.Labels.{Label, Labels, label_at, labels, labels_after, labels_after_program, Programs}
use Rattle.power_loss.specs.Labels.{WasProgrammed, AreLabelled, IsLabelled}
use Rattle.power_loss.specs.Laws.{OfPrograms}
use Rattle.power_loss.proofs.Carrying.{IsSoundCarried, carried_sound}
use Rattle.power_loss.proofs.Counting.{erase_back}
use Rattle.power_loss.proofs.Exact.{stands_labelled}
use Rattle.power_loss.proofs.Steps.{IsNewOr, label_cases}

abbrev pub bytes_of : List PageData → ℕ → PageData
bytes_of pages page = get_or pages page blank_page

-- this act left it
pub record IsLeft (act : Act) (l : Labels) (after : List PageData) (x : Label) : Type 0 where
  pub programs : Programs act x.page
  pub serial : x.serial ≡ l.next
  pub bytes : x.bytes ≡ bytes_of after x.page

program_left : (plan : DiePlan) (page : ℕ) (bytes : PageData) (act : Act) (c : Cells) (l : Labels) (after : List PageData) → 0 < plan.shape.pages
    → AreSoundCells plan c → 0 < sum_by (free_in plan) c.blocks → AreLabelled plan c l → Programs act page → bytes_of after page ≡ bytes
    → (q : Place) (x : Label) → label_at (labels_after_program page bytes (open_block plan c) l).blocks q ≡ Some x
    → (label_at l.blocks q ≡ Some x) ⊎ IsLeft act l after x
program_left plan page bytes act c l after more s room h programs own q x e =
    let o = opens plan c room in
    let t = open_is plan c o.0 more s o.1 in
    let lt : o.0 < length l.blocks = omega (arith, h.blocks, t.stands) in
    by_case o.0 (label_cases page bytes o.0 l lt q x (ap (λ b. label_at (labels_after_program page bytes b l).blocks q) (sym o.1) ∙ e))
  where
    by_case : (b : ℕ) → IsNewOr page bytes b l q x → (label_at l.blocks q ≡ Some x) ⊎ IsLeft act l after x
    by_case b (inr old) = inl old
    by_case b (inl n) =
        let of_page : page ≡ x.page = ap (λ (y : Label). y.page) n.2 in
        inr (record {
          programs = subst (Programs act) of_page programs;
          serial = sym (ap (λ (y : Label). y.serial) n.2);
          bytes = sym (ap (λ (y : Label). y.bytes) n.2) ∙ (sym own ∙ ap (bytes_of after) of_page);
        })

-- a label after an act was there before it, or the act left it
pub act_left : (plan : DiePlan) (n : ℕ) (act : Act) (c : Cells) (pages : List PageData) (l : Labels) → 0 < plan.shape.pages → AreSoundCells plan c
    → HasFreePage plan c act → ((page : ℕ) → Programs act page → page < length pages)
    → ((b : ℕ) → act ≡ does.Erase b → IsClosed plan c b × IsUnplaced c b) → AreLabelled plan c l → (q : Place) (x : Label)
    → label_at (labels_after plan c pages (Some (n, act)) l).blocks q ≡ Some x
    → (label_at l.blocks q ≡ Some x) ⊎ IsLeft act l (contents_after (Some (n, act)) pages) x
act_left plan n (does.Read page bytes) c pages l more s room within ok h q x e = inl e
act_left plan n (does.Write page bytes) c pages l more s room within ok h q x e =
    program_left plan page bytes (does.Write page bytes) c l _ more s room h refl
    (get_or-set_same pages page bytes blank_page (within page refl)) q x e
act_left plan n (does.Trim page) c pages l more s room within ok h q x e = inl e
act_left plan n (does.CopyRead page) c pages l more s room within ok h q x e = inl e
act_left plan n (does.CopyProgram page) c pages l more s room within ok h q x e =
    program_left plan page (bytes_of pages page) (does.CopyProgram page) c l pages more s room h refl refl q x e
act_left plan n (does.Erase b) c pages l more s room within ok h q x e =
    let closed : (block_at c b).filled ≡ plan.shape.pages = (ok b refl).0 in
    let stands : b < length c.blocks = within_blocks plan c b (omega arith) (cases_lt b (length c.blocks)) in
    inl (erase_back plan (block_at c b) b l (omega (arith, h.blocks)) q x e)

longer : (start : Start) (first : Labels) (d : Entry) (past : Log) (x : Label) → WasProgrammed start first past x
    → WasProgrammed start first (d ∷ past) x
longer start first d past x w = record {
  e = w.e;
  past = w.past;
  has = (d ∷ w.has.0, ap (λ (l : Log). d ∷ l) w.has.1);
  number = w.number;
  act = w.act;
  ran = w.ran;
  programs = w.programs;
  serial = w.serial;
  bytes = w.bytes;
}

left_by : (start : Start) (first : Labels) → IsOpening start → IsLabelled start first → (e : Entry) (past : Log) → IsExact start past → (ran : Carried)
    → ran_by e.reply ≡ ran → IsSoundCarried start past ran → (q : Place) (x : Label)
    → label_at (labels_after start.plan (cells start past) (contents start past) ran (labels start first past)).blocks q ≡ Some x
    → (label_at (labels start first past).blocks q ≡ Some x) ⊎ WasProgrammed start first (e ∷ past) x
left_by start first bound labelled e past exact None is k q x f = inl f
left_by start first bound labelled e past exact (Some (n, act)) is k q x f =
    let sound = (stands_well start bound past exact).0.collects.sound in
    by_case (act_left start.plan n act (cells start past) (contents start past) (labels start first past) (has_pages start.plan bound.bound) sound
    k.room (λ page own. omega (arith, k.within page own, sound.places, contents_len start past, bound.pages)) k.erases
    (stands_labelled start first bound labelled past exact).labelled q x f)
  where
    by_case : (label_at (labels start first past).blocks q ≡ Some x)
        ⊎ IsLeft act (labels start first past) (contents_after (Some (n, act)) (contents start past)) x
        → (label_at (labels start first past).blocks q ≡ Some x) ⊎ WasProgrammed start first (e ∷ past) x
    by_case (inl old) = inl old
    by_case (inr new) = inr (record {
      e = e;
      past = past;
      has = ([], refl);
      number = n;
      act = act;
      ran = is;
      programs = new.programs;
      serial = new.serial;
      bytes = new.bytes ∙ ap (λ (r : Carried). bytes_of (contents_after r (contents start past)) x.page) (sym is);
    })

pub of_programs : (start : Start) (first : Labels) → IsOpening start → IsLabelled start first → (log : Log) → IsExact start log
    → OfPrograms start first log
of_programs start first bound labelled [] exact q x f = inl f
of_programs start first bound labelled (e ∷ past) exact q x f =
    by_case (of_programs start first bound labelled past exact.0 q x)
    (left_by start first bound labelled e past exact.0 (ran_by e.reply) refl (carried_sound start bound e past exact) q x f)
  where
    earlier : (label_at first.blocks q ≡ Some x) ⊎ WasProgrammed start first past x
        → (label_at first.blocks q ≡ Some x) ⊎ WasProgrammed start first (e ∷ past) x
    earlier (inl h) = inl h
    earlier (inr h) = inr (longer start first e past x h)

    by_case : (label_at (labels start first past).blocks q ≡ Some x → (label_at first.blocks q ≡ Some x) ⊎ WasProgrammed start first past x)
        → (label_at (labels start first past).blocks q ≡ Some x) ⊎ WasProgrammed start first (e ∷ past) x
        → (label_at first.blocks q ≡ Some x) ⊎ WasProgrammed start first (e ∷ past) x
    by_case before (inl old) = earlier (before old)
    by_case before (inr new) = inr new
