-- What was seen of one block more, by its labels.
use Rattle.std.proofs.Common.{◌≡◌, ℕ, ◌<◌, ◌≤◌, List, [], ◌∷◌, ◌++◌, length, refl, sym, ◌∙◌, subst, inl, inr}
use Rattle.std.specs.Prelude.{Option, Some, None, Contains}
use Rattle.std.proofs.lemmas.Bool.{cases_lt}
use Rattle.std.proofs.lemmas.List.{get_or_past}
use Rattle.spare_blocks.specs.declared.cells.Mark.{Mark}
use Rattle.spare_blocks.specs.declared.powering.Labelled.{Labelled}
use Rattle.spare_blocks.specs.Parts.{PartBlock, part_block}
use Rattle.spare_blocks.specs.Powering.{IsSeen, mark_at}
use Rattle.spare_blocks.proofs.Seen.{one_seen}
use Rattle.stepped_spares.specs.Telling.{Told, Tells, IsScanOf}

widen : (b : PartBlock) (m n : ℕ) (s : Option Labelled) → IsSeen b m s → ((page : ℕ) → m ≤ page → mark_at b page ≡ None) → IsSeen b n s
widen b m n None is beyond = λ page lt. elim (cases_lt page m) [ inl below ↦ is page below | inr past ↦ beyond page past ]
widen b m n (Some s) is beyond = record {
  starts = is.starts;
  last = is.last;
  none = λ page far lt. elim (cases_lt page m) [ inl below ↦ is.none page far below | inr past ↦ beyond page past ];
}

pub scan_on : (blocks : List PartBlock) (s u : Told) (labels : List (Option Mark)) (seen : Option Labelled) → IsScanOf blocks s
    → Tells labels (part_block blocks (length s.all)) → (Contains s.bad (length s.all) → seen ≡ None)
    → ((Contains s.bad (length s.all) → ⊥) → (b : PartBlock) → Tells labels b → IsSeen b (length labels) seen)
    → u ≡ record s { all = s.all ++ seen ∷ [] } → IsScanOf blocks u
scan_on blocks s u labels seen is tells none here e =
    let k = length s.all in
    let r = one_seen s.shape.pages k blocks s.bad s.all seen (record { count = refl; listed = is.listed; seen = is.seen }) none
    (λ off. widen (part_block blocks k) (length labels) s.shape.pages seen (here off (part_block blocks k) tells)
    (λ page past. sym (tells page) ∙ get_or_past labels page None past)) in
    subst (IsScanOf blocks) (sym e) (record { listed = r.listed; seen = λ x lt. r.seen x (subst (λ (n : ℕ). x < n) r.count lt) })
