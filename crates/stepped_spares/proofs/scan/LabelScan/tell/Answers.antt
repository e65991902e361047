use Rattle.std.specs.List.{list_any}
use Rattle.std.proofs.Common.{rules, nat_eq, vec_len, ◌≡◌, ◌∙◌, ℕ, List, length, ap, sym, subst}
use Rattle.std.specs.Prelude.{Option}
use Rattle.std.proofs.lemmas.Bool.{false≢true}
use Rattle.spare_blocks.specs.declared.powering.Labelled.{Labelled}
use Rattle.spare_blocks.specs.Parts.{part_block}
use Rattle.spare_blocks.specs.Powering.{IsSeen}
use Rattle.spare_blocks.proofs.Tabled.{told_listed, told_unlisted}
use Rattle.stepped_spares.specs.Telling.{Told, Tells, IsScanOf, told_of}
use Rattle.stepped_spares.proofs.Told.{scan_on}
use Rattle.stepped_spares.proofs.scan.LabelScan.tell.Goals as goal
use Rattle.stepped_spares.proofs.scan.LabelScan.tell.Goals.{then-contains, else-contains}

pub returns-clause-told : goal.returns-clause-told
returns-clause-told c = λ blocks is tells.
    let s = told_of c.self.inside in
    let k = length s.all in
    let labels = c.args.labels.now in
    let whole : vec_len c.self.inside.all ≡ length c.self.inside.all.items = search rules in
    let told : c.contains.result ≡ list_any (λ y. nat_eq y k) s.bad =
    c.contains.ensures.value
    ∙ (ap (λ (l : List ℕ). list_any (λ y. nat_eq y c.len-2.result) l) c.deref.ensures.value
    ∙ ap (λ (n : ℕ). list_any (λ y. nat_eq y n) s.bad) (c.len-2.ensures ∙ whole)) in
    scan_on blocks s _ labels c.if-contains.seen (subst (IsScanOf blocks) (sym c.self.view_is) is)
    (subst (λ (t : Told). Tells labels (part_block blocks (length t.all))) (sym c.self.view_is) tells)
    (λ listed. elim c.if-contains.branch [
      | then-contains w ↦ w.seen-is
      | else-contains w ↦ absurd (false≢true (sym w.if-contains.false ∙ told_listed s.bad k c.contains.result told listed))
    ])
    (λ off. elim c.if-contains.branch [
      | then-contains w ↦ absurd (false≢true (sym (told_unlisted s.bad k c.contains.result told off) ∙ w.if-contains.true))
      | else-contains w ↦ λ b t. subst (IsSeen b (length labels)) (sym w.seen-is) (w.seen_in-seen.ensures b t)
    ])
    (ap (λ (l : List (Option Labelled)). record { shape = s.shape; blocks = s.blocks; bad = s.bad; all = l }) c.push_reserved.ensures.items)
