use Rattle.std.proofs.Common.{◌≡◌, ◌<◌, ◌≤◌, ℕ, Option, Some, None, length, get_or, set, sym, ap, subst, ◌∙◌, List, arith}
use Rattle.std.proofs.lemmas.List.{get_or_read, length-set}
use Rattle.victim_pick.specs.Candidates.{count_of}
use Rattle.victim_pick.specs.Links.{AreLinked, set_at}
use Rattle.victim_pick.proofs.Setting.{written_back, counted_below, length-set_at}
use Rattle.victim_pick.proofs.Coming.{linked_come}
use Rattle.victim_pick.proofs.lists.Lists.insert.Goals as goal

pub set_at-requires : goal.set_at-requires
set_at-requires c =
    let v = c.self.inside in
    let fits : c.args.count ≤ v.pages = rw (← c.self.view_is) at c.requires.fits in
    let in_firsts : c.args.count < length v.firsts.items = omega (arith, fits, c.self.invariant.firsts_len) in
    let read : c.index-first.result.now ≡ get_or v.firsts.items c.args.count None = get_or_read v.firsts.items c.args.count
    c.index-first.result.now in_firsts c.index-first.ensures None in
    λ x is.
    let counted : count_of v.counts.items x ≡ Some c.args.count = (c.self.invariant.firsts_are c.args.count fits).counted x
    (sym read ∙ is) in
    omega (
      arith,
      counted_below v.counts.items x c.args.count counted,
      c.self.invariant.befores_len,
      c.deref_mut.ensures.len,
      ap length c.deref_mut.ensures.value,
      length-set {A = Option ℕ} v.befores.items c.args.block None,
    )

pub invariant_of-self : goal.invariant_of-self
invariant_of-self c =
    let v = c.self.inside in
    let fits : c.args.count ≤ v.pages = rw (← c.self.view_is) at c.requires.fits in
    let below : c.args.block < length v.counts.items = rw (← c.self.view_is) at c.requires.in_range in
    let free : count_of v.counts.items c.args.block ≡ None = rw (← c.self.view_is) at c.requires.free in
    let in_firsts : c.args.count < length v.firsts.items = omega (arith, fits, c.self.invariant.firsts_len) in
    let first = c.index-first.result.now in
    let read : first ≡ get_or v.firsts.items c.args.count None = get_or_read v.firsts.items c.args.count first in_firsts
    c.index-first.ensures None in
    let old = set v.befores.items c.args.block None in
    let old_len : length old ≡ length v.befores.items = length-set v.befores.items c.args.block None in
    let links_are : c.set_at.new.links ≡ set_at old first (Some c.args.block) = c.set_at.ensures
    ∙ ap (λ (l : List (Option ℕ)). set_at l first (Some c.args.block)) c.deref_mut.ensures.value in
    let same_len : length c.set_at.new.links ≡ length old = ap length links_are ∙ length-set_at old first (Some c.args.block) in
    let written = written_back v.befores.len c.set_at.new.links old same_len (omega (arith, old_len, v.befores.ok)) ∙ links_are in
    subst
    (λ (l : List (Option ℕ)). AreLinked v.pages (set v.counts.items c.args.block (Some c.args.count))
    (set v.firsts.items c.args.count (Some c.args.block)) (set v.nexts.items c.args.block first) l) (sym written)
    (linked_come v.pages v.counts.items v.firsts.items v.nexts.items v.befores.items c.args.count c.args.block first c.self.invariant
    below free fits read)
