use Rattle.std.proofs.Common.{◌≡◌, ◌∙◌, ◌*◌, ap, sym, get_or, None, ℕ}
use Rattle.slot_types.specs.Places.{owner_of}
use Rattle.page_map.specs.Tables.{places_of, owners_of}
use Rattle.page_map.proofs.Laid.{read-laid}
use Rattle.page_map.proofs.Moving.{said}
use Rattle.page_map.proofs.map.PageMap.owner.Goals as goal

pub returns-clause-lies : goal.returns-clause-lies
returns-clause-lies c =
    let m = c.self.inside in
    let cell = rw (← c.self.view_is) at c.requires in
    let read : c.number.result ≡ owner_of (places_of m) c.args.place = c.number.ensures ∙ rw c.deref.ensures.value at c.read.ensures
    ∙ sym (read-laid (m.shape.blocks * m.shape.pages) m.owners.items c.cell.result)
    ∙ ap (λ (n : ℕ). get_or (owners_of m) n None) c.cell.ensures ∙ c.self.invariant.tables.owners_are c.args.place cell in
    rw (← c.self.view_is) (said (places_of m) c.args.place c.number.result read)
