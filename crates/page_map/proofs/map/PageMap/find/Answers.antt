use Rattle.std.proofs.Common.{◌≡◌, ◌∙◌, get_or, None, sym}
use Rattle.page_map.specs.Packing.{place_in}
use Rattle.page_map.specs.Tables.{places_of}
use Rattle.page_map.proofs.Cells.{found, some_pages}
use Rattle.page_map.proofs.Moving.{in_range}
use Rattle.page_map.proofs.map.PageMap.find.Goals as goal
use Rattle.page_map.proofs.map.PageMap.find.Goals.{After-read}

read_is : (c : After-read) → get_or (places_of c.self.inside) c.args.page None ≡ place_in c.self.inside.shape c.read.result
read_is c =
    let m = c.self.inside in
    found m.shape m.logical m.places.items c.args.page c.read.result (rw c.deref.ensures.value at c.read.ensures)

pub unpack-requires : goal.unpack-requires
unpack-requires c =
    let m = c.self.inside in
    some_pages m.shape c.read.result (λ place is. c.self.invariant.tables.within c.args.page place
    (read_is (goal.at.unpack-requires c).After-read ∙ is))

pub returns-clause-apart : goal.returns-clause-apart
returns-clause-apart c = rw (← c.self.view_is) c.self.invariant.tables.apart

pub returns-clause-place : goal.returns-clause-place
returns-clause-place c = rw (← c.self.view_is) (c.unpack.ensures ∙ sym (read_is (goal.at.returns-clause-place c).After-read))

pub returns-clause-in_range : goal.returns-clause-in_range
returns-clause-in_range c =
    let m = c.self.inside in
    rw (← c.self.view_is) (in_range m.shape c.unpack.result (λ place is. c.self.invariant.tables.within c.args.page place
    (read_is (goal.at.returns-clause-in_range c).After-read ∙ sym c.unpack.ensures ∙ is)))
