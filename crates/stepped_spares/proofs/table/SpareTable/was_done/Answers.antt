use Rattle.std.proofs.Common.{◌∙◌, ◌<◌, ◌+◌, ◌*◌, ◌-◌, ap, sym, subst}
use Rattle.spare_blocks.specs.Tables.{spares_in}
use Rattle.stepped_spares.specs.Stepping.{IsSoundAt, calls_at, calls_left}
use Rattle.stepped_spares.proofs.Lefts.{copy_less, some_left, some_spare}
use Rattle.stepped_spares.proofs.table.SpareTable.was_done.Goals as goal

pub returns-then-cell-cells-clause-fewer : goal.returns-then-cell-cells-clause-fewer
returns-then-cell-cells-clause-fewer c =
    let f = c.in-Filling in
    let t = c.self.inside.table in
    let sound = subst (IsSoundAt t c.self.inside.pages) f.is c.self.invariant in
    let was = ap calls_left (sym c.self.view_is) ∙ ap (calls_at t) f.is in
    subst (λ n. (2 * f.cells + 1) * spares_in t - 2 * (f.cell + 1) < n) (sym was)
    (copy_less f.cells (spares_in t) f.cell c.if-cell-cells.true (some_spare t f.spare sound.1))

pub returns-else-cell-cells-clause-fewer : goal.returns-else-cell-cells-clause-fewer
returns-else-cell-cells-clause-fewer c =
    let f = c.in-Filling in
    let t = c.self.inside.table in
    let sound = subst (IsSoundAt t c.self.inside.pages) f.is c.self.invariant in
    let was = ap calls_left (sym c.self.view_is) ∙ ap (calls_at t) f.is in
    subst (λ n. 0 < n) (sym was) (some_left f.cells (spares_in t) f.cell sound.2 (some_spare t f.spare sound.1))
