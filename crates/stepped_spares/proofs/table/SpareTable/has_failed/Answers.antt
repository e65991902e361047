use Rattle.std.proofs.Common.{◌∙◌, ◌<◌, ◌+◌, ap, sym, subst}
use Rattle.spare_blocks.specs.Tables.{Table, spares_in}
use Rattle.spare_blocks.proofs.Numbers.{spares_given_up}
use Rattle.stepped_spares.specs.Stepping.{IsSoundAt, calls_at, calls_left}
use Rattle.stepped_spares.proofs.Lefts.{left_after_spare}
use Rattle.stepped_spares.proofs.table.SpareTable.has_failed.Goals as goal

pub returns-in-Filling-clause-fewer : goal.returns-in-Filling-clause-fewer
returns-in-Filling-clause-fewer c =
    let f = c.in-Filling in
    let t = c.self.inside.table in
    let sound = subst (IsSoundAt t c.self.inside.pages) f.is c.self.invariant in
    let was = ap calls_left (sym c.self.view_is) ∙ ap (calls_at t) f.is in
    let one = ap (λ (u : Table). spares_in u + 1) c.give_up.ensures ∙ spares_given_up t f.spare sound.1 in
    subst (λ n. calls_at c.give_up.new.self c.next_fill-self-inside.result < n) (sym was)
    (left_after_spare c.give_up.new.self f.number f.cells f.cell (spares_in t) c.next_fill-self-inside.result c.next_fill-self-inside.ensures sound.2 one)
