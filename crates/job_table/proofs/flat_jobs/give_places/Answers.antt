use Rattle.std.proofs.Common.{◌+◌, ◌-◌, ◌++◌, ℕ, replicate, arith, ap, sym, ◌∙◌, vec_len}
use Rattle.job_table.specs.Flat.{blank}
use Rattle.job_table.proofs.Reading.{lacks_all}
use Rattle.job_table.proofs.flat_jobs.give_places.Goals as goal

pub fill_places-requires : goal.fill_places-requires
fill_places-requires c = record { room = omega (arith, c.requires.room, c.requires.filled, c.len.ensures) }

pub returns-then-row-eq0-clause-placed : goal.returns-then-row-eq0-clause-placed
returns-then-row-eq0-clause-placed c =
    ap (λ (n : ℕ). c.args.placed.now + n) (sym (lacks_all c.args.row.now c.if-row-eq0.true).lacks)

pub returns-then-row-eq0-clause-places : goal.returns-then-row-eq0-clause-places
returns-then-row-eq0-clause-places c =
    c.fill_places.ensures.places
    ∙ ap (λ (n : ℕ). c.args.reads.now.items ++ replicate (c.args.placed.now - n) blank) c.len.ensures
    ∙ ap (λ (n : ℕ). c.args.reads.now.items ++ replicate n blank)
    (sym ((lacks_all c.args.row.now c.if-row-eq0.true).unfilled c.args.placed.now (vec_len c.args.reads.now)))
