use Rattle.std.proofs.Common.{rules, ◌≡◌, None}
use Rattle.std.specs.Prelude.{IsSome}
use Rattle.slot_types.specs.Places.{place_of}
use Rattle.die_mount.proofs.PagesFound.{only_blank}
use Rattle.die_mount.proofs.scan.Scan.first_lost.Goals as goal

pub returns-then-is_none-clause-undone : goal.returns-then-is_none-clause-undone
returns-then-is_none-clause-undone c = λ plan seen block pages h later can.
    let lay : IsSome (place_of c.args.before.now.places c.loop-page.page) = search rules in
    let lost : place_of c.args.self.now.places c.loop-page.page ≡ None = search rules in
    only_blank plan c.args.before.now c.args.self.now seen block pages h later can c.loop-page.page lay lost
