use Rattle.std.proofs.Common.{refl}
use Rattle.std.proofs.lemmas.List.{set-set}
use Rattle.victim_pick.proofs.victims.Victims.lower.Goals as goal

pub returns-in-Some : goal.returns-in-Some
returns-in-Some c = rw (c.insert.ensures, c.remove.ensures.gone, set-set, ← c.in-Some.ensures, ← c.self.view_is) refl
