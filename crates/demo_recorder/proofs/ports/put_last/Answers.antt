use Rattle.std.proofs.Common.{◌≡◌, Bool, true, false, if◌then◌else◌, List, [], ◌∷◌, ◌++◌}
use Rattle.std.specs.Prelude.{All, is_ok}
use Rattle.std.proofs.lemmas.List.Elements.{All-push}
use Rattle.planned_ports.specs.Ports.{TaskParts}
use Rattle.demo_recorder.proofs.ports.put_last.Goals as goal

with_one : {X : Type 0} (P : X → Type 0) (xs : List X) (x : X) (b : Bool) → All P xs → P x → All P (if b then xs ++ x ∷ [] else xs)
with_one P xs x true all one = All-push P xs x all one
with_one P xs x false all one = all

pub returns : goal.returns
returns g c =
    rw c.push.ensures.items (with_one (λ (p : TaskParts g.row.N.Denot). p.lock ≡ c.args.die.now) c.args.ports.now.items c.args.port (is_ok c.push.result)
    c.requires.ports c.requires.own)
