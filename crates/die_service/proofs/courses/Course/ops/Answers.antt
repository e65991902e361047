use Rattle.std.proofs.Common.{◌≡◌, ℕ, suc, ◌-◌, sym, ap, ◌∙◌, arith}
use Rattle.die_service.specs.Drives.{Course}
use Rattle.die_service.specs.Feeds.{last_ops}
use Rattle.die_service.proofs.courses.Course.ops.Goals as goal

pub returns-then-self-eq0 : goal.returns-then-self-eq0
returns-then-self-eq0 c = c.none.ensures ∙ sym (ap (λ (n : ℕ). last_ops n c.self.inside.feed) c.if-self-eq0.true)
    ∙ ap (λ (k : Course). k.ops) c.self.view_is

pub returns : goal.returns
returns c =
    let f = c.self.inside in
    let next : f.place ≡ suc (f.place - 1) = omega (arith, c.if-self-eq0.false) in
    c.ops.ensures ∙ sym (ap (λ (n : ℕ). last_ops n f.feed) next) ∙ ap (λ (k : Course). k.ops) c.self.view_is
