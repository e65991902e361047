use Rattle.std.proofs.Common.{◌≡◌, ◌-◌, ◌∙◌, sym, ap, arith}
use Rattle.late_cert.specs.declared.carried.Run.{Run}
use Rattle.late_cert.proofs.RowSearch.{get-same}
use Rattle.late_cert.proofs.Runs.{slots-push, slots-longer, same-carried}
use Rattle.late_cert.proofs.carried.add_run.Goals as goal

pub returns-in-Some-clause-slots : goal.returns-in-Some-clause-slots
returns-in-Some-clause-slots c =
    let runs = c.args.runs.now.items in
    let i = c.len-count.result - 1 in
    let last = c.index_mut.result.now in
    let seen : c.index.result.now ≡ last =
    c.index.ensures ∙ get-same runs i c.index.result.now last (omega arith) ∙ sym c.index_mut.ensures.value in
    let again : c.index-then-eq.result.now ≡ last =
    c.index-then-eq.ensures ∙ get-same runs i c.index-then-eq.result.now last (omega arith) ∙ sym c.index_mut.ensures.value in
    let l = ap (λ (run : Run). run.length) again in
    let sum = c.in-Some.ensures in
    let number = same-carried c.index.result.now.number c.args.number (sym c.eq.ensures ∙ c.if-eq.true) in
    slots-longer runs i last c.args.number c.in-Some.longer c.args.length
    (omega arith) c.index_mut.ensures.value (sym (ap (λ (run : Run). run.number) seen) ∙ number) (omega (arith, sum.1, l))

pub returns-clause-slots : goal.returns-clause-slots
returns-clause-slots c = rw c.push_reserved.ensures.items (slots-push c.args.runs.now.items _)
