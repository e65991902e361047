use Rattle.std.proofs.Common.{◌≡◌, ◌-◌, ◌∙◌, ◌∷◌, ◌++◌, [], List, sym, ap, length, arith, Some}
use Rattle.std.proofs.lemmas.Option.{same_Some}
use Rattle.event_log.specs.Spread.{Spread, spread, last_of}
use Rattle.event_log.proofs.Spreading.{last_run, run_fits, some_run, spread-push, spread-longer}
use Rattle.event_log.proofs.runs.Runs.push_reserved.Goals as goal

pub overflow_add-index_mut : goal.overflow_add-index_mut
overflow_add-index_mut g c =
    let same : spread c.self.inside.runs.items ≡ c.args.self.now.items = ap (λ (s : Spread _). s.items) c.self.view_is in
    let some = some_run c.self.inside.runs.items c.args.item (rw same (c.requires.like c.if-is_like_last.true)) in
    let fits = run_fits c.self.inside.runs.items (c.len-last.result - 1) c.index_mut.result.now
    (omega (arith, c.self.inside.runs.ok.0, some)) c.index_mut.ensures.value in
    omega (arith, c.requires.few, fits, ap (λ (xs : List _). length xs) same)

pub returns-then-is_like_last-clause-items : goal.returns-then-is_like_last-clause-items
returns-then-is_like_last-clause-items g c =
    let same : spread c.self.inside.runs.items ≡ c.args.self.now.items = ap (λ (s : Spread _). s.items) c.self.view_is in
    let some = some_run c.self.inside.runs.items c.args.item (rw same (c.requires.like c.if-is_like_last.true)) in
    let last = last_run c.self.inside.runs.items (c.len-last.result - 1) c.index_mut.result.now
    (omega (arith, c.self.inside.runs.ok.0, some)) c.self.invariant.0 c.index_mut.ensures.value in
    let like : last_of (spread c.self.inside.runs.items) ≡ Some c.args.item = rw same (c.requires.like c.if-is_like_last.true) in
    let item : c.index_mut.result.now.item ≡ c.args.item = same_Some _ _ (sym last ∙ like) in
    spread-longer c.self.inside.runs.items (c.len-last.result - 1) c.index_mut.result.now (omega (arith, c.self.inside.runs.ok.0, some))
    c.index_mut.ensures.value
    ∙ ap (λ x. spread c.self.inside.runs.items ++ x ∷ []) item
    ∙ ap (λ xs. xs ++ c.args.item ∷ []) same

pub returns-else-is_like_last-clause-items : goal.returns-else-is_like_last-clause-items
returns-else-is_like_last-clause-items g c =
    rw (c.push_reserved.ensures.items, ← c.self.view_is) (spread-push c.self.inside.runs.items _)
