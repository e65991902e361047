use Rattle.std.proofs.Common.{◌≡◌, ◌+◌, ◌∷◌, [], true, length, vec_len, ap, sym, ◌∙◌, subst, arith}
use Rattle.std.proofs.lemmas.List.{length-append}
use Rattle.std.proofs.lemmas.List.Elements.{recursion_from_All}
use Rattle.std.proofs.lemmas.Iterator.Adapters.{YieldsList-from_vec}
use Rattle.std.proofs.lemmas.Iterator.Consumers.{YieldsList-end}
use Rattle.std.specs.List.{AllByRecursion}
use Rattle.std.proofs.lemmas.Grind.{common_steps}
use Rattle.die_service.specs.Stores.{DiePass, HasLogOf}
use Rattle.die_service.proofs.LastPasses.{next_own, one_closed, as_they_are, more_yielded}
use Rattle.die_service.proofs.closing.close_each.Goals as goal

pub loop-pass-init : goal.loop-pass-init
loop-pass-init g c =
    let items = c.into_iter-pass-iterator.ensures.into_iter_gives.0 in record {
      can_next = tt;
      is_finite = tt;
      room = c.requires.room;
      passes = sym items;
      cores = omega (arith, c.args.cores.ok.0, ap length c.requires.none);
      own = rw (items, c.into_iter-dies.ensures.rest) c.requires.own;
      sole = rw items (recursion_from_All (λ (p : DiePass). p.view.sole ≡ true) c.args.passes.items c.requires.sole);
      closed = rw c.requires.none tt;
    }

pub loop-pass-preserved : goal.loop-pass-preserved
loop-pass-preserved g c =
    let i = c.loop-pass.invariant in
    let step = c.in-Some.ensures.steps.0 in
    let book = c.in-Ok.ensures.closed in
    let own = c.in-Ok.ensures.own in
    let core = c.into_core-core.ensures in
    let has : HasLogOf g.N.Nand.never_fails c.in-Some.pass c.into_core-core.result = record {
      calls_are = rw core.die book.0;
      promised = c.promises.ensures;
      runs = core.runs;
      about_is = rw core.die book.1;
      all_joined = book.2;
      by_own = rw core.die own;
    } in record {
      can_next = tt;
      is_finite = tt;
      room = rw c.push_reserved.ensures.capacity i.room;
      passes = more_yielded {A = DiePass} _ c.loop-pass.yielded _ c.in-Some.pass _ i.passes step;
      cores = c.push_reserved.ensures.len ∙ (ap (λ n. n + 1) i.cores ∙ sym (length-append c.loop-pass.yielded (c.in-Some.pass ∷ [])));
      own = next_own (λ (p : DiePass). p.lock) _ _ _ _ c.in-Some.pass c.in-Some-next.die i.own step c.in-Some-next.ensures.items;
      sole = (subst (AllByRecursion (λ (p : DiePass). p.view.sole ≡ true)) step i.sole).1;
      closed = rw c.push_reserved.ensures.items (one_closed g.N.Nand.never_fails c.loop-pass.yielded c.loop-pass.cores.items c.in-Some.pass
          c.into_core-core.result i.closed has);
    }

pub returns : goal.returns
returns g c =
    let gives = c.into_iter-pass-iterator.ensures.into_iter_gives in
    let whole : vec_len c.args.passes ≡ length c.args.passes.items = c.args.passes.ok.0 in
    let given = YieldsList-from_vec c.args.passes.items gives.0 (gives.1 ∙ whole) in
    let all = YieldsList-end given c.loop-pass.yielded c.loop-pass.pass-iterator c.loop-pass.yielded_by c.next.result c.next.new.self
    c.in-None.is c.next.ensures.steps in
    rw (sym all.0, as_they_are c.loop-pass.yielded) c.loop-pass.invariant.closed

pub unreachable-requires : goal.unreachable-requires
unreachable-requires g c = grind (arith, common_steps)

pub unreachable-requires-in_default-close : goal.unreachable-requires-in_default-close
unreachable-requires-in_default-close g c =
    let sole = (subst (AllByRecursion (λ (p : DiePass). p.view.sole ≡ true)) c.in-Some.ensures.steps.0 c.loop-pass.invariant.sole).0 in
    cc (c.in_default-close.ensures.sole sole)

pub push_reserved-requires : goal.push_reserved-requires
push_reserved-requires g c = grind (arith, common_steps)
