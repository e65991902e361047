use Rattle.std.proofs.Common.{List, length, nat_le, option_map, arith, sym, ap, ◌∙◌}
use Rattle.std.specs.List.{find}
use Rattle.std.proofs.lemmas.List.Folds.{find-append}
use Rattle.slot_types.specs.declared.events.Op.{Op}
use Rattle.slot_types.specs.Operations.{page_of, writes}
use Rattle.slot_types.specs.Packing.{ops_of}
use Rattle.slot_types.proofs.Packed.{writes-append, length-bytes, first_page, first_stays, first_after, none_of}
use Rattle.slot_types.proofs.lent_ops.LentOps.count.Goals as goal

pub returns-in-Err-clause-missing : goal.returns-in-Err-clause-missing
returns-in-Err-clause-missing c =
    let f = c.self.inside in
    let ops = ops_of f.kinds.now f.pages.now f.bytes.now in
    sym (ap (λ (l : List Op). option_map page_of (find (λ op. nat_le c.args.pages (page_of op)) l)) c.self.view_is)
    ∙ ap (option_map page_of) (find-append (λ op. nat_le c.args.pages (page_of op)) f.list.now ops)
    ∙ first_stays page_of _ _ c.in-Err.page c.in-Err.ensures.missing

pub returns-in-Some-clause-missing : goal.returns-in-Some-clause-missing
returns-in-Some-clause-missing c =
    let f = c.self.inside in
    let ops = ops_of f.kinds.now f.pages.now f.bytes.now in
    sym (ap (λ (l : List Op). option_map page_of (find (λ op. nat_le c.args.pages (page_of op)) l)) c.self.view_is)
    ∙ ap (option_map page_of) (find-append (λ op. nat_le c.args.pages (page_of op)) f.list.now ops)
    ∙ first_after page_of _ _ c.in-Ok.ensures.all_there
    ∙ first_page c.args.pages ops
    ∙ ap (find (nat_le c.args.pages)) (sym c.self.invariant.pages_are)
    ∙ sym c.in-Some.ensures

pub returns-in-None-clause-writes : goal.returns-in-None-clause-writes
returns-in-None-clause-writes c =
    let f = c.self.inside in
    let ops = ops_of f.kinds.now f.pages.now f.bytes.now in
    let bytes = ap length c.self.invariant.bytes_are ∙ length-bytes ops in
    let all = ap writes c.self.view_is in
    omega (arith, c.in-Ok.ensures.writes, bytes, all, writes-append f.list.now ops)

pub returns-in-None-clause-all_there : goal.returns-in-None-clause-all_there
returns-in-None-clause-all_there c =
    let f = c.self.inside in
    let ops = ops_of f.kinds.now f.pages.now f.bytes.now in
    none_of page_of _ (
    sym (ap (λ (l : List Op). option_map page_of (find (λ op. nat_le c.args.pages (page_of op)) l)) c.self.view_is)
    ∙ ap (option_map page_of) (find-append (λ op. nat_le c.args.pages (page_of op)) f.list.now ops)
    ∙ first_after page_of _ _ c.in-Ok.ensures.all_there
    ∙ first_page c.args.pages ops
    ∙ ap (find (nat_le c.args.pages)) (sym c.self.invariant.pages_are)
    ∙ sym c.in-None.ensures)
