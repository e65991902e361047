use Rattle.std.proofs.Common.{◌≡◌, ◌<◌, List, Some, length, take, slice_get, vec_len, rules, arith, refl, sym, ap, ◌∙◌}
use Rattle.std.proofs.lemmas.Option.{slice_get_read}
use Rattle.slot_types.specs.declared.events.Op.{Op}
use Rattle.slot_types.specs.declared.pages.PageData.{PageData}
use Rattle.slot_types.specs.Operations.{page_of, writes}
use Rattle.slot_types.specs.Packing.{kind_of, ops_of}
use Rattle.slot_types.specs.Arenas.{Arena}
use Rattle.slot_types.proofs.Packed.{read_at, written_at, trimmed_at, bytes_there, known}
use Rattle.slot_types.proofs.op_arena.OpArena.get.Goals as goal

pub index-requires-in-Write : goal.index-requires-in-Write
index-requires-in-Write c =
    let f = c.self.inside in
    let ops = ops_of f.kinds.items f.pages.items f.bytes.items in
    let len = ap length (ap (λ (a : Arena). a.ops) c.self.view_is) in
    let within : c.args.place < length ops = omega (arith, c.requires.there, len) in
    let kind = known kind_of ops f.kinds.items c.args.place c.index.result.now within c.self.invariant.0.kinds_are c.index.ensures
    ∙ ap Some c.in-Write.is in
    let rank = c.requires.writes ∙ sym (ap (λ (l : List Op). writes (take c.args.place l)) (ap (λ (a : Arena). a.ops) c.self.view_is)) in
    let there = bytes_there ops c.args.place c.args.before kind rank in
    let all : vec_len f.bytes ≡ length f.bytes.items = search rules in
    omega (arith, there, all, ap length c.self.invariant.0.bytes_are)

pub returns-in-Read : goal.returns-in-Read
returns-in-Read c =
    let f = c.self.inside in
    let ops = ops_of f.kinds.items f.pages.items f.bytes.items in
    let len = ap length (ap (λ (a : Arena). a.ops) c.self.view_is) in
    let within : c.args.place < length ops = omega (arith, c.requires.there, len) in
    let kind = known kind_of ops f.kinds.items c.args.place c.index.result.now within c.self.invariant.0.kinds_are c.index.ensures
    ∙ ap Some c.in-Read.is in
    let page = known page_of ops f.pages.items c.args.place c.index-page.result.now within c.self.invariant.0.pages_are c.index-page.ensures in
    sym (ap (λ (l : List Op). slice_get l c.args.place) (ap (λ (a : Arena). a.ops) c.self.view_is)) ∙ read_at ops c.args.place c.index-page.result.now kind page

pub returns-in-Write : goal.returns-in-Write
returns-in-Write c =
    let f = c.self.inside in
    let ops = ops_of f.kinds.items f.pages.items f.bytes.items in
    let len = ap length (ap (λ (a : Arena). a.ops) c.self.view_is) in
    let within : c.args.place < length ops = omega (arith, c.requires.there, len) in
    let kind = known kind_of ops f.kinds.items c.args.place c.index.result.now within c.self.invariant.0.kinds_are c.index.ensures
    ∙ ap Some c.in-Write.is in
    let page = known page_of ops f.pages.items c.args.place c.index-page.result.now within c.self.invariant.0.pages_are c.index-page.ensures in
    let rank = c.requires.writes ∙ sym (ap (λ (l : List Op). writes (take c.args.place l)) (ap (λ (a : Arena). a.ops) c.self.view_is)) in
    let there = bytes_there ops c.args.place c.args.before kind rank in
    let short : c.args.before < length f.bytes.items = omega (arith, there, ap length c.self.invariant.0.bytes_are) in
    let bytes = slice_get_read f.bytes.items (length f.bytes.items) c.args.before c.index-in-Write.result.now refl short c.index-in-Write.ensures in
    sym (ap (λ (l : List Op). slice_get l c.args.place) (ap (λ (a : Arena). a.ops) c.self.view_is))
    ∙ written_at ops c.args.place c.index-page.result.now c.args.before c.index-in-Write.result.now kind page rank
    (ap (λ (l : List PageData). slice_get l c.args.before) (sym c.self.invariant.0.bytes_are) ∙ bytes)

pub returns-in-Trim : goal.returns-in-Trim
returns-in-Trim c =
    let f = c.self.inside in
    let ops = ops_of f.kinds.items f.pages.items f.bytes.items in
    let len = ap length (ap (λ (a : Arena). a.ops) c.self.view_is) in
    let within : c.args.place < length ops = omega (arith, c.requires.there, len) in
    let kind = known kind_of ops f.kinds.items c.args.place c.index.result.now within c.self.invariant.0.kinds_are c.index.ensures
    ∙ ap Some c.in-Trim.is in
    let page = known page_of ops f.pages.items c.args.place c.index-page.result.now within c.self.invariant.0.pages_are c.index-page.ensures in
    sym (ap (λ (l : List Op). slice_get l c.args.place) (ap (λ (a : Arena). a.ops) c.self.view_is)) ∙ trimmed_at ops c.args.place c.index-page.result.now kind page
