use Rattle.std.proofs.Common.{rules, arith, ◌≡◌, ◌≤◌, ◌<◌, ◌++◌, ℕ, List, [], ap, sym, subst, ◌∙◌, length, take, drop}
use Rattle.std.specs.Prelude.{All, None}
use Rattle.std.proofs.lemmas.List.{length-take, length-take-le, take-append-le}
use Rattle.std.proofs.lemmas.List.Elements.{All-from_get_or, All-take}
use Rattle.csv.proofs.ReadFacts.{prepend-nil}
use Rattle.text_base.proofs.MarkLaws.{IsByte, bytes-plain, consumes-none, end-marked, left-fresh, marked-nil, not-some, read-marked}
use Rattle.text_base.proofs.bounded.BoundedRead.read.Goals as goal
use Rattle.text_base.proofs.bounded.BoundedRead.read.Goals.{then-self-via-then-self, then-self-via-else-self+then-is_empty}

pub returns-then-self-clause-bytes : goal.returns-then-self-clause-bytes
returns-then-self-clause-bytes g c = (
  consumes-none _,
  λ none some. elim c.then-self.branch [
    | then-self-via-then-self w ↦ rw w.if-self.true (marked-nil _)
    | then-self-via-else-self+then-is_empty w ↦ absurd (search rules)
  ],
)

pub returns-then-branch-eq0-clause-bytes : goal.returns-then-branch-eq0-clause-bytes
returns-then-branch-eq0-clause-bytes g c =
    let past : c.args.self.now.past ≡ None = not-some c.args.self.now.past (sym c.is_some.ensures ∙ c.if-is_some.false) in
    let front : take c.in_ok-read_again.field-0 c.read_again.new.buf ≡ [] = ap (λ n. take n c.read_again.new.buf) c.if-branch-eq0.true in
    let taken = c.in_ok-read_again.ensures.bytes in
    let room : 0 < length c.read_again.new.buf = omega (arith, c.read_again.auto.buf) in
    rw (left-fresh g.R.Read.remaining c.args.self.now c.if-self.false past)
    (end-marked c.args.self.now.room _ _ _ front taken.0 (taken.1 c.if-branch-eq0.true room), λ none some. marked-nil _)

pub returns-clause-bytes : goal.returns-clause-bytes
returns-clause-bytes g c =
    let n = c.in_ok-n.n in
    let room = c.args.self.now.room in
    let given : List ℕ = c.read_again-2.new.buf in
    let beyond : List ℕ = drop c.min-most.result c.args.buf.now in
    let past : c.args.self.now.past ≡ None = not-some c.args.self.now.past (sym c.is_some.ensures ∙ c.if-is_some.false) in
    let few : n ≤ length given = c.in_ok-n.ensures.bound.0 in
    let size : length given ≡ length (take c.min-most.result c.args.buf.now) = c.read_again-2.auto.buf in
    let within : n ≤ room = omega (arith, few, size, length-take c.min-most.result c.args.buf.now, c.min-most.ensures) in
    let some : 0 < length c.args.buf.now = search rules in
    let there : 0 < length given = omega (
      arith,
      some,
      size,
      length-take c.min-most.result c.args.buf.now,
      c.min-most.ensures,
      c.if-self-eq0.false,
    ) in
    let same : take n (given ++ beyond) ≡ take n given = take-append-le n given beyond few in
    let whole : All IsByte (given ++ beyond) = All-from_get_or IsByte (given ++ beyond) 0 (λ i lt. (c.type_inv.buf i).fits) in
    let bytes : All IsByte (take n given) = subst (All IsByte) same (All-take IsByte n (given ++ beyond) whole) in
    let taken = c.in_ok-n.ensures.bytes in
    let read = read-marked room n _ _ (take n given) taken.0 (λ zero. taken.1 zero there) (length-take-le n given few) within
    (bytes-plain (take n given) bytes) in
    rw (left-fresh g.R.Read.remaining c.args.self.now c.if-self.false past, past, prepend-nil (g.R.Read.remaining c.read_again-2.new.reader), same)
    (read.0, λ zero more. read.1 zero)
