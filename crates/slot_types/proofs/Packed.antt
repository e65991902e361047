-- Operations in lists: what the lists stand for, parts of them, and what is read of them.
use Rattle.std.proofs.Common.{◌≡◌, ℕ, zero, suc, ◌+◌, ◌-◌, ◌<◌, ◌≤◌, Bool, true, false, cond, List, [], ◌∷◌, ◌++◌, Option, Some, None, refl, sym, ap, ◌∙◌, subst}
use Rattle.std.proofs.Common.{arith, add-one, map, take, drop, length, slice_get, get_or, count_by, nat_le, option_map}
use Rattle.std.specs.List.{find}
use Rattle.std.specs.Option.{option_or}
use Rattle.std.proofs.Math.Seq.{take-add, take-append_seam, drop-append_seam}
use Rattle.std.proofs.lemmas.List.{length-map, map-append, take-map, drop-map, take-append-drop}
use Rattle.std.proofs.lemmas.List.Sums.{sum_by-cons, sum_by-append, sum_by-take-drop}
use Rattle.std.proofs.lemmas.Option.{none-some, same_Some, slice_get_read}
use Rattle.slot_types.specs.declared.events.Op.{Op}
use Rattle.slot_types.specs.declared.events.Op.TheVariants.{Read, Write, Trim}
use Rattle.slot_types.specs.declared.op_kinds.OpKind.{OpKind}
use Rattle.slot_types.specs.declared.op_kinds.OpKind.TheVariants as kinds
use Rattle.slot_types.specs.declared.pages.PageData.{PageData}
use Rattle.slot_types.specs.Operations.{page_of, is_read, is_write, is_some_write, writes}
use Rattle.slot_types.specs.Packing as packing
use Rattle.slot_types.specs.Packing.{kind_of, bytes_of, ops_of, ArePacked}

-- What lists stand for

unpacked : (ops : List Op) → ops_of (map kind_of ops) (map page_of ops) (bytes_of ops) ≡ ops
unpacked [] = refl
unpacked (Read page ∷ ops) = ap (λ (l : List Op). Read page ∷ l) (unpacked ops)
unpacked (Write page bytes ∷ ops) = ap (λ (l : List Op). Write page bytes ∷ l) (unpacked ops)
unpacked (Trim page ∷ ops) = ap (λ (l : List Op). Trim page ∷ l) (unpacked ops)

pub packed_are : (kinds : List OpKind) (pages : List ℕ) (bytes : List PageData) (ops : List Op) → ArePacked kinds pages bytes ops
    → ops_of kinds pages bytes ≡ ops
packed_are kinds pages bytes ops are =
    ap (λ (k : List OpKind). ops_of k pages bytes) are.kinds_are
    ∙ ap (λ (p : List ℕ). ops_of (map kind_of ops) p bytes) are.pages_are
    ∙ ap (λ (b : List PageData). ops_of (map kind_of ops) (map page_of ops) b) are.bytes_are
    ∙ unpacked ops

-- .. so what they stand for is packed in them
pub packed_in : (kinds : List OpKind) (pages : List ℕ) (bytes : List PageData) (ops : List Op) → ArePacked kinds pages bytes ops
    → ArePacked kinds pages bytes (ops_of kinds pages bytes)
packed_in kinds pages bytes ops are = subst (ArePacked kinds pages bytes) (sym (packed_are kinds pages bytes ops are)) are

-- Lists one after another

bytes-append : (xs ys : List Op) → bytes_of (xs ++ ys) ≡ bytes_of xs ++ bytes_of ys
bytes-append [] ys = refl
bytes-append (Read page ∷ xs) ys = bytes-append xs ys
bytes-append (Write page bytes ∷ xs) ys = ap (λ (l : List PageData). bytes ∷ l) (bytes-append xs ys)
bytes-append (Trim page ∷ xs) ys = bytes-append xs ys

pub joined : (kinds kinds2 : List OpKind) (pages pages2 : List ℕ) (bytes bytes2 : List PageData) (ops ops2 : List Op)
    → ArePacked kinds pages bytes ops → ArePacked kinds2 pages2 bytes2 ops2
    → ArePacked (kinds ++ kinds2) (pages ++ pages2) (bytes ++ bytes2) (ops ++ ops2)
joined kinds kinds2 pages pages2 bytes bytes2 ops ops2 are more = record {
  kinds_are = ap (λ (l : List OpKind). l ++ kinds2) are.kinds_are ∙ ap (λ (l : List OpKind). map kind_of ops ++ l) more.kinds_are
      ∙ sym (map-append kind_of ops ops2);
  pages_are = ap (λ (l : List ℕ). l ++ pages2) are.pages_are ∙ ap (λ (l : List ℕ). map page_of ops ++ l) more.pages_are
      ∙ sym (map-append page_of ops ops2);
  bytes_are = ap (λ (l : List PageData). l ++ bytes2) are.bytes_are ∙ ap (λ (l : List PageData). bytes_of ops ++ l) more.bytes_are
      ∙ sym (bytes-append ops ops2);
}

pub of_list : (ops : List Op) → ArePacked (map kind_of ops) (map page_of ops) (bytes_of ops) ops
of_list ops = record { kinds_are = refl; pages_are = refl; bytes_are = refl }

-- Counts

abbrev one_if : Op → ℕ
one_if op = cond (is_write op) 1 0

abbrev read_if : Op → ℕ
read_if op = cond (is_read op) 1 0

abbrev kind_if : OpKind → ℕ
kind_if kind = cond (packing.writes kind) 1 0

abbrev read_kind_if : OpKind → ℕ
read_kind_if kind = cond (packing.reads kind) 1 0

pub length-bytes : (ops : List Op) → length (bytes_of ops) ≡ writes ops
length-bytes [] = refl
length-bytes (Read page ∷ ops) = let h = length-bytes ops in omega (arith, h, sum_by-cons one_if (Read page) ops)
length-bytes (Write page bytes ∷ ops) = let h = length-bytes ops in omega (arith, h, sum_by-cons one_if (Write page bytes) ops)
length-bytes (Trim page ∷ ops) = let h = length-bytes ops in omega (arith, h, sum_by-cons one_if (Trim page) ops)

-- by kind
pub count_writes : (ops : List Op) → count_by packing.writes (map kind_of ops) ≡ writes ops
count_writes [] = refl
count_writes (op ∷ ops) =
    let h = count_writes ops in
    omega (arith, h, same op, sum_by-cons kind_if (kind_of op) (map kind_of ops), sum_by-cons one_if op ops)
  where
    same : (op : Op) → kind_if (kind_of op) ≡ one_if op
    same (Read page) = refl
    same (Write page bytes) = refl
    same (Trim page) = refl

pub count_reads : (ops : List Op) → count_by packing.reads (map kind_of ops) ≡ count_by is_read ops
count_reads [] = refl
count_reads (op ∷ ops) =
    let h = count_reads ops in
    omega (arith, h, same op, sum_by-cons read_kind_if (kind_of op) (map kind_of ops), sum_by-cons read_if op ops)
  where
    same : (op : Op) → read_kind_if (kind_of op) ≡ read_if op
    same (Read page) = refl
    same (Write page bytes) = refl
    same (Trim page) = refl

pub writes-append : (xs ys : List Op) → writes (xs ++ ys) ≡ writes xs + writes ys
writes-append xs ys = sum_by-append one_if xs ys

-- Parts

bytes_split : (ops : List Op) (n : ℕ) → bytes_of ops ≡ bytes_of (take n ops) ++ bytes_of (drop n ops)
bytes_split ops n = ap bytes_of (sym (take-append-drop n ops)) ∙ bytes-append (take n ops) (drop n ops)

bytes-take : (ops : List Op) (n : ℕ) → bytes_of (take n ops) ≡ take (writes (take n ops)) (bytes_of ops)
bytes-take ops n = sym (
    ap (λ (k : ℕ). take k (bytes_of ops)) (sym (length-bytes (take n ops)))
    ∙ ap (take (length (bytes_of (take n ops)))) (bytes_split ops n)
    ∙ take-append_seam (bytes_of (take n ops)) (bytes_of (drop n ops)))

bytes-drop : (ops : List Op) (n : ℕ) → bytes_of (drop n ops) ≡ drop (writes (take n ops)) (bytes_of ops)
bytes-drop ops n = sym (
    ap (λ (k : ℕ). drop k (bytes_of ops)) (sym (length-bytes (take n ops)))
    ∙ ap (drop (length (bytes_of (take n ops)))) (bytes_split ops n)
    ∙ drop-append_seam (bytes_of (take n ops)) (bytes_of (drop n ops)))

-- the writes between two places
pub writes_between : (ops : List Op) (from to : ℕ) → from ≤ to
    → writes (take from ops) + writes (take (to - from) (drop from ops)) ≡ writes (take to ops)
writes_between ops from to up =
    let whole : from + (to - from) ≡ to = omega (arith, up) in
    sym (writes-append (take from ops) (take (to - from) (drop from ops)))
    ∙ ap writes (sym (take-add from (to - from) ops))
    ∙ ap (λ (n : ℕ). writes (take n ops)) whole

pub writes-take : (ops : List Op) (n : ℕ) → writes (take n ops) ≤ writes ops
writes-take ops n = omega (arith, sum_by-take-drop one_if ops n)

pub part_of : {A B : Type 0} (f : A → B) (xs : List A) (ys : List B) (from to : ℕ) → ys ≡ map f xs
    → take (to - from) (drop from ys) ≡ map f (take (to - from) (drop from xs))
part_of {A} {B} f xs ys from to is =
    ap (λ (l : List B). take (to - from) (drop from l)) is
    ∙ ap (take (to - from)) (drop-map f from xs)
    ∙ take-map f (to - from) (drop from xs)

pub part : (kinds : List OpKind) (pages : List ℕ) (bytes : List PageData) (ops : List Op) (from to writes_from writes_to : ℕ)
    → from ≤ to → writes_from ≡ writes (take from ops) → writes_to ≡ writes (take to ops) → ArePacked kinds pages bytes ops
    → ArePacked (take (to - from) (drop from kinds)) (take (to - from) (drop from pages))
    (take (writes_to - writes_from) (drop writes_from bytes)) (take (to - from) (drop from ops))
part kinds pages bytes ops from to writes_from writes_to up before after are = record {
  kinds_are = part_of kind_of ops kinds from to are.kinds_are;
  pages_are = part_of page_of ops pages from to are.pages_are;
  bytes_are =
      let between = writes_between ops from to up in
      let count : writes_to - writes_from ≡ writes (take (to - from) (drop from ops)) = omega (arith, between, before, after) in
      ap (λ (n : ℕ). take n (drop writes_from bytes)) count
      ∙ ap (λ (n : ℕ). take (writes (take (to - from) (drop from ops))) (drop n bytes)) before
      ∙ ap (λ (l : List PageData). take (writes (take (to - from) (drop from ops))) (drop (writes (take from ops)) l)) are.bytes_are
      ∙ ap (take (writes (take (to - from) (drop from ops)))) (sym (bytes-drop ops from))
      ∙ sym (bytes-take (drop from ops) (to - from));
}

-- What is read of a place

-- of a list that has something for each operation
pub known : {B : Type 0} (f : Op → B) (ops : List Op) (list : List B) (n : ℕ) (x : B) → n < length ops → list ≡ map f ops → x ≡ get_or list n x
    → slice_get (map f ops) n ≡ Some x
known {B} f ops list n x within is at =
    ap (λ (l : List B). slice_get l n) (sym is)
    ∙ slice_get_read list (length list) n x refl (omega (arith, within, ap length is, length-map ops f)) at

pub read_at : (ops : List Op) (n page : ℕ) → slice_get (map kind_of ops) n ≡ Some kinds.Read → slice_get (map page_of ops) n ≡ Some page
    → slice_get ops n ≡ Some (Read page)
read_at [] n page kind at = absurd (none-some kinds.Read kind)
read_at (Read q ∷ ops) zero page kind at = ap (λ (p : ℕ). Some (Read p)) (same_Some q page at)
read_at (Write q b ∷ ops) zero page kind at = absurd cc
read_at (Trim q ∷ ops) zero page kind at = absurd cc
read_at (op ∷ ops) (suc n) page kind at = read_at ops n page kind at

pub trimmed_at : (ops : List Op) (n page : ℕ) → slice_get (map kind_of ops) n ≡ Some kinds.Trim → slice_get (map page_of ops) n ≡ Some page
    → slice_get ops n ≡ Some (Trim page)
trimmed_at [] n page kind at = absurd (none-some kinds.Trim kind)
trimmed_at (Read q ∷ ops) zero page kind at = absurd cc
trimmed_at (Write q b ∷ ops) zero page kind at = absurd cc
trimmed_at (Trim q ∷ ops) zero page kind at = ap (λ (p : ℕ). Some (Trim p)) (same_Some q page at)
trimmed_at (op ∷ ops) (suc n) page kind at = trimmed_at ops n page kind at

-- a write's bytes have as many before them as there are writes before it
pub written_at : (ops : List Op) (n page k : ℕ) (bytes : PageData) → slice_get (map kind_of ops) n ≡ Some kinds.Write
    → slice_get (map page_of ops) n ≡ Some page → k ≡ writes (take n ops) → slice_get (bytes_of ops) k ≡ Some bytes
    → slice_get ops n ≡ Some (Write page bytes)
written_at [] n page k bytes kind at rank there = absurd (none-some kinds.Write kind)
written_at (Read q ∷ ops) zero page k bytes kind at rank there = absurd cc
written_at (Trim q ∷ ops) zero page k bytes kind at rank there = absurd cc
written_at (Write q b ∷ ops) zero page zero bytes kind at rank there =
    ap (λ (p : ℕ). Some (Write p b)) (same_Some q page at) ∙ ap (λ (x : PageData). Some (Write page x)) (same_Some b bytes there)
written_at (Write q b ∷ ops) zero page (suc k) bytes kind at rank there = absurd (omega (arith, rank))
written_at (Read q ∷ ops) (suc n) page k bytes kind at rank there =
    written_at ops n page k bytes kind at (omega (arith, rank, sum_by-cons one_if (Read q) (take n ops))) there
written_at (Trim q ∷ ops) (suc n) page k bytes kind at rank there =
    written_at ops n page k bytes kind at (omega (arith, rank, sum_by-cons one_if (Trim q) (take n ops))) there
written_at (Write q b ∷ ops) (suc n) page zero bytes kind at rank there =
    absurd (omega (arith, rank, sum_by-cons one_if (Write q b) (take n ops)))
written_at (Write q b ∷ ops) (suc n) page (suc k) bytes kind at rank there =
    written_at ops n page k bytes kind at (omega (arith, rank, sum_by-cons one_if (Write q b) (take n ops))) there

-- .. so they are there
pub bytes_there : (ops : List Op) (n k : ℕ) → slice_get (map kind_of ops) n ≡ Some kinds.Write → k ≡ writes (take n ops)
    → k < length (bytes_of ops)
bytes_there [] n k kind rank = absurd (none-some kinds.Write kind)
bytes_there (Read q ∷ ops) zero k kind rank = absurd cc
bytes_there (Trim q ∷ ops) zero k kind rank = absurd cc
bytes_there (Write q b ∷ ops) zero k kind rank = omega (arith, rank)
bytes_there (Read q ∷ ops) (suc n) k kind rank =
    bytes_there ops n k kind (omega (arith, rank, sum_by-cons one_if (Read q) (take n ops)))
bytes_there (Trim q ∷ ops) (suc n) k kind rank =
    bytes_there ops n k kind (omega (arith, rank, sum_by-cons one_if (Trim q) (take n ops)))
bytes_there (Write q b ∷ ops) (suc n) k kind rank =
    let h = bytes_there ops n (k - 1) kind (omega (arith, rank, sum_by-cons one_if (Write q b) (take n ops))) in
    omega (arith, h)

-- whether it is a write is known of its kind
pub write_known : (ops : List Op) (n : ℕ) (kind : OpKind) → slice_get (map kind_of ops) n ≡ Some kind
    → is_some_write (slice_get ops n) ≡ packing.writes kind
write_known [] n kind at = absurd (none-some kind at)
write_known (Read q ∷ ops) zero kind at = ap packing.writes (same_Some kinds.Read kind at)
write_known (Write q b ∷ ops) zero kind at = ap packing.writes (same_Some kinds.Write kind at)
write_known (Trim q ∷ ops) zero kind at = ap packing.writes (same_Some kinds.Trim kind at)
write_known (op ∷ ops) (suc n) kind at = write_known ops n kind at

-- One operation more

pub map_more : {B : Type 0} (f : Op → B) (ops : List Op) (n : ℕ) (op : Op) → slice_get ops n ≡ Some op
    → map f (take (n + 1) ops) ≡ map f (take n ops) ++ f op ∷ []
map_more {B} f ops n op at = rw add-one (by_op ops n op at)
  where
    by_op : (ops : List Op) (n : ℕ) (op : Op) → slice_get ops n ≡ Some op → map f (take (suc n) ops) ≡ map f (take n ops) ++ f op ∷ []
    by_op [] n op at = absurd (none-some op at)
    by_op (o ∷ ops) zero op at = ap (λ (x : Op). f x ∷ []) (same_Some o op at)
    by_op (o ∷ ops) (suc n) op at = ap (λ (l : List B). f o ∷ l) (by_op ops n op at)

pub bytes_more : (ops : List Op) (n : ℕ) (op : Op) → slice_get ops n ≡ Some op → bytes_of (take (n + 1) ops) ≡ bytes_of (take n ops)
    ++ bytes_of (op ∷ [])
bytes_more ops n op at = rw add-one (by_op ops n op at)
  where
    by_op : (ops : List Op) (n : ℕ) (op : Op) → slice_get ops n ≡ Some op → bytes_of (take (suc n) ops) ≡ bytes_of (take n ops)
        ++ bytes_of (op ∷ [])
    by_op [] n op at = absurd (none-some op at)
    by_op (o ∷ ops) zero op at = ap (λ (x : Op). bytes_of (x ∷ [])) (same_Some o op at)
    by_op (Read p ∷ ops) (suc n) op at = by_op ops n op at
    by_op (Write p b ∷ ops) (suc n) op at = ap (λ (l : List PageData). b ∷ l) (by_op ops n op at)
    by_op (Trim p ∷ ops) (suc n) op at = by_op ops n op at

-- those of one kind that are left from a place on
pub left : (p : Op → Bool) (ops : List Op) (n : ℕ) (op : Op) → slice_get ops n ≡ Some op → count_by p (drop n ops)
    ≡ cond (p op) 1 0 + count_by p (drop (n + 1) ops)
left p ops n op at = rw add-one (by_op ops n op at)
  where
    by_op : (ops : List Op) (n : ℕ) (op : Op) → slice_get ops n ≡ Some op → count_by p (drop n ops)
        ≡ cond (p op) 1 0 + count_by p (drop (suc n) ops)
    by_op [] n op at = absurd (none-some op at)
    by_op (o ∷ ops) zero op at =
        sum_by-cons (λ (x : Op). cond (p x) 1 0) o ops ∙ ap (λ (x : Op). cond (p x) 1 0 + count_by p ops) (same_Some o op at)
    by_op (o ∷ ops) (suc n) op at = by_op ops n op at

-- The first page that isn't there

abbrev beyond : ℕ → Op → Bool
beyond pages op = nat_le pages (page_of op)

pub first_page : (pages : ℕ) (ops : List Op) → option_map page_of (find (λ op. nat_le pages (page_of op)) ops)
    ≡ find (nat_le pages) (map page_of ops)
first_page pages [] = refl
first_page pages (op ∷ ops) =
    elim (nat_le pages (page_of op)) as (λ (v : Bool). option_map page_of (cond v (Some op) (find (λ op. nat_le pages (page_of op)) ops))
    ≡ cond v (Some (page_of op)) (find (nat_le pages) (map page_of ops))) [ true ↦ refl | false ↦ first_page pages ops ]

pub none_of : {A B : Type 0} (f : A → B) (o : Option A) → option_map f o ≡ None → o ≡ None
none_of f None is = refl
none_of f (Some x) is = absurd (none-some (f x) (sym is))

-- the first of one list stays the first of both
pub first_stays : {A B : Type 0} (f : A → B) (o r : Option A) (y : B) → option_map f o ≡ Some y → option_map f (option_or o r) ≡ Some y
first_stays f None r y is = absurd (none-some y is)
first_stays f (Some x) r y is = is

pub first_after : {A B : Type 0} (f : A → B) (o r : Option A) → o ≡ None → option_map f (option_or o r) ≡ option_map f r
first_after f None r is = refl
first_after f (Some x) r is = absurd (none-some x (sym is))
