-- Operations in three lists: what each does, on which page, and the bytes of those that write.
use Rattle.std.specs.Prelude.{◌≡◌, ℕ, Bool, true, false, List, [], ◌∷◌, map}
use Rattle.slot_types.specs.declared.events.Op.{Op}
use Rattle.slot_types.specs.declared.events.Op.TheVariants as asks
use Rattle.slot_types.specs.declared.op_kinds.OpKind.{OpKind}
use Rattle.slot_types.specs.declared.op_kinds.OpKind.TheVariants as kinds
use Rattle.slot_types.specs.declared.pages.PageData.{PageData}
use Rattle.slot_types.specs.Operations.{page_of}

abbrev pub kind_of : Op → OpKind
kind_of (asks.Read page) = kinds.Read
kind_of (asks.Write page bytes) = kinds.Write
kind_of (asks.Trim page) = kinds.Trim

abbrev pub reads : OpKind → Bool
reads kinds.Read = true
reads kinds.Write = false
reads kinds.Trim = false

abbrev pub writes : OpKind → Bool
writes kinds.Read = false
writes kinds.Write = true
writes kinds.Trim = false

-- the bytes of those that write, in their order
abbrev pub bytes_of : List Op → List PageData
bytes_of [] = []
bytes_of (asks.Read page ∷ ops) = bytes_of ops
bytes_of (asks.Write page bytes ∷ ops) = bytes ∷ bytes_of ops
bytes_of (asks.Trim page ∷ ops) = bytes_of ops

-- the operations that such lists stand for: each write takes the next of the bytes
abbrev pub ops_of : List OpKind → List ℕ → List PageData → List Op
ops_of (kinds.Read ∷ kinds) (page ∷ pages) bytes = asks.Read page ∷ ops_of kinds pages bytes
ops_of (kinds.Write ∷ kinds) (page ∷ pages) (b ∷ bytes) = asks.Write page b ∷ ops_of kinds pages bytes
ops_of (kinds.Trim ∷ kinds) (page ∷ pages) bytes = asks.Trim page ∷ ops_of kinds pages bytes
ops_of _ _ _ = []

-- the lists have what these operations are, and no more
pub record ArePacked (kinds : List OpKind) (pages : List ℕ) (bytes : List PageData) (ops : List Op) : Type 0 where
  pub kinds_are : kinds ≡ map kind_of ops
  pub pages_are : pages ≡ map page_of ops
  pub bytes_are : bytes ≡ bytes_of ops
