-- The flag of a reader or writer, which is set once it failed, where it is known.
use Rattle.std.specs.Prelude.{◌≡◌, ⊤, Bool, true, Option, None, Some}

-- a flag that is known stays as it was
abbrev pub KeepsFlag : Option Bool → Option Bool → Type 0
KeepsFlag None new = ⊤
KeepsFlag (Some flag) new = new ≡ Some flag

-- a flag that is known is set
abbrev pub SetsFlag : Option Bool → Option Bool → Type 0
SetsFlag None new = ⊤
SetsFlag (Some flag) new = new ≡ Some true
