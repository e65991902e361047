-- What a first list of kinds has, the choice of the first that isn't empty has.
use Rattle.std.proofs.Common.{inl, inr, [], ◌∷◌}
use Rattle.clap.specs.Kinds.{HasKind, IsAmong, Kinds, or_else}
use Rattle.clap.specs.declared.error.Error.{Error}
use Rattle.clap.specs.declared.error.kind.ErrorKind.{ErrorKind}

is_among_first : (a b : Kinds) (k : ErrorKind) → IsAmong k a → IsAmong k (or_else a b)
is_among_first [] b k h = absurd h
is_among_first (x ∷ xs) b k h = h

pub has_kind_in_first : (a b : Kinds) (e : Error) → HasKind a e → HasKind (or_else a b) e
has_kind_in_first a b e (inl memory) = inl memory
has_kind_in_first a b e (inr among) = inr (is_among_first a b _ among)
