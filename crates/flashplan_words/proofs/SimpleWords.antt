-- The words of the program are of the simple kind of which clap says what they ask for, and each of their faults.
use Rattle.std.proofs.Common.{◌≡◌, true, Result, Ok, Err, refl, sym, subst}
use Rattle.std.specs.Prelude.{IsErrAnd}
use Rattle.clap.specs.Words.{is_simple, is_simple_and_free}
use Rattle.clap.specs.Kinds.{FailsBy, HasKind, Kinds}
use Rattle.clap.specs.declared.error.Error.{Error}
use Rattle.flashplan_words.specs.Syntax.{flashplan_app}

pub simple_words : is_simple flashplan_app ≡ true
simple_words = refl

pub free_words : is_simple_and_free flashplan_app ≡ true
free_words = refl

-- an error that is handed on has its kind still
pub fails_still : {T : Type 0} (kinds : Kinds) (e : Error) (r : Result T Error) → HasKind kinds e → IsErrAnd r (λ x. x ≡ e)
    → FailsBy kinds r
fails_still kinds e (Ok x) h same = absurd same
fails_still kinds e (Err x) h same = subst (HasKind kinds) (sym same) h
