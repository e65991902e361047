-- Runners that are shared among workers.
use Rattle.std.specs.Prelude.{◌≡◌, List, [], ◌∷◌, ◌++◌}
use Rattle.std.specs.List.{AllZip}
use Rattle.die_service.specs.declared.posts.Sender.{Sender}
use Rattle.die_service.specs.declared.shares.Share.{Share}
use Rattle.die_service.specs.declared.shares.Share.TheVariants.{Here, There}
use Rattle.die_service.specs.Posts.{PostState, AreLinked, IsSamePost}

module _ {M B : Type 0} (runs : M → B → M → Type 0) where
  -- it has these runners, or they were given to its worker
  abbrev pub IsShareOf : List (PostState M B) → Share M B → Type 0
  IsShareOf posts (Here now) = AllZip (IsSamePost runs) posts now.items
  IsShareOf posts (There worker) = worker.promise.0.value.items ≡ posts

  -- and still does
  abbrev pub StaysShare : Share M B → Share M B → Type 0
  StaysShare old new = (posts : List (PostState M B)) → IsShareOf posts old → IsShareOf posts new

  -- they have these runners, in their order
  abbrev pub AreSharesOf : List (PostState M B) → List (Share M B) → Type 0
  AreSharesOf posts [] = posts ≡ []
  AreSharesOf posts (share ∷ shares) =
      (own : List (PostState M B)) × (later : List (PostState M B)) × (posts ≡ own ++ later) × IsShareOf own share × AreSharesOf later shares

  -- these senders' runners are shared out so
  abbrev pub AreSharedOut : List (Sender M B) → List (Share M B) → Type 0
  AreSharedOut senders shares = (posts : List (PostState M B)) × (AreLinked runs) senders posts × AreSharesOf posts shares
