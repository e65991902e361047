-- Runners with the rings by which their batches come, while they run.
use Rattle.std.specs.declared.alloc.Global.{Global}
use Rattle.std.specs.Prelude.{◌≡◌, ⊤, ◌+◌, List, [], ◌∷◌, ◌++◌, length}
use Rattle.std.specs.List.{AllZip, FoldsTo}
use Rattle.rtrb.specs.Ring.{IsPair, SameConsumer, SameProducer, known_items, received, sent}
use Rattle.rtrb.specs.declared.consumer.Consumer.{Consumer}
use Rattle.die_service.specs.declared.posts.InOrder.{InOrder}
use Rattle.die_service.specs.declared.posts.Sender.{Sender}
use Rattle.die_service.specs.Runners.{SentTo, sent_to}

-- a runner, and its batches as they arrive
pub record PostState (M B : Type 0) : Type 0 where
  pub batches : Consumer B Global (InOrder M)
  pub runner : M

module _ {M B : Type 0} where
  -- it sends to the same runner
  abbrev pub IsSameSender : Sender M B → Sender M B → Type 0
  IsSameSender old new = SameProducer old.batches new.batches × (new.first.value ≡ old.first.value)

  -- it took one of the batches that are known to have arrived
  abbrev pub TakesKnown : PostState M B → PostState M B → Type 0
  TakesKnown old new = (length (known_items old.batches) ≡ length (known_items new.batches) + 1)
      × (received new.batches ++ known_items new.batches ≡ received old.batches ++ known_items old.batches)

  -- what was sent by this sender
  abbrev pub sent_by : Sender M B → SentTo M B
  sent_by sender = sent_to sender.first.value (sent sender.batches)

module _ {M B : Type 0} (runs : M → B → M → Type 0) where
  -- it was this before all that it received, and has run that
  abbrev pub HasRunReceived : M → PostState M B → Type 0
  HasRunReceived first post = FoldsTo runs first (received post.batches) post.runner

  -- it is the same runner, which has run what it took since
  abbrev pub IsSamePost : PostState M B → PostState M B → Type 0
  IsSamePost old new = SameConsumer old.batches new.batches × ((first : M) → HasRunReceived first old → HasRunReceived first new)

  -- its batches come from this sender
  abbrev pub IsLinked : Sender M B → PostState M B → Type 0
  IsLinked sender post = IsPair sender.batches post.batches × HasRunReceived sender.first.value post

  -- this runner, whose batches come from this sender, which has sent none
  pub record BeginsAs (runner : M) (sender : Sender M B) (post : PostState M B) : Type 0 where
    pub first_is : sender.first.value ≡ runner
    pub linked : IsLinked sender post
    pub none : sent sender.batches ≡ []

  -- so are these runners
  abbrev pub AreBegun : List M → List (Sender M B) → List (PostState M B) → Type 0
  AreBegun [] [] [] = ⊤
  AreBegun (runner ∷ runners) (sender ∷ senders) (post ∷ posts) = BeginsAs runner sender post × AreBegun runners senders posts
  AreBegun _ _ _ = ⊥

  abbrev pub AreLinked : List (Sender M B) → List (PostState M B) → Type 0
  AreLinked senders posts = AllZip IsLinked senders posts
