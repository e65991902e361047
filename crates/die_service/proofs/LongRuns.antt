-- A run by workers that last, from its beginning to its end.
use Rattle.std.specs.Prelude.{slice_get, IsSomeAnd}
use Rattle.std.proofs.Common.{◌≡◌, ℕ, zero, suc, ◌<◌, List, [], ◌∷◌, ◌++◌, refl, ap, sym, subst, ◌∙◌, arith, append_assoc, get_or, length, map, set}
use Rattle.std.specs.List.{AllZip, FoldsTo}
use Rattle.rtrb.specs.Ring.{received, sent}
use Rattle.die_service.specs.Runners.{HasRunAll, SentTo}
use Rattle.die_service.specs.Posts.{HasRunReceived, AreBegun, AreLinked, IsLinked, IsSamePost, IsSameSender}
use Rattle.die_service.specs.Shares.{AreSharesOf, StaysShare}
use Rattle.die_service.specs.Runners.{nothing_sent, sent_to, with_batch}
use Rattle.die_service.specs.Posts.{sent_by}
use Rattle.die_service.specs.Posts.{PostState}
use Rattle.die_service.specs.declared.posts.Sender.{Sender}
use Rattle.die_service.specs.declared.shares.Share.{Share}

pub below_some : {A : Type 0} (xs : List A) (n : ℕ) (P : A → Type 0) → IsSomeAnd (slice_get xs n) P → n < length xs
below_some [] n P some = absurd some
below_some (x ∷ xs) zero P some = omega arith
below_some (x ∷ xs) (suc n) P some = let rest = below_some xs n P some in omega (arith, rest)

module _ {M B : Type 0} (runs : M → B → M → Type 0) where
  -- At the beginning

  pub begun_none : (runners : List M) (senders : List (Sender M B)) (posts : List (PostState M B)) → AreBegun runs runners senders posts
      → map sent_by senders ≡ nothing_sent runners
  begun_none [] [] [] begun = refl
  begun_none (r ∷ rs) (s ∷ ss) (p ∷ ps) begun =
      let rest = begun_none rs ss ps begun.1 in λ i. sent_to (begun.0.first_is i) (begun.0.none i) ∷ rest i
  begun_none [] [] (p ∷ ps) begun = absurd begun
  begun_none [] (s ∷ ss) ps begun = absurd begun
  begun_none (r ∷ rs) [] ps begun = absurd begun
  begun_none (r ∷ rs) (s ∷ ss) [] begun = absurd begun

  pub begun_linked : (runners : List M) (senders : List (Sender M B)) (posts : List (PostState M B)) → AreBegun runs runners senders posts
      → AreLinked runs senders posts
  begun_linked [] [] [] begun = tt
  begun_linked (r ∷ rs) (s ∷ ss) (p ∷ ps) begun = (begun.0.linked, begun_linked rs ss ps begun.1)
  begun_linked [] [] (p ∷ ps) begun = absurd begun
  begun_linked [] (s ∷ ss) ps begun = absurd begun
  begun_linked (r ∷ rs) [] ps begun = absurd begun
  begun_linked (r ∷ rs) (s ∷ ss) [] begun = absurd begun

  -- one runner more begins
  pub begun_more : (runners : List M) (senders : List (Sender M B)) (posts : List (PostState M B)) (r : M) (s : Sender M B) (p : PostState M B)
      → AreBegun runs runners senders posts → AreBegun runs (r ∷ []) (s ∷ []) (p ∷ []) → AreBegun runs (runners ++ r ∷ []) (senders ++ s ∷ []) (posts ++ p ∷ [])
  begun_more [] [] [] r s p begun one = one
  begun_more (x ∷ xs) (y ∷ ys) (z ∷ zs) r s p begun one = (begun.0, begun_more xs ys zs r s p begun.1 one)
  begun_more [] [] (z ∷ zs) r s p begun one = absurd begun
  begun_more [] (y ∷ ys) zs r s p begun one = absurd begun
  begun_more (x ∷ xs) [] zs r s p begun one = absurd begun
  begun_more (x ∷ xs) (y ∷ ys) [] r s p begun one = absurd begun

  -- While it lasts

  pub linked_on : (s t : Sender M B) (p q : PostState M B) → IsLinked runs s p → IsSameSender s t → IsSamePost runs p q → IsLinked runs t q
  linked_on s t p q linked sender post =
      ((cc, cc, cc, cc), subst (λ (m : M). HasRunReceived runs m q) (sym sender.1) (post.1 s.first.value linked.1))

  pub all_linked : (ss : List (Sender M B)) (ps qs : List (PostState M B)) → AreLinked runs ss ps → AllZip (IsSamePost runs) ps qs → AreLinked runs ss qs
  all_linked [] [] [] linked same = tt
  all_linked [] [] (q ∷ qs) linked same = absurd same
  all_linked [] (p ∷ ps) qs linked same = absurd linked
  all_linked (s ∷ ss) [] qs linked same = absurd linked
  all_linked (s ∷ ss) (p ∷ ps) [] linked same = absurd same
  all_linked (s ∷ ss) (p ∷ ps) (q ∷ qs) linked same =
      (linked_on s s p q linked.0 (((refl, refl, refl, refl), refl), refl) same.0, all_linked ss ps qs linked.1 same.1)

  pub same_sender : (s new : Sender M B) → new.batches ≡ s.batches → new.first.value ≡ s.first.value → IsSameSender s new
  same_sender s new same first = (
    (
      (ap (λ b. b.end.words) same, ap (λ b. b.end.slots) same, ap (λ b. b.end.names) same, ap (λ b. b.end.heap) same),
      ap (λ b. b.capacity) same,
    ),
    first,
  )

  -- one sender sent a batch, or got one back
  pub linked_set : (ss : List (Sender M B)) (ps : List (PostState M B)) (k : ℕ) (d new : Sender M B) → k < length ss → IsSameSender (get_or ss k d) new
      → AreLinked runs ss ps → AreLinked runs (set ss k new) ps
  linked_set [] ps k d new below same linked = absurd (omega (arith, below))
  linked_set (s ∷ ss) [] k d new below same linked = absurd linked
  linked_set (s ∷ ss) (p ∷ ps) zero d new below same linked =
      (linked_on s new p p linked.0 same (((refl, refl, refl, refl), refl), λ m ran. ran), linked.1)
  linked_set (s ∷ ss) (p ∷ ps) (suc k) d new below same linked = (linked.0, linked_set ss ps k d new (omega (arith, below)) same linked.1)

  pub sent_set : (ss : List (Sender M B)) (k : ℕ) (d new : Sender M B) (batch : B) → k < length ss → new.first.value ≡ (get_or ss k d).first.value
      → sent new.batches ≡ sent (get_or ss k d).batches ++ batch ∷ [] → map sent_by (set ss k new) ≡ with_batch k batch (map sent_by ss)
  sent_set [] k d new batch below first is = absurd (omega (arith, below))
  sent_set (s ∷ ss) zero d new batch below first is = λ i. sent_to (first i) (is i) ∷ map sent_by ss
  sent_set (s ∷ ss) (suc k) d new batch below first is =
      ap (λ (l : List (SentTo M B)). sent_by s ∷ l) (sent_set ss k d new batch (omega (arith, below)) first is)

  pub same_set : (ss : List (Sender M B)) (k : ℕ) (d new : Sender M B) → k < length ss → new.first.value ≡ (get_or ss k d).first.value
      → sent new.batches ≡ sent (get_or ss k d).batches → map sent_by (set ss k new) ≡ map sent_by ss
  same_set [] k d new below first is = absurd (omega (arith, below))
  same_set (s ∷ ss) zero d new below first is = λ i. sent_to (first i) (is i) ∷ map sent_by ss
  same_set (s ∷ ss) (suc k) d new below first is =
      ap (λ (l : List (SentTo M B)). sent_by s ∷ l) (same_set ss k d new (omega (arith, below)) first is)

  pub shares_stay : (posts : List (PostState M B)) (olds news : List (Share M B)) → AreSharesOf runs posts olds → AllZip (StaysShare runs) olds news
      → AreSharesOf runs posts news
  shares_stay posts [] [] are stay = are
  shares_stay posts [] (new ∷ news) are stay = absurd stay
  shares_stay posts (old ∷ olds) [] are stay = absurd stay
  shares_stay posts (old ∷ olds) (new ∷ news) are stay =
      (are.0, are.1, are.2, stay.0 are.0 are.3, shares_stay are.1 olds news are.4 stay.1)

  -- At the end

  -- a runner that has run all that it received has run all that was sent to it
  pub run_all : (s : Sender M B) (p : PostState M B) (after : M) → IsLinked runs s p → received p.batches ≡ sent s.batches → after ≡ p.runner
      → HasRunAll runs (sent_by s) after
  run_all s p after linked all is = subst (λ (l : List B). FoldsTo runs s.first.value l after) all
      (subst (λ (m : M). FoldsTo runs s.first.value (received p.batches) m) (sym is) linked.1)

  -- one more runner of a list has
  pub rest_run : (ss later : List (Sender M B)) (s : Sender M B) (all : List (SentTo M B)) (ran news : List M) (m : M) → ss ≡ s ∷ later
      → news ≡ ran ++ m ∷ [] → HasRunAll runs (sent_by s) m
      → ((ms : List M) → AllZip (HasRunAll runs) (map sent_by ss) ms → AllZip (HasRunAll runs) all (ran ++ ms))
      → (ms : List M) → AllZip (HasRunAll runs) (map sent_by later) ms → AllZip (HasRunAll runs) all (news ++ ms)
  rest_run ss later s all ran news m is now one so_far ms rest =
      subst (λ (xs : List M). AllZip (HasRunAll runs) all xs) (sym (ap (λ (xs : List M). xs ++ ms) now ∙ append_assoc ran (m ∷ []) ms))
      (so_far (m ∷ ms) (subst (λ (xs : List (Sender M B)). AllZip (HasRunAll runs) (map sent_by xs) (m ∷ ms)) (sym is) (one, rest)))

  -- what comes next of senders and of posts that are linked
  pub next_linked : (ss later : List (Sender M B)) (s : Sender M B) (ps others : List (PostState M B)) (p : PostState M B) → ss ≡ s ∷ later
      → ps ≡ p ∷ others → AreLinked runs ss ps → IsLinked runs s p × AreLinked runs later others
  next_linked ss later s ps others p is are linked =
      subst (λ (xs : List (Sender M B)). AreLinked runs xs (p ∷ others)) is (subst (AreLinked runs ss) are linked)

  pub none_linked : (ss : List (Sender M B)) (ps others : List (PostState M B)) (p : PostState M B) → ss ≡ [] → ps ≡ p ∷ others
      → AreLinked runs ss ps → ⊥
  none_linked ss ps others p is are linked =
      subst (λ (xs : List (Sender M B)). AreLinked runs xs (p ∷ others)) is (subst (AreLinked runs ss) are linked)

  pub none_left : (ss : List (Sender M B)) (ps : List (PostState M B)) → ps ≡ [] → AreLinked runs ss ps → ss ≡ []
  none_left [] ps are linked = refl
  none_left (s ∷ ss) ps are linked = absurd (subst (λ (xs : List (PostState M B)). AreLinked runs (s ∷ ss) xs) are linked)
