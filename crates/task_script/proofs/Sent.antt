-- What was sent to the dies, batch by batch.
use Rattle.std.proofs.Common.{◌≡◌, ℕ, zero, suc, ◌+◌, ◌*◌, ◌<◌, ◌≤◌, List, [], ◌∷◌, ◌++◌, refl, ap, sym, ◌∙◌, subst, length, map, get_or, arith}
use Rattle.std.proofs.Common.{length-append, replicate, Option}
use Rattle.std.specs.Prelude.{All, IsSomeAnd, slice_get}
use Rattle.std.specs.List.{AllByRecursion}
use Rattle.std.proofs.lemmas.Grind.{flat_map-append}
use Rattle.std.proofs.lemmas.List.{append-nil, length-map}
use Rattle.std.proofs.lemmas.List.Elements.{All-from_recursion, All-weaker, recursion_from_All}
use Rattle.std.proofs.lemmas.List.Sums.{sum_by-cons}
use Rattle.slot_types.specs.declared.limits.TheConstants.{MAX_SLOT}
use Rattle.die_service.specs.Runners.{SentTo, sent_to, with_batch}
use Rattle.script_texts.specs.RowTexts.{RowText}
use Rattle.script_texts.specs.Script.{Reading}
use Rattle.task_script.specs.Feeds.{rows_dealt}
use Rattle.task_script.specs.RanScripts.{LastAlone, MayAllFollow, NoneSent, batch_with, sent_more}
use Rattle.task_script.specs.RowRunners.{AreInReach, MayFollow, rows_of_batches, rows_sent, until_of}
use Rattle.task_script.specs.RowTexts.{AreOfOneDie, HasReadTexts}
use Rattle.task_script.specs.declared.row_batches.RowBatch.{RowBatch}
use Rattle.task_script.specs.declared.row_runners.RowRunner.{RowRunner}
use Rattle.task_script.specs.declared.feeds.ReadEnd.{ReadEnd}
use Rattle.task_script.specs.declared.feeds.ReadEnd.TheVariants.{More}
use Rattle.task_script.proofs.DieReading.{in_reach_each, one_die_each}
use Rattle.task_script.proofs.Dealing.{reads_none, reads_on}

abbrev pub Sents : Type 0
Sents = List (SentTo RowRunner RowBatch)

-- How many batches there are

-- each but the last has a row, whose number is 1,000,001 at most
pub few_batches : (first line count : ℕ) → 1 ≤ first → first + count ≤ line → (0 < count → line ≤ 1000002) → count ≤ 1000002
few_batches first line zero some later below = omega arith
few_batches first line (suc count) some later below = omega (arith, some, later, below (omega arith))

-- A batch more

pub rows_more : (before : List RowBatch) (batch : RowBatch) → rows_of_batches (before ++ batch ∷ []) ≡ rows_of_batches before ++ batch.rows
rows_more before batch = flat_map-append (λ (b : RowBatch). b.rows) before (batch ∷ [])
    ∙ ap (λ (xs : List RowText). rows_of_batches before ++ xs) (append-nil batch.rows)

pub until_more : (before : List RowBatch) (batch : RowBatch) → until_of before ≡ 0 → until_of (before ++ batch ∷ []) ≡ batch.until
unfolding until_of
until_more [] batch none = omega arith
until_more (first ∷ before) batch none =
    let rest = until_more before batch (omega (arith, none)) in omega (arith, none, rest)

-- none of these runs up to a slot of its own; nor does one but the last, where one more comes
pub none_alone : (batches : List RowBatch) → until_of batches ≡ 0 → LastAlone batches
unfolding until_of
none_alone [] none = tt
none_alone (b ∷ []) none = tt
none_alone (b ∷ c ∷ batches) none = (omega (arith, none), none_alone (c ∷ batches) (omega (arith, none)))

pub last_alone : (before : List RowBatch) (batch : RowBatch) → until_of before ≡ 0 → LastAlone (before ++ batch ∷ [])
unfolding until_of
last_alone [] batch none = tt
last_alone (b ∷ []) batch none = (omega (arith, none), tt)
last_alone (b ∷ c ∷ before) batch none = (omega (arith, none), last_alone (c ∷ before) batch (omega (arith, none)))

abbrev pub AreShort : List RowBatch → Type 0
AreShort batches = AllByRecursion (λ (b : RowBatch). length b.rows ≤ 8192) batches

short_more : (before : List RowBatch) (batch : RowBatch) → AreShort before → length batch.rows ≤ 8192 → AreShort (before ++ batch ∷ [])
short_more [] batch short one = (one, tt)
short_more (b ∷ before) batch short one = (short.0, short_more before batch short.1 one)

-- how many rows short batches have
pub few_rows : (before : List RowBatch) → AreShort before → length (rows_of_batches before) ≤ length before * 8192
few_rows [] short = omega arith
few_rows (b ∷ before) short = omega (arith, short.0, few_rows before short.1, length-append b.rows (rows_of_batches before))

-- at most `count` short batches were sent, none of which is the last
abbrev pub GoOn : ℕ → List RowBatch → Type 0
GoOn count batches = (length batches ≤ count) × (until_of batches ≡ 0) × AreShort batches

pub none_sent : (sents : Sents) → AllByRecursion (λ (s : SentTo RowRunner RowBatch). s.batches ≡ []) sents
    → AllByRecursion (λ (s : SentTo RowRunner RowBatch). GoOn 0 s.batches) sents
unfolding until_of
none_sent [] none = tt
none_sent (s ∷ sents) none = (
  subst (GoOn 0) (sym none.0) (omega arith, refl, tt),
  none_sent sents none.1,
)

-- nor is a row of theirs
pub no_rows_sent : (sents : Sents) → AllByRecursion (λ (s : SentTo RowRunner RowBatch). s.batches ≡ []) sents
    → rows_sent sents ≡ replicate (length sents) []
no_rows_sent [] none = refl
no_rows_sent (s ∷ sents) none =
    let first : rows_of_batches s.batches ≡ [] = ap rows_of_batches none.0 in
    let rest = no_rows_sent sents none.1 in λ i. first i ∷ rest i

-- All dies

pub may_follow : (until count : ℕ) (rows : List (List RowText)) (sents : Sents) → length rows ≡ length sents
    → AllByRecursion AreOfOneDie rows → AllByRecursion AreInReach rows → until ≤ MAX_SLOT → rows_dealt rows ≤ 8192
    → AllByRecursion (λ (s : SentTo RowRunner RowBatch). GoOn count s.batches) sents → count ≤ 1000002 → MayAllFollow until rows sents
may_follow until count [] [] long own reach last few before below = tt
may_follow until count [] (s ∷ sents) long own reach last few before below = absurd (omega (arith, long))
may_follow until count (r ∷ rows) [] long own reach last few before below = absurd (omega (arith, long))
may_follow until count (r ∷ rows) (s ∷ sents) long own reach last few before below =
    let dealt = sum_by-cons (λ (xs : List RowText). length xs) r rows in (
      record {
        one_die = own.0;
        in_reach = reach.0;
        within = last;
        short = omega (arith, dealt, few);
        few = omega (arith, before.0.0, below);
        all_short = All-from_recursion (λ (b : RowBatch). length b.rows ≤ 8192) s.batches before.0.2;
        goes_on = before.0.1;
      },
      may_follow until count rows sents (omega (arith, long)) own.1 reach.1 last (omega (arith, dealt, few)) before.1 below,
    )

-- One after the other

module _ (until : ℕ) where
  pub follow_long : (rows : List (List RowText)) (sents : Sents) → MayAllFollow until rows sents → length rows ≡ length sents
  follow_long [] [] follow = refl
  follow_long (own ∷ rows) (s ∷ sents) follow = ap suc (follow_long rows sents follow.1)
  follow_long [] (s ∷ sents) follow = absurd follow
  follow_long (own ∷ rows) [] follow = absurd follow

  -- the next one may be sent its rows
  pub next_follows : (first later : List (List RowText)) (own : List RowText) (sents : Sents) → MayAllFollow until (first ++ own ∷ later) sents
      → IsSomeAnd (slice_get (sent_more until first sents) (length first)) (λ s. MayFollow s.batches (batch_with until own))
  next_follows [] later own (s ∷ sents) follow = follow.0
  next_follows (f ∷ first) later own (s ∷ sents) follow = next_follows first later own sents follow.1
  next_follows [] later own [] follow = absurd follow
  next_follows (f ∷ first) later own [] follow = absurd follow

  pub sent_next : (first : List (List RowText)) (own : List RowText) (sents : Sents) → length first < length sents
      → with_batch (length first) (batch_with until own) (sent_more until first sents) ≡ sent_more until (first ++ own ∷ []) sents
  sent_next [] own (s ∷ sents) below = refl
  sent_next (f ∷ first) own (s ∷ sents) below =
      ap (λ (ss : Sents). sent_to s.first (s.batches ++ batch_with until f ∷ []) ∷ ss) (sent_next first own sents (omega (arith, below)))
  sent_next [] own [] below = absurd (omega (arith, below))
  sent_next (f ∷ first) own [] below = absurd (omega (arith, below))

  -- after that they are one batch more each
  after_long : (rows : List (List RowText)) (sents : Sents) → length rows ≡ length sents → length (sent_more until rows sents) ≡ length rows
  after_long [] [] long = refl
  after_long (own ∷ rows) (s ∷ sents) long = ap suc (after_long rows sents (omega (arith, long)))
  after_long [] (s ∷ sents) long = absurd (omega (arith, long))
  after_long (own ∷ rows) [] long = absurd (omega (arith, long))

  after_firsts : (rows : List (List RowText)) (sents : Sents) → map (λ (s : SentTo RowRunner RowBatch). s.first) (sent_more until rows sents)
      ≡ map (λ (s : SentTo RowRunner RowBatch). s.first) sents
  after_firsts [] sents = refl
  after_firsts (own ∷ rows) [] = refl
  after_firsts (own ∷ rows) (s ∷ sents) = ap (λ (rs : List RowRunner). s.first ∷ rs) (after_firsts rows sents)

  after_rows : (rows : List (List RowText)) (sents : Sents) (k : ℕ) → length rows ≡ length sents
      → get_or (rows_sent (sent_more until rows sents)) k [] ≡ get_or (rows_sent sents) k [] ++ get_or rows k []
  after_rows [] [] k long = refl
  after_rows (own ∷ rows) (s ∷ sents) zero long = rows_more s.batches (batch_with until own)
  after_rows (own ∷ rows) (s ∷ sents) (suc k) long = after_rows rows sents k (omega (arith, long))
  after_rows [] (s ∷ sents) k long = absurd (omega (arith, long))
  after_rows (own ∷ rows) [] k long = absurd (omega (arith, long))

  -- at most `count` + 1 short batches were sent, and only the last one runs up to a slot of its own, which is `until`
  abbrev pub SentUpTo : ℕ → List RowBatch → Type 0
  SentUpTo count batches = (length batches ≤ count + 1) × (until_of batches ≡ until) × AreShort batches × LastAlone batches

  after_counts : (count : ℕ) (rows : List (List RowText)) (sents : Sents) → length rows ≡ length sents → rows_dealt rows ≤ 8192
      → AllByRecursion (λ (s : SentTo RowRunner RowBatch). GoOn count s.batches) sents
      → AllByRecursion (λ (s : SentTo RowRunner RowBatch). SentUpTo count s.batches) (sent_more until rows sents)
  after_counts count [] [] long few before = tt
  after_counts count (own ∷ rows) (s ∷ sents) long few before =
      let dealt = sum_by-cons (λ (xs : List RowText). length xs) own rows in (
        (
          omega (arith, length-append s.batches (batch_with until own ∷ []), before.0.0),
          until_more s.batches (batch_with until own) before.0.1,
          short_more s.batches (batch_with until own) before.0.2 (omega (arith, dealt, few)),
          last_alone s.batches (batch_with until own) before.0.1,
        ),
        after_counts count rows sents (omega (arith, long)) (omega (arith, dealt, few)) before.1,
      )
  after_counts count [] (s ∷ sents) long few before = absurd (omega (arith, long))
  after_counts count (own ∷ rows) [] long few before = absurd (omega (arith, long))

-- A script

-- what was read of a script was sent to these runners, to each in at most `count` batches, none of which is the last
pub record HasSent (old now : Option (Reading RowText)) (dies slots from line count : ℕ) (firsts sents : Sents) : Type 0 where
  pub read : HasReadTexts old now dies slots from line (rows_sent sents) More
  pub counts : AllByRecursion (λ (s : SentTo RowRunner RowBatch). GoOn count s.batches) sents
  pub same : map (λ (s : SentTo RowRunner RowBatch). s.first) sents ≡ map (λ (s : SentTo RowRunner RowBatch). s.first) firsts

-- at the beginning it is nothing
pub sent_first : (old : Option (Reading RowText)) (dies slots from : ℕ) (sents : Sents) → length sents ≡ dies → NoneSent sents
    → HasSent old old dies slots from from 0 sents sents
sent_first old dies slots from sents long none =
    let each = recursion_from_All (λ (s : SentTo RowRunner RowBatch). s.batches ≡ []) sents none in record {
      read = reads_none old dies slots from from (rows_sent sents) (no_rows_sent sents each ∙ ap (λ (n : ℕ). replicate n []) long)
          (omega arith);
      counts = none_sent sents each;
      same = refl;
    }

-- then rows are read
module _ (old now new : Option (Reading RowText)) (dies slots from line next count until : ℕ) (firsts sents taken : Sents)
    (rows : List (List RowText)) (end : ReadEnd) (s : HasSent old now dies slots from line count firsts sents) (kept : taken ≡ sents)
    (read : HasReadTexts now new dies slots line next rows end) where
  long : length rows ≡ length sents
  long = omega (arith, s.read.dealt.all, length-map sents (λ (x : SentTo RowRunner RowBatch). rows_of_batches x.batches), read.dealt.all)

  -- they may be sent
  pub follows : slots ≤ MAX_SLOT → until ≤ MAX_SLOT → rows_dealt rows ≤ 8192 → count ≤ 1000002 → MayAllFollow until rows taken
  follows in_reach last few below = subst (MayAllFollow until rows) (sym kept) (may_follow until count rows sents long
      (recursion_from_All AreOfOneDie rows (one_die_each dies slots line read.behind read.rows rows read.dealt))
      (recursion_from_All AreInReach rows (in_reach_each dies slots line read.behind read.rows rows read.dealt in_reach)) last few
      s.counts below)

  -- and are
  module _ (news : Sents) (sent : news ≡ sent_more until rows taken) (few : rows_dealt rows ≤ 8192) where
    is : news ≡ sent_more until rows sents
    is = sent ∙ ap (sent_more until rows) kept

    pub batch_read : HasReadTexts old new dies slots from next (rows_sent news) end
    batch_read = subst (λ (ss : Sents). HasReadTexts old new dies slots from next (rows_sent ss) end) (sym is)
        (reads_on old now new dies slots from line next (rows_sent sents) rows (rows_sent (sent_more until rows sents)) end s.read read
        (omega (
          arith,
          length-map (sent_more until rows sents) (λ (x : SentTo RowRunner RowBatch). rows_of_batches x.batches),
          after_long until rows sents long,
          read.dealt.all,
        ))
        (λ k below. after_rows until rows sents k long))

    pub batch_firsts : map (λ (x : SentTo RowRunner RowBatch). x.first) news ≡ map (λ (x : SentTo RowRunner RowBatch). x.first) firsts
    batch_firsts = ap (map (λ (x : SentTo RowRunner RowBatch). x.first)) is ∙ (after_firsts until rows sents ∙ s.same)

    batch_counts : AllByRecursion (λ (x : SentTo RowRunner RowBatch). SentUpTo until count x.batches) news
    batch_counts = subst (AllByRecursion (λ (x : SentTo RowRunner RowBatch). SentUpTo until count x.batches)) (sym is)
        (after_counts until count rows sents long few s.counts)

    all_counts : All (λ (x : SentTo RowRunner RowBatch). SentUpTo until count x.batches) news
    all_counts = All-from_recursion (λ (x : SentTo RowRunner RowBatch). SentUpTo until count x.batches) news batch_counts

    pub batch_few : count ≤ 1000002 → All (λ (x : SentTo RowRunner RowBatch). length (rows_of_batches x.batches) ≤ 8192024576) news
    batch_few below = All-weaker (λ (x : SentTo RowRunner RowBatch). SentUpTo until count x.batches)
        (λ (x : SentTo RowRunner RowBatch). length (rows_of_batches x.batches) ≤ 8192024576)
        (λ (x : SentTo RowRunner RowBatch) h. omega (arith, h.0, below, few_rows x.batches h.2)) news all_counts

    pub batch_last : All (λ (x : SentTo RowRunner RowBatch). until_of x.batches ≡ until) news
    batch_last = All-weaker (λ (x : SentTo RowRunner RowBatch). SentUpTo until count x.batches)
        (λ (x : SentTo RowRunner RowBatch). until_of x.batches ≡ until) (λ (x : SentTo RowRunner RowBatch) h. h.1) news all_counts

    pub batch_alone : All (λ (x : SentTo RowRunner RowBatch). LastAlone x.batches) news
    batch_alone = All-weaker (λ (x : SentTo RowRunner RowBatch). SentUpTo until count x.batches)
        (λ (x : SentTo RowRunner RowBatch). LastAlone x.batches) (λ (x : SentTo RowRunner RowBatch) h. h.3) news all_counts

    -- where more may be left, it goes on like that
    pub batch_more : end ≡ More → until ≡ 0 → HasSent old new dies slots from next (count + 1) firsts news
    batch_more more none = record {
      read = subst (HasReadTexts old new dies slots from next (rows_sent news)) more batch_read;
      counts = recursion_from_All (λ (x : SentTo RowRunner RowBatch). GoOn (count + 1) x.batches) news
          (All-weaker (λ (x : SentTo RowRunner RowBatch). SentUpTo until count x.batches)
          (λ (x : SentTo RowRunner RowBatch). GoOn (count + 1) x.batches) (λ (x : SentTo RowRunner RowBatch) h. (h.0, h.1 ∙ none, h.2)) news
          all_counts);
      same = batch_firsts;
    }
