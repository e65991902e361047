-- The lists stay linked while a block leaves its own.
use Rattle.std.proofs.Common.{◌≡◌, ◌≢◌, ℕ, ◌<◌, ◌≤◌, List, length, get_or, set, Option, Some, None, sym, ap, ◌∙◌, subst, arith, inl, inr}
use Rattle.std.proofs.lemmas.Bool.{cases_eq}
use Rattle.std.proofs.lemmas.List.{get_or-set_same, get_or-set_other, length-set}
use Rattle.victim_pick.specs.Candidates.{count_of}
use Rattle.victim_pick.specs.Links.{AreLinked, IsBefore, IsHighest, set_at, set_first}
use Rattle.victim_pick.proofs.Setting.{cases_link, counted_below, counted_after, still_counted, set_at-same}
use Rattle.victim_pick.proofs.Setting.{set_at-other, length-set_at, length-set_first}
use Rattle.victim_pick.proofs.Highest.{one_above, highest_stays, highest_next}
use Rattle.victim_pick.proofs.Coming.{places_of}

-- the links and the block that leaves, with the ones before it and after it
record IsLeaving (pages : ℕ) (counts firsts nexts befores : List (Option ℕ)) (count block : ℕ) (before next : Option ℕ) : Type 0 where
  are : AreLinked pages counts firsts nexts befores
  counted : count_of counts block ≡ Some count
  before_is : before ≡ get_or befores block None
  next_is : next ≡ get_or nexts block None

-- the one before the block is before it
before_reported : (pages : ℕ) (counts firsts nexts befores : List (Option ℕ)) (count block : ℕ) (before next : Option ℕ)
    → IsLeaving pages counts firsts nexts befores count block before next → IsBefore counts firsts nexts count block before
before_reported pages counts firsts nexts befores count block before next leaving =
    subst (λ (o : Option ℕ). IsBefore counts firsts nexts count block o) (sym leaving.before_is)
    (leaving.are.befores_are block count leaving.counted)

-- and the one after it is the highest below it
next_highest : (pages : ℕ) (counts firsts nexts befores : List (Option ℕ)) (count block : ℕ) (before next : Option ℕ)
    → (leaving : IsLeaving pages counts firsts nexts befores count block before next)
    → IsHighest counts leaving.are.place count (leaving.are.place block) next
next_highest pages counts firsts nexts befores count block before next leaving =
    subst (λ (o : Option ℕ). IsHighest counts leaving.are.place count (leaving.are.place block) o) (sym leaving.next_is)
    (leaving.are.nexts_are block count leaving.counted)

-- the first of a count leads to the block only if nothing is before it
only_first : (pages : ℕ) (counts firsts nexts befores : List (Option ℕ)) (count block p : ℕ)
    → AreLinked pages counts firsts nexts befores → count ≤ pages → count_of counts p ≡ Some count → get_or nexts p None ≡ Some block
    → get_or firsts count None ≢ Some block
only_first pages counts firsts nexts befores count block p are fits counted links leads =
    let above = (are.nexts_are p count counted).below block links in
    let found = (are.firsts_are count fits).highest p counted (are.places p (counted_below counts p count counted)) in
    let same : found.0 ≡ block = cc (found.1, leads) in
    omega (arith, above, found.2, ap are.place same)

-- the first block of each count
firsts_left : (pages : ℕ) (counts firsts nexts befores : List (Option ℕ)) (count block c : ℕ) (before next : Option ℕ)
    → (leaving : IsLeaving pages counts firsts nexts befores count block before next) → c ≤ pages
    → IsBefore counts firsts nexts count block before
    → IsHighest (set counts block None) leaving.are.place c (length counts) (get_or (set_first firsts before count next) c None)
firsts_left pages counts firsts nexts befores count block c None next leaving fits said =
    let below = counted_below counts block count leaving.counted in
    let in_firsts : count < length firsts = omega (arith, leaving.are.fit block count leaving.counted, leaving.are.firsts_len) in
    elim (cases_eq c count) [
      | inl same ↦
          let read : get_or (set firsts count next) c None ≡ next = ap (λ (m : ℕ). get_or (set firsts count next) m None) same
          ∙ get_or-set_same firsts count next None in_firsts in
          let leads : get_or firsts c None ≡ Some block = ap (λ (m : ℕ). get_or firsts m None) same ∙ said in
          subst (λ (o : Option ℕ). IsHighest (set counts block None) leaving.are.place c (length counts) o) (sym read)
          (highest_next counts leaving.are.place block c (length counts) (get_or firsts c None) next
          (places_of pages counts firsts nexts befores leaving.are) below leads (leaving.are.firsts_are c fits)
          (subst (λ (k : ℕ). IsHighest counts leaving.are.place k (leaving.are.place block) next) (sym same)
          (next_highest pages counts firsts nexts befores count block None next leaving)))
      | inr other ↦
          let read : get_or (set firsts count next) c None ≡ get_or firsts c None = get_or-set_other firsts count c next None other in
          let apart : get_or firsts c None ≢ Some block = (λ leads.
          let there = (leaving.are.firsts_are c fits).counted block leads in
          let here = leaving.counted in
          other (cc)) in
          subst (λ (o : Option ℕ). IsHighest (set counts block None) leaving.are.place c (length counts) o) (sym read)
          (highest_stays counts leaving.are.place block c (length counts) (get_or firsts c None) below apart
          (leaving.are.firsts_are c fits))
    ]
firsts_left pages counts firsts nexts befores count block c (Some p) next leaving fits said =
    let below = counted_below counts block count leaving.counted in
    let apart : get_or firsts c None ≢ Some block = (λ leads.
    let there = (leaving.are.firsts_are c fits).counted block leads in
    let here = leaving.counted in
    let same : c ≡ count = cc in
    only_first pages counts firsts nexts befores count block p leaving.are (leaving.are.fit block count leaving.counted) said.0 said.1
    (ap (λ (m : ℕ). get_or firsts m None) (sym same) ∙ leads)) in
    highest_stays counts leaving.are.place block c (length counts) (get_or firsts c None) below apart (leaving.are.firsts_are c fits)

-- who leads to the block is before it
leads_back : (pages : ℕ) (counts firsts nexts befores : List (Option ℕ)) (count block x : ℕ) (before next : Option ℕ)
    → IsLeaving pages counts firsts nexts befores count block before next → count_of counts x ≡ Some count
    → get_or nexts x None ≡ Some block → IsBefore counts firsts nexts count block before → before ≡ Some x
leads_back pages counts firsts nexts befores count block x None next leaving counted leads said =
    absurd (only_first pages counts firsts nexts befores count block x leaving.are (leaving.are.fit block count leaving.counted) counted
    leads said)
leads_back pages counts firsts nexts befores count block x (Some p) next leaving counted leads said =
    ap (λ (m : ℕ). Some m)
    (one_above counts leaving.are.place count p x block (get_or nexts p None) (get_or nexts x None)
    (places_of pages counts firsts nexts befores leaving.are) said.0 counted leaving.counted (leaving.are.nexts_are p count said.0)
    (leaving.are.nexts_are x count counted) said.1 leads)

-- before p the block is next
reported_next : (counts firsts nexts : List (Option ℕ)) (count block p : ℕ) (before : Option ℕ) → before ≡ Some p
    → IsBefore counts firsts nexts count block before → (count_of counts p ≡ Some count) × (get_or nexts p None ≡ Some block)
reported_next counts firsts nexts count block p None is said = absurd (cc)
reported_next counts firsts nexts count block p (Some q) is said =
    let same : q ≡ p = cc in
    (ap (λ (m : ℕ). count_of counts m) (sym same) ∙ said.0, ap (λ (m : ℕ). get_or nexts m None) (sym same) ∙ said.1)

-- and has its count
pub before_counted : (pages : ℕ) (counts firsts nexts befores : List (Option ℕ)) (count block p : ℕ)
    → AreLinked pages counts firsts nexts befores → count_of counts block ≡ Some count → get_or befores block None ≡ Some p
    → count_of counts p ≡ Some count
before_counted pages counts firsts nexts befores count block p are counted is =
    (reported_next counts firsts nexts count block p (get_or befores block None) is (are.befores_are block count counted)).0

-- the links of the blocks that stay
nexts_left : (pages : ℕ) (counts firsts nexts befores : List (Option ℕ)) (count block x c : ℕ) (before next : Option ℕ)
    → (leaving : IsLeaving pages counts firsts nexts befores count block before next) → x ≢ block → count_of counts x ≡ Some c
    → IsHighest (set counts block None) leaving.are.place c (leaving.are.place x) (get_or (set_at nexts before next) x None)
nexts_left pages counts firsts nexts befores count block x c before next leaving apart counted =
    let below = counted_below counts block count leaving.counted in
    let said = before_reported pages counts firsts nexts befores count block before next leaving in
    elim (cases_link before x) [
      | inl leads ↦
          let x_below : x < length nexts = omega (arith, counted_below counts x c counted, leaving.are.nexts_len) in
          let read : get_or (set_at nexts before next) x None ≡ next = set_at-same nexts before x next x_below leads in
          let links = reported_next counts firsts nexts count block x before leads said in
          let there = links.0 in
          let same : c ≡ count = cc in
          subst (λ (o : Option ℕ). IsHighest (set counts block None) leaving.are.place c (leaving.are.place x) o) (sym read)
          (highest_next counts leaving.are.place block c (leaving.are.place x) (get_or nexts x None) next
          (places_of pages counts firsts nexts befores leaving.are) below links.1 (leaving.are.nexts_are x c counted)
          (subst (λ (k : ℕ). IsHighest counts leaving.are.place k (leaving.are.place block) next) (sym same)
          (next_highest pages counts firsts nexts befores count block before next leaving)))
      | inr elsewhere ↦
          let read : get_or (set_at nexts before next) x None ≡ get_or nexts x None = set_at-other nexts before x next elsewhere in
          let unlike : get_or nexts x None ≢ Some block = (λ leads.
          let there = (leaving.are.nexts_are x c counted).counted block leads in
          let here = leaving.counted in
          let same : Some c ≡ Some count = cc in
          elsewhere (leads_back pages counts firsts nexts befores count block x before next leaving (counted ∙ same) leads said)) in
          subst (λ (o : Option ℕ). IsHighest (set counts block None) leaving.are.place c (leaving.are.place x) o) (sym read)
          (highest_stays counts leaving.are.place block c (leaving.are.place x) (get_or nexts x None) below unlike
          (leaving.are.nexts_are x c counted))
    ]

-- the one before the block is before the one after it now
before_next : (counts firsts nexts : List (Option ℕ)) (count block y : ℕ) (before next : Option ℕ) → count < length firsts
    → length nexts ≡ length counts → ((p : ℕ) → count_of counts p ≡ Some count → get_or nexts p None ≡ Some block → p ≢ block)
    → IsBefore counts firsts nexts count block before → next ≡ Some y
    → IsBefore (set counts block None) (set_first firsts before count next) (set_at nexts before next) count y before
before_next counts firsts nexts count block y None next in_firsts len apart said is =
    get_or-set_same firsts count next None in_firsts ∙ is
before_next counts firsts nexts count block y (Some p) next in_firsts len apart said is = (
  still_counted counts block p count None (apart p said.0 said.1) said.0,
  get_or-set_same nexts p next None (omega (arith, len, counted_below counts p count said.0)) ∙ is,
)

-- what is before another block is before it still
before_other : (counts firsts nexts : List (Option ℕ)) (count block c y : ℕ) (before next link : Option ℕ)
    → count_of counts block ≡ Some count
    → y ≢ block → get_or nexts block None ≢ Some y → IsBefore counts firsts nexts count block before → IsBefore counts firsts nexts c y link
    → IsBefore (set counts block None) (set_first firsts before count next) (set_at nexts before next) c y link
before_other counts firsts nexts count block c y None next None counted apart unlike said is =
    elim (cases_eq c count) [
      | inl same ↦
          let leads : get_or firsts c None ≡ Some block = ap (λ (m : ℕ). get_or firsts m None) same ∙ said in
          let both : Some y ≡ Some block = sym is ∙ leads in
          absurd (apart (cc))
      | inr other ↦ get_or-set_other firsts count c next None other ∙ is
    ]
before_other counts firsts nexts count block c y (Some p) next None counted apart unlike said is = is
before_other counts firsts nexts count block c y before next (Some q) counted apart unlike said is =
    let q_apart : q ≢ block = (λ same. unlike (ap (λ (m : ℕ). get_or nexts m None) (sym same) ∙ is.1)) in
    let elsewhere : before ≢ Some q = (λ leads.
    let links = reported_next counts firsts nexts count block q before leads said in
    let both : Some y ≡ Some block = sym is.1 ∙ links.1 in
    apart (cc)) in
    (still_counted counts block q c None q_apart is.0, set_at-other nexts before q next elsewhere ∙ is.1)

pub linked_left : (pages : ℕ) (counts firsts nexts befores : List (Option ℕ)) (count block : ℕ) (before next : Option ℕ)
    → AreLinked pages counts firsts nexts befores → count_of counts block ≡ Some count → before ≡ get_or befores block None
    → next ≡ get_or nexts block None
    → AreLinked pages (set counts block None) (set_first firsts before count next) (set_at nexts before next) (set_at befores next before)
linked_left pages counts firsts nexts befores count block before next are counted before_is next_is =
    let leaving : IsLeaving pages counts firsts nexts befores count block before next = record {
      are = are;
      counted = counted;
      before_is = before_is;
      next_is = next_is;
    } in
    let said = before_reported pages counts firsts nexts befores count block before next leaving in
    let next_high = next_highest pages counts firsts nexts befores count block before next leaving in
    let below = counted_below counts block count counted in
    let fits = are.fit block count counted in
    let in_firsts : count < length firsts = omega (arith, fits, are.firsts_len) in
    let len : length (set counts block None) ≡ length counts = length-set counts block None in
    record {
      few_pages = are.few_pages;
      firsts_len = length-set_first firsts before count next ∙ are.firsts_len;
      nexts_len = length-set_at nexts before next ∙ are.nexts_len ∙ sym len;
      befores_len = length-set_at befores next before ∙ are.befores_len ∙ sym len;
      fit = λ x c is. elim (counted_after counts block x c None below is) [
        | inl came ↦ let both = came.1 in absurd (cc)
        | inr stayed ↦ are.fit x c stayed.1
      ];
      place = are.place;
      places = λ x x_below. omega (arith, len, are.places x (omega (arith, len, x_below)));
      apart = λ one other one_below other_below. are.apart one other (omega (arith, len, one_below)) (omega (arith, len, other_below));
      firsts_are = λ c c_fits. subst
          (λ (m : ℕ). IsHighest (set counts block None) are.place c m (get_or (set_first firsts before count next) c None)) (sym len)
          (firsts_left pages counts firsts nexts befores count block c before next leaving c_fits said);
      nexts_are = λ x c is. elim (counted_after counts block x c None below is) [
        | inl came ↦ let both = came.1 in absurd (cc)
        | inr stayed ↦ nexts_left pages counts firsts nexts befores count block x c before next leaving stayed.0 stayed.1
      ];
      befores_are = λ y c is. elim (counted_after counts block y c None below is) [
        | inl came ↦ let both = came.1 in absurd (cc)
        | inr stayed ↦ elim (cases_link next y) [
          | inl leads ↦
              let y_below : y < length befores = omega (arith, counted_below counts y c stayed.1, are.befores_len) in
              let read : get_or (set_at befores next before) y None ≡ before = set_at-same befores next y before y_below leads in
              let there = next_high.counted y leads in
              let was = stayed.1 in
              let same : count ≡ c = cc in
              subst
              (λ (o : Option ℕ). IsBefore (set counts block None) (set_first firsts before count next) (set_at nexts before next) c y o)
              (sym read)
              (subst
              (λ (k : ℕ). IsBefore (set counts block None) (set_first firsts before count next) (set_at nexts before next) k y before) same
              (before_next counts firsts nexts count block y before next in_firsts are.nexts_len
              (λ p p_in links e. omega (arith, (are.nexts_are p count p_in).below block links, ap are.place e)) said leads))
          | inr elsewhere ↦
              let read : get_or (set_at befores next before) y None ≡ get_or befores y None = set_at-other befores next y before
              elsewhere in
              subst
              (λ (o : Option ℕ). IsBefore (set counts block None) (set_first firsts before count next) (set_at nexts before next) c y o)
              (sym read)
              (before_other counts firsts nexts count block c y before next (get_or befores y None) counted stayed.0
              (λ links. elsewhere (next_is ∙ links)) said (are.befores_are y c stayed.1))
        ]
      ];
    }
