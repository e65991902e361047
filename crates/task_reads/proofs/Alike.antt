-- Of two logs in which a task asked for the same, its reads of its own pages give the same.
use Rattle.std.proofs.Common.{◌≡◌, ℕ, zero, suc, ◌==◌, false, List, [], ◌∷◌, ◌++◌, length, map, Some}
use Rattle.std.proofs.Common.{refl, ap, sym, subst, ◌∙◌, arith, slice_get, take}
use Rattle.std.specs.Prelude.{Contains, IsTrue}
use Rattle.std.specs.List.{flat_map}
use Rattle.std.proofs.lemmas.Bool.{eqb-true}
use Rattle.std.proofs.lemmas.List.Folds.{flat_map-map}
use Rattle.std.proofs.lemmas.Option.{same_Some, none-some, slice_get_within, get_or_from_slice_get}
use Rattle.slot_types.specs.Operations.{is_read, page_of}
use Rattle.slot_types.specs.declared.acts.Act.{Act}
use Rattle.slot_types.specs.declared.acts.Act.TheVariants as does
use Rattle.slot_types.specs.declared.events.Op.{Op}
use Rattle.slot_types.specs.declared.events.Op.TheVariants as asks
use Rattle.slot_types.specs.declared.pages.PageData.{PageData}
use Rattle.die_log.specs.Model.Log.{Log, Job, jobs, acts, work}
use Rattle.die_log.specs.Model.Flash.{content}
use Rattle.die_log.specs.Model.Start.{Start}
use Rattle.die_log.specs.Model.Work.{are_all, is_done}
use Rattle.die_log.specs.Model.Opening.{IsOpening, IsQuiet}
use Rattle.die_log.specs.Results.Legal.{Does}
use Rattle.die_log.proofs.LogInvariants.OneMoreEntry.{contained}
use Rattle.task_reads.specs.Asked.{is_job_of, task_jobs, operations, left_on}
use Rattle.task_reads.specs.OwnPages.{AreAskedAlike, IsOwnInBoth}
use Rattle.task_reads.proofs.Lists.{in_filter}
use Rattle.task_reads.proofs.Turns.{job_kind}
use Rattle.task_reads.proofs.Doing.{operations_in_order}
use Rattle.task_reads.proofs.Standing.{reads_as_asked, ends_as_asked}

-- Lists

map_take : {X Y : Type 0} (f : X → Y) (k : ℕ) (xs : List X) → map f (take k xs) ≡ take k (map f xs)
map_take f zero xs = refl
map_take f (suc k) [] = refl
map_take f (suc k) (x ∷ xs) = ap (λ l. f x ∷ l) (map_take f k xs)

map_get : {X Y : Type 0} (f : X → Y) (xs : List X) (k : ℕ) (x : X) → slice_get xs k ≡ Some x → slice_get (map f xs) k ≡ Some (f x)
map_get f [] k x e = absurd (none-some x e)
map_get f (y ∷ xs) zero x e = ap (λ z. Some (f z)) (same_Some y x e)
map_get f (y ∷ xs) (suc k) x e = map_get f xs k x e

-- lists of one length are the same where they are at each place
same_lists : {X : Type 0} (xs ys : List X) → length xs ≡ length ys
    → ((n : ℕ) (x y : X) → slice_get xs n ≡ Some x → slice_get ys n ≡ Some y → x ≡ y) → xs ≡ ys
same_lists [] [] e h = refl
same_lists [] (y ∷ ys) e h = absurd (omega (arith, e))
same_lists (x ∷ xs) [] e h = absurd (omega (arith, e))
same_lists (x ∷ xs) (y ∷ ys) e h =
    let head : x ≡ y = h 0 x y refl refl in
    let tail : xs ≡ ys = same_lists xs ys (omega (arith, e)) (λ n a b p q. h (suc n) a b p q) in
    cc

-- Operations

joined : (js : List Job) → operations js ≡ flat_map (λ (l : List Op). l) (map (λ (j : Job). j.ops) js)
joined js = sym (flat_map-map (λ (l : List Op). l) (λ (j : Job). j.ops) js)

same_operations : (xs ys : List Job) → map (λ (j : Job). j.ops) xs ≡ map (λ (j : Job). j.ops) ys → operations xs ≡ operations ys
same_operations xs ys e = joined xs ∙ (ap (flat_map (λ (l : List Op). l)) e ∙ sym (joined ys))

same_taken : (xs ys : List Job) (k : ℕ) → map (λ (j : Job). j.ops) xs ≡ map (λ (j : Job). j.ops) ys → operations (take k xs) ≡ operations (take k ys)
same_taken xs ys k e = same_operations (take k xs) (take k ys)
    (map_take (λ (j : Job). j.ops) k xs ∙ (ap (take k) e ∙ sym (map_take (λ (j : Job). j.ops) k ys)))

same_ops : (xs ys : List Job) (k : ℕ) (i j : Job) → map (λ (j : Job). j.ops) xs ≡ map (λ (j : Job). j.ops) ys → slice_get xs k ≡ Some i
    → slice_get ys k ≡ Some j → i.ops ≡ j.ops
same_ops xs ys k i j e is js = same_Some i.ops j.ops
    (sym (map_get (λ (j : Job). j.ops) xs k i is) ∙ (ap (λ (l : List (List Op)). slice_get l k) e ∙ map_get (λ (j : Job). j.ops) ys k j js))

-- a read is that of an operation that reads its page
read_of : (op : Op) (page : ℕ) (bytes : PageData) → Does op (does.Read page bytes) → op ≡ asks.Read page
read_of (asks.Read p) page bytes h = ap asks.Read (sym h)
read_of (asks.Write p b) page bytes h = absurd h
read_of (asks.Trim p) page bytes h = absurd h

same_page : (p page : ℕ) → asks.Read p ≡ asks.Read page → p ≡ page
same_page p page e = ap page_of e

-- Two logs

module _ (task : ℕ) (first : Start) (one : Log) (other : Start) (two : Log) (h : AreAskedAlike task first one other two)
    (k : ℕ) (i j : Job) (kth_one : slice_get (task_jobs task one) k ≡ Some i) (kth_two : slice_get (task_jobs task two) k ≡ Some j) where
  stands_one : Contains (task_jobs task one) i
  stands_one = contained (task_jobs task one) k i kth_one

  stands_two : Contains (task_jobs task two) j
  stands_two = contained (task_jobs task two) k j kth_two

  ops_same : i.ops ≡ j.ops
  ops_same = same_ops (task_jobs task one) (task_jobs task two) k i j h.same kth_one kth_two

  -- at one place both do the same operation
  op_same : (n : ℕ) (a b : Act) → slice_get (acts i.number one) n ≡ Some a → slice_get (acts j.number two) n ≡ Some b
      → (op : Op) × (slice_get i.ops n ≡ Some op) × Does op a × Does op b
  op_same n a b p q =
      let c = operations_in_order first h.opens_one one h.exact_one task i stands_one n a p in
      let d = operations_in_order other h.opens_two two h.exact_two task j stands_two n b q in
      let same : d.0 ≡ c.0 = same_Some d.0 c.0 (sym d.1 ∙ (sym (ap (λ (l : List Op). slice_get l n) ops_same) ∙ c.1)) in
      (c.0, c.1, c.2, subst (λ (op : Op). Does op b) same d.2)

  -- reads of one page give the same bytes
  bytes_same : (page : ℕ) → IsOwnInBoth task page first one other two → (n : ℕ) (bytes given : PageData)
      → slice_get (acts i.number one) n ≡ Some (does.Read page bytes) → slice_get (acts j.number two) n ≡ Some (does.Read page given) → given ≡ bytes
  bytes_same page own n bytes given p q =
      reads_as_asked other h.opens_two two h.exact_two task page h.order_two own.own_two k j kth_two n given q
      ∙ (ap (λ (l : List Op). left_on page (l ++ take n j.ops) (content other [] page))
      (sym (same_taken (task_jobs task one) (task_jobs task two) k h.same))
      ∙ (ap (λ (l : List Op). left_on page (operations (take k (task_jobs task one)) ++ take n l) (content other [] page)) (sym ops_same)
      ∙ (ap (left_on page (operations (take k (task_jobs task one)) ++ take n i.ops)) (sym own.same)
      ∙ sym (reads_as_asked first h.opens_one one h.exact_one task page h.order_one own.own_one k i kth_one n bytes p))))

  pub read_alike : (page : ℕ) → IsOwnInBoth task page first one other two → (n p : ℕ) (bytes given : PageData)
      → slice_get (acts i.number one) n ≡ Some (does.Read page bytes) → slice_get (acts j.number two) n ≡ Some (does.Read p given)
      → (p ≡ page) × (given ≡ bytes)
  read_alike page own n p bytes given at there =
      let o = op_same n (does.Read page bytes) (does.Read p given) at there in
      let same : p ≡ page = same_page p page (sym (read_of o.0 p given o.3) ∙ read_of o.0 page bytes o.2) in (
        same,
        bytes_same page own n bytes given at
            (subst (λ (x : ℕ). slice_get (acts j.number two) n ≡ Some (does.Read x given)) same there),
      )

  all_had : (start : Start) (opens : IsOpening start) (log : Log) (x : Job) → Contains (task_jobs task log) x → IsTrue (is_done start.plan log x)
      → work x.number log ≡ length x.ops
  all_had start opens log x stands done = eqb-true (work x.number log) (length x.ops) (sym (by_kind (acts x.number log)) ∙ done)
    where
      kind : x.collects ≡ false
      kind = job_kind start opens task x (in_filter (is_job_of task) (jobs log) x stands).1

      by_kind : (own : List Act) → are_all start.plan x own ≡ (length own == length x.ops)
      by_kind own = rw kind refl

  -- acts of one operation are the same where its reads give the same
  acts_same : (op : Op) (a b : Act) → Does op a → Does op b
      → ((page : ℕ) (bytes given : PageData) → op ≡ asks.Read page → a ≡ does.Read page bytes → b ≡ does.Read page given → given ≡ bytes) → a ≡ b
  acts_same (asks.Read p) (does.Read q x) (does.Read r y) d e g =
      let bytes : y ≡ x = g p x y refl (ap (λ (n : ℕ). does.Read n x) d) (ap (λ (n : ℕ). does.Read n y) e) in
      let pages : q ≡ r = d ∙ sym e in cc
  acts_same (asks.Write p c) (does.Write q x) (does.Write r y) d e g =
      let pages : q ≡ r = d.0 ∙ sym e.0 in let bytes : x ≡ y = d.1 ∙ sym e.1 in cc
  acts_same (asks.Trim p) (does.Trim q) (does.Trim r) d e g = ap does.Trim (d ∙ sym e)
  acts_same (asks.Read p) (does.Write q x) b d e g = absurd d
  acts_same (asks.Read p) (does.Trim q) b d e g = absurd d
  acts_same (asks.Read p) (does.CopyRead q) b d e g = absurd d
  acts_same (asks.Read p) (does.CopyProgram q) b d e g = absurd d
  acts_same (asks.Read p) (does.Erase q) b d e g = absurd d
  acts_same (asks.Read p) (does.Read q x) (does.Write r y) d e g = absurd e
  acts_same (asks.Read p) (does.Read q x) (does.Trim r) d e g = absurd e
  acts_same (asks.Read p) (does.Read q x) (does.CopyRead r) d e g = absurd e
  acts_same (asks.Read p) (does.Read q x) (does.CopyProgram r) d e g = absurd e
  acts_same (asks.Read p) (does.Read q x) (does.Erase r) d e g = absurd e
  acts_same (asks.Write p c) (does.Read q x) b d e g = absurd d
  acts_same (asks.Write p c) (does.Trim q) b d e g = absurd d
  acts_same (asks.Write p c) (does.CopyRead q) b d e g = absurd d
  acts_same (asks.Write p c) (does.CopyProgram q) b d e g = absurd d
  acts_same (asks.Write p c) (does.Erase q) b d e g = absurd d
  acts_same (asks.Write p c) (does.Write q x) (does.Read r y) d e g = absurd e
  acts_same (asks.Write p c) (does.Write q x) (does.Trim r) d e g = absurd e
  acts_same (asks.Write p c) (does.Write q x) (does.CopyRead r) d e g = absurd e
  acts_same (asks.Write p c) (does.Write q x) (does.CopyProgram r) d e g = absurd e
  acts_same (asks.Write p c) (does.Write q x) (does.Erase r) d e g = absurd e
  acts_same (asks.Trim p) (does.Read q x) b d e g = absurd d
  acts_same (asks.Trim p) (does.Write q x) b d e g = absurd d
  acts_same (asks.Trim p) (does.CopyRead q) b d e g = absurd d
  acts_same (asks.Trim p) (does.CopyProgram q) b d e g = absurd d
  acts_same (asks.Trim p) (does.Erase q) b d e g = absurd d
  acts_same (asks.Trim p) (does.Trim q) (does.Read r y) d e g = absurd e
  acts_same (asks.Trim p) (does.Trim q) (does.Write r y) d e g = absurd e
  acts_same (asks.Trim p) (does.Trim q) (does.CopyRead r) d e g = absurd e
  acts_same (asks.Trim p) (does.Trim q) (does.CopyProgram r) d e g = absurd e
  acts_same (asks.Trim p) (does.Trim q) (does.Erase r) d e g = absurd e

  pub jobs_alike : ((op : Op) → Contains i.ops op → IsTrue (is_read op) → IsOwnInBoth task (page_of op) first one other two)
      → IsTrue (is_done first.plan one i) → IsTrue (is_done other.plan two j) → acts i.number one ≡ acts j.number two
  jobs_alike own done_one done_two =
      same_lists (acts i.number one) (acts j.number two)
      (all_had first h.opens_one one i stands_one done_one
      ∙ (ap (λ (l : List Op). length l) ops_same ∙ sym (all_had other h.opens_two two j stands_two done_two))) at_each
    where
      at_each : (n : ℕ) (a b : Act) → slice_get (acts i.number one) n ≡ Some a → slice_get (acts j.number two) n ≡ Some b → a ≡ b
      at_each n a b p q =
          let o = op_same n a b p q in
          acts_same o.0 a b o.2 o.3 (λ page bytes given is x y.
          let stands : Contains i.ops o.0 = (n, slice_get_within i.ops n o.0 o.1, get_or_from_slice_get i.ops n o.0 o.0 o.1) in
          let at : slice_get (acts i.number one) n ≡ Some (does.Read page bytes) = p ∙ ap Some x in
          let there : slice_get (acts j.number two) n ≡ Some (does.Read page given) = q ∙ ap Some y in
          bytes_same page (subst (λ (m : ℕ). IsOwnInBoth task m first one other two) (ap page_of is) (own o.0 stands (ap is_read is)))
          n bytes given at there)

-- and once all is done the same stands on such a page
pub ended_alike : (task : ℕ) (first : Start) (one : Log) (other : Start) (two : Log) → AreAskedAlike task first one other two → (page : ℕ)
    → IsOwnInBoth task page first one other two → IsQuiet first one → IsQuiet other two → content first one page ≡ content other two page
ended_alike task first one other two h page own quiet_one quiet_two =
    ends_as_asked first h.opens_one one h.exact_one task page h.order_one own.own_one quiet_one
    ∙ (ap (λ (l : List Op). left_on page l (content first [] page)) (same_operations (task_jobs task one) (task_jobs task two) h.same)
    ∙ (ap (left_on page (operations (task_jobs task two))) own.same
    ∙ sym (ends_as_asked other h.opens_two two h.exact_two task page h.order_two own.own_two quiet_two)))
