-- Slots that carried least keys have least lateness.
use Rattle.std.proofs.Common.{◌≡◌, ℕ, zero, suc, ◌+◌, ◌-◌, ◌<◌, ◌≤◌, Bool, true, cond, List, [], ◌∷◌, length, map, Option, Some, None}
use Rattle.std.proofs.Common.{count_by, sum_by, arith, refl, sym, ap, ◌∙◌, subst, inl, inr, ne_eqb}
use Rattle.std.proofs.lemmas.Bool.{false≢true, cases_Bool, cases_lt, both_ways}
use Rattle.std.proofs.lemmas.List.Kept.{AllPairs-from_increasing}
use Rattle.std.proofs.lemmas.List.Sums.{sum_by-cons}
use Rattle.std.proofs.lemmas.Option.{same_Some, none-some}
use Rattle.late_cert.specs.declared.rows.JobRow.{JobRow}
use Rattle.late_cert.specs.Schedule.{Slots, slot_at, is_named, work_in, end_by, completion_in, done_slot, IsLeastLate}
use Rattle.late_cert.specs.Rows.{is_done, release_of, due_of, work_of, completion_of}
use Rattle.late_cert.specs.Bound.{is_listed, IsCertificate}
use Rattle.late_cert.specs.BusyInterval.{is_within, IsBusyInterval, CarriesLeastKeys, start_of, jobs_of}
use Rattle.late_cert.proofs.Counting.{slot-below-end, slot-at-end, count-le-end, is_one_of, some-named, count-jobs, sum-same}
use Rattle.late_cert.proofs.Binds.{listed-at, binds}
use Rattle.late_cert.proofs.Keys.{KeyAtMost, within-true, true-within, key-trans, key-same, key-refl, done-known, named-some}
use Rattle.late_cert.proofs.Window.{count-window, busy_interval-is}

-- a slot that carries a number is one of the slots
pub at-length : (c : Slots) (t k : ℕ) → slot_at c t ≡ Some k → t < length c
at-length [] t k e = absurd (none-some k e)
at-length (x ∷ c) zero k e = omega arith
at-length (x ∷ c) (suc t) k e = let ih : t < length c = at-length c t k e in omega arith

-- the slots carry k below its completion alone
pub below-completion : (rows : List JobRow) (c : Slots) → CarriesLeastKeys rows c → (t k : ℕ)
    → slot_at c t ≡ Some k → is_done rows k ≡ true → t < completion_of rows k
below-completion rows c h t k e done =
    let lt : t < completion_in c k =
    slot-below-end (is_named k) c t (at-length c t k e) (some-named k (slot_at c t) e) in
    let is : completion_of rows k ≡ completion_in c k = h.completes k done in
    omega arith

pub count-pos : (c : Slots) (j : ℕ) → 0 < work_in c j → 0 < completion_in c j
count-pos c j h =
    let le : count_by (is_named j) c ≤ end_by (is_named j) c - 0 = count-le-end (is_named j) c 0 (λ t a b. omega arith) in
    omega arith

-- a done job was carried in the slot just below its completion
pub carried-last : (rows : List JobRow) (c : Slots) → CarriesLeastKeys rows c → (j : ℕ) → is_done rows j ≡ true
    → (t : ℕ) × (completion_of rows j ≡ suc t) × (slot_at c t ≡ Some j) × (t < length c)
carried-last rows c h j done =
    let is : completion_of rows j ≡ completion_in c j = h.completes j done in
    let some : 0 < work_of rows j = h.begun j done in
    let works : work_of rows j ≡ work_in c j = h.works j (done-known rows j done) in
    let pos : 0 < completion_in c j = (let k : 0 < work_in c j = omega arith in count-pos c j k) in
    let t : ℕ = completion_in c j - 1 in
    let s : completion_in c j ≡ suc t = omega arith in
    let at : slot_at c t ≡ Some j = named-some j (slot_at c t) (slot-at-end (is_named j) c t s) in
    (t, is ∙ s, at, at-length c t j at)

-- what a slot of a busy interval carries has a key not above that of the busy interval
pub busy_interval-key : (rows : List JobRow) (c : Slots) (j t k : ℕ) → is_within rows j (slot_at c t) ≡ true → slot_at c t ≡ Some k
    → KeyAtMost (due_of rows k) k (due_of rows j) j
busy_interval-key rows c j t k is e =
    let w = within-true rows j (slot_at c t) is in
    let P : ℕ → Type 0 = λ m. KeyAtMost (due_of rows m) m (due_of rows j) j in
    subst P (same_Some w.number k (sym w.carries ∙ e)) w.key

-- the jobs of a busy interval were released in it
pub busy_interval-released : (rows : List JobRow) (c : Slots) → CarriesLeastKeys rows c
    → (j start n : ℕ) (jobs : List ℕ) → IsBusyInterval rows c j start n jobs
    → (t k : ℕ) → start ≤ t → t < n → slot_at c t ≡ Some k → start ≤ release_of rows k
busy_interval-released rows c h j start n jobs s t k a b e =
    elim (cases_lt (release_of rows k) start) [
      | inl early ↦
          let u : ℕ = start - 1 in
          let is : start ≡ suc u = omega arith in
          let inside : t < length c = at-length c t k e in
          let below : u < length c = omega arith in
          let released : release_of rows k ≤ u = omega arith in
          let open_then : is_done rows k ≡ true → u < completion_of rows k =
          (λ done. let lt : t < completion_of rows k = below-completion rows c h t k e done in omega arith) in
          let kept : is_within rows k (slot_at c u) ≡ true = h.least u k below (h.known t k e) released open_then in
          let w = within-true rows k (slot_at c u) kept in
          let key : KeyAtMost (due_of rows k) k (due_of rows j) j = busy_interval-key rows c j t k (s.carries t a b) e in
          let within : is_within rows j (slot_at c u) ≡ true =
          true-within rows j w.number (slot_at c u) w.carries w.known
          (key-trans (due_of rows w.number) w.number (due_of rows k) k (due_of rows j) j w.key key) in
          absurd (both_ways (is_within rows j (slot_at c u)) (s.least u is) within)
      | inr late ↦ late
    ]

-- a job of a busy interval that is not done below the busy interval's last slot is the busy interval's own
pub busy_interval-open : (rows : List JobRow) (c : Slots) → CarriesLeastKeys rows c → (j start n : ℕ) (jobs : List ℕ)
    → IsBusyInterval rows c j start n jobs → (last : ℕ) → n ≡ suc last → slot_at c last ≡ Some j → last < length c
    → (t k : ℕ) → start ≤ t → t < n → slot_at c t ≡ Some k
    → (is_done rows k ≡ true → last < completion_of rows k) → k ≡ j
busy_interval-open rows c h j start n jobs s last is at inside t k a b e open_then =
    let released : release_of rows k ≤ t = h.released t k e in
    let kept : is_within rows k (slot_at c last) ≡ true =
    h.least last k inside (h.known t k e) (omega arith) open_then in
    let below : KeyAtMost (due_of rows j) j (due_of rows k) k = busy_interval-key rows c k last j kept at in
    let above : KeyAtMost (due_of rows k) k (due_of rows j) j = busy_interval-key rows c j t k (s.carries t a b) e in
    key-same (due_of rows k) k (due_of rows j) j above below

-- the jobs of the busy interval of a done job are done
pub busy_interval-done : (rows : List JobRow) (c : Slots) → CarriesLeastKeys rows c → (j start n : ℕ) (jobs : List ℕ)
    → IsBusyInterval rows c j start n jobs → (last : ℕ) → n ≡ suc last → slot_at c last ≡ Some j → last < length c
    → is_done rows j ≡ true
    → (t k : ℕ) → start ≤ t → t < n → slot_at c t ≡ Some k → is_done rows k ≡ true
busy_interval-done rows c h j start n jobs s last is at inside done t k a b e =
    elim (cases_Bool (is_done rows k)) [
      | inl yes_done ↦ yes_done
      | inr not_done ↦
          let same : k ≡ j = busy_interval-open rows c h j start n jobs s last is at inside t k a b e
          (λ d. absurd (both_ways (is_done rows k) not_done d)) in
          ap (is_done rows) same ∙ done
    ]

-- and end in it
pub busy_interval-ends : (rows : List JobRow) (c : Slots) → CarriesLeastKeys rows c → (j start n : ℕ) (jobs : List ℕ)
    → IsBusyInterval rows c j start n jobs → (last : ℕ) → n ≡ suc last → slot_at c last ≡ Some j → last < length c
    → completion_of rows j ≡ n
    → (t k : ℕ) → start ≤ t → t < n → slot_at c t ≡ Some k → completion_of rows k ≤ n
busy_interval-ends rows c h j start n jobs s last is at inside ends t k a b e =
    elim (cases_lt last (completion_of rows k)) [
      | inl later ↦
          let same : k ≡ j = busy_interval-open rows c h j start n jobs s last is at inside t k a b e (λ d. later) in
          let q : completion_of rows k ≡ completion_of rows j = ap (completion_of rows) same in
          omega arith
      | inr le ↦ omega arith
    ]

pub listed-filled : (js : List ℕ) (k : ℕ) → is_listed js k ≡ true → 0 < length js
listed-filled [] k h = absurd (false≢true h)
listed-filled (j ∷ js) k h = omega arith

-- the busy interval of a done job is a certificate
pub busy_interval-certifies : (rows : List JobRow) (c : Slots) → CarriesLeastKeys rows c
    → (j : ℕ) → is_done rows j ≡ true
    → (start : ℕ) (jobs : List ℕ) → IsBusyInterval rows c j start (completion_of rows j) jobs
    → IsCertificate rows start (due_of rows j) (completion_of rows j) jobs
busy_interval-certifies rows c h j done start jobs s =
    let n : ℕ = completion_of rows j in
    let end = carried-last rows c h j done in
    let last : ℕ = end.0 in
    let is : n ≡ suc last = end.1 in
    let at : slot_at c last ≡ Some j = end.2 in
    let inside : last < length c = end.3 in
    let own : is_within rows j (slot_at c last) ≡ true =
    true-within rows j j (slot_at c last) at (done-known rows j done) (key-refl (due_of rows j) j) in
    let low : start ≤ last =
    (elim (cases_lt last start) [
      | inl above ↦
          let o : start ≤ n = s.ordered in
          let e : start ≡ suc last = omega arith in
          absurd (both_ways (is_within rows j (slot_at c last)) (s.least last e) own)
      | inr le ↦ le
    ]) in
    let lt : last < n = omega arith in
    let works : (k : ℕ) → is_listed jobs k ≡ true → work_of rows k ≡ work_in c k =
    (λ k l. let q = (s.listed k).0 l in h.works k (h.known q.0 k q.3)) in
    let total : sum_by (work_of rows) jobs ≡ sum_by (work_in c) jobs = sum-same (work_of rows) (work_in c) jobs works in
    let counted : count_by (is_one_of jobs) c ≡ sum_by (work_in c) jobs =
    count-jobs jobs c (AllPairs-from_increasing jobs s.rising) in
    let window : count_by (is_one_of jobs) c + start ≡ n =
    count-window (is_one_of jobs) c start n s.ordered (omega arith)
    (λ t a b.
    let w = within-true rows j (slot_at c t) (s.carries t a b) in
    let l : is_listed jobs w.number ≡ true = (s.listed w.number).1 (t, a, b, w.carries) in
    ap (is_one_of jobs) w.carries ∙ l)
    (λ t a l.
    let k = listed-at jobs (slot_at c t) l in
    let q = (s.listed k.0).0 k.2 in
    let r : start ≤ release_of rows k.0 = busy_interval-released rows c h j start n jobs s q.0 k.0 q.1 q.2 q.3 in
    let r' : release_of rows k.0 ≤ t = h.released t k.0 k.1 in
    let d : is_done rows k.0 ≡ true = busy_interval-done rows c h j start n jobs s last is at inside done q.0 k.0 q.1 q.2 q.3 in
    let e : completion_of rows k.0 ≤ n = busy_interval-ends rows c h j start n jobs s last is at inside refl q.0 k.0 q.1 q.2 q.3 in
    let e' : t < completion_of rows k.0 = below-completion rows c h t k.0 k.1 d in
    (omega arith, omega arith)) in
    record {
      filled = listed-filled jobs j ((s.listed j).1 (last, low, lt, at));
      rising = s.rising;
      each = λ k l.
          let q = (s.listed k).0 l in
          let d : is_done rows k ≡ true = busy_interval-done rows c h j start n jobs s last is at inside done q.0 k q.1 q.2 q.3 in
          record {
            done = d;
            works = h.begun k d;
            released = busy_interval-released rows c h j start n jobs s q.0 k q.1 q.2 q.3;
            due_by = (busy_interval-key rows c j q.0 k (s.carries q.0 q.1 q.2) q.3).deadlines;
          };
      sum = omega (arith, total, counted, window);
    }

-- a test read through a map of the slots
pub count-map : (p q : Option ℕ → Bool) (g : Option ℕ → Option ℕ) → ((o : Option ℕ) → p (g o) ≡ q o)
    → (f : Slots) → count_by p (map g f) ≡ count_by q f
count-map p q g e [] = refl
count-map p q g e (o ∷ f) =
    let a : count_by p (map g (o ∷ f)) ≡ cond (p (g o)) 1 0 + count_by p (map g f) = sum_by-cons (λ y. cond (p y) 1 0) (g o) (map g f) in
    let b : count_by q (o ∷ f) ≡ cond (q o) 1 0 + count_by q f = sum_by-cons (λ y. cond (q y) 1 0) o f in
    let w : ◌≡◌ {A = ℕ} (cond (p (g o)) 1 0) (cond (q o) 1 0) = ap (λ b. cond b 1 0) (e o) in
    omega (arith, a, b, w, count-map p q g e f)

pub end-map : (p q : Option ℕ → Bool) (g : Option ℕ → Option ℕ) → ((o : Option ℕ) → p (g o) ≡ q o)
    → (f : Slots) → end_by p (map g f) ≡ end_by q f
end-map p q g e [] = refl
end-map p q g e (o ∷ f) = rw (e o, end-map p q g e f) refl

pub slot-map : (rows : List JobRow) (f : Slots) (t : ℕ) → slot_at (map (done_slot rows) f) t ≡ done_slot rows (slot_at f t)
slot-map rows [] t = refl
slot-map rows (o ∷ f) zero = refl
slot-map rows (o ∷ f) (suc t) = slot-map rows f t

-- a done job is named by the same slots
pub named-cut : (rows : List JobRow) (j : ℕ) → is_done rows j ≡ true → (o : Option ℕ) → is_named j (done_slot rows o) ≡ is_named j o
named-cut rows j done None = refl
named-cut rows j done (Some k) =
    elim (cases_Bool (is_done rows k)) [
      | inl d ↦ rw d refl
      | inr not_done ↦ rw not_done
          (sym (ne_eqb j k (λ e. both_ways (is_done rows k) not_done (ap (is_done rows) (sym e) ∙ done))))
    ]

pub cut-some : (rows : List JobRow) (o : Option ℕ) (j : ℕ) → done_slot rows o ≡ Some j → o ≡ Some j
cut-some rows None j e = e
cut-some rows (Some k) j e =
    elim (cases_Bool (is_done rows k)) [
      | inl d ↦ (rw d at e)
      | inr not_done ↦ absurd (none-some j (rw not_done at e))
    ]

-- slots that carried least keys have least lateness
pub least-late : (rows : List JobRow) (c : Slots) → CarriesLeastKeys rows c → IsLeastLate rows c
least-late rows c h =
    record {
      serves = record {
        works = λ j done.
            let a : work_in (map (done_slot rows) c) j ≡ work_in c j =
            count-map (is_named j) (is_named j) (done_slot rows) (named-cut rows j done) c in
            let b : work_of rows j ≡ work_in c j = h.works j (done-known rows j done) in
            omega (arith, a, b);
        released = λ j t done e. h.released t j (cut-some rows (slot_at c t) j (sym (slot-map rows c t) ∙ e));
      };
      completes = λ j done.
          let a : completion_in (map (done_slot rows) c) j ≡ completion_in c j =
          end-map (is_named j) (is_named j) (done_slot rows) (named-cut rows j done) c in
          let b : completion_of rows j ≡ completion_in c j = h.completes j done in
          omega (arith, a, b);
      least = λ f serves j done.
          let n : ℕ = completion_of rows j in
          let start : ℕ = start_of rows c j n in
          let jobs : List ℕ = jobs_of rows c start n in
          let cert : IsCertificate rows start (due_of rows j) n jobs =
          busy_interval-certifies rows c h j done start jobs (busy_interval-is rows c j n h.rising) in
          let bound = binds rows start (due_of rows j) n jobs cert f
          (record {
            works = λ k l. serves.works k (cert.each k l).done;
            released = λ k t l e. serves.released k t (cert.each k l).done e;
          }) in
          (bound.0, (cert.each bound.0 bound.1).done, bound.2);
    }

-- what a busy interval carries was released in it and is due by its deadline
pub busy_interval-carries : (rows : List JobRow) (c : Slots) → CarriesLeastKeys rows c
    → (j start n : ℕ) (jobs : List ℕ) → IsBusyInterval rows c j start n jobs
    → (t k : ℕ) → start ≤ t → t < n → slot_at c t ≡ Some k → (start ≤ release_of rows k) × (due_of rows k ≤ due_of rows j)
busy_interval-carries rows c h j start n jobs s t k a b e =
    (busy_interval-released rows c h j start n jobs s t k a b e, (busy_interval-key rows c j t k (s.carries t a b) e).deadlines)
