-- The tables of a register against the view of its history: each accepted call is a step of the view.
use Rattle.std.proofs.Common.{◌≡◌, ℕ, zero, suc, ◌+◌, ◌-◌, ◌*◌, ◌<◌, ◌≤◌, min, max, Bool, true, false, cond, not, ◌&&◌, ◌||◌, eqb, ltb, List, length, get_or, set, Result, sym, refl, ap, ◌∙◌, subst, ap₂, subst₂, arith}
use mathlib.Core.Path.{fun_ext}
use Rattle.std.proofs.lemmas.List.{length-set}
use Rattle.std.proofs.lemmas.Bool.{eqb-true, eqb-false, ne_eqb, both_ways, ltb-false, and_from, cond_both}
use Rattle.terms.specs.declared.numbers.Place.{Place}
use Rattle.terms.specs.declared.records.JobRecord.{JobRecord}
use Rattle.terms.specs.declared.records.Standing.TheVariants.{Open as IsOpen}
use Rattle.terms.specs.declared.refusals.Refusal.{Refusal}
use Rattle.history.specs.Events.{Operation}
use Rattle.history.specs.Views.{Accepts, RegisterView, conflicts, updated, view_after}
use Rattle.rules.specs.Contents.{Fits, closed_record}
use Rattle.rules.specs.JobCalls.{abandoned_at, commit_low, committed_at, lowered, open_outcome, other_reader, raised_low, raised_reads, read_cell, touches, write_outcome}
use Rattle.rules.specs.Limits.{top}
use Rattle.rules.specs.Registers.{Register, flag_of, has_job, has_read, has_written, high_of, is_open, job_number, low_of, own_of, record_of}
use Rattle.rules.specs.Tables.{at, cleared, each, most, put, read_flag, some, spot, with_read, with_written, written_flag}
use Rattle.rules.specs.declared.calls.Answer.{Answer}
use Rattle.rules.proofs.Changing.{at_each, at_put, first_read, first_written, get_or_cleared, get_or_spot, length_each, most_at, written_read, written_written}
use Rattle.guarantee.proofs.Counting.{busy, busy_updated, length_cleared, one_no, one_yes}
use Rattle.guarantee.proofs.Passing.{Sized, Working}

---- The tie

-- a record against the view's entries for the crew
abbrev pub Tied : Bool → JobRecord → ℕ → ℕ → ℕ → Type 0
Tied true j x l h = (x ≡ j.job.0) × (1 ≤ x) × (l ≡ j.low.0) × (h ≡ j.high.0)
Tied false j x l h = x ≡ 0

pub record Tie {V : Type 0} (d : V) (r : Register V) (s : RegisterView V) : Type 0 where
  pub value_is : (c : ℕ) → 1 ≤ c → c ≤ r.head.sizes.cells → at r.tables.values c d ≡ s.value c
  pub written_is : (c : ℕ) → 1 ≤ c → c ≤ r.head.sizes.cells → at r.tables.written c 0 ≡ s.written c
  pub read_is : (c : ℕ) → 1 ≤ c → c ≤ r.head.sizes.cells → at r.tables.read c 0 ≡ s.read c
  pub job_is : (u : ℕ) → 1 ≤ u → u ≤ r.head.sizes.crews → Tied (has_job r u) (record_of r u) (s.job u) (s.low u) (s.high u)
  pub crews : (u : ℕ) → 1 ≤ s.job u → (1 ≤ u) × (u ≤ r.head.sizes.crews)
  pub own_is : (u c : ℕ) → 1 ≤ u → u ≤ r.head.sizes.crews → 1 ≤ c → c ≤ r.head.sizes.cells → own_of d r u c ≡ s.own u c
  pub reads_are : (u c : ℕ) → 1 ≤ u → u ≤ r.head.sizes.crews → 1 ≤ c → c ≤ r.head.sizes.cells → has_read r u c ≡ s.has_read u c
  pub writes_are : (u c : ℕ) → 1 ≤ u → u ≤ r.head.sizes.crews → 1 ≤ c → c ≤ r.head.sizes.cells → has_written r u c ≡ s.has_written u c
  pub highest_is : s.highest ≡ r.head.highest
  pub opened_is : s.opened ≡ r.head.ended + r.head.active
  pub active_is : r.head.active ≡ busy s.job r.head.sizes.crews
  pub under_top : (u : ℕ) → s.high u ≤ top
  pub fits : Fits r.head.sizes r.tables

-- one of the cells
some_conflict : {V : Type 0} (t : ℕ → Bool) (s : RegisterView V) (w u n : ℕ) → ((c : ℕ) → 1 ≤ c → c ≤ n → t c ≡ (s.has_read u c && s.has_written w c)) → some t n ≡ conflicts s w u n
some_conflict t s w u zero h = refl
some_conflict t s w u (suc n) h = ap₂ ◌||◌ (h (suc n) (omega arith) (omega arith)) (some_conflict t s w u n (λ c a b. h c a (omega arith)))

pub tied_open : (b : Bool) (j : JobRecord) (x l h : ℕ) → b ≡ true → Tied b j x l h → (x ≡ j.job.0) × (1 ≤ x) × (l ≡ j.low.0) × (h ≡ j.high.0)
tied_open b j x l h e t = grind (arith, e, t)

pub tied_closed : (b : Bool) (j : JobRecord) (x l h : ℕ) → b ≡ false → Tied b j x l h → x ≡ 0
tied_closed b j x l h e t = grind (arith, e, t)

pub tied_by_job : (b : Bool) (j : JobRecord) (x l h : ℕ) → Tied b j x l h → 1 ≤ x → b ≡ true
tied_by_job b j x l h t a = grind (arith, t, a)

tied_from : (b : Bool) (j : JobRecord) (x l h : ℕ) → b ≡ true → (x ≡ j.job.0) × (1 ≤ x) × (l ≡ j.low.0) × (h ≡ j.high.0) → Tied b j x l h
tied_from b j x l h e t = grind (arith, e, t)

-- one record of the table changed
tied_put : (t : Bool) (k j : JobRecord) (x x' l l' h h' : ℕ) → Tied (is_open k.standing) k x' l' h' → (t ≡ false → Tied (is_open j.standing) j x l h) →
    Tied (is_open (cond t k j).standing) (cond t k j) (cond t x' x) (cond t l' l) (cond t h' h)
tied_put t k j x x' l l' h h' p q = grind (arith, p, q)

-- a high lowered
tied_lower : (t : Bool) (j : JobRecord) (x l h p : ℕ) → Tied (is_open j.standing) j x l h →
    Tied (is_open (cond (is_open j.standing && t) (lowered p j) j).standing) (cond (is_open j.standing && t) (lowered p j) j) x l (cond t (min h p) h)
tied_lower t j x l h p q = grind (arith, q)

put_same : {A : Type 0} (f : ℕ → A) (k : ℕ) (v : A) → v ≡ f k → (j : ℕ) → updated f k v j ≡ f j
put_same f k v e j = cond_both (eqb k j) _ _ (λ x. x ≡ f j) (λ q. e ∙ ap f (eqb-true k j q)) (λ _. refl)

updated_below : (f : ℕ → ℕ) (k v b : ℕ) → v ≤ b → ((u : ℕ) → f u ≤ b) → (u : ℕ) → updated f k v u ≤ b
updated_below f k v b l h u = cond_both (eqb k u) _ _ (λ x. x ≤ b) (λ _. l) (λ _. h u)

cond_same : {A : Type 0} (b c : Bool) (x x' y y' : A) → b ≡ c → x ≡ x' → y ≡ y' → cond b x y ≡ cond c x' y'
cond_same b c x x' y y' p q e = rw (p, q, e)

module _ {V : Type 0} (d : V) (r : Register V) (s : RegisterView V) (tie : Tie d r s) (w : ℕ) (z : Sized r w) where
  pub of_open : has_job r w ≡ true → (s.job w ≡ job_number r w) × (1 ≤ s.job w) × (s.low w ≡ low_of r w) × (s.high w ≡ high_of r w)
  of_open e = tied_open (has_job r w) (record_of r w) (s.job w) (s.low w) (s.high w) e (tie.job_is w z.from_one z.to_crews)

  pub job_tied : Working r w → s.job w ≡ job_number r w
  job_tied k = (of_open k.has).0

  put_jobs : (k : JobRecord) (xs : List JobRecord) (x' l' h' : ℕ) (high : ℕ → ℕ) → length xs ≡ r.head.sizes.crews → Tied (is_open k.standing) k x' l' h' →
      ((u : ℕ) → (u ≡ w → ⊥) → 1 ≤ u → u ≤ r.head.sizes.crews → Tied (is_open (at xs u closed_record).standing) (at xs u closed_record) (s.job u) (s.low u) (high u)) →
      (u : ℕ) → 1 ≤ u → u ≤ r.head.sizes.crews → Tied (is_open (at (put xs w k) u closed_record).standing) (at (put xs w k) u closed_record) (updated s.job w x' u) (updated s.low w l' u) (updated high w h' u)
  put_jobs k xs x' l' h' high len p q u a b =
      subst (λ (j : JobRecord). Tied (is_open j.standing) j (updated s.job w x' u) (updated s.low w l' u) (updated high w h' u))
      (sym (at_put xs w u k closed_record z.from_one (omega (arith, z.to_crews)) a))
      (tied_put (eqb w u) k (at xs u closed_record) (s.job u) x' (s.low u) l' (high u) h' p (λ e. q u (λ f. eqb-false w u e (sym f)) a b))

  put_crews : (x : ℕ) → (u : ℕ) → 1 ≤ updated s.job w x u → (1 ≤ u) × (u ≤ r.head.sizes.crews)
  put_crews x u = cond_both (eqb w u) x (s.job u) (λ k. 1 ≤ k → (1 ≤ u) × (u ≤ r.head.sizes.crews))
      (λ e _. let q = eqb-true w u e in (omega (arith, z.from_one, q), omega (arith, z.to_crews, q))) (λ _. tie.crews u)

  ---- open

  no_job : has_job r w ≡ false → s.job w ≡ 0
  no_job e = tied_closed (has_job r w) (record_of r w) (s.job w) (s.low w) (s.high w) e (tie.job_is w z.from_one z.to_crews)

  pub accepts_open : has_job r w ≡ false → ltb top (r.head.highest + 2) ≡ false → Accepts top r.head.sizes.cells s w Operation.opens
  accepts_open e f = (no_job e, omega (arith, tie.highest_is, ltb-false top (r.head.highest + 2) f))

  pub tie_open : has_job r w ≡ false → Tie d (open_outcome r w).left (view_after top r.head.sizes.cells s w Operation.opens)
  tie_open e = record {
    value_is = tie.value_is;
    written_is = tie.written_is;
    read_is = tie.read_is;
    job_is = put_jobs (record { standing = IsOpen; job = record { 0 = r.head.ended + r.head.active + 1 }; low = record { 0 = r.head.highest }; high = record { 0 = top } }) r.tables.jobs (suc s.opened) s.highest top s.high z.fits.jobs
        (omega (arith, tie.opened_is), omega arith, tie.highest_is, refl) (λ u n. tie.job_is u);
    crews = put_crews (suc s.opened);
    own_is = tie.own_is;
    reads_are = tie.reads_are;
    writes_are = tie.writes_are;
    highest_is = tie.highest_is;
    opened_is = omega (arith, tie.opened_is);
    active_is = omega (arith, busy_updated s.job w (suc s.opened) r.head.sizes.crews z.from_one z.to_crews, one_no (s.job w) (no_job e), one_yes (suc s.opened) (omega arith), tie.active_is);
    under_top = updated_below s.high w top top (omega arith) tie.under_top;
    fits = record { values = z.fits.values; written = z.fits.written; read = z.fits.read; jobs = length-set r.tables.jobs (w - 1) _ ∙ z.fits.jobs; own = z.fits.own; flags = z.fits.flags; book = z.fits.book };
  }

  ---- one spot of a table of crews and cells changed

  spot_put : {A B : Type 0} (xs : List A) (o : A) (c : ℕ) (x : A) (g : A → B) (t : ℕ → ℕ → B) (y : B) → length xs ≡ r.head.sizes.crews * r.head.sizes.cells → 1 ≤ c → c ≤ r.head.sizes.cells → g x ≡ y →
      ((u k : ℕ) → 1 ≤ u → u ≤ r.head.sizes.crews → 1 ≤ k → k ≤ r.head.sizes.cells → g (get_or xs (spot r.head.sizes.cells u k) o) ≡ t u k) →
      (u k : ℕ) → 1 ≤ u → u ≤ r.head.sizes.crews → 1 ≤ k → k ≤ r.head.sizes.cells → g (get_or (set xs (spot r.head.sizes.cells w c) x) (spot r.head.sizes.cells u k) o) ≡ updated t w (updated (t w) c y) u k
  spot_put xs o c x g t y len a b e same u k au bu ak bk =
      ap g (get_or_spot xs r.head.sizes.cells r.head.sizes.crews w c u k x o len z.from_one z.to_crews a b au ak bk) ∙ go (eqb w u) (eqb c k) refl refl
    where
      go : (p q : Bool) → eqb w u ≡ p → eqb c k ≡ q → g (cond p (cond q x (get_or xs (spot r.head.sizes.cells u k) o)) (get_or xs (spot r.head.sizes.cells u k) o)) ≡ cond p (λ j. cond (eqb c j) y (t w j)) (t u) k
      go true true f h = rw h e
      go true false f h = rw (h, eqb-true w u f) (same u k au bu ak bk)
      go false q f h = same u k au bu ak bk

  ---- read

  pub accepts_own : (c : ℕ) → Working r w → 1 ≤ c → c ≤ r.head.sizes.cells → has_written r w c ≡ true → Accepts top r.head.sizes.cells s w (Operation.reads c (own_of d r w c))
  accepts_own c k a b e =
      let f : s.has_written w c ≡ true = sym (tie.writes_are w c z.from_one z.to_crews a b) ∙ e in
      ((of_open k.has).1, rw f (tie.own_is w c z.from_one z.to_crews a b), λ g. absurd (both_ways (s.has_written w c) g f))

  pub tie_own : (c : ℕ) (v : V) → 1 ≤ c → c ≤ r.head.sizes.cells → has_written r w c ≡ true → Tie d r (view_after top r.head.sizes.cells s w (Operation.reads c v))
  tie_own c v a b e = record {
    value_is = tie.value_is;
    written_is = tie.written_is;
    read_is = tie.read_is;
    job_is = λ u x y. subst (λ (l : ℕ). Tied (has_job r u) (record_of r u) (s.job u) l (s.high u)) (sym (put_same s.low w (cond (s.has_written w c) (s.low w) (max (s.low w) (s.written c))) (rw f) u)) (tie.job_is u x y);
    crews = tie.crews;
    own_is = tie.own_is;
    reads_are = λ u k a b a' b'. tie.reads_are u k a b a' b' ∙ sym (ap (λ (g : ℕ → Bool). g k) (put_same s.has_read w (updated (s.has_read w) c (cond (s.has_written w c) (s.has_read w c) true)) row_same u));
    writes_are = tie.writes_are;
    highest_is = tie.highest_is;
    opened_is = tie.opened_is;
    active_is = tie.active_is;
    under_top = tie.under_top;
    fits = z.fits;
  }
    where
      f : s.has_written w c ≡ true
      f = sym (tie.writes_are w c z.from_one z.to_crews a b) ∙ e

      row_same : updated (s.has_read w) c (cond (s.has_written w c) (s.has_read w c) true) ≡ s.has_read w
      row_same = fun_ext (put_same (s.has_read w) c (cond (s.has_written w c) (s.has_read w c) true) (rw f))

  pub accepts_cell : (c : ℕ) → Working r w → 1 ≤ c → c ≤ r.head.sizes.cells → has_written r w c ≡ false → ltb (high_of r w) (raised_low r w c + 2) ≡ false → Accepts top r.head.sizes.cells s w (Operation.reads c (at r.tables.values c d))
  accepts_cell c k a b e l =
      let f : s.has_written w c ≡ false = sym (tie.writes_are w c z.from_one z.to_crews a b) ∙ e in
      let o = of_open k.has in
      (o.1, rw f (tie.value_is c a b), λ g. omega (arith, o.2, o.3, tie.written_is c a b, ltb-false (high_of r w) (raised_low r w c + 2) l))

  pub tie_cell : (c : ℕ) (v : V) → Working r w → 1 ≤ c → c ≤ r.head.sizes.cells → has_written r w c ≡ false → Tie d (read_cell d r w c).left (view_after top r.head.sizes.cells s w (Operation.reads c v))
  tie_cell c v k a b e = record {
    value_is = tie.value_is;
    written_is = tie.written_is;
    read_is = tie.read_is;
    job_is = λ u x y. subst₂ (λ (j h : ℕ). Tied (is_open (at (put r.tables.jobs w K) u closed_record).standing) (at (put r.tables.jobs w K) u closed_record) j (updated s.low w L u) h)
        (put_same s.job w (s.job w) refl u) (put_same s.high w (s.high w) refl u)
        (put_jobs K r.tables.jobs (s.job w) L (s.high w) s.high z.fits.jobs (tied_from (is_open K.standing) K (s.job w) L (s.high w) k.has (o.0, o.1, low_is, o.3)) (λ u n. tie.job_is u) u x y);
    crews = tie.crews;
    own_is = tie.own_is;
    reads_are = spot_put r.tables.flags 0 c (with_read (flag_of r w c)) read_flag s.has_read (cond (s.has_written w c) (s.has_read w c) true) z.fits.flags a b (first_read (flag_of r w c) ∙ rw f) tie.reads_are;
    writes_are = λ u i a' b' a'' b''. spot_put r.tables.flags 0 c (with_read (flag_of r w c)) written_flag s.has_written (s.has_written w c) z.fits.flags a b (written_read (flag_of r w c) ∙ tie.writes_are w c z.from_one z.to_crews a b) tie.writes_are u i a' b' a'' b''
        ∙ ap (λ (g : ℕ → Bool). g i) (put_same s.has_written w (updated (s.has_written w) c (s.has_written w c)) (fun_ext (put_same (s.has_written w) c (s.has_written w c) refl)) u);
    highest_is = tie.highest_is;
    opened_is = tie.opened_is;
    active_is = tie.active_is;
    under_top = tie.under_top;
    fits = record { values = z.fits.values; written = z.fits.written; read = z.fits.read; jobs = length-set r.tables.jobs (w - 1) _ ∙ z.fits.jobs; own = z.fits.own; flags = length-set r.tables.flags _ _ ∙ z.fits.flags; book = z.fits.book };
  }
    where
      K : JobRecord
      K = record { standing = (record_of r w).standing; job = (record_of r w).job; low = record { 0 = raised_low r w c }; high = (record_of r w).high }

      L : ℕ
      L = cond (s.has_written w c) (s.low w) (max (s.low w) (s.written c))

      o : (s.job w ≡ job_number r w) × (1 ≤ s.job w) × (s.low w ≡ low_of r w) × (s.high w ≡ high_of r w)
      o = of_open k.has

      f : s.has_written w c ≡ false
      f = sym (tie.writes_are w c z.from_one z.to_crews a b) ∙ e

      low_is : L ≡ raised_low r w c
      low_is = rw f (omega (arith, o.2, tie.written_is c a b))

  ---- write

  pub accepts_write : (c : ℕ) (v : V) → Working r w → 1 ≤ c → c ≤ r.head.sizes.cells → Accepts top r.head.sizes.cells s w (Operation.writes c v)
  accepts_write c v k a b = ((of_open k.has).1, a, b)

  pub tie_write : (c : ℕ) (v : V) → 1 ≤ c → c ≤ r.head.sizes.cells → Tie d (write_outcome r w c v).left (view_after top r.head.sizes.cells s w (Operation.writes c v))
  tie_write c v a b = record {
    value_is = tie.value_is;
    written_is = tie.written_is;
    read_is = tie.read_is;
    job_is = tie.job_is;
    crews = tie.crews;
    own_is = spot_put r.tables.own d c v (λ (x : V). x) s.own v z.fits.own a b refl tie.own_is;
    reads_are = λ u i a' b' a'' b''. spot_put r.tables.flags 0 c (with_written (flag_of r w c)) read_flag s.has_read (s.has_read w c) z.fits.flags a b (first_written (flag_of r w c) ∙ tie.reads_are w c z.from_one z.to_crews a b) tie.reads_are u i a' b' a'' b''
        ∙ ap (λ (g : ℕ → Bool). g i) (put_same s.has_read w (updated (s.has_read w) c (s.has_read w c)) (fun_ext (put_same (s.has_read w) c (s.has_read w c) refl)) u);
    writes_are = spot_put r.tables.flags 0 c (with_written (flag_of r w c)) written_flag s.has_written true z.fits.flags a b (written_written (flag_of r w c)) tie.writes_are;
    highest_is = tie.highest_is;
    opened_is = tie.opened_is;
    active_is = tie.active_is;
    under_top = tie.under_top;
    fits = record { values = z.fits.values; written = z.fits.written; read = z.fits.read; jobs = z.fits.jobs; own = length-set r.tables.own _ _ ∙ z.fits.own; flags = length-set r.tables.flags _ _ ∙ z.fits.flags; book = z.fits.book };
  }

  ---- endings

  ended_active : 1 ≤ s.job w → r.head.active - 1 ≡ busy (updated s.job w 0) r.head.sizes.crews
  ended_active j = omega (arith, busy_updated s.job w 0 r.head.sizes.crews z.from_one z.to_crews, one_yes (s.job w) j, one_no 0 refl, tie.active_is)

  row_put : (g : ℕ → Bool) (t : ℕ → ℕ → Bool) → g 0 ≡ false → ((u k : ℕ) → 1 ≤ u → u ≤ r.head.sizes.crews → 1 ≤ k → k ≤ r.head.sizes.cells → g (flag_of r u k) ≡ t u k) →
      (u k : ℕ) → 1 ≤ u → u ≤ r.head.sizes.crews → 1 ≤ k → k ≤ r.head.sizes.cells → g (get_or (cleared r.tables.flags r.head.sizes.cells w) (spot r.head.sizes.cells u k) 0) ≡ updated t w (λ c. false) u k
  row_put g t e same u k au bu ak bk = ap g (get_or_cleared r.tables.flags r.head.sizes.cells r.head.sizes.crews w u k z.fits.flags z.from_one z.to_crews au ak bk) ∙ go (eqb w u)
    where
      go : (b : Bool) → g (cond b 0 (flag_of r u k)) ≡ cond b (λ c. false) (t u) k
      go true = e
      go false = same u k au bu ak bk

  read_raised : (p c : ℕ) → 1 ≤ c → c ≤ r.head.sizes.cells → at (raised_reads r w p) c 0 ≡ cond (s.has_read w c) (max (s.read c) p) (s.read c)
  read_raised p c a b = at_each (λ c x. cond (has_read r w c) (max x p) x) r.tables.read c 0 a (omega (arith, z.fits.read))
      ∙ cond_same (has_read r w c) (s.has_read w c) (max (at r.tables.read c 0) p) (max (s.read c) p) (at r.tables.read c 0) (s.read c) (tie.reads_are w c z.from_one z.to_crews a b) (omega (arith, tie.read_is c a b)) (tie.read_is c a b)

  pub accepts_abandon : (p : ℕ) → Working r w → low_of r w < p → p < high_of r w → Accepts top r.head.sizes.cells s w (Operation.abandons p)
  accepts_abandon p k a b = let o = of_open k.has in (o.1, omega (arith, o.2), omega (arith, o.3))

  pub tie_abandon : (p : ℕ) (say : Place → Result (Answer V) Refusal) → Working r w → Tie d (abandoned_at r w say p).left (view_after top r.head.sizes.cells s w (Operation.abandons p))
  tie_abandon p say k = record {
    value_is = tie.value_is;
    written_is = tie.written_is;
    read_is = read_raised p;
    job_is = put_jobs closed_record r.tables.jobs 0 0 0 s.high z.fits.jobs refl (λ u n. tie.job_is u);
    crews = put_crews 0;
    own_is = tie.own_is;
    reads_are = row_put read_flag s.has_read refl tie.reads_are;
    writes_are = row_put written_flag s.has_written refl tie.writes_are;
    highest_is = omega (arith, tie.highest_is);
    opened_is = omega (arith, tie.opened_is, k.counted);
    active_is = ended_active (of_open k.has).1;
    under_top = updated_below s.high w 0 top (omega arith) tie.under_top;
    fits = record {
      values = z.fits.values;
      written = z.fits.written;
      read = length_each _ 1 r.tables.read ∙ z.fits.read;
      jobs = length-set r.tables.jobs (w - 1) _ ∙ z.fits.jobs;
      own = z.fits.own;
      flags = length_cleared r.tables.flags r.head.sizes.cells r.head.sizes.crews w z.fits.flags z.from_one z.to_crews ∙ z.fits.flags;
      book = z.fits.book;
    };
  }

  pub touched : (u : ℕ) → 1 ≤ u → u ≤ r.head.sizes.crews → touches r w u ≡ conflicts s w u r.head.sizes.cells
  touched u a b = some_conflict (λ c. has_read r u c && has_written r w c) s w u r.head.sizes.cells (λ c x y. ap₂ ◌&&◌ (tie.reads_are u c a b x y) (tie.writes_are w c z.from_one z.to_crews x y))

  pub accepts_commit : (p : ℕ) → Working r w → commit_low r w < p → p < high_of r w → ((c : ℕ) → s.has_written w c ≡ true → (1 ≤ c) × (c ≤ r.head.sizes.cells)) → Accepts top r.head.sizes.cells s w (Operation.commits p)
  accepts_commit p k a b range = let o = of_open k.has in
      (o.1, omega (arith, o.2), omega (arith, o.3), cell, other)
    where
      of_cell : ℕ → ℕ
      of_cell = λ c. cond (has_written r w c) (max (at r.tables.written c 0) (at r.tables.read c 0)) 0

      of_crew : ℕ → ℕ
      of_crew = λ u. cond (other_reader r w u) (low_of r u + 1) 0

      cell : (c : ℕ) → s.has_written w c ≡ true → (s.written c < p) × (s.read c < p)
      cell c e =
          let i = range c e in
          let f : has_written r w c ≡ true = tie.writes_are w c z.from_one z.to_crews i.0 i.1 ∙ e in
          let l : of_cell c ≤ most of_cell r.head.sizes.cells = most_at of_cell r.head.sizes.cells c i.0 i.1 in
          let l' : max (at r.tables.written c 0) (at r.tables.read c 0) ≤ most of_cell r.head.sizes.cells = rw f at l in
          (omega (arith, tie.written_is c i.0 i.1), omega (arith, tie.read_is c i.0 i.1))

      other : (u : ℕ) → (u ≡ w → ⊥) → 1 ≤ s.job u → conflicts s w u r.head.sizes.cells ≡ true → s.low u + 1 < p
      other u ne j m =
          let i = tie.crews u j in
          let t = tie.job_is u i.0 i.1 in
          let h : has_job r u ≡ true = tied_by_job (has_job r u) (record_of r u) (s.job u) (s.low u) (s.high u) t j in
          let q = tied_open (has_job r u) (record_of r u) (s.job u) (s.low u) (s.high u) h t in
          let f : other_reader r w u ≡ true = and_from (not (eqb w u)) (has_job r u && touches r w u) (ap not (ne_eqb w u (λ e. ne (sym e)))) (and_from (has_job r u) (touches r w u) h (touched u i.0 i.1 ∙ m)) in
          let l : of_crew u ≤ most of_crew r.head.sizes.crews = most_at of_crew r.head.sizes.crews u i.0 i.1 in
          let l' : low_of r u + 1 ≤ most of_crew r.head.sizes.crews = rw f at l in
          omega (arith, q.2)

  pub tie_commit : (p : ℕ) → Working r w → Tie d (committed_at d r w p).left (view_after top r.head.sizes.cells s w (Operation.commits p))
  tie_commit p k = record {
    value_is = λ c a b. at_each (λ c v. cond (has_written r w c) (own_of d r w c) v) r.tables.values c d a (omega (arith, z.fits.values))
        ∙ cond_same (has_written r w c) (s.has_written w c) (own_of d r w c) (s.own w c) (at r.tables.values c d) (s.value c) (wr c a b) (tie.own_is w c z.from_one z.to_crews a b) (tie.value_is c a b);
    written_is = λ c a b. at_each (λ c x. cond (has_written r w c) p x) r.tables.written c 0 a (omega (arith, z.fits.written))
        ∙ cond_same (has_written r w c) (s.has_written w c) p p (at r.tables.written c 0) (s.written c) (wr c a b) refl (tie.written_is c a b);
    read_is = read_raised p;
    job_is = put_jobs closed_record (each lower r.tables.jobs) 0 0 0 (λ u. cond (conflicts s w u r.head.sizes.cells) (min (s.high u) p) (s.high u)) (length_each lower 1 r.tables.jobs ∙ z.fits.jobs) refl others;
    crews = put_crews 0;
    own_is = tie.own_is;
    reads_are = row_put read_flag s.has_read refl tie.reads_are;
    writes_are = row_put written_flag s.has_written refl tie.writes_are;
    highest_is = omega (arith, tie.highest_is);
    opened_is = omega (arith, tie.opened_is, k.counted);
    active_is = ended_active (of_open k.has).1;
    under_top = updated_below H w 0 top (omega arith) (λ u. cond_both (conflicts s w u r.head.sizes.cells) _ _ (λ h. h ≤ top) (λ _. omega (arith, tie.under_top u)) (λ _. tie.under_top u));
    fits = record {
      values = length_each _ 1 r.tables.values ∙ z.fits.values;
      written = length_each _ 1 r.tables.written ∙ z.fits.written;
      read = length_each _ 1 r.tables.read ∙ z.fits.read;
      jobs = length-set _ (w - 1) _ ∙ (length_each _ 1 r.tables.jobs ∙ z.fits.jobs);
      own = z.fits.own;
      flags = length_cleared r.tables.flags r.head.sizes.cells r.head.sizes.crews w z.fits.flags z.from_one z.to_crews ∙ z.fits.flags;
      book = z.fits.book;
    };
  }
    where
      wr : (c : ℕ) → 1 ≤ c → c ≤ r.head.sizes.cells → has_written r w c ≡ s.has_written w c
      wr c a b = tie.writes_are w c z.from_one z.to_crews a b

      lower : ℕ → JobRecord → JobRecord
      lower = λ u j. cond (other_reader r w u) (lowered p j) j

      H : ℕ → ℕ
      H = λ u. cond (conflicts s w u r.head.sizes.cells) (min (s.high u) p) (s.high u)

      others : (u : ℕ) → (u ≡ w → ⊥) → 1 ≤ u → u ≤ r.head.sizes.crews → Tied (is_open (at (each lower r.tables.jobs) u closed_record).standing) (at (each lower r.tables.jobs) u closed_record) (s.job u) (s.low u) (H u)
      others u ne a b =
          let e : other_reader r w u ≡ (has_job r u && conflicts s w u r.head.sizes.cells) = ap₂ ◌&&◌ (ap not (ne_eqb w u (λ e. ne (sym e)))) (ap (λ (t : Bool). has_job r u && t) (touched u a b)) in
          subst (λ (j : JobRecord). Tied (is_open j.standing) j (s.job u) (s.low u) (H u))
          (sym (at_each lower r.tables.jobs u closed_record a (omega (arith, z.fits.jobs)) ∙ ap (λ (t : Bool). cond t (lowered p (record_of r u)) (record_of r u)) e))
          (tied_lower (conflicts s w u r.head.sizes.cells) (record_of r u) (s.job u) (s.low u) (s.high u) p (tie.job_is u a b))
