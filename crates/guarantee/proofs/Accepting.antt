-- Where the view accepts a call, the register accepts it, and goes on abreast of the view.
use Rattle.std.proofs.Common.{◌≡◌, ℕ, ◌+◌, ◌≤◌, Bool, true, false, cond, not, ◌&&◌, eqb, ltb, List, [], ◌∷◌, length, None, Ok, Err, Option, Result, sym, refl, ap, ◌∙◌, subst, ap₂, subst₂, arith}
use Rattle.std.proofs.lemmas.Bool.{ne_eqb, le-ltb, or_from, ltb-true, false_from_ne_true}
use Rattle.terms.specs.declared.numbers.CellNumber.{CellNumber}
use Rattle.terms.specs.declared.numbers.CrewNumber.{CrewNumber}
use Rattle.terms.specs.declared.records.Entry.{Entry}
use Rattle.terms.specs.declared.refusals.Refusal.{Refusal}
use Rattle.terms.specs.declared.refusals.Refusal.TheVariants.{NoPlace}
use Rattle.choosers.specs.Meaning.{Meaning, moved_on}
use Rattle.history.specs.Acceptance.{AcceptsWith, AtWork, Sizes, commit_lower_bound, meaning_after}
use Rattle.history.specs.Events.{Operation}
use Rattle.history.specs.Events.Operation.{abandons, commits, opens, reads, writes}
use Rattle.history.specs.Views.{RegisterView, view_after}
use Rattle.history.specs.WellMade.{UpTo}
use Rattle.history.proofs.Alike.{SameCall}
use Rattle.history.proofs.Alike.SameCall.{abandon_abandon, commit_commit, open_open, read_read, write_write}
use Rattle.rules.specs.Heads.{Dimensions}
use Rattle.rules.specs.JobCalls.{Outcome, abandon_outcome, abandoned_at, accepted, call_tests, commit_low, committed_at, crew_of, damaged, is_opening}
use Rattle.rules.specs.JobCalls.{open_outcome, outcome, raised_low, read_cell, read_own, refused, write_outcome, wrong_cell}
use Rattle.rules.specs.Limits.{top}
use Rattle.rules.specs.Performing.{Entered, Performs, moved_if, with_book}
use Rattle.rules.specs.Refusing.{Tests, first_refusal, if_refused}
use Rattle.rules.specs.Registers.{Register, has_job, has_written, high_of, job_number, low_of, record_of}
use Rattle.rules.specs.Tables.{outside}
use Rattle.rules.specs.declared.calls.Answer.{Answer}
use Rattle.rules.specs.declared.calls.Answer.TheVariants.{Ended}
use Rattle.rules.specs.declared.calls.Call.{Call}
use Rattle.rules.specs.declared.calls.Call.TheVariants.{Abandon, Commit, Open, Read, Write}
use Rattle.rules.proofs.Accepting.{sizes_pass}
use Rattle.guarantee.specs.Histories.{operation}
use Rattle.guarantee.specs.Permissiveness.{IsAccepted}
use Rattle.guarantee.proofs.Bounding.{commit_low_bound}
use Rattle.guarantee.proofs.Counting.{busy_at}
use Rattle.guarantee.proofs.Invariant.{tie_book}
use Rattle.guarantee.proofs.Opacity.{b}
use Rattle.guarantee.proofs.Passing.{NoneOf, Sized, Working, not_damaged, read_by}
use Rattle.guarantee.proofs.Tied.{Tie, of_open, tie_abandon, tie_cell, tie_commit, tie_open, tie_own, tie_write, tied_by_job}

abbrev pub sizes_of : {V : Type 0} → Register V → Sizes
sizes_of s = record { top = top; cells = s.head.sizes.cells; crews = s.head.sizes.crews; entries = s.head.sizes.entries }

-- the register r, with a chooser that means f, against a view with one that means g: the same
pub record Abreast {V : Type 0} (d : V) (s : Register V) (view : RegisterView V) (g : Meaning) (r : Register V) (f : Meaning) : Type 0 where
  pub tie : Tie d r view
  pub same_sizes : r.head.sizes ≡ s.head.sizes
  pub means : f ≡ g

none_refused : (ts : Tests) → NoneOf ts → first_refusal ts ≡ None
none_refused [] ns = refl
none_refused (t ∷ ts) ns = rw ns.0 (none_refused ts ns.1)

within : (n k : ℕ) → 1 ≤ k → k ≤ n → outside n k ≡ false
within n k a b = or_from (eqb k 0) (ltb n k) (ne_eqb k 0 (λ e. omega arith)) (le-ltb n k b)

module _ {V : Type 0} (d : V) (q : Register V) (view : RegisterView V) (g : Meaning) (r : Register V) (f : Meaning) (ab : Abreast d q view g r f) where
  abbrev z : Sizes
  z = sizes_of q

  n_is : r.head.sizes.cells ≡ q.head.sizes.cells
  n_is = ap (λ (sizes : Dimensions). sizes.cells) ab.same_sizes

  m_is : r.head.sizes.crews ≡ q.head.sizes.crews
  m_is = ap (λ (sizes : Dimensions). sizes.crews) ab.same_sizes

  b_is : r.head.sizes.entries ≡ q.head.sizes.entries
  b_is = ap (λ (sizes : Dimensions). sizes.entries) ab.same_sizes

  -- what follows from an outcome
  abbrev Done : Outcome V → RegisterView V → Meaning → Type 0
  Done o view' g' = (bk : List Entry) → Entered r.head.ended o.entry r.tables.book bk → IsAccepted o.answer × Abreast d q view' g' (with_book o.left bk) (moved_if f o.asked)

  passes : (k : Call V) → outside r.head.sizes.crews (crew_of k) ≡ false → wrong_cell r.head.sizes.cells k ≡ false →
      (is_opening k && has_job r (crew_of k)) ≡ false → (not (is_opening k) && not (has_job r (crew_of k))) ≡ false → (not (is_opening k) && damaged r (crew_of k)) ≡ false →
      (is_opening k && ltb top (r.head.highest + 2)) ≡ false → (is_opening k && eqb (r.head.ended + r.head.active) r.head.sizes.entries) ≡ false → outcome d (f []) r k ≡ accepted d (f []) r k
  passes k a b c e u v w =
      let tests = call_tests r (is_opening k) (wrong_cell r.head.sizes.cells k) (crew_of k) in
      ap (λ (o : Option Refusal). if_refused o (λ e. refused e r) (accepted d (f []) r k))
      (sizes_pass r.head.sizes r.tables tests ab.tie.fits ∙ none_refused tests (a, (b, (c, (e, (u, (v, (w, tt))))))))

  sized : (w : ℕ) → UpTo z.crews w → Sized r w
  sized w u = record {
    fits = ab.tie.fits;
    from_one = u.0;
    to_crews = rw (m_is) u.1;
  }

  working : (w : ℕ) → AtWork z view w → Working r w
  working w k =
      let s = sized w k.a_crew in
      let t = ab.tie.job_is w s.from_one s.to_crews in
      let h = tied_by_job (has_job r w) (record_of r w) (view.job w) (view.low w) (view.high w) t k.a_job in
      let o = of_open d r view ab.tie w s h in
      record {
        has = h;
        room = omega (arith, o.2, o.3, k.room);
        under_top = omega (arith, o.3, k.below_top);
        counted = rw ab.tie.active_is (busy_at view.job w r.head.sizes.crews s.from_one s.to_crews k.a_job);
      }

  -- a call of an open job passes the tests
  passes_work : (k : Call V) → is_opening k ≡ false → wrong_cell r.head.sizes.cells k ≡ false → AtWork z view (crew_of k) → outcome d (f []) r k ≡ accepted d (f []) r k
  passes_work k o c a =
      let s = sized (crew_of k) a.a_crew in
      let wk = working (crew_of k) a in
      passes k (within r.head.sizes.crews (crew_of k) s.from_one s.to_crews) c (rw o refl) (rw (o, wk.has) refl) (rw (o, not_damaged r (crew_of k) wk) refl) (rw o refl) (rw o refl)

  -- whatever the day book gets, the register goes on abreast of the view where its tables do
  goes_on : (left : Register V) (w : ℕ) (e : Operation V V ℕ) (bk : List Entry) {f' g' : Meaning} → left.head.sizes ≡ r.head.sizes → length bk ≡ length left.tables.book →
      Tie d left (view_after top r.head.sizes.cells view w e) → f' ≡ g' → Abreast d q (view_after top z.cells view w e) g' (with_book left bk) f'
  goes_on left w e bk sizes len t m = record {
    tie = tie_book d left bk _ len (subst (λ (n : ℕ). Tie d left (view_after top n view w e)) n_is t);
    same_sizes = sizes ∙ ab.same_sizes;
    means = m;
  }

  ---- open

  done_open : (w : ℕ) → UpTo z.crews w → has_job r w ≡ false → Done (open_outcome r w) (view_after top z.cells view w opens) g
  done_open w u j bk b = (tt, goes_on (open_outcome r w).left w opens bk refl (ap length b) (tie_open d r view ab.tie w (sized w u) j) ab.means)

  step_open : (w : CrewNumber) → AcceptsWith g z view w.0 opens → Done (outcome d (f []) r (Open w)) (view_after top z.cells view w.0 opens) g
  step_open w sv =
      let s = sized w.0 sv.0 in
      let h = false_from_ne_true (has_job r w.0) (λ e. omega (arith, (of_open d r view ab.tie w.0 s e).1, sv.1)) in
      subst (λ (o : Outcome V). Done o (view_after top z.cells view w.0 opens) g)
      (sym (passes (Open w) (within r.head.sizes.crews w.0 s.from_one s.to_crews) refl h refl refl
      (le-ltb top (r.head.highest + 2) (omega (arith, ab.tie.highest_is, sv.2)))
      (ne_eqb (r.head.ended + r.head.active) r.head.sizes.entries (λ e. omega (arith, ab.tie.opened_is, b_is, sv.3)))))
      (done_open w.0 sv.0 h)

  ---- read

  done_own : (w c : ℕ) (v : V) → UpTo z.crews w → 1 ≤ c → c ≤ r.head.sizes.cells → has_written r w c ≡ true → Done (read_own d r w c) (view_after top z.cells view w (reads c v)) g
  done_own w c v u a b e bk q = (tt, goes_on r w (reads c v) bk refl (ap length q) (tie_own d r view ab.tie w (sized w u) c v a b e) ab.means)

  done_cell : (w c : ℕ) (v : V) → UpTo z.crews w → Working r w → 1 ≤ c → c ≤ r.head.sizes.cells → has_written r w c ≡ false →
      Done (read_cell d r w c) (view_after top z.cells view w (reads c v)) g
  done_cell w c v u wk a b e bk q = (tt, goes_on (read_cell d r w c).left w (reads c v) bk refl (ap length q) (tie_cell d r view ab.tie w (sized w u) c v wk a b e) ab.means)

  step_read : (w : CrewNumber) (c : CellNumber) (v : V) → AcceptsWith g z view w.0 (reads c.0 v) → Done (outcome d (f []) r (Read w c)) (view_after top z.cells view w.0 (reads c.0 v)) g
  step_read w c v sv = subst G (sym (passes_work (Read w c) refl (within r.head.sizes.cells c.0 sv.1.0 in_n) sv.0))
      (read_by G d (f []) r w.0 c.0
      (λ e. done_own w.0 c.0 v sv.0.a_crew sv.1.0 in_n e)
      (λ e l. absurd (omega (arith, ltb-true (high_of r w.0) (raised_low r w.0 c.0 + 2) l, sv.3 (sym (ab.tie.writes_are w.0 c.0 s.from_one s.to_crews sv.1.0 in_n) ∙ e), o.2, o.3, ab.tie.written_is c.0 sv.1.0 in_n)))
      (λ e l. done_cell w.0 c.0 v sv.0.a_crew wk sv.1.0 in_n e))
    where
      G : Outcome V → Type 0
      G = λ o. Done o (view_after top z.cells view w.0 (reads c.0 v)) g

      in_n : c.0 ≤ r.head.sizes.cells
      in_n = rw (n_is) sv.1.1

      s : Sized r w.0
      s = sized w.0 sv.0.a_crew

      wk : Working r w.0
      wk = working w.0 sv.0

      o : (view.job w.0 ≡ job_number r w.0) × (1 ≤ view.job w.0) × (view.low w.0 ≡ low_of r w.0) × (view.high w.0 ≡ high_of r w.0)
      o = of_open d r view ab.tie w.0 s wk.has

  ---- write

  done_write : (w c : ℕ) (v : V) → UpTo z.crews w → 1 ≤ c → c ≤ r.head.sizes.cells → Done (write_outcome r w c v) (view_after top z.cells view w (writes c v)) g
  done_write w c v u a b bk q = (tt, goes_on (write_outcome r w c v).left w (writes c v) bk refl (ap length q) (tie_write d r view ab.tie w (sized w u) c v a b) ab.means)

  step_write : (w : CrewNumber) (c : CellNumber) (v : V) → AcceptsWith g z view w.0 (writes c.0 v) →
      Done (outcome d (f []) r (Write w c v)) (view_after top z.cells view w.0 (writes c.0 v)) g
  step_write w c v sv =
      let in_n : c.0 ≤ r.head.sizes.cells = rw (n_is) sv.1.1 in
      subst (λ (o : Outcome V). Done o (view_after top z.cells view w.0 (writes c.0 v)) g)
      (sym (passes_work (Write w c v) refl (within r.head.sizes.cells c.0 sv.1.0 in_n) sv.0))
      (done_write w.0 c.0 v sv.0.a_crew sv.1.0 in_n)

  ---- endings

  moved_means : (lo hi : ℕ) → moved_on f lo hi ≡ moved_on g lo hi
  moved_means lo hi = ap (λ (h : Meaning). moved_on h lo hi) ab.means

  picks : (lo hi : ℕ) → f [] lo hi ≡ g [] lo hi
  picks lo hi = ap (λ (h : Meaning). h [] lo hi) ab.means

  done_abandon : (w p : ℕ) → AtWork z view w → Done (abandoned_at r w (λ p. Ok (Ended p)) p) (view_after top z.cells view w (abandons p)) (moved_on g (low_of r w) (high_of r w))
  done_abandon w p k bk i = (
    tt,
    goes_on (abandoned_at r w (λ p. Ok (Ended p)) p).left w (abandons p) bk refl i.same_length
        (tie_abandon d r view ab.tie w (sized w k.a_crew) p (λ p. Ok (Ended p)) (working w k)) (moved_means (low_of r w) (high_of r w)),
  )

  step_abandon : (w : CrewNumber) (p : ℕ) → AcceptsWith g z view w.0 (abandons p) →
      Done (outcome d (f []) r (Abandon w)) (view_after top z.cells view w.0 (abandons p)) (moved_on g (view.low w.0) (view.high w.0))
  step_abandon w p sv =
      subst₂ (λ (l h : ℕ). Done (outcome d (f []) r (Abandon w)) (view_after top z.cells view w.0 (abandons p)) (moved_on g l h)) (sym o.2) (sym o.3)
      (subst (λ (o : Outcome V). Done o (view_after top z.cells view w.0 (abandons p)) (moved_on g (low_of r w.0) (high_of r w.0)))
      (sym (passes_work (Abandon w) refl refl sv.0 ∙ ap (abandoned_at r w.0 (λ p. Ok (Ended p))) place))
      (done_abandon w.0 p sv.0))
    where
      o : (view.job w.0 ≡ job_number r w.0) × (1 ≤ view.job w.0) × (view.low w.0 ≡ low_of r w.0) × (view.high w.0 ≡ high_of r w.0)
      o = of_open d r view ab.tie w.0 (sized w.0 sv.0.a_crew) (working w.0 sv.0).has

      place : f [] (low_of r w.0) (high_of r w.0) ≡ p
      place = picks (low_of r w.0) (high_of r w.0) ∙ sym (sv.1 ∙ ap₂ (g []) o.2 o.3)

  done_commit : (w p : ℕ) → AtWork z view w → Done (committed_at d r w p) (view_after top z.cells view w (commits p)) (moved_on g (commit_low r w) (high_of r w))
  done_commit w p k bk i = (
    tt,
    goes_on (committed_at d r w p).left w (commits p) bk refl i.same_length (tie_commit d r view ab.tie w (sized w k.a_crew) p (working w k)) (moved_means (commit_low r w) (high_of r w)),
  )

  step_commit : (w : CrewNumber) (p : ℕ) → AcceptsWith g z view w.0 (commits p) →
      Done (outcome d (f []) r (Commit w)) (view_after top z.cells view w.0 (commits p)) (moved_on g (commit_lower_bound z.cells z.crews view w.0) (view.high w.0))
  step_commit w p sv =
      subst₂ (λ (l h : ℕ). Done (outcome d (f []) r (Commit w)) (view_after top z.cells view w.0 (commits p)) (moved_on g l h)) (sym fl) (sym o.3)
      (subst (λ (o : Outcome V). Done o (view_after top z.cells view w.0 (commits p)) (moved_on g (commit_low r w.0) (high_of r w.0))) (sym (passes_work (Commit w) refl refl sv.0 ∙ (with_room ∙ ap (committed_at d r w.0) place)))
      (done_commit w.0 p sv.0))
    where
      o : (view.job w.0 ≡ job_number r w.0) × (1 ≤ view.job w.0) × (view.low w.0 ≡ low_of r w.0) × (view.high w.0 ≡ high_of r w.0)
      o = of_open d r view ab.tie w.0 (sized w.0 sv.0.a_crew) (working w.0 sv.0).has

      fl : commit_lower_bound z.cells z.crews view w.0 ≡ commit_low r w.0
      fl = sym (commit_low_bound d r view ab.tie w.0 (sized w.0 sv.0.a_crew) (working w.0 sv.0) ∙ ap₂ (λ (n m : ℕ). commit_lower_bound n m view w.0) (n_is) (m_is))

      room : ltb (high_of r w.0) (commit_low r w.0 + 2) ≡ false
      room = le-ltb (high_of r w.0) (commit_low r w.0 + 2) (omega (arith, fl, o.3, sv.1))

      with_room : accepted d (f []) r (Commit w) ≡ committed_at d r w.0 (f [] (commit_low r w.0) (high_of r w.0))
      with_room = ap (λ (t : Bool). cond t (abandon_outcome (f []) r w.0 (λ p. Err (NoPlace p))) (committed_at d r w.0 (f [] (commit_low r w.0) (high_of r w.0)))) room

      place : f [] (commit_low r w.0) (high_of r w.0) ≡ p
      place = picks (commit_low r w.0) (high_of r w.0) ∙ sym (sv.2 ∙ ap₂ (g []) fl o.3)

  ---- any

  step : (k : Call V) {e : Operation V V ℕ} → SameCall e (operation k) → AcceptsWith g z view (crew_of k) e →
      Done (outcome d (f []) r k) (view_after top z.cells view (crew_of k) e) (meaning_after g z view (crew_of k) e)
  step (Open w) open_open sv = step_open w sv
  step (Read w c) (read_read {r = v}) sv = step_read w c v sv
  step (Write w c v) write_write sv = step_write w c v sv
  step (Commit w) (commit_commit {p = p}) sv = step_commit w p sv
  step (Abandon w) (abandon_abandon {p = p}) sv = step_abandon w p sv

  pub performed : (k : Call V) {e : Operation V V ℕ} (a : Result (Answer V) Refusal) (r' : Register V) (f' : Meaning) → SameCall e (operation k) →
      AcceptsWith g z view (crew_of k) e → Performs d r f k a r' f' →
      IsAccepted a × Abreast d q (view_after top z.cells view (crew_of k) e) (meaning_after g z view (crew_of k) e) r' f'
  performed k {e = e} a r' f' m sv p =
      let done = step k m sv r'.tables.book p.enters in (
        subst (λ (x : Result (Answer V) Refusal). IsAccepted x) (sym p.answers) done.0,
        subst₂ (λ (x : Register V) (y : Meaning). Abreast d q (view_after top z.cells view (crew_of k) e) (meaning_after g z view (crew_of k) e) x y) (sym p.leaves) (sym p.asks) done.1,
      )
