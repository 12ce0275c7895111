-- A register that accepts calls as its view says moves its bounds as it should, and its view agrees with the run.
use Rattle.std.proofs.Common.{◌≡◌, ℕ, zero, suc, ◌+◌, ◌<◌, ◌≤◌, min, max, Bool, true, false, cond, ◌&&◌, eqb, ◌⊎◌, List, [], ◌∷◌, Some, None, unwrap_or, sym, refl, ap, ◌∙◌, ap₂, inl, inr, arith}
use Rattle.std.proofs.lemmas.Bool.{eqb-true, eqb-false, eq-eqb, ne_eqb, both_ways, and_from, or_left, or_right, cases_eq, cond_both, true_from_ne_false}
use Rattle.std.proofs.Math.Logic.{⊎_elim}
use Rattle.std.proofs.lemmas.Option.{none-some}
use Rattle.history.specs.Events.{Operation, Event, History, ends_at, openings, open_job, by_jobs}
use Rattle.history.specs.Events.Operation.{opens, reads, writes, commits, abandons}
use Rattle.history.specs.Events.Event.{by}
use Rattle.history.specs.Projections.{projection, buffered, is_active, end_place}
use Rattle.history.specs.Values.{committed_value, ReadsCurrent}
use Rattle.history.specs.Precedence.{Wrote, ReadGlobally}
use Rattle.history.specs.SerialExecution.{Opaque}
use Rattle.history.specs.WellMade.{WellMade}
use Rattle.history.specs.Bounds.{Bounds, Narrows, OwnBounds, CrewMoves, CrewRun}
use Rattle.history.specs.Views.{RegisterView, conflicts, low_after_read, Accepts, updated, view_after, ViewRun, bounds_of, ViewAgrees}
use Rattle.history.specs.Views.ViewRun.{starts, goes_on}
use Rattle.history.proofs.Moments.{buffered_wrote, unbuffered_unwritten, unopened_projection}
use Rattle.history.proofs.Tracking.{read_cases, reader_active}
use Rattle.history.proofs.Crews.{openings_by_job, open_job_numbered, one_crew, well_formed}
use Rattle.history.proofs.Opacity.{bounds_agree, bounds_opaque}

conflicts_from : {V : Type 0} (s : RegisterView V) (w u n c : ℕ) → 1 ≤ c → c ≤ n → s.has_read u c ≡ true → s.has_written w c ≡ true → conflicts s w u n ≡ true
conflicts_from s w u zero c a b r k = absurd (omega arith)
conflicts_from s w u (suc n) c a b r k = ⊎_elim
    (λ e. or_left (s.has_read u (suc n) && s.has_written w (suc n)) (conflicts s w u n) (and_from (s.has_read u (suc n)) (s.has_written w (suc n)) (rw (← e) r) (rw (← e) k)))
    (λ e. or_right (s.has_read u (suc n) && s.has_written w (suc n)) (conflicts s w u n) (conflicts_from s w u n c a (omega (arith, e)) r k))
    (cases_eq c (suc n))

no_case : {A : Type 0} → ⊥ ⊎ A → A
no_case (inl m) = absurd m
no_case (inr m) = m

-- what the tables of a view say of the run
pub record ViewFacts {V : Type 0} (n : ℕ) (first : ℕ → V) (run : History V) (s : RegisterView V) : Type 0 where
  pub job_is : (w : ℕ) → s.job w ≡ open_job run w
  pub opened_is : s.opened ≡ openings run
  pub value_is : (c : ℕ) → s.value c ≡ committed_value first (by_jobs run) c
  pub own_is : (w c : ℕ) → 1 ≤ open_job run w → buffered (projection (by_jobs run) (open_job run w)) c ≡ cond (s.has_written w c) (Some (s.own w c)) None
  pub read_is : (w c : ℕ) → 1 ≤ open_job run w → ReadGlobally (by_jobs run) (open_job run w) c → s.has_read w c ≡ true
  pub closed_is : (w c : ℕ) → open_job run w ≡ 0 → s.has_written w c ≡ false
  pub range : (w c : ℕ) → s.has_written w c ≡ true → (1 ≤ c) × (c ≤ n)
  pub room : (w : ℕ) → 1 ≤ open_job run w → s.low w + 2 ≤ s.high w

module _ {V : Type 0} (top n : ℕ) (first : ℕ → V) (run : History V) (s : RegisterView V) (facts : ViewFacts n first run s) where
  -- whoever has written a cell has its flag set, and the other way round
  pub flag_when_written : (w c : ℕ) → 1 ≤ open_job run w → Wrote (by_jobs run) (open_job run w) c → s.has_written w c ≡ true
  flag_when_written w c a wr = true_from_ne_false (s.has_written w c) (λ e. unbuffered_unwritten (by_jobs run) (open_job run w) c (facts.own_is w c a ∙ rw e) wr)

  pub written_when_flag : (w c : ℕ) → 1 ≤ open_job run w → s.has_written w c ≡ true → Wrote (by_jobs run) (open_job run w) c
  written_when_flag w c a e = buffered_wrote (by_jobs run) (open_job run w) c (s.own w c) (facts.own_is w c a ∙ rw e)

  open_job_of : (w : ℕ) → 1 ≤ s.job w → 1 ≤ open_job run w
  open_job_of w a = rw (← facts.job_is w) a

  job_of_open : (w : ℕ) → 1 ≤ open_job run w → 1 ≤ s.job w
  job_of_open w a = rw (facts.job_is w) a

  own_read : (w c : ℕ) (v : V) → Accepts top n s w (reads c v) → (b : Bool) → s.has_written w c ≡ b →
      ((s.low w ≤ cond b (s.low w) (max (s.low w) (s.written c))) × (s.high w ≤ s.high w) × (cond b (s.low w) (max (s.low w) (s.written c)) + 2 ≤ s.high w)) × ((Wrote (by_jobs run) (open_job run w) c → ⊥) → s.written c ≤ cond b (s.low w) (max (s.low w) (s.written c)))
  own_read w c v ac true e = ((omega arith, omega arith, facts.room w (open_job_of w ac.0)), λ nw. absurd (nw (written_when_flag w c (open_job_of w ac.0) e)))
  own_read w c v ac false e = ((omega arith, omega arith, ac.2 e), λ _. omega arith)

  raised : (w p q : ℕ) → 1 ≤ open_job run w → p ≡ q → (q ≤ max s.highest p) × ((c : ℕ) → ReadGlobally (by_jobs run) (open_job run w) c → q ≤ cond (s.has_read w c) (max (s.read c) p) (s.read c))
  raised w p q a e = (omega arith, λ c r. rw (facts.read_is w c a r) (omega arith))

  lowered : (w p u : ℕ) → Accepts top n s w (commits p) → (u ≡ w → ⊥) → 1 ≤ open_job run u → (b : Bool) → conflicts s w u n ≡ b →
      (s.low u ≤ s.low u) × (cond b (min (s.high u) p) (s.high u) ≤ s.high u) × (s.low u + 2 ≤ cond b (min (s.high u) p) (s.high u))
  lowered w p u ac ne a true e = (omega arith, omega arith, omega (arith, ac.4 u ne (job_of_open u a) e, facts.room u a))
  lowered w p u ac ne a false e = (omega arith, omega arith, facts.room u a)

  own_commit : (w p c : ℕ) → Accepts top n s w (commits p) → Wrote (by_jobs run) (open_job run w) c →
      (s.written c < p) × (s.read c < p) × (p ≤ cond (s.has_written w c) p (s.written c)) × ((u : ℕ) → (u ≡ w → ⊥) → 1 ≤ open_job run u → ReadGlobally (by_jobs run) (open_job run u) c → updated (λ u. cond (conflicts s w u n) (min (s.high u) p) (s.high u)) w 0 u ≤ p)
  own_commit w p c ac wr =
      let f = flag_when_written w c (open_job_of w ac.0) wr in
      ((ac.3 c f).0, (ac.3 c f).1, rw f (omega arith), λ u ne a r. rw (ne_eqb w u (λ e. ne (sym e)), conflicts_from s w u n c (facts.range w c f).0 (facts.range w c f).1 (facts.read_is u c a r) f) (omega arith))

  -- a call that ends no job leaves every place as it was
  abbrev with_bounds : (ℕ → ℕ) → (ℕ → ℕ) → Bounds
  with_bounds low high = record { low = low; high = high; written = s.written; read = s.read; highest = s.highest }

  moves_on : (w : ℕ) (d : Operation V V ℕ) (low high : ℕ → ℕ) → ends_at d ≡ None → OwnBounds top run (bounds_of s) w d (with_bounds low high) →
      ((u : ℕ) → (u ≡ w → ⊥) → 1 ≤ open_job run u → Narrows (bounds_of s) u (with_bounds low high)) → CrewMoves top run (bounds_of s) w d (with_bounds low high)
  moves_on w d low high none own others = record {
    own = own;
    others = others;
    highest_up = omega arith;
    written_up = λ c. omega arith;
    read_up = λ c. omega arith;
    ends = λ p e. absurd (none-some p (sym none ∙ e));
  }

  crew_moves : (w : ℕ) (d : Operation V V ℕ) → Accepts top n s w d → CrewMoves top run (bounds_of s) w d (bounds_of (view_after top n s w d))
  crew_moves w opens ac = moves_on w opens (updated s.low w s.highest) (updated s.high w top) refl (rw (eq-eqb w w refl) (omega arith, omega arith, ac.1))
      (λ u ne a. rw (ne_eqb w u (λ e. ne (sym e))) (omega arith, omega arith, facts.room u a))
  crew_moves w (reads c v) ac = moves_on w (reads c v) (updated s.low w (low_after_read s w c)) s.high refl (rw (eq-eqb w w refl) (own_read w c v ac (s.has_written w c) refl))
      (λ u ne a. rw (ne_eqb w u (λ e. ne (sym e))) (omega arith, omega arith, facts.room u a))
  crew_moves w (writes c v) ac =
      moves_on w (writes c v) s.low s.high refl (omega arith, omega arith, facts.room w (open_job_of w ac.0)) (λ u ne a. (omega arith, omega arith, facts.room u a))
  crew_moves w (commits p) ac = record {
    own = (ac.1, ac.2, λ c wr. own_commit w p c ac wr);
    others = λ u ne a. rw (ne_eqb w u (λ e. ne (sym e))) (lowered w p u ac ne a (conflicts s w u n) refl);
    highest_up = omega arith;
    written_up = λ c. cond_both (s.has_written w c) _ _ (λ k. s.written c ≤ k) (λ e. omega (arith, (ac.3 c e).0)) (λ _. omega arith);
    read_up = λ c. cond_both (s.has_read w c) _ _ (λ k. s.read c ≤ k) (λ _. omega arith) (λ _. omega arith);
    ends = λ q e. raised w p q (open_job_of w ac.0) (cc);
  }
  crew_moves w (abandons p) ac = record {
    own = (ac.1, ac.2);
    others = λ u ne a. rw (ne_eqb w u (λ e. ne (sym e))) (omega arith, omega arith, facts.room u a);
    highest_up = omega arith;
    written_up = λ c. omega arith;
    read_up = λ c. cond_both (s.has_read w c) _ _ (λ k. s.read c ≤ k) (λ _. omega arith) (λ _. omega arith);
    ends = λ q e. raised w p q (open_job_of w ac.0) (cc);
  }

  pub well_made_step : (w : ℕ) (d : Operation V V ℕ) → Accepts top n s w d → WellMade run → WellMade (by w d ∷ run)
  well_made_step w d ac wm = (grind (arith, ac, facts.job_is w), wm)

  shown : (b : Bool) (o v : V) → cond b o v ≡ unwrap_or (cond b (Some o) None) v
  shown b o v = cond_both b _ _ (λ k. k ≡ unwrap_or (cond b (Some o) None) v) (λ e. rw e refl) (λ e. rw e refl)

  own_or_value : (w c : ℕ) → 1 ≤ open_job run w →
      cond (s.has_written w c) (s.own w c) (s.value c) ≡ unwrap_or (buffered (projection (by_jobs run) (open_job run w)) c) (committed_value first (by_jobs run) c)
  own_or_value w c a = shown (s.has_written w c) (s.own w c) (s.value c) ∙ ap₂ unwrap_or (sym (facts.own_is w c a)) (facts.value_is c)

  reads_current_step : (w : ℕ) (d : Operation V V ℕ) → Accepts top n s w d → ReadsCurrent first (by_jobs run) → ReadsCurrent first (by_jobs (by w d ∷ run))
  reads_current_step w opens ac rc = rc
  reads_current_step w (reads c v) ac rc = (ac.1 ∙ own_or_value w c (open_job_of w ac.0), rc)
  reads_current_step w (writes c v) ac rc = rc
  reads_current_step w (commits p) ac rc = rc
  reads_current_step w (abandons p) ac rc = rc

  -- room after a call, from the moves
  room_after : (w u : ℕ) (l h : ℕ → ℕ) → (1 ≤ open_job run w → l w + 2 ≤ h w) → ((u : ℕ) → (u ≡ w → ⊥) → 1 ≤ open_job run u → l u + 2 ≤ h u) → 1 ≤ open_job run u → l u + 2 ≤ h u
  room_after w u l h mine other a = ⊎_elim (λ e. rw e (mine (rw (← e) a))) (λ e. other u e a) (cases_eq u w)

  no_read : WellMade run → (x c : ℕ) → projection (by_jobs run) x ≡ [] → ReadGlobally (by_jobs run) x c → ⊥
  no_read wm x c e r = both_ways (is_active (projection (by_jobs run) x)) (ap is_active e) (reader_active (by_jobs run) (well_formed run wm) x c r (ap end_place e))

  facts_open : (w : ℕ) → WellMade run → Accepts top n s w opens → ViewFacts n first (by w opens ∷ run) (view_after top n s w opens)
  facts_open w wm ac = record {
    job_is = λ u. ap₂ (cond (eqb w u)) (ap suc facts.opened_is) (facts.job_is u);
    opened_is = ap suc facts.opened_is;
    value_is = facts.value_is;
    own_is = λ u c a. owns u c (eqb w u) refl a;
    read_is = λ u c a r. seen u c (eqb w u) refl a r;
    closed_is = λ u c q. unflagged u c (eqb w u) q;
    range = facts.range;
    room = λ u a. roomy u (eqb w u) a;
  }
    where
      k : ℕ
      k = suc (openings run)

      h : History V
      h = by_jobs run

      none_yet : projection h k ≡ []
      none_yet = unopened_projection h (well_formed run wm) k (omega (arith, openings_by_job run))

      owns : (u c : ℕ) (b : Bool) → eqb w u ≡ b → 1 ≤ cond b k (open_job run u) → buffered (projection (by k opens ∷ h) (cond b k (open_job run u))) c ≡ cond (s.has_written u c) (Some (s.own u c)) None
      owns u c true e a = rw (eq-eqb k k refl, none_yet, facts.closed_is u c (rw (← eqb-true w u e, ← facts.job_is w) ac.0))
      owns u c false e a = rw (ne_eqb k (open_job run u) (λ q. omega (arith, open_job_numbered run u))) (facts.own_is u c a)

      seen : (u c : ℕ) (b : Bool) → eqb w u ≡ b → 1 ≤ cond b k (open_job run u) → ReadGlobally (by k opens ∷ h) (cond b k (open_job run u)) c → s.has_read u c ≡ true
      seen u c true e a r = absurd (no_read wm k c none_yet (no_case (read_cases k c (by k opens) h r)))
      seen u c false e a r = facts.read_is u c a (no_case (read_cases (open_job run u) c (by k opens) h r))

      unflagged : (u c : ℕ) (b : Bool) → cond b k (open_job run u) ≡ 0 → s.has_written u c ≡ false
      unflagged u c b q = grind (arith, facts.closed_is, q)

      roomy : (u : ℕ) (b : Bool) → 1 ≤ cond b k (open_job run u) → cond b s.highest (s.low u) + 2 ≤ cond b top (s.high u)
      roomy u b a = grind (arith, ac.1, facts.room, a)

  facts_read : (w c : ℕ) (v : V) → Accepts top n s w (reads c v) → ViewFacts n first (by w (reads c v) ∷ run) (view_after top n s w (reads c v))
  facts_read w c v ac = record {
    job_is = facts.job_is;
    opened_is = facts.opened_is;
    value_is = facts.value_is;
    own_is = λ u k a. cond_both (eqb (open_job run w) (open_job run u)) _ _ (λ t. buffered t k ≡ buffered (projection h (open_job run u)) k) (λ _. refl) (λ _. refl) ∙ facts.own_is u k a;
    read_is = λ u k a r. seen u k a (read_cases (open_job run u) k (by (open_job run w) (reads c v)) h r);
    closed_is = facts.closed_is;
    range = facts.range;
    room = λ u a. room_after w u (view_after top n s w (reads c v)).low s.high (λ _. (crew_moves w (reads c v) ac).own.0.2) (λ u ne a. ((crew_moves w (reads c v) ac).others u ne a).2) a;
  }
    where
      h : History V
      h = by_jobs run

      inner : (k : ℕ) (d : Bool) → eqb c k ≡ d → s.has_read w k ≡ true → cond d (cond (s.has_written w c) (s.has_read w c) true) (s.has_read w k) ≡ true
      inner k true f q = cond_both (s.has_written w c) _ _ (λ b. b ≡ true) (λ _. rw (eqb-true c k f) q) (λ _. refl)
      inner k false f q = q

      flag : (u k : ℕ) (b : Bool) → eqb w u ≡ b → s.has_read u k ≡ true → cond b (updated (s.has_read w) c (cond (s.has_written w c) (s.has_read w c) true)) (s.has_read u) k ≡ true
      flag u k true e q = inner k (eqb c k) refl (rw (eqb-true w u e) q)
      flag u k false e q = q

      mine : (b : Bool) → s.has_written w c ≡ b → (Wrote h (open_job run w) c → ⊥) → cond b (s.has_read w c) true ≡ true
      mine true e nw = absurd (nw (written_when_flag w c (open_job_of w ac.0) e))
      mine false e nw = refl

      seen : (u k : ℕ) → 1 ≤ open_job run u → ((open_job run w ≡ open_job run u) × (c ≡ k) × (Wrote h (open_job run u) k → ⊥)) ⊎ ReadGlobally h (open_job run u) k →
          (view_after top n s w (reads c v)).has_read u k ≡ true
      seen u k a (inl (e, f, nw)) = rw (eq-eqb w u (one_crew run w u (open_job_of w ac.0) e), eq-eqb c k f) (mine (s.has_written w c) refl (rw (e, f) nw))
      seen u k a (inr m) = flag u k (eqb w u) refl (facts.read_is u k a m)

  facts_write : (w c : ℕ) (v : V) → Accepts top n s w (writes c v) → ViewFacts n first (by w (writes c v) ∷ run) (view_after top n s w (writes c v))
  facts_write w c v ac = record {
    job_is = facts.job_is;
    opened_is = facts.opened_is;
    value_is = facts.value_is;
    own_is = λ u k a. owns u k a (eqb w u) refl;
    read_is = λ u k a r. facts.read_is u k a (no_case (read_cases (open_job run u) k (by (open_job run w) (writes c v)) h r));
    closed_is = λ u k q. unflagged u k q (eqb w u) refl;
    range = λ u k q. ranged u k (eqb w u) q;
    room = facts.room;
  }
    where
      h : History V
      h = by_jobs run

      mine : (k : ℕ) (b : Bool) → cond b (Some v) (buffered (projection h (open_job run w)) k) ≡ cond (cond b true (s.has_written w k)) (Some (cond b v (s.own w k))) None
      mine k true = refl
      mine k false = facts.own_is w k (open_job_of w ac.0)

      owns : (u k : ℕ) → 1 ≤ open_job run u → (b : Bool) → eqb w u ≡ b →
          buffered (projection (by (open_job run w) (writes c v) ∷ h) (open_job run u)) k ≡ cond (cond b (updated (s.has_written w) c true) (s.has_written u) k) (Some (cond b (updated (s.own w) c v) (s.own u) k)) None
      owns u k a true e = rw (← eqb-true w u e, eq-eqb (open_job run w) (open_job run w) refl) (mine k (eqb c k))
      owns u k a false e = rw (ne_eqb (open_job run w) (open_job run u) (λ q. eqb-false w u e (one_crew run w u (open_job_of w ac.0) q))) (facts.own_is u k a)

      unflagged : (u k : ℕ) → open_job run u ≡ 0 → (b : Bool) → eqb w u ≡ b → cond b (updated (s.has_written w) c true) (s.has_written u) k ≡ false
      unflagged u k q true e = absurd (omega (arith, open_job_of w ac.0, ap (open_job run) (eqb-true w u e)))
      unflagged u k q false e = facts.closed_is u k q

      inner : (k : ℕ) (b : Bool) → eqb c k ≡ b → cond b true (s.has_written w k) ≡ true → (1 ≤ k) × (k ≤ n)
      inner k true e q = let f = eqb-true c k e in (omega (arith, ac.1), omega (arith, ac.2))
      inner k false e q = facts.range w k q

      ranged : (u k : ℕ) (b : Bool) → cond b (updated (s.has_written w) c true) (s.has_written u) k ≡ true → (1 ≤ k) × (k ≤ n)
      ranged u k true q = inner k (eqb c k) refl q
      ranged u k false q = facts.range u k q

  -- what both endings leave
  module _ (w p : ℕ) (ac : 1 ≤ s.job w) where
    ended_job : (u : ℕ) → updated s.job w 0 u ≡ cond (eqb w u) 0 (open_job run u)
    ended_job u = ap (cond (eqb w u) 0) (facts.job_is u)

    ended_own : (d : Operation V V ℕ) → ((t : List (Operation V V ℕ)) (k : ℕ) → buffered (d ∷ t) k ≡ buffered t k) → (u k : ℕ) (b : Bool) → 1 ≤ cond b 0 (open_job run u) →
        buffered (projection (by (open_job run w) d ∷ by_jobs run) (cond b 0 (open_job run u))) k ≡ cond (cond b (λ c. false) (s.has_written u) k) (Some (s.own u k)) None
    ended_own d q u k true a = absurd (omega arith)
    ended_own d q u k false a =
        cond_both (eqb (open_job run w) (open_job run u)) _ _ (λ t. buffered t k ≡ buffered (projection (by_jobs run) (open_job run u)) k) (λ _. q _ k) (λ _. refl) ∙ facts.own_is u k a

    ended_read : (a : Event V V ℕ) → ((x k : ℕ) → ReadGlobally (a ∷ by_jobs run) x k → ReadGlobally (by_jobs run) x k) → (u k : ℕ) (b : Bool) →
        1 ≤ cond b 0 (open_job run u) → ReadGlobally (a ∷ by_jobs run) (cond b 0 (open_job run u)) k → cond b (λ c. false) (s.has_read u) k ≡ true
    ended_read a f u k true l r = absurd (omega arith)
    ended_read a f u k false l r = facts.read_is u k l (f (open_job run u) k r)

    ended_unflagged : (u k : ℕ) (b : Bool) → cond b 0 (open_job run u) ≡ 0 → cond b (λ c. false) (s.has_written u) k ≡ false
    ended_unflagged u k true q = refl
    ended_unflagged u k false q = facts.closed_is u k q

    ended_range : (u k : ℕ) (b : Bool) → cond b (λ c. false) (s.has_written u) k ≡ true → (1 ≤ k) × (k ≤ n)
    ended_range u k true q = absurd (both_ways false refl q)
    ended_range u k false q = facts.range u k q

    ended_room : (h : ℕ → ℕ) → ((u : ℕ) → (u ≡ w → ⊥) → 1 ≤ open_job run u → s.low u + 2 ≤ h u) → (u : ℕ) (b : Bool) → eqb w u ≡ b → 1 ≤ cond b 0 (open_job run u) →
        cond b 0 (s.low u) + 2 ≤ cond b 0 (h u)
    ended_room h f u b e a = grind (arith, f, a, eqb-false w u)

  facts_commit : (w p : ℕ) → Accepts top n s w (commits p) → ViewFacts n first (by w (commits p) ∷ run) (view_after top n s w (commits p))
  facts_commit w p ac = record {
    job_is = ended_job w p ac.0;
    opened_is = facts.opened_is;
    value_is = λ c. own_or_value w c (open_job_of w ac.0);
    own_is = λ u k a. ended_own w p ac.0 (commits p) (λ t k. refl) u k (eqb w u) a;
    read_is = λ u k a r. ended_read w p ac.0 (by (open_job run w) (commits p)) (λ x k r. no_case (read_cases x k (by (open_job run w) (commits p)) (by_jobs run) r)) u k (eqb w u) a r;
    closed_is = λ u k q. ended_unflagged w p ac.0 u k (eqb w u) q;
    range = λ u k q. ended_range w p ac.0 u k (eqb w u) q;
    room = λ u a. ended_room w p ac.0 (λ u. cond (conflicts s w u n) (min (s.high u) p) (s.high u)) (λ u ne a. (lowered w p u ac ne a (conflicts s w u n) refl).2) u (eqb w u) refl a;
  }

  facts_abandon : (w p : ℕ) → Accepts top n s w (abandons p) → ViewFacts n first (by w (abandons p) ∷ run) (view_after top n s w (abandons p))
  facts_abandon w p ac = record {
    job_is = ended_job w p ac.0;
    opened_is = facts.opened_is;
    value_is = facts.value_is;
    own_is = λ u k a. ended_own w p ac.0 (abandons p) (λ t k. refl) u k (eqb w u) a;
    read_is = λ u k a r. ended_read w p ac.0 (by (open_job run w) (abandons p)) (λ x k r. no_case (read_cases x k (by (open_job run w) (abandons p)) (by_jobs run) r)) u k (eqb w u) a r;
    closed_is = λ u k q. ended_unflagged w p ac.0 u k (eqb w u) q;
    range = λ u k q. ended_range w p ac.0 u k (eqb w u) q;
    room = λ u a. ended_room w p ac.0 s.high (λ u ne a. facts.room u a) u (eqb w u) refl a;
  }

  pub view_facts_step : (w : ℕ) (d : Operation V V ℕ) → WellMade run → Accepts top n s w d → ViewFacts n first (by w d ∷ run) (view_after top n s w d)
  view_facts_step w opens wm ac = facts_open w wm ac
  view_facts_step w (reads c v) wm ac = facts_read w c v ac
  view_facts_step w (writes c v) wm ac = facts_write w c v ac
  view_facts_step w (commits p) wm ac = facts_commit w p ac
  view_facts_step w (abandons p) wm ac = facts_abandon w p ac

-- what holds after each run
pub record RunFacts {V : Type 0} (top n : ℕ) (first : ℕ → V) (run : History V) (s : RegisterView V) : Type 0 where
  pub view_facts : ViewFacts n first run s
  pub well_made : WellMade run
  pub reads_current : ReadsCurrent first (by_jobs run)

pub run_facts : {V : Type 0} (top n : ℕ) (first : ℕ → V) (own : ℕ → ℕ → V) {run : History V} {s : RegisterView V} → ViewRun top n first own run s → RunFacts top n first run s
run_facts top n first own starts = record {
  view_facts = record {
    job_is = λ w. refl;
    opened_is = refl;
    value_is = λ c. refl;
    own_is = λ w c a. absurd (omega arith);
    read_is = λ w c a r. absurd (omega arith);
    closed_is = λ w c q. refl;
    range = λ w c q. absurd (both_ways false refl q);
    room = λ w a. absurd (omega arith);
  };
  well_made = tt;
  reads_current = tt;
}
run_facts top n first own (goes_on {run = run} {s = s} {w = w} {o = d} g ac) = let k = run_facts top n first own g in record {
  view_facts = view_facts_step top n first run s k.view_facts w d k.well_made ac;
  well_made = well_made_step top n first run s k.view_facts w d ac k.well_made;
  reads_current = reads_current_step top n first run s k.view_facts w d ac k.reads_current;
}

pub crew_run : {V : Type 0} (top n : ℕ) (first : ℕ → V) (own : ℕ → ℕ → V) {run : History V} {s : RegisterView V} → ViewRun top n first own run s → CrewRun top run (bounds_of s)
crew_run top n first own starts = CrewRun.starts (λ w. 0) (λ w. 0)
crew_run top n first own (goes_on {run = run} {s = s} {w = w} {o = d} g ac) =
    CrewRun.goes_on (crew_run top n first own g) (crew_moves top n first run s (run_facts top n first own g).view_facts w d ac)

pub views_opaque : {V : Type 0} (first : ℕ → V) (own : ℕ → ℕ → V) (top n : ℕ) (run : History V) (s : RegisterView V) → 2 ≤ top → ViewRun top n first own run s → Opaque first run
views_opaque first own top n run s t g = let k = run_facts top n first own g in bounds_opaque first top run (bounds_of s) t k.well_made k.reads_current (crew_run top n first own g)

pub views_agree : {V : Type 0} (first : ℕ → V) (own : ℕ → ℕ → V) (top n : ℕ) (run : History V) (s : RegisterView V) → 2 ≤ top → ViewRun top n first own run s → ViewAgrees top first run s
views_agree first own top n run s t g = let k = run_facts top n first own g in record {
  well_made = k.well_made;
  reads_current = k.reads_current;
  values_committed = k.view_facts.value_is;
  jobs_open = k.view_facts.job_is;
  jobs_counted = k.view_facts.opened_is;
  tracked = bounds_agree top run (bounds_of s) t k.well_made (crew_run top n first own g);
}
