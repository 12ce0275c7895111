-- Serial execution in a respectful row explains what was told: by induction on one more event of the history, with the row as it is.
use Rattle.std.proofs.Common.{◌≡◌, ℕ, Bool, true, false, cond, eqb, List, [], ◌∷◌, Some, None, Option, unwrap_or, sym, refl, ap, ◌∙◌, ap₂, inl, inr, arith}
use Rattle.std.proofs.lemmas.Bool.{eqb-true, eq-eqb, cond_both, or_right}
use Rattle.history.specs.Events.{Operation, Event, History, is_commit}
use Rattle.history.specs.Events.Operation.{opens, reads, writes, commits, abandons}
use Rattle.history.specs.Events.Event.{by}
use Rattle.history.specs.Projections.{projection, buffered, is_committed, WellFormed}
use Rattle.history.specs.Values.{committed_value, ReadsCurrent, observed}
use Rattle.history.specs.Precedence.{Extends, Precedes, In, Once, Respects}
use Rattle.history.specs.Precedence.Extends.{here, later}
use Rattle.history.specs.Precedence.Precedes.{committed_read, read_committed, committed_committed}
use Rattle.history.proofs.ShortForm.{observes, installs, left_by, Explains}
use Rattle.history.proofs.Rows.{extends_trans, one_way}
use Rattle.history.proofs.Moments.{occurs_here, precedes_later, buffered_wrote, unbuffered_unwritten, active_uncommitted, installed_committed, FirstHand, first_hand_read}

module _ {V : Type 0} (first : ℕ → V) where
  -- jobs of the row that install nothing into c can be passed over
  left_by_skip : (σ : ℕ → List (Operation V V ℕ)) (c : ℕ) {part row : List ℕ} → Extends row part →
      ((z : ℕ) (eb : List ℕ) → Extends row (z ∷ eb) → Extends eb part → installs (σ z) c ≡ None) → left_by σ first row c ≡ left_by σ first part c
  left_by_skip σ c here none = refl
  left_by_skip σ c (later {a = z} {h = r} s) none = ap (λ o. unwrap_or o (left_by σ first r c)) (none z r here s) ∙ left_by_skip σ c s (λ w eb t u. none w eb (later t) u)

  left_by_same : (σ τ : ℕ → List (Operation V V ℕ)) (c : ℕ) (row : List ℕ) → ((z : ℕ) (eb : List ℕ) → Extends row (z ∷ eb) → installs (σ z) c ≡ installs (τ z) c) →
      left_by σ first row c ≡ left_by τ first row c
  left_by_same σ τ c [] same = refl
  left_by_same σ τ c (z ∷ r) same = ap₂ unwrap_or (same z r here) (left_by_same σ τ c r (λ w eb t. same w eb (later t)))

  left_by_none : (c : ℕ) (row : List ℕ) → left_by (projection []) first row c ≡ first c
  left_by_none c [] = refl
  left_by_none c (x ∷ row) = left_by_none c row

  -- only the cells that a job reads first-hand count for what it is told
  observes_same : (m n : ℕ → V) (s : List (Operation V V ℕ)) → ((c : ℕ) → FirstHand s c → m c ≡ n c) → observes m s ≡ observes n s
  observes_same m n [] e = refl
  observes_same m n (opens ∷ s) e = observes_same m n s e
  observes_same m n (reads c v ∷ s) e = ap₂ ◌∷◌ (go (buffered s c) refl) (observes_same m n s (λ d f. e d (inr f)))
    where
      go : (o : Option V) → buffered s c ≡ o → unwrap_or o (m c) ≡ unwrap_or o (n c)
      go (Some w) q = refl
      go None q = e c (inl (refl, q))
  observes_same m n (writes c v ∷ s) e = observes_same m n s e
  observes_same m n (commits p ∷ s) e = observes_same m n s e
  observes_same m n (abandons p ∷ s) e = observes_same m n s e

  -- none stands before a job that it must stand after
  NoBreach : History V → List ℕ → Type 0
  NoBreach h row = (y : ℕ) (ea : List ℕ) (x : ℕ) (eb : List ℕ) → Extends row (y ∷ ea) → Extends ea (x ∷ eb) → Precedes h y x → ⊥

  HasCommitted : History V → List ℕ → Type 0
  HasCommitted h row = (x : ℕ) → is_committed (projection h x) ≡ true → In x row

  no_breach_tail : (a : Event V V ℕ) (h : History V) (row : List ℕ) → NoBreach (a ∷ h) row → NoBreach h row
  unfolding NoBreach
  no_breach_tail a h row r y ea x eb s t b = r y ea x eb s t (precedes_later a b)

  still_committed : (d : Operation V V ℕ) (s : List (Operation V V ℕ)) (b : Bool) → is_committed s ≡ true → is_committed (cond b (d ∷ s) s) ≡ true
  still_committed d s b q = cond_both b (d ∷ s) s (λ t. is_committed t ≡ true) (λ _. or_right (is_commit d) (is_committed s) q) (λ _. q)

  has_committed_tail : (a : Event V V ℕ) (h : History V) (row : List ℕ) → HasCommitted (a ∷ h) row → HasCommitted h row
  unfolding HasCommitted
  has_committed_tail (by y d) h row w x q = w x (still_committed d (projection h x) (eqb y x) q)

  -- a commit changes what one job installs, and no other event changes what any job installs
  commit_installs : (h : History V) (x p z c : ℕ) → (x ≡ z → buffered (projection h z) c ≡ None) → installs (projection (by x (commits p) ∷ h) z) c ≡ installs (projection h z) c
  commit_installs h x p z c n = cond_both (eqb x z) _ _ (λ k. installs k c ≡ installs (projection h z) c)
      (λ e. let q = n (eqb-true x z e) in q ∙ sym (cond_both (is_committed (projection h z)) _ _ (λ (o : Option V). o ≡ None) (λ _. q) (λ _. refl)))
      (λ _. refl)

  write_installs : (h : History V) (x k z c : ℕ) (v : V) (b : Bool) → eqb x z ≡ b → is_committed (projection h x) ≡ false →
      installs (cond b (writes k v ∷ projection h z) (projection h z)) c ≡ installs (projection h z) c
  write_installs h x k z c v b e n = grind (arith, e, n, eqb-true x z)

  -- what is proved by induction on the history, for one row
  record Explained (h : History V) (row : List ℕ) : Type 0 where
    so_observed : (y : ℕ) (ea : List ℕ) → Extends row (y ∷ ea) → observes (left_by (projection h) first ea) (projection h y) ≡ observed (projection h y)
    so_left : (c : ℕ) → left_by (projection h) first row c ≡ committed_value first h c

  -- an event that changes nothing that is installed: only what its own job is told is left to show
  installs_nothing : (h : History V) (row : List ℕ) (a : Event V V ℕ) → Explained h row →
      ((z c : ℕ) → installs (projection (a ∷ h) z) c ≡ installs (projection h z) c) → ((c : ℕ) → committed_value first (a ∷ h) c ≡ committed_value first h c) →
      ((y : ℕ) (ea : List ℕ) → Extends row (y ∷ ea) → observes (left_by (projection h) first ea) (projection (a ∷ h) y) ≡ observed (projection (a ∷ h) y)) → Explained (a ∷ h) row
  installs_nothing h row a ih same stand tell = record {
    so_observed = λ y ea s. observes_same (left_by (projection (a ∷ h)) first ea) (left_by (projection h) first ea) (projection (a ∷ h) y) (λ c _. left_by_same (projection (a ∷ h)) (projection h) c ea (λ z eb _. same z c)) ∙ tell y ea s;
    so_left = λ c. left_by_same (projection (a ∷ h)) (projection h) c row (λ z eb _. same z c) ∙ (ih.so_left c ∙ sym (stand c));
  }

  -- a read: y stands before all who had committed the cell, so what the jobs before y leave is the committed value
  read_step : (h : History V) (row : List ℕ) (x c : ℕ) (v : V) → WellFormed (by x (reads c v) ∷ h) → NoBreach (by x (reads c v) ∷ h) row → Explained h row →
      v ≡ unwrap_or (buffered (projection h x) c) (committed_value first h c) → (ea : List ℕ) → Extends row (x ∷ ea) → unwrap_or (buffered (projection h x) c) (left_by (projection h) first ea c) ≡ v
  unfolding NoBreach
  read_step h row x c v wf resp ih current ea s = go (buffered (projection h x) c) refl current
    where
      nobody : buffered (projection h x) c ≡ None → (z : ℕ) (eb : List ℕ) → Extends row (z ∷ eb) → Extends eb (x ∷ ea) → (o : Option V) →
          installs (projection h z) c ≡ o → installs (projection h z) c ≡ None
      nobody q z eb t u None e = e
      nobody q z eb t u (Some w) e = absurd (resp z eb x ea t u (committed_read {c = c} {v = v} here (unbuffered_unwritten h x c q) (installed_committed h wf.1 z c w e)))

      mine : installs (projection h x) c ≡ None
      mine = rw (active_uncommitted h wf.1 x wf.0)

      go : (o : Option V) → buffered (projection h x) c ≡ o → v ≡ unwrap_or o (committed_value first h c) → unwrap_or o (left_by (projection h) first ea c) ≡ v
      go (Some w) q e = sym e
      go None q e =
          sym
          (e ∙ (sym (ih.so_left c) ∙ (left_by_skip (projection h) c s (λ z eb t u. nobody q z eb t u (installs (projection h z) c) refl) ∙ ap (λ o. unwrap_or o (left_by (projection h) first ea c)) mine)))

  -- a commit: x stands after all who had committed one of its cells, and after all who had read one first-hand
  commit_step : (h : History V) (row : List ℕ) (x p : ℕ) → WellFormed (by x (commits p) ∷ h) → Once row → In x row → NoBreach (by x (commits p) ∷ h) row →
      Explained h row → Explained (by x (commits p) ∷ h) row
  unfolding NoBreach
  commit_step h row x p wf once (ex, sx) resp ih = record {
    so_observed = λ y ea s. cond_both (eqb x y) _ _ (λ k. observes (left_by new first ea) k ≡ observed k) (λ _. keeps y ea s) (λ _. keeps y ea s);
    so_left = λ c. ends c (buffered (projection h x) c) refl;
  }
    where
      new : ℕ → List (Operation V V ℕ)
      new = projection (by x (commits p) ∷ h)

      unread : (y : ℕ) (ea : List ℕ) (z : ℕ) (eb : List ℕ) (c : ℕ) → Extends row (y ∷ ea) → Extends ea (z ∷ eb) → FirstHand (projection h y) c → x ≡ z → (o : Option V) →
          buffered (projection h z) c ≡ o → buffered (projection h z) c ≡ None
      unread y ea z eb c s t f e None q = q
      unread y ea z eb c s t f e (Some v) q = absurd (resp y ea z eb s t (read_committed (occurs_here h (commits p) x z e) (buffered_wrote h z c v q) (first_hand_read h y c f)))

      keeps : (y : ℕ) (ea : List ℕ) → Extends row (y ∷ ea) → observes (left_by new first ea) (projection h y) ≡ observed (projection h y)
      keeps y ea s = observes_same (left_by new first ea) (left_by (projection h) first ea) (projection h y)
          (λ c f. left_by_same new (projection h) c ea (λ z eb t. commit_installs h x p z c (λ e. unread y ea z eb c s t f e (buffered (projection h z) c) refl))) ∙ ih.so_observed y ea s

      nobody : (c : ℕ) (v : V) → buffered (projection h x) c ≡ Some v → (z : ℕ) (eb : List ℕ) → Extends row (z ∷ eb) → Extends eb (x ∷ ex) → (b : Bool) → eqb x z ≡ b →
          (o : Option V) → installs (projection h z) c ≡ o → installs (cond b (commits p ∷ projection h z) (projection h z)) c ≡ None
      nobody c v q z eb t u true e o k = absurd (once x (eb, rw (eqb-true x z e) t, (ex, u)))
      nobody c v q z eb t u false e None k = k
      nobody c v q z eb t u false e (Some w) k =
          absurd (resp z eb x ex t u (committed_committed (occurs_here h (commits p) x x refl) (buffered_wrote h x c v q) (installed_committed h wf.1 z c w k)))

      ends : (c : ℕ) (o : Option V) → buffered (projection h x) c ≡ o → left_by new first row c ≡ unwrap_or (buffered (projection h x) c) (committed_value first h c)
      ends c None q = left_by_same new (projection h) c row (λ z eb t. commit_installs h x p z c (λ e. rw (← e) q)) ∙ (ih.so_left c ∙ ap (λ o. unwrap_or o (committed_value first h c)) (sym q))
      ends c (Some v) q = left_by_skip new c sx (λ z eb t u. nobody c v q z eb t u (eqb x z) refl (installs (projection h z) c) refl) ∙ (rw (eq-eqb x x refl, q))

  explain : (h : History V) (row : List ℕ) → Once row → WellFormed h → ReadsCurrent first h → HasCommitted h row → NoBreach h row → Explained h row
  unfolding HasCommitted
  explain [] row o wf rc w r = record { so_observed = λ y ea s. refl; so_left = λ c. left_by_none c row }
  explain (by x opens ∷ h) row o wf rc w r =
      let ih = explain h row o wf.1 rc (has_committed_tail (by x opens) h row w) (no_breach_tail (by x opens) h row r) in
      installs_nothing h row (by x opens) ih (λ z c. cond_both (eqb x z) _ _ (λ k. installs k c ≡ installs (projection h z) c) (λ _. refl) (λ _. refl)) (λ c. refl)
      (λ y ea s. cond_both (eqb x y) _ _ (λ k. observes (left_by (projection h) first ea) k ≡ observed k) (λ _. ih.so_observed y ea s) (λ _. ih.so_observed y ea s))
  explain (by x (reads c v) ∷ h) row o wf rc w r =
      let ih = explain h row o wf.1 rc.1 (has_committed_tail (by x (reads c v)) h row w) (no_breach_tail (by x (reads c v)) h row r) in
      installs_nothing h row (by x (reads c v)) ih (λ z c. cond_both (eqb x z) _ _ (λ k. installs k c ≡ installs (projection h z) c) (λ _. refl) (λ _. refl)) (λ c. refl)
      (λ y ea s. cond_both (eqb x y) _ _ (λ k. observes (left_by (projection h) first ea) k ≡ observed k) (λ t. let e = eqb-true x y t in ap₂ ◌∷◌ (rw (← e) (read_step h row x c v wf r ih rc.0 ea (rw e s))) (ih.so_observed y ea s)) (λ _. ih.so_observed y ea s))
  explain (by x (writes c v) ∷ h) row o wf rc w r =
      let ih = explain h row o wf.1 rc (has_committed_tail (by x (writes c v)) h row w) (no_breach_tail (by x (writes c v)) h row r) in
      installs_nothing h row (by x (writes c v)) ih (λ z k. write_installs h x c z k v (eqb x z) refl (active_uncommitted h wf.1 x wf.0)) (λ c. refl)
      (λ y ea s. cond_both (eqb x y) _ _ (λ k. observes (left_by (projection h) first ea) k ≡ observed k) (λ _. ih.so_observed y ea s) (λ _. ih.so_observed y ea s))
  explain (by x (commits p) ∷ h) row o wf rc w r =
      let ih = explain h row o wf.1 rc (has_committed_tail (by x (commits p)) h row w) (no_breach_tail (by x (commits p)) h row r) in
      commit_step h row x p wf o (w x (rw (eq-eqb x x refl))) r ih
  explain (by x (abandons p) ∷ h) row o wf rc w r =
      let ih = explain h row o wf.1 rc (has_committed_tail (by x (abandons p)) h row w) (no_breach_tail (by x (abandons p)) h row r) in
      installs_nothing h row (by x (abandons p)) ih (λ z c. cond_both (eqb x z) _ _ (λ k. installs k c ≡ installs (projection h z) c) (λ _. refl) (λ _. refl)) (λ c. refl)
      (λ y ea s. cond_both (eqb x y) _ _ (λ k. observes (left_by (projection h) first ea) k ≡ observed k) (λ _. ih.so_observed y ea s) (λ _. ih.so_observed y ea s))

  no_breach : (h : History V) (row : List ℕ) → Respects h row → NoBreach h row
  unfolding NoBreach
  no_breach h row k y ea x eb s t b = one_way row k.once (k.rules y x (ea, s) (eb, extends_trans s (later t)) (λ e. k.once x (ea, rw (← e) s, (eb, t))) b) (ea, s, (eb, t))

  pub respectful_explains : (h : History V) (row : List ℕ) → WellFormed h → ReadsCurrent first h → Respects h row → Explains first h row
  unfolding HasCommitted
  respectful_explains h row wf rc k = let so = explain h row k.once wf rc k.all_committed (no_breach h row k) in record { same_observed = so.so_observed; same_left = so.so_left }
