-- One more call that moves the bounds as it should keeps them in agreement with the history.
use Rattle.std.proofs.Common.{◌≡◌, ℕ, ◌<◌, ◌≤◌, Bool, true, cond, eqb, ◌⊎◌, List, ◌∷◌, Some, None, Option, sym, refl, ◌∙◌, subst, inl, inr, arith}
use Rattle.std.proofs.lemmas.Bool.{eqb-true, eq-eqb, ne_eqb, cond_both}
use Rattle.std.specs.Option.{option_or}
use Rattle.std.proofs.Math.Logic.{⊎_elim}
use Rattle.std.proofs.lemmas.Option.{none-some}
use Rattle.history.specs.Events.{Operation, Event, History, ends_at}
use Rattle.history.specs.Events.Operation.{opens, reads, writes, commits, abandons}
use Rattle.history.specs.Events.Event.{by}
use Rattle.history.specs.Projections.{projection, is_active, end_place, WellFormed}
use Rattle.history.specs.Precedence.{Extends, Wrote, ReadGlobally, CommittedCell, Ended, Precedes}
use Rattle.history.specs.Precedence.Extends.{here, later}
use Rattle.history.specs.Precedence.Precedes.{real_time, committed_read, read_committed, committed_committed}
use Rattle.history.specs.Bounds.{PlacedApart, Bounds, Tracked}
use Rattle.history.proofs.Moments.{active_unplaced, unopened_projection, well_formed_tail}
use Rattle.history.proofs.JobBounds.{ClosesIn, SeesTo, Moves}

-- bounds that close in keep jobs apart
apart_later : (o p o' p' : Option ℕ) (lx ux ly uy lx' ux' ly' uy' : ℕ) → ClosesIn o lx ux o' lx' ux' → ClosesIn p ly uy p' ly' uy' → PlacedApart o lx ux p ly uy → PlacedApart o' lx' ux' p' ly' uy'
apart_later o p o' p' lx ux ly uy lx' ux' ly' uy' m n k = grind (arith, m, n, k)

-- a place stays
closes_back : (o o' : Option ℕ) (l u l' u' : ℕ) → ClosesIn o l u o' l' u' → (k p : ℕ) → o ≡ Some k → o' ≡ Some p → o ≡ Some p
closes_back o o' l u l' u' m k p e f = grind (arith, m, e, f)

closes_later : (o o' : Option ℕ) (l u l' u' : ℕ) → ClosesIn o l u o' l' u' → (p : ℕ) → o ≡ Some p → o' ≡ Some p
closes_later o o' l u l' u' m p e = grind (arith, m, e)

apart_some_none : (o r : Option ℕ) (lx ux ly uy p : ℕ) → o ≡ Some p → r ≡ None → p ≤ ly → PlacedApart o lx ux r ly uy
apart_some_none o r lx ux ly uy p e f k = rw (e, f) k

apart_some_some : (o r : Option ℕ) (lx ux ly uy p q : ℕ) → o ≡ Some p → r ≡ Some q → p < q → PlacedApart o lx ux r ly uy
apart_some_some o r lx ux ly uy p q e f k = rw (e, f) k

apart_none_some : (o r : Option ℕ) (lx ux ly uy q : ℕ) → o ≡ None → r ≡ Some q → ux ≤ q → PlacedApart o lx ux r ly uy
apart_none_some o r lx ux ly uy q e f k = rw (e, f) k

module _ {V : Type 0} where
  -- at one more event: the four rules, where it is the later of the two
  abbrev pub PrecedesNow : Event V V ℕ → History V → ℕ → ℕ → Type 0
  PrecedesNow (by z opens) h x y = (z ≡ y) × Ended h x
  PrecedesNow (by z (reads c v)) h x y = (z ≡ y) × (Wrote h y c → ⊥) × CommittedCell h x c
  PrecedesNow (by z (writes c v)) h x y = ⊥
  PrecedesNow (by z (commits p)) h x y = (z ≡ y) × ((c : ℕ) × Wrote h y c × (ReadGlobally h x c ⊎ CommittedCell h x c))
  PrecedesNow (by z (abandons p)) h x y = ⊥

  -- an event of h with one more: the last one, or one of h
  pub occurs_cases : (P : Event V V ℕ → History V → Type 0) {Q : Type 0} (b : Event V V ℕ) (g : History V) (a : Event V V ℕ) (h : History V) → P b g →
      (Extends h (b ∷ g) → Q) → Extends (a ∷ h) (b ∷ g) → P a h ⊎ Q
  occurs_cases P b g a h q f here = inl q
  occurs_cases P b g a h q f (later s) = inr (f s)

  pub precedes_cases : (x y : ℕ) (a : Event V V ℕ) (h : History V) → Precedes (a ∷ h) x y → PrecedesNow a h x y ⊎ Precedes h x y
  precedes_cases x y a h (real_time {g = g} s e) = occurs_cases (λ a h. PrecedesNow a h x y) (by y opens) g a h (refl, e) (λ s. real_time s e) s
  precedes_cases x y a h (committed_read {g = g} {c = c} {v = v} s n e) = occurs_cases (λ a h. PrecedesNow a h x y) (by y (reads c v)) g a h (refl, n, e) (λ s. committed_read s n e) s
  precedes_cases x y a h (read_committed {g = g} {c = c} {p = p} s w e) = occurs_cases (λ a h. PrecedesNow a h x y) (by y (commits p)) g a h (refl, (c, w, inl e)) (λ s. read_committed s w e) s
  precedes_cases x y a h (committed_committed {g = g} {c = c} {p = p} s w e) =
      occurs_cases (λ a h. PrecedesNow a h x y) (by y (commits p)) g a h (refl, (c, w, inr e)) (λ s. committed_committed s w e) s

  abbrev pub CommitsNow : Event V V ℕ → History V → ℕ → ℕ → Type 0
  CommitsNow (by z opens) h x c = ⊥
  CommitsNow (by z (reads k v)) h x c = ⊥
  CommitsNow (by z (writes k v)) h x c = ⊥
  CommitsNow (by z (commits p)) h x c = (z ≡ x) × Wrote h x c
  CommitsNow (by z (abandons p)) h x c = ⊥

  abbrev pub ReadsNow : Event V V ℕ → History V → ℕ → ℕ → Type 0
  ReadsNow (by z opens) h x c = ⊥
  ReadsNow (by z (reads k v)) h x c = (z ≡ x) × (k ≡ c) × (Wrote h x c → ⊥)
  ReadsNow (by z (writes k v)) h x c = ⊥
  ReadsNow (by z (commits p)) h x c = ⊥
  ReadsNow (by z (abandons p)) h x c = ⊥

  pub committed_cases : (x c : ℕ) (a : Event V V ℕ) (h : History V) → CommittedCell (a ∷ h) x c → CommitsNow a h x c ⊎ CommittedCell h x c
  committed_cases x c a h k =
      occurs_cases (λ a h. CommitsNow a h x c) (by x (commits k.place)) k.before a h (refl, k.wrote)
      (λ s. record { place = k.place; before = k.before; occurs = s; wrote = k.wrote }) k.occurs

  pub read_cases : (x c : ℕ) (a : Event V V ℕ) (h : History V) → ReadGlobally (a ∷ h) x c → ReadsNow a h x c ⊎ ReadGlobally h x c
  read_cases x c a h k =
      occurs_cases (λ a h. ReadsNow a h x c) (by x (reads c k.value)) k.before a h (refl, refl, k.unwritten)
      (λ s. record { value = k.value; before = k.before; occurs = s; unwritten = k.unwritten }) k.occurs

  -- who has ended has a place
  abbrev pub Ends : List (Operation V V ℕ) → Type 0
  Ends s = (p : ℕ) × (end_place s ≡ Some p)

  ends_more : (o : Option ℕ) (s : List (Operation V V ℕ)) → Ends s → (p : ℕ) × (option_or o (end_place s) ≡ Some p)
  ends_more (Some p) s q = (p, refl)
  ends_more None s q = q

  ends_step : (d : Operation V V ℕ) (s : List (Operation V V ℕ)) (b : Bool) → Ends s → Ends (cond b (d ∷ s) s)
  ends_step d s b q = cond_both b (d ∷ s) s Ends (λ _. ends_more (ends_at d) s q) (λ _. q)

  place_when_ended : (x : ℕ) (d : Operation V V ℕ) (g h : History V) → Ends (d ∷ projection g x) → Extends h (by x d ∷ g) → Ends (projection h x)
  place_when_ended x d g h q here = rw (eq-eqb x x refl) q
  place_when_ended x d g _ q (later {a = by y e} {h = h} s) = ends_step e (projection h x) (eqb y x) (place_when_ended x d g h q s)

  pub ended_place : (h : History V) (x : ℕ) → Ended h x → Ends (projection h x)
  ended_place h x e = ⊎_elim (place_when_ended x (commits e.place) e.before h (e.place, refl)) (place_when_ended x (abandons e.place) e.before h (e.place, refl)) e.occurs

  pub committed_place : (h : History V) (x c : ℕ) → CommittedCell h x c → Ends (projection h x)
  committed_place h x c k = place_when_ended x (commits k.place) k.before h (k.place, refl) k.occurs

  -- who acts has no place yet
  pub acting_unplaced : (h : History V) (x : ℕ) (d : Operation V V ℕ) → WellFormed (by x d ∷ h) → end_place (projection h x) ≡ None
  acting_unplaced h x d wf = grind (arith, wf, unopened_projection h wf.1 x, active_unplaced h wf.1 x)

  -- whoever has a place since this event is the one whose event it is
  place_step : (h : History V) (x z p : ℕ) (d : Operation V V ℕ) (b : Bool) → eqb x z ≡ b → end_place (projection h z) ≡ None →
      end_place (cond b (d ∷ projection h z) (projection h z)) ≡ Some p → (x ≡ z) × (ends_at d ≡ Some p)
  place_step h x z p d b e n q = grind (arith, e, n, q, eqb-true x z)

  pub commits_by : (h : History V) (x z c : ℕ) (d : Operation V V ℕ) → CommitsNow (by x d) h z c → x ≡ z
  commits_by h x z c d m = grind (arith, m)

  reads_by : (h : History V) (x z c : ℕ) (d : Operation V V ℕ) → ReadsNow (by x d) h z c → (x ≡ z) × (ends_at d ≡ None)
  reads_by h x z c d m = grind (arith, m)

  -- the end place of the job that acts, and of another
  end_place_own : (h : History V) (x : ℕ) (d : Operation V V ℕ) → end_place (projection (by x d ∷ h) x) ≡ end_place (d ∷ projection h x)
  end_place_own h x d = rw (eq-eqb x x refl)

  end_place_other : (h : History V) (x y : ℕ) (d : Operation V V ℕ) → (x ≡ y → ⊥) → end_place (projection (by x d ∷ h) y) ≡ end_place (projection h y)
  end_place_other h x y d n = rw (ne_eqb x y n)

  module _ (h : History V) (b : Bounds) (x : ℕ) (d : Operation V V ℕ) (b' : Bounds) (wf : WellFormed (by x d ∷ h)) (tracked_before : Tracked h b) (mv : Moves h b x d b') where
    -- a place that a job has now: it had it, or this event gave it
    place_cases : (z p : ℕ) → end_place (projection (by x d ∷ h) z) ≡ Some p → (end_place (projection h z) ≡ Some p) ⊎ ((x ≡ z) × (ends_at d ≡ Some p))
    place_cases z p q = go (end_place (projection h z)) refl
      where
        go : (o : Option ℕ) → end_place (projection h z) ≡ o → (end_place (projection h z) ≡ Some p) ⊎ ((x ≡ z) × (ends_at d ≡ Some p))
        go (Some k) e = inl (closes_back (end_place (projection h z)) (end_place (projection (by x d ∷ h) z)) (b.low z) (b.high z) (b'.low z) (b'.high z) (mv.closes_in z) k p e q)
        go None e = inr (place_step h x z p d (eqb x z) refl e q)

    highest_now : (z p : ℕ) → end_place (projection (by x d ∷ h) z) ≡ Some p → p ≤ b'.highest
    highest_now z p q = ⊎_elim (λ e. omega (arith, tracked_before.below_highest z p e, mv.highest_up)) (λ e. (mv.ends p e.1).0) (place_cases z p q)

    written_now : (z c p : ℕ) → CommittedCell (by x d ∷ h) z c → end_place (projection (by x d ∷ h) z) ≡ Some p → p ≤ b'.written c
    written_now z c p k q = go (place_cases z p q) (committed_cases z c (by x d) h k)
      where
        fresh_commit : (d : Operation V V ℕ) → ends_at d ≡ Some p → CommitsNow (by x d) h z c → SeesTo h b x d b' → p ≤ b'.written c
        fresh_commit opens e m s = absurd m
        fresh_commit (reads k v) e m s = absurd m
        fresh_commit (writes k v) e m s = absurd m
        fresh_commit (commits q) e m s = let f : q ≡ p = cc in omega (arith, (s c (rw m.0 m.1)).2)
        fresh_commit (abandons q) e m s = absurd m

        go : (end_place (projection h z) ≡ Some p) ⊎ ((x ≡ z) × (ends_at d ≡ Some p)) → CommitsNow (by x d) h z c ⊎ CommittedCell h z c → p ≤ b'.written c
        go (inl e) (inr m) = omega (arith, tracked_before.below_written z c p m e, mv.written_up c)
        go (inl e) (inl m) = absurd (none-some p (sym (acting_unplaced h x d wf) ∙ rw (commits_by h x z c d m) e))
        go (inr e) (inl m) = fresh_commit d e.1 m mv.sees_to
        go (inr e) (inr m) = let k = committed_place h z c m in absurd (none-some k.0 (sym (acting_unplaced h x d wf) ∙ (rw e.0 k.1)))

    read_now : (z c p : ℕ) → ReadGlobally (by x d ∷ h) z c → end_place (projection (by x d ∷ h) z) ≡ Some p → p ≤ b'.read c
    read_now z c p k q = go (place_cases z p q) (read_cases z c (by x d) h k)
      where
        go : (end_place (projection h z) ≡ Some p) ⊎ ((x ≡ z) × (ends_at d ≡ Some p)) → ReadsNow (by x d) h z c ⊎ ReadGlobally h z c → p ≤ b'.read c
        go (inl e) (inr m) = omega (arith, tracked_before.below_read z c p m e, mv.read_up c)
        go (inl e) (inl m) = absurd (none-some p (sym (acting_unplaced h x d wf) ∙ rw (reads_by h x z c d m).0 e))
        go (inr e) (inl m) = absurd (none-some p (sym (reads_by h x z c d m).1 ∙ e.1))
        go (inr e) (inr m) = (mv.ends p e.1).1 c (rw e.0 m)

    abbrev ApartNow : ℕ → ℕ → Type 0
    ApartNow y z = PlacedApart (end_place (projection (by x d ∷ h) y)) (b'.low y) (b'.high y) (end_place (projection (by x d ∷ h) z)) (b'.low z) (b'.high z)

    -- a place that y had before this event, against the one who acts, who ends now or stays open
    had_none : (y p : ℕ) → end_place (projection h y) ≡ Some p → end_place (d ∷ projection h x) ≡ None → p ≤ b'.low x → ApartNow y x
    had_none y p e n k = apart_some_none _ _ (b'.low y) (b'.high y) (b'.low x) (b'.high x) p
        (closes_later _ _ (b.low y) (b.high y) (b'.low y) (b'.high y) (mv.closes_in y) p e) (end_place_own h x d ∙ n) k

    had_some : (y p q : ℕ) → end_place (projection h y) ≡ Some p → end_place (d ∷ projection h x) ≡ Some q → p < q → ApartNow y x
    had_some y p q e n k = apart_some_some _ _ (b'.low y) (b'.high y) (b'.low x) (b'.high x) p q
        (closes_later _ _ (b.low y) (b.high y) (b'.low y) (b'.high y) (mv.closes_in y) p e) (end_place_own h x d ∙ n) k

  now_apart : (h : History V) (b : Bounds) (x : ℕ) (d : Operation V V ℕ) (b' : Bounds) (wf : WellFormed (by x d ∷ h)) (tracked_before : Tracked h b) (mv : Moves h b x d b') →
      (y z : ℕ) → (y ≡ z → ⊥) → PrecedesNow (by x d) h y z → ApartNow h b x d b' wf tracked_before mv y z
  now_apart h b x opens b' wf tracked_before mv y z ne (e, en) =
      let k = ended_place h y en in
      subst (λ w. ApartNow h b x opens b' wf tracked_before mv y w) e
      (had_none h b x opens b' wf tracked_before mv y k.0 k.1 (acting_unplaced h x opens wf) (omega (arith, tracked_before.below_highest y k.0 k.1, mv.sees_to)))
  now_apart h b x (reads c v) b' wf tracked_before mv y z ne (e, n, m) =
      let k = committed_place h y c m in
      subst (λ w. ApartNow h b x (reads c v) b' wf tracked_before mv y w) e
      (had_none h b x (reads c v) b' wf tracked_before mv y k.0 k.1 (acting_unplaced h x (reads c v) wf) (omega (arith, tracked_before.below_written y c k.0 m k.1, mv.sees_to (rw e n))))
  now_apart h b x (writes c v) b' wf tracked_before mv y z ne m = absurd m
  now_apart h b x (commits p) b' wf tracked_before mv y z ne (e, (c, w, r)) = subst (λ w. ApartNow h b x (commits p) b' wf tracked_before mv y w) e (go r (end_place (projection h y)) refl)
    where
      w' : Wrote h x c
      w' = rw e w

      go : ReadGlobally h y c ⊎ CommittedCell h y c → (o : Option ℕ) → end_place (projection h y) ≡ o → ApartNow h b x (commits p) b' wf tracked_before mv y x
      go (inl m) (Some q) f = had_some h b x (commits p) b' wf tracked_before mv y q p f refl (omega (arith, tracked_before.below_read y c q m f, (mv.sees_to c w').1))
      go (inl m) None f =
          apart_none_some _ _ (b'.low y) (b'.high y) (b'.low x) (b'.high x) p (end_place_other h x y (commits p) (λ q. ne (sym q ∙ e)) ∙ f)
          (end_place_own h x (commits p)) ((mv.sees_to c w').3 y (λ q. ne (q ∙ e)) m f)
      go (inr m) (Some q) f = had_some h b x (commits p) b' wf tracked_before mv y q p f refl (omega (arith, tracked_before.below_written y c q m f, (mv.sees_to c w').0))
      go (inr m) None f = let k = committed_place h y c m in absurd (none-some k.0 (sym f ∙ k.1))
  now_apart h b x (abandons p) b' wf tracked_before mv y z ne m = absurd m

  pub tracked_step : (h : History V) (b : Bounds) (x : ℕ) (d : Operation V V ℕ) (b' : Bounds) → WellFormed (by x d ∷ h) → Tracked h b → Moves h b x d b' → Tracked (by x d ∷ h) b'
  tracked_step h b x d b' wf tracked_before mv = record {
    placed = record {
      apart = λ y z ne k. ⊎_elim (now_apart h b x d b' wf tracked_before mv y z ne) (λ k.
          apart_later (end_place (projection h y)) (end_place (projection h z)) (end_place (projection (by x d ∷ h) y)) (end_place (projection (by x d ∷ h) z)) (b.low y)
          (b.high y) (b.low z) (b.high z) (b'.low y) (b'.high y) (b'.low z) (b'.high z) (mv.closes_in y) (mv.closes_in z)
          (tracked_before.placed.apart y z ne k)) (precedes_cases y z (by x d) h k);
      room = mv.room;
    };
    below_highest = highest_now h b x d b' wf tracked_before mv;
    below_written = written_now h b x d b' wf tracked_before mv;
    below_read = read_now h b x d b' wf tracked_before mv;
  }

  -- a job that has read and has no place is open
  reader_step : (y x : ℕ) (d : Operation V V ℕ) (s : List (Operation V V ℕ)) (b : Bool) → (end_place s ≡ None → is_active s ≡ true) → end_place (cond b (d ∷ s) s) ≡ None →
      is_active (cond b (d ∷ s) s) ≡ true
  reader_step y x d s b ih n = grind (arith, ih, n)

  reader_occurs : (x c : ℕ) (v : V) (g h : History V) → Extends h (by x (reads c v) ∷ g) → WellFormed h → end_place (projection h x) ≡ None → is_active (projection h x) ≡ true
  reader_occurs x c v g h here wf n = rw (eq-eqb x x refl) wf.0
  reader_occurs x c v g _ (later {a = by y d} {h = h} s) wf n = reader_step y x d (projection h x) (eqb y x) (reader_occurs x c v g h s (well_formed_tail (by y d) h wf)) n

  pub reader_active : (h : History V) → WellFormed h → (x c : ℕ) → ReadGlobally h x c → end_place (projection h x) ≡ None → is_active (projection h x) ≡ true
  reader_active h wf x c r n = reader_occurs x c r.value r.before h r.occurs wf n
