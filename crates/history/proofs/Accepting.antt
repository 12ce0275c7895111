-- Where places for the jobs rise along precedence, the register accepts every call at them: the low bound of each open job stays below its place, and the high one above.
use Rattle.std.proofs.Common.{◌≡◌, ℕ, zero, suc, ◌+◌, ◌<◌, ◌≤◌, max, Bool, true, false, cond, ◌&&◌, eqb, ◌⊎◌, [], ◌∷◌, None, sym, refl, ap, ◌∙◌, subst, ap₂, inl, inr, arith}
use Rattle.std.proofs.lemmas.Bool.{eqb-true, eqb-false, both_ways, and_parts, or_cases, cases_lt}
use Rattle.std.proofs.Math.Logic.{⊎_elim, ⊎_map}
use Rattle.std.proofs.lemmas.Option.{none-some}
use Rattle.history.specs.Events.{Operation, Event, Events, History, is_opening, openings, open_job, by_jobs}
use Rattle.history.specs.Events.Operation.{opens, reads, writes, commits, abandons}
use Rattle.history.specs.Events.Event.{by}
use Rattle.history.specs.Projections.{projection, end_place, WellFormed}
use Rattle.history.specs.Precedence.{Wrote, ReadGlobally, CommittedCell, Ended, Precedes}
use Rattle.history.specs.Precedence.Extends.{here, later}
use Rattle.history.specs.Precedence.Precedes.{real_time, committed_read, read_committed, committed_committed}
use Rattle.history.specs.WellMade.{WellMade, Calls, InRange, asked}
use Rattle.history.specs.Views.{RegisterView, fresh_view, conflicts, Accepts, updated, view_after}
use Rattle.history.specs.Views.ViewRun.{starts, goes_on}
use Rattle.history.specs.Acceptance.{AcceptedAt, positions, places_of}
use Rattle.history.proofs.Moments.{precedes_later, read_later, committed_later, active_unplaced, unopened_projection}
use Rattle.history.proofs.Tracking.{ended_place}
use Rattle.history.proofs.Crews.{openings_by_job, openings_tail, one_crew, open_job_active, well_formed}
use Rattle.history.proofs.Viewing.{ViewFacts, flag_when_written, written_when_flag, RunFacts, run_facts}
use Rattle.history.proofs.Alike.{Alike, alike_sym, precedes_alike, openings_alike, job_alike, by_jobs_alike, calls_alike}
use Rattle.history.proofs.Alike.SameCall.{open_open, read_read, commit_commit}
use Rattle.history.proofs.Alike.Alike.{more}

-- places for the jobs that rise along precedence
pub record RisingPlaces {V R P : Type 0} (top : ℕ) (at : ℕ → ℕ) (run : Events V R P) : Type 0 where
  pub rises : (x y : ℕ) → (x ≡ y → ⊥) → Precedes (by_jobs run) x y → at x < at y
  pub within : (x : ℕ) → 1 ≤ x → x ≤ openings run → (1 ≤ at x) × (at x + 2 ≤ top)

pub rising_tail : {V R P : Type 0} (top : ℕ) (at : ℕ → ℕ) (w : ℕ) (o : Operation V R P) (run : Events V R P) → RisingPlaces top at (by w o ∷ run) → RisingPlaces top at run
rising_tail top at w o run f = record {
  rises = λ x y n b. f.rises x y n (precedes_later (by (cond (is_opening o) (suc (openings run)) (open_job run w)) o) b);
  within = λ x p q. f.within x p (omega (arith, openings_tail w o run));
}

pub rising_alike : {V R P S Q : Type 0} (top : ℕ) (at : ℕ → ℕ) {h : Events V R P} {g : Events V S Q} → Alike h g → RisingPlaces top at h → RisingPlaces top at g
rising_alike top at a f = record { rises = λ x y n b. f.rises x y n (precedes_alike (alike_sym (by_jobs_alike a)) b); within = λ x p q. f.within x p (rw (openings_alike a) q) }

conflicts_to : {V : Type 0} (s : RegisterView V) (w u n : ℕ) → conflicts s w u n ≡ true → (c : ℕ) × (s.has_read u c ≡ true) × (s.has_written w c ≡ true)
conflicts_to s w u zero e = absurd (both_ways false refl e)
conflicts_to s w u (suc n) e = ⊎_elim (λ q. let k = and_parts (s.has_read u (suc n)) (s.has_written w (suc n)) q in (suc n, k.0, k.1)) (conflicts_to s w u n)
    (or_cases (s.has_read u (suc n) && s.has_written w (suc n)) (conflicts s w u n) e)

module _ {V : Type 0} where
  ended_later : (a : Event V V ℕ) {h : History V} {x : ℕ} → Ended h x → Ended (a ∷ h) x
  ended_later a e = record { place = e.place; before = e.before; occurs = ⊎_map later later e.occurs }

  committed_ended : {h : History V} {x c : ℕ} → CommittedCell h x c → Ended h x
  committed_ended k = record { place = k.place; before = k.before; occurs = inl k.occurs }

  -- who has ended is not who is open, nor who has yet to open
  ended_other : (h : History V) (x y : ℕ) → end_place (projection h x) ≡ None → Ended h y → y ≡ x → ⊥
  ended_other h x y o e q = let k = ended_place h y e in none-some k.0 (sym o ∙ (sym (ap (λ z. end_place (projection h z)) q) ∙ k.1))

-- a number that is 0, or the place of one of those jobs
abbrev Mark : (ℕ → ℕ) → (ℕ → Type 0) → ℕ → Type 0
Mark at Q k = (k ≡ 0) ⊎ ((y : ℕ) × Q y × (k ≡ at y))

mark_map : (at : ℕ → ℕ) (Q S : ℕ → Type 0) (k : ℕ) → ((y : ℕ) → Q y → S y) → Mark at Q k → Mark at S k
mark_map at Q S k f = ⊎_map (λ e. e) (λ m. (m.0, f m.0 m.1, m.2))

mark_below : (at : ℕ → ℕ) (Q : ℕ → Type 0) (k p : ℕ) → 1 ≤ p → ((y : ℕ) → Q y → at y < p) → Mark at Q k → k < p
mark_below at Q k p l f (inl e) = omega arith
mark_below at Q k p l f (inr m) = omega (arith, f m.0 m.1, m.2)

mark_max : (at : ℕ → ℕ) (Q : ℕ → Type 0) (k x : ℕ) → Q x → Mark at Q k → Mark at Q (max k (at x))
mark_max at Q k x q m = ⊎_elim (λ l. let f : max k (at x) ≡ k = omega arith in subst (Mark at Q) (sym f) m) (λ l. inr (x, q, omega arith)) (cases_lt (at x) k)

-- each table entry is 0 or the place of a job that did what the table is for, and each open job has its place between its bounds
record PlacesFit {V : Type 0} (at : ℕ → ℕ) (run : History V) (s : RegisterView V) : Type 0 where
  low_is : (w : ℕ) → 1 ≤ open_job run w → s.low w < at (open_job run w)
  high_is : (w : ℕ) → 1 ≤ open_job run w → at (open_job run w) < s.high w
  written_is : (c : ℕ) → Mark at (λ y. CommittedCell (by_jobs run) y c) (s.written c)
  read_is : (c : ℕ) → Mark at (λ y. ReadGlobally (by_jobs run) y c × Ended (by_jobs run) y) (s.read c)
  highest_is : Mark at (λ y. Ended (by_jobs run) y) s.highest
  flag_is : (w c : ℕ) → s.has_read w c ≡ true → (1 ≤ open_job run w) × ReadGlobally (by_jobs run) (open_job run w) c

module _ {V : Type 0} (top n : ℕ) (first : ℕ → V) (at : ℕ → ℕ) (run : History V) (s : RegisterView V) (holds : RunFacts top n first run s) (fits : PlacesFit at run s) where
  wf : WellFormed (by_jobs run)
  wf = well_formed run holds.well_made

  abbrev facts : ViewFacts n first run s
  facts = holds.view_facts

  open_now : (w : ℕ) → 1 ≤ open_job run w → end_place (projection (by_jobs run) (open_job run w)) ≡ None
  open_now w a = active_unplaced (by_jobs run) wf (open_job run w) (open_job_active run w a)

  job_of_open : (w : ℕ) → 1 ≤ open_job run w → 1 ≤ s.job w
  job_of_open w a = rw (facts.job_is w) a

  not_flag : (w c : ℕ) → 1 ≤ open_job run w → s.has_written w c ≡ false → Wrote (by_jobs run) (open_job run w) c → ⊥
  not_flag w c a e wr = both_ways (s.has_written w c) e (flag_when_written top n first run s facts w c a wr)

  -- the tables of places stay as they are
  marks_later : (a : Event V V ℕ) (c : ℕ) → Mark at (λ y. CommittedCell (a ∷ by_jobs run) y c) (s.written c)
  marks_later a c = mark_map at _ _ (s.written c) (λ y k. committed_later a k) (fits.written_is c)

  reads_later : (a : Event V V ℕ) (c : ℕ) → Mark at (λ y. ReadGlobally (a ∷ by_jobs run) y c × Ended (a ∷ by_jobs run) y) (s.read c)
  reads_later a c = mark_map at _ _ (s.read c) (λ y k. (read_later a k.0, ended_later a k.1)) (fits.read_is c)

  highest_later : (a : Event V V ℕ) → Mark at (λ y. Ended (a ∷ by_jobs run) y) s.highest
  highest_later a = mark_map at _ _ s.highest (λ y k. ended_later a k) fits.highest_is

  flags_later : (a : Event V V ℕ) (u c : ℕ) → s.has_read u c ≡ true → (1 ≤ open_job run u) × ReadGlobally (a ∷ by_jobs run) (open_job run u) c
  flags_later a u c q = let k = fits.flag_is u c q in (k.0, read_later a k.1)

  ---- open
  module _ (w : ℕ) (j : open_job run w ≡ 0) (f : RisingPlaces top at (by w opens ∷ run)) where
    new_within : (1 ≤ at (suc (openings run))) × (at (suc (openings run)) + 2 ≤ top)
    new_within = f.within (suc (openings run)) (omega arith) (omega arith)

    new_above : s.highest < at (suc (openings run))
    new_above =
        mark_below at _ s.highest (at (suc (openings run))) new_within.0
        (λ y e. f.rises y (suc (openings run)) (ended_other (by_jobs run) (suc (openings run)) y (ap end_place (unopened_projection (by_jobs run) wf (suc (openings run)) (omega (arith, openings_by_job run)))) e) (real_time here e))
        fits.highest_is

    open_accepted : Accepts top n s w opens
    open_accepted = (facts.job_is w ∙ j, omega (arith, new_above, new_within.1))

    open_fits : PlacesFit at (by w opens ∷ run) (view_after top n s w opens)
    open_fits = record {
      low_is = λ u a. grind (arith, new_above, fits.low_is, a);
      high_is = λ u a. grind (arith, new_within, fits.high_is, a);
      written_is = marks_later (by (suc (openings run)) opens);
      read_is = reads_later (by (suc (openings run)) opens);
      highest_is = highest_later (by (suc (openings run)) opens);
      flag_is = λ u c q. flag u c (eqb w u) refl q;
    }
      where
        flag : (u c : ℕ) (b : Bool) → eqb w u ≡ b → s.has_read u c ≡ true →
            (1 ≤ cond b (suc (openings run)) (open_job run u)) × ReadGlobally (by (suc (openings run)) opens ∷ by_jobs run) (cond b (suc (openings run)) (open_job run u)) c
        flag u c true e q = absurd (omega (arith, (fits.flag_is u c q).0, j, ap (open_job run) (eqb-true w u e)))
        flag u c false e q = flags_later (by (suc (openings run)) opens) u c q

  ---- read
  module _ (w c : ℕ) (v : V) (a : 1 ≤ open_job run w) (e : v ≡ cond (s.has_written w c) (s.own w c) (s.value c)) (f : RisingPlaces top at (by w (reads c v) ∷ run)) where
    written_below : s.has_written w c ≡ false → s.written c < at (open_job run w)
    written_below q =
        mark_below at _ (s.written c) (at (open_job run w)) (omega (arith, fits.low_is w a))
        (λ y k. f.rises y (open_job run w) (ended_other (by_jobs run) (open_job run w) y (open_now w a) (committed_ended k)) (committed_read here (not_flag w c a q) k))
        (fits.written_is c)

    read_accepted : Accepts top n s w (reads c v)
    read_accepted = (job_of_open w a, e, λ q. omega (arith, written_below q, fits.low_is w a, fits.high_is w a))

    read_fits : PlacesFit at (by w (reads c v) ∷ run) (view_after top n s w (reads c v))
    read_fits = record {
      low_is = λ u b. grind (arith, fits.low_is w a, fits.low_is u, written_below, b, eqb-true w u);
      high_is = fits.high_is;
      written_is = marks_later (by (open_job run w) (reads c v));
      read_is = reads_later (by (open_job run w) (reads c v));
      highest_is = highest_later (by (open_job run w) (reads c v));
      flag_is = λ u k q. flag u k (eqb w u) refl q;
    }
      where
        inner : (b : Bool) → s.has_written w c ≡ b → cond b (s.has_read w c) true ≡ true → (1 ≤ open_job run w) × ReadGlobally (by (open_job run w) (reads c v) ∷ by_jobs run) (open_job run w) c
        inner true q t = flags_later (by (open_job run w) (reads c v)) w c t
        inner false q t = (a, record { value = v; before = by_jobs run; occurs = here; unwritten = not_flag w c a q })

        at_cell : (k : ℕ) (b : Bool) → eqb c k ≡ b → cond b (cond (s.has_written w c) (s.has_read w c) true) (s.has_read w k) ≡ true →
            (1 ≤ open_job run w) × ReadGlobally (by (open_job run w) (reads c v) ∷ by_jobs run) (open_job run w) k
        at_cell k true q t = subst (λ z. (1 ≤ open_job run w) × ReadGlobally (by (open_job run w) (reads c v) ∷ by_jobs run) (open_job run w) z) (eqb-true c k q) (inner (s.has_written w c) refl t)
        at_cell k false q t = flags_later (by (open_job run w) (reads c v)) w k t

        flag : (u k : ℕ) (b : Bool) → eqb w u ≡ b → cond b (updated (s.has_read w) c (cond (s.has_written w c) (s.has_read w c) true)) (s.has_read u) k ≡ true →
            (1 ≤ open_job run u) × ReadGlobally (by (open_job run w) (reads c v) ∷ by_jobs run) (open_job run u) k
        flag u k true q t = subst (λ z. (1 ≤ open_job run z) × ReadGlobally (by (open_job run w) (reads c v) ∷ by_jobs run) (open_job run z) k) (eqb-true w u q) (at_cell k (eqb c k) refl t)
        flag u k false q t = flags_later (by (open_job run w) (reads c v)) u k t

  ---- write
  module _ (w c : ℕ) (v : V) (a : 1 ≤ open_job run w) (l : 1 ≤ c) (u : c ≤ n) where
    write_accepted : Accepts top n s w (writes c v)
    write_accepted = (job_of_open w a, l, u)

    write_fits : PlacesFit at (by w (writes c v) ∷ run) (view_after top n s w (writes c v))
    write_fits = record {
      low_is = fits.low_is;
      high_is = fits.high_is;
      written_is = marks_later (by (open_job run w) (writes c v));
      read_is = reads_later (by (open_job run w) (writes c v));
      highest_is = highest_later (by (open_job run w) (writes c v));
      flag_is = flags_later (by (open_job run w) (writes c v));
    }

  ---- what both endings leave
  module _ (w : ℕ) (a : 1 ≤ open_job run w) (event : Event V V ℕ) (en : Ended (event ∷ by_jobs run) (open_job run w)) where
    ended_low : (u : ℕ) (b : Bool) → 1 ≤ cond b 0 (open_job run u) → cond b 0 (s.low u) < at (cond b 0 (open_job run u))
    ended_low u b l = grind (arith, fits.low_is, l)

    ended_reads : (c : ℕ) (b : Bool) → s.has_read w c ≡ b →
        Mark at (λ y. ReadGlobally (event ∷ by_jobs run) y c × Ended (event ∷ by_jobs run) y) (cond b (max (s.read c) (at (open_job run w))) (s.read c))
    ended_reads c true e = mark_max at _ (s.read c) (open_job run w) ((flags_later event w c e).1, en) (reads_later event c)
    ended_reads c false e = reads_later event c

    ended_highest : Mark at (λ y. Ended (event ∷ by_jobs run) y) (max s.highest (at (open_job run w)))
    ended_highest = mark_max at _ s.highest (open_job run w) en (highest_later event)

    ended_flags : (u c : ℕ) (b : Bool) → cond b (λ c. false) (s.has_read u) c ≡ true → (1 ≤ cond b 0 (open_job run u)) × ReadGlobally (event ∷ by_jobs run) (cond b 0 (open_job run u)) c
    ended_flags u c true q = absurd (both_ways false refl q)
    ended_flags u c false q = flags_later event u c q

  ---- commit
  module _ (w : ℕ) (a : 1 ≤ open_job run w) (f : RisingPlaces top at (by w (commits (at (open_job run w))) ∷ run)) where
    wrote : (c : ℕ) → s.has_written w c ≡ true → Wrote (by_jobs run) (open_job run w) c
    wrote c q = written_when_flag top n first run s facts w c a q

    other : (y : ℕ) → Ended (by_jobs run) y → y ≡ open_job run w → ⊥
    other y en = ended_other (by_jobs run) (open_job run w) y (open_now w a) en

    low_one : 1 ≤ at (open_job run w)
    low_one = omega (arith, fits.low_is w a)

    cell_below : (c : ℕ) → s.has_written w c ≡ true → (s.written c < at (open_job run w)) × (s.read c < at (open_job run w))
    cell_below c q = (
      mark_below at _ (s.written c) (at (open_job run w)) low_one (λ y k. f.rises y (open_job run w) (other y (committed_ended k)) (committed_committed here (wrote c q) k)) (fits.written_is c),
      mark_below at _ (s.read c) (at (open_job run w)) low_one (λ y k. f.rises y (open_job run w) (other y k.1) (read_committed here (wrote c q) k.0)) (fits.read_is c),
    )

    reader_below : (u : ℕ) → (u ≡ w → ⊥) → conflicts s w u n ≡ true → at (open_job run u) < at (open_job run w)
    reader_below u ne q =
        let k = conflicts_to s w u n q in
        let r = fits.flag_is u k.0 k.1 in
        f.rises (open_job run u) (open_job run w) (λ e. ne (one_crew run u w r.0 e)) (read_committed here (wrote k.0 k.2) r.1)

    commit_accepted : Accepts top n s w (commits (at (open_job run w)))
    commit_accepted = (job_of_open w a, fits.low_is w a, fits.high_is w a, cell_below, λ u ne b q. omega (arith, reader_below u ne q, fits.low_is u (rw (← facts.job_is u) b)))

    commit_fits : PlacesFit at (by w (commits (at (open_job run w))) ∷ run) (view_after top n s w (commits (at (open_job run w))))
    commit_fits = record {
      low_is = λ u l. ended_low w a event en u (eqb w u) l;
      high_is = λ u l. let ne : eqb w u ≡ false → u ≡ w → ⊥ = λ e q. eqb-false w u e (sym q) in grind (arith, fits.high_is u, reader_below u, l, ne);
      written_is = λ c. marked c (s.has_written w c) refl;
      read_is = λ c. ended_reads w a event en c (s.has_read w c) refl;
      highest_is = ended_highest w a event en;
      flag_is = λ u c q. ended_flags w a event en u c (eqb w u) q;
    }
      where
        event : Event V V ℕ
        event = by (open_job run w) (commits (at (open_job run w)))

        en : Ended (event ∷ by_jobs run) (open_job run w)
        en = record { place = at (open_job run w); before = by_jobs run; occurs = inl here }

        marked : (c : ℕ) (b : Bool) → s.has_written w c ≡ b → Mark at (λ y. CommittedCell (event ∷ by_jobs run) y c) (cond b (at (open_job run w)) (s.written c))
        marked c true q = inr (open_job run w, record { place = at (open_job run w); before = by_jobs run; occurs = here; wrote = wrote c q }, refl)
        marked c false q = marks_later event c

  ---- abandon
  module _ (w : ℕ) (a : 1 ≤ open_job run w) where
    abandon_accepted : Accepts top n s w (abandons (at (open_job run w)))
    abandon_accepted = (job_of_open w a, fits.low_is w a, fits.high_is w a)

    abandon_fits : PlacesFit at (by w (abandons (at (open_job run w))) ∷ run) (view_after top n s w (abandons (at (open_job run w))))
    abandon_fits = record {
      low_is = λ u l. ended_low w a event en u (eqb w u) l;
      high_is = λ u l. grind (arith, fits.high_is, l);
      written_is = marks_later event;
      read_is = λ c. ended_reads w a event en c (s.has_read w c) refl;
      highest_is = ended_highest w a event en;
      flag_is = λ u c q. ended_flags w a event en u c (eqb w u) q;
    }
      where
        event : Event V V ℕ
        event = by (open_job run w) (abandons (at (open_job run w)))

        en : Ended (event ∷ by_jobs run) (open_job run w)
        en = record { place = at (open_job run w); before = by_jobs run; occurs = inr here }

---- The whole list
module _ {V : Type 0} (top n m : ℕ) (first : ℕ → V) (own : ℕ → ℕ → V) (at : ℕ → ℕ) where
  record AcceptedSoFar (cs : Calls V) : Type 0 where
    accepted : AcceptedAt top n first own cs (positions at cs)
    fits : PlacesFit at accepted.run accepted.view

  alike : {cs : Calls V} (g : AcceptedSoFar cs) → Alike g.accepted.run cs
  alike g = subst (λ z. Alike g.accepted.run z) g.accepted.same_calls (calls_alike g.accepted.run)

  run_facts_of : {cs : Calls V} (g : AcceptedSoFar cs) → RunFacts top n first g.accepted.run g.accepted.view
  run_facts_of g = run_facts top n first own g.accepted.view_run

  has_open_job : {cs : Calls V} (g : AcceptedSoFar cs) (w : ℕ) → 1 ≤ open_job cs w → 1 ≤ open_job g.accepted.run w
  has_open_job g w a = rw (job_alike (alike g) w) a

  -- and one more call, with the answer that d has
  accepted_more : {cs : Calls V} (g : AcceptedSoFar cs) (w : ℕ) (d : Operation V V ℕ) → places_of (by w d ∷ g.accepted.run) ≡ positions at (by w (asked d) ∷ cs) →
      Accepts top n g.accepted.view w d → PlacesFit at (by w d ∷ g.accepted.run) (view_after top n g.accepted.view w d) → AcceptedSoFar (by w (asked d) ∷ cs)
  accepted_more g w d places ac fit = record {
    accepted = record {
      run = by w d ∷ g.accepted.run;
      view = view_after top n g.accepted.view w d;
      same_calls = ap (λ z. by w (asked d) ∷ z) g.accepted.same_calls;
      same_places = places;
      view_run = goes_on g.accepted.view_run ac;
    };
    fits = fit;
  }

  accepted_so_far : (cs : Calls V) → WellMade cs → InRange n m cs → RisingPlaces top at cs → AcceptedSoFar cs
  accepted_so_far [] wm r f = record {
    accepted = record { run = []; view = fresh_view first own; same_calls = refl; same_places = refl; view_run = starts };
    fits = record {
      low_is = λ w a. absurd (omega arith);
      high_is = λ w a. absurd (omega arith);
      written_is = λ c. inl refl;
      read_is = λ c. inl refl;
      highest_is = inl refl;
      flag_is = λ w c q. absurd (both_ways false refl q);
    };
  }
  accepted_so_far (by w opens ∷ cs) wm r f =
      let g = accepted_so_far cs wm.1 r.2 (rising_tail top at w opens cs f) in
      let s = g.accepted.view in
      let j = job_alike (alike g) w ∙ wm.0 in
      let k = rising_alike top at (more open_open (alike_sym (alike g))) f in
      accepted_more g w opens g.accepted.same_places (open_accepted top n first at g.accepted.run s (run_facts_of g) g.fits w j k) (open_fits top n first at g.accepted.run s (run_facts_of g) g.fits w j k)
  accepted_so_far (by w (reads c t) ∷ cs) wm r f =
      let g = accepted_so_far cs wm.1 r.2 (rising_tail top at w (reads c t) cs f) in
      let s = g.accepted.view in
      let v = cond (s.has_written w c) (s.own w c) (s.value c) in
      let a = has_open_job g w wm.0 in
      let k = rising_alike top at (more read_read (alike_sym (alike g))) f in
      accepted_more g w (reads c v) g.accepted.same_places (read_accepted top n first at g.accepted.run s (run_facts_of g) g.fits w c v a refl k) (read_fits top n first at g.accepted.run s (run_facts_of g) g.fits w c v a refl k)
  accepted_so_far (by w (writes c v) ∷ cs) wm r f =
      let g = accepted_so_far cs wm.1 r.2 (rising_tail top at w (writes c v) cs f) in
      let s = g.accepted.view in
      let a = has_open_job g w wm.0 in
      accepted_more g w (writes c v) g.accepted.same_places (write_accepted top n first at g.accepted.run s (run_facts_of g) g.fits w c v a r.1.0 r.1.1) (write_fits top n first at g.accepted.run s (run_facts_of g) g.fits w c v a r.1.0 r.1.1)
  accepted_so_far (by w (commits t) ∷ cs) wm r f =
      let g = accepted_so_far cs wm.1 r.2 (rising_tail top at w (commits t) cs f) in
      let s = g.accepted.view in
      let a = has_open_job g w wm.0 in
      let k = rising_alike top at (more commit_commit (alike_sym (alike g))) f in
      accepted_more g w (commits (at (open_job g.accepted.run w))) (ap₂ ◌∷◌ (ap at (job_alike (alike g) w)) g.accepted.same_places)
      (commit_accepted top n first at g.accepted.run s (run_facts_of g) g.fits w a k) (commit_fits top n first at g.accepted.run s (run_facts_of g) g.fits w a k)
  accepted_so_far (by w (abandons t) ∷ cs) wm r f =
      let g = accepted_so_far cs wm.1 r.2 (rising_tail top at w (abandons t) cs f) in
      let s = g.accepted.view in
      let a = has_open_job g w wm.0 in
      accepted_more g w (abandons (at (open_job g.accepted.run w))) (ap₂ ◌∷◌ (ap at (job_alike (alike g) w)) g.accepted.same_places)
      (abandon_accepted top n first at g.accepted.run s (run_facts_of g) g.fits w a) (abandon_fits top n first at g.accepted.run s (run_facts_of g) g.fits w a)

  pub rising_accepted : (cs : Calls V) → WellMade cs → InRange n m cs → RisingPlaces top at cs → AcceptedAt top n first own cs (positions at cs)
  rising_accepted cs wm r f = (accepted_so_far cs wm r f).accepted
