-- A register that asks a chooser for its places: what it accepts has an order, and what has an order it accepts with a script.
use Rattle.std.proofs.Common.{◌≡◌, ℕ, zero, suc, ◌+◌, ◌<◌, ◌≤◌, max, true, not, ◌&&◌, eqb, leb, ◌↔◌, List, [], ◌∷◌, reverse, sym, refl, ap, subst, arith}
use mathlib.Core.List.{reverse_aux}
use Rattle.std.proofs.lemmas.Bool.{eqb-true, eqb-false, ne_eqb, leb-true, le-leb, le-ltb, lt-ltb, and_parts, not-true, cases_eq, cond_both}
use Rattle.std.proofs.Math.Logic.{⊎_elim}
use Rattle.choosers.specs.Meaning.{Meaning, KeepsLaw, moved_on}
use Rattle.choosers.specs.Script.{script_meaning}
use Rattle.choosers.specs.Lawful.{script_lawful}
use Rattle.choosers.proofs.Moves.{moved_lawful, moved_with_room}
use Rattle.history.specs.Events.{Operation, Events, History, openings, open_job, by_jobs}
use Rattle.history.specs.Events.Operation.{opens, reads, writes, commits, abandons}
use Rattle.history.specs.Events.Event.{by}
use Rattle.history.specs.Precedence.{SerializationOrder}
use Rattle.history.specs.WellMade.{Calls, UpTo, InRange, WellMadeList}
use Rattle.history.specs.Views.{RegisterView, conflicts, Accepts, view_after, ViewRun}
use Rattle.history.specs.Acceptance.{places_of, position, positions, cells_lower_bound, is_open_reader, readers_lower_bound, commit_lower_bound, Sizes, AtWork, AcceptsWith, meaning_after, RunWith, AcceptedWith}
use Rattle.history.proofs.Crews.{openings_tail}
use Rattle.history.proofs.Viewing.{RunFacts, run_facts}
use Rattle.history.proofs.Alike.{Alike, alike_sym, openings_alike, range_alike, calls_alike}
use Rattle.history.proofs.Permissiveness.{positions_accepted, accepted_has_order}

-- a number of the script that lies between the bounds is given, and used up
script_gives : (k : ℕ) (ks : List ℕ) (low high : ℕ) → low < k → k < high → script_meaning (k ∷ ks) [] low high ≡ k
script_gives k ks low high l u = rw (le-ltb high (low + 2) (omega arith), lt-ltb low k l, lt-ltb k high u) refl

script_left : (k : ℕ) (ks : List ℕ) (low high : ℕ) → low < k → k < high → moved_on (script_meaning (k ∷ ks)) low high ≡ script_meaning ks
script_left k ks low high l u = sym (moved_with_room (k ∷ ks) low high (le-ltb high (low + 2) (omega arith)))

---- The low bound that a commit asks for is above each of its parts, and below what is above all of them
module _ {V : Type 0} (n : ℕ) (s : RegisterView V) (w : ℕ) where
  reader_yes : (u : ℕ) → (u ≡ w → ⊥) → 1 ≤ s.job u → conflicts s w u n ≡ true → is_open_reader n s w u ≡ true
  reader_yes u ne j q = rw (ne_eqb u w ne, le-leb 1 (s.job u) j) q

  reader_parts : (u : ℕ) → is_open_reader n s w u ≡ true → (u ≡ w → ⊥) × (1 ≤ s.job u) × (conflicts s w u n ≡ true)
  reader_parts u q =
      let k = and_parts (not (eqb u w)) (leb 1 (s.job u) && conflicts s w u n) q in
      let i = and_parts (leb 1 (s.job u)) (conflicts s w u n) k.1 in
      (eqb-false u w (not-true (eqb u w) k.0), leb-true 1 (s.job u) i.0, i.1)

  cell_below_bound : (n c : ℕ) → 1 ≤ c → c ≤ n → s.has_written w c ≡ true → (s.written c ≤ cells_lower_bound s w n) × (s.read c ≤ cells_lower_bound s w n)
  cell_below_bound zero c l u q = absurd (omega arith)
  cell_below_bound (suc n) c l u q = ⊎_elim (λ e. rw (← e, q) (omega arith, omega arith))
      (λ e. let k = cell_below_bound n c l (omega (arith, e)) q in (omega arith, omega arith)) (cases_eq c (suc n))

  reader_below_bound : (m u : ℕ) → 1 ≤ u → u ≤ m → is_open_reader n s w u ≡ true → s.low u + 1 ≤ readers_lower_bound n s w m
  reader_below_bound zero u l k q = absurd (omega arith)
  reader_below_bound (suc m) u l k q = ⊎_elim (λ (e : u ≡ suc m). let f : is_open_reader n s w (suc m) ≡ true = rw (← e) q in rw f (omega (arith, ap s.low e)))
      (λ e. omega (arith, reader_below_bound m u l (omega (arith, e)) q)) (cases_eq u (suc m))

  cells_bound_below : (p n : ℕ) → 1 ≤ p → ((c : ℕ) → s.has_written w c ≡ true → (s.written c < p) × (s.read c < p)) → cells_lower_bound s w n < p
  cells_bound_below p zero l f = l
  cells_bound_below p (suc n) l f =
      let ih = cells_bound_below p n l f in
      cond_both (s.has_written w (suc n)) _ _ (λ k. max k (cells_lower_bound s w n) < p) (λ e. omega (arith, f (suc n) e, ih)) (λ _. omega (arith, ih))

  readers_bound_below : (p m : ℕ) → 1 ≤ p → ((u : ℕ) → (u ≡ w → ⊥) → 1 ≤ s.job u → conflicts s w u n ≡ true → s.low u + 1 < p) → readers_lower_bound n s w m < p
  readers_bound_below p zero l f = l
  readers_bound_below p (suc m) l f =
      let ih = readers_bound_below p m l f in
      cond_both (is_open_reader n s w (suc m)) _ _ (λ k. max k (readers_lower_bound n s w m) < p)
      (λ e. let k = reader_parts (suc m) e in omega (arith, f (suc m) k.0 k.1 k.2, ih)) (λ _. omega (arith, ih))

---- A crew with an open job is in range
job_range : {V R P : Type 0} (n m : ℕ) (run : Events V R P) → InRange n m run → (u : ℕ) → 1 ≤ open_job run u → UpTo m u
job_range n m [] r u a = absurd (omega arith)
job_range n m (by w o ∷ run) r u a = let ih = job_range n m run r.2 u in grind (arith, a, ih, r.0, eqb-true w u)

module _ {V : Type 0} (z : Sizes) (first : ℕ → V) (own : ℕ → ℕ → V) where
  ---- What is accepted with a chooser is accepted at the places that it gave
  module _ (f : Meaning) (law : KeepsLaw f) where
    with_accepts : (run : History V) (s : RegisterView V) → RunFacts z.top z.cells first run s → InRange z.cells z.crews run → (w : ℕ) (d : Operation V V ℕ) →
        AcceptsWith f z s w d → Accepts z.top z.cells s w d
    with_accepts run s holds r w opens sv = (sv.1, sv.2)
    with_accepts run s holds r w (reads c v) sv = (sv.0.a_job, sv.2, sv.3)
    with_accepts run s holds r w (writes c v) sv = (sv.0.a_job, sv.1.0, sv.1.1)
    with_accepts run s holds r w (commits p) sv = (sv.0.a_job, omega arith, omega arith, cells, crews)
      where
        between : (commit_lower_bound z.cells z.crews s w < p) × (p < s.high w)
        between = rw sv.2 (law.between [] (commit_lower_bound z.cells z.crews s w) (s.high w) sv.1)

        cells : (c : ℕ) → s.has_written w c ≡ true → (s.written c < p) × (s.read c < p)
        cells c q = let i = holds.view_facts.range w c q in let f = cell_below_bound z.cells s w z.cells c i.0 i.1 q in let b = between in (omega arith, omega arith)

        crews : (u : ℕ) → (u ≡ w → ⊥) → 1 ≤ s.job u → conflicts s w u z.cells ≡ true → s.low u + 1 < p
        crews u ne j q =
            let i = job_range z.cells z.crews run r u (rw (← holds.view_facts.job_is u) j) in
            let f = reader_below_bound z.cells s w z.crews u i.0 i.1 (reader_yes z.cells s w u ne j q) in
            let b = between in
            omega arith
    with_accepts run s holds r w (abandons p) sv = let b = law.between [] (s.low w) (s.high w) sv.0.room in (sv.0.a_job, rw sv.1 b.0, rw sv.1 b.1)

    with_in_range : (run : History V) (s : RegisterView V) → InRange z.cells z.crews run → (w : ℕ) (d : Operation V V ℕ) → AcceptsWith f z s w d → InRange z.cells z.crews (by w d ∷ run)
    with_in_range run s r w opens sv = (sv.0, tt, r)
    with_in_range run s r w (reads c v) sv = (sv.0.a_crew, sv.1, r)
    with_in_range run s r w (writes c v) sv = (sv.0.a_crew, sv.1, r)
    with_in_range run s r w (commits p) sv = (sv.0.a_crew, tt, r)
    with_in_range run s r w (abandons p) sv = (sv.0.a_crew, tt, r)

    after_lawful : (s : RegisterView V) (w : ℕ) (d : Operation V V ℕ) → KeepsLaw (meaning_after f z s w d)
    after_lawful s w opens = law
    after_lawful s w (reads c v) = law
    after_lawful s w (writes c v) = law
    after_lawful s w (commits p) = moved_lawful f (commit_lower_bound z.cells z.crews s w) (s.high w) law
    after_lawful s w (abandons p) = moved_lawful f (s.low w) (s.high w) law

  module _ (f₀ : Meaning) (law : KeepsLaw f₀) where
    run_lawful : {run : History V} {s : RegisterView V} {f : Meaning} → RunWith f₀ z first own run s f → KeepsLaw f
    run_lawful RunWith.starts = law
    run_lawful (RunWith.goes_on {s = s} {f = f} {w = w} {o = d} g sv) = after_lawful f (run_lawful g) s w d

    pub run_with_view_run : {run : History V} {s : RegisterView V} {f : Meaning} → RunWith f₀ z first own run s f → ViewRun z.top z.cells first own run s × InRange z.cells z.crews run
    run_with_view_run RunWith.starts = (ViewRun.starts, tt)
    run_with_view_run (RunWith.goes_on {run = run} {s = s} {f = f} {w = w} {o = d} g sv) =
        let i = run_with_view_run g in
        let l = run_lawful g in
        (ViewRun.goes_on i.0 (with_accepts f l run s (run_facts z.top z.cells first own i.0) i.1 w d sv), with_in_range f l run s i.1 w d sv)

    pub chosen_has_order : (cs : Calls V) → 2 ≤ z.top → AcceptedWith f₀ z first own cs → (row : List ℕ) × SerializationOrder (by_jobs cs) row
    chosen_has_order cs t a = accepted_has_order first own z.top z.cells cs (places_of a.run) t
        (record { run = a.run; view = a.view; same_calls = a.same_calls; same_places = refl; view_run = (run_with_view_run a.run_with).0 })

  ---- What is accepted at given places is accepted with the script of them
  high_step : (s : RegisterView V) → ((u : ℕ) → s.high u ≤ z.top) → (w : ℕ) (d : Operation V V ℕ) (u : ℕ) → (view_after z.top z.cells s w d).high u ≤ z.top
  high_step s f w d u = grind (arith, f u)

  high_below : {run : History V} {s : RegisterView V} → ViewRun z.top z.cells first own run s → (u : ℕ) → s.high u ≤ z.top
  high_below ViewRun.starts u = omega arith
  high_below (ViewRun.goes_on {s = s} {w = w} {o = d} g ac) u = high_step s (high_below g) w d u

  abbrev ByScript : History V → RegisterView V → Type 0
  ByScript run s = (qs : List ℕ) → RunWith (script_meaning (reverse_aux (places_of run) qs)) z first own run s (script_meaning qs)

  at_work : (run : History V) (s : RegisterView V) → RunFacts z.top z.cells first run s → ((u : ℕ) → s.high u ≤ z.top) → (w : ℕ) → UpTo z.crews w → 1 ≤ s.job w → AtWork z s w
  at_work run s holds hb w c j = record { a_crew = c; a_job = j; room = holds.view_facts.room w (rw (← holds.view_facts.job_is w) j); below_top = hb w }

  accepts_by_script : (run : History V) (s : RegisterView V) → RunFacts z.top z.cells first run s → ((u : ℕ) → s.high u ≤ z.top) → (w : ℕ) (d : Operation V V ℕ) →
      Accepts z.top z.cells s w d → InRange z.cells z.crews (by w d ∷ run) → openings (by w d ∷ run) ≤ z.entries → ByScript run s →
      ByScript (by w d ∷ run) (view_after z.top z.cells s w d)
  accepts_by_script run s holds hb w opens ac r f ih qs = RunWith.goes_on (ih qs) (r.0, ac.0, ac.1, rw holds.view_facts.opened_is f)
  accepts_by_script run s holds hb w (reads c v) ac r f ih qs = RunWith.goes_on (ih qs) (at_work run s holds hb w r.0 ac.0, r.1, ac.1, ac.2)
  accepts_by_script run s holds hb w (writes c v) ac r f ih qs = RunWith.goes_on (ih qs) (at_work run s holds hb w r.0 ac.0, r.1)
  accepts_by_script run s holds hb w (commits p) ac r f ih qs =
      let cells = cells_bound_below z.cells s w p z.cells (omega (arith, ac.1)) ac.3 in
      let readers = readers_bound_below z.cells s w p z.crews (omega (arith, ac.1)) ac.4 in
      let l : commit_lower_bound z.cells z.crews s w < p = omega (arith, ac.1, cells, readers) in
      subst (λ f. RunWith (script_meaning (reverse_aux (places_of run) (p ∷ qs))) z first own (by w (commits p) ∷ run) (view_after z.top z.cells s w (commits p)) f)
      (script_left p qs (commit_lower_bound z.cells z.crews s w) (s.high w) l ac.2)
      (RunWith.goes_on (ih (p ∷ qs)) (at_work run s holds hb w r.0 ac.0, omega (arith, l, ac.2), sym (script_gives p qs (commit_lower_bound z.cells z.crews s w) (s.high w) l ac.2)))
  accepts_by_script run s holds hb w (abandons p) ac r f ih qs =
      subst (λ f. RunWith (script_meaning (reverse_aux (places_of run) (p ∷ qs))) z first own (by w (abandons p) ∷ run) (view_after z.top z.cells s w (abandons p)) f)
      (script_left p qs (s.low w) (s.high w) ac.1 ac.2)
      (RunWith.goes_on (ih (p ∷ qs)) (at_work run s holds hb w r.0 ac.0, sym (script_gives p qs (s.low w) (s.high w) ac.1 ac.2)))

  range_tail : (w : ℕ) (d : Operation V V ℕ) (run : History V) → InRange z.cells z.crews (by w d ∷ run) → InRange z.cells z.crews run
  range_tail w d run r = r.2

  view_run_by_script : {run : History V} {s : RegisterView V} → ViewRun z.top z.cells first own run s → InRange z.cells z.crews run → openings run ≤ z.entries → ByScript run s
  view_run_by_script ViewRun.starts r f = λ qs. RunWith.starts
  view_run_by_script (ViewRun.goes_on {run = run} {s = s} {w = w} {o = d} g ac) r f =
      accepts_by_script run s (run_facts z.top z.cells first own g) (high_below g) w d ac r f (view_run_by_script g (range_tail w d run r) (omega (arith, openings_tail w d run, f)))

  pub positions_script : (cs : Calls V) → z.entries + 2 ≤ z.top → WellMadeList z.cells z.crews z.entries cs → (row : List ℕ) →
      SerializationOrder (by_jobs cs) row → AcceptedWith (script_meaning (reverse (positions (position row) cs))) z first own cs
  positions_script cs t wl row l =
      let a = positions_accepted first own z.top z.cells z.crews z.entries cs t wl row l in
      let k = subst (λ y. Alike a.run y) a.same_calls (calls_alike a.run) in
      record {
        run = a.run;
        view = a.view;
        meaning = script_meaning [];
        same_calls = a.same_calls;
        run_with = subst (λ ps. RunWith (script_meaning (reverse ps)) z first own a.run a.view (script_meaning [])) a.same_places
            (view_run_by_script a.view_run (range_alike z.cells z.crews (alike_sym k) wl.in_range) (rw (openings_alike k) wl.entries_suffice) []);
      }

pub scripts_permissive : {V : Type 0} (first : ℕ → V) (own : ℕ → ℕ → V) (z : Sizes) (cs : Calls V) → z.entries + 2 ≤ z.top → WellMadeList z.cells z.crews z.entries cs →
    ((row : List ℕ) × SerializationOrder (by_jobs cs) row) ↔ ((numbers : List ℕ) × AcceptedWith (script_meaning numbers) z first own cs)
scripts_permissive first own z cs t wl = (
  (λ l. (reverse (positions (position l.0) cs), positions_script z first own cs t wl l.0 l.1)),
  (λ a. chosen_has_order z first own (script_meaning a.0) (script_lawful a.0) cs (omega arith) a.1),
)
