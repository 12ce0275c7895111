-- What holds at every moment of a run: the register is tied to a view that runs by the accepted calls, and its day book names the ended jobs.
use Rattle.std.proofs.Common.{◌≡◌, ℕ, ◌+◌, ◌-◌, ◌*◌, ◌≤◌, false, ltb, List, [], ◌∷◌, length, get_or, take, Some, None, Ok, Err, Option, Result, sym, refl, ap, ◌∙◌, subst, ap₂, arith}
use Rattle.std.proofs.lemmas.List.{get_or-replicate}
use Rattle.std.proofs.lemmas.Bool.{both_ways, ltb-false}
use Rattle.terms.specs.declared.numbers.Place.{Place}
use Rattle.terms.specs.declared.records.Ending.TheVariants.{Abandoned, Committed}
use Rattle.terms.specs.declared.records.Entry.{Entry}
use Rattle.terms.specs.declared.records.JobRecord.{JobRecord}
use Rattle.terms.specs.declared.refusals.Refusal.{Refusal}
use Rattle.terms.specs.declared.refusals.Refusal.TheVariants.{NoPlace, Stale}
use Rattle.choosers.specs.Meaning.{KeepsLaw, Meaning}
use Rattle.choosers.proofs.Moves.{moved_lawful}
use Rattle.history.specs.Events.{History, Operation, ends_at, open_job, openings}
use Rattle.history.specs.Events.Event.{by}
use Rattle.history.specs.Views.{Accepts, RegisterView, ViewRun, fresh_view, view_after}
use Rattle.history.specs.WellMade.{WellMade}
use Rattle.history.proofs.Viewing.{RunFacts, run_facts}
use Rattle.rules.specs.Contents.{closed_record}
use Rattle.rules.specs.JobCalls.{Outcome, abandon_outcome, abandoned_at, accepted, commit_low, committed_at, crew_of, entry_of, open_outcome, outcome, read_cell, refused, tests_of, write_outcome}
use Rattle.rules.specs.Limits.{top}
use Rattle.rules.specs.Making.{JustStarted}
use Rattle.rules.specs.Performing.{Entered, Inserted, Performs, moved_if, with_book}
use Rattle.rules.specs.Registers.{Register, flag_of, high_of, is_open, job_number, low_of, own_of, record_of}
use Rattle.rules.specs.Tables.{at, read_flag, spot, written_flag}
use Rattle.rules.specs.declared.calls.Answer.{Answer}
use Rattle.rules.specs.declared.calls.Call.{Call}
use Rattle.rules.specs.declared.calls.Call.TheVariants.{Abandon, Commit, Open, Read, Write}
use Rattle.rules.proofs.Changing.{inside, spot_in}
use Rattle.guarantee.specs.Histories.{NumberedSo, operation, operation_of, operation_refused, with_operation}
use Rattle.guarantee.specs.Opacity.{Names, cell_values, day_book}
use Rattle.guarantee.proofs.Booked.{Booked, acting, booked_ended, booked_plain, names_abandon, names_commit}
use Rattle.guarantee.proofs.Counting.{none_busy}
use Rattle.guarantee.proofs.Passing.{NoneOf, Sized, Working, cell_passes, commit_by, free, outcome_by, read_by, sized, working}
use Rattle.guarantee.proofs.Started.{Fresh, fresh}
use Rattle.guarantee.proofs.Tied.{Tie, Tied, accepts_abandon, accepts_cell, accepts_commit, accepts_open, accepts_own}
use Rattle.guarantee.proofs.Tied.{accepts_write, job_tied, tie_abandon, tie_cell, tie_commit, tie_open, tie_own, tie_write}

pub record Inv {V : Type 0} (d : V) (s : Register V) (run : History V) (r : Register V) (f : Meaning) : Type 0 where
  pub view : RegisterView V
  pub went : ViewRun top r.head.sizes.cells (cell_values d s) (own_of d s) run view
  pub tie : Tie d r view
  pub booked : Booked run (day_book r)
  pub keeps : KeepsLaw f

-- what holds of the history and its view
pub facts_of : {V : Type 0} {d : V} {s : Register V} {run : History V} {r : Register V} {f : Meaning} (inv : Inv d s run r f) → RunFacts top r.head.sizes.cells (cell_values d s) run inv.view
facts_of {d = d} {s = s} {r = r} inv = run_facts top r.head.sizes.cells (cell_values d s) (own_of d s) inv.went

pub keeps_on : (f : Meaning) (q : Option (ℕ × ℕ)) → KeepsLaw f → KeepsLaw (moved_if f q)
keeps_on f None k = k
keeps_on f (Some q) k = moved_lawful f q.0 q.1 k

pub tie_book : {V : Type 0} (d : V) (r : Register V) (es : List Entry) (s : RegisterView V) → length es ≡ length r.tables.book → Tie d r s → Tie d (with_book r es) s
tie_book d r es s e t = record {
  value_is = t.value_is;
  written_is = t.written_is;
  read_is = t.read_is;
  job_is = t.job_is;
  crews = t.crews;
  own_is = t.own_is;
  reads_are = t.reads_are;
  writes_are = t.writes_are;
  highest_is = t.highest_is;
  opened_is = t.opened_is;
  active_is = t.active_is;
  under_top = t.under_top;
  fits = record { values = t.fits.values; written = t.fits.written; read = t.fits.read; jobs = t.fits.jobs; own = t.fits.own; flags = t.fits.flags; book = e ∙ t.fits.book };
}

---- At the start

none_tied : (j : JobRecord) → j ≡ closed_record → Tied (is_open j.standing) j 0 0 0
none_tied j e = rw e refl

pub start_tie : {V : Type 0} (d : V) (s : Register V) → JustStarted s.head s.tables → Tie d s (fresh_view (cell_values d s) (own_of d s))
start_tie d s started = record {
  value_is = λ c a b. refl;
  written_is = λ c a b. ap (λ (t : List ℕ). at t c 0) j.written_are ∙ get_or-replicate s.head.sizes.cells (c - 1) 0 0 (omega arith);
  read_is = λ c a b. ap (λ (t : List ℕ). at t c 0) j.read_are ∙ get_or-replicate s.head.sizes.cells (c - 1) 0 0 (omega arith);
  job_is = λ u a b. none_tied (record_of s u) (ap (λ (t : List JobRecord). at t u closed_record) j.jobs_are ∙ get_or-replicate s.head.sizes.crews (u - 1) closed_record closed_record (omega arith));
  crews = λ u a. absurd (omega arith);
  own_is = λ u c a b a' b'. refl;
  reads_are = λ u c a b a' b'. ap read_flag (zero_flag u c a b a' b');
  writes_are = λ u c a b a' b'. ap written_flag (zero_flag u c a b a' b');
  highest_is = sym j.highest_is;
  opened_is = omega (arith, j.ended_is, j.active_is);
  active_is = j.active_is ∙ none_busy s.head.sizes.crews;
  under_top = λ u. omega arith;
  fits = started.fits;
}
  where
    j : Fresh s
    j = fresh s started

    zero_flag : (u c : ℕ) → 1 ≤ u → u ≤ s.head.sizes.crews → 1 ≤ c → c ≤ s.head.sizes.cells → flag_of s u c ≡ 0
    zero_flag u c a b a' b' =
        ap (λ (t : List ℕ). get_or t (spot s.head.sizes.cells u c) 0) j.flags_are ∙ get_or-replicate (s.head.sizes.crews * s.head.sizes.cells) (spot s.head.sizes.cells u c) 0 0 (spot_in s.head.sizes.cells s.head.sizes.crews u c a b a' b')

pub at_start : {V : Type 0} (d : V) (s : Register V) (f : Meaning) → JustStarted s.head s.tables → KeepsLaw f → Inv d s [] s f
at_start d s f j k = record {
  view = fresh_view (cell_values d s) (own_of d s);
  went = ViewRun.starts;
  keeps = k;
  tie = start_tie d s j;
  booked = rw (fresh s j).ended_is (record { ascends = tt; entries = tt; distinct = tt; all = λ x e. absurd (both_ways false refl e) });
}

---- One call

module _ {V : Type 0} (d : V) (s : Register V) (run : History V) (r : Register V) (f : Meaning) (inv : Inv d s run r f) where
  abbrev Does : ℕ → Operation V V ℕ → Type 0
  Does w e = Accepts top r.head.sizes.cells inv.view w e

  well_made : (w : ℕ) (e : Operation V V ℕ) → Does w e → WellMade (by w e ∷ run)
  well_made w e ac = (run_facts top r.head.sizes.cells (cell_values d s) (own_of d s) (ViewRun.goes_on inv.went ac)).well_made

  -- an operation that ends no job
  plain_step : (w : ℕ) (e : Operation V V ℕ) (left : Register V) (bk : List Entry) → Does w e → ends_at e ≡ None → left.head.sizes.cells ≡ r.head.sizes.cells →
      left.head.ended ≡ r.head.ended → left.tables.book ≡ r.tables.book → bk ≡ r.tables.book →
      Tie d left (view_after top r.head.sizes.cells inv.view w e) → Inv d s (by w e ∷ run) (with_book left bk) f
  plain_step w e left bk ac q en ee el eb t = record {
    view = view_after top r.head.sizes.cells inv.view w e;
    went = subst (λ (n : ℕ). ViewRun top n (cell_values d s) (own_of d s) (by w e ∷ run) (view_after top r.head.sizes.cells inv.view w e)) (sym en) (ViewRun.goes_on inv.went ac);
    tie = tie_book d left bk (view_after top r.head.sizes.cells inv.view w e) (ap length (eb ∙ sym el)) t;
    booked = subst (Booked (by w e ∷ run)) (sym (ap₂ take ee eb)) (booked_plain run w e (well_made w e ac) q (day_book r) inv.booked);
    keeps = inv.keeps;
  }

  -- an operation that ends its job
  ended_step : (w : ℕ) (e : Operation V V ℕ) (left : Register V) (en : Entry) (q : ℕ × ℕ) (bk : List Entry) → Does w e → en.job.0 ≡ acting run w e →
      Names (by w e ∷ run) en → left.head.sizes.cells ≡ r.head.sizes.cells → left.head.ended ≡ r.head.ended + 1 → left.tables.book ≡ r.tables.book →
      Inserted r.head.ended en r.tables.book bk → Tie d left (view_after top r.head.sizes.cells inv.view w e) → Inv d s (by w e ∷ run) (with_book left bk) (moved_if f (Some q))
  ended_step w e left en q bk ac j n nn ee el i t = record {
    view = view_after top r.head.sizes.cells inv.view w e;
    went = subst (λ (n : ℕ). ViewRun top n (cell_values d s) (own_of d s) (by w e ∷ run) (view_after top r.head.sizes.cells inv.view w e)) (sym nn) (ViewRun.goes_on inv.went ac);
    tie = tie_book d left bk (view_after top r.head.sizes.cells inv.view w e) (i.same_length ∙ ap length (sym el)) t;
    booked = subst (Booked (by w e ∷ run)) (sym (ap (λ (k : ℕ). take k bk) ee ∙ i.is)) (booked_ended run w e (well_made w e ac) i.front i.back en j n (subst (Booked run) i.was inv.booked) i.in_place);
    keeps = keeps_on f (Some q) inv.keeps;
  }

  -- the outcome o of the call k keeps it all
  abbrev Reached : Call V → Outcome V → Type 0
  Reached k o =
      (bk : List Entry) → Entered r.head.ended o.entry r.tables.book bk → Inv d s (with_operation (crew_of k) (operation_of k o.answer) run) (with_book o.left bk) (moved_if f o.asked) × NumberedSo o.answer (openings run)

  reached_refused : (k : Call V) (e : Refusal) → operation_refused {V = V} e ≡ None → Reached k (refused e r)
  reached_refused k e q bk b = (rw q (subst (λ (es : List Entry). Inv d s run (with_book r es) f) (sym b) inv), tt)

  number_is : (w : ℕ) → Sized r w → Working r w → job_number r w ≡ open_job run w
  number_is w z k = sym (job_tied d r inv.view inv.tie w z k) ∙ (facts_of inv).view_facts.job_is w

  reached_abandon : (k : Call V) (say : Place → Result (Answer V) Refusal) → Sized r (crew_of k) → Working r (crew_of k) →
      ((p : ℕ) → operation_of k (say (record { 0 = p })) ≡ Some (Operation.abandons p)) → ((p j : ℕ) → NumberedSo (say (record { 0 = p })) j) → Reached k (abandon_outcome (f []) r (crew_of k) say)
  reached_abandon k say z wk operation num bk i =
      (rw (operation p) (ended_step w (Operation.abandons p) (abandoned_at r w say p).left (entry_of r w p Abandoned) (low_of r w, high_of r w) bk ac (number_is w z wk) names refl refl refl i (tie_abandon d r inv.view inv.tie w z p say wk)), num p (openings run))
    where
      w : ℕ
      w = crew_of k

      p : ℕ
      p = f [] (low_of r w) (high_of r w)

      ac : Does w (Operation.abandons p)
      ac = let b = inv.keeps.between [] (low_of r w) (high_of r w) wk.room in accepts_abandon d r inv.view inv.tie w z p wk b.0 b.1

      names : Names (by w (Operation.abandons p) ∷ run) (entry_of r w p Abandoned)
      names =
          subst
          (λ (x : ℕ). Names (by w (Operation.abandons p) ∷ run) (record { job = record { 0 = x }; crew = record { 0 = w }; place = record { 0 = p }; ending = Abandoned }))
          (sym (number_is w z wk)) (names_abandon run w p (well_made w (Operation.abandons p) ac))

  reached_commit : (w : _) → Sized r (crew_of {V = V} (Commit w)) → Working r (crew_of {V = V} (Commit w)) → ltb (high_of r w.0) (commit_low r w.0 + 2) ≡ false →
      Reached (Commit w) (committed_at d r w.0 (f [] (commit_low r w.0) (high_of r w.0)))
  reached_commit u z wk l bk i =
      (ended_step w (Operation.commits p) (committed_at d r w p).left (entry_of r w p Committed) (commit_low r w, high_of r w) bk ac (number_is w z wk) names refl refl refl i (tie_commit d r inv.view inv.tie w z p wk), tt)
    where
      w : ℕ
      w = u.0

      p : ℕ
      p = f [] (commit_low r w) (high_of r w)

      ac : Does w (Operation.commits p)
      ac =
          let b = inv.keeps.between [] (commit_low r w) (high_of r w) (ltb-false (high_of r w) (commit_low r w + 2) l) in
          accepts_commit d r inv.view inv.tie w z p wk b.0 b.1 ((facts_of inv).view_facts.range w)

      names : Names (by w (Operation.commits p) ∷ run) (entry_of r w p Committed)
      names =
          subst
          (λ (x : ℕ). Names (by w (Operation.commits p) ∷ run) (record { job = record { 0 = x }; crew = record { 0 = w }; place = record { 0 = p }; ending = Committed }))
          (sym (number_is w z wk)) (names_commit run w p (well_made w (Operation.commits p) ac))

  reached : (k : Call V) → NoneOf (tests_of r k) → Reached k (accepted d (f []) r k)
  reached (Open w) ns =
      let z = sized r (Open w) ns in λ bk b. (
        plain_step w.0 Operation.opens (open_outcome r w.0).left bk (accepts_open d r inv.view inv.tie w.0 z (free r w ns).no_job (free r w ns).places_left) refl refl refl refl b (tie_open d r inv.view inv.tie w.0 z (free r w ns).no_job),
        omega (arith, inv.tie.opened_is, (facts_of inv).view_facts.opened_is),
      )
  reached (Read w c) ns =
      read_by (Reached (Read w c)) d (f []) r w.0 c.0
      (λ e bk b. (plain_step w.0 (Operation.reads c.0 (own_of d r w.0 c.0)) r bk (accepts_own d r inv.view inv.tie w.0 z c.0 wk i.0 i.1 e) refl refl refl refl b (tie_own d r inv.view inv.tie w.0 z c.0 (own_of d r w.0 c.0) i.0 i.1 e), tt))
      (λ e l. reached_abandon (Read w c) (λ p. Err (Stale p)) z wk (λ p. refl) (λ p j. tt))
      (λ e l bk b. (plain_step w.0 (Operation.reads c.0 (at r.tables.values c.0 d)) (read_cell d r w.0 c.0).left bk (accepts_cell d r inv.view inv.tie w.0 z c.0 wk i.0 i.1 e l) refl refl refl refl b (tie_cell d r inv.view inv.tie w.0 z c.0 (at r.tables.values c.0 d) wk i.0 i.1 e), tt))
    where
      z : Sized r w.0
      z = sized r (Read w c) ns

      i : (1 ≤ c.0) × (c.0 ≤ r.head.sizes.cells)
      i = inside r.head.sizes.cells c.0 (cell_passes r (Read w c) ns)

      wk : Working r w.0
      wk = working r (Read w c) refl ns
  reached (Write w c v) ns =
      let z = sized r (Write w c v) ns in
      let i = inside r.head.sizes.cells c.0 (cell_passes r (Write w c v) ns) in
      let wk = working r (Write w c v) refl ns in λ bk b.
      (plain_step w.0 (Operation.writes c.0 v) (write_outcome r w.0 c.0 v).left bk (accepts_write d r inv.view inv.tie w.0 z c.0 v wk i.0 i.1) refl refl refl refl b (tie_write d r inv.view inv.tie w.0 z c.0 v i.0 i.1), tt)
  reached (Commit w) ns =
      let z = sized r (Commit w) ns in
      let wk = working r (Commit w) refl ns in
      commit_by (Reached (Commit w)) d (f []) r w.0 (λ l. reached_abandon (Commit w) (λ p. Err (NoPlace p)) z wk (λ p. refl) (λ p j. tt)) (λ l. reached_commit w z wk l)
  reached (Abandon w) ns =
      let z = sized r (Abandon w) ns in
      let wk = working r (Abandon w) refl ns in
      reached_abandon (Abandon w) (λ p. Ok (Answer.Ended p)) z wk (λ p. refl) (λ p j. tt)

  reached_outcome : (k : Call V) → Reached k (outcome d (f []) r k)
  reached_outcome k = outcome_by (Reached k) d (f []) r k (reached_refused k) (reached k)

  pub performed : (k : Call V) (a : Result (Answer V) Refusal) (r' : Register V) (f' : Meaning) → Performs d r f k a r' f' →
      Inv d s (with_operation (crew_of k) (operation_of k a) run) r' f' × NumberedSo a (openings run)
  performed k a r' f' p = (
    subst (λ (x : Register V). Inv d s (with_operation (crew_of k) (operation_of k a) run) x f') (sym p.leaves)
        (subst (λ (x : Meaning). Inv d s (with_operation (crew_of k) (operation_of k a) run) (with_book o.left r'.tables.book) x) (sym p.asks)
        (subst (λ (x : Result (Answer V) Refusal). Inv d s (with_operation (crew_of k) (operation_of k x) run) (with_book o.left r'.tables.book) (moved_if f o.asked)) (sym p.answers) g.0)),
    subst (λ (x : Result (Answer V) Refusal). NumberedSo x (openings run)) (sym p.answers) g.1,
  )
    where
      o : Outcome V
      o = outcome d (f []) r k

      g : Inv d s (with_operation (crew_of k) (operation_of k o.answer) run) (with_book o.left r'.tables.book) (moved_if f o.asked) × NumberedSo o.answer (openings run)
      g = reached_outcome k r'.tables.book p.enters
