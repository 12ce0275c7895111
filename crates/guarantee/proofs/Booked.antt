-- The day book against the history: it names just the ended jobs, in ascending places.
use Rattle.std.proofs.Common.{◌≡◌, ℕ, suc, Bool, true, false, cond, eqb, List, [], ◌∷◌, ◌++◌, is_some, Some, None, sym, refl, ap, ◌∙◌, arith}
use Rattle.std.proofs.Math.Logic.{⊎_elim}
use Rattle.std.proofs.lemmas.Bool.{eqb-true, eq-eqb, ne_eqb, both_ways, cond_both}
use Rattle.std.proofs.lemmas.Option.{none-some}
use Rattle.terms.specs.declared.records.Ending.TheVariants.{Abandoned, Committed}
use Rattle.terms.specs.declared.records.Entry.{Entry}
use Rattle.history.specs.Events.{History, Operation, by_jobs, crew_of, ends_at, is_opening, open_job, openings}
use Rattle.history.specs.Events.Event.{by}
use Rattle.history.specs.Events.Operation.{abandons, commits}
use Rattle.history.specs.Precedence.{In}
use Rattle.history.specs.Projections.{end_place, is_committed, projection}
use Rattle.history.specs.WellMade.{WellMade}
use Rattle.history.proofs.Crews.{crew_of_open_job, open_job_active, well_formed}
use Rattle.history.proofs.Moments.{active_uncommitted}
use Rattle.history.proofs.Rows.{Distinct, in_nil, in_one}
use Rattle.history.proofs.Tracking.{acting_unplaced}
use Rattle.rules.specs.Performing.{All, Ascending, NotAbove}
use Rattle.guarantee.specs.Opacity.{Names, has_ended, order_of}
use Rattle.guarantee.proofs.Orders.{all_map, all_mid, ascending_mid, distinct_mid, in_either, in_mid_here, in_mid_keeps, order_of_append, order_of_mid}

pub record Booked {V : Type 0} (run : History V) (es : List Entry) : Type 0 where
  pub ascends : Ascending es
  pub entries : All (Names run) es
  pub distinct : Distinct (order_of es)
  pub all : (x : ℕ) → has_ended (by_jobs run) x ≡ true → In x (order_of es)

module _ {V : Type 0} where
  pub only_ended : (run : History V) (es : List Entry) → All (Names run) es → (x : ℕ) → In x (order_of es) → has_ended (by_jobs run) x ≡ true
  only_ended run [] a x i = absurd (in_nil x i)
  only_ended run (e ∷ es) a x i = ⊎_elim (only_ended run es a.1 x) (λ j. rw (in_one x e.job.0 j) (ap is_some a.0.place_is)) (in_either x (order_of es) (e.job.0 ∷ []) i)

  -- the job that acts: by_jobs (by w d ∷ run) is by (acting run w d) d ∷ by_jobs run
  abbrev pub acting : History V → ℕ → Operation V V ℕ → ℕ
  acting run w d = cond (is_opening d) (suc (openings run)) (open_job run w)

  acting_none : (run : History V) (w : ℕ) (d : Operation V V ℕ) → WellMade (by w d ∷ run) → end_place (projection (by_jobs run) (acting run w d)) ≡ None
  acting_none run w d wm = acting_unplaced (by_jobs run) (acting run w d) d (well_formed (by w d ∷ run) wm)

  module _ (run : History V) (w : ℕ) (d : Operation V V ℕ) (wm : WellMade (by w d ∷ run)) where
    not_acting : (y p : ℕ) → end_place (projection (by_jobs run) y) ≡ Some p → acting run w d ≡ y → ⊥
    not_acting y p e q = none-some p (sym (acting_none run w d wm) ∙ (ap (λ (x : ℕ). end_place (projection (by_jobs run) x)) q ∙ e))

    projection_still : (y p : ℕ) → end_place (projection (by_jobs run) y) ≡ Some p → projection (by_jobs (by w d ∷ run)) y ≡ projection (by_jobs run) y
    projection_still y p e = rw (ne_eqb (acting run w d) y (not_acting y p e))

  crew_still : (run : History V) (w : ℕ) (d : Operation V V ℕ) (y : ℕ) → (acting run w d ≡ y → ⊥) → crew_of (by w d ∷ run) y ≡ crew_of run y
  crew_still run w d y n = grind (arith, n, eqb-true (suc (openings run)) y)

  names_still : (run : History V) (w : ℕ) (d : Operation V V ℕ) → WellMade (by w d ∷ run) → (e : Entry) → Names run e → Names (by w d ∷ run) e
  names_still run w d wm e n =
      let s = projection_still run w d wm e.job.0 e.place.0 n.place_is in
      record {
        crew_is = crew_still run w d e.job.0 (not_acting run w d wm e.job.0 e.place.0 n.place_is) ∙ n.crew_is;
        place_is = ap end_place s ∙ n.place_is;
        ending_is = ap is_committed s ∙ n.ending_is;
      }

  ---- an operation that ends no job

  ending_plain : (d : Operation V V ℕ) → ends_at d ≡ None → (s : List (Operation V V ℕ)) (b : Bool) → end_place (cond b (d ∷ s) s) ≡ end_place s
  ending_plain d q s b = cond_both b (d ∷ s) s (λ (t : List (Operation V V ℕ)). end_place t ≡ end_place s) (λ _. rw q refl) (λ _. refl)

  pub booked_plain : (run : History V) (w : ℕ) (d : Operation V V ℕ) → WellMade (by w d ∷ run) → ends_at d ≡ None → (es : List Entry) → Booked run es → Booked (by w d ∷ run) es
  booked_plain run w d wm q es k = record {
    ascends = k.ascends;
    entries = all_map (Names run) (Names (by w d ∷ run)) es (names_still run w d wm) k.entries;
    distinct = k.distinct;
    all = λ x e. k.all x (sym (ap is_some (ending_plain d q (projection (by_jobs run) x) (eqb (acting run w d) x))) ∙ e);
  }

  ---- an operation that ends its job

  pub names_commit : (run : History V) (w p : ℕ) → WellMade (by w (commits p) ∷ run) →
      Names (by w (commits p) ∷ run) (record { job = record { 0 = open_job run w }; crew = record { 0 = w }; place = record { 0 = p }; ending = Committed })
  names_commit run w p wm =
      record { crew_is = crew_of_open_job run w wm.0; place_is = rw (eq-eqb (open_job run w) (open_job run w) refl); ending_is = rw (eq-eqb (open_job run w) (open_job run w) refl) }

  pub names_abandon : (run : History V) (w p : ℕ) → WellMade (by w (abandons p) ∷ run) →
      Names (by w (abandons p) ∷ run) (record { job = record { 0 = open_job run w }; crew = record { 0 = w }; place = record { 0 = p }; ending = Abandoned })
  names_abandon run w p wm = record {
    crew_is = crew_of_open_job run w wm.0;
    place_is = rw (eq-eqb (open_job run w) (open_job run w) refl);
    ending_is = rw (eq-eqb (open_job run w) (open_job run w) refl) (active_uncommitted (by_jobs run) (well_formed run wm.1) (open_job run w) (open_job_active run w wm.0));
  }

  pub booked_ended : (run : History V) (w : ℕ) (d : Operation V V ℕ) → WellMade (by w d ∷ run) → (front back : List Entry) (e : Entry) → e.job.0 ≡ acting run w d → Names (by w d ∷ run) e →
      Booked run (front ++ back) → (Ascending (front ++ back) → All (λ f. NotAbove f e) front × All (NotAbove e) back) → Booked (by w d ∷ run) (front ++ (e ∷ back))
  booked_ended run w d wm front back e j n k pl = record {
    ascends = ascending_mid e front back k.ascends (pl k.ascends).0 (pl k.ascends).1;
    entries = all_mid (Names (by w d ∷ run)) e front back n (all_map (Names run) (Names (by w d ∷ run)) (front ++ back) (names_still run w d wm) k.entries);
    distinct = rw (order_of_mid front back e) (distinct_mid e.job.0 (order_of back) (order_of front) (rw (order_of_append front back) at k.distinct) fresh_one);
    all = λ x q. rw (order_of_mid front back e) (found x (eqb (acting run w d) x) refl q);
  }
    where
      fresh_one : In e.job.0 (order_of back ++ order_of front) → ⊥
      fresh_one i =
          both_ways (has_ended (by_jobs run) e.job.0) (rw j (ap is_some (acting_none run w d wm))) (only_ended run (front ++ back) k.entries e.job.0 (rw (order_of_append front back) i))

      found : (x : ℕ) (b : Bool) → eqb (acting run w d) x ≡ b → is_some (end_place (cond b (d ∷ projection (by_jobs run) x) (projection (by_jobs run) x))) ≡ true →
          In x (order_of back ++ (e.job.0 ∷ order_of front))
      found x true f q = rw (← eqb-true (acting run w d) x f, ← j) (in_mid_here e.job.0 (order_of back) (order_of front))
      found x false f q = in_mid_keeps x e.job.0 (order_of back) (order_of front) (rw (order_of_append front back) at (k.all x q))
