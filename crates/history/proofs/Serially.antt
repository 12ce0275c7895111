-- Serial execution step by step does what its short form says.
use Rattle.std.proofs.Common.{◌≡◌, ℕ, Bool, true, false, cond, eqb, List, [], ◌∷◌, Some, unwrap_or, refl, ap, ◌∙◌, ap₂, arith}
use mathlib.Core.Path.{fun_ext}
use Rattle.std.proofs.lemmas.Bool.{eqb-true}
use Rattle.history.specs.Events.{Operation, History}
use Rattle.history.specs.Events.Operation.{opens, reads, writes, commits, abandons}
use Rattle.history.specs.Events.Event.{by}
use Rattle.history.specs.Projections.{projection, buffered, is_committed, WellFormed}
use Rattle.history.specs.Values.{ReadsCurrent}
use Rattle.history.specs.Precedence.{Respects}
use Rattle.history.specs.SerialExecution.{execute_job, execute_serially, SeriallyExplained}
use Rattle.history.proofs.ShortForm.{observes, installs, left_by, Explains}
use Rattle.history.proofs.Moments.{unopened_projection, well_formed_tail, active_uncommitted}
use Rattle.history.proofs.Explaining.{respectful_explains}

module _ {V : Type 0} (m : ℕ → V) where
  -- after the steps of a job, the state of serial execution is what the short form says
  record InStep (s : List (Operation V V ℕ)) : Type 0 where
    of_cells : (c : ℕ) → (execute_job m s).cells c ≡ unwrap_or (installs s c) (m c)
    of_buffer : (c : ℕ) → (execute_job m s).buffer c ≡ buffered s c
    of_observed : (execute_job m s).observed ≡ observes m s

  -- of a job that has not committed, the values are as they were
  unmoved : (s : List (Operation V V ℕ)) → is_committed s ≡ false → InStep s → (c : ℕ) → (execute_job m s).cells c ≡ m c
  unmoved s n k c = k.of_cells c ∙ rw n

  in_step_next : (y x : ℕ) (h : History V) (d : Operation V V ℕ) (b : Bool) → eqb y x ≡ b → WellFormed (by y d ∷ h) → InStep (projection h x) → InStep (cond b (d ∷ projection h x) (projection h x))
  in_step_next y x h d false e wf k = k
  in_step_next y x h opens true e wf k = rw (unopened_projection h wf.1 x (omega (arith, eqb-true y x e))) (record { of_cells = λ c. refl; of_buffer = λ c. refl; of_observed = refl })
  in_step_next y x h (reads c v) true e wf k = let n = active_uncommitted h wf.1 x (rw (eqb-true y x e) at wf.0) in
      record { of_cells = k.of_cells; of_buffer = k.of_buffer; of_observed = ap₂ ◌∷◌ (ap₂ unwrap_or (k.of_buffer c) (unmoved (projection h x) n k c)) k.of_observed }
  in_step_next y x h (writes c v) true e wf k = let n = active_uncommitted h wf.1 x (rw (eqb-true y x e) at wf.0) in
      record { of_cells = λ d. unmoved (projection h x) n k d ∙ rw n; of_buffer = λ d. ap (cond (eqb c d) (Some v)) (k.of_buffer d); of_observed = k.of_observed }
  in_step_next y x h (commits p) true e wf k = let n = active_uncommitted h wf.1 x (rw (eqb-true y x e) at wf.0) in
      record { of_cells = λ c. ap₂ unwrap_or (k.of_buffer c) (unmoved (projection h x) n k c); of_buffer = k.of_buffer; of_observed = k.of_observed }
  in_step_next y x h (abandons p) true e wf k = record { of_cells = k.of_cells; of_buffer = k.of_buffer; of_observed = k.of_observed }

  in_step : (h : History V) → WellFormed h → (x : ℕ) → InStep (projection h x)
  in_step [] wf x = record { of_cells = λ c. refl; of_buffer = λ c. refl; of_observed = refl }
  in_step (by y d ∷ h) wf x = in_step_next y x h d (eqb y x) refl wf (in_step h (well_formed_tail (by y d) h wf) x)

module _ {V : Type 0} (first : ℕ → V) (h : History V) (wf : WellFormed h) where
  executed_left : (row : List ℕ) → execute_serially (projection h) first row ≡ left_by (projection h) first row
  executed_left [] = refl
  executed_left (x ∷ row) = fun_ext (λ c. (in_step (execute_serially (projection h) first row) h wf x).of_cells c ∙ ap (λ f. unwrap_or (installs (projection h x) c) (f c)) (executed_left row))

  pub serially_explained : (row : List ℕ) → Explains first h row → SeriallyExplained first h row
  serially_explained row ex = record {
    same_observed = λ y ea s. (in_step (execute_serially (projection h) first ea) h wf y).of_observed ∙ (ap (λ f. observes f (projection h y)) (executed_left ea) ∙ ex.same_observed y ea s);
    same_left = λ c. ap (λ f. f c) (executed_left row) ∙ ex.same_left c;
  }

pub respectful_orders_explain : {V : Type 0} (first : ℕ → V) (h : History V) (row : List ℕ) → WellFormed h → ReadsCurrent first h → Respects h row → SeriallyExplained first h row
respectful_orders_explain first h row wf rc re = serially_explained first h wf row (respectful_explains first h row wf rc re)
