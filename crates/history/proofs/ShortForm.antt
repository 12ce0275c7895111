-- Serial execution in a short form that the proofs use: what a job observes and installs, without the steps in between.
use Rattle.std.proofs.Common.{◌≡◌, ℕ, cond, List, [], ◌∷◌, None, Option, unwrap_or}
use Rattle.history.specs.Events.{Operation, History}
use Rattle.history.specs.Events.Operation.{opens, reads, writes, commits, abandons}
use Rattle.history.specs.Projections.{projection, buffered, is_committed}
use Rattle.history.specs.Values.{committed_value, observed}
use Rattle.history.specs.Precedence.{Extends}

-- what a job is told where it is done alone over the values `cells`
abbrev pub observes : {V : Type 0} → (ℕ → V) → List (Operation V V ℕ) → List V
observes cells [] = []
observes cells (opens ∷ s) = observes cells s
observes cells (reads c v ∷ s) = unwrap_or (buffered s c) (cells c) ∷ observes cells s
observes cells (writes c v ∷ s) = observes cells s
observes cells (commits p ∷ s) = observes cells s
observes cells (abandons p ∷ s) = observes cells s

-- what a job puts into cell c in the end, if anything: abandoned and open jobs put nothing
abbrev pub installs : {V : Type 0} → List (Operation V V ℕ) → ℕ → Option V
installs s c = cond (is_committed s) (buffered s c) None

-- the values that a row of jobs leaves
abbrev pub left_by : {V : Type 0} → (ℕ → List (Operation V V ℕ)) → (ℕ → V) → List ℕ → ℕ → V
left_by steps first [] c = first c
left_by steps first (x ∷ row) c = unwrap_or (installs (steps x) c) (left_by steps first row c)

-- what `SeriallyExplained` says, in the short form
pub record Explains {V : Type 0} (first : ℕ → V) (h : History V) (row : List ℕ) : Type 0 where
  pub same_observed : (y : ℕ) (earlier : List ℕ) → Extends row (y ∷ earlier) → observes (left_by (projection h) first earlier) (projection h y) ≡ observed (projection h y)
  pub same_left : (c : ℕ) → left_by (projection h) first row c ≡ committed_value first h c
