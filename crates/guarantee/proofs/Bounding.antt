-- The low bound that a commit asks for, in the tables and on the view.
use Rattle.std.proofs.Common.{◌≡◌, ℕ, zero, suc, ◌+◌, ◌≤◌, max, Bool, cond, not, ◌&&◌, eqb, leb, sym, refl, ◌∙◌, ap₂, arith}
use Rattle.std.specs.Cmp.{both_ways as same_tests}
use Rattle.std.proofs.lemmas.Bool.{eqb-true, eq-eqb}
use Rattle.terms.specs.declared.records.JobRecord.{JobRecord}
use Rattle.history.specs.Acceptance.{cells_lower_bound, commit_lower_bound, is_open_reader, readers_lower_bound}
use Rattle.history.specs.Views.{RegisterView, conflicts}
use Rattle.rules.specs.JobCalls.{commit_low, other_reader}
use Rattle.rules.specs.Registers.{Register, has_job, has_written, low_of, record_of}
use Rattle.rules.specs.Tables.{at, most}
use Rattle.guarantee.proofs.Opacity.{b}
use Rattle.guarantee.proofs.Passing.{Sized, Working}
use Rattle.guarantee.proofs.Tied.{Tie, Tied, of_open, touched}

most_cells_lem : {V : Type 0} (f : ℕ → ℕ) (s : RegisterView V) (w n : ℕ) → ((c : ℕ) → 1 ≤ c → c ≤ n → f c ≡ cond (s.has_written w c) (max (s.written c) (s.read c)) 0) → most f n ≡ cells_lower_bound s w n
most_cells_lem f s w zero h = refl
most_cells_lem f s w (suc n) h = ap₂ max (h (suc n) (omega arith) (omega arith)) (most_cells_lem f s w n (λ c a b. h c a (omega arith)))

most_crews_lem : {V : Type 0} (f : ℕ → ℕ) (n : ℕ) (s : RegisterView V) (w m : ℕ) → ((u : ℕ) → 1 ≤ u → u ≤ m → f u ≡ cond (is_open_reader n s w u) (s.low u + 1) 0) → most f m ≡ readers_lower_bound n s w m
most_crews_lem f n s w zero h = refl
most_crews_lem f n s w (suc m) h = ap₂ max (h (suc m) (omega arith) (omega arith)) (most_crews_lem f n s w m (λ u a b. h u a (omega arith)))

eqb_swap : (a b : ℕ) → eqb a b ≡ eqb b a
eqb_swap a b = same_tests (eqb a b) (eqb b a) (λ e. eq-eqb b a (sym (eqb-true a b e))) (λ e. eq-eqb a b (sym (eqb-true b a e)))

-- a closed job counts for nothing
one_crew : (b : Bool) (j : JobRecord) (x l h : ℕ) (t y : Bool) → Tied b j x l h → cond (t && (b && y)) (j.low.0 + 1) 0 ≡ cond (t && (leb 1 x && y)) (l + 1) 0
one_crew b j x l h t y e = grind (arith, e)

module _ {V : Type 0} (d : V) (r : Register V) (s : RegisterView V) (tie : Tie d r s) (w : ℕ) (z : Sized r w) where
  pub commit_low_bound : Working r w → commit_low r w ≡ commit_lower_bound r.head.sizes.cells r.head.sizes.crews s w
  commit_low_bound k = ap₂ max (sym (of_open d r s tie w z k.has).2) (ap₂ max
      (most_cells_lem (λ c. cond (has_written r w c) (max (at r.tables.written c 0) (at r.tables.read c 0)) 0) s w r.head.sizes.cells cell)
      (most_crews_lem (λ u. cond (other_reader r w u) (low_of r u + 1) 0) r.head.sizes.cells s w r.head.sizes.crews crew))
    where
      cell : (c : ℕ) → 1 ≤ c → c ≤ r.head.sizes.cells → cond (has_written r w c) (max (at r.tables.written c 0) (at r.tables.read c 0)) 0 ≡ cond (s.has_written w c) (max (s.written c) (s.read c)) 0
      cell c a b = ap₂ (λ (t : Bool) (x : ℕ). cond t x 0) (tie.writes_are w c z.from_one z.to_crews a b) (ap₂ max (tie.written_is c a b) (tie.read_is c a b))

      crew : (u : ℕ) → 1 ≤ u → u ≤ r.head.sizes.crews → cond (other_reader r w u) (low_of r u + 1) 0 ≡ cond (is_open_reader r.head.sizes.cells s w u) (s.low u + 1) 0
      crew u a b = ap₂ (λ (t y : Bool). cond (not t && (has_job r u && y)) (low_of r u + 1) 0) (eqb_swap w u) (touched d r s tie w z u a b)
          ∙ one_crew (has_job r u) (record_of r u) (s.job u) (s.low u) (s.high u) (not (eqb u w)) (conflicts s w u r.head.sizes.cells) (tie.job_is u a b)
