-- Highs that are lowered one after the other.
use Rattle.std.proofs.Common.{◌≡◌, ℕ, suc, ◌-◌, List, get_or, set, arith}
use Rattle.terms.specs.declared.records.JobRecord.{JobRecord}
use Rattle.rules.specs.Contents.{closed_record}
use Rattle.rules.specs.Registers.{Register}
use Rattle.commits.specs.Committing.{with_jobs, lowered_record}

-- lowering looks at a record that no turn before has changed
pub lower_same : {V : Type 0} (w p : ℕ) (r : Register V) (i : ℕ) (xs : List JobRecord) → get_or xs i closed_record ≡ get_or r.tables.jobs i closed_record →
    with_jobs r (set xs i (lowered_record w p (with_jobs r xs) (suc i) (get_or xs i closed_record))) ≡ with_jobs r (set xs i (lowered_record w p r (suc i) (get_or xs i closed_record)))
lower_same {V} w p r i xs e = let z : suc i - 1 ≡ i = omega arith in simp (z, e)
