-- How the bounds of jobs move from one call to the next: what an accepted call has to see to, said by job.
-- A job that has not opened counts as having the bounds 0 and top, so that to open is to close in.
use Rattle.std.proofs.Common.{◌≡◌, ℕ, ◌+◌, ◌<◌, ◌≤◌, [], ◌∷◌, Some, None, Option}
use Rattle.history.specs.Events.{Operation, History, ends_at}
use Rattle.history.specs.Events.Operation.{opens, reads, writes, commits, abandons}
use Rattle.history.specs.Events.Event.{by}
use Rattle.history.specs.Projections.{projection, end_place}
use Rattle.history.specs.Precedence.{Wrote, ReadGlobally}
use Rattle.history.specs.Bounds.{Bounds}

-- a job's bounds close in, and a job that ends gets a place between them
abbrev pub ClosesIn : Option ℕ → ℕ → ℕ → Option ℕ → ℕ → ℕ → Type 0
ClosesIn (Some p) low high (Some q) low' high' = p ≡ q
ClosesIn (Some p) low high None low' high' = ⊥
ClosesIn None low high (Some q) low' high' = (low < q) × (q < high)
ClosesIn None low high None low' high' = (low ≤ low') × (high' ≤ high)

-- what each kind of call of job x has to see to: an opening goes above all places given; a first-hand read goes above the cell's last commit;
-- a commit gets a place above those who committed or read its cells, and the open jobs that read them first-hand are kept below it
abbrev pub SeesTo : {V : Type 0} → History V → Bounds → ℕ → Operation V V ℕ → Bounds → Type 0
SeesTo h b x opens b' = b.highest ≤ b'.low x
SeesTo h b x (reads c v) b' = (Wrote h x c → ⊥) → b.written c ≤ b'.low x
SeesTo h b x (writes c v) b' = Unit {0}
SeesTo h b x (commits p) b' = (c : ℕ) → Wrote h x c → (b.written c < p) × (b.read c < p) × (p ≤ b'.written c)
    × ((z : ℕ) → (z ≡ x → ⊥) → ReadGlobally h z c → end_place (projection h z) ≡ None → b'.high z ≤ p)
SeesTo h b x (abandons p) b' = Unit {0}

-- an accepted call of job x moves the bounds
pub record Moves {V : Type 0} (h : History V) (b : Bounds) (x : ℕ) (o : Operation V V ℕ) (b' : Bounds) : Type 0 where
  pub closes_in : (z : ℕ) → ClosesIn (end_place (projection h z)) (b.low z) (b.high z) (end_place (projection (by x o ∷ h) z)) (b'.low z) (b'.high z)
  pub room : (z : ℕ) → end_place (projection (by x o ∷ h) z) ≡ None → b'.low z + 2 ≤ b'.high z
  pub highest_up : b.highest ≤ b'.highest
  pub written_up : (c : ℕ) → b.written c ≤ b'.written c
  pub read_up : (c : ℕ) → b.read c ≤ b'.read c
  pub ends : (p : ℕ) → ends_at o ≡ Some p → (p ≤ b'.highest) × ((c : ℕ) → ReadGlobally h x c → p ≤ b'.read c)
  pub sees_to : SeesTo h b x o b'

abbrev pub start_bounds : ℕ → Bounds
start_bounds top = record { low = λ x. 0; high = λ x. top; written = λ c. 0; read = λ c. 0; highest = 0 }

-- the bounds after a history whose every call moved them so
pub data BoundsRun {V : Type 0} (top : ℕ) : History V → Bounds → Type 0 where
  starts : BoundsRun top [] (start_bounds top)
  goes_on : {h : History V} {b : Bounds} {x : ℕ} {o : Operation V V ℕ} {b' : Bounds} → BoundsRun top h b → Moves h b x o b' → BoundsRun top (by x o ∷ h) b'
