-- Places and bounds: how a register that keeps a low and a high bound for each open job keeps the four rules.
use Rattle.std.specs.Prelude.{◌≡◌, ℕ, ◌+◌, ◌<◌, ◌≤◌, cond, List, [], ◌∷◌, Some, None, Option, ◌≢◌}
use Rattle.history.specs.Events.{Operation, History, ends_at, open_job, by_jobs, crew_of}
use Rattle.history.specs.Events.Operation.{opens, reads, writes, commits, abandons}
use Rattle.history.specs.Events.Event.{by}
use Rattle.history.specs.Projections.{projection, is_active, end_place}
use Rattle.history.specs.Precedence.{Wrote, ReadGlobally, CommittedCell, Precedes, StandsBefore}

---- Places that agree with precedence

-- x before y, by their places: an ended job has one, and an open one will have one above its low and below its high
abbrev pub PlacedApart : Option ℕ → ℕ → ℕ → Option ℕ → ℕ → ℕ → Type 0
PlacedApart (Some p) low_x high_x (Some q) low_y high_y = p < q
PlacedApart (Some p) low_x high_x None low_y high_y = p ≤ low_y
PlacedApart None low_x high_x (Some q) low_y high_y = high_x ≤ q
PlacedApart None low_x high_x None low_y high_y = ⊥

-- the places and the bounds agree with the four rules, and each open job has room for a place
pub record Placed {V : Type 0} (h : History V) (low high : ℕ → ℕ) : Type 0 where
  pub apart : (x y : ℕ) → (x ≢ y) → Precedes h x y → PlacedApart (end_place (projection h x)) (low x) (high x) (end_place (projection h y)) (low y) (high y)
  pub room : (x : ℕ) → end_place (projection h x) ≡ None → low x + 2 ≤ high x

-- where a job is sorted in: an ended one at its place, an open one right above its low
abbrev pub sort_key_at : Option ℕ → ℕ → ℕ
sort_key_at (Some p) low = p
sort_key_at None low = low + 1

abbrev pub sort_key : {V : Type 0} → History V → (ℕ → ℕ) → ℕ → ℕ
sort_key h low x = sort_key_at (end_place (projection h x)) (low x)

-- the keys ascend along the row; jobs of one key stand anyhow
abbrev pub Ascending : (ℕ → ℕ) → List ℕ → Type 0
Ascending key row = (x y : ℕ) → StandsBefore row x y → key x ≤ key y

---- Bounds

pub record Bounds : Type 0 where
  -- by job, or by crew
  pub low : ℕ → ℕ
  pub high : ℕ → ℕ
  -- by cell: the highest place of a job that committed it, and of an ended one that read it first-hand
  pub written : ℕ → ℕ
  pub read : ℕ → ℕ
  -- the highest place of all
  pub highest : ℕ

-- the bounds agree with the history: places and bounds with the four rules, and the places of each table with the jobs it is for
pub record Tracked {V : Type 0} (h : History V) (b : Bounds) : Type 0 where
  pub placed : Placed h b.low b.high
  pub below_highest : (x p : ℕ) → end_place (projection h x) ≡ Some p → p ≤ b.highest
  pub below_written : (x c p : ℕ) → CommittedCell h x c → end_place (projection h x) ≡ Some p → p ≤ b.written c
  pub below_read : (x c p : ℕ) → ReadGlobally h x c → end_place (projection h x) ≡ Some p → p ≤ b.read c

---- Bounds by crew: what a register has for a job stands in the record of its crew

-- the bounds of jobs from those of their crews; a job that is not open counts as having the bounds 0 and top
abbrev pub bounds_by_job : {V : Type 0} → ℕ → History V → Bounds → Bounds
bounds_by_job top run b = record {
  low = λ x. cond (is_active (projection (by_jobs run) x)) (b.low (crew_of run x)) 0;
  high = λ x. cond (is_active (projection (by_jobs run) x)) (b.high (crew_of run x)) top;
  written = b.written;
  read = b.read;
  highest = b.highest;
}

-- the bounds of crew u close in, and leave room for a place
abbrev pub Narrows : Bounds → ℕ → Bounds → Type 0
Narrows b u b' = (b.low u ≤ b'.low u) × (b'.high u ≤ b.high u) × (b'.low u + 2 ≤ b'.high u)

-- Crew w commits cell c at place p: p is above the places of the cell, the cell's written place goes up to it,
-- and every other crew whose open job has read the cell first-hand is kept below it.
abbrev pub CommitsAbove : {V : Type 0} → History V → Bounds → ℕ → ℕ → ℕ → Bounds → Type 0
CommitsAbove run b w p c b' = (b.written c < p) × (b.read c < p) × (p ≤ b'.written c)
    × ((u : ℕ) → (u ≢ w) → 1 ≤ open_job run u → ReadGlobally (by_jobs run) (open_job run u) c → b'.high u ≤ p)

-- What a call of crew w does to its own bounds: an opening goes above every place given so far, a first-hand read above the places of the jobs
-- that committed the cell, and an ending takes a place between the bounds.
abbrev pub OwnBounds : {V : Type 0} → ℕ → History V → Bounds → ℕ → Operation V V ℕ → Bounds → Type 0
OwnBounds top run b w opens b' = (b.highest ≤ b'.low w) × (b'.high w ≤ top) × (b'.low w + 2 ≤ b'.high w)
OwnBounds top run b w (reads c v) b' = Narrows b w b' × ((Wrote (by_jobs run) (open_job run w) c → ⊥) → b.written c ≤ b'.low w)
OwnBounds top run b w (writes c v) b' = Narrows b w b'
OwnBounds top run b w (commits p) b' = (b.low w < p) × (p < b.high w) × ((c : ℕ) → Wrote (by_jobs run) (open_job run w) c → CommitsAbove run b w p c b')
OwnBounds top run b w (abandons p) b' = (b.low w < p) × (p < b.high w)

-- An accepted call of crew w moves the bounds: the other open jobs close in at most, no place goes down, and an ending goes into the
-- highest place and into the read places of the cells that its job read first-hand.
pub record CrewMoves {V : Type 0} (top : ℕ) (run : History V) (b : Bounds) (w : ℕ) (o : Operation V V ℕ) (b' : Bounds) : Type 0 where
  pub own : OwnBounds top run b w o b'
  pub others : (u : ℕ) → (u ≢ w) → 1 ≤ open_job run u → Narrows b u b'
  pub highest_up : b.highest ≤ b'.highest
  pub written_up : (c : ℕ) → b.written c ≤ b'.written c
  pub read_up : (c : ℕ) → b.read c ≤ b'.read c
  pub ends : (p : ℕ) → ends_at o ≡ Some p → (p ≤ b'.highest) × ((c : ℕ) → ReadGlobally (by_jobs run) (open_job run w) c → p ≤ b'.read c)

-- the bounds of crews after a run whose every call moved them so
pub data CrewRun {V : Type 0} (top : ℕ) : History V → Bounds → Type 0 where
  starts : (low high : ℕ → ℕ) → CrewRun top [] (record { low = low; high = high; written = λ c. 0; read = λ c. 0; highest = 0 })
  goes_on : {run : History V} {b : Bounds} {w : ℕ} {o : Operation V V ℕ} {b' : Bounds} → CrewRun top run b → CrewMoves top run b w o b' → CrewRun top (by w o ∷ run) b'
