-- Facts about the rules, over any tables.
use Rattle.std.specs.Prelude.{◌≡◌, ℕ, ◌+◌, ◌<◌, ◌≤◌, true, false, [], Result}
use Rattle.terms.specs.declared.refusals.Refusal.{Refusal}
use Rattle.choosers.specs.Meaning.{Meaning, KeepsLaw}
use Rattle.rules.specs.declared.calls.Call.{Call}
use Rattle.rules.specs.declared.calls.Answer.{Answer}
use Rattle.rules.specs.Limits.{top}
use Rattle.rules.specs.Heads.{StartedHead}
use Rattle.rules.specs.Tables.{at}
use Rattle.rules.specs.Registers.{Register, low_of, has_job, has_read, has_written}
use Rattle.rules.specs.JobCalls.{commit_low, outcome}
use Rattle.rules.specs.Performing.{Performs}

-- what stands for a value that a table is too short for is never seen
abbrev pub NoOutcomeDependsOnDefault : Type 0 → Type 0
NoOutcomeDependsOnDefault V = (d e : V) (pick : ℕ → ℕ → ℕ) (r : Register V) (k : Call V) → outcome d pick r k ≡ outcome e pick r k

---- Every call can be performed

-- what every started head keeps
pub record SoundHead (head : StartedHead) : Type 0 where
  pub under_top : head.highest < top
  pub in_book : head.ended + head.active ≤ head.sizes.entries

-- on a sound head, whatever the tables hold, there is a way to perform each call, and it leaves a sound head
pub record EveryCallCanBePerformed (V : Type 0) : Type 0 where
  pub stays_sound : (d : V) (f : Meaning) (r : Register V) (k : Call V) → KeepsLaw f → SoundHead r.head → SoundHead (outcome d (f []) r k).left.head
  pub performed : (d : V) (f : Meaning) (r : Register V) (k : Call V) → SoundHead r.head →
      (a : Result (Answer V) Refusal) × (r' : Register V) × (f' : Meaning) × Performs d r f k a r' f'

---- The low bound of a commit

-- crew u, another than w, has a job open that has read first-hand a cell c that crew w has written
pub record ReadsWritten {V : Type 0} (r : Register V) (w u c : ℕ) : Type 0 where
  pub a_crew : (1 ≤ u) × (u ≤ r.head.sizes.crews)
  pub another : u ≡ w → ⊥
  pub a_job : has_job r u ≡ true
  pub a_cell : (1 ≤ c) × (c ≤ r.head.sizes.cells)
  pub written : has_written r w c ≡ true
  pub read : has_read r u c ≡ true

-- x is at least the job's low, the written and the read place of each cell that it has written, and low + 1 of each other open job that has read one of those first-hand
pub record AtLeastEach {V : Type 0} (r : Register V) (w x : ℕ) : Type 0 where
  pub own_low : low_of r w ≤ x
  pub written_cells : (c : ℕ) → 1 ≤ c → c ≤ r.head.sizes.cells → has_written r w c ≡ true → (at r.tables.written c 0 ≤ x) × (at r.tables.read c 0 ≤ x)
  pub other_readers : (u c : ℕ) → ReadsWritten r w u c → low_of r u + 1 ≤ x

-- the low bound of a commit is the least such number: the largest of all these; where nothing is written it is the job's low
pub record LargestBound {V : Type 0} (r : Register V) (w : ℕ) : Type 0 where
  pub at_least_each : AtLeastEach r w (commit_low r w)
  pub none_lower : (x : ℕ) → AtLeastEach r w x → commit_low r w ≤ x
  pub none_written : ((c : ℕ) → 1 ≤ c → c ≤ r.head.sizes.cells → has_written r w c ≡ false) → commit_low r w ≡ low_of r w

abbrev pub CommitBoundIsLargest : Type 0 → Type 0
CommitBoundIsLargest V = (r : Register V) (w : ℕ) → LargestBound r w
