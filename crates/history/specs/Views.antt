-- A register's tables as functions of crew and cell: when a call is accepted with a given answer, and what it leaves.
use Rattle.std.specs.Prelude.{◌≡◌, ℕ, zero, suc, ◌+◌, ◌<◌, ◌≤◌, min, max, Bool, true, false, cond, ◌&&◌, ◌||◌, [], ◌∷◌, ◌==◌, ◌≢◌}
use Rattle.history.specs.Events.{Operation, History, openings, open_job, by_jobs}
use Rattle.history.specs.Events.Operation.{opens, reads, writes, commits, abandons}
use Rattle.history.specs.Events.Event.{by}
use Rattle.history.specs.Values.{committed_value, ReadsCurrent}
use Rattle.history.specs.WellMade.{WellMade}
use Rattle.history.specs.Bounds.{Bounds, Tracked, bounds_by_job}

pub record RegisterView (V : Type 0) : Type 0 where
  -- by cell: the committed value, the highest place of a job that committed it, the highest of an ended job that read it first-hand
  pub value : ℕ → V
  pub written : ℕ → ℕ
  pub read : ℕ → ℕ
  -- by crew: the number of its open job, or 0, and the job's bounds
  pub job : ℕ → ℕ
  pub low : ℕ → ℕ
  pub high : ℕ → ℕ
  -- by crew and cell: the job's own value, and whether it has read the cell first-hand, and written it
  pub own : ℕ → ℕ → V
  pub has_read : ℕ → ℕ → Bool
  pub has_written : ℕ → ℕ → Bool
  -- the highest place given, and how many jobs have opened
  pub highest : ℕ
  pub opened : ℕ

abbrev pub fresh_view : {V : Type 0} → (ℕ → V) → (ℕ → ℕ → V) → RegisterView V
fresh_view first own = record {
  value = first;
  written = λ c. 0;
  read = λ c. 0;
  job = λ w. 0;
  low = λ w. 0;
  high = λ w. 0;
  own = own;
  has_read = λ w c. false;
  has_written = λ w c. false;
  highest = 0;
  opened = 0;
}

-- what crew w is told of cell c: its own value where it has written one, else the cell's
abbrev pub visible : {V : Type 0} → RegisterView V → ℕ → ℕ → V
visible s w c = cond (s.has_written w c) (s.own w c) (s.value c)

-- crew u has read first-hand one of the cells up to n that crew w has written
abbrev pub conflicts : {V : Type 0} → RegisterView V → ℕ → ℕ → ℕ → Bool
conflicts s w u zero = false
conflicts s w u (suc c) = (s.has_read u (suc c) && s.has_written w (suc c)) || conflicts s w u c

-- a first-hand read of cell c raises the low bound of crew w's job to the places of the jobs that committed the cell, and there must be room above
abbrev pub low_after_read : {V : Type 0} → RegisterView V → ℕ → ℕ → ℕ
low_after_read s w c = cond (s.has_written w c) (s.low w) (max (s.low w) (s.written c))

abbrev pub RoomToRead : {V : Type 0} → RegisterView V → ℕ → ℕ → Type 0
RoomToRead s w c = s.has_written w c ≡ false → max (s.low w) (s.written c) + 2 ≤ s.high w

-- When a call of crew w is accepted, with the answer that it has, in a register of n cells: an opening, where a place is left above the highest;
-- a first-hand read, where the job still has room above the cell's last commit; an ending, at a place between the job's bounds,
-- and a commit only above the places of its cells, with room below its place for each open job that has read one of them
abbrev pub Accepts : {V : Type 0} → ℕ → ℕ → RegisterView V → ℕ → Operation V V ℕ → Type 0
Accepts top n s w opens = (s.job w ≡ 0) × (s.highest + 2 ≤ top)
Accepts top n s w (reads c v) = (1 ≤ s.job w) × (v ≡ visible s w c) × RoomToRead s w c
Accepts top n s w (writes c v) = (1 ≤ s.job w) × (1 ≤ c) × (c ≤ n)
Accepts top n s w (commits p) = (1 ≤ s.job w) × (s.low w < p) × (p < s.high w)
    × ((c : ℕ) → s.has_written w c ≡ true → (s.written c < p) × (s.read c < p))
    × ((u : ℕ) → (u ≢ w) → 1 ≤ s.job u → conflicts s w u n ≡ true → s.low u + 1 < p)
Accepts top n s w (abandons p) = (1 ≤ s.job w) × (s.low w < p) × (p < s.high w)

-- f, but v at k
abbrev pub updated : {A : Type 0} → (ℕ → A) → ℕ → A → ℕ → A
updated f k v j = cond (k == j) v (f j)

-- crew w's own values are put into their cells at place p, and whoever has read one of these first-hand is kept below p
abbrev pub installed : {V : Type 0} → ℕ → RegisterView V → ℕ → ℕ → RegisterView V
installed n s w p = record {
  value = visible s w;
  written = λ c. cond (s.has_written w c) p (s.written c);
  read = s.read;
  job = s.job;
  low = s.low;
  high = λ u. cond (conflicts s w u n) (min (s.high u) p) (s.high u);
  own = s.own;
  has_read = s.has_read;
  has_written = s.has_written;
  highest = s.highest;
  opened = s.opened;
}

-- crew w's job is over, at place p: the cells that it read first-hand were read up to there, and the crew's record is closed
abbrev pub closed : {V : Type 0} → RegisterView V → ℕ → ℕ → RegisterView V
closed s w p = record {
  value = s.value;
  written = s.written;
  read = λ c. cond (s.has_read w c) (max (s.read c) p) (s.read c);
  job = updated s.job w 0;
  low = updated s.low w 0;
  high = updated s.high w 0;
  own = s.own;
  has_read = updated s.has_read w (λ c. false);
  has_written = updated s.has_written w (λ c. false);
  highest = max s.highest p;
  opened = s.opened;
}

-- what an accepted call leaves
abbrev pub view_after : {V : Type 0} → ℕ → ℕ → RegisterView V → ℕ → Operation V V ℕ → RegisterView V
view_after top n s w opens = record {
  value = s.value;
  written = s.written;
  read = s.read;
  job = updated s.job w (suc s.opened);
  low = updated s.low w s.highest;
  high = updated s.high w top;
  own = s.own;
  has_read = s.has_read;
  has_written = s.has_written;
  highest = s.highest;
  opened = suc s.opened;
}
view_after top n s w (reads c v) = record {
  value = s.value;
  written = s.written;
  read = s.read;
  job = s.job;
  low = updated s.low w (low_after_read s w c);
  high = s.high;
  own = s.own;
  has_read = updated s.has_read w (updated (s.has_read w) c (cond (s.has_written w c) (s.has_read w c) true));
  has_written = s.has_written;
  highest = s.highest;
  opened = s.opened;
}
view_after top n s w (writes c v) = record {
  value = s.value;
  written = s.written;
  read = s.read;
  job = s.job;
  low = s.low;
  high = s.high;
  own = updated s.own w (updated (s.own w) c v);
  has_read = s.has_read;
  has_written = updated s.has_written w (updated (s.has_written w) c true);
  highest = s.highest;
  opened = s.opened;
}
view_after top n s w (commits p) = closed (installed n s w p) w p
view_after top n s w (abandons p) = closed s w p

-- the register goes from its start to the view s by the accepted calls of the run; what stands in `own` at the start never shows
pub data ViewRun {V : Type 0} (top n : ℕ) (first : ℕ → V) (own : ℕ → ℕ → V) : History V → RegisterView V → Type 0 where
  starts : ViewRun top n first own [] (fresh_view first own)
  goes_on : {run : History V} {s : RegisterView V} {w : ℕ} {o : Operation V V ℕ} → ViewRun top n first own run s → Accepts top n s w o → ViewRun top n first own (by w o ∷ run) (view_after top n s w o)

---- What a view says of its run

abbrev pub bounds_of : {V : Type 0} → RegisterView V → Bounds
bounds_of s = record { low = s.low; high = s.high; written = s.written; read = s.read; highest = s.highest }

-- the calls are well made, every read was current, the values are the committed ones, the jobs are those that the crews have open,
-- and bounds and places agree with the four rules
pub record ViewAgrees {V : Type 0} (top : ℕ) (first : ℕ → V) (run : History V) (s : RegisterView V) : Type 0 where
  pub well_made : WellMade run
  pub reads_current : ReadsCurrent first (by_jobs run)
  pub values_committed : (c : ℕ) → s.value c ≡ committed_value first (by_jobs run) c
  pub jobs_open : (w : ℕ) → s.job w ≡ open_job run w
  pub jobs_counted : s.opened ≡ openings run
  pub tracked : Tracked (by_jobs run) (bounds_by_job top run (bounds_of s))
