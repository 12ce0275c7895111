-- Lists of calls that a register accepts whole: at given places, and with a chooser that is asked for each place.
use Rattle.std.specs.Prelude.{◌≡◌, ℕ, zero, suc, ◌+◌, ◌<◌, ◌≤◌, max, Bool, cond, not, ◌&&◌, List, [], ◌∷◌, length, Some, None, Option, ◌==◌, nat_le}
use Rattle.choosers.specs.Meaning.{Meaning, moved_on}
use Rattle.history.specs.Events.{Operation, Events, History, ends_at, is_ending, open_job}
use Rattle.history.specs.Events.Operation.{opens, reads, writes, commits, abandons}
use Rattle.history.specs.Events.Event.{by}
use Rattle.history.specs.WellMade.{Calls, calls_of, UpTo}
use Rattle.history.specs.Views.{RegisterView, fresh_view, visible, conflicts, RoomToRead, view_after, ViewRun}

---- At given places

abbrev pub with_place : Option ℕ → List ℕ → List ℕ
with_place (Some p) places = p ∷ places
with_place None places = places

-- the places that a run's endings were given
abbrev pub places_of : {V : Type 0} → History V → List ℕ
places_of [] = []
places_of (by w o ∷ run) = with_place (ends_at o) (places_of run)

-- the register accepts every call of the list, and its endings get these places, the newest first
pub record AcceptedAt {V : Type 0} (top n : ℕ) (first : ℕ → V) (own : ℕ → ℕ → V) (calls : Calls V) (places : List ℕ) : Type 0 where
  pub run : History V
  pub view : RegisterView V
  pub same_calls : calls_of run ≡ calls
  pub same_places : places_of run ≡ places
  pub view_run : ViewRun top n first own run view

-- where x stands in the row, from 1
abbrev pub position : List ℕ → ℕ → ℕ
position [] x = 0
position (y ∷ row) x = cond (y == x) (suc (length row)) (position row x)

-- the places that the jobs get at their endings, where `place` has a place for each job
abbrev pub positions : {V R P : Type 0} → (ℕ → ℕ) → Events V R P → List ℕ
positions place [] = []
positions place (by w o ∷ run) = cond (is_ending o) (place (open_job run w) ∷ positions place run) (positions place run)

---- The low bound that a commit asks for

-- the largest written or read place of the cells up to n that crew w has written
abbrev pub cells_lower_bound : {V : Type 0} → RegisterView V → ℕ → ℕ → ℕ
cells_lower_bound s w zero = 0
cells_lower_bound s w (suc c) = max (cond (s.has_written w (suc c)) (max (s.written (suc c)) (s.read (suc c))) 0) (cells_lower_bound s w c)

-- crew u is another, has a job open, and has read one of those cells first-hand
abbrev pub is_open_reader : {V : Type 0} → ℕ → RegisterView V → ℕ → ℕ → Bool
is_open_reader n s w u = not (u == w) && (nat_le 1 (s.job u) && conflicts s w u n)

-- the largest low + 1 of such crews up to m
abbrev pub readers_lower_bound : {V : Type 0} → ℕ → RegisterView V → ℕ → ℕ → ℕ
readers_lower_bound n s w zero = 0
readers_lower_bound n s w (suc u) = max (cond (is_open_reader n s w (suc u)) (s.low (suc u) + 1) 0) (readers_lower_bound n s w u)

-- the largest of these and the job's own low
abbrev pub commit_lower_bound : {V : Type 0} → ℕ → ℕ → RegisterView V → ℕ → ℕ
commit_lower_bound n m s w = max (s.low w) (max (cells_lower_bound s w n) (readers_lower_bound n s w m))

---- With a chooser

-- every place is under top; so many cells, crews and entries of the day book
pub record Sizes : Type 0 where
  pub top : ℕ
  pub cells : ℕ
  pub crews : ℕ
  pub entries : ℕ

-- a crew with an open job whose record is not damaged
pub record AtWork {V : Type 0} (z : Sizes) (s : RegisterView V) (w : ℕ) : Type 0 where
  pub a_crew : UpTo z.crews w
  pub a_job : 1 ≤ s.job w
  pub room : s.low w + 2 ≤ s.high w
  pub below_top : s.high w ≤ z.top

-- when the register accepts a call, and with which answer, where the chooser means f
abbrev pub AcceptsWith : {V : Type 0} → Meaning → Sizes → RegisterView V → ℕ → Operation V V ℕ → Type 0
AcceptsWith f z s w opens = UpTo z.crews w × (s.job w ≡ 0) × (s.highest + 2 ≤ z.top) × (s.opened < z.entries)
AcceptsWith f z s w (reads c v) = AtWork z s w × UpTo z.cells c × (v ≡ visible s w c) × RoomToRead s w c
AcceptsWith f z s w (writes c v) = AtWork z s w × UpTo z.cells c
AcceptsWith f z s w (commits p) = AtWork z s w × (commit_lower_bound z.cells z.crews s w + 2 ≤ s.high w) × (p ≡ f [] (commit_lower_bound z.cells z.crews s w) (s.high w))
AcceptsWith f z s w (abandons p) = AtWork z s w × (p ≡ f [] (s.low w) (s.high w))

-- what the chooser means after the call: it is asked at endings only
abbrev pub meaning_after : {V : Type 0} → Meaning → Sizes → RegisterView V → ℕ → Operation V V ℕ → Meaning
meaning_after f z s w opens = f
meaning_after f z s w (reads c v) = f
meaning_after f z s w (writes c v) = f
meaning_after f z s w (commits p) = moved_on f (commit_lower_bound z.cells z.crews s w) (s.high w)
meaning_after f z s w (abandons p) = moved_on f (s.low w) (s.high w)

-- from its start, with a chooser that means f₀ at first, the register accepts the calls of the run
pub data RunWith {V : Type 0} (f₀ : Meaning) (z : Sizes) (first : ℕ → V) (own : ℕ → ℕ → V) : History V → RegisterView V → Meaning → Type 0 where
  starts : RunWith f₀ z first own [] (fresh_view first own) f₀
  goes_on : {run : History V} {s : RegisterView V} {f : Meaning} {w : ℕ} {o : Operation V V ℕ} → RunWith f₀ z first own run s f → AcceptsWith f z s w o
      → RunWith f₀ z first own (by w o ∷ run) (view_after z.top z.cells s w o) (meaning_after f z s w o)

-- every call of the list is accepted
pub record AcceptedWith {V : Type 0} (f₀ : Meaning) (z : Sizes) (first : ℕ → V) (own : ℕ → ℕ → V) (calls : Calls V) : Type 0 where
  pub run : History V
  pub view : RegisterView V
  pub meaning : Meaning
  pub same_calls : calls_of run ≡ calls
  pub run_with : RunWith f₀ z first own run view meaning
