-- Lists of calls that have no answers yet, and when such a list is well made.
use Rattle.std.specs.Prelude.{◌≡◌, ℕ, ◌≤◌, cond, [], ◌∷◌}
use Rattle.history.specs.Events.{Operation, Events, is_opening, openings, open_job}
use Rattle.history.specs.Events.Operation.{opens, reads, writes, commits, abandons}
use Rattle.history.specs.Events.Event.{by}

-- each crew opens only when it has no job open, and makes its other calls only when it has one
abbrev pub WellMade : {V R P : Type 0} → Events V R P → Type 0
WellMade [] = Unit {0}
WellMade (by w o ∷ run) = cond (is_opening o) (open_job run w ≡ 0) (1 ≤ open_job run w) × WellMade run

-- calls that are to be accepted, a commit as a commit, without the values that they will be told and the places that they will be given
abbrev pub Calls : Type 0 → Type 0
Calls V = Events V (Unit {0}) (Unit {0})

abbrev pub asked : {V R P : Type 0} → Operation V R P → Operation V (Unit {0}) (Unit {0})
asked opens = opens
asked (reads c v) = reads c tt
asked (writes c v) = writes c v
asked (commits p) = commits tt
asked (abandons p) = abandons tt

-- the calls of a run
abbrev pub calls_of : {V R P : Type 0} → Events V R P → Calls V
calls_of [] = []
calls_of (by w o ∷ run) = by w (asked o) ∷ calls_of run

-- a number from 1 up to `most`
abbrev pub UpTo : ℕ → ℕ → Type 0
UpTo most k = (1 ≤ k) × (k ≤ most)

-- the cell that an operation names, if it names one, is one of `cells`
abbrev pub NamesCell : {V R P : Type 0} → ℕ → Operation V R P → Type 0
NamesCell cells opens = Unit {0}
NamesCell cells (reads c v) = UpTo cells c
NamesCell cells (writes c v) = UpTo cells c
NamesCell cells (commits p) = Unit {0}
NamesCell cells (abandons p) = Unit {0}

-- all crews are from 1 to `crews`, and all cells from 1 to `cells`
abbrev pub InRange : {V R P : Type 0} → ℕ → ℕ → Events V R P → Type 0
InRange cells crews [] = Unit {0}
InRange cells crews (by w o ∷ run) = UpTo crews w × NamesCell cells o × InRange cells crews run

-- a well-made list for a register of so many cells, crews and entries of its day book
pub record WellMadeList {V : Type 0} (cells crews entries : ℕ) (calls : Calls V) : Type 0 where
  pub orderly : WellMade calls
  pub in_range : InRange cells crews calls
  pub entries_suffice : openings calls ≤ entries
