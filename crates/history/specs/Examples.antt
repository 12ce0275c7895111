-- Small histories that show that the definitions say something: one without a serialization order, one whose order is not that of its commits,
-- one that no serial execution explains, and two that only real time tells apart. As everywhere, the newest event stands first: read them from the right.
use Rattle.std.specs.Prelude.{◌≡◌, ℕ, ◌^◌, true, cond, List, [], ◌∷◌, ◌==◌}
use Rattle.choosers.specs.Meaning.{Meaning, KeepsLaw}
use Rattle.choosers.specs.Script.{script_meaning}
use Rattle.history.specs.Events.{Events, History, is_opening, open_job, by_jobs}
use Rattle.history.specs.Events.Operation.{opens, reads, writes, commits}
use Rattle.history.specs.Events.Event.{by}
use Rattle.history.specs.Values.{ReadsCurrent}
use Rattle.history.specs.Precedence.{Precedes, In, StandsBefore, SerializationOrder}
use Rattle.history.specs.SerialExecution.{SeriallyExplained}
use Rattle.history.specs.WellMade.{WellMade, Calls, calls_of, WellMadeList}
use Rattle.history.specs.Acceptance.{Sizes, AcceptedWith}

-- cell 1 has 10 at first, and every other 20
abbrev pub first_values : ℕ → ℕ
first_values c = cond (c == 1) 10 20

-- a register of two cells, two crews and two entries
abbrev pub small : Sizes
small = record { top = 2 ^ 62; cells = 2; crews = 2; entries = 2 }

---- Crossed reads: each of two jobs reads first-hand a cell that the other commits, so each must stand before the other

abbrev pub crossed_reads : Calls ℕ
crossed_reads = by 2 (commits tt) ∷ by 1 (commits tt) ∷ by 2 (writes 1 6) ∷ by 1 (writes 2 5) ∷ by 2 (reads 2 tt) ∷ by 1 (reads 1 tt) ∷ by 2 opens ∷ by 1 opens ∷ []

pub record CrossedReadsHaveNoOrder : Type 0 where
  pub well_made : WellMadeList 2 2 2 crossed_reads
  pub one_before_two : Precedes (by_jobs crossed_reads) 1 2
  pub two_before_one : Precedes (by_jobs crossed_reads) 2 1
  pub no_order : (row : List ℕ) → SerializationOrder (by_jobs crossed_reads) row → ⊥
  -- so no chooser that keeps the law has all calls accepted
  pub never_accepted : (f : Meaning) → KeepsLaw f → AcceptedWith f small first_values (λ w c. 0) crossed_reads → ⊥

---- Overtaking: job 2 reads cell 1 before job 1 has put 15 into it, commits after job 1, and stands before it

abbrev pub overtaking : History ℕ
overtaking = by 2 (commits 3) ∷ by 2 (reads 2 25) ∷ by 1 (commits 6) ∷ by 2 (writes 2 25) ∷ by 2 (reads 1 10) ∷ by 1 (writes 1 15) ∷ by 2 opens ∷ by 1 opens ∷ []

-- the same calls, job 1's before job 2's
abbrev pub taking_turns : Calls ℕ
taking_turns = by 2 (commits tt) ∷ by 2 (reads 2 tt) ∷ by 2 (writes 2 25) ∷ by 2 (reads 1 tt) ∷ by 2 opens ∷ by 1 (commits tt) ∷ by 1 (writes 1 15) ∷ by 1 opens ∷ []

-- admission of one job at a time: a job opens only while no crew has one open
abbrev pub OneAtATime : {V R P : Type 0} → Events V R P → Type 0
OneAtATime [] = Unit {0}
OneAtATime (by w o ∷ run) = (is_opening o ≡ true → (u : ℕ) → open_job run u ≡ 0) × OneAtATime run

pub record OvertakingHasAnOrder : Type 0 where
  -- the script 6, 3 has all calls accepted, and with the answers that stand there
  pub accepted : AcceptedWith (script_meaning (6 ∷ 3 ∷ [])) small first_values (λ w c. 0) (calls_of overtaking)
  pub the_same_run : accepted.run ≡ overtaking
  -- job 2 first, and then job 1
  pub order : SerializationOrder (by_jobs overtaking) (1 ∷ 2 ∷ [])
  pub explained : SeriallyExplained first_values (by_jobs overtaking) (1 ∷ 2 ∷ [])
  -- the order of the commits explains nothing: job 2 would be told 15
  pub not_as_committed : SeriallyExplained first_values (by_jobs overtaking) (2 ∷ 1 ∷ []) → ⊥
  pub refused_one_at_a_time : OneAtATime (calls_of overtaking) → ⊥
  pub admitted_in_turns : OneAtATime taking_turns

---- Read skew: job 2, which is still open, has read cell 1 before job 1 committed both cells, and cell 2 after that

abbrev pub read_skew : History ℕ
read_skew = by 2 (reads 2 25) ∷ by 1 (commits 5) ∷ by 1 (writes 2 25) ∷ by 1 (writes 1 15) ∷ by 2 (reads 1 10) ∷ by 2 opens ∷ by 1 opens ∷ []

-- each read told the cell's value of its moment, and yet no row that has job 2 in it, whatever else it has, explains what it was told
pub record ReadSkewIsNotExplained : Type 0 where
  pub well_made : WellMade read_skew
  pub reads_current : ReadsCurrent first_values (by_jobs read_skew)
  pub one_before_two : Precedes (by_jobs read_skew) 1 2
  pub two_before_one : Precedes (by_jobs read_skew) 2 1
  pub not_explained : (row : List ℕ) → In 2 row → SeriallyExplained first_values (by_jobs read_skew) row → ⊥
  pub no_order : (row : List ℕ) → SerializationOrder (by_jobs read_skew) row → ⊥
  pub never_accepted : (f : Meaning) → KeepsLaw f → AcceptedWith f small first_values (λ w c. 0) (calls_of read_skew) → ⊥

---- Real time: two jobs of different cells stand in the order of time if one ended before the other opened, and else in either order

abbrev pub in_turn : History ℕ
in_turn = by 2 (commits 2) ∷ by 2 (writes 2 25) ∷ by 2 opens ∷ by 1 (commits 1) ∷ by 1 (writes 1 15) ∷ by 1 opens ∷ []

-- here both get one place
abbrev pub at_once : History ℕ
at_once = by 2 (commits 1) ∷ by 1 (commits 1) ∷ by 2 (writes 2 25) ∷ by 1 (writes 1 15) ∷ by 2 opens ∷ by 1 opens ∷ []

pub record RealTimeIsKept : Type 0 where
  pub one_then_two : SerializationOrder (by_jobs in_turn) (2 ∷ 1 ∷ [])
  pub never_two_then_one : (row : List ℕ) → SerializationOrder (by_jobs in_turn) row → StandsBefore row 1 2
  pub at_once_one_then_two : SerializationOrder (by_jobs at_once) (2 ∷ 1 ∷ [])
  pub at_once_two_then_one : SerializationOrder (by_jobs at_once) (1 ∷ 2 ∷ [])
