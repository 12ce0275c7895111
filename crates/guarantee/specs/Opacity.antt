-- Opacity: at every moment of every run, the jobs could have been done one after the other, in the day book's order.
use Rattle.std.specs.Prelude.{◌≡◌, ℕ, ◌≤◌, Bool, true, false, cond, List, [], ◌∷◌, ◌++◌, take, is_some, Some}
use Rattle.terms.specs.declared.records.Ending.{Ending}
use Rattle.terms.specs.declared.records.Ending.TheVariants.{Committed, Abandoned}
use Rattle.terms.specs.declared.records.Entry.{Entry}
use Rattle.choosers.specs.Meaning.{Meaning, KeepsLaw}
use Rattle.history.specs.Events.{History, by_jobs, crew_of}
use Rattle.history.specs.Events.Operation.{opens}
use Rattle.history.specs.Projections.{projection, is_committed, end_place}
use Rattle.history.specs.Values.{observed}
use Rattle.history.specs.Precedence.{Extends, Occurs, Ended, In, StandsBefore, Once, Respects, SerializationOrder}
use Rattle.history.specs.SerialExecution.{execute_job, execute_serially}
use Rattle.rules.specs.Making.{JustStarted}
use Rattle.rules.specs.Tables.{at}
use Rattle.rules.specs.Registers.{Register}
use Rattle.rules.specs.Performing.{All, Ascending}
use Rattle.rules.specs.Runs.{Step, Run}
use Rattle.guarantee.specs.Histories.{history_of, Numbered}

---- The day book

-- the book's first entries, as many as jobs have ended
abbrev pub day_book : {V : Type 0} → Register V → List Entry
day_book r = take r.head.ended r.tables.book

-- its jobs in its order; like every order here it has the last first
abbrev pub order_of : List Entry → List ℕ
order_of [] = []
order_of (e ∷ es) = order_of es ++ (e.job.0 ∷ [])

abbrev pub says_committed : Ending → Bool
says_committed Committed = true
says_committed Abandoned = false

-- the entry has the crew that opened its job, the place that the job's ending was given, and how it ended
pub record Names {V : Type 0} (h : History V) (e : Entry) : Type 0 where
  pub crew_is : crew_of h e.job.0 ≡ e.crew.0
  pub place_is : end_place (projection (by_jobs h) e.job.0) ≡ Some e.place.0
  pub ending_is : is_committed (projection (by_jobs h) e.job.0) ≡ says_committed e.ending

---- Ended jobs

-- job x has ended: it was given a place
abbrev pub has_ended : {V : Type 0} → History V → ℕ → Bool
has_ended h x = is_some (end_place (projection h x))

-- the ended jobs of an order, in that order
abbrev pub ended_part : {V : Type 0} → History V → List ℕ → List ℕ
ended_part h [] = []
ended_part h (x ∷ order) = cond (has_ended h x) (x ∷ ended_part h order) (ended_part h order)

---- Explaining

-- the values of a register's cells
abbrev pub cell_values : {V : Type 0} → V → Register V → ℕ → V
cell_values d r c = at r.tables.values c d

-- done one after the other in this order, from the values of the register s, each of the jobs is told what it was told, and the cells have the values of the register r
pub record Explains {V : Type 0} (d : V) (s : Register V) (h : History V) (r : Register V) (order : List ℕ) : Type 0 where
  pub told_the_same : (y : ℕ) (earlier : List ℕ) → Extends order (y ∷ earlier) → (execute_job (execute_serially (projection h) (cell_values d s) earlier) (projection h y)).observed ≡ observed (projection h y)
  pub left_the_same : (c : ℕ) → 1 ≤ c → c ≤ r.head.sizes.cells → execute_serially (projection h) (cell_values d s) order c ≡ cell_values d r c

-- the register s was started, and stands as r after the calls of the log: the day book has the ended jobs in an order that explains them
pub record DayBookExplains {V : Type 0} (d : V) (s : Register V) (log : List (Step V)) (r : Register V) : Type 0 where
  -- it has the ended jobs, each once, and no others
  pub once : Once (order_of (day_book r))
  pub all_ended : (x : ℕ) → has_ended (by_jobs (history_of log)) x ≡ true → In x (order_of (day_book r))
  pub only_ended : (x : ℕ) → In x (order_of (day_book r)) → has_ended (by_jobs (history_of log)) x ≡ true
  -- each job has the number that its opening was answered, and each entry the job's crew, its place, and how it ended
  pub numbers_true : Numbered log
  pub entries_true : All (Names (history_of log)) (day_book r)
  -- the places ascend
  pub places_ascend : Ascending (day_book r)
  -- a job that precedes another stands before it
  pub keeps_precedence : Respects (by_jobs (history_of log)) (order_of (day_book r))
  pub explains : Explains d s (by_jobs (history_of log)) r (order_of (day_book r))

-- the order has all jobs, ended and open, and explains them
pub record OrderExplains {V : Type 0} (d : V) (s : Register V) (log : List (Step V)) (r : Register V) (order : List ℕ) : Type 0 where
  -- every job once, and every precedence kept
  pub serialization_order : SerializationOrder (by_jobs (history_of log)) order
  -- the ended jobs in the day book's order
  pub day_book_order : ended_part (by_jobs (history_of log)) order ≡ order_of (day_book r)
  -- a job that had ended when another was opened stands before it
  pub real_time : (x y : ℕ) (until : History V) → Occurs (by_jobs (history_of log)) y opens until → Ended until x → StandsBefore order x y
  pub explains : Explains d s (by_jobs (history_of log)) r order

abbrev pub Explained : {V : Type 0} → V → Register V → List (Step V) → Register V → Type 0
Explained d s log r = DayBookExplains d s log r × ((order : List ℕ) × OrderExplains d s log r order)

---- The theorems

-- after every run of a register just started, and a run may stop at any call
abbrev pub EveryRunIsOpaque : Type 0 → Type 0
EveryRunIsOpaque V = (d : V) (s : Register V) (f₀ : Meaning) → JustStarted s.head s.tables → KeepsLaw f₀ →
    (log : List (Step V)) (r : Register V) (f : Meaning) → Run d s f₀ log r f → Explained d s log r

-- and at each moment of it: after the older part of the calls the run stood at a register q, from which the newer ones led on, and which is explained
abbrev pub EveryMomentIsOpaque : Type 0 → Type 0
EveryMomentIsOpaque V = (d : V) (s : Register V) (f₀ : Meaning) → JustStarted s.head s.tables → KeepsLaw f₀ →
    (newer older : List (Step V)) (r : Register V) (f : Meaning) → Run d s f₀ (newer ++ older) r f →
    (q : Register V) × (g : Meaning) × Run d s f₀ older q g × Run d q g newer r f × Explained d s older q
