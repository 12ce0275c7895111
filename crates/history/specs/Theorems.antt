-- The theorems, each for every type V of values. The functions of src/ that have them for contracts have the same names in small letters.
use Rattle.std.specs.Prelude.{ℕ, ◌+◌, ◌≤◌, ◌↔◌, List, reverse}
use Rattle.choosers.specs.Meaning.{Meaning, KeepsLaw}
use Rattle.choosers.specs.Script.{script_meaning}
use Rattle.history.specs.Events.{History, openings, by_jobs}
use Rattle.history.specs.Projections.{WellFormed}
use Rattle.history.specs.Values.{ReadsCurrent}
use Rattle.history.specs.Precedence.{In, Once, Respects, SerializationOrder}
use Rattle.history.specs.SerialExecution.{SeriallyExplained, Opaque}
use Rattle.history.specs.WellMade.{WellMade, Calls, calls_of, WellMadeList}
use Rattle.history.specs.Bounds.{Placed, sort_key, Ascending, Bounds, Tracked, bounds_by_job, CrewRun}
use Rattle.history.specs.Views.{RegisterView, ViewRun, ViewAgrees}
use Rattle.history.specs.Acceptance.{AcceptedAt, position, positions, Sizes, RunWith, AcceptedWith}

---- Serial execution explains what a register told

-- a well-made run of crews is a well-formed history of jobs
abbrev pub WellMadeRunsAreWellFormed : Type 0 → Type 0
WellMadeRunsAreWellFormed V = (run : History V) → WellMade run → WellFormed (by_jobs run)

-- Where every read was current, serial execution in any row that respects the four rules tells each job what it was told
-- and leaves the values that the cells have.
abbrev pub RespectfulOrdersExplain : Type 0 → Type 0
RespectfulOrdersExplain V = (first : ℕ → V) (h : History V) (row : List ℕ) → WellFormed h → ReadsCurrent first h → Respects h row → SeriallyExplained first h row

-- So it does in every serialization order.
abbrev pub SerializationOrdersExplain : Type 0 → Type 0
SerializationOrdersExplain V = (first : ℕ → V) (h : History V) (row : List ℕ) → WellFormed h → ReadsCurrent first h → SerializationOrder h row → SeriallyExplained first h row

-- Where places and bounds agree with the four rules, every row of all the jobs that ascends by place, the open ones right above their low,
-- is a serialization order, however jobs of one place stand.
abbrev pub AscendingRowsAreOrders : Type 0 → Type 0
AscendingRowsAreOrders V = (h : History V) (low high : ℕ → ℕ) → Placed h low high → (row : List ℕ) → Once row →
    ((x : ℕ) → 1 ≤ x → x ≤ openings h → In x row) → ((x : ℕ) → In x row → (1 ≤ x) × (x ≤ openings h)) → Ascending (sort_key h low) row → SerializationOrder h row

-- And there is such a row, which explains what was told.
abbrev pub PlacesGiveAnOrder : Type 0 → Type 0
PlacesGiveAnOrder V = (first : ℕ → V) (h : History V) (low high : ℕ → ℕ) → WellFormed h → ReadsCurrent first h → Placed h low high →
    (row : List ℕ) × SerializationOrder h row × Ascending (sort_key h low) row × SeriallyExplained first h row

---- Opacity

-- bounds of crews that every call moves as it should agree, taken by job, with the four rules
abbrev pub MovedBoundsAgree : Type 0 → Type 0
MovedBoundsAgree V = (top : ℕ) (run : History V) (b : Bounds) → 2 ≤ top → WellMade run → CrewRun top run b → Tracked (by_jobs run) (bounds_by_job top run b)

-- so a run whose every call moves the bounds as it should, and whose every read is current, is opaque
abbrev pub BoundsAreOpaque : Type 0 → Type 0
BoundsAreOpaque V = (first : ℕ → V) (top : ℕ) (run : History V) (b : Bounds) → 2 ≤ top → WellMade run → ReadsCurrent first (by_jobs run) → CrewRun top run b → Opaque first run

-- after whatever calls a register accepts, its tables agree with what happened
abbrev pub ViewsAgree : Type 0 → Type 0
ViewsAgree V = (first : ℕ → V) (own : ℕ → ℕ → V) (top n : ℕ) (run : History V) (s : RegisterView V) → 2 ≤ top → ViewRun top n first own run s → ViewAgrees top first run s

-- and whatever calls it accepts, its run is opaque
abbrev pub ViewsAreOpaque : Type 0 → Type 0
ViewsAreOpaque V = (first : ℕ → V) (own : ℕ → ℕ → V) (top n : ℕ) (run : History V) (s : RegisterView V) → 2 ≤ top → ViewRun top n first own run s → Opaque first run

---- Permissiveness: what has an order can be accepted

-- the four rules look at the calls alone: a run and its calls without their answers have the same serialization orders
abbrev pub AnswersDoNotMatter : Type 0 → Type 0
AnswersDoNotMatter V = (run : History V) (row : List ℕ) → SerializationOrder (by_jobs run) row ↔ SerializationOrder (by_jobs (calls_of run)) row

-- a well-made list has a serialization order if and only if there are places at which a register accepts every call of it
abbrev pub ViewsArePermissive : Type 0 → Type 0
ViewsArePermissive V = (first : ℕ → V) (own : ℕ → ℕ → V) (top cells crews entries : ℕ) (calls : Calls V) → entries + 2 ≤ top → WellMadeList cells crews entries calls →
    ((row : List ℕ) × SerializationOrder (by_jobs calls) row) ↔ ((places : List ℕ) × AcceptedAt top cells first own calls places)

-- and such places are the positions of the jobs in a serialization order, whichever that is
abbrev pub PositionsAreAccepted : Type 0 → Type 0
PositionsAreAccepted V = (first : ℕ → V) (own : ℕ → ℕ → V) (top cells crews entries : ℕ) (calls : Calls V) → entries + 2 ≤ top → WellMadeList cells crews entries calls →
    (row : List ℕ) → SerializationOrder (by_jobs calls) row → AcceptedAt top cells first own calls (positions (position row) calls)

-- a well-made list has a serialization order if and only if there is a script with which a register that asks it for each place accepts every call of the list
abbrev pub ScriptsArePermissive : Type 0 → Type 0
ScriptsArePermissive V = (first : ℕ → V) (own : ℕ → ℕ → V) (z : Sizes) (calls : Calls V) → z.entries + 2 ≤ z.top → WellMadeList z.cells z.crews z.entries calls →
    ((row : List ℕ) × SerializationOrder (by_jobs calls) row) ↔ ((numbers : List ℕ) × AcceptedWith (script_meaning numbers) z first own calls)

-- and such a script has the positions of the jobs in a serialization order, as the jobs end
abbrev pub PositionsMakeAScript : Type 0 → Type 0
PositionsMakeAScript V = (first : ℕ → V) (own : ℕ → ℕ → V) (z : Sizes) (calls : Calls V) → z.entries + 2 ≤ z.top → WellMadeList z.cells z.crews z.entries calls →
    (row : List ℕ) → SerializationOrder (by_jobs calls) row → AcceptedWith (script_meaning (reverse (positions (position row) calls))) z first own calls

---- With any chooser that keeps the law

-- a run with a chooser is a run at the places that the chooser gave, so that all that is said of views holds of it
abbrev pub ChosenRunsAreViewRuns : Type 0 → Type 0
ChosenRunsAreViewRuns V = (f₀ : Meaning) (first : ℕ → V) (own : ℕ → ℕ → V) (z : Sizes) (run : History V) (s : RegisterView V) (f : Meaning) → KeepsLaw f₀ →
    RunWith f₀ z first own run s f → ViewRun z.top z.cells first own run s

-- so a list whose every call is accepted has a serialization order
abbrev pub ChosenPlacesGiveAnOrder : Type 0 → Type 0
ChosenPlacesGiveAnOrder V = (f₀ : Meaning) (first : ℕ → V) (own : ℕ → ℕ → V) (z : Sizes) (calls : Calls V) → KeepsLaw f₀ → 2 ≤ z.top →
    AcceptedWith f₀ z first own calls → (row : List ℕ) × SerializationOrder (by_jobs calls) row
