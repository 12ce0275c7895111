-- What the jobs of a run did, as a history. The newest stands first.
use Rattle.std.specs.Prelude.{◌≡◌, ℕ, suc, List, [], ◌∷◌, Some, None, Ok, Err, Option, Result}
use Rattle.terms.specs.declared.refusals.TableName.{TableName}
use Rattle.terms.specs.declared.refusals.Refusal.{Refusal}
use Rattle.terms.specs.declared.refusals.Refusal.TheVariants.{NoCrew, NoCell, JobOpen, NoJob, PlacesSpent, BookFull, Stale, NoPlace, WrongTable, Damaged, BadLine, PaperFull, BadSize, NotFilled}
use Rattle.history.specs.Events.{Operation, History, openings}
use Rattle.history.specs.Events.Operation.{opens, reads, writes, commits, abandons}
use Rattle.history.specs.Events.Event.{by}
use Rattle.history.specs.WellMade.{Calls, asked}
use Rattle.rules.specs.declared.calls.Call.{Call}
use Rattle.rules.specs.declared.calls.Call.TheVariants.{Open, Read, Write, Commit, Abandon}
use Rattle.rules.specs.declared.calls.Answer.{Answer}
use Rattle.rules.specs.declared.calls.Answer.TheVariants.{Opened, Told, Stored, Ended}
use Rattle.rules.specs.Contents.{Fits}
use Rattle.rules.specs.Registers.{Register, low_of, high_of}
use Rattle.rules.specs.JobCalls.{Outcome, crew_of, refused, abandon_outcome, outcome}
use Rattle.rules.specs.Runs.{Step}

---- The history of a run

-- stale and no place end the job, and so count as an abandon; any other refused call is no step
abbrev pub operation_refused : {V : Type 0} → Refusal → Option (Operation V V ℕ)
operation_refused NoCrew = None
operation_refused NoCell = None
operation_refused JobOpen = None
operation_refused NoJob = None
operation_refused PlacesSpent = None
operation_refused BookFull = None
operation_refused (Stale p) = Some (abandons p.0)
operation_refused (NoPlace p) = Some (abandons p.0)
operation_refused (WrongTable t) = None
operation_refused Damaged = None
operation_refused (BadLine b) = None
operation_refused PaperFull = None
operation_refused BadSize = None
operation_refused NotFilled = None

-- what the call did, by its answer: a read told this value, an ending was given this place
abbrev pub operation_of : {V : Type 0} → Call V → Result (Answer V) Refusal → Option (Operation V V ℕ)
operation_of k (Err e) = operation_refused e
operation_of (Open w) (Ok (Opened job)) = Some opens
operation_of (Open w) (Ok (Told value)) = None
operation_of (Open w) (Ok Stored) = None
operation_of (Open w) (Ok (Ended p)) = None
operation_of (Read w c) (Ok (Opened job)) = None
operation_of (Read w c) (Ok (Told value)) = Some (reads c.0 value)
operation_of (Read w c) (Ok Stored) = None
operation_of (Read w c) (Ok (Ended p)) = None
operation_of (Write w c v) (Ok (Opened job)) = None
operation_of (Write w c v) (Ok (Told value)) = None
operation_of (Write w c v) (Ok Stored) = Some (writes c.0 v)
operation_of (Write w c v) (Ok (Ended p)) = None
operation_of (Commit w) (Ok (Opened job)) = None
operation_of (Commit w) (Ok (Told value)) = None
operation_of (Commit w) (Ok Stored) = None
operation_of (Commit w) (Ok (Ended p)) = Some (commits p.0)
operation_of (Abandon w) (Ok (Opened job)) = None
operation_of (Abandon w) (Ok (Told value)) = None
operation_of (Abandon w) (Ok Stored) = None
operation_of (Abandon w) (Ok (Ended p)) = Some (abandons p.0)

abbrev pub with_operation : {V : Type 0} → ℕ → Option (Operation V V ℕ) → History V → History V
with_operation w None h = h
with_operation w (Some e) h = by w e ∷ h

abbrev pub history_of : {V : Type 0} → List (Step V) → History V
history_of [] = []
history_of (step ∷ log) = with_operation (crew_of step.0) (operation_of step.0 step.1) (history_of log)

-- each accepted opening was answered the number of its job: one more than the openings before it
abbrev pub NumberedSo : {V : Type 0} → Result (Answer V) Refusal → ℕ → Type 0
NumberedSo (Err e) before = Unit {0}
NumberedSo (Ok (Opened job)) before = job.0 ≡ suc before
NumberedSo (Ok (Told v)) before = Unit {0}
NumberedSo (Ok Stored) before = Unit {0}
NumberedSo (Ok (Ended p)) before = Unit {0}

abbrev pub Numbered : {V : Type 0} → List (Step V) → Type 0
Numbered [] = Unit {0}
Numbered (step ∷ log) = NumberedSo step.1 (openings (history_of log)) × Numbered log

---- Calls without their answers

abbrev pub operation : {V : Type 0} → Call V → Operation V (Unit {0}) (Unit {0})
operation (Open w) = opens
operation (Read w c) = reads c.0 tt
operation (Write w c v) = writes c.0 v
operation (Commit w) = commits tt
operation (Abandon w) = abandons tt

-- a list of calls as what its crews would do
abbrev pub events_of : {V : Type 0} → List (Call V) → Calls V
events_of [] = []
events_of (k ∷ ks) = by (crew_of k) (operation k) ∷ events_of ks

-- the calls of a run, without their answers
abbrev pub made_by : {V : Type 0} → List (Step V) → List (Call V)
made_by [] = []
made_by (step ∷ log) = step.0 ∷ made_by log

---- What a history leaves out, and what it has

-- of a refusal: where it is no step, the call altered nothing and asked for no place; where it counts as an abandon, the call did what abandon does, and ended the job at that place
abbrev pub RefusalIsTrue : {V : Type 0} → (ℕ → ℕ → ℕ) → Register V → Call V → Outcome V → Refusal → Option (Operation V V ℕ) → Type 0
RefusalIsTrue pick r k o e None = o ≡ refused e r
RefusalIsTrue pick r k o e (Some step) = (o ≡ abandon_outcome pick r (crew_of k) (λ p. Err e)) × (step ≡ abandons (pick (low_of r (crew_of k)) (high_of r (crew_of k))))

-- of an answer: the call is a step, namely the operation that it asks for
abbrev pub AnswerIsTrue : {V : Type 0} → (ℕ → ℕ → ℕ) → Register V → Call V → Outcome V → Result (Answer V) Refusal → Type 0
AnswerIsTrue {V} pick r k o (Ok a) = (step : Operation V V ℕ) × (operation_of k (Ok a) ≡ Some step) × (asked step ≡ operation k)
AnswerIsTrue pick r k o (Err e) = RefusalIsTrue pick r k o e (operation_refused e)

pub record HistoriesAreTrue (V : Type 0) : Type 0 where
  pub answers : (d : V) (pick : ℕ → ℕ → ℕ) (r : Register V) (k : Call V) → AnswerIsTrue pick r k (outcome d pick r k) (outcome d pick r k).answer
  -- a call that is handed a table of another length than the head's alters nothing, and is answered so
  pub wrong_tables : (d : V) (pick : ℕ → ℕ → ℕ) (r : Register V) (k : Call V) → (Fits r.head.sizes r.tables → ⊥) → (table : TableName) × (outcome d pick r k ≡ refused (WrongTable table) r)
