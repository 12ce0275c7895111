-- A started register as it is lent to a call, and what is known of it once no test has refused the call.
use Rattle.std.specs.Prelude.{ℕ, ◌+◌, ◌<◌, ◌≤◌, Bool, false, ◌++◌, Result}
use Rattle.terms.specs.declared.refusals.Refusal.{Refusal}
use Rattle.choosers.specs.Meaning.{Meaning}
use Rattle.rules.specs.declared.head.Started.{Started}
use Rattle.rules.specs.declared.tables.Tables.{Tables}
use Rattle.rules.specs.declared.calls.Call.{Call}
use Rattle.rules.specs.declared.calls.Answer.{Answer}
use Rattle.rules.specs.Limits.{top}
use Rattle.rules.specs.Contents.{Fits}
use Rattle.rules.specs.Refusing.{Tests, size_tests}
use Rattle.rules.specs.Registers.{register_of, Register, low_of, high_of}
use Rattle.rules.specs.JobCalls.{call_tests}
use Rattle.rules.specs.Performing.{Performs}

-- every table has the length that the head says
abbrev pub AllFit : {V : Type 0} → Register V → Type 0
AllFit r = Fits r.head.sizes r.tables

-- the tests of every call but an opening
abbrev pub job_tests : {V : Type 0} → Register V → Bool → ℕ → Tests
job_tests r wrong w = size_tests r.head.sizes r.tables ++ call_tests r false wrong w

-- crew w may open a job
pub record MayOpen {V : Type 0} (r : Register V) (w : ℕ) : Type 0 where
  pub fits : AllFit r
  pub crew : w ≤ r.head.sizes.crews
  pub room : r.head.ended + r.head.active < r.head.sizes.entries

-- crew w may go on with its job: a place lies between its bounds, and the head counts the job
pub record MayGoOn {V : Type 0} (r : Register V) (w : ℕ) : Type 0 where
  pub fits : AllFit r
  pub crew : w ≤ r.head.sizes.crews
  pub room : low_of r w + 2 ≤ high_of r w
  pub under_top : high_of r w ≤ top
  pub counted : 1 ≤ r.head.active

-- the call k, made on a head, tables and a chooser's meaning, is answered a and leaves the others
abbrev pub CallPerformed : (V : Type 0) → Started → Tables V → Meaning → Call V → Result (Answer V) Refusal → Started → Tables V → Meaning → Type 0
CallPerformed V head t f k a head' t' f' = (d : V) → Performs d (register_of V head t) f k a (register_of V head' t') f'
