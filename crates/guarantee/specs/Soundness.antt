-- Soundness: no call ever damages a register that was just started.
use Rattle.std.specs.Prelude.{◌≡◌, ℕ, ◌+◌, ◌≤◌, List, length, Err, ◌≢◌}
use Rattle.terms.specs.declared.refusals.TableName.{TableName}
use Rattle.terms.specs.declared.refusals.Refusal.TheVariants.{WrongTable, Damaged}
use Rattle.choosers.specs.Meaning.{Meaning, KeepsLaw}
use Rattle.history.specs.Events.{openings}
use Rattle.rules.specs.declared.calls.Call.{Call}
use Rattle.rules.specs.Contents.{Fits}
use Rattle.rules.specs.Making.{JustStarted}
use Rattle.rules.specs.Registers.{Register}
use Rattle.rules.specs.JobCalls.{outcome}
use Rattle.rules.specs.Performing.{All}
use Rattle.rules.specs.Runs.{Step, Run}
use Rattle.guarantee.specs.RuleFacts.{SoundHead}
use Rattle.guarantee.specs.Histories.{history_of}
use Rattle.guarantee.specs.Opacity.{day_book}

-- the register s was started, and stands as r after the calls of the log
pub record IsSound {V : Type 0} (s : Register V) (log : List (Step V)) (r : Register V) : Type 0 where
  -- its sizes are those of the start, and its tables fit them
  pub same_sizes : r.head.sizes ≡ s.head.sizes
  pub tables_fit : Fits r.head.sizes r.tables
  -- the head's numbers: every place is under the top, and the book has room for all jobs that were opened
  pub head_sound : SoundHead r.head
  -- the head counts the jobs that were opened, and among them those in the day book
  pub jobs_counted : r.head.ended + r.head.active ≡ openings (history_of log)
  pub ended_counted : length (day_book r) ≡ r.head.ended
  -- no place of the day book is over the highest
  pub highest_place : All (λ e. e.place.0 ≤ r.head.highest) (day_book r)
  -- the next call, whichever it is, finds no wrong table and no damaged record
  pub no_wrong_table : (d : V) (pick : ℕ → ℕ → ℕ) (k : Call V) (table : TableName) → (outcome d pick r k).answer ≢ Err (WrongTable table)
  pub not_damaged : (d : V) (pick : ℕ → ℕ → ℕ) (k : Call V) → (outcome d pick r k).answer ≢ Err Damaged

abbrev pub EveryRunIsSound : Type 0 → Type 0
EveryRunIsSound V = (d : V) (s : Register V) (f₀ : Meaning) → JustStarted s.head s.tables → KeepsLaw f₀ →
    (log : List (Step V)) (r : Register V) (f : Meaning) → Run d s f₀ log r f → IsSound s log r
