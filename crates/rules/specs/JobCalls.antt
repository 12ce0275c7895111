-- The rules: what each job call answers and leaves, over any tables. All numbers are whole numbers, and no sum wraps.
-- In every rule w is the number of the crew that makes the call and c the number of a cell, and `pick` gives the place that the chooser would give now for a low and a high bound.
use Rattle.std.specs.Prelude.{ℕ, ◌+◌, ◌-◌, min, max, Bool, true, false, cond, not, ◌&&◌, ◌||◌, List, [], ◌∷◌, ◌++◌, Some, None, Ok, Err, Option, Result, ◌==◌, nat_lt, slice_set}
use Rattle.terms.specs.declared.numbers.Place.{Place}
use Rattle.terms.specs.declared.records.Standing.TheVariants.{Open as IsOpen}
use Rattle.terms.specs.declared.records.JobRecord.{JobRecord}
use Rattle.terms.specs.declared.records.Ending.{Ending}
use Rattle.terms.specs.declared.records.Ending.TheVariants.{Committed, Abandoned}
use Rattle.terms.specs.declared.records.Entry.{Entry}
use Rattle.terms.specs.declared.refusals.Refusal.{Refusal}
use Rattle.terms.specs.declared.refusals.Refusal.TheVariants.{NoCrew, NoCell, JobOpen, NoJob, PlacesSpent, BookFull, Stale, NoPlace, Damaged}
use Rattle.rules.specs.declared.calls.Call.{Call}
use Rattle.rules.specs.declared.calls.Call.TheVariants.{Open, Read, Write, Commit, Abandon}
use Rattle.rules.specs.declared.calls.Answer.{Answer}
use Rattle.rules.specs.declared.calls.Answer.TheVariants.{Opened, Told, Stored, Ended}
use Rattle.rules.specs.Limits.{top}
use Rattle.rules.specs.Heads.{StartedHead}
use Rattle.rules.specs.Contents.{closed_record}
use Rattle.rules.specs.Refusing.{Tests, first_refusal, if_refused, size_tests}
use Rattle.rules.specs.Tables.{at, put, each, spot, cleared, most, some, outside, with_read, with_written}
use Rattle.rules.specs.Registers.{Register, record_of, has_job, job_number, low_of, high_of, flag_of, has_read, has_written, own_of}

-- what a call does: its answer, the register afterwards except the book, the low and high bound that the chooser is asked with, if it is asked, and the entry that goes into the book, if any
pub record Outcome (V : Type 0) : Type 0 where
  pub answer : Result (Answer V) Refusal
  pub left : Register V
  pub asked : Option (ℕ × ℕ)
  pub entry : Option Entry

---- The tests

abbrev pub crew_of : {V : Type 0} → Call V → ℕ
crew_of (Open w) = w.0
crew_of (Read w c) = w.0
crew_of (Write w c v) = w.0
crew_of (Commit w) = w.0
crew_of (Abandon w) = w.0

abbrev pub is_opening : {V : Type 0} → Call V → Bool
is_opening (Open w) = true
is_opening (Read w c) = false
is_opening (Write w c v) = false
is_opening (Commit w) = false
is_opening (Abandon w) = false

-- the call names a cell, and there is none of that number
abbrev pub wrong_cell : {V : Type 0} → ℕ → Call V → Bool
wrong_cell cells (Open w) = false
wrong_cell cells (Read w c) = outside cells c.0
wrong_cell cells (Write w c v) = outside cells c.0
wrong_cell cells (Commit w) = false
wrong_cell cells (Abandon w) = false

-- the bounds of the crew's job have no place between them or are over the top, or the head counts no open job
abbrev pub damaged : {V : Type 0} → Register V → ℕ → Bool
damaged r w = nat_lt (high_of r w) (low_of r w + 2) || (nat_lt top (high_of r w) || r.head.active == 0)

-- the tests after those of the tables' lengths, in their order, of a call that opens a job or not, with a wrong cell or not
abbrev pub call_tests : {V : Type 0} → Register V → Bool → Bool → ℕ → Tests
call_tests r new wrong w =
    (outside r.head.sizes.crews w, NoCrew)
    ∷ (wrong, NoCell)
    ∷ (new && has_job r w, JobOpen)
    ∷ (not new && not (has_job r w), NoJob)
    ∷ (not new && damaged r w, Damaged)
    ∷ (new && nat_lt top (r.head.highest + 2), PlacesSpent)
    ∷ (new && (r.head.ended + r.head.active == r.head.sizes.entries), BookFull)
    ∷ []

-- a job call is refused by the first of these that holds; stale and no place come after them
abbrev pub tests_of : {V : Type 0} → Register V → Call V → Tests
tests_of r k = size_tests r.head.sizes r.tables ++ call_tests r (is_opening k) (wrong_cell r.head.sizes.cells k) (crew_of k)

-- a call that a test refuses alters nothing and asks for no place
abbrev pub refused : {V : Type 0} → Refusal → Register V → Outcome V
refused e r = record { answer = Err e; left = r; asked = None; entry = None }

---- Open: the next job number, and the bounds from the highest place given so far to the top

abbrev pub next_job : {V : Type 0} → Register V → ℕ
next_job r = r.head.ended + r.head.active + 1

abbrev pub new_record : {V : Type 0} → Register V → JobRecord
new_record r = record { standing = IsOpen; job = record { 0 = next_job r }; low = record { 0 = r.head.highest }; high = record { 0 = top } }

abbrev pub open_outcome : {V : Type 0} → Register V → ℕ → Outcome V
open_outcome r w = record {
  answer = Ok (Opened (record { 0 = next_job r }));
  left = record {
    head = record { sizes = r.head.sizes; highest = r.head.highest; ended = r.head.ended; active = r.head.active + 1 };
    tables = record {
      values = r.tables.values;
      written = r.tables.written;
      read = r.tables.read;
      jobs = put r.tables.jobs w (new_record r);
      own = r.tables.own;
      flags = r.tables.flags;
      book = r.tables.book;
    };
  };
  asked = None;
  entry = None;
}

---- What both endings do, at the place p

-- one job more has ended and one less is open; p may be the highest place
abbrev pub ended_head : StartedHead → ℕ → StartedHead
ended_head head p = record { sizes = head.sizes; highest = max head.highest p; ended = head.ended + 1; active = head.active - 1 }

-- the read place of each cell that the job has read first-hand is p at least
abbrev pub raised_reads : {V : Type 0} → Register V → ℕ → ℕ → List ℕ
raised_reads r w p = each (λ c place. cond (has_read r w c) (max place p) place) r.tables.read

abbrev pub entry_of : {V : Type 0} → Register V → ℕ → ℕ → Ending → Entry
entry_of r w p how = record { job = record { 0 = job_number r w }; crew = record { 0 = w }; place = record { 0 = p }; ending = how }

---- Abandon: the job ends between its bounds as they stand, and its values are let go

-- at the place p, with the answer that names it
abbrev pub abandoned_at : {V : Type 0} → Register V → ℕ → (Place → Result (Answer V) Refusal) → ℕ → Outcome V
abandoned_at r w say p = record {
  answer = say (record { 0 = p });
  left = record {
    head = ended_head r.head p;
    tables = record {
      values = r.tables.values;
      written = r.tables.written;
      read = raised_reads r w p;
      jobs = put r.tables.jobs w closed_record;
      own = r.tables.own;
      flags = cleared r.tables.flags r.head.sizes.cells w;
      book = r.tables.book;
    };
  };
  asked = Some (low_of r w, high_of r w);
  entry = Some (entry_of r w p Abandoned);
}

-- a read that is stale and a commit without a place end the job in this way too: only their answers differ
abbrev pub abandon_outcome : {V : Type 0} → (ℕ → ℕ → ℕ) → Register V → ℕ → (Place → Result (Answer V) Refusal) → Outcome V
abandon_outcome pick r w say = abandoned_at r w say (pick (low_of r w) (high_of r w))

---- Read: the job's own value where it has written the cell; else the cell's value, read first-hand, and the job's place will lie above the cell's written place

abbrev pub raised_low : {V : Type 0} → Register V → ℕ → ℕ → ℕ
raised_low r w c = max (low_of r w) (at r.tables.written c 0)

abbrev pub raised_record : {V : Type 0} → Register V → ℕ → ℕ → JobRecord
raised_record r w c = record { standing = (record_of r w).standing; job = (record_of r w).job; low = record { 0 = raised_low r w c }; high = (record_of r w).high }

abbrev pub read_own : {V : Type 0} → V → Register V → ℕ → ℕ → Outcome V
read_own d r w c = record { answer = Ok (Told (own_of d r w c)); left = r; asked = None; entry = None }

abbrev pub read_cell : {V : Type 0} → V → Register V → ℕ → ℕ → Outcome V
read_cell d r w c = record {
  answer = Ok (Told (at r.tables.values c d));
  left = record {
    head = r.head;
    tables = record {
      values = r.tables.values;
      written = r.tables.written;
      read = r.tables.read;
      jobs = put r.tables.jobs w (raised_record r w c);
      own = r.tables.own;
      flags = slice_set r.tables.flags (spot r.head.sizes.cells w c) (with_read (flag_of r w c));
      book = r.tables.book;
    };
  };
  asked = None;
  entry = None;
}

-- stale: with its low bound raised the job would have no place left, so that it ends, with its bounds and flags as they stood before the call
abbrev pub read_outcome : {V : Type 0} → V → (ℕ → ℕ → ℕ) → Register V → ℕ → ℕ → Outcome V
read_outcome d pick r w c = cond (has_written r w c) (read_own d r w c)
    (cond (nat_lt (high_of r w) (raised_low r w c + 2)) (abandon_outcome pick r w (λ p. Err (Stale p))) (read_cell d r w c))

---- Write: into the job's own values, and no other job sees it

abbrev pub write_outcome : {V : Type 0} → Register V → ℕ → ℕ → V → Outcome V
write_outcome r w c v = record {
  answer = Ok Stored;
  left = record {
    head = r.head;
    tables = record {
      values = r.tables.values;
      written = r.tables.written;
      read = r.tables.read;
      jobs = r.tables.jobs;
      own = slice_set r.tables.own (spot r.head.sizes.cells w c) v;
      flags = slice_set r.tables.flags (spot r.head.sizes.cells w c) (with_written (flag_of r w c));
      book = r.tables.book;
    };
  };
  asked = None;
  entry = None;
}

---- Commit: the job's own values go into the cells that it has written

-- crew u has read first-hand a cell that crew w has written
abbrev pub touches : {V : Type 0} → Register V → ℕ → ℕ → Bool
touches r w u = some (λ c. has_read r u c && has_written r w c) r.head.sizes.cells

-- u is another crew than w, has a job open, and has read first-hand a cell that w has written
abbrev pub other_reader : {V : Type 0} → Register V → ℕ → ℕ → Bool
other_reader r w u = not (w == u) && (has_job r u && touches r w u)

-- the low bound that the chooser is asked with: the largest of the job's low; the written and the read place of each cell that it has written;
-- and low + 1 of every other open job that has read one of those first-hand. Where nothing is written it is the job's low.
abbrev pub commit_low : {V : Type 0} → Register V → ℕ → ℕ
commit_low r w = max (low_of r w) (max
    (most (λ c. cond (has_written r w c) (max (at r.tables.written c 0) (at r.tables.read c 0)) 0) r.head.sizes.cells)
    (most (λ u. cond (other_reader r w u) (low_of r u + 1) 0) r.head.sizes.crews))

-- a job that has read what is overwritten at p must end below p
abbrev pub lowered : ℕ → JobRecord → JobRecord
lowered p j = record { standing = j.standing; job = j.job; low = j.low; high = record { 0 = min j.high.0 p } }

abbrev pub committed_at : {V : Type 0} → V → Register V → ℕ → ℕ → Outcome V
committed_at d r w p = record {
  answer = Ok (Ended (record { 0 = p }));
  left = record {
    head = ended_head r.head p;
    tables = record {
      values = each (λ c v. cond (has_written r w c) (own_of d r w c) v) r.tables.values;
      written = each (λ c place. cond (has_written r w c) p place) r.tables.written;
      read = raised_reads r w p;
      jobs = put (each (λ u j. cond (other_reader r w u) (lowered p j) j) r.tables.jobs) w closed_record;
      own = r.tables.own;
      flags = cleared r.tables.flags r.head.sizes.cells w;
      book = r.tables.book;
    };
  };
  asked = Some (commit_low r w, high_of r w);
  entry = Some (entry_of r w p Committed);
}

-- no place: none lies between the two, so that the job ends as abandon ends it
abbrev pub commit_outcome : {V : Type 0} → V → (ℕ → ℕ → ℕ) → Register V → ℕ → Outcome V
commit_outcome d pick r w = cond (nat_lt (high_of r w) (commit_low r w + 2))
    (abandon_outcome pick r w (λ p. Err (NoPlace p)))
    (committed_at d r w (pick (commit_low r w) (high_of r w)))

---- Every job call

-- one that no test refuses
abbrev pub accepted : {V : Type 0} → V → (ℕ → ℕ → ℕ) → Register V → Call V → Outcome V
accepted d pick r (Open w) = open_outcome r w.0
accepted d pick r (Read w c) = read_outcome d pick r w.0 c.0
accepted d pick r (Write w c v) = write_outcome r w.0 c.0 v
accepted d pick r (Commit w) = commit_outcome d pick r w.0
accepted d pick r (Abandon w) = abandon_outcome pick r w.0 (λ p. Ok (Ended p))

abbrev pub outcome : {V : Type 0} → V → (ℕ → ℕ → ℕ) → Register V → Call V → Outcome V
outcome d pick r k = if_refused (first_refusal (tests_of r k)) (λ e. refused e r) (accepted d pick r k)
