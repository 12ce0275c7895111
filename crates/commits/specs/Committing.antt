-- What a commit does to the register besides what every ending does.
use Rattle.std.specs.Prelude.{◌≡◌, ℕ, ◌+◌, ◌≤◌, cond, List, [], Some}
use Rattle.terms.specs.declared.records.JobRecord.{JobRecord}
use Rattle.terms.specs.declared.records.Ending.TheVariants.{Committed}
use Rattle.choosers.specs.Meaning.{Meaning}
use Rattle.rules.specs.Tables.{each}
use Rattle.rules.specs.Registers.{Register, high_of, has_written, own_of}
use Rattle.rules.specs.JobCalls.{other_reader, lowered, commit_low, entry_of}
use Rattle.rules.specs.Performing.{Inserted, moved_if, with_book}
use Rattle.admission.specs.Lent.{MayGoOn}
use Rattle.endings.specs.Endings.{ended_at}

---- One table changed

abbrev pub with_values : {V : Type 0} → Register V → List V → Register V
with_values r xs = record {
  head = r.head;
  tables = record { values = xs; written = r.tables.written; read = r.tables.read; jobs = r.tables.jobs; own = r.tables.own; flags = r.tables.flags; book = r.tables.book };
}

abbrev pub with_written_places : {V : Type 0} → Register V → List ℕ → Register V
with_written_places r xs = record {
  head = r.head;
  tables = record { values = r.tables.values; written = xs; read = r.tables.read; jobs = r.tables.jobs; own = r.tables.own; flags = r.tables.flags; book = r.tables.book };
}

abbrev pub with_jobs : {V : Type 0} → Register V → List JobRecord → Register V
with_jobs r xs = record {
  head = r.head;
  tables = record { values = r.tables.values; written = r.tables.written; read = r.tables.read; jobs = xs; own = r.tables.own; flags = r.tables.flags; book = r.tables.book };
}

---- What the commit of crew w's job at p makes of one cell, and of the record of crew u

abbrev pub stored_value : {V : Type 0} → V → ℕ → Register V → ℕ → V → V
stored_value d w r c v = cond (has_written r w c) (own_of d r w c) v

abbrev pub written_place : {V : Type 0} → ℕ → ℕ → Register V → ℕ → ℕ → ℕ
written_place w p r c x = cond (has_written r w c) p x

abbrev pub lowered_record : {V : Type 0} → ℕ → ℕ → Register V → ℕ → JobRecord → JobRecord
lowered_record w p r u j = cond (other_reader r w u) (lowered p j) j

---- The whole

-- the register after crew w's values are stored at p and the highs of other readers are lowered
abbrev pub stored_at : {V : Type 0} → V → Register V → ℕ → ℕ → Register V
stored_at d r w p = record {
  head = r.head;
  tables = record {
    values = each (stored_value d w r) r.tables.values;
    written = each (written_place w p r) r.tables.written;
    read = r.tables.read;
    jobs = each (lowered_record w p r) r.tables.jobs;
    own = r.tables.own;
    flags = r.tables.flags;
    book = r.tables.book;
  };
}

-- crew w's job may be committed above low
pub record MayCommit {V : Type 0} (r : Register V) (w low : ℕ) : Type 0 where
  pub goes_on : MayGoOn r w
  pub bound : low ≡ commit_low r w
  pub room : low + 2 ≤ high_of r w

-- crew w's job was committed at p
pub record CommittedAt {V : Type 0} (d : V) (r : Register V) (f : Meaning) (w p : ℕ) (r' : Register V) (f' : Meaning) : Type 0 where
  pub place : p ≡ f [] (commit_low r w) (high_of r w)
  pub leaves : r' ≡ with_book (ended_at (stored_at d r w p) w p) r'.tables.book
  pub asks : f' ≡ moved_if f (Some (commit_low r w, high_of r w))
  pub enters : Inserted r.head.ended (entry_of r w p Committed) r.tables.book r'.tables.book
