-- What the seven tables hold.
use Rattle.std.specs.Prelude.{◌≡◌, ℕ, ◌*◌, List, length}
use Rattle.terms.specs.declared.records.JobRecord.{JobRecord}
use Rattle.terms.specs.declared.records.Standing.TheVariants.{Closed}
use Rattle.terms.specs.declared.records.Entry.{Entry}
use Rattle.rules.specs.declared.tables.Tables.{Tables}
use Rattle.rules.specs.Heads.{Dimensions}

pub record Contents (V : Type 0) : Type 0 where
  pub values : List V
  pub written : List ℕ
  pub read : List ℕ
  pub jobs : List JobRecord
  pub own : List V
  pub flags : List ℕ
  pub book : List Entry

abbrev pub contents_of : (V : Type 0) → Tables V → Contents V
contents_of V t = record { values = t.values.now; written = t.written.now; read = t.read.now; jobs = t.jobs.now; own = t.own.now; flags = t.flags.now; book = t.book.now }

-- each table is still the same lent slice, so that what a call leaves in it is what the lender finds; a clause of each call and
-- no invariant of `Tables`, since it is about two moments
pub record Same (V : Type 0) (after before : Tables V) : Type 0 where
  pub values : after.values.ghost_name ≡ before.values.ghost_name
  pub written : after.written.ghost_name ≡ before.written.ghost_name
  pub read : after.read.ghost_name ≡ before.read.ghost_name
  pub jobs : after.jobs.ghost_name ≡ before.jobs.ghost_name
  pub own : after.own.ghost_name ≡ before.own.ghost_name
  pub flags : after.flags.ghost_name ≡ before.flags.ghost_name
  pub book : after.book.ghost_name ≡ before.book.ghost_name

-- each table has the head's length
pub record Fits {V : Type 0} (sizes : Dimensions) (t : Contents V) : Type 0 where
  pub values : length t.values ≡ sizes.cells
  pub written : length t.written ≡ sizes.cells
  pub read : length t.read ≡ sizes.cells
  pub jobs : length t.jobs ≡ sizes.crews
  pub own : length t.own ≡ sizes.crews * sizes.cells
  pub flags : length t.flags ≡ sizes.crews * sizes.cells
  pub book : length t.book ≡ sizes.entries

-- the record of a crew that has no job open
abbrev pub closed_record : JobRecord
closed_record = record { standing = Closed; job = record { 0 = 0 }; low = record { 0 = 0 }; high = record { 0 = 0 } }
