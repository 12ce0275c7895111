-- What the ending of a job does to the register, part by part and as a whole.
use Rattle.std.specs.Prelude.{◌≡◌, ℕ, ◌<◌, ◌≤◌, max, cond, List, [], Some}
use Rattle.terms.specs.declared.records.Ending.TheVariants.{Abandoned}
use Rattle.choosers.specs.Meaning.{Meaning}
use Rattle.rules.specs.Limits.{top}
use Rattle.rules.specs.Contents.{closed_record}
use Rattle.rules.specs.Tables.{put, cleared}
use Rattle.rules.specs.Registers.{Register, low_of, high_of, has_read}
use Rattle.rules.specs.JobCalls.{ended_head, raised_reads, entry_of}
use Rattle.rules.specs.Performing.{Inserted, moved_if, with_book}
use Rattle.admission.specs.Lent.{AllFit}

-- the register with other read places
abbrev pub with_reads : {V : Type 0} → Register V → List ℕ → Register V
with_reads r xs = record {
  head = r.head;
  tables = record { values = r.tables.values; written = r.tables.written; read = xs; jobs = r.tables.jobs; own = r.tables.own; flags = r.tables.flags; book = r.tables.book };
}

-- the read place x of cell c, after crew w's job has ended at p
abbrev pub raised_read : {V : Type 0} → ℕ → ℕ → Register V → ℕ → ℕ → ℕ
raised_read w p r c x = cond (has_read r w c) (max x p) x

-- the register after crew w's job has ended at p, except the book: what every ending does
abbrev pub ended_at : {V : Type 0} → Register V → ℕ → ℕ → Register V
ended_at r w p = record {
  head = ended_head r.head p;
  tables = record {
    values = r.tables.values;
    written = r.tables.written;
    read = raised_reads r w p;
    jobs = put r.tables.jobs w closed_record;
    own = r.tables.own;
    flags = cleared r.tables.flags r.head.sizes.cells w;
    book = r.tables.book;
  };
}

-- crew w's job may end at p
pub record MayEnd {V : Type 0} (r : Register V) (w p : ℕ) : Type 0 where
  pub fits : AllFit r
  pub crew : w ≤ r.head.sizes.crews
  pub counted : 1 ≤ r.head.active
  pub under_top : p < top

-- crew w's job was abandoned at p
pub record AbandonedAt {V : Type 0} (r : Register V) (f : Meaning) (w p : ℕ) (r' : Register V) (f' : Meaning) : Type 0 where
  pub place : p ≡ f [] (low_of r w) (high_of r w)
  pub leaves : r' ≡ with_book (ended_at r w p) r'.tables.book
  pub asks : f' ≡ moved_if f (Some (low_of r w, high_of r w))
  pub enters : Inserted r.head.ended (entry_of r w p Abandoned) r.tables.book r'.tables.book
