-- Tables that are the same lent slices at two moments.
use Rattle.std.proofs.Common.{refl, ◌∙◌}
use Rattle.rules.specs.declared.tables.Tables.{Tables}
use Rattle.rules.specs.Contents.{Same}

pub same_none : (V : Type 0) (a : Tables V) → Same V a a
same_none V a = record { values = refl; written = refl; read = refl; jobs = refl; own = refl; flags = refl; book = refl }

pub same_then : (V : Type 0) (a b c : Tables V) → Same V b a → Same V c b → Same V c a
same_then V a b c s r = record {
  values = r.values ∙ s.values;
  written = r.written ∙ s.written;
  read = r.read ∙ s.read;
  jobs = r.jobs ∙ s.jobs;
  own = r.own ∙ s.own;
  flags = r.flags ∙ s.flags;
  book = r.book ∙ s.book;
}
