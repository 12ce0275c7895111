-- The parts of a commit make the whole of it, and the tables keep their lengths.
use Rattle.std.proofs.Common.{◌≡◌, ℕ, ap, ◌∙◌}
use Rattle.rules.specs.Tables.{each}
use Rattle.rules.specs.Registers.{Register}
use Rattle.rules.proofs.Changing.{length_each}
use Rattle.admission.specs.Lent.{AllFit}
use Rattle.commits.specs.Committing.{with_values, with_written_places, with_jobs, stored_value, written_place, lowered_record, stored_at}

module _ {V : Type 0} (d : V) (r a b c : Register V) (w p : ℕ) (values : a ≡ with_values r (each (stored_value d w r) r.tables.values)) (places : b ≡ with_written_places a (each (written_place w p a) a.tables.written)) where
  -- the first two
  pub stored_two : b ≡ with_written_places (with_values r (each (stored_value d w r) r.tables.values)) (each (written_place w p r) r.tables.written)
  stored_two = places ∙ ap (λ (x : Register V). with_written_places x (each (written_place w p x) x.tables.written)) values

  -- all three
  pub stored_all : c ≡ with_jobs b (each (lowered_record w p b) b.tables.jobs) → c ≡ stored_at d r w p
  stored_all highs = highs ∙ ap (λ (x : Register V). with_jobs x (each (lowered_record w p x) x.tables.jobs)) stored_two

pub stored_fits : {V : Type 0} (d : V) (r : Register V) (w p : ℕ) → AllFit r → AllFit (stored_at d r w p)
stored_fits d r w p h = record {
  values = length_each (stored_value d w r) 1 r.tables.values ∙ h.values;
  written = length_each (written_place w p r) 1 r.tables.written ∙ h.written;
  read = h.read;
  jobs = length_each (lowered_record w p r) 1 r.tables.jobs ∙ h.jobs;
  own = h.own;
  flags = h.flags;
  book = h.book;
}
