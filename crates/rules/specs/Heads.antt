-- The heads as plain numbers.
use Rattle.std.specs.Prelude.{◌≡◌, ℕ, true}
use Rattle.rules.specs.declared.sizes.Sizes.{Sizes}
use Rattle.rules.specs.declared.head.Filling.{Filling}
use Rattle.rules.specs.declared.head.Started.{Started}
use Rattle.rules.specs.Limits.{in_range}

pub record Dimensions : Type 0 where
  pub cells : ℕ
  pub crews : ℕ
  pub entries : ℕ

abbrev pub dimensions_of : Sizes → Dimensions
dimensions_of s = record { cells = s.cells; crews = s.crews; entries = s.entries }

-- what is known of the sizes of every register that was made
abbrev pub SizesInRange : Dimensions → Type 0
SizesInRange sizes = in_range sizes.cells sizes.crews sizes.entries ≡ true

pub record FillingHead : Type 0 where
  pub sizes : Dimensions
  -- how many cells have their first value
  pub filled : ℕ

abbrev pub filling_of : Filling → FillingHead
filling_of h = record { sizes = dimensions_of h.sizes; filled = h.filled }

pub record StartedHead : Type 0 where
  pub sizes : Dimensions
  -- the highest place given so far
  pub highest : ℕ
  -- how many jobs have ended, and how many are open
  pub ended : ℕ
  pub active : ℕ

abbrev pub started_of : Started → StartedHead
started_of h = record { sizes = dimensions_of h.sizes; highest = h.highest.0; ended = h.ended; active = h.active }
