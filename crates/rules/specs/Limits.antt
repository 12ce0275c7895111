-- The ranges of a register's numbers.
use Rattle.std.specs.Prelude.{ℕ, ◌^◌, Bool, ◌&&◌, nat_le}

-- every place is under this one
abbrev pub top : ℕ
top = 2 ^ 62

abbrev pub most_cells : ℕ
most_cells = 1024

abbrev pub most_crews : ℕ
most_crews = 32

abbrev pub most_entries : ℕ
most_entries = 65535

-- the sizes that a register can have
abbrev pub in_range : ℕ → ℕ → ℕ → Bool
in_range cells crews entries =
    (nat_le 1 cells && nat_le cells most_cells) && ((nat_le 1 crews && nat_le crews most_crews) && (nat_le 1 entries && nat_le entries most_entries))
