-- What a stride gives: it never moves.
use Rattle.std.specs.Prelude.{ℕ, ◌+◌, ◌-◌, ◌/◌, Bool, cond, ◌&&◌, nat_le, nat_lt}
use Rattle.choosers.specs.Meaning.{Meaning, no_room}

abbrev pub most_step : ℕ
most_step = 1000000

-- the steps that a stride can have
abbrev pub step_in_range : ℕ → Bool
step_in_range step = nat_le 1 step && nat_le step most_step

-- low + step if that is under high, else the middle, rounded down
abbrev pub stride_meaning : ℕ → Meaning
stride_meaning step further low high =
    cond (no_room low high) low (cond (nat_lt (low + step) high) (low + step) (low + (high - low) / 2))
