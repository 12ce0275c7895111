-- The ranges that a head line keeps.
use Rattle.std.specs.Prelude.{◌≤◌}
use Rattle.stages.specs.declared.head_line.HeadLine.{HeadLine}

pub record InRange (h : HeadLine) : Type 0 where
  pub some_cells : 1 ≤ h.cells
  pub cells_fit : h.cells ≤ 64
  pub some_crews : 1 ≤ h.crews
  pub crews_fit : h.crews ≤ 8
  pub some_entries : 1 ≤ h.entries
  pub entries_fit : h.entries ≤ 256
