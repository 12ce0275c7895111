-- A register that is being filled from the lines of a schedule.
use Rattle.std.specs.Prelude.{◌≡◌, ℕ, ◌+◌, ◌-◌, ◌≤◌, cond, [], take, nat_le}
use Rattle.text.specs.Split.{lines_of}
use Rattle.values.specs.Forms.{Form}
use Rattle.rules.specs.Heads.{FillingHead}
use Rattle.rules.specs.Contents.{Contents, Fits}
use Rattle.stages.specs.declared.stage.Stage.TheVariants.{Cells, Calls}
use Rattle.schedule.specs.declared.reading.Unread.{Unread}
use Rattle.schedule.specs.Accounts.{Lines, at_cells}

-- i cells have been filled from `lines`, those of the cells and the calls
pub record FilledTo {V : Type 0} (form : Form V) (lines : Lines) (i : ℕ) (head : FillingHead) (t : Contents V) (unread : Unread) : Type 0 where
  pub counted : head.filled ≡ i
  pub within : i ≤ head.sizes.cells
  pub tables_fit : Fits head.sizes t
  pub numbered : unread.number ≡ 3 + i
  -- the reader is past the last cell just where none is left
  pub stands : unread.reader ≡ record { stage = cond (nat_le (head.sizes.cells - i) 0) Calls Cells; left = head.sizes.cells - i; width = form.width }
  -- with the first i values read, what is left gives what all lines give
  pub gives : at_cells form (head.sizes.cells - i) unread.number (take i t.values) (lines_of unread.text.now) ≡ at_cells form head.sizes.cells 3 [] lines
