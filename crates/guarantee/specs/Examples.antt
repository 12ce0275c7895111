-- A small register and two lists of calls on it, which show that the theorems say something. As everywhere, the newest call stands first: read the lists from their end.
use Rattle.std.specs.Prelude.{ℕ, List, [], ◌∷◌}
use Rattle.terms.specs.declared.numbers.CrewNumber.{CrewNumber}
use Rattle.terms.specs.declared.numbers.CellNumber.{CellNumber}
use Rattle.terms.specs.declared.records.Ending.TheVariants.{Committed}
use Rattle.terms.specs.declared.records.Entry.{Entry}
use Rattle.choosers.specs.Meaning.{Meaning, KeepsLaw}
use Rattle.choosers.specs.Script.{script_meaning}
use Rattle.rules.specs.declared.calls.Call.{Call}
use Rattle.rules.specs.declared.calls.Call.TheVariants.{Open, Read, Write, Commit}
use Rattle.rules.specs.Heads.{Dimensions}
use Rattle.rules.specs.Making.{fresh_head, fresh_contents, JustStarted}
use Rattle.rules.specs.Registers.{Register}
use Rattle.guarantee.specs.Permissiveness.{WellMadeCalls, IsOrderOf, SomeRunAccepts, EveryRunAccepts}

---- Two cells that hold 10 and 20, two crews and two entries, just started

abbrev pub small_sizes : Dimensions
small_sizes = record { cells = 2; crews = 2; entries = 2 }

abbrev pub blank : Entry
blank = record { job = record { 0 = 0 }; crew = record { 0 = 0 }; place = record { 0 = 0 }; ending = Committed }

abbrev pub small_register : Register ℕ
small_register = record {
  head = fresh_head small_sizes;
  tables = fresh_contents small_sizes (record { values = 10 ∷ 20 ∷ []; written = []; read = []; jobs = []; own = 0 ∷ 0 ∷ 0 ∷ 0 ∷ []; flags = []; book = blank ∷ blank ∷ [] });
}

abbrev pub crew : ℕ → CrewNumber
crew w = record { 0 = w }

abbrev pub cell : ℕ → CellNumber
cell c = record { 0 = c }

---- Crossed: each of two jobs reads first-hand a cell that the other writes, and both would commit

abbrev pub crossed : List (Call ℕ)
crossed = Commit (crew 2) ∷ Commit (crew 1) ∷ Write (crew 2) (cell 1) 6 ∷ Write (crew 1) (cell 2) 5 ∷ Read (crew 2) (cell 2) ∷ Read (crew 1) (cell 1) ∷ Open (crew 2) ∷ Open (crew 1) ∷ []

---- Overtaking: job 2 reads cell 1 before job 1 has put 15 into it, and commits after job 1

abbrev pub overtaking : List (Call ℕ)
overtaking = Commit (crew 2) ∷ Read (crew 2) (cell 2) ∷ Commit (crew 1) ∷ Write (crew 2) (cell 2) 25 ∷ Read (crew 2) (cell 1) ∷ Write (crew 1) (cell 1) 15 ∷ Open (crew 2) ∷ Open (crew 1) ∷ []

pub record ExamplesStand : Type 0 where
  pub just_started : JustStarted small_register.head small_register.tables
  -- both lists are well made
  pub crossed_well_made : WellMadeCalls small_sizes crossed
  pub overtaking_well_made : WellMadeCalls small_sizes overtaking
  -- whatever chooser keeps the law, no run accepts all the crossed calls
  pub crossed_refused : (f : Meaning) → KeepsLaw f → SomeRunAccepts 0 small_register f crossed → ⊥
  -- job 2 stands before job 1, and with the script 2, 1 every run accepts all the overtaking calls, of which there is one
  pub overtaking_order : IsOrderOf overtaking (1 ∷ 2 ∷ [])
  pub overtaking_accepted : EveryRunAccepts 0 small_register (script_meaning (2 ∷ 1 ∷ [])) overtaking
  pub overtaking_performed : SomeRunAccepts 0 small_register (script_meaning (2 ∷ 1 ∷ [])) overtaking
