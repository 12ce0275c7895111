-- How a call is refused: by the first of its tests that holds.
use Rattle.std.specs.Prelude.{◌*◌, Bool, cond, not, List, [], ◌∷◌, length, Some, None, Option, ◌==◌}
use Rattle.terms.specs.declared.refusals.Refusal.{Refusal}
use Rattle.terms.specs.declared.refusals.Refusal.TheVariants.{WrongTable}
use Rattle.terms.specs.declared.refusals.TableName.TheVariants.{Values, WrittenPlaces, ReadPlaces, JobRecords, OwnValues, Flags, Book}
use Rattle.rules.specs.Heads.{Dimensions}
use Rattle.rules.specs.Contents.{Contents}

-- tests in their order, each with the refusal that it stands for
abbrev pub Tests : Type 0
Tests = List (Bool × Refusal)

abbrev pub first_refusal : Tests → Option Refusal
first_refusal [] = None
first_refusal (test ∷ tests) = cond test.0 (Some test.1) (first_refusal tests)

-- what a call does: one thing where a test refused it, another where none did
abbrev pub if_refused : {A : Type 0} → Option Refusal → (Refusal → A) → A → A
if_refused None refused accepted = accepted
if_refused (Some e) refused accepted = refused e

-- every call first names the first table whose length is not the head's
abbrev pub size_tests : {V : Type 0} → Dimensions → Contents V → Tests
size_tests sizes t =
    (not (length t.values == sizes.cells), WrongTable Values)
    ∷ (not (length t.written == sizes.cells), WrongTable WrittenPlaces)
    ∷ (not (length t.read == sizes.cells), WrongTable ReadPlaces)
    ∷ (not (length t.jobs == sizes.crews), WrongTable JobRecords)
    ∷ (not (length t.own == sizes.crews * sizes.cells), WrongTable OwnValues)
    ∷ (not (length t.flags == sizes.crews * sizes.cells), WrongTable Flags)
    ∷ (not (length t.book == sizes.entries), WrongTable Book)
    ∷ []
