-- A lent paper before and after it is written on.
use Rattle.std.specs.Prelude.{◌≡◌, ℕ, List, length, Some, None, Option, Result}
use Rattle.std.specs.Borrow.{Bor, MutBor}
use Rattle.terms.specs.declared.refusals.Refusal.{Refusal}
use Rattle.output.specs.declared.paper.Paper.{Paper}
use Rattle.output.specs.Papers.{Written, WrittenAll}
use Rattle.output.specs.Pieces.{Writes}

-- the paper is still the same lent bytes, as many as before
pub record SameBytes (after before : Paper) : Type 0 where
  pub lends : after.bytes.ghost_name ≡ before.bytes.ghost_name
  pub size : length after.bytes.now ≡ length before.bytes.now

-- a piece of a line comes to the paper, and is answered r
pub record PieceWritten (ps : List ℕ) (before : Paper) (r : Result (Unit {0}) Refusal) (after : Paper) : Type 0 where
  pub written : Writes before.count.used before.bytes.now ps r after.count.used after.bytes.now
  pub same : SameBytes after before

-- a line comes to the paper, and is answered r
pub record LineWritten (line : List ℕ) (before : Paper) (r : Result (Unit {0}) Refusal) (after : Paper) : Type 0 where
  pub written : Written line before.count before.bytes.now r after.count after.bytes.now
  pub same : SameBytes after before

-- lines come to the paper one after another, until one of them finds no room, and are answered r
pub record LinesWritten (lines : List (List ℕ)) (before : Paper) (r : Result (Unit {0}) Refusal) (after : Paper) : Type 0 where
  pub written : WrittenAll lines before.count before.bytes.now r after.count after.bytes.now
  pub same : SameBytes after before

-- each call of a closure, of which post says what it answers and leaves, writes the line of the item that it is given
abbrev pub WritesLine : {T : Type 0} → (MutBor Paper → Bor T → Result (Unit {0}) Refusal → MutBor Paper → Type 0) → (T → List ℕ) → Type 0
WritesLine {T} post line =
    (paper : MutBor Paper) (item : Bor T) (r : Result (Unit {0}) Refusal) (after : MutBor Paper) → post paper item r after → LineWritten (line item.now) paper.now r after.now

-- the paper once a line has ended: the count goes back, unless the line was finished
abbrev pub taken_back : Option ℕ → Paper → Paper
taken_back None p = p
taken_back (Some start) p = record p { count = record { used = start } }
