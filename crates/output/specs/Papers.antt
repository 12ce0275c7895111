-- A paper: the memory that the output is written into.
use Rattle.std.specs.Prelude.{◌≡◌, ℕ, ◌+◌, ◌≤◌, Bool, true, false, cond, not, List, [], ◌∷◌, ◌++◌, length, take, is_ok, is_err, Ok, Err, Result, nat_le}
use Rattle.terms.specs.declared.refusals.Refusal.{Refusal}
use Rattle.terms.specs.declared.refusals.Refusal.TheVariants.{PaperFull}
use Rattle.output.specs.declared.count.Count.{Count}
use Rattle.output.specs.Laid.{laid}
use Rattle.output.specs.Lines.{stop_line}

-- the text that stands on a paper, and whether a line found no room
pub record Paper : Type 0 where
  pub text : List ℕ
  pub full : Bool

abbrev pub empty : Paper
empty = record { text = []; full = false }

-- a line that comes to a text: it is written only if 64 bytes of the paper remain after it
abbrev pub added_to : Bool → Bool → List ℕ → List ℕ → Paper
added_to true fits text line = record { text = text; full = true }
added_to false true text line = record { text = text ++ line; full = false }
added_to false false text line = record { text = text; full = true }

-- one line more, on a paper of so many bytes
abbrev pub added : ℕ → List ℕ → Paper → Paper
added size line p = added_to p.full (nat_le (length p.text + length line + 64) size) p.text line

-- lines, one after another
abbrev pub added_all : ℕ → List (List ℕ) → Paper → Paper
added_all size [] p = p
added_all size (l ∷ ls) p = added_all size ls (added size l p)

-- the text, with `12` after it where a line found no room
abbrev pub ended : Paper → List ℕ
ended p = cond p.full (p.text ++ stop_line) p.text

-- what stands on a paper of so many bytes once these lines were printed
abbrev pub printed : ℕ → List (List ℕ) → List ℕ
printed size ls = ended (added_all size ls empty)

-- the paper by its count record and its bytes
abbrev pub paper_of : Bool → Count → List ℕ → Paper
paper_of full c out = record { text = take c.used out; full = full }

---- One line written by the code

-- what a line is answered: it fits, or the paper is full
abbrev pub answered : Bool → Result (Unit {0}) Refusal
answered true = Ok tt
answered false = Err PaperFull

-- A line comes to the paper `out`, of which c counts the used bytes, and is answered r; c' and out' are what they are then.
pub record Written (line : List ℕ) (c : Count) (out : List ℕ) (r : Result (Unit {0}) Refusal) (c' : Count) (out' : List ℕ) : Type 0 where
  -- it is refused just where 64 bytes would not remain after it
  pub answer : r ≡ answered (nat_le (c.used + length line + 64) (length out))
  -- the text has the line after it, or is as it was
  pub text : paper_of (is_err r) c' out' ≡ added (length out) line (paper_of false c out)
  pub used : c'.used ≡ cond (is_ok r) (c.used + length line) c.used
  -- a line that was written altered no other byte
  pub others : is_ok r ≡ true → out' ≡ laid out c.used line

-- Lines come to the paper one after another, until one of them finds no room, and are answered r.
pub record WrittenAll (lines : List (List ℕ)) (c : Count) (out : List ℕ) (r : Result (Unit {0}) Refusal) (c' : Count) (out' : List ℕ) : Type 0 where
  pub answer : r ≡ answered (not (added_all (length out) lines (paper_of false c out)).full)
  pub text : paper_of (is_err r) c' out' ≡ added_all (length out) lines (paper_of false c out)
  -- the 64 bytes after the used ones stay free
  pub reserve : c.used + 64 ≤ length out → c'.used + 64 ≤ length out
