-- Pieces, lines and lists of lines on a lent paper.
use Rattle.std.proofs.Common.{◌≡◌, ℕ, ◌+◌, ◌<◌, ◌≤◌, true, cond, List, [], ◌∷◌, ◌++◌, map, length, get_or, take, drop, is_err, Some, Ok, Err, Result, sym, refl, ap, ◌∙◌, subst, nat_le}
use Rattle.std.proofs.lemmas.List.{map-append, map_more, take-append-drop, take_all}
use Rattle.terms.specs.declared.refusals.Refusal.{Refusal}
use Rattle.output.specs.declared.paper.Paper.{Paper}
use Rattle.output.specs.Laid.{laid}
use Rattle.output.specs.Lines.{stop_line}
use Rattle.output.specs.Papers.{WrittenAll, printed}
use Rattle.output.specs.Lent.{SameBytes, PieceWritten, LineWritten, LinesWritten, taken_back}
use Rattle.output.proofs.Pieces.{writes_ok, writes_none, writes_then, writes_stop}
use Rattle.output.proofs.Papers.{paper_added, paper_full, one_more_written, rest_unwritten, written_as, stopped}

same_refl : (p : Paper) → SameBytes p p
same_refl p = record { lends = refl; size = refl }

same_then : (p q p' : Paper) → SameBytes q p → SameBytes p' q → SameBytes p' p
same_then p q p' a b = record { lends = b.lends ∙ a.lends; size = b.size ∙ a.size }

---- Pieces of a line

-- a copy that has room for it
pub piece_copied : (ps : List ℕ) (p p' : Paper) → p.count.used + length ps + 64 ≤ length p.bytes.now → p'.bytes.now ≡ laid p.bytes.now p.count.used ps → p'.count.used ≡ p.count.used + length ps
    → SameBytes p' p → PieceWritten ps p (Ok tt) p'
piece_copied ps p p' h t u s = record { written = writes_ok p.count.used p.bytes.now ps p'.count.used p'.bytes.now h u t; same = s }

pub piece_none : (p : Paper) → p.count.used + 64 ≤ length p.bytes.now → PieceWritten [] p (Ok tt) p
piece_none p h = record { written = writes_none p.count.used p.bytes.now h; same = same_refl p }

-- the bytes by another name
pub piece_as : (ps qs : List ℕ) (p : Paper) (r : Result (Unit {0}) Refusal) (p' : Paper) → ps ≡ qs → PieceWritten ps p r p' → PieceWritten qs p r p'
piece_as ps qs p r p' e a = let P : List ℕ → Type 0 = λ rs. PieceWritten rs p r p' in subst P e a

pub piece_then : (ps qs : List ℕ) (p q : Paper) (r : Result (Unit {0}) Refusal) (p' : Paper) → PieceWritten ps p (Ok tt) q → PieceWritten qs q r p' → PieceWritten (ps ++ qs) p r p'
piece_then ps qs p q r p' a b = record { written = writes_then _ _ _ _ _ _ _ _ _ a.written b.written; same = same_then p q p' a.same b.same }

pub piece_stop : (ps qs : List ℕ) (p : Paper) (e : Refusal) (p' : Paper) → PieceWritten ps p (Err e) p' → PieceWritten (ps ++ qs) p (Err e) p'
piece_stop ps qs p e p' a = record { written = writes_stop _ _ _ _ _ _ qs a.written; same = a.same }

-- a line that was finished
pub line_stands : (line : List ℕ) (p p' : Paper) → PieceWritten line p (Ok tt) p' → LineWritten line p (Ok tt) p'
line_stands line p p' a =
    let d = a.written in
    record {
      written = record { answer = d.answer; text = paper_added _ _ _ _ _ d; used = d.used refl; others = d.text };
      same = a.same;
    }

-- a line that was broken off, and taken back
pub line_goes_back : (line : List ℕ) (p q : Paper) (e : Refusal) (p' : Paper) → PieceWritten line p (Err e) q → p' ≡ taken_back (Some p.count.used) q → LineWritten line p (Err e) p'
line_goes_back line p q e p' a h =
    let d = a.written in
    let P : Paper → Type 0 = λ o. LineWritten line p (Err e) o in
    subst P (sym h) (record {
      written = record { answer = d.answer; text = paper_full _ _ _ _ _ _ d; used = refl; others = λ t. absurd cc };
      same = record { lends = a.same.lends; size = a.same.size };
    })

---- A line for each item of a list

-- one item more
pub next_line : {V : Type 0} (line : V → List ℕ) (vs : List V) (i : ℕ) (v : V) (p q : Paper) (r : Result (Unit {0}) Refusal) (p' : Paper) → i < length vs → v ≡ get_or vs i v
    → LinesWritten (map line (take i vs)) p (Ok tt) q → LineWritten (line v) q r p' → LinesWritten (map line (take (i + 1) vs)) p r p'
next_line {V} line vs i v p q r p' h e a w =
    let more : map line (take i vs) ++ (line v ∷ []) ≡ map line (take (i + 1) vs)
    = ap (λ (u : V). map line (take i vs) ++ (line u ∷ [])) e ∙ sym (map_more line vs i v h) in
    record {
      written = written_as _ _ _ _ _ _ _ more (one_more_written _ _ _ _ _ _ _ _ _ a.written a.same.size w.written);
      same = same_then p q p' a.same w.same;
    }

-- an item that found no room: no line is written after it
pub last_line : {V : Type 0} (line : V → List ℕ) (vs : List V) (i : ℕ) (v : V) (p q : Paper) (e : Refusal) (p' : Paper) → i < length vs → v ≡ get_or vs i v
    → LinesWritten (map line (take i vs)) p (Ok tt) q → LineWritten (line v) q (Err e) p' → LinesWritten (map line vs) p (Err e) p'
last_line line vs i v p q e p' h d a w =
    let n = next_line line vs i v p q (Err e) p' h d a w in
    let all : map line (take (i + 1) vs) ++ map line (drop (i + 1) vs) ≡ map line vs = sym (map-append line (take (i + 1) vs) (drop (i + 1) vs)) ∙ ap (map line) (take-append-drop (i + 1) vs) in
    record { written = written_as _ _ _ _ _ _ _ all (rest_unwritten _ _ _ _ _ _ _ refl n.written); same = n.same }

-- all of them
pub all_lines : {V : Type 0} (line : V → List ℕ) (vs : List V) (i : ℕ) (p : Paper) (r : Result (Unit {0}) Refusal) (p' : Paper) → length vs ≤ i
    → LinesWritten (map line (take i vs)) p r p' → LinesWritten (map line vs) p r p'
all_lines line vs i p r p' h a = record { written = written_as _ _ _ _ _ _ _ (ap (map line) (take_all i vs h)) a.written; same = a.same }

---- The end of an output that found no room

-- lines written onto an unused paper until one found no room, and then `12`: that is what is printed of them
pub stopped_paper : (lines : List (List ℕ)) (p : Paper) (r : Result (Unit {0}) Refusal) (p' p'' : Paper) → p.count.used ≡ 0 → LinesWritten lines p r p' → is_err r ≡ true → 64 ≤ length p.bytes.now
    → p''.bytes.now ≡ cond (nat_le (p'.count.used + 3) (length p'.bytes.now)) (laid p'.bytes.now p'.count.used stop_line) p'.bytes.now
    → p''.count.used ≡ cond (nat_le (p'.count.used + 3) (length p'.bytes.now)) (p'.count.used + 3) p'.count.used
    → (p''.count.used ≡ length (printed (length p.bytes.now) lines)) × (take p''.count.used p''.bytes.now ≡ printed (length p.bytes.now) lines)
stopped_paper lines p r p' p'' z a e h o u =
    let P : ℕ → Type 0 = λ n. WrittenAll lines (record { used = n }) p.bytes.now r p'.count p'.bytes.now in
    stopped lines p.bytes.now r p'.count p'.bytes.now p''.count p''.bytes.now (subst P z a.written) e a.same.size h o u
