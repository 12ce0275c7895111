-- What a written line, or one that is taken back, makes of the paper.
use Rattle.std.proofs.Common.{◌≡◌, ℕ, ◌+◌, ◌<◌, ◌≤◌, Bool, true, false, cond, not, leb, List, [], ◌∷◌, ◌++◌, length, take, is_ok, is_err, Ok, Err, Result, sym, refl, ap, ◌∙◌, subst, ⊎_elim, arith}
use Rattle.std.proofs.lemmas.List.{length-append, length-take-le, take_all}
use Rattle.std.proofs.lemmas.Bool.{leb-true, le-leb, lt-leb, cases_lt, cond-true}
use Rattle.terms.specs.declared.refusals.Refusal.{Refusal}
use Rattle.output.specs.Laid.{laid}
use Rattle.output.specs.Pieces.{Writes}
use Rattle.output.specs.declared.count.Count.{Count}
use Rattle.output.specs.Papers.{Paper, added, added_to, added_all, empty, ended, printed, paper_of, answered, Written, WrittenAll}
use Rattle.output.specs.Lines.{stop_line}
use Rattle.output.proofs.Writing.{take_past_laid}
use Rattle.output.proofs.Pieces.{fits, lacks}

pub paper_added : (u : ℕ) (xs line : List ℕ) (v : ℕ) (ys : List ℕ) → Writes u xs line (Ok tt) v ys
    → ◌≡◌ {A = Paper} (record { text = take v ys; full = false }) (added (length xs) line (record { text = take u xs; full = false }))
paper_added u xs line v ys d =
    let room = fits u xs line v ys d in
    let t : take v ys ≡ take u xs ++ line = ap (λ (n : ℕ). take n ys) (d.used refl) ∙ ap (take (u + length line)) (d.text refl) ∙ take_past_laid xs u line (omega arith) in
    let f : leb (length (take u xs) + length line + 64) (length xs) ≡ true = le-leb _ _ (omega (arith, room, length-take-le u xs (omega arith))) in
    ap (λ (s : List ℕ). record { text = s; full = false }) t ∙ sym (ap (λ (b : Bool). added_to false b (take u xs) line) f)

still_full : (u : ℕ) (xs line : List ℕ) → length xs < u + length line + 64 → length xs < length (take u xs) + length line + 64
still_full u xs line h =
    ⊎_elim
    (λ (a : u < length xs). omega (arith, length-take-le u xs (omega arith)))
    (λ (a : length xs ≤ u). omega (arith, ap length (take_all u xs a)))
    (cases_lt u (length xs))

pub paper_full : (u : ℕ) (xs line : List ℕ) (e : Refusal) (v : ℕ) (ys : List ℕ) → Writes u xs line (Err e) v ys
    → ◌≡◌ {A = Paper} (record { text = take u ys; full = true }) (added (length xs) line (record { text = take u xs; full = false }))
paper_full u xs line e v ys d =
    let f : leb (length (take u xs) + length line + 64) (length xs) ≡ false = lt-leb _ _ (still_full u xs line (lacks u xs line e v ys d)) in
    ap (λ (s : List ℕ). record { text = s; full = true }) d.below ∙ sym (ap (λ (b : Bool). added_to false b (take u xs) line) f)

---- Lines, one after another

-- once a line found no room, nothing more is written
stays_full : (size : ℕ) (ls : List (List ℕ)) (text : List ℕ) → added_all size ls (record { text = text; full = true }) ≡ record { text = text; full = true }
stays_full size [] text = refl
stays_full size (l ∷ ls) text = stays_full size ls text

pub added_append : (size : ℕ) (ls ms : List (List ℕ)) (p : Paper) → added_all size (ls ++ ms) p ≡ added_all size ms (added_all size ls p)
added_append size [] ms p = refl
added_append size (l ∷ ls) ms p = added_append size ls ms (added size l p)

-- what is answered, by whether the paper was full
answer_of_lem : (r : Result (Unit {0}) Refusal) (b : Bool) (p : Paper) → r ≡ answered b → p.full ≡ is_err r → r ≡ answered (not p.full)
answer_of_lem r true p e f = e ∙ ap (λ (x : Bool). answered (not x)) (sym (f ∙ ap is_err e))
answer_of_lem r false p e f = e ∙ ap (λ (x : Bool). answered (not x)) (sym (f ∙ ap is_err e))

-- a line leaves 64 bytes free, whether it was written or not
still_free : (u n size v : ℕ) (r : Result (Unit {0}) Refusal) (b : Bool) → leb (u + n + 64) size ≡ b → r ≡ answered b → v ≡ cond (is_ok r) (u + n) u → u + 64 ≤ size → v + 64 ≤ size
still_free u n size v r true t e d h =
    let room = leb-true (u + n + 64) size t in
    let at : v ≡ u + n = d ∙ ap (λ (q : Result (Unit {0}) Refusal). cond (is_ok q) (u + n) u) e in
    omega arith
still_free u n size v r false t e d h =
    let at : v ≡ u = d ∙ ap (λ (q : Result (Unit {0}) Refusal). cond (is_ok q) (u + n) u) e in
    omega arith

-- a line after lines that were all written
pub one_more_written : (ls : List (List ℕ)) (l : List ℕ) (c : Count) (out : List ℕ) (d : Count) (mid : List ℕ) (r : Result (Unit {0}) Refusal) (c' : Count) (out' : List ℕ)
    → WrittenAll ls c out (Ok tt) d mid → length mid ≡ length out → Written l d mid r c' out' → WrittenAll (ls ++ (l ∷ [])) c out r c' out'
one_more_written ls l c out d mid r c' out' a e w =
    let whole : paper_of (is_err r) c' out' ≡ added_all (length out) (ls ++ (l ∷ [])) (paper_of false c out)
    = w.text ∙ ap (λ (n : ℕ). added n l (paper_of false d mid)) e ∙ ap (added (length out) l) a.text ∙ sym (added_append (length out) ls (l ∷ []) (paper_of false c out)) in
    record {
      answer = answer_of_lem r _ (added_all (length out) (ls ++ (l ∷ [])) (paper_of false c out)) w.answer (sym (ap (λ (p : Paper). p.full) whole));
      text = whole;
      reserve = λ h. still_free d.used (length l) (length out) c'.used r _ refl (w.answer ∙ ap (λ (n : ℕ). answered (leb (d.used + length l + 64) n)) e) w.used (a.reserve h);
    }

-- lines that come after one that found no room are not written
pub rest_unwritten : (ls ms : List (List ℕ)) (c : Count) (out : List ℕ) (r : Result (Unit {0}) Refusal) (c' : Count) (out' : List ℕ) → is_err r ≡ true
    → WrittenAll ls c out r c' out' → WrittenAll (ls ++ ms) c out r c' out'
rest_unwritten ls ms c out r c' out' e a =
    let full : paper_of true c' out' ≡ added_all (length out) ls (paper_of false c out) = ap (λ (b : Bool). paper_of b c' out') (sym e) ∙ a.text in
    let same : added_all (length out) (ls ++ ms) (paper_of false c out) ≡ added_all (length out) ls (paper_of false c out)
    = added_append (length out) ls ms (paper_of false c out) ∙ ap (added_all (length out) ms) (sym full) ∙ stays_full (length out) ms (take c'.used out') ∙ full in
    record {
      answer = a.answer ∙ ap (λ (q : Paper). answered (not q.full)) (sym same);
      text = a.text ∙ sym same;
      reserve = a.reserve;
    }

pub written_as : (ls ms : List (List ℕ)) (c : Count) (out : List ℕ) (r : Result (Unit {0}) Refusal) (c' : Count) (out' : List ℕ) → ls ≡ ms → WrittenAll ls c out r c' out' → WrittenAll ms c out r c' out'
written_as ls ms c out r c' out' e a = let P : List (List ℕ) → Type 0 = λ ks. WrittenAll ks c out r c' out' in subst P e a

---- The end of an output that found no room

-- lines written onto an empty paper until one found no room, and then `12`: that is what is printed of them
pub stopped : (lines : List (List ℕ)) (out : List ℕ) (r : Result (Unit {0}) Refusal) (c' : Count) (out' : List ℕ) (c'' : Count) (out'' : List ℕ)
    → WrittenAll lines (record { used = 0 }) out r c' out' → is_err r ≡ true → length out' ≡ length out → 64 ≤ length out
    → out'' ≡ cond (leb (c'.used + 3) (length out')) (laid out' c'.used stop_line) out' → c''.used ≡ cond (leb (c'.used + 3) (length out')) (c'.used + 3) c'.used
    → (c''.used ≡ length (printed (length out) lines)) × (take c''.used out'' ≡ printed (length out) lines)
stopped lines out r c' out' c'' out'' a e l h o u =
    let free = a.reserve (omega arith) in
    let room : leb (c'.used + 3) (length out') ≡ true = le-leb (c'.used + 3) (length out') (omega arith) in
    let used : c''.used ≡ c'.used + 3 = u ∙ cond-true _ _ _ room in
    let full : record { text = take c'.used out'; full = true } ≡ added_all (length out) lines empty = ap (λ (b : Bool). paper_of b c' out') (sym e) ∙ a.text in
    let all : take c'.used out' ++ stop_line ≡ printed (length out) lines = ap ended full in
    let text : take c''.used out'' ≡ take c'.used out' ++ stop_line
    = ap (λ (n : ℕ). take n out'') used ∙ ap (take (c'.used + 3)) (o ∙ cond-true _ _ _ room) ∙ take_past_laid out' c'.used stop_line (omega arith) in
    let long : length (take c'.used out' ++ stop_line) ≡ c'.used + 3 = length-append (take c'.used out') stop_line ∙ ap (λ (n : ℕ). n + 3) (length-take-le c'.used out' (omega arith)) in
    (used ∙ sym long ∙ ap length all, text ∙ all)
