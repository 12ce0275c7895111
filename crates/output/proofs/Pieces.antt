-- Pieces of a line, one after another.
use Rattle.std.proofs.Common.{◌≡◌, ℕ, ◌+◌, ◌<◌, ◌≤◌, Bool, true, false, leb, List, [], ◌++◌, length, take, Ok, Err, Result, sym, refl, ap, ◌∙◌, arith}
use Rattle.std.proofs.lemmas.List.{length-append, take-take}
use Rattle.std.proofs.lemmas.Bool.{le-leb, lt-leb, leb-true, leb-false}
use Rattle.terms.specs.declared.refusals.Refusal.{Refusal}
use Rattle.output.specs.Laid.{laid}
use Rattle.output.specs.Papers.{answered}
use Rattle.output.specs.Pieces.{Writes}
use Rattle.output.proofs.Writing.{laid_none, length_laid, take_laid, then_laid}

fits_lem : (b : Bool) → Ok tt ≡ answered b → b ≡ true
fits_lem true h = refl
fits_lem false h = absurd cc

lacks_lem : (b : Bool) (e : Refusal) → Err e ≡ answered b → b ≡ false
lacks_lem true e h = absurd cc
lacks_lem false e h = refl

-- what was written fitted, and 64 bytes are left after it
pub fits : (u : ℕ) (xs ps : List ℕ) (v : ℕ) (ys : List ℕ) → Writes u xs ps (Ok tt) v ys → u + length ps + 64 ≤ length xs
fits u xs ps v ys d = leb-true (u + length ps + 64) (length xs) (fits_lem _ d.answer)

-- what was not written did not fit
pub lacks : (u : ℕ) (xs ps : List ℕ) (e : Refusal) (v : ℕ) (ys : List ℕ) → Writes u xs ps (Err e) v ys → length xs < u + length ps + 64
lacks u xs ps e v ys d = leb-false (u + length ps + 64) (length xs) (lacks_lem _ e d.answer)

pub writes_ok : (u : ℕ) (xs ps : List ℕ) (v : ℕ) (ys : List ℕ) → u + length ps + 64 ≤ length xs → v ≡ u + length ps → ys ≡ laid xs u ps → Writes u xs ps (Ok tt) v ys
writes_ok u xs ps v ys h e d = record {
  answer = ap answered (sym (le-leb (u + length ps + 64) (length xs) h));
  used = λ _. e;
  text = λ _. d;
  below = ap (take u) d ∙ take_laid xs u ps (omega arith);
}

pub writes_none : (u : ℕ) (xs : List ℕ) → u + 64 ≤ length xs → Writes u xs [] (Ok tt) u xs
writes_none u xs h = writes_ok u xs [] u xs (omega arith) (omega arith) (sym (laid_none xs u))

-- a part after a part that stands
pub writes_then : (u : ℕ) (xs ps : List ℕ) (v : ℕ) (ys qs : List ℕ) (r : Result (Unit {0}) Refusal) (w : ℕ) (zs : List ℕ)
    → Writes u xs ps (Ok tt) v ys → Writes v ys qs r w zs → Writes u xs (ps ++ qs) r w zs
writes_then u xs ps v ys qs r w zs d e =
    let room = fits u xs ps v ys d in
    let la = length-append ps qs in
    let lx : length ys ≡ length xs = ap length (d.text refl) ∙ length_laid xs u ps (omega (arith, room)) in
    let at = d.used refl in
    let s : v + length qs + 64 ≡ u + length (ps ++ qs) + 64 = omega (arith, la, at) in
    record {
      answer = e.answer ∙ ap (λ (n : ℕ). answered (leb n (length ys))) s ∙ ap (λ (n : ℕ). answered (leb (u + length (ps ++ qs) + 64) n)) lx;
      used = λ t. let f = e.used t in omega (arith, f, la, at);
      text = λ t. then_laid xs ys zs u v ps qs (d.text refl) at (omega (arith, room)) (e.text t);
      below = sym (take-take u v zs (omega (arith, at))) ∙ ap (take u) e.below ∙ take-take u v ys (omega (arith, at)) ∙ d.below;
    }

-- where a part does not fit, the line does not
pub writes_stop : (u : ℕ) (xs ps : List ℕ) (e : Refusal) (v : ℕ) (ys qs : List ℕ) → Writes u xs ps (Err e) v ys → Writes u xs (ps ++ qs) (Err e) v ys
writes_stop u xs ps e v ys qs d =
    let la = length-append ps qs in
    let lack = lacks u xs ps e v ys d in
    record {
      answer = d.answer ∙ ap answered (lacks_lem _ e d.answer ∙ sym (lt-leb (u + length (ps ++ qs) + 64) (length xs) (omega (arith, lack, la))));
      used = λ t. absurd cc;
      text = λ t. absurd cc;
      below = d.below;
    }
