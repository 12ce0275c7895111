-- Bytes written over others.
use Rattle.std.proofs.Common.{◌≡◌, ℕ, ◌+◌, ◌≤◌, List, [], ◌++◌, length, take, drop, sym, refl, ap, ◌∙◌, add-zero, arith}
use Rattle.std.proofs.Math.Seq.{paste}
use Rattle.std.proofs.lemmas.List.{length-append, length-take-le, take-append-drop, take_at, take_all}
use Rattle.std.proofs.lemmas.List.Edits.{paste_all, length-paste, take-paste, paste-paste}
use Rattle.std.proofs.lemmas.Slice.{put_mid-paste}
use borrow.Rule.Slice.PartMut.{put_mid}
use Rattle.output.specs.Laid.{laid}

-- in the library's word
laid_paste : (xs : List ℕ) (at : ℕ) (ps : List ℕ) → paste xs at ps (length ps) ≡ laid xs at ps
unfolding laid
laid_paste xs at ps = paste_all xs at ps (length ps) refl

-- a copy into `xs[at..end]`
pub laid_by_copy : (xs : List ℕ) (at k : ℕ) (ys ps : List ℕ) → ys ≡ ps → k ≡ length ps → put_mid at k xs ys ≡ laid xs at ps
laid_by_copy xs at k ys ps e h = put_mid-paste at k xs ys ps (length ps) e (sym h) refl ∙ laid_paste xs at ps

pub laid_none : (xs : List ℕ) (at : ℕ) → laid xs at [] ≡ xs
unfolding laid
laid_none xs at = ap (λ (k : ℕ). take at xs ++ drop k xs) (add-zero at) ∙ take-append-drop at xs

pub take_laid : (xs : List ℕ) (at : ℕ) (ps : List ℕ) → at ≤ length xs → take at (laid xs at ps) ≡ take at xs
unfolding laid
take_laid xs at ps h = take_at (take at xs) (ps ++ drop (at + length ps) xs) at (length-take-le at xs h)

pub take_past_laid : (xs : List ℕ) (at : ℕ) (ps : List ℕ) → at ≤ length xs → take (at + length ps) (laid xs at ps) ≡ take at xs ++ ps
take_past_laid xs at ps h =
    ap (take (at + length ps)) (sym (laid_paste xs at ps)) ∙ take-paste xs at ps (length ps) h (omega arith)
    ∙ ap (λ (qs : List ℕ). take at xs ++ qs) (take_all (length ps) ps (omega arith))

pub length_laid : (xs : List ℕ) (at : ℕ) (ps : List ℕ) → at + length ps ≤ length xs → length (laid xs at ps) ≡ length xs
length_laid xs at ps h = ap length (sym (laid_paste xs at ps)) ∙ length-paste xs at ps (length ps) h (omega arith)

-- one part after another is both at once
pub laid_more : (xs : List ℕ) (at : ℕ) (ps qs : List ℕ) → at ≤ length xs → laid (laid xs at ps) (at + length ps) qs ≡ laid xs at (ps ++ qs)
laid_more xs at ps qs h =
    sym (laid_paste (laid xs at ps) (at + length ps) qs)
    ∙ ap (λ (ys : List ℕ). paste ys (at + length ps) qs (length qs)) (sym (laid_paste xs at ps))
    ∙ paste-paste xs at ps qs (length ps) (length qs) refl refl h
    ∙ ap (paste xs at (ps ++ qs)) (sym (length-append ps qs)) ∙ laid_paste xs at (ps ++ qs)

-- the same, from what a first and a second write ensure
pub then_laid : (xs ys zs : List ℕ) (at k : ℕ) (ps qs : List ℕ) → ys ≡ laid xs at ps → k ≡ at + length ps → at ≤ length xs → zs ≡ laid ys k qs → zs ≡ laid xs at (ps ++ qs)
then_laid xs ys zs at k ps qs e f h d = let m = laid_more xs at ps qs h in cc
