-- Numbers, each after a comma, written one by one.
use Rattle.std.proofs.Common.{◌≡◌, ℕ, ◌+◌, ◌<◌, List, [], ◌∷◌, ◌++◌, length, get_or, take, drop, decimal, Ok, Err, Result, sym, refl, ap, ◌∙◌}
use Rattle.std.proofs.lemmas.List.{append_assoc, append-nil, take-append-drop, take_more}
use Rattle.terms.specs.declared.refusals.Refusal.{Refusal}
use Rattle.values.specs.Forms.{after_commas}
use Rattle.output.specs.declared.paper.Paper.{Paper}
use Rattle.output.specs.Lent.{PieceWritten}
use Rattle.output.proofs.Lent.{piece_as, piece_then, piece_stop}

commas_append : (xs ys : List ℕ) → after_commas (xs ++ ys) ≡ after_commas xs ++ after_commas ys
commas_append [] ys = refl
commas_append (x ∷ xs) ys =
    ap (λ (zs : List ℕ). 44 ∷ (decimal x ++ zs)) (commas_append xs ys)
    ∙ ap (λ (zs : List ℕ). 44 ∷ zs) (sym (append_assoc (decimal x) (after_commas xs) (after_commas ys)))

commas_more : (xs : List ℕ) (i : ℕ) → i < length xs → after_commas (take (i + 1) xs) ≡ after_commas (take i xs) ++ (44 ∷ decimal (get_or xs i 0))
commas_more xs i h =
    ap after_commas (take_more xs i 0 h) ∙ commas_append (take i xs) (get_or xs i 0 ∷ [])
    ∙ ap (λ (zs : List ℕ). after_commas (take i xs) ++ (44 ∷ zs)) (append-nil (decimal (get_or xs i 0)))

-- one number more
pub one_more_field : (ns : List ℕ) (i : ℕ) (p q : Paper) (r : Result (Unit {0}) Refusal) (p' : Paper) → i < length ns
    → PieceWritten (after_commas (take i ns)) p (Ok tt) q → PieceWritten (44 ∷ decimal (get_or ns i 0)) q r p' → PieceWritten (after_commas (take (i + 1) ns)) p r p'
one_more_field ns i p q r p' h a b = piece_as _ _ p r p' (sym (commas_more ns i h)) (piece_then (after_commas (take i ns)) (44 ∷ decimal (get_or ns i 0)) p q r p' a b)

-- where a number does not fit, all do not
pub last_field : (ns : List ℕ) (i : ℕ) (p q : Paper) (e : Refusal) (p' : Paper) → i < length ns
    → PieceWritten (after_commas (take i ns)) p (Ok tt) q → PieceWritten (44 ∷ decimal (get_or ns i 0)) q (Err e) p' → PieceWritten (after_commas ns) p (Err e) p'
last_field ns i p q e p' h a b =
    piece_as _ _ p (Err e) p' (sym (commas_append (take (i + 1) ns) (drop (i + 1) ns)) ∙ ap after_commas (take-append-drop (i + 1) ns))
    (piece_stop (after_commas (take (i + 1) ns)) (after_commas (drop (i + 1) ns)) p e p' (one_more_field ns i p q (Err e) p' h a b))
