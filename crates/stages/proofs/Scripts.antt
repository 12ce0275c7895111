-- One number more of a script that is being read.
use Rattle.std.proofs.Common.{◌≡◌, ℕ, suc, ◌+◌, ◌-◌, ◌<◌, List, [], ◌∷◌, ◌++◌, length, take, set, Some, None, Ok, Err, Option, Result, sym, refl, ap, ◌∙◌, arith}
use Rattle.std.proofs.lemmas.List.{take_more_set}
use Rattle.terms.specs.declared.refusals.BadField.{BadField}
use Rattle.text.specs.Numbers.{number_in}
use Rattle.text.specs.Split.{before, after}
use Rattle.values.specs.Forms.{is_number}
use Rattle.stages.specs.HeadLines.{and_then}
use Rattle.stages.specs.ChooserLines.{numbers_from}

then_number : {A : Type 0} (at : ℕ) (o : Option ℕ) (next : ℕ → Result A BadField) → is_number at o next ≡ and_then (is_number at o (λ n. Ok n)) next
then_number at None next = refl
then_number at (Some x) next = refl

-- the next number, while one is left
next_number : (got : List ℕ) (count i : ℕ) (field rest : List ℕ) (r : Result ℕ BadField) → i < count → field ≡ before 44 rest
    → r ≡ is_number (3 + i) (number_in field) (λ n. Ok n)
    → numbers_from got (count - i) (3 + i) rest ≡ and_then r (λ x. numbers_from (got ++ (x ∷ [])) (count - (i + 1)) (3 + (i + 1)) (after 44 rest))
next_number got count i field rest r h f e =
    let left : count - i ≡ suc (count - (i + 1)) = omega arith in
    let at : 3 + i + 1 ≡ 3 + (i + 1) = omega arith in
    ap (λ (k : ℕ). numbers_from got k (3 + i) rest) left
    ∙ then_number (3 + i) (number_in (before 44 rest)) (λ x. numbers_from (got ++ (x ∷ [])) (count - (i + 1)) (3 + i + 1) (after 44 rest))
    ∙ ap (λ (k : ℕ). and_then (is_number (3 + i) (number_in (before 44 rest)) (λ n. Ok n)) (λ x. numbers_from (got ++ (x ∷ [])) (count - (i + 1)) k (after 44 rest))) at
    ∙ ap (λ (q : Result ℕ BadField). and_then q (λ x. numbers_from (got ++ (x ∷ [])) (count - (i + 1)) (3 + (i + 1)) (after 44 rest)))
    (sym (e ∙ ap (λ (bs : List ℕ). is_number (3 + i) (number_in bs) (λ n. Ok n)) f))

-- a bad one ends the reading
pub bad_number : (got : List ℕ) (count i : ℕ) (field rest : List ℕ) (r : Result ℕ BadField) (bad : BadField) → i < count → field ≡ before 44 rest
    → r ≡ is_number (3 + i) (number_in field) (λ n. Ok n) → r ≡ Err bad → numbers_from got (count - i) (3 + i) rest ≡ Err bad
bad_number got count i field rest r bad h f e b =
    next_number got count i field rest r h f e ∙ ap (λ (q : Result ℕ BadField). and_then q (λ x. numbers_from (got ++ (x ∷ [])) (count - (i + 1)) (3 + (i + 1)) (after 44 rest))) b

-- any other is stored behind those that were got
pub one_more : (numbers : List ℕ) (count i : ℕ) (field rest left : List ℕ) (r : Result ℕ BadField) (x : ℕ) → i < count → i < length numbers → field ≡ before 44 rest
    → left ≡ after 44 rest → r ≡ is_number (3 + i) (number_in field) (λ n. Ok n) → r ≡ Ok x
    → numbers_from (take (i + 1) (set numbers i x)) (count - (i + 1)) (3 + (i + 1)) left ≡ numbers_from (take i numbers) (count - i) (3 + i) rest
one_more numbers count i field rest left r x h l f g e b =
    ap (λ (got : List ℕ). numbers_from got (count - (i + 1)) (3 + (i + 1)) left) (take_more_set numbers i x l)
    ∙ ap (numbers_from (take i numbers ++ (x ∷ [])) (count - (i + 1)) (3 + (i + 1))) g
    ∙ sym (next_number (take i numbers) count i field rest r h f e
    ∙ ap (λ (q : Result ℕ BadField). and_then q (λ y. numbers_from (take i numbers ++ (y ∷ [])) (count - (i + 1)) (3 + (i + 1)) (after 44 rest))) b)
