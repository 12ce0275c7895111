-- The written fields of a value read back as the value.
use Rattle.std.specs.Prelude.{◌≡◌, ℕ, ◌+◌, ◌^◌, ◌<◌, true, false, List, [], ◌∷◌, ◌++◌, length, Some, Ok, decimal, Option, ◌==◌, refl}
use Rattle.std.proofs.Common.{ap, ◌∙◌, arith}
use Rattle.std.proofs.lemmas.List.{append-nil}
use Rattle.std.proofs.lemmas.Bool.{and_parts, ne_eqb, leb-true}
use Rattle.text.specs.Numbers.{is_digit, number_in}
use Rattle.text.specs.Split.{before, after}
use Rattle.text.proofs.Decimals.{reads_back, digits_only, only_digits}
use Rattle.values.specs.Forms.{Form, after_commas, written, read_from, is_number, in_range}

no_comma : (c : ℕ) → is_digit c ≡ true → (c == 44) ≡ false
no_comma c h =
    let p = and_parts _ _ h in
    let l = leb-true 48 c p.0 in
    ne_eqb c 44 (λ e. omega arith)

-- digits stand before the first comma
past_digits : (ds : List ℕ) → digits_only ds ≡ true → (r : List ℕ) → (before 44 (ds ++ r) ≡ ds ++ before 44 r) × (after 44 (ds ++ r) ≡ after 44 r)
past_digits [] h r = (refl, refl)
past_digits (c ∷ cs) h r =
    let p = and_parts (is_digit c) (digits_only cs) h in
    let t = no_comma c p.0 in
    let q = past_digits cs p.1 r in
    (simp t (ap (λ (l : List ℕ). c ∷ l) q.0), simp t q.1)

before_commas : (xs : List ℕ) → before 44 (after_commas xs) ≡ []
before_commas [] = refl
before_commas (x ∷ xs) = refl

after_commas_lem : (xs : List ℕ) → after 44 (after_commas xs) ≡ written xs
after_commas_lem [] = refl
after_commas_lem (x ∷ xs) = refl

first_field : (x : ℕ) (xs : List ℕ) → x < 10 ^ 19 → (before 44 (written (x ∷ xs)) ≡ decimal x) × (after 44 (written (x ∷ xs)) ≡ written xs)
first_field x xs h =
    let p = past_digits (decimal x) (only_digits x (omega arith)) (after_commas xs) in
    (p.0 ∙ ap (λ (l : List ℕ). decimal x ++ l) (before_commas xs) ∙ append-nil (decimal x), p.1 ∙ after_commas_lem xs)

-- each number is put into its field, from field i on, and w comes of it
abbrev pub Puts : {V : Type 0} → Form V → ℕ → V → List ℕ → V → Type 0
Puts form i v [] w = v ≡ w
Puts {V} form i v (x ∷ xs) w = (x < 10 ^ 19) × ((u : V) × (form.with_field v i x ≡ Some u) × Puts form (i + 1) u xs w)

-- numbers that may be put into their fields are read back from what is written of them
pub fields_read_back : {V : Type 0} (form : Form V) (first i : ℕ) (v : V) (xs : List ℕ) (w : V) → Puts form i v xs w
    → read_from form first (length xs) i v (written xs) ≡ Ok w
fields_read_back form first i v [] w h = ap (λ u. Ok u) h
fields_read_back {V} form first i v (x ∷ xs) w h =
    let p = first_field x xs h.0 in
    let n = ap number_in p.0 ∙ reads_back x h.0 in
    let u = h.1.0 in
    ap (λ (o : Option ℕ). is_number (first + i) o (λ y. in_range (first + i) (form.with_field v i y) (λ t. read_from form first (length xs) (i + 1) t (after 44 (written (x ∷ xs)))))) n
    ∙ ap (λ (o : Option V). in_range (first + i) o (λ t. read_from form first (length xs) (i + 1) t (after 44 (written (x ∷ xs))))) h.1.1
    ∙ ap (λ (bs : List ℕ). read_from form first (length xs) (i + 1) h.1.0 bs) p.1
    ∙ fields_read_back form first (i + 1) h.1.0 xs w h.1.2
