-- What the tables hold after a change.
use Rattle.std.proofs.Common.{◌≡◌, ℕ, zero, suc, ◌+◌, ◌-◌, ◌*◌, ◌/◌, ◌%◌, ◌<◌, ◌≤◌, max, Bool, true, false, cond, eqb, ltb, leb, ◌⊎◌, List, [], ◌∷◌, ◌++◌, length, get_or, take, drop, set, replicate, sym, refl, ap, ◌∙◌, inl, inr, mul_comm, one-add, arith}
use Rattle.std.proofs.lemmas.List.{length-set, length-replicate, get_or-set_same, get_or-set_other, get_or-take, get_or-drop, get_or_append_left, get_or-append_right, get_or-replicate, length-take-le, ext_get_or}
use Rattle.std.proofs.lemmas.Bool.{eqb-true, eqb-false, eq-eqb, ne_eqb, leb-true, leb-false, ltb-false, or_parts, cases_lt, cases_order, le-leb, lt-leb}
use Rattle.std.proofs.lemmas.Nat.{mul-add-lt, div-mul-add, mod-mul-add}
use Rattle.rules.specs.Tables.{at, put, each_from, each, row, spot, cleared, most, outside, read_flag, written_flag, with_read, with_written}

module _ {A : Type 0} where
  get_or_each : (f : ℕ → A → A) (k : ℕ) (xs : List A) (i : ℕ) (d : A) → i < length xs → get_or (each_from k f xs) i d ≡ f (k + i) (get_or xs i d)
  get_or_each f k [] i d l = absurd (omega arith)
  get_or_each f k (x ∷ xs) zero d l = let e : k ≡ k + 0 = omega arith in ap (λ (z : ℕ). f z x) e
  get_or_each f k (x ∷ xs) (suc i) d l = let e : suc k + i ≡ k + suc i = omega arith in get_or_each f (suc k) xs i d (omega arith) ∙ ap (λ (z : ℕ). f z (get_or xs i d)) e

  pub at_each : (f : ℕ → A → A) (xs : List A) (c : ℕ) (d : A) → 1 ≤ c → c ≤ length xs → at (each f xs) c d ≡ f c (at xs c d)
  at_each f xs c d a b = let e : 1 + (c - 1) ≡ c = omega arith in get_or_each f 1 xs (c - 1) d (omega arith) ∙ ap (λ (z : ℕ). f z (at xs c d)) e

  pub length_each : (f : ℕ → A → A) (k : ℕ) (xs : List A) → length (each_from k f xs) ≡ length xs
  length_each f k [] = refl
  length_each f k (x ∷ xs) = ap suc (length_each f (suc k) xs)

  pub get_or_put : (xs : List A) (i j : ℕ) (v d : A) → i < length xs → get_or (set xs i v) j d ≡ cond (eqb i j) v (get_or xs j d)
  get_or_put xs i j v d l = go (eqb i j) refl
    where
      go : (b : Bool) → eqb i j ≡ b → get_or (set xs i v) j d ≡ cond b v (get_or xs j d)
      go true e = rw (← eqb-true i j e) (get_or-set_same xs i v d l)
      go false e = get_or-set_other xs i j v d (λ q. eqb-false i j e (sym q))

  pub at_put : (xs : List A) (w u : ℕ) (v d : A) → 1 ≤ w → w ≤ length xs → 1 ≤ u → at (put xs w v) u d ≡ cond (eqb w u) v (at xs u d)
  at_put xs w u v d a b c = get_or_put xs (w - 1) (u - 1) v d (omega arith) ∙ ap (λ (t : Bool). cond t v (at xs u d)) same
    where
      go : (b : Bool) → eqb w u ≡ b → eqb (w - 1) (u - 1) ≡ b
      go true e = eq-eqb (w - 1) (u - 1) (ap (λ (z : ℕ). z - 1) (eqb-true w u e))
      go false e = ne_eqb (w - 1) (u - 1) (λ q. eqb-false w u e (omega arith))

      same : eqb (w - 1) (u - 1) ≡ eqb w u
      same = go (eqb w u) refl

---- Rows

pub spot_in : (n m w c : ℕ) → 1 ≤ w → w ≤ m → 1 ≤ c → c ≤ n → spot n w c < m * n
spot_in n m w c a b e f = rw (mul_comm m n) (mul-add-lt (w - 1) n (c - 1) m (omega arith) (omega arith))

pub spot_apart : (n w c u k : ℕ) → 1 ≤ w → 1 ≤ c → c ≤ n → 1 ≤ u → 1 ≤ k → k ≤ n → spot n w c ≡ spot n u k → (w ≡ u) × (c ≡ k)
spot_apart n w c u k a b e f g h q =
    let x : w - 1 ≡ u - 1 = sym (div-mul-add (w - 1) n (c - 1) (omega arith)) ∙ (ap (λ (z : ℕ). z / n) q ∙ div-mul-add (u - 1) n (k - 1) (omega arith)) in
    let y : c - 1 ≡ k - 1 = sym (mod-mul-add (w - 1) n (c - 1) (omega arith)) ∙ (ap (λ (z : ℕ). z % n) q ∙ mod-mul-add (u - 1) n (k - 1) (omega arith)) in
    (omega arith, omega arith)

-- one element of a table of crews and cells
pub get_or_spot : {A : Type 0} (xs : List A) (n m w c u k : ℕ) (v d : A) → length xs ≡ m * n → 1 ≤ w → w ≤ m → 1 ≤ c → c ≤ n → 1 ≤ u → 1 ≤ k → k ≤ n →
    get_or (set xs (spot n w c) v) (spot n u k) d ≡ cond (eqb w u) (cond (eqb c k) v (get_or xs (spot n u k) d)) (get_or xs (spot n u k) d)
get_or_spot {A} xs n m w c u k v d len a b e f g h i = get_or_put xs (spot n w c) (spot n u k) v d (rw len (spot_in n m w c a b e f)) ∙ go (eqb w u) (eqb c k) refl refl
  where
    x : A
    x = get_or xs (spot n u k) d

    go : (s t : Bool) → eqb w u ≡ s → eqb c k ≡ t → cond (eqb (spot n w c) (spot n u k)) v x ≡ cond s (cond t v x) x
    go true true p q = rw (eqb-true w u p, eqb-true c k q, eq-eqb (spot n u k) (spot n u k) refl)
    go true false p q = rw (ne_eqb (spot n w c) (spot n u k) (λ z. eqb-false c k q (spot_apart n w c u k a e f g h i z).1))
    go false t p q = rw (ne_eqb (spot n w c) (spot n u k) (λ z. eqb-false w u p (spot_apart n w c u k a e f g h i z).0))

pub rows_apart : (n u w : ℕ) → 1 ≤ n → u < w → u * n + n ≤ w * n
rows_apart n u w a l = let k = mul-add-lt u n (n - 1) w l (omega arith) in let e = mul_comm w n in omega arith

pub get_or_cleared : (xs : List ℕ) (n m w u c : ℕ) → length xs ≡ m * n → 1 ≤ w → w ≤ m → 1 ≤ u → 1 ≤ c → c ≤ n →
    get_or (cleared xs n w) (spot n u c) 0 ≡ cond (eqb w u) 0 (get_or xs (spot n u c) 0)
get_or_cleared xs n m w u c len a b e f g = go (cases_order w u)
  where
    fits : row n w + n ≤ length xs
    fits = rw len (rows_apart n (w - 1) m (omega arith) (omega arith))

    first : length (take (row n w) xs) ≡ row n w
    first = length-take-le (row n w) xs (omega (arith, fits))

    go : (w ≡ u) ⊎ ((w < u) ⊎ (u < w)) → get_or (cleared xs n w) (spot n u c) 0 ≡ cond (eqb w u) 0 (get_or xs (spot n u c) 0)
    go (inl q) = rw (← q, eq-eqb w w refl)
        (get_or-append_right (take (row n w) xs) (replicate n 0 ++ drop (row n w + n) xs) (row n w) (spot n w c) 0 first (omega arith)
        ∙ (get_or_append_left (replicate n 0) (drop (row n w + n) xs) 0 (spot n w c - row n w) (simp length-replicate (omega arith))
        ∙ get_or-replicate n (spot n w c - row n w) 0 0 (omega arith)))
    go (inr (inl q)) = rw (ne_eqb w u (λ z. omega arith))
        (let k = rows_apart n (w - 1) (u - 1) (omega arith) (omega arith) in
        let z : row n w + n + (spot n u c - row n w - n) ≡ spot n u c = omega arith in
        get_or-append_right (take (row n w) xs) (replicate n 0 ++ drop (row n w + n) xs) (row n w) (spot n u c) 0 first (omega arith)
        ∙ (get_or-append_right (replicate n 0) (drop (row n w + n) xs) n (spot n u c - row n w) 0 (length-replicate n 0) (omega arith)
        ∙ (get_or-drop (row n w + n) xs (spot n u c - row n w - n) 0
        ∙ ap (λ (i : ℕ). get_or xs i 0) z)))
    go (inr (inr q)) = rw (ne_eqb w u (λ z. omega arith))
        (let k = rows_apart n (u - 1) (w - 1) (omega arith) (omega arith) in
        let z : spot n u c < row n w = omega arith in
        get_or_append_left (take (row n w) xs) (replicate n 0 ++ drop (row n w + n) xs) 0 (spot n u c) (rw first z)
        ∙ get_or-take (row n w) xs (spot n u c) 0 z)

---- The largest, and some

pub most_at : (f : ℕ → ℕ) (n k : ℕ) → 1 ≤ k → k ≤ n → f k ≤ most f n
most_at f zero k a b = absurd (omega arith)
most_at f (suc n) k a b = go (eqb k (suc n)) refl (most_at f n k a)
  where
    go : (t : Bool) → eqb k (suc n) ≡ t → (k ≤ n → f k ≤ most f n) → f k ≤ max (f (suc n)) (most f n)
    go true e ih = rw (eqb-true k (suc n) e) (omega arith)
    go false e ih = let l = ih (omega (arith, eqb-false k (suc n) e)) in omega arith

-- and it is one of them, or 0
pub most_least : (f : ℕ → ℕ) (n b : ℕ) → ((k : ℕ) → 1 ≤ k → k ≤ n → f k ≤ b) → most f n ≤ b
most_least f zero b h = omega arith
most_least f (suc n) b h = let l = most_least f n b (λ k a c. h k a (omega arith)) in let m = h (suc n) (omega arith) (omega arith) in omega arith

pub inside : (n k : ℕ) → outside n k ≡ false → (1 ≤ k) × (k ≤ n)
inside n k e = let p = or_parts (eqb k 0) (ltb n k) e in let q = eqb-false k 0 p.0 in let l = ltb-false n k p.1 in (omega arith, omega arith)

---- Flags

bit : (f : ℕ) → (b : Bool) → read_flag f ≡ b → read_flag (cond b (f % 4) (f % 4 + 1)) ≡ true
bit f true e = eq-eqb (f % 4 % 4 % 2) 1 (omega (arith, eqb-true (f % 4 % 2) 1 e))
bit f false e = eq-eqb ((f % 4 + 1) % 4 % 2) 1 (omega (arith, eqb-false (f % 4 % 2) 1 e))

pub first_read : (f : ℕ) → read_flag (with_read f) ≡ true
first_read f = bit f (read_flag f) refl

same_leb : (a b : ℕ) → (2 ≤ a → 2 ≤ b) → (2 ≤ b → 2 ≤ a) → leb 2 a ≡ leb 2 b
same_leb a b f g = go (leb 2 b) refl
  where
    go : (t : Bool) → leb 2 b ≡ t → leb 2 a ≡ t
    go true e = le-leb 2 a (g (leb-true 2 b e))
    go false e = lt-leb 2 a (below (cases_lt a 2))
      where
        below : (a < 2) ⊎ (2 ≤ a) → a < 2
        below (inl l) = l
        below (inr l) = absurd (omega (arith, f l, leb-false 2 b e))

same_one : (a b : ℕ) → a ≡ b → eqb a 1 ≡ eqb b 1
same_one a b e = ap (λ (z : ℕ). eqb z 1) e

bit₂ : (f : ℕ) → (b : Bool) → read_flag f ≡ b → written_flag (cond b (f % 4) (f % 4 + 1)) ≡ written_flag f
bit₂ f true e = same_leb (f % 4 % 4) (f % 4) (λ l. omega arith) (λ l. omega arith)
bit₂ f false e = let n = eqb-false (f % 4 % 2) 1 e in same_leb ((f % 4 + 1) % 4) (f % 4) (λ l. omega arith) (λ l. omega arith)

pub written_read : (f : ℕ) → written_flag (with_read f) ≡ written_flag f
written_read f = bit₂ f (read_flag f) refl

bit₃ : (f : ℕ) → (b : Bool) → written_flag f ≡ b → read_flag (cond b (f % 4) (f % 4 + 2)) ≡ read_flag f
bit₃ f true e = same_one (f % 4 % 4 % 2) (f % 4 % 2) (omega arith)
bit₃ f false e = let n = leb-false 2 (f % 4) e in same_one ((f % 4 + 2) % 4 % 2) (f % 4 % 2) (omega arith)

pub first_written : (f : ℕ) → read_flag (with_written f) ≡ read_flag f
first_written f = bit₃ f (written_flag f) refl

bit₄ : (f : ℕ) → (b : Bool) → written_flag f ≡ b → written_flag (cond b (f % 4) (f % 4 + 2)) ≡ true
bit₄ f true e = le-leb 2 (f % 4 % 4) (omega (arith, leb-true 2 (f % 4) e))
bit₄ f false e = le-leb 2 ((f % 4 + 2) % 4) (omega (arith, leb-false 2 (f % 4) e))

pub written_written : (f : ℕ) → written_flag (with_written f) ≡ true
written_written f = bit₄ f (written_flag f) refl

---- A loop that changes one element after the other

abbrev pub upto : {A : Type 0} → (ℕ → A → A) → ℕ → A → A
upto f zero a = a
upto f (suc n) a = f n (upto f n a)

module _ {A : Type 0} (f : ℕ → A → A) (d : A) where
  abbrev pub one_more : ℕ → List A → List A
  one_more i xs = set xs i (f (suc i) (get_or xs i d))

  turns_length : (i : ℕ) (xs : List A) → length (upto one_more i xs) ≡ length xs
  turns_length zero xs = refl
  turns_length (suc i) xs = length-set (upto one_more i xs) i (f (suc i) (get_or (upto one_more i xs) i d)) ∙ turns_length i xs

  pub turns_later : (i j : ℕ) (xs : List A) (e : A) → i ≤ j → get_or (upto one_more i xs) j e ≡ get_or xs j e
  turns_later zero j xs e l = refl
  turns_later (suc i) j xs e l = get_or-set_other (upto one_more i xs) i j (f (suc i) (get_or (upto one_more i xs) i d)) e (λ q. omega arith) ∙ turns_later i j xs e (omega arith)

  turns_done : (i j : ℕ) (xs : List A) → j < i → i ≤ length xs → get_or (upto one_more i xs) j d ≡ f (suc j) (get_or xs j d)
  turns_done zero j xs l m = absurd (omega arith)
  turns_done (suc i) j xs l m = get_or_put (upto one_more i xs) i j (f (suc i) (get_or (upto one_more i xs) i d)) d (omega (arith, turns_length i xs)) ∙ go (eqb i j) refl (λ a. turns_done i j xs a (omega arith))
    where
      go : (b : Bool) → eqb i j ≡ b → (j < i → get_or (upto one_more i xs) j d ≡ f (suc j) (get_or xs j d)) → cond b (f (suc i) (get_or (upto one_more i xs) i d)) (get_or (upto one_more i xs) j d) ≡ f (suc j) (get_or xs j d)
      go true e ih = rw (← eqb-true i j e, turns_later i i xs d (omega arith))
      go false e ih = ih (omega (arith, eqb-false i j e))

  -- all of them in turn
  pub all_turns : (xs : List A) → upto one_more (length xs) xs ≡ each f xs
  all_turns xs = ext_get_or d (upto one_more (length xs) xs) (each f xs) (turns_length (length xs) xs ∙ sym (length_each f 1 xs))
      (λ i l. let m : i < length xs = omega (arith, turns_length (length xs) xs) in turns_done (length xs) i xs m (omega arith) ∙ sym (get_or_each f 1 xs i d m ∙ ap (λ (z : ℕ). f z (get_or xs i d)) (one-add i)))
