-- An entry put into the day book, where those of higher places have moved up by one.
use Rattle.std.proofs.Common.{◌≡◌, ℕ, zero, suc, ◌+◌, ◌-◌, ◌<◌, ◌≤◌, List, [], ◌∷◌, ◌++◌, length, get_or, take, drop, set, sym, ap, ◌∙◌, add-one, arith}
use Rattle.std.proofs.lemmas.List.{append_assoc, length-take-le, length-drop, length-set, take_more, take-append-drop, take-take, drop-take, drop-set-lt, set_at}
use Rattle.std.proofs.lemmas.List.Edits.{length-paste, take-paste, drop-paste}
use Rattle.std.proofs.Math.Seq.{take-set-lt}
use Rattle.std.specs.List.{AllWithin, HoldsAt, copy_within}
use Rattle.terms.specs.declared.records.Entry.{Entry}
use Rattle.rules.specs.Performing.{All, NotAbove, Ascending, Inserted}

all_from : {A : Type 0} (P : A → Type 0) (xs : List A) (i : ℕ) → AllWithin P xs i (length xs) → All P (drop i xs)
all_from P [] zero h = tt
all_from P [] (suc i) h = tt
all_from P (x ∷ xs) zero h = (h 0 x (omega arith) (omega arith), all_from P xs zero (λ k d a b. h (suc k) d (omega arith) (omega arith)))
all_from P (x ∷ xs) (suc i) h = all_from P xs i (λ k d a b. h (suc k) d (omega arith) (omega arith))

all_at : {A : Type 0} (P : A → Type 0) (xs : List A) (x : A) (ys : List A) → All P (xs ++ (x ∷ ys)) → P x
all_at P [] x ys a = a.0
all_at P (z ∷ xs) x ys a = all_at P xs x ys a.1

ascends_last : (xs : List Entry) (x e : Entry) (ys : List Entry) → Ascending (xs ++ (x ∷ ys)) → NotAbove x e → All (λ f. NotAbove f e) (xs ++ (x ∷ []))
ascends_last [] x e ys c l = (l, tt)
ascends_last (z ∷ xs) x e ys c l = let q = all_at (NotAbove z) xs x ys c.0 in (omega arith, ascends_last xs x e ys c.1 l)

front_below : (day back : List Entry) (e : Entry) (i : ℕ) → i ≤ length day → (0 < i → HoldsAt (λ f. f.place.0 ≤ e.place.0) day (i - 1)) → Ascending (take i day ++ back) → All (λ f. NotAbove f e) (take i day)
front_below day back e zero l h c = tt
front_below day back e (suc j) l h c = rw at_j (ascends_last (take j day) (get_or day j e) e back (rw (at_j, append_assoc) at c) last)
  where
    at_j : take (suc j) day ≡ take j day ++ (get_or day j e ∷ [])
    at_j = rw (← add-one) (take_more day j e (omega arith))

    last : (get_or day j e).place.0 ≤ e.place.0
    last = let z : suc j - 1 ≡ j = omega arith in rw z at (h (omega arith) e)

module _ (book : List Entry) (k i : ℕ) (e : Entry) (room : k < length book) (within : i ≤ k) where
  abbrev pub moved : List Entry
  moved = copy_within book i k (i + 1)

  to_end : i + 1 + (k - i) ≡ k + 1
  to_end = omega arith

  rest_long : k - i ≤ length (drop i book)
  rest_long = let n = length-drop i book in omega arith

  -- the day book and one more place
  first_moved : take (k + 1) moved ≡ take i book ++ (get_or book i e ∷ drop i (take k book))
  first_moved =
      let all : i + (k - i) ≡ k = omega arith in
      ap (λ (n : ℕ). take n moved) (sym to_end)
      ∙ (take-paste book (i + 1) (drop i book) (k - i) (omega arith) rest_long
      ∙ (ap (λ (z : List Entry). z ++ take (k - i) (drop i book)) (take_more book i e (omega arith))
      ∙ (append_assoc (take i book) (get_or book i e ∷ []) (take (k - i) (drop i book))
      ∙ ap (λ (z : List Entry). take i book ++ (get_or book i e ∷ z)) (sym (drop-take i (k - i) book) ∙ ap (λ (n : ℕ). drop i (take n book)) all))))

  pub inserted_at : (after : List Entry) → after ≡ moved → AllWithin (λ f. e.place.0 < f.place.0) (take k book) i (length (take k book)) → (0 < i → HoldsAt (λ f. f.place.0 ≤ e.place.0) (take k book) (i - 1)) → Inserted k e book (set after i e)
  inserted_at after is_moved above below =
      let day_long = length-take-le k book (omega arith) in
      rw is_moved (record {
        front = take i book;
        back = drop i (take k book);
        was = sym (take-append-drop i (take k book)) ∙ ap (λ (z : List Entry). z ++ drop i (take k book)) (take-take i k book within);
        is = take-set-lt (k + 1) moved i e (omega arith) ∙ (ap (λ (z : List Entry). set z i e) first_moved ∙ set_at (take i book) (get_or book i e) (drop i (take k book)) e i (length-take-le i book (omega arith)));
        past_unaltered = drop-set-lt (k + 1) moved i e (omega arith) ∙ (ap (λ (n : ℕ). drop n moved) (sym to_end) ∙ (drop-paste book (i + 1) (drop i book) (k - i) (omega arith) rest_long ∙ ap (λ (n : ℕ). drop n book) to_end));
        same_length = length-set moved i e ∙ length-paste book (i + 1) (drop i book) (k - i) (omega arith) rest_long;
        in_place = λ ascends. (
          rw (take-take i k book within) at (front_below (take k book) (drop i (take k book)) e i (omega (arith, day_long)) below (rw (take-take i k book within) ascends)),
          all_from (NotAbove e) (take k book) i (λ j d a b. let l = above j d a b in omega arith),
        );
      })
