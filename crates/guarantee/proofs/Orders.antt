-- Rows of jobs and lists of entries with one more in the middle.
use Rattle.std.proofs.Common.{◌≡◌, ℕ, ◌⊎◌, List, [], ◌∷◌, ◌++◌, sym, ap, ◌∙◌, inl, inr}
use Rattle.std.proofs.Math.Logic.{⊎_elim, ⊎_map}
use Rattle.std.proofs.lemmas.List.{append-nil, append_assoc}
use Rattle.terms.specs.declared.records.Entry.{Entry}
use Rattle.history.specs.Precedence.{Extends, In}
use Rattle.history.specs.Precedence.Extends.{here, later}
use Rattle.history.proofs.Rows.{Distinct, in_cases, in_head, in_later}
use Rattle.rules.specs.Performing.{All, Ascending, NotAbove}
use Rattle.guarantee.specs.Opacity.{order_of}

since_app : {A : Type 0} {x y : List A} (z : List A) → Extends x y → Extends (x ++ z) (y ++ z)
since_app z here = here
since_app z (later s) = later (since_app z s)

pub in_left : (z : ℕ) (a c : List ℕ) → In z a → In z (a ++ c)
in_left z a c (ea, s) = (ea ++ c, since_app c s)

pub in_right : (z : ℕ) (a c : List ℕ) → In z c → In z (a ++ c)
in_right z [] c i = i
in_right z (x ∷ a) c i = in_later z x (a ++ c) (in_right z a c i)

pub in_either : (z : ℕ) (a c : List ℕ) → In z (a ++ c) → In z a ⊎ In z c
in_either z [] c i = inr i
in_either z (x ∷ a) c i = ⊎_elim (λ e. inl (in_head z x a e)) (λ j. ⊎_map (in_later z x a) (λ k. k) (in_either z a c j)) (in_cases z x (a ++ c) i)

pub in_mid : (z x : ℕ) (a c : List ℕ) → In z (a ++ (x ∷ c)) → (z ≡ x) ⊎ In z (a ++ c)
in_mid z x a c i = ⊎_elim (λ j. inr (in_left z a c j)) (λ j. ⊎_map (λ e. e) (in_right z a c) (in_cases z x c j)) (in_either z a (x ∷ c) i)

pub in_mid_keeps : (z x : ℕ) (a c : List ℕ) → In z (a ++ c) → In z (a ++ (x ∷ c))
in_mid_keeps z x a c i = ⊎_elim (in_left z a (x ∷ c)) (λ j. in_right z a (x ∷ c) (in_later z x c j)) (in_either z a c i)

pub in_mid_here : (x : ℕ) (a c : List ℕ) → In x (a ++ (x ∷ c))
in_mid_here x a c = in_right x a (x ∷ c) (c, here)

pub distinct_mid : (x : ℕ) (a c : List ℕ) → Distinct (a ++ c) → (In x (a ++ c) → ⊥) → Distinct (a ++ (x ∷ c))
distinct_mid x [] c d n = (n, d)
distinct_mid x (y ∷ a) c d n = ((λ i. ⊎_elim (λ e. n (in_head x y (a ++ c) (sym e))) d.0 (in_mid y x a c i)), distinct_mid x a c d.1 (λ i. n (in_later x y (a ++ c) i)))

---- Entries

pub order_of_append : (xs ys : List Entry) → order_of (xs ++ ys) ≡ order_of ys ++ order_of xs
order_of_append [] ys = sym (append-nil (order_of ys))
order_of_append (x ∷ xs) ys = ap (λ (r : List ℕ). r ++ (x.job.0 ∷ [])) (order_of_append xs ys) ∙ append_assoc (order_of ys) (order_of xs) (x.job.0 ∷ [])

pub order_of_mid : (xs ys : List Entry) (e : Entry) → order_of (xs ++ (e ∷ ys)) ≡ order_of ys ++ (e.job.0 ∷ order_of xs)
order_of_mid xs ys e = order_of_append xs (e ∷ ys) ∙ append_assoc (order_of ys) (e.job.0 ∷ []) (order_of xs)

pub all_mid : {A : Type 0} (P : A → Type 0) (e : A) (xs ys : List A) → P e → All P (xs ++ ys) → All P (xs ++ (e ∷ ys))
all_mid P e [] ys p q = (p, q)
all_mid P e (x ∷ xs) ys p q = (q.0, all_mid P e xs ys p q.1)

pub all_map : {A : Type 0} (P Q : A → Type 0) (xs : List A) → ((x : A) → P x → Q x) → All P xs → All Q xs
all_map P Q [] f p = tt
all_map P Q (x ∷ xs) f p = (f x p.0, all_map P Q xs f p.1)

pub ascending_mid : (e : Entry) (xs ys : List Entry) → Ascending (xs ++ ys) → All (λ f. NotAbove f e) xs → All (NotAbove e) ys → Ascending (xs ++ (e ∷ ys))
ascending_mid e [] ys c p q = (q, c)
ascending_mid e (x ∷ xs) ys c p q = (all_mid (NotAbove x) e xs ys p.0 c.0, ascending_mid e xs ys c.1 p.1 q)
