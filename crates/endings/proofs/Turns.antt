-- A loop that changes one table of a register element by element.
use Rattle.std.proofs.Common.{◌≡◌, ℕ, suc, ◌+◌, Bool, true, false, cond, List, length, get_or, set, sym, ap, ◌∙◌, add-one, arith}
use Rattle.std.proofs.lemmas.Bool.{cond-true}
use Rattle.std.proofs.lemmas.List.{set-get_or}
use Rattle.rules.specs.Tables.{each}
use Rattle.rules.specs.Registers.{Register}
use Rattle.rules.proofs.Changing.{upto, one_more, all_turns, turns_later}

module _ {V A : Type 0} (W : Register V → List A → Register V) (G : Register V → List A) (f : Register V → ℕ → A → A) (d : A) (r a b : Register V) (i : ℕ)
    (inv : a ≡ W r (upto (one_more (f r) d) i (G r))) where
  -- one turn more
  pub turn_more : ((xs : List A) → get_or xs i d ≡ get_or (G r) i d → W (W r xs) (set (G (W r xs)) i (f (W r xs) (suc i) (get_or (G (W r xs)) i d))) ≡ W r (set xs i (f r (suc i) (get_or xs i d)))) →
      b ≡ W a (set (G a) i (f a (suc i) (get_or (G a) i d))) → b ≡ W r (upto (one_more (f r) d) (i + 1) (G r))
  turn_more same e = rw add-one (e ∙ (ap (λ (x : Register V). W x (set (G x) i (f x (suc i) (get_or (G x) i d)))) inv ∙ same (upto (one_more (f r) d) i (G r)) (turns_later (f r) d i i (G r) d (omega arith))))

  -- all of them
  pub turn_all : i ≡ length (G r) → a ≡ W r (each (f r) (G r))
  turn_all e = inv ∙ ap (W r) (ap (λ (k : ℕ). upto (one_more (f r) d) k (G r)) e ∙ all_turns (f r) d (G r))

-- a turn that changes its element under a test of the number, where the test holds and where it does not
module _ {A B : Type 0} (W : List A → B) (test : ℕ → Bool) (i : ℕ) (b : Bool) (told : b ≡ test (i + 1)) (xs : List A) (v d : A) where
  tested : test (suc i) ≡ b
  tested = ap test (sym (add-one i)) ∙ sym told

  pub changed : b ≡ true → W (set xs i v) ≡ W (set xs i (cond (test (suc i)) v (get_or xs i d)))
  changed e = ap (λ (x : A). W (set xs i x)) (sym (cond-true (test (suc i)) v (get_or xs i d) (tested ∙ e)))

  pub kept : b ≡ false → W xs ≡ W (set xs i (cond (test (suc i)) v (get_or xs i d)))
  kept e = ap W (sym (rw (tested ∙ e) (set-get_or xs i d)))
