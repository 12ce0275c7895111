-- The two choosers keep the law.
use Rattle.std.specs.Prelude.{◌≡◌, ℕ, ◌+◌, ◌-◌, ◌/◌, ◌<◌, ◌≤◌, Bool, true, false, cond, List, [], ◌∷◌, ◌++◌, nat_lt, refl}
use Rattle.std.proofs.Common.{ap, arith, lt-ltb, le-ltb, ltb-true}
use Rattle.choosers.specs.Meaning.{KeepsLaw, no_room}
use Rattle.choosers.specs.Stride.{stride_meaning}
use Rattle.choosers.specs.Script.{script_meaning, next_fitted, after_next, left_after}

---- The stride

stepped_above : (near : Bool) (step low half : ℕ) → 1 ≤ step → 1 ≤ half → low < cond near (low + step) (low + half)
stepped_above true step low half p q = omega arith
stepped_above false step low half p q = omega arith

stepped_below : (near : Bool) (step low half high : ℕ) → (near ≡ true → low + step < high) → low + half < high → cond near (low + step) (low + half) < high
stepped_below true step low half high f q = f refl
stepped_below false step low half high f q = q

pub stride_lawful : (step : ℕ) → 1 ≤ step → KeepsLaw (stride_meaning step)
stride_lawful step positive = record {
  between = λ further low high room. let t = le-ltb high (low + 2) room in simp t (
    stepped_above (nat_lt (low + step) high) step low ((high - low) / 2) positive (omega arith),
    stepped_below (nat_lt (low + step) high) step low ((high - low) / 2) high (ltb-true (low + step) high) (omega arith),
  );
  low_without_room = λ further low high none. let t = lt-ltb high (low + 2) none in simp t;
  unmoved_without_room = λ before after low high l h none. refl;
}

---- The script

fitted_above : (over under : Bool) (number low : ℕ) → (over ≡ true → low < number) → low < cond over (cond under number (low + 1)) (low + 1)
fitted_above true true number low f = f refl
fitted_above true false number low f = omega arith
fitted_above false under number low f = omega arith

fitted_below : (over under : Bool) (number low high : ℕ) → low + 2 ≤ high → (under ≡ true → number < high) → cond over (cond under number (low + 1)) (low + 1) < high
fitted_below true true number low high room f = f refl
fitted_below true false number low high room f = omega arith
fitted_below false under number low high room f = omega arith

next_above : (numbers : List ℕ) (low high : ℕ) → low + 2 ≤ high → low < next_fitted numbers low high
next_above [] low high room = omega arith
next_above (number ∷ numbers) low high room = fitted_above (nat_lt low number) (nat_lt number high) number low (ltb-true low number)

next_below : (numbers : List ℕ) (low high : ℕ) → low + 2 ≤ high → next_fitted numbers low high < high
next_below [] low high room = omega arith
next_below (number ∷ numbers) low high room = fitted_below (nat_lt low number) (nat_lt number high) number low high room (ltb-true number high)

left_unmoved : (numbers : List ℕ) (before after : List (ℕ × ℕ)) (low high : ℕ) → high < low + 2 → left_after numbers (before ++ ((low, high) ∷ after)) ≡ left_after numbers (before ++ after)
left_unmoved numbers [] after low high none = ap (λ (b : Bool). left_after (cond b numbers (after_next numbers)) after) (lt-ltb high (low + 2) none)
left_unmoved numbers (pair ∷ pairs) after low high none = left_unmoved (cond (no_room pair.0 pair.1) numbers (after_next numbers)) pairs after low high none

pub script_lawful : (numbers : List ℕ) → KeepsLaw (script_meaning numbers)
script_lawful numbers = record {
  between = λ further low high room. let t = le-ltb high (low + 2) room in simp t
      (next_above (left_after numbers further) low high room, next_below (left_after numbers further) low high room);
  low_without_room = λ further low high none. let t = lt-ltb high (low + 2) none in simp t;
  unmoved_without_room = λ before after low high l h none. ap (λ (left : List ℕ). cond (no_room l h) l (next_fitted left l h)) (left_unmoved numbers before after low high none);
}
