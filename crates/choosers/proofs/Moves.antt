-- How a chooser moves on: it keeps the law, and a script is the script of the numbers that are left.
use Rattle.std.proofs.Common.{◌≡◌, ℕ, Bool, false, cond, List, ◌∷◌, sym, refl, ap, ◌∙◌}
use Rattle.choosers.specs.Meaning.{Meaning, KeepsLaw, moved_on, no_room}
use Rattle.choosers.specs.Script.{script_meaning, after_next}

pub moved_lawful : (f : Meaning) (low high : ℕ) → KeepsLaw f → KeepsLaw (moved_on f low high)
moved_lawful f low high k = record {
  between = λ further. k.between ((low, high) ∷ further);
  low_without_room = λ further. k.low_without_room ((low, high) ∷ further);
  unmoved_without_room = λ before. k.unmoved_without_room ((low, high) ∷ before);
}

-- a script moves on to the script of the numbers left
pub moved_script : (numbers : List ℕ) (low high : ℕ) → script_meaning (cond (no_room low high) numbers (after_next numbers)) ≡ moved_on (script_meaning numbers) low high
moved_script numbers low high = refl

-- so a pair with room uses up the next number
pub moved_with_room : (numbers : List ℕ) (low high : ℕ) → no_room low high ≡ false → script_meaning (after_next numbers) ≡ moved_on (script_meaning numbers) low high
moved_with_room numbers low high room =
    ap (λ (b : Bool). script_meaning (cond b numbers (after_next numbers))) (sym room) ∙ moved_script numbers low high
