-- How a value of a kind is written as numbers in fields, and read again.
use Rattle.std.specs.Prelude.{ℕ, zero, suc, ◌+◌, Bool, List, [], ◌∷◌, ◌++◌, Some, None, Ok, Err, decimal, Option, Result}
use Rattle.terms.specs.declared.refusals.BadField.{BadField}
use Rattle.terms.specs.declared.refusals.Cause.TheVariants.{NoNumber, OutOfRange}
use Rattle.text.specs.Numbers.{number_in}
use Rattle.text.specs.Split.{before, after}

-- what a kind of value says of itself
pub record Form (V : Type 0) : Type 0 where
  -- how many fields a value has
  pub width : ℕ
  -- its numbers, field by field
  pub fields : V → List ℕ
  -- whether it is in the kind's range
  pub inside : V → Bool
  -- the value into which fields are read
  pub blank : V
  -- the value with a number in its field i, counted from 0; none where the number is out of that field's range
  pub with_field : V → ℕ → ℕ → Option V

-- numbers, each after a comma
abbrev pub after_commas : List ℕ → List ℕ
after_commas [] = []
after_commas (x ∷ xs) = 44 ∷ (decimal x ++ after_commas xs)

-- numbers parted by commas
abbrev pub written : List ℕ → List ℕ
written [] = []
written (x ∷ xs) = decimal x ++ after_commas xs

-- field k is bad unless its number may be put into the value
abbrev pub in_range : {V : Type 0} → ℕ → Option V → (V → Result V BadField) → Result V BadField
in_range k None next = Err (record { field = k; cause = OutOfRange })
in_range k (Some v) next = next v

abbrev pub is_number : {V : Type 0} → ℕ → Option ℕ → (ℕ → Result V BadField) → Result V BadField
is_number k None next = Err (record { field = k; cause = NoNumber })
is_number k (Some x) next = next x

-- reads the fields that are left, from the value's field i on, into v; the value's field 0 is the line's field `first`
abbrev pub read_from : {V : Type 0} → Form V → ℕ → ℕ → ℕ → V → List ℕ → Result V BadField
read_from form first zero i v bs = Ok v
read_from form first (suc left) i v bs =
    is_number (first + i) (number_in (before 44 bs)) (λ x. in_range (first + i) (form.with_field v i x) (λ w. read_from form first left (i + 1) w (after 44 bs)))

-- reads a value, or names the first bad field and why it is bad
abbrev pub read_value : {V : Type 0} → Form V → ℕ → List ℕ → Result V BadField
read_value form first bs = read_from form first form.width 0 form.blank bs
