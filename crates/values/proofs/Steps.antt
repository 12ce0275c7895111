-- One field more of a value that is being read.
use Rattle.std.proofs.Common.{◌≡◌, ℕ, suc, ◌+◌, ◌-◌, ◌<◌, List, Some, None, Ok, Err, Option, Result, ap, arith, rules}
use Rattle.std.specs.Option.{ok_or}
use Rattle.terms.specs.declared.refusals.BadField.{BadField}
use Rattle.terms.specs.declared.refusals.Cause.TheVariants.{NoNumber, OutOfRange}
use Rattle.text.specs.Numbers.{number_in}
use Rattle.text.specs.Split.{before, after}
use Rattle.values.specs.Forms.{Form, read_from, is_number, in_range}

-- what follows the number of field i
abbrev pub range_step : {V : Type 0} → Form V → ℕ → ℕ → ℕ → V → List ℕ → ℕ → Result V BadField
range_step form first w i v bs x = in_range (first + i) (form.with_field v i x) (λ u. read_from form first (w - (i + 1)) (i + 1) u (after 44 bs))

pub one_left : {V : Type 0} (form : Form V) (first w i : ℕ) (v : V) (bs : List ℕ) → i < w
    → read_from form first (w - i) i v bs ≡ is_number (first + i) (number_in (before 44 bs)) (range_step form first w i v bs)
one_left form first w i v bs h =
    let e : w - i ≡ suc (w - (i + 1)) = omega arith in
    ap (λ k. read_from form first k i v bs) e

pub no_number : {V : Type 0} (k : ℕ) (o : Option ℕ) (next : ℕ → Result V BadField) (e f : BadField)
    → (e.field ≡ k) × (e.cause ≡ NoNumber) → Err f ≡ ok_or o e → is_number k o next ≡ Err f
no_number k None next e f h r = search (rules, h, r)
no_number k (Some x) next e f h r = search (rules, r)

pub a_number : {V : Type 0} (k : ℕ) (o : Option ℕ) (next : ℕ → Result V BadField) (e : BadField) (x : ℕ)
    → Ok x ≡ ok_or o e → is_number k o next ≡ next x
a_number k None next e x r = search (rules, r)
a_number k (Some y) next e x r = search (rules, r)

pub out_of_range : {V : Type 0} (k : ℕ) (o : Option V) (next : V → Result V BadField) (e f : BadField)
    → (e.field ≡ k) × (e.cause ≡ OutOfRange) → Err f ≡ ok_or o e → in_range k o next ≡ Err f
out_of_range k None next e f h r = search (rules, h, r)
out_of_range k (Some x) next e f h r = search (rules, r)

pub within_range : {V : Type 0} (k : ℕ) (o : Option V) (next : V → Result V BadField) (e : BadField) (x : V)
    → Ok x ≡ ok_or o e → in_range k o next ≡ next x
within_range k None next e x r = search (rules, r)
within_range k (Some y) next e x r = search (rules, r)
