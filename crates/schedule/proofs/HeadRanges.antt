-- A head line that is read keeps its ranges.
use Rattle.std.proofs.Common.{◌≡◌, ℕ, ◌≤◌, Bool, true, false, cond, ◌&&◌, leb, List, Some, None, Ok, Err, Option, Result, refl, ap, arith}
use Rattle.std.proofs.lemmas.Bool.{and_parts, leb-true}
use Rattle.terms.specs.declared.refusals.BadField.{BadField}
use Rattle.terms.specs.declared.refusals.Cause.TheVariants.{OutOfRange}
use Rattle.text.specs.Numbers.{number_in}
use Rattle.values.specs.Forms.{is_number}
use Rattle.stages.specs.declared.head_line.HeadLine.{HeadLine}
use Rattle.stages.specs.HeadLines.{and_then, field, kind_in, size_in, read_head}
use Rattle.schedule.specs.Ranges.{InRange}

then_ok : {A B : Type 0} (r : Result A BadField) (next : A → Result B BadField) (b : B) → and_then r next ≡ Ok b → (a : A) × (r ≡ Ok a) × (next a ≡ Ok b)
then_ok (Ok a) next b h = (a, refl, h)
then_ok (Err bad) next b h = absurd cc

in_cond : (at n m most : ℕ) (b : Bool) → (leb 1 n && leb n most) ≡ b → cond {A = Result ℕ BadField} b (Ok n) (Err (record { field = at; cause = OutOfRange })) ≡ Ok m → (1 ≤ m) × (m ≤ most)
in_cond at n m most true t h =
    let e : n ≡ m = cc in
    let p = and_parts (leb 1 n) (leb n most) t in
    let a = leb-true 1 n p.0 in
    let b = leb-true n most p.1 in
    (omega arith, omega arith)
in_cond at n m most false t h = absurd cc

in_number : (at m most : ℕ) (o : Option ℕ) → is_number at o (λ n. cond {A = Result ℕ BadField} (leb 1 n && leb n most) (Ok n) (Err (record { field = at; cause = OutOfRange }))) ≡ Ok m → (1 ≤ m) × (m ≤ most)
in_number at m most None h = absurd cc
in_number at m most (Some n) h = in_cond at n m most (leb 1 n && leb n most) refl h

in_size : (at most : ℕ) (bs : List ℕ) (m : ℕ) → size_in at most bs ≡ Ok m → (1 ≤ m) × (m ≤ most)
in_size at most bs m h = in_number at m most (number_in bs) h

pub head_in_range : (line : List ℕ) (h : HeadLine) → read_head line ≡ Ok h → InRange h
head_in_range line h e =
    let k = then_ok (kind_in (field 2 line)) _ h e in
    let n = then_ok (size_in 3 64 (field 3 line)) _ h k.2 in
    let m = then_ok (size_in 4 8 (field 4 line)) _ h n.2 in
    let b = then_ok (size_in 5 256 (field 5 line)) _ h m.2 in
    let rn = in_size 3 64 (field 3 line) n.0 n.1 in
    let rm = in_size 4 8 (field 4 line) m.0 m.1 in
    let rb = in_size 5 256 (field 5 line) b.0 b.1 in
    let made : record { kind = k.0; cells = n.0; crews = m.0; entries = b.0 } ≡ h = let last = b.2 in cc in
    let en : n.0 ≡ h.cells = ap (λ (q : HeadLine). q.cells) made in
    let em : m.0 ≡ h.crews = ap (λ (q : HeadLine). q.crews) made in
    let eb : b.0 ≡ h.entries = ap (λ (q : HeadLine). q.entries) made in
    record { some_cells = omega arith; cells_fit = omega arith; some_crews = omega arith; crews_fit = omega arith; some_entries = omega arith; entries_fit = omega arith }
