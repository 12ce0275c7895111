-- The next line of a text, and whether the reader takes it.
use Rattle.std.proofs.Common.{◌≡◌, ℕ, ◌+◌, ◌<◌, ◌≤◌, Bool, true, false, cond, eqb, arith, List, [], ◌∷◌, length, Some, None, Ok, Err, Option, Result, sym, refl, ap, ◌∙◌}
use Rattle.std.specs.Result.{MatchResult, IsErrAnd}
use Rattle.std.proofs.lemmas.Result.{err_from_is_err_and}
use Rattle.terms.specs.declared.refusals.BadField.{BadField}
use Rattle.terms.specs.declared.refusals.BadLine.{BadLine}
use Rattle.text.specs.Split.{before, after, lines_of}
use Rattle.text.proofs.Splitting.{lines_are}
use Rattle.values.specs.Forms.{Form}
use Rattle.stages.specs.declared.stage.Stage.{Stage}
use Rattle.stages.specs.declared.stage.Stage.TheVariants.{Chooser, Calls}
use Rattle.stages.specs.declared.stage.Shape.{Shape}
use Rattle.stages.specs.declared.stage.Reader.{Reader}
use Rattle.stages.specs.declared.head_line.HeadLine.{HeadLine}
use Rattle.stages.specs.ChooserLines.{read_chooser}
use Rattle.stages.specs.Stages.{bad_shape, shape_of, moved_on, taken_or}
use Rattle.schedule.specs.declared.reading.Unread.{Unread}
use Rattle.schedule.specs.Reading.{went_on}
use Rattle.schedule.specs.Accounts.{Lines, bad_next, at_line, wrong_letter, bad_line, fits, goes_on, wanted, at_calls, at_chooser, at_head, of_kind}

---- The text's lines

pub first_line : (xs : List ℕ) → eqb (length xs) 0 ≡ false → lines_of xs ≡ before 10 xs ∷ lines_of (after 10 xs)
first_line [] h = absurd cc
first_line (x ∷ xs) h = lines_are x xs

-- any other begins with what stands before its first line feed
pub begins : (text line rest : List ℕ) → eqb (length text) 0 ≡ false → line ≡ before 10 text → rest ≡ after 10 text → lines_of text ≡ line ∷ lines_of rest
begins text line rest h a b = first_line text h ∙ ap (λ (l : List ℕ). l ∷ lines_of (after 10 text)) (sym a) ∙ ap (λ (r : List ℕ). line ∷ lines_of r) (sym b)

no_longer_where : (b : Bool) (xs ys : List ℕ) → length ys ≤ length xs → length (cond b xs ys) ≤ length xs
no_longer_where true xs ys h = omega arith
no_longer_where false xs ys h = h

no_longer : (s : ℕ) (xs : List ℕ) → length (after s xs) ≤ length xs
no_longer s [] = omega arith
no_longer s (x ∷ xs) = omega (arith, no_longer_where (eqb x s) xs (after s xs) (no_longer s xs))

shorter : (s : ℕ) (xs : List ℕ) → eqb (length xs) 0 ≡ false → length (after s xs) < length xs
shorter s [] h = absurd cc
shorter s (x ∷ xs) h = omega (arith, no_longer_where (eqb x s) xs (after s xs) (no_longer s xs))

-- a line has a byte at least, so that as many numbers as bytes are enough
pub lines_still_fit : (number most : ℕ) (text rest : List ℕ) → eqb (length text) 0 ≡ false → rest ≡ after 10 text → number + length text ≤ most → number + 1 + length rest ≤ most
lines_still_fit number most text rest e r h = rw r (omega (arith, shorter 10 text e))

---- A bad field, told of a line

abbrev pub in_line : {A : Type 0} → ℕ → Result A BadField → Result A BadLine
in_line k (Ok a) = Ok a
in_line k (Err bad) = Err (record { line = k; at = bad })

-- an error that is told of a line
pub told : {A : Type 0} (k : ℕ) (r : Result A BadField) (s : Result A BadLine) (P : BadField → BadLine → Type 0)
    → MatchResult r (λ a. s ≡ Ok a) (λ bad. IsErrAnd s (P bad)) → ((at : BadField) (bad : BadLine) → P at bad → bad ≡ record { line = k; at = at }) → s ≡ in_line k r
told k (Ok a) s P h tells = h
told {A} k (Err at) s P h tells =
    let p = err_from_is_err_and s h in
    p.1 ∙ ap (λ (bad : BadLine). Err bad) (tells at p.0 p.2)

---- What the reader makes of the next line

takes_or : (r q : Reader) (o : Option BadField) → ◌≡◌ {A = Result (Unit {0}) BadField × Reader} (Ok tt, q) (taken_or o r)
    → (o ≡ None) × (q ≡ moved_on r.stage r.left r.width)
takes_or r q None e = (refl, ap (λ p. p.1) e)
takes_or r q (Some bad) e = absurd (let a : ◌≡◌ {A = Result (Unit {0}) BadField} (Ok tt) (Err bad) = ap (λ p. p.0) e in cc)

refuses_or : (r q : Reader) (o : Option BadField) (bad : BadField) → ◌≡◌ {A = Result (Unit {0}) BadField × Reader} (Err bad, q) (taken_or o r) → o ≡ Some bad
refuses_or r q None bad e = absurd (let a : ◌≡◌ {A = Result (Unit {0}) BadField} (Err bad) (Ok tt) = ap (λ p. p.0) e in cc)
refuses_or r q (Some b) bad e = let a : ◌≡◌ {A = Result (Unit {0}) BadField} (Err bad) (Err b) = ap (λ p. p.0) e in cc

-- a line that the reader takes may stand there, and moves it on
pub takes : (k : ℕ) (r q : Reader) (line : List ℕ) (shape : Shape) (t : Result (Unit {0}) BadField) → shape ≡ shape_of line
    → ◌≡◌ {A = Result (Unit {0}) BadField × Reader} (t, q) (taken_or (bad_shape r.stage r.width shape) r) → Ok tt ≡ in_line k t
    → (bad_shape r.stage r.width (shape_of line) ≡ None) × (q ≡ moved_on r.stage r.left r.width)
takes k r q line shape (Ok u) s e h = let p = takes_or r q (bad_shape r.stage r.width shape) e in (ap (bad_shape r.stage r.width) (sym s) ∙ p.0, p.1)
takes k r q line shape (Err at) s e h = absurd cc

-- any other is bad
pub refuses : (k : ℕ) (r q : Reader) (text line rest : List ℕ) (shape : Shape) (t : Result (Unit {0}) BadField) (bad : BadLine) → shape ≡ shape_of line
    → lines_of text ≡ line ∷ lines_of rest → ◌≡◌ {A = Result (Unit {0}) BadField × Reader} (t, q) (taken_or (bad_shape r.stage r.width shape) r) → Err bad ≡ in_line k t
    → bad_next k r.stage r.width (lines_of text) ≡ Some bad
refuses k r q text line rest shape (Ok u) bad s l e h = absurd cc
refuses k r q text line rest shape (Err at) bad s l e h =
    let same : record { line = k; at = at } ≡ bad = cc in
    ap (bad_next k r.stage r.width) l
    ∙ ap (at_line k) (ap (bad_shape r.stage r.width) (sym s) ∙ refuses_or r q (bad_shape r.stage r.width shape) at e)
    ∙ ap (λ (b : BadLine). Some b) same

---- What a stage that wants a line makes of it

goes_on_went : {A : Type 0} (k : ℕ) (r : Result A BadField) (next : A → Lines) → goes_on k r next ≡ went_on (in_line k r) next
goes_on_went k (Ok a) next = refl
goes_on_went k (Err bad) next = refl

-- a line that may stand there is read
pub wanted_read : {A : Type 0} (k : ℕ) (stage : Stage) (width : ℕ) (read : List ℕ → Result A BadField) (next : A → Lines → Lines) (xs : Lines) (l : List ℕ) (ls : Lines) (s : Result A BadLine)
    → xs ≡ l ∷ ls → bad_shape stage width (shape_of l) ≡ None → s ≡ in_line k (read l) → wanted k stage width read next xs ≡ went_on s (λ a. next a ls)
wanted_read {A} k stage width read next xs l ls s e h r =
    ap (wanted k stage width read next) e
    ∙ ap (λ (o : Option BadField). goes_on k (fits o (read l)) (λ a. next a ls)) h
    ∙ goes_on_went k (read l) (λ a. next a ls)
    ∙ ap (λ (q : Result A BadLine). went_on q (λ a. next a ls)) (sym r)

-- what was read is let go
abbrev pub let_go : {A : Type 0} → Result A BadField → Result (Unit {0}) BadField
let_go (Ok a) = Ok tt
let_go (Err bad) = Err bad

goes_on_unread : {A : Type 0} (k : ℕ) (o : Option BadField) (r : Result A BadField) (next : Lines) → goes_on k (fits o (let_go r)) (λ _. next) ≡ goes_on k (fits o r) (λ _. next)
goes_on_unread k (Some bad) r next = refl
goes_on_unread k None (Ok a) next = refl
goes_on_unread k None (Err bad) next = refl

-- where the rest does not ask for what was read, it may be let go
pub wanted_unread : {A : Type 0} (k : ℕ) (stage : Stage) (width : ℕ) (read : List ℕ → Result A BadField) (next : Lines → Lines) (ls : Lines)
    → wanted k stage width (λ l. let_go (read l)) (λ _. next) ls ≡ wanted k stage width read (λ _. next) ls
wanted_unread k stage width read next [] = refl
wanted_unread k stage width read next (l ∷ ls) = goes_on_unread k (bad_shape stage width (shape_of l)) (read l) (next ls)

-- after the head, what the line of the chooser leads to
pub opened : (head : HeadLine) (ls end : Lines) (u : Unread) → at_head ls ≡ at_chooser head (lines_of u.text.now) → u.reader ≡ record { stage = Chooser; left = 0; width = 0 } → u.number ≡ 2
    → wanted u.number u.reader.stage u.reader.width (λ l. let_go (read_chooser 256 l)) (λ _. of_kind head.kind head.cells) (lines_of u.text.now) ≡ end → at_head ls ≡ end
opened head ls end u a s n w =
    let next = of_kind head.kind head.cells in
    let rest = lines_of u.text.now in
    a
    ∙ sym (wanted_unread 2 Chooser 0 (read_chooser 256) next rest)
    ∙ sym (ap (λ (q : Reader). wanted 2 q.stage q.width (λ l. let_go (read_chooser 256 l)) (λ _. next) rest) s)
    ∙ sym (ap (λ (k : ℕ). wanted k u.reader.stage u.reader.width (λ l. let_go (read_chooser 256 l)) (λ _. next) rest) n)
    ∙ w

calls_bad_of : {V : Type 0} (form : Form V) (k width : ℕ) (xs : Lines) (bad : BadLine) (l : List ℕ) (ls : Lines) → xs ≡ l ∷ ls → bad_next k Calls width xs ≡ Some bad
    → (values : List V) → at_calls form k values xs ≡ bad_line bad
calls_bad_of form k width [] bad l ls e h values = absurd cc
calls_bad_of form k width (x ∷ xs) bad l ls e h values = let same : record { line = k; at = wrong_letter } ≡ bad = cc in ap bad_line same

-- among the calls every line is bad for its first letter
pub calls_bad : {V : Type 0} (form : Form V) (k : ℕ) (r : Reader) (text : List ℕ) (bad : BadLine) → r.stage ≡ Calls → eqb (length text) 0 ≡ false
    → bad_next k r.stage r.width (lines_of text) ≡ Some bad → (values : List V) → at_calls form k values (lines_of text) ≡ bad_line bad
calls_bad form k r text bad s e h =
    calls_bad_of form k r.width (lines_of text) bad (before 10 text) (lines_of (after 10 text)) (first_line text e) (sym (ap (λ (q : Stage). bad_next k q r.width (lines_of text)) s) ∙ h)
