-- One cell more.
use Rattle.std.proofs.Common.{◌≡◌, ℕ, suc, ◌+◌, ◌-◌, ◌<◌, ◌≤◌, Bool, cond, leb, List, [], ◌∷◌, ◌++◌, take, Result, sym, ap, ◌∙◌, ⊎_elim, arith}
use Rattle.std.proofs.lemmas.List.{take_more_set, take_all, length-set}
use Rattle.std.proofs.lemmas.Bool.{le-leb, lt-leb, cases_lt}
use Rattle.terms.specs.declared.refusals.BadLine.{BadLine}
use Rattle.terms.specs.declared.refusals.Refusal.{Refusal}
use Rattle.text.specs.Split.{lines_of}
use Rattle.values.specs.Forms.{Form}
use Rattle.rules.specs.Heads.{Dimensions, FillingHead}
use Rattle.rules.specs.Contents.{Contents, Fits}
use Rattle.rules.specs.Making.{FillOutcome, fill_outcome, one_more_filled, with_value}
use Rattle.rules.proofs.Accepting.{fill_accepts}
use Rattle.stages.specs.declared.stage.Reader.{Reader}
use Rattle.stages.specs.declared.stage.Stage.TheVariants.{Cells, Calls}
use Rattle.stages.specs.Stages.{moved_on}
use Rattle.schedule.specs.declared.reading.Unread.{Unread}
use Rattle.schedule.specs.Accounts.{Lines, wanted, read_cell, at_cells, at_calls, bad_line}
use Rattle.schedule.specs.Filling.{FilledTo}
use Rattle.schedule.specs.Reading.{MovedOn}

-- what the next cell's line leads to
abbrev pub next_cell : {V : Type 0} → Form V → ℕ → ℕ → List V → V → Lines → Lines
next_cell form left k values v = at_cells form left (k + 1) (values ++ (v ∷ []))

-- while a cell is left, the next line is wanted
one_wanted : {V : Type 0} (form : Form V) (cells i k : ℕ) (values : List V) (ls : Lines) → i < cells
    → at_cells form (cells - i) k values ls ≡ wanted k Cells form.width (read_cell form) (next_cell form (cells - (i + 1)) k values) ls
one_wanted form cells i k values ls h =
    let e : cells - i ≡ suc (cells - (i + 1)) = omega arith in
    ap (λ (left : ℕ). at_cells form left k values ls) e

-- while a cell is left, the reader stands among the cells
pub among_cells : {V : Type 0} (form : Form V) (lines : Lines) (i : ℕ) (head : FillingHead) (t : Contents V) (u : Unread)
    → FilledTo form lines i head t u → i < head.sizes.cells → u.reader ≡ record { stage = Cells; left = head.sizes.cells - i; width = form.width }
among_cells form lines i head t u f h =
    f.stands ∙ ap (λ (b : Bool). record { stage = cond b Calls Cells; left = head.sizes.cells - i; width = form.width }) (lt-leb (head.sizes.cells - i) 0 (omega arith))

none_left : (left : ℕ) → 1 ≤ left → leb left 1 ≡ leb (left - 1) 0
none_left left h =
    ⊎_elim
    (λ (more : 1 < left). lt-leb left 1 more ∙ sym (lt-leb (left - 1) 0 (omega arith)))
    (λ (last : left ≤ 1). le-leb left 1 last ∙ sym (le-leb (left - 1) 0 (omega arith)))
    (cases_lt 1 left)

-- after the line of a cell, the reader is past the last just where none is left
moved_on_lem : (cells i width : ℕ) → i < cells
    → moved_on Cells (cells - i) width ≡ record { stage = cond (leb (cells - (i + 1)) 0) Calls Cells; left = cells - (i + 1); width = width }
moved_on_lem cells i width h =
    let e : cells - i - 1 ≡ cells - (i + 1) = omega arith in
    ap (λ (b : Bool). record { stage = cond b Calls Cells; left = cells - i - 1; width = width }) (none_left (cells - i) (omega arith))
    ∙ ap (λ (left : ℕ). record { stage = cond (leb left 0) Calls Cells; left = left; width = width }) e

still_fit : {V : Type 0} (sizes : Dimensions) (i : ℕ) (v : V) (t : Contents V) → Fits sizes t → Fits sizes (with_value i v t)
still_fit sizes i v t f = record {
  values = length-set t.values i v ∙ f.values;
  written = f.written;
  read = f.read;
  jobs = f.jobs;
  own = f.own;
  flags = f.flags;
  book = f.book;
}

one_filled : {V : Type 0} (form : Form V) (lines : Lines) (i : ℕ) (head : FillingHead) (t : Contents V) (u u' : Unread) (v : V)
    → FilledTo form lines i head t u → i < head.sizes.cells
    → ((next : V → Lines → Lines) → wanted u.number u.reader.stage u.reader.width (read_cell form) next (lines_of u.text.now) ≡ next v (lines_of u'.text.now))
    → MovedOn u u' → FilledTo form lines (i + 1) (one_more_filled head) (with_value head.filled v t) u'
one_filled {V} form lines i head t u u' v f h w m =
    let next = next_cell form (head.sizes.cells - (i + 1)) u.number (take i t.values) in
    let stands = among_cells form lines i head t u f h in
    let more = take_more_set t.values i v (omega (arith, f.tables_fit.values)) in
    record {
      counted = ap (λ (k : ℕ). k + 1) f.counted;
      within = omega arith;
      tables_fit = still_fit head.sizes head.filled v t f.tables_fit;
      numbered = omega (arith, m.1, f.numbered);
      stands = m.0 ∙ ap (λ (q : Reader). moved_on q.stage q.left q.width) stands ∙ moved_on_lem head.sizes.cells i form.width h;
      gives =
          rw (m.1, f.counted, more)
          (sym (w next)
          ∙ ap (λ (q : Reader). wanted u.number q.stage q.width (read_cell form) next (lines_of u.text.now)) stands
          ∙ sym (one_wanted form head.sizes.cells i u.number (take i t.values) (lines_of u.text.now) h)
          ∙ f.gives);
    }

pub cell_filled : {V : Type 0} (form : Form V) (lines : Lines) (i : ℕ) (head head' : FillingHead) (t t' : Contents V) (answer : Result (Unit {0}) Refusal) (u u' : Unread) (v : V)
    → FilledTo form lines i head t u → i < head.sizes.cells
    → ((next : V → Lines → Lines) → wanted u.number u.reader.stage u.reader.width (read_cell form) next (lines_of u.text.now) ≡ next v (lines_of u'.text.now))
    → MovedOn u u' → ◌≡◌ {A = FillOutcome V} (record { answer = answer; head = head'; contents = t' }) (fill_outcome head t v)
    → FilledTo form lines (i + 1) head' t' u'
cell_filled {V} form lines i head head' t t' answer u u' v f h w m o =
    let done = o ∙ fill_accepts head t v f.tables_fit (omega (arith, f.counted)) in
    rw (ap (λ (q : FillOutcome V). q.head) done, ap (λ (q : FillOutcome V). q.contents) done) (one_filled form lines i head t u u' v f h w m)

-- a bad line ends the account
pub cell_bad : {V : Type 0} (form : Form V) (lines : Lines) (i n : ℕ) (head : FillingHead) (t : Contents V) (u : Unread) (bad : BadLine)
    → FilledTo form lines i head t u → i < head.sizes.cells → head.sizes.cells ≡ n
    → ((next : V → Lines → Lines) → wanted u.number u.reader.stage u.reader.width (read_cell form) next (lines_of u.text.now) ≡ bad_line bad) → at_cells form n 3 [] lines ≡ bad_line bad
cell_bad form lines i n head t u bad f h e w =
    let next = next_cell form (head.sizes.cells - (i + 1)) u.number (take i t.values) in
    sym (ap (λ (m : ℕ). at_cells form m 3 [] lines) e)
    ∙ sym f.gives
    ∙ one_wanted form head.sizes.cells i u.number (take i t.values) (lines_of u.text.now) h
    ∙ sym (ap (λ (q : Reader). wanted u.number q.stage q.width (read_cell form) next (lines_of u.text.now)) (among_cells form lines i head t u f h))
    ∙ w next

-- past the last cell come the calls
pub all_filled : {V : Type 0} (form : Form V) (lines : Lines) (n m : ℕ) (head : FillingHead) (t : Contents V) (u : Unread) (end : Lines)
    → FilledTo form lines n head t u → head.sizes.cells ≡ n → n ≡ m → at_calls form u.number t.values (lines_of u.text.now) ≡ end → at_cells form m 3 [] lines ≡ end
all_filled {V} form lines n m head t u end f e d c =
    let cells : head.sizes.cells ≡ m = e ∙ d in
    let none : head.sizes.cells - n ≡ 0 = omega arith in
    sym (ap (λ (k : ℕ). at_cells form k 3 [] lines) cells)
    ∙ sym f.gives
    ∙ ap (λ (k : ℕ). at_cells form k u.number (take n t.values) (lines_of u.text.now)) none
    ∙ ap (λ (vs : List V). at_calls form u.number vs (lines_of u.text.now)) (take_all n t.values (omega (arith, f.tables_fit.values)))
    ∙ c
