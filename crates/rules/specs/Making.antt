-- What the calls of making, fill and start, answer and leave.
use Rattle.std.specs.Prelude.{◌≡◌, ℕ, ◌+◌, ◌*◌, not, [], ◌∷◌, ◌++◌, replicate, Ok, Err, Result, ◌==◌, slice_set}
use Rattle.terms.specs.declared.refusals.Refusal.{Refusal}
use Rattle.terms.specs.declared.refusals.Refusal.TheVariants.{NoCell, NotFilled}
use Rattle.rules.specs.declared.head.Filling.{Filling}
use Rattle.rules.specs.declared.head.Started.{Started}
use Rattle.rules.specs.Heads.{Dimensions, SizesInRange, FillingHead, StartedHead, filling_of, started_of}
use Rattle.rules.specs.Contents.{Contents, Fits, closed_record}
use Rattle.rules.specs.Refusing.{Tests, first_refusal, if_refused, size_tests}

---- Fill: the next cell takes its first value

abbrev pub fill_tests : {V : Type 0} → FillingHead → Contents V → Tests
fill_tests head t = size_tests head.sizes t ++ (((head.filled == head.sizes.cells), NoCell) ∷ [])

pub record FillOutcome (V : Type 0) : Type 0 where
  pub answer : Result (Unit {0}) Refusal
  pub head : FillingHead
  pub contents : Contents V

abbrev pub one_more_filled : FillingHead → FillingHead
one_more_filled head = record { sizes = head.sizes; filled = head.filled + 1 }

abbrev pub with_value : {V : Type 0} → ℕ → V → Contents V → Contents V
with_value i value t = record { values = slice_set t.values i value; written = t.written; read = t.read; jobs = t.jobs; own = t.own; flags = t.flags; book = t.book }

-- a refused fill alters nothing
abbrev pub fill_outcome : {V : Type 0} → FillingHead → Contents V → V → FillOutcome V
fill_outcome head t value = if_refused (first_refusal (fill_tests head t))
    (λ e. record { answer = Err e; head = head; contents = t })
    (record { answer = Ok tt; head = one_more_filled head; contents = with_value head.filled value t })

---- Start: every place is 0, every job record is closed, and no flag is set

abbrev pub start_tests : {V : Type 0} → FillingHead → Contents V → Tests
start_tests head t = size_tests head.sizes t ++ ((not (head.filled == head.sizes.cells), NotFilled) ∷ [])

-- the answer: the started head, or the head that was handed in, with the refusal
abbrev pub StartAnswer : Type 0
StartAnswer = Result StartedHead (FillingHead × Refusal)

abbrev pub answer_of : Result Started (Filling × Refusal) → StartAnswer
answer_of (Ok head) = Ok (started_of head)
answer_of (Err e) = Err (filling_of e.0, e.1)

pub record StartOutcome (V : Type 0) : Type 0 where
  pub answer : StartAnswer
  pub contents : Contents V

-- nothing is committed or opened yet
abbrev pub fresh_head : Dimensions → StartedHead
fresh_head sizes = record { sizes = sizes; highest = 0; ended = 0; active = 0 }

-- the values, the own values and the book stay as they are
abbrev pub fresh_contents : {V : Type 0} → Dimensions → Contents V → Contents V
fresh_contents sizes t = record {
  values = t.values;
  written = replicate sizes.cells 0;
  read = replicate sizes.cells 0;
  jobs = replicate sizes.crews closed_record;
  own = t.own;
  flags = replicate (sizes.crews * sizes.cells) 0;
  book = t.book;
}

-- a refused start alters nothing
abbrev pub start_outcome : {V : Type 0} → FillingHead → Contents V → StartOutcome V
start_outcome head t = if_refused (first_refusal (start_tests head t))
    (λ e. record { answer = Err (head, e); contents = t })
    (record { answer = Ok (fresh_head head.sizes); contents = fresh_contents head.sizes t })

-- a register as start leaves it
pub record JustStarted {V : Type 0} (head : StartedHead) (t : Contents V) : Type 0 where
  pub sizes_in_range : SizesInRange head.sizes
  pub head_fresh : head ≡ fresh_head head.sizes
  pub contents_fresh : t ≡ fresh_contents head.sizes t
  pub fits : Fits head.sizes t
