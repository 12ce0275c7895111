-- Where the tables fit the head, only the tests after those of the sizes can refuse a call.
use Rattle.std.proofs.Common.{◌≡◌, ◌*◌, ◌<◌, Bool, false, not, eqb, [], ◌∷◌, ◌++◌, length, Ok, Err, Option, ap, ◌∙◌, arith, eq-eqb, ne_eqb}
use Rattle.terms.specs.declared.refusals.Refusal.{Refusal}
use Rattle.terms.specs.declared.refusals.Refusal.TheVariants.{NoCell, NotFilled}
use Rattle.rules.specs.Heads.{Dimensions, FillingHead}
use Rattle.rules.specs.Contents.{Contents, Fits}
use Rattle.rules.specs.Refusing.{Tests, first_refusal, if_refused, size_tests}
use Rattle.rules.specs.Making.{FillOutcome, StartOutcome, fill_outcome, start_outcome, one_more_filled, with_value, fresh_head, fresh_contents}

pub sizes_pass : {V : Type 0} (sizes : Dimensions) (t : Contents V) (tests : Tests) → Fits sizes t → first_refusal (size_tests sizes t ++ tests) ≡ first_refusal tests
sizes_pass sizes t tests h =
    let values = eq-eqb (length t.values) sizes.cells h.values in
    let written = eq-eqb (length t.written) sizes.cells h.written in
    let read = eq-eqb (length t.read) sizes.cells h.read in
    let jobs = eq-eqb (length t.jobs) sizes.crews h.jobs in
    let own = eq-eqb (length t.own) (sizes.crews * sizes.cells) h.own in
    let flags = eq-eqb (length t.flags) (sizes.crews * sizes.cells) h.flags in
    let book = eq-eqb (length t.book) sizes.entries h.book in
    simp (values, written, read, jobs, own, flags, book)

pub fill_accepts : {V : Type 0} (head : FillingHead) (t : Contents V) (value : V) → Fits head.sizes t → head.filled < head.sizes.cells
    → fill_outcome head t value ≡ record { answer = Ok tt; head = one_more_filled head; contents = with_value head.filled value t }
fill_accepts {V} head t value h lt =
    let some : eqb head.filled head.sizes.cells ≡ false = ne_eqb _ _ (λ e. omega arith) in
    ap (λ (o : Option Refusal). if_refused {A = FillOutcome V} o
    (λ e. record { answer = Err e; head = head; contents = t })
    (record { answer = Ok tt; head = one_more_filled head; contents = with_value head.filled value t }))
    (sizes_pass head.sizes t ((eqb head.filled head.sizes.cells, NoCell) ∷ []) h ∙ ap (λ (b : Bool). first_refusal ((b, NoCell) ∷ [])) some)

pub start_accepts : {V : Type 0} (head : FillingHead) (t : Contents V) → Fits head.sizes t → head.filled ≡ head.sizes.cells
    → start_outcome head t ≡ record { answer = Ok (fresh_head head.sizes); contents = fresh_contents head.sizes t }
start_accepts {V} head t h all =
    ap (λ (o : Option Refusal). if_refused {A = StartOutcome V} o
    (λ e. record { answer = Err (head, e); contents = t })
    (record { answer = Ok (fresh_head head.sizes); contents = fresh_contents head.sizes t }))
    (sizes_pass head.sizes t ((not (eqb head.filled head.sizes.cells), NotFilled) ∷ []) h ∙ ap (λ (b : Bool). first_refusal ((not b, NotFilled) ∷ [])) (eq-eqb _ _ all))
