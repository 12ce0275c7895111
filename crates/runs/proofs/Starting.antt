-- What an accepted start leaves.
use Rattle.std.proofs.Common.{◌≡◌, ℕ, Some, None, Ok, Err, Option, ap, ◌∙◌, arith}
use Rattle.terms.specs.declared.refusals.Refusal.{Refusal}
use Rattle.rules.specs.Contents.{Contents}
use Rattle.rules.specs.Heads.{FillingHead, StartedHead}
use Rattle.rules.specs.Making.{StartAnswer, StartOutcome, fresh_head, fresh_contents, start_outcome, start_tests}
use Rattle.rules.specs.Refusing.{first_refusal, if_refused}
use Rattle.rules.specs.Registers.{Register}
use Rattle.runs.specs.Starting.{started_register}

by_tests : {V : Type 0} (o : Option Refusal) (head : FillingHead) (t : Contents V) (h : StartedHead) (t' : Contents V)
    → ◌≡◌ {A = StartOutcome V} (record { answer = Ok h; contents = t' })
    (if_refused o (λ e. record { answer = Err (head, e); contents = t }) (record { answer = Ok (fresh_head head.sizes); contents = fresh_contents head.sizes t }))
    → (h ≡ fresh_head head.sizes) × (t' ≡ fresh_contents head.sizes t)
by_tests {V} None head t h t' e =
    let a : ◌≡◌ {A = StartAnswer} (Ok h) (Ok (fresh_head head.sizes)) = ap (λ (q : StartOutcome V). q.answer) e in
    (cc, ap (λ (q : StartOutcome V). q.contents) e)
by_tests {V} (Some r) head t h t' e =
    absurd (let a : ◌≡◌ {A = StartAnswer} (Ok h) (Err (head, r)) = ap (λ (q : StartOutcome V). q.answer) e in let z : ◌≡◌ {A = ℕ} 0 1 = cc in omega arith)

-- the register that an accepted start leaves
pub started_is : {V : Type 0} (head : FillingHead) (t : Contents V) (h : StartedHead) (t' : Contents V)
    → ◌≡◌ {A = StartOutcome V} (record { answer = Ok h; contents = t' }) (start_outcome head t) → ◌≡◌ {A = Register V} (record { head = h; tables = t' }) (started_register head t)
started_is {V} head t h t' e =
    let p = by_tests (first_refusal (start_tests head t)) head t h t' e in
    ap (λ (q : StartedHead). record { head = q; tables = t' }) p.0 ∙ ap (λ (q : Contents V). record { head = fresh_head head.sizes; tables = q }) p.1
