use Rattle.std.proofs.Common.{◌≡◌, ◌+◌, ◌∙◌, add-one, arith, rules, tests}
use Rattle.std.proofs.lemmas.List.{take_rest}
use Rattle.std.proofs.lemmas.Iterator.{YieldsList-from_slice, IsFirst-from_position}
use Rattle.text.proofs.Splitting.{cut_at, cut_none}
use Rattle.text.proofs.cut.Goals as goal

pub returns-in-Some-clause-first : goal.returns-in-Some-clause-first
returns-in-Some-clause-first c =
    let f = IsFirst-from_position _ _ _ (λ b. b ≡ c.args.separator) (λ b. b ≡ c.args.separator → ⊥) c.in-Some.ensures.ran (YieldsList-from_slice c.args.bytes.now c.iter.ensures.rest)
    (λ x q k. search (rules, tests)) (λ x q k. search (rules, tests)) in
    (cut_at c.args.separator c.args.bytes.now c.in-Some.i f.0 (λ k h. f.2 k 0 (omega arith) h) (f.1 0)).0

pub returns-in-Some-clause-rest : goal.returns-in-Some-clause-rest
returns-in-Some-clause-rest c =
    let f = IsFirst-from_position _ _ _ (λ b. b ≡ c.args.separator) (λ b. b ≡ c.args.separator → ⊥) c.in-Some.ensures.ran (YieldsList-from_slice c.args.bytes.now c.iter.ensures.rest)
    (λ x q k. search (rules, tests)) (λ x q k. search (rules, tests)) in
    take_rest c.args.bytes.now (c.in-Some.i + 1)
    ∙ (rw add-one (cut_at c.args.separator c.args.bytes.now c.in-Some.i f.0 (λ k h. f.2 k 0 (omega arith) h) (f.1 0)).1)

pub returns-in-None-clause-first : goal.returns-in-None-clause-first
returns-in-None-clause-first c =
    let f = IsFirst-from_position _ _ _ (λ b. b ≡ c.args.separator) (λ b. b ≡ c.args.separator → ⊥) c.in-None.ensures.ran (YieldsList-from_slice c.args.bytes.now c.iter.ensures.rest)
    (λ x q k. search (rules, tests)) (λ x q k. search (rules, tests)) in
    (cut_none c.args.separator c.args.bytes.now (λ k h. f k 0 (omega arith) h)).0

pub returns-in-None-clause-rest : goal.returns-in-None-clause-rest
returns-in-None-clause-rest c =
    let f = IsFirst-from_position _ _ _ (λ b. b ≡ c.args.separator) (λ b. b ≡ c.args.separator → ⊥) c.in-None.ensures.ran (YieldsList-from_slice c.args.bytes.now c.iter.ensures.rest)
    (λ x q k. search (rules, tests)) (λ x q k. search (rules, tests)) in
    (cut_none c.args.separator c.args.bytes.now (λ k h. f k 0 (omega arith) h)).1
