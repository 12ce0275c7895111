-- A list of calls, answered one by one.
use Rattle.std.proofs.Common.{◌≡◌, ℕ, zero, suc, ◌+◌, ◌<◌, List, [], ◌∷◌, ◌++◌, length, get_or, take, set, refl, ap, ◌∙◌, arith}
use Rattle.std.proofs.lemmas.List.{take_more_set}
use Rattle.rules.specs.Runs.{Step}
use Rattle.runs.specs.declared.exchange.Exchange.{Exchange}
use Rattle.runs.specs.Logs.{calls_of, log_of}

log_push : {V : Type 0} (es : List (Exchange V)) (e : Exchange V) → log_of (es ++ (e ∷ [])) ≡ (e.call, e.answer) ∷ log_of es
log_push [] e = refl
log_push {V} (x ∷ es) e = ap (λ (log : List (Step V)). log ++ ((x.call, x.answer) ∷ [])) (log_push es e)

-- the log has one step more
pub log_more : {V : Type 0} (es : List (Exchange V)) (i : ℕ) (e : Exchange V) → i < length es → log_of (take (i + 1) (set es i e)) ≡ (e.call, e.answer) ∷ log_of (take i es)
log_more es i e h = ap log_of (take_more_set es i e h) ∙ log_push (take i es) e

-- an answer alters no call
pub calls_stay : {V : Type 0} (es : List (Exchange V)) (i : ℕ) (d e : Exchange V) → i < length es → e.call ≡ (get_or es i d).call → calls_of (set es i e) ≡ calls_of es
calls_stay [] i d e h c = refl
calls_stay (x ∷ es) zero d e h c = ap (λ k. k ∷ calls_of es) c
calls_stay (x ∷ es) (suc i) d e h c = ap (λ ks. x.call ∷ ks) (calls_stay es i d e (omega arith) c)
