use Rattle.std.proofs.Common.{◌≡◌, ◌<◌, List, length, get_or, take, sym, refl, ap, ◌∙◌, subst, arith, rules}
use Rattle.std.proofs.lemmas.List.{take_all}
use Rattle.rules.specs.Registers.{register_of}
use Rattle.rules.specs.Runs.{Step, Performed}
use Rattle.guarantee.proofs.Promise.{promise_is_kept}
use Rattle.runs.specs.Logs.{log_of}
use Rattle.runs.proofs.Logs.{log_more, calls_stay}
use Rattle.runs.proofs.running.run.Goals as goal

pub loop-exchange-init : goal.loop-exchange-init
loop-exchange-init g c = (λ d. Performed.starts, search rules, refl)

pub loop-exchange-preserved : goal.loop-exchange-preserved
loop-exchange-preserved g c =
    let lt : c.loop-exchange.exchange-index < length c.loop-exchange.list = omega (arith, c.loop-exchange.auto.list) in
    let log = log_more c.loop-exchange.list c.loop-exchange.exchange-index
    (record { call = (get_or c.loop-exchange.list c.loop-exchange.exchange-index c.exchange-item.result).call; answer = c.perform-exchange.result }) lt in
    let stay = calls_stay c.loop-exchange.list c.loop-exchange.exchange-index c.exchange-item.result
    (record { call = (get_or c.loop-exchange.list c.loop-exchange.exchange-index c.exchange-item.result).call; answer = c.perform-exchange.result }) lt refl in (
      λ d.
          let P : List (Step g.row.V.Denot) → Type 0 = λ l. Performed d (register_of _ c.args.head.now c.args.t.now) (g.C.Chooser.meaning c.args.chooser.now) l
          (register_of _ c.perform-exchange.new.head c.perform-exchange.new.t) (g.C.Chooser.meaning c.perform-exchange.new.chooser) in
          subst P (sym log) (Performed.then (c.loop-exchange.invariant.0 d) (c.perform-exchange.ensures.performed d)),
      search rules,
      stay ∙ c.loop-exchange.invariant.2,
    )

pub returns-clause-promise : goal.returns-clause-promise
returns-clause-promise g c = λ d.
    let all : log_of (take c.loop-exchange.exchange-index c.loop-exchange.list) ≡ log_of c.loop-exchange.list = ap log_of (take_all c.loop-exchange.exchange-index c.loop-exchange.list (omega (arith, c.loop-exchange.auto.list))) in
    let P : List (Step g.row.V.Denot) → Type 0 = λ l. Performed d (register_of _ c.args.head.now c.args.t.now) (g.C.Chooser.meaning c.args.chooser.now) l
    (register_of _ c.loop-exchange.head c.loop-exchange.t) (g.C.Chooser.meaning c.loop-exchange.chooser) in
    promise_is_kept _ d _ _ _ _ _ (g.C.Chooser.lawful c.args.chooser.now) (subst P all (c.loop-exchange.invariant.0 d))
