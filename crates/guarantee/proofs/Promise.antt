-- The whole promise is kept by whatever calls were performed.
use Rattle.std.proofs.Common.{List}
use Rattle.choosers.specs.Meaning.{Meaning, KeepsLaw}
use Rattle.rules.specs.Making.{JustStarted}
use Rattle.rules.specs.Registers.{Register}
use Rattle.rules.specs.Runs.{Step, Performed}
use Rattle.guarantee.specs.Opacity.{Explained}
use Rattle.guarantee.specs.Promise.{AtEveryMoment, Promise, PromiseFromStart, PromiseIsKept}
use Rattle.guarantee.proofs.Opacity.{every_run_is_opaque}
use Rattle.guarantee.proofs.Permissiveness.{performed_run, register_is_permissive}

-- every moment is itself the end of a run
moments_explained : {V : Type 0} (d : V) (s : Register V) (f₀ : Meaning) → JustStarted s.head s.tables → KeepsLaw f₀ →
    {log : List (Step V)} {r : Register V} {f : Meaning} (p : Performed d s f₀ log r f) → AtEveryMoment (Explained d s) p
moments_explained {V} d s f₀ j ke Performed.starts = every_run_is_opaque V d s f₀ j ke _ _ _ (performed_run d s f₀ Performed.starts)
moments_explained {V} d s f₀ j ke (Performed.then until call) =
    (every_run_is_opaque V d s f₀ j ke _ _ _ (performed_run d s f₀ (Performed.then until call)), moments_explained d s f₀ j ke until)

pub promise_is_kept : (V : Type 0) → PromiseIsKept V
promise_is_kept V d s f₀ log r f ke p = record {
  performed = p;
  opaque = λ j. moments_explained d s f₀ j ke p;
  permissive = λ j. register_is_permissive V d s j;
}

pub from_start : {V : Type 0} (d : V) (s : Register V) (f₀ : Meaning) (log : List (Step V)) (r : Register V) (f : Meaning)
    → JustStarted s.head s.tables → Promise d s f₀ log r f → PromiseFromStart d s f₀ log r f
from_start d s f₀ log r f j p = record { just_started = j; performed = p.performed; opaque = p.opaque j; permissive = p.permissive j }
