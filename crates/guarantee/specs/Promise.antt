-- The whole promise, of calls that were made one after the other: what the contract of a call that makes them can cite.
use Rattle.std.specs.Prelude.{List, [], ◌∷◌}
use Rattle.choosers.specs.Meaning.{Meaning, KeepsLaw}
use Rattle.rules.specs.declared.calls.Call.{Call}
use Rattle.rules.specs.Making.{JustStarted}
use Rattle.rules.specs.Registers.{Register}
use Rattle.rules.specs.Runs.{Step, Performed}
use Rattle.guarantee.specs.Opacity.{Explained}
use Rattle.guarantee.specs.Permissiveness.{WellMadeCalls, IsPermissive}

-- P holds at each moment of the calls that were performed, before the first and after every one: of the calls made until then, and of the register as it stood
abbrev pub AtEveryMoment : {V : Type 0} {d : V} {s : Register V} {f₀ : Meaning} {log : List (Step V)} {r : Register V} {f : Meaning} →
    (List (Step V) → Register V → Type 0) → Performed d s f₀ log r f → Type 0
AtEveryMoment {s = s} P Performed.starts = P [] s
AtEveryMoment P (Performed.then {log = log} {k = k} {a = a} {r' = r'} until call) = P ((k, a) ∷ log) r' × AtEveryMoment P until

-- The calls of the log were made on the register s, with a chooser that meant f₀ at first, and left the register r and the meaning f.
pub record Promise {V : Type 0} (d : V) (s : Register V) (f₀ : Meaning) (log : List (Step V)) (r : Register V) (f : Meaning) : Type 0 where
  -- each call was performed by the rules, on what the one before it left
  pub performed : Performed d s f₀ log r f
  -- where s was just started, the day book explains the ended jobs, and the open ones fit in, at every moment of these very calls
  pub opaque : JustStarted s.head s.tables → AtEveryMoment (Explained d s) performed
  -- and of every well-made list of calls on s: it has a serialization order exactly when some script has every call of it accepted
  pub permissive : JustStarted s.head s.tables → (ks : List (Call V)) → WellMadeCalls s.head.sizes ks → IsPermissive d s ks

-- the promise is kept by whatever calls were performed by the rules, with every chooser that keeps the law
abbrev pub PromiseIsKept : Type 0 → Type 0
PromiseIsKept V = (d : V) (s : Register V) (f₀ : Meaning) (log : List (Step V)) (r : Register V) (f : Meaning) → KeepsLaw f₀ → Performed d s f₀ log r f → Promise d s f₀ log r f

-- the same of a register that was just started, with nothing left to show
pub record PromiseFromStart {V : Type 0} (d : V) (s : Register V) (f₀ : Meaning) (log : List (Step V)) (r : Register V) (f : Meaning) : Type 0 where
  pub just_started : JustStarted s.head s.tables
  pub performed : Performed d s f₀ log r f
  pub opaque : AtEveryMoment (Explained d s) performed
  pub permissive : (ks : List (Call V)) → WellMadeCalls s.head.sizes ks → IsPermissive d s ks
