-- Permissiveness: a well made list of calls has a serialization order if and only if some script of places has the register accept every call of it.
use Rattle.std.specs.Prelude.{◌≡◌, ℕ, ◌↔◌, List, reverse, Ok, Err, Result}
use Rattle.terms.specs.declared.refusals.Refusal.{Refusal}
use Rattle.choosers.specs.Meaning.{Meaning, KeepsLaw}
use Rattle.choosers.specs.Script.{script_meaning}
use Rattle.history.specs.Events.{by_jobs}
use Rattle.history.specs.Precedence.{Extends, SerializationOrder}
use Rattle.history.specs.WellMade.{WellMadeList}
use Rattle.history.specs.Acceptance.{position, positions}
use Rattle.rules.specs.declared.calls.Call.{Call}
use Rattle.rules.specs.declared.calls.Answer.{Answer}
use Rattle.rules.specs.Heads.{Dimensions}
use Rattle.rules.specs.Making.{JustStarted}
use Rattle.rules.specs.Registers.{Register}
use Rattle.rules.specs.Performing.{All}
use Rattle.rules.specs.Runs.{Step, Performed, Run}
use Rattle.guarantee.specs.Histories.{events_of, made_by}

---- Lists of calls

-- crews and cells exist, each crew opens only when it has no job open and makes its other calls only when it has one, and there are no more openings than the book has entries
abbrev pub WellMadeCalls : {V : Type 0} → Dimensions → List (Call V) → Type 0
WellMadeCalls sizes ks = WellMadeList sizes.cells sizes.crews sizes.entries (events_of ks)

-- the order has every job of the list once and keeps every precedence, where each read counts as answered and each commit as committed
abbrev pub IsOrderOf : {V : Type 0} → List (Call V) → List ℕ → Type 0
IsOrderOf ks order = SerializationOrder (by_jobs (events_of ks)) order

abbrev pub HasSerializationOrder : {V : Type 0} → List (Call V) → Type 0
HasSerializationOrder ks = (order : List ℕ) × IsOrderOf ks order

---- Runs that accept every call

abbrev pub IsAccepted : {V : Type 0} → Result (Answer V) Refusal → Type 0
IsAccepted (Ok a) = Unit {0}
IsAccepted (Err e) = ⊥

abbrev pub AllAccepted : {V : Type 0} → List (Step V) → Type 0
AllAccepted log = All (λ step. IsAccepted step.1) log

-- one way to perform the whole list, on the register s and with a chooser that means f at first
pub record RunOf {V : Type 0} (d : V) (s : Register V) (f : Meaning) (ks : List (Call V)) : Type 0 where
  pub log : List (Step V)
  pub register : Register V
  pub meaning : Meaning
  pub performed : Performed d s f log register meaning
  pub whole : made_by log ≡ ks

-- in some way of performing the whole list, every call is accepted
abbrev pub SomeRunAccepts : {V : Type 0} → V → Register V → Meaning → List (Call V) → Type 0
SomeRunAccepts d s f ks = (run : RunOf d s f ks) × AllAccepted run.log

-- in whatever way the list is performed, and however far one has come, every call was accepted
abbrev pub EveryRunAccepts : {V : Type 0} → V → Register V → Meaning → List (Call V) → Type 0
EveryRunAccepts {V} d s f ks = (log : List (Step V)) (r : Register V) (f' : Meaning) → Performed d s f log r f' → Extends ks (made_by log) → AllAccepted log

---- The theorems

-- a script that has each job's position in the order, in the order of the jobs' endings
abbrev pub script_by : {V : Type 0} → List ℕ → List (Call V) → List ℕ
script_by order ks = reverse (positions (position order) (events_of ks))

pub record IsPermissive {V : Type 0} (d : V) (s : Register V) (ks : List (Call V)) : Type 0 where
  -- the list has a serialization order, if and only if there is a script with which some run accepts every call,
  pub some_run : HasSerializationOrder ks ↔ ((numbers : List ℕ) × SomeRunAccepts d s (script_meaning numbers) ks)
  -- and if and only if there is a script with which every run does, wherever entries of one place are put into the book
  pub every_run : HasSerializationOrder ks ↔ ((numbers : List ℕ) × EveryRunAccepts d s (script_meaning numbers) ks)
  -- such a script has the jobs' positions in a serialization order, whichever that is
  pub by_position : (order : List ℕ) → IsOrderOf ks order → EveryRunAccepts d s (script_meaning (script_by order ks)) ks
  -- where some run accepts every call with any chooser that keeps the law, there is a serialization order
  pub with_any_chooser : (f : Meaning) → KeepsLaw f → SomeRunAccepts d s f ks → HasSerializationOrder ks

-- of every register just started, and every list that is well made for it
abbrev pub RegisterIsPermissive : Type 0 → Type 0
RegisterIsPermissive V = (d : V) (s : Register V) → JustStarted s.head s.tables → (ks : List (Call V)) → WellMadeCalls s.head.sizes ks → IsPermissive d s ks

-- of every list, well made or not: where a run accepted every call of it, it has a serialization order
abbrev pub AcceptedCallsHaveAnOrder : Type 0 → Type 0
AcceptedCallsHaveAnOrder V = (d : V) (s : Register V) (f₀ : Meaning) → JustStarted s.head s.tables → KeepsLaw f₀ →
    (log : List (Step V)) (r : Register V) (f : Meaning) → Run d s f₀ log r f → AllAccepted log → HasSerializationOrder (made_by log)

-- every list can be performed, with every chooser that keeps the law
abbrev pub EveryListCanBePerformed : Type 0 → Type 0
EveryListCanBePerformed V = (d : V) (s : Register V) (f : Meaning) → JustStarted s.head s.tables → KeepsLaw f → (ks : List (Call V)) → RunOf d s f ks
