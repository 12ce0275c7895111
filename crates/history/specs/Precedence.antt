-- Which job must stand before which, by four rules, and the orders that keep the rules.
use Rattle.std.specs.Prelude.{◌≡◌, ℕ, ◌≤◌, true, ◌⊎◌, List, ◌∷◌, ◌≢◌}
use Rattle.history.specs.Events.{Operation, Events, openings}
use Rattle.history.specs.Events.Operation.{opens, reads, writes, commits, abandons}
use Rattle.history.specs.Events.Event.{by}
use Rattle.history.specs.Projections.{projection, is_committed}

---- Moments

-- h extends g: it has g for one of its moments
pub data Extends {A : Type 0} : List A → List A → Type 0 where
  here : {h : List A} → Extends h h
  later : {a : A} {h g : List A} → Extends h g → Extends (a ∷ h) g

-- at some moment of h, right after g, the operation o of job x occurs
abbrev pub Occurs : {V R P : Type 0} → Events V R P → ℕ → Operation V R P → Events V R P → Type 0
Occurs h x o g = Extends h (by x o ∷ g)

-- x wrote cell c
pub record Wrote {V R P : Type 0} (h : Events V R P) (x c : ℕ) : Type 0 where
  pub value : V
  pub before : Events V R P
  pub occurs : Occurs h x (writes c value) before

-- x read cell c first-hand (a global read): it had not written c before
pub record ReadGlobally {V R P : Type 0} (h : Events V R P) (x c : ℕ) : Type 0 where
  pub value : R
  pub before : Events V R P
  pub occurs : Occurs h x (reads c value) before
  pub unwritten : Wrote before x c → ⊥

-- x committed cell c: it committed, and had written c
pub record CommittedCell {V R P : Type 0} (h : Events V R P) (x c : ℕ) : Type 0 where
  pub place : P
  pub before : Events V R P
  pub occurs : Occurs h x (commits place) before
  pub wrote : Wrote before x c

-- x committed or was abandoned
pub record Ended {V R P : Type 0} (h : Events V R P) (x : ℕ) : Type 0 where
  pub place : P
  pub before : Events V R P
  pub occurs : Occurs h x (commits place) before ⊎ Occurs h x (abandons place) before

---- Precedence

-- Job x precedes job y in h. Each rule looks at the moment g right before the later of two events, which is y's:
--   real_time             x ended before y opened;
--   committed_read        x committed a cell before y read it first-hand;
--   read_committed        x read a cell first-hand before y committed it;
--   committed_committed   both committed one cell, x first.
pub data Precedes {V R P : Type 0} (h : Events V R P) (x y : ℕ) : Type 0 where
  real_time : {g : Events V R P} → Occurs h y opens g → Ended g x → Precedes h x y
  committed_read : {g : Events V R P} {c : ℕ} {v : R} → Occurs h y (reads c v) g → (Wrote g y c → ⊥) → CommittedCell g x c → Precedes h x y
  read_committed : {g : Events V R P} {c : ℕ} {p : P} → Occurs h y (commits p) g → Wrote g y c → ReadGlobally g x c → Precedes h x y
  committed_committed : {g : Events V R P} {c : ℕ} {p : P} → Occurs h y (commits p) g → Wrote g y c → CommittedCell g x c → Precedes h x y

---- Rows of jobs, the last one first

-- x is one of the row
abbrev pub In : ℕ → List ℕ → Type 0
In x row = (earlier : List ℕ) × Extends row (x ∷ earlier)

-- x stands before y in the row
abbrev pub StandsBefore : List ℕ → ℕ → ℕ → Type 0
StandsBefore row x y = (earlier : List ℕ) × Extends row (y ∷ earlier) × In x earlier

-- none stands twice
abbrev pub Once : List ℕ → Type 0
Once row = (x : ℕ) → StandsBefore row x x → ⊥

-- of two different jobs of the row, the one that precedes the other stands before it
abbrev pub KeepsPrecedence : {V R P : Type 0} → Events V R P → List ℕ → Type 0
KeepsPrecedence h row = (x y : ℕ) → In x row → In y row → (x ≢ y) → Precedes h x y → StandsBefore row x y

-- a row that has at least the committed jobs, each job once, and keeps every precedence between two different jobs of it
pub record Respects {V R P : Type 0} (h : Events V R P) (row : List ℕ) : Type 0 where
  pub once : Once row
  pub all_committed : (x : ℕ) → is_committed (projection h x) ≡ true → In x row
  pub rules : KeepsPrecedence h row

-- a row that has all the jobs, open ones too, and no others, each once, and keeps every precedence between two different jobs of it
pub record SerializationOrder {V R P : Type 0} (h : Events V R P) (row : List ℕ) : Type 0 where
  pub once : Once row
  pub all : (x : ℕ) → 1 ≤ x → x ≤ openings h → In x row
  pub only : (x : ℕ) → In x row → (1 ≤ x) × (x ≤ openings h)
  pub rules : KeepsPrecedence h row
