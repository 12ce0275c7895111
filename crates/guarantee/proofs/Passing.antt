-- What a call that passes the tests has seen to.
use Rattle.std.proofs.Common.{◌≡◌, ℕ, ◌+◌, ◌≤◌, true, false, not, ◌||◌, eqb, ltb, [], ◌∷◌, ◌++◌, Some, None, Err, Option, refl, ap, arith}
use Rattle.std.proofs.lemmas.Bool.{or_from, le-ltb, ne_eqb, eqb-true, eqb-false, ltb-false, or_parts, not-false, cond_both}
use Rattle.terms.specs.declared.numbers.CrewNumber.{CrewNumber}
use Rattle.terms.specs.declared.refusals.Refusal.{Refusal}
use Rattle.terms.specs.declared.refusals.Refusal.TheVariants.{NoPlace, Stale, WrongTable}
use Rattle.terms.specs.declared.refusals.TableName.{TableName}
use Rattle.terms.specs.declared.refusals.TableName.TheVariants.{Book, Flags, JobRecords, OwnValues, ReadPlaces, Values, WrittenPlaces}
use Rattle.rules.specs.Contents.{Contents, Fits}
use Rattle.rules.specs.Heads.{Dimensions}
use Rattle.rules.specs.JobCalls.{Outcome, abandon_outcome, accepted, call_tests, commit_low, commit_outcome, committed_at, crew_of, damaged, is_opening, outcome, raised_low, read_cell, read_outcome, read_own, refused, tests_of, wrong_cell}
use Rattle.rules.specs.Limits.{top}
use Rattle.rules.specs.Refusing.{Tests, first_refusal, if_refused, size_tests}
use Rattle.rules.specs.Registers.{Register, has_job, has_written, high_of, low_of}
use Rattle.rules.specs.declared.calls.Call.{Call}
use Rattle.rules.specs.declared.calls.Call.TheVariants.{Open}
use Rattle.rules.proofs.Changing.{inside}
use Rattle.guarantee.specs.Histories.{operation_refused}

-- none of the tests holds
abbrev pub NoneOf : Tests → Type 0
NoneOf [] = Unit {0}
NoneOf (t ∷ ts) = (t.0 ≡ false) × NoneOf ts

-- none of the refusals is stale or no place
abbrev Plain : (V : Type 0) → Tests → Type 0
Plain V [] = Unit {0}
Plain V (t ∷ ts) = (operation_refused {V = V} t.1 ≡ None) × Plain V ts

module _ {V : Type 0} where
  plain : (r : Register V) (k : Call V) → Plain V (tests_of r k)
  plain r k = (refl, (refl, (refl, (refl, (refl, (refl, (refl, (refl, (refl, (refl, (refl, (refl, (refl, (refl, tt))))))))))))))

  decided : (P : Outcome V → Type 0) (r : Register V) (ts : Tests) (o : Outcome V) → Plain V ts → ((e : Refusal) → operation_refused {V = V} e ≡ None → P (refused e r)) → (NoneOf ts → P o) → P (if_refused (first_refusal ts) (λ e. refused e r) o)
  decided P r [] o p f g = g tt
  decided P r (t ∷ ts) o p f g = cond_both t.0 (Some t.1) (first_refusal ts) (λ (q : Option Refusal). P (if_refused q (λ e. refused e r) o)) (λ e. f t.1 p.0) (λ e. decided P r ts o p.1 f (λ ns. g (e, ns)))

  -- whatever holds where a test refuses the call, and where none does, holds of the outcome
  pub outcome_by : (P : Outcome V → Type 0) (d : V) (pick : ℕ → ℕ → ℕ) (r : Register V) (k : Call V) →
      ((e : Refusal) → operation_refused {V = V} e ≡ None → P (refused e r)) → (NoneOf (tests_of r k) → P (accepted d pick r k)) → P (outcome d pick r k)
  outcome_by P d pick r k = decided P r (tests_of r k) (accepted d pick r k) (plain r k)

  same_unless_refused : (r : Register V) (ts : Tests) (o q : Outcome V) → (NoneOf ts → o ≡ q) → if_refused (first_refusal ts) (λ e. refused e r) o ≡ if_refused (first_refusal ts) (λ e. refused e r) q
  same_unless_refused r [] o q g = g tt
  same_unless_refused r (t ∷ ts) o q g = cond_both t.0 (Some t.1) (first_refusal ts) (λ (x : Option Refusal). if_refused x (λ e. refused e r) o ≡ if_refused x (λ e. refused e r) q) (λ e. refl) (λ e. same_unless_refused r ts o q (λ ns. g (e, ns)))

  -- what is the same where no test refuses is the same
  pub same_outcome : (d e : V) (pick : ℕ → ℕ → ℕ) (r : Register V) (k : Call V) → (NoneOf (tests_of r k) → accepted d pick r k ≡ accepted e pick r k) → outcome d pick r k ≡ outcome e pick r k
  same_outcome d e pick r k = same_unless_refused r (tests_of r k) (accepted d pick r k) (accepted e pick r k)

  -- what a read or a commit that no test refuses can come to
  pub read_by : (P : Outcome V → Type 0) (d : V) (pick : ℕ → ℕ → ℕ) (r : Register V) (w c : ℕ) → (has_written r w c ≡ true → P (read_own d r w c)) →
      (has_written r w c ≡ false → ltb (high_of r w) (raised_low r w c + 2) ≡ true → P (abandon_outcome pick r w (λ p. Err (Stale p)))) →
      (has_written r w c ≡ false → ltb (high_of r w) (raised_low r w c + 2) ≡ false → P (read_cell d r w c)) → P (read_outcome d pick r w c)
  read_by P d pick r w c own stale cell = cond_both (has_written r w c) _ _ P own (λ e. cond_both (ltb (high_of r w) (raised_low r w c + 2)) _ _ P (stale e) (cell e))

  pub commit_by : (P : Outcome V → Type 0) (d : V) (pick : ℕ → ℕ → ℕ) (r : Register V) (w : ℕ) →
      (ltb (high_of r w) (commit_low r w + 2) ≡ true → P (abandon_outcome pick r w (λ p. Err (NoPlace p)))) →
      (ltb (high_of r w) (commit_low r w + 2) ≡ false → P (committed_at d r w (pick (commit_low r w) (high_of r w)))) → P (commit_outcome d pick r w)
  commit_by P d pick r w no_place placed = cond_both (ltb (high_of r w) (commit_low r w + 2)) _ _ P no_place placed

---- The tables and the crew

pub record Sized {V : Type 0} (r : Register V) (w : ℕ) : Type 0 where
  pub fits : Fits r.head.sizes r.tables
  pub from_one : 1 ≤ w
  pub to_crews : w ≤ r.head.sizes.crews

same_size : (a b : ℕ) → not (eqb a b) ≡ false → a ≡ b
same_size a b e = eqb-true a b (not-false (eqb a b) e)

pub sizes_fit : {V : Type 0} (sizes : Dimensions) (t : Contents V) → NoneOf (size_tests sizes t) → Fits sizes t
sizes_fit sizes t ns = record {
  values = same_size _ _ ns.0;
  written = same_size _ _ ns.1.0;
  read = same_size _ _ ns.1.1.0;
  jobs = same_size _ _ ns.1.1.1.0;
  own = same_size _ _ ns.1.1.1.1.0;
  flags = same_size _ _ ns.1.1.1.1.1.0;
  book = same_size _ _ ns.1.1.1.1.1.1.0;
}

none_first : (ts us : Tests) → NoneOf (ts ++ us) → NoneOf ts
none_first [] us ns = tt
none_first (t ∷ ts) us ns = (ns.0, none_first ts us ns.1)

pub sized : {V : Type 0} (r : Register V) (k : Call V) → NoneOf (tests_of r k) → Sized r (crew_of k)
sized r k ns =
    let i = inside r.head.sizes.crews (crew_of k) ns.1.1.1.1.1.1.1.0 in
    record { fits = sizes_fit r.head.sizes r.tables (none_first (size_tests r.head.sizes r.tables) (call_tests r (is_opening k) (wrong_cell r.head.sizes.cells k) (crew_of k)) ns); from_one = i.0; to_crews = i.1 }

-- where a table does not fit, it is the first such that the call names
abbrev OfTables : Tests → Type 0
OfTables [] = Unit {0}
OfTables (t ∷ ts) = ((table : TableName) × (t.1 ≡ WrongTable table)) × OfTables ts

first_table : (ts us : Tests) → OfTables ts → (NoneOf ts → ⊥) → (table : TableName) × (first_refusal (ts ++ us) ≡ Some (WrongTable table))
first_table [] us o n = absurd (n tt)
first_table (t ∷ ts) us o n = cond_both t.0 (Some t.1) (first_refusal (ts ++ us)) (λ (q : Option Refusal). (table : TableName) × (q ≡ Some (WrongTable table)))
    (λ e. (o.0.0, ap Some o.0.1)) (λ e. first_table ts us o.1 (λ ns. n (e, ns)))

pub wrong_table : {V : Type 0} (d : V) (pick : ℕ → ℕ → ℕ) (r : Register V) (k : Call V) → (Fits r.head.sizes r.tables → ⊥) → (table : TableName) × (outcome d pick r k ≡ refused (WrongTable table) r)
wrong_table d pick r k n =
    let q = first_table (size_tests r.head.sizes r.tables) (call_tests r (is_opening k) (wrong_cell r.head.sizes.cells k) (crew_of k))
    ((Values, refl), ((WrittenPlaces, refl), ((ReadPlaces, refl), ((JobRecords, refl), ((OwnValues, refl), ((Flags, refl), ((Book, refl), tt)))))))
    (λ ns. n (sizes_fit r.head.sizes r.tables ns)) in
    (q.0, ap (λ (o : Option Refusal). if_refused o (λ e. refused e r) (accepted d pick r k)) q.1)

---- The tests after those of the sizes, and of the crew

pub cell_passes : {V : Type 0} (r : Register V) (k : Call V) → NoneOf (tests_of r k) → wrong_cell r.head.sizes.cells k ≡ false
cell_passes r k ns = ns.1.1.1.1.1.1.1.1.0

-- an opening
pub record Free {V : Type 0} (r : Register V) (w : ℕ) : Type 0 where
  pub no_job : has_job r w ≡ false
  pub places_left : ltb top (r.head.highest + 2) ≡ false
  pub entries_left : eqb (r.head.ended + r.head.active) r.head.sizes.entries ≡ false

pub free : {V : Type 0} (r : Register V) (w : CrewNumber) → NoneOf (tests_of r (Open w)) → Free r w.0
free r w ns = let ts = ns.1.1.1.1.1.1.1.1.1 in record { no_job = ts.0; places_left = ts.1.1.1.0; entries_left = ts.1.1.1.1.0 }

-- any other call
pub record Working {V : Type 0} (r : Register V) (w : ℕ) : Type 0 where
  pub has : has_job r w ≡ true
  pub room : low_of r w + 2 ≤ high_of r w
  pub under_top : high_of r w ≤ top
  pub counted : 1 ≤ r.head.active

undamaged : {V : Type 0} (r : Register V) (w : ℕ) → not (has_job r w) ≡ false → damaged r w ≡ false → Working r w
undamaged r w e f =
    let p = or_parts (ltb (high_of r w) (low_of r w + 2)) (ltb top (high_of r w) || eqb r.head.active 0) f in
    let q = or_parts (ltb top (high_of r w)) (eqb r.head.active 0) p.1 in
    let z = eqb-false r.head.active 0 q.1 in
    record { has = not-false (has_job r w) e; room = ltb-false (high_of r w) (low_of r w + 2) p.0; under_top = ltb-false top (high_of r w) q.0; counted = omega arith }

pub working : {V : Type 0} (r : Register V) (k : Call V) → is_opening k ≡ false → NoneOf (tests_of r k) → Working r (crew_of k)
working r k e ns =
    let ts = ns.1.1.1.1.1.1.1.1.1.1 in
    let a : not (has_job r (crew_of k)) ≡ false = rw e at ts.0 in
    let b : damaged r (crew_of k) ≡ false = rw e at ts.1.0 in
    undamaged r (crew_of k) a b

pub not_damaged : {V : Type 0} (r : Register V) (w : ℕ) → Working r w → damaged r w ≡ false
not_damaged r w k = or_from (ltb (high_of r w) (low_of r w + 2)) (ltb top (high_of r w) || eqb r.head.active 0) (le-ltb (high_of r w) (low_of r w + 2) k.room)
    (or_from (ltb top (high_of r w)) (eqb r.head.active 0) (le-ltb top (high_of r w) k.under_top) (ne_eqb r.head.active 0 (λ e. omega (arith, k.counted))))
