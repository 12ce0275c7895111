-- The four rules look at the calls alone: events that differ only in their answers have the same precedence.
use Rattle.std.proofs.Common.{◌≡◌, ℕ, suc, cond, ◌⊎◌, ◌↔◌, List, [], ◌∷◌, refl, subst, ap₂, inl, inr}
use Rattle.history.specs.Events.{Operation, Events, History, is_opening, is_ending, openings, open_job, by_jobs}
use Rattle.history.specs.Events.Operation.{opens, reads, writes, commits, abandons}
use Rattle.history.specs.Events.Event.{by}
use Rattle.history.specs.Precedence.{Extends, Occurs, Wrote, ReadGlobally, CommittedCell, Ended, Precedes, SerializationOrder}
use Rattle.history.specs.Precedence.Extends.{here, later}
use Rattle.history.specs.Precedence.Precedes.{real_time, committed_read, read_committed, committed_committed}
use Rattle.history.specs.WellMade.{asked, calls_of, NamesCell, InRange}

-- the same call
pub data SameCall {V R P S Q : Type 0} : Operation V R P → Operation V S Q → Type 0 where
  open_open : SameCall opens opens
  read_read : {c : ℕ} {r : R} {s : S} → SameCall (reads c r) (reads c s)
  write_write : {c : ℕ} {v : V} → SameCall (writes c v) (writes c v)
  commit_commit : {p : P} {q : Q} → SameCall (commits p) (commits q)
  abandon_abandon : {p : P} {q : Q} → SameCall (abandons p) (abandons q)

-- the same calls, by the same crews or jobs
pub data Alike {V R P S Q : Type 0} : Events V R P → Events V S Q → Type 0 where
  none : Alike [] []
  more : {x : ℕ} {d : Operation V R P} {e : Operation V S Q} {h : Events V R P} {g : Events V S Q} → SameCall d e → Alike h g → Alike (by x d ∷ h) (by x e ∷ g)

same_sym : {V R P S Q : Type 0} {d : Operation V R P} {e : Operation V S Q} → SameCall d e → SameCall e d
same_sym open_open = open_open
same_sym read_read = read_read
same_sym write_write = write_write
same_sym commit_commit = commit_commit
same_sym abandon_abandon = abandon_abandon

pub alike_sym : {V R P S Q : Type 0} {h : Events V R P} {g : Events V S Q} → Alike h g → Alike g h
alike_sym none = none
alike_sym (more m a) = more (same_sym m) (alike_sym a)

-- a moment of the one is a moment of the other
moment : {V R P S Q : Type 0} {h k : Events V R P} {g : Events V S Q} → Extends h k → Alike h g → (l : Events V S Q) × Extends g l × Alike k l
moment {g = g} here a = (g, here, a)
moment (later s) (more m a) = let k = moment s a in (k.0, later k.1, k.2)

module _ {V R P S Q : Type 0} where
  -- an operation of x in h, as it occurs in g
  abbrev OccursAlike : Operation V R P → Events V R P → Events V S Q → ℕ → Type 0
  OccursAlike d k g x = (e : Operation V S Q) × (l : Events V S Q) × Extends g (by x e ∷ l) × SameCall d e × Alike k l

  occurs_apart : {x : ℕ} {d : Operation V R P} {k : Events V R P} {g l : Events V S Q} → Extends g l → Alike (by x d ∷ k) l → OccursAlike d k g x
  occurs_apart s (more {e = e} {g = l} m a) = (e, l, s, m, a)

  occurs_alike : {x : ℕ} {d : Operation V R P} {h k : Events V R P} {g : Events V S Q} → Extends h (by x d ∷ k) → Alike h g → OccursAlike d k g x
  occurs_alike s a = let k = moment s a in occurs_apart k.1 k.2

  open_alike : {x : ℕ} {h k : Events V R P} {g : Events V S Q} → Occurs h x opens k → Alike h g → (l : Events V S Q) × Occurs g x opens l × Alike k l
  open_alike {x = x} {k = k} {g = g} s a = go (occurs_alike s a)
    where
      go : OccursAlike opens k g x → (l : Events V S Q) × Occurs g x opens l × Alike k l
      go (_, l, s, open_open, a) = (l, s, a)

  occurs_read_alike : {x c : ℕ} {r : R} {h k : Events V R P} {g : Events V S Q} → Occurs h x (reads c r) k → Alike h g → (s : S) × (l : Events V S Q) × Occurs g x (reads c s) l × Alike k l
  occurs_read_alike {x = x} {c = c} {r = r} {k = k} {g = g} s a = go (occurs_alike s a)
    where
      go : OccursAlike (reads c r) k g x → (s : S) × (l : Events V S Q) × Occurs g x (reads c s) l × Alike k l
      go (_, l, s, read_read {s = t}, a) = (t, l, s, a)

  occurs_write_alike : {x c : ℕ} {v : V} {h k : Events V R P} {g : Events V S Q} → Occurs h x (writes c v) k → Alike h g → (l : Events V S Q) × Occurs g x (writes c v) l × Alike k l
  occurs_write_alike {x = x} {c = c} {v = v} {k = k} {g = g} s a = go (occurs_alike s a)
    where
      go : OccursAlike (writes c v) k g x → (l : Events V S Q) × Occurs g x (writes c v) l × Alike k l
      go (_, l, s, write_write, a) = (l, s, a)

  occurs_commit_alike : {x : ℕ} {p : P} {h k : Events V R P} {g : Events V S Q} → Occurs h x (commits p) k → Alike h g → (q : Q) × (l : Events V S Q) × Occurs g x (commits q) l × Alike k l
  occurs_commit_alike {x = x} {p = p} {k = k} {g = g} s a = go (occurs_alike s a)
    where
      go : OccursAlike (commits p) k g x → (q : Q) × (l : Events V S Q) × Occurs g x (commits q) l × Alike k l
      go (_, l, s, commit_commit {q = q}, a) = (q, l, s, a)

  occurs_abandon_alike : {x : ℕ} {p : P} {h k : Events V R P} {g : Events V S Q} → Occurs h x (abandons p) k → Alike h g → (q : Q) × (l : Events V S Q) × Occurs g x (abandons q) l × Alike k l
  occurs_abandon_alike {x = x} {p = p} {k = k} {g = g} s a = go (occurs_alike s a)
    where
      go : OccursAlike (abandons p) k g x → (q : Q) × (l : Events V S Q) × Occurs g x (abandons q) l × Alike k l
      go (_, l, s, abandon_abandon {q = q}, a) = (q, l, s, a)

  wrote_alike : {h : Events V R P} {g : Events V S Q} {x c : ℕ} → Alike h g → Wrote h x c → Wrote g x c
  wrote_alike a w = let k = occurs_write_alike w.occurs a in record { value = w.value; before = k.0; occurs = k.1 }

  committed_alike : {h : Events V R P} {g : Events V S Q} {x c : ℕ} → Alike h g → CommittedCell h x c → CommittedCell g x c
  committed_alike a w = let k = occurs_commit_alike w.occurs a in record { place = k.0; before = k.1; occurs = k.2; wrote = wrote_alike k.3 w.wrote }

  ended_alike : {h : Events V R P} {g : Events V S Q} {x : ℕ} → Alike h g → Ended h x → Ended g x
  ended_alike {h = h} {g = g} {x = x} a w = go w.occurs
    where
      go : Occurs h x (commits w.place) w.before ⊎ Occurs h x (abandons w.place) w.before → Ended g x
      go (inl s) = let k = occurs_commit_alike s a in record { place = k.0; before = k.1; occurs = inl k.2 }
      go (inr s) = let k = occurs_abandon_alike s a in record { place = k.0; before = k.1; occurs = inr k.2 }

module _ {V R P S Q : Type 0} where
  read_alike : {h : Events V R P} {g : Events V S Q} {x c : ℕ} → Alike h g → ReadGlobally h x c → ReadGlobally g x c
  read_alike a w = let k = occurs_read_alike w.occurs a in record { value = k.0; before = k.1; occurs = k.2; unwritten = λ u. w.unwritten (wrote_alike (alike_sym k.3) u) }

  pub precedes_alike : {h : Events V R P} {g : Events V S Q} {x y : ℕ} → Alike h g → Precedes h x y → Precedes g x y
  precedes_alike a (real_time s e) = let k = open_alike s a in real_time k.1 (ended_alike k.2 e)
  precedes_alike a (committed_read s n e) = let k = occurs_read_alike s a in committed_read k.2 (λ u. n (wrote_alike (alike_sym k.3) u)) (committed_alike k.3 e)
  precedes_alike a (read_committed s w e) = let k = occurs_commit_alike s a in read_committed k.2 (wrote_alike k.3 w) (read_alike k.3 e)
  precedes_alike a (committed_committed s w e) = let k = occurs_commit_alike s a in committed_committed k.2 (wrote_alike k.3 w) (committed_alike k.3 e)

  same_opening : {d : Operation V R P} {e : Operation V S Q} → SameCall d e → is_opening d ≡ is_opening e
  same_opening open_open = refl
  same_opening read_read = refl
  same_opening write_write = refl
  same_opening commit_commit = refl
  same_opening abandon_abandon = refl

  same_ending : {d : Operation V R P} {e : Operation V S Q} → SameCall d e → is_ending d ≡ is_ending e
  same_ending open_open = refl
  same_ending read_read = refl
  same_ending write_write = refl
  same_ending commit_commit = refl
  same_ending abandon_abandon = refl

  same_cell : (n : ℕ) {d : Operation V R P} {e : Operation V S Q} → SameCall d e → NamesCell n d → NamesCell n e
  same_cell n open_open r = r
  same_cell n read_read r = r
  same_cell n write_write r = r
  same_cell n commit_commit r = r
  same_cell n abandon_abandon r = r

  -- what else looks at the calls alone
  pub openings_alike : {h : Events V R P} {g : Events V S Q} → Alike h g → openings h ≡ openings g
  openings_alike none = refl
  openings_alike (more m a) = ap₂ (λ b n. cond b (suc n) n) (same_opening m) (openings_alike a)

  pub job_alike : {h : Events V R P} {g : Events V S Q} → Alike h g → (w : ℕ) → open_job h w ≡ open_job g w
  job_alike none w = refl
  job_alike (more m a) w = rw (same_opening m, same_ending m, openings_alike a, job_alike a w)

  pub range_alike : (n m : ℕ) {h : Events V R P} {g : Events V S Q} → Alike h g → InRange n m h → InRange n m g
  range_alike n m none r = tt
  range_alike n m (more s a) r = (r.0, same_cell n s r.1, range_alike n m a r.2)

  more_at : (x y : ℕ) {d : Operation V R P} {e : Operation V S Q} {h : Events V R P} {g : Events V S Q} → x ≡ y → SameCall d e → Alike h g → Alike (by x d ∷ h) (by y e ∷ g)
  more_at x y {d = d} {e = e} {h = h} {g = g} q m a = subst (λ z. Alike (by x d ∷ h) (by z e ∷ g)) q (more m a)

  pub by_jobs_alike : {h : Events V R P} {g : Events V S Q} → Alike h g → Alike (by_jobs h) (by_jobs g)
  by_jobs_alike none = none
  by_jobs_alike (more {x = w} {d = o} {e = o'} {h = h} {g = g} m a) = more_at (cond (is_opening o) (suc (openings h)) (open_job h w)) (cond (is_opening o') (suc (openings g)) (open_job g w))
      (rw (same_opening m, openings_alike a, job_alike a w)) m (by_jobs_alike a)

module _ {V R P S Q : Type 0} where
  pub order_alike : {h : Events V R P} {g : Events V S Q} {row : List ℕ} → Alike h g → SerializationOrder h row → SerializationOrder g row
  order_alike a l = record {
    once = l.once;
    all = λ x p q. l.all x p (rw (openings_alike a) q);
    only = λ x i. let k = l.only x i in (k.0, rw (← openings_alike a) k.1);
    rules = λ x y i j n b. l.rules x y i j n (precedes_alike (alike_sym a) b);
  }

asked_same : {V : Type 0} (o : Operation V V ℕ) → SameCall o (asked o)
asked_same opens = open_open
asked_same (reads c v) = read_read
asked_same (writes c v) = write_write
asked_same (commits p) = commit_commit
asked_same (abandons p) = abandon_abandon

pub calls_alike : {V : Type 0} (run : History V) → Alike run (calls_of run)
calls_alike [] = none
calls_alike (by w o ∷ run) = more (asked_same o) (calls_alike run)

pub answers_aside : {V : Type 0} (run : History V) (row : List ℕ) → SerializationOrder (by_jobs run) row ↔ SerializationOrder (by_jobs (calls_of run)) row
answers_aside run row = let a = by_jobs_alike (calls_alike run) in ((λ l. order_alike a l), (λ l. order_alike (alike_sym a) l))
