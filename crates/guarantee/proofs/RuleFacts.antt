-- Facts about the rules over any tables.
use Rattle.std.proofs.Common.{◌≡◌, ℕ, zero, suc, ◌+◌, ◌-◌, ◌<◌, ◌≤◌, max, Bool, true, false, cond, not, ◌&&◌, eqb, ltb, leb, List, [], ◌∷◌, ◌++◌, length, take, drop, None, Ok, Err, Result, sym, refl, ap, ◌∙◌, ap₂, arith}
use Rattle.std.proofs.lemmas.List.{get_or_default, take_at, drop_at, length-append, length-take-le, length-drop}
use Rattle.std.proofs.lemmas.Bool.{eqb-false, ne_eqb, both_ways, ltb-false, leb-true, leb-false, cond_both, and_parts, and_from, or_left, or_right, or_cases, not-true, cases_eq}
use Rattle.std.proofs.Math.Logic.{⊎_elim}
use Rattle.terms.specs.declared.numbers.Place.{Place}
use Rattle.terms.specs.declared.records.Entry.{Entry}
use Rattle.terms.specs.declared.refusals.Refusal.{Refusal}
use Rattle.terms.specs.declared.refusals.Refusal.TheVariants.{NoPlace, Stale}
use Rattle.choosers.specs.Meaning.{KeepsLaw, Meaning}
use Rattle.rules.specs.JobCalls.{Outcome, abandon_outcome, accepted, commit_low, committed_at, other_reader, outcome, raised_low, read_cell, tests_of, touches}
use Rattle.rules.specs.Limits.{top}
use Rattle.rules.specs.Performing.{All, Ascending, Entered, Inserted, NotAbove, Performs, moved_if, with_book}
use Rattle.rules.specs.Registers.{Register, has_job, has_read, has_written, high_of, low_of, own_of}
use Rattle.rules.specs.Tables.{at, each_from, most, some, spot}
use Rattle.rules.specs.declared.calls.Answer.{Answer}
use Rattle.rules.specs.declared.calls.Answer.TheVariants.{Ended, Told}
use Rattle.rules.specs.declared.calls.Call.{Call}
use Rattle.rules.specs.declared.calls.Call.TheVariants.{Abandon, Commit, Open, Read, Write}
use Rattle.rules.proofs.Changing.{inside, most_at, most_least, spot_in}
use Rattle.guarantee.specs.RuleFacts.{AtLeastEach, CommitBoundIsLargest, EveryCallCanBePerformed, NoOutcomeDependsOnDefault, ReadsWritten, SoundHead}
use Rattle.guarantee.proofs.Opacity.{b}
use Rattle.guarantee.proofs.Orders.{all_map}
use Rattle.guarantee.proofs.Passing.{NoneOf, Sized, Working, cell_passes, commit_by, free, outcome_by, read_by, same_outcome, sized, working}

each_same : {A : Type 0} (f g : ℕ → A → A) (k : ℕ) (xs : List A) → ((c : ℕ) (x : A) → k ≤ c → c < k + length xs → f c x ≡ g c x) → each_from k f xs ≡ each_from k g xs
each_same f g k [] h = refl
each_same f g k (x ∷ xs) h = ap₂ ◌∷◌ (h k x (omega arith) (omega arith)) (each_same f g (suc k) xs (λ c y a b. h c y (omega arith) (omega arith)))

module _ {V : Type 0} (d e : V) (r : Register V) where
  own_same : (w c : ℕ) → Sized r w → 1 ≤ c → c ≤ r.head.sizes.cells → own_of d r w c ≡ own_of e r w c
  own_same w c z a b = get_or_default r.tables.own (spot r.head.sizes.cells w c) d e (rw z.fits.own (spot_in r.head.sizes.cells r.head.sizes.crews w c z.from_one z.to_crews a b))

  accepted_same : (pick : ℕ → ℕ → ℕ) (k : Call V) → NoneOf (tests_of r k) → accepted d pick r k ≡ accepted e pick r k
  accepted_same pick (Open w) ns = refl
  accepted_same pick (Read w c) ns =
      let z = sized r (Read w c) ns in
      let i = inside r.head.sizes.cells c.0 (cell_passes r (Read w c) ns) in
      ap₂ (λ (v u : V). cond (has_written r w.0 c.0) (record { answer = Ok (Told v); left = r; asked = None; entry = None })
      (cond (ltb (high_of r w.0) (raised_low r w.0 c.0 + 2)) (abandon_outcome pick r w.0 (λ p. Err (Stale p))) (record { answer = Ok (Told u); left = (read_cell d r w.0 c.0).left; asked = None; entry = None })))
      (own_same w.0 c.0 z i.0 i.1) (get_or_default r.tables.values (c.0 - 1) d e (omega (arith, z.fits.values, i.0, i.1)))
  accepted_same pick (Write w c v) ns = refl
  accepted_same pick (Commit w) ns =
      let z = sized r (Commit w) ns in
      let q = each_same (λ c v. cond (has_written r w.0 c) (own_of d r w.0 c) v) (λ c v. cond (has_written r w.0 c) (own_of e r w.0 c) v) 1 r.tables.values
      (λ c v a b. ap (λ (x : V). cond (has_written r w.0 c) x v) (own_same w.0 c z a (omega (arith, z.fits.values)))) in
      ap (λ (vs : List V). cond (ltb (high_of r w.0) (commit_low r w.0 + 2)) (abandon_outcome pick r w.0 (λ p. Err (NoPlace p))) (with_values vs (committed_at d r w.0 (pick (commit_low r w.0) (high_of r w.0))))) q
    where
      with_values : List V → Outcome V → Outcome V
      with_values vs o = record {
        answer = o.answer;
        asked = o.asked;
        entry = o.entry;
        left = record {
          head = o.left.head;
          tables = record { values = vs; written = o.left.tables.written; read = o.left.tables.read; jobs = o.left.tables.jobs; own = o.left.tables.own; flags = o.left.tables.flags; book = o.left.tables.book };
        };
      }
  accepted_same pick (Abandon w) ns = refl

pub no_outcome_depends_on_default : (V : Type 0) → NoOutcomeDependsOnDefault V
no_outcome_depends_on_default V d e pick r k = same_outcome d e pick r k (accepted_same d e r pick k)

---- SoundHead heads

module _ {V : Type 0} (d : V) (f : Meaning) (r : Register V) (ke : KeepsLaw f) (so : SoundHead r.head) where
  sound_end : (w p : ℕ) → Working r w → p < high_of r w → (max r.head.highest p < top) × (r.head.ended + 1 + (r.head.active - 1) ≤ r.head.sizes.entries)
  sound_end w p k l = (omega (arith, so.under_top, k.under_top), omega (arith, so.in_book, k.counted))

  sound_up : (w : ℕ) (say : Place → Result (Answer V) Refusal) → Working r w → SoundHead (abandon_outcome (f []) r w say).left.head
  sound_up w say k = let b = sound_end w (f [] (low_of r w) (high_of r w)) k (ke.between [] (low_of r w) (high_of r w) k.room).1 in record { under_top = b.0; in_book = b.1 }

  sound_accepted : (k : Call V) → NoneOf (tests_of r k) → SoundHead (accepted d (f []) r k).left.head
  sound_accepted (Open w) ns = record { under_top = so.under_top; in_book = let q = eqb-false (r.head.ended + r.head.active) r.head.sizes.entries (free r w ns).entries_left in omega (arith, so.in_book) }
  sound_accepted (Read w c) ns = read_by (λ (o : Outcome V). SoundHead o.left.head) d (f []) r w.0 c.0 (λ e. so)
      (λ e l. sound_up w.0 (λ p. Err (Stale p)) (working r (Read w c) refl ns))
      (λ e l. record { under_top = so.under_top; in_book = so.in_book })
  sound_accepted (Write w c v) ns = record { under_top = so.under_top; in_book = so.in_book }
  sound_accepted (Commit w) ns = commit_by (λ (o : Outcome V). SoundHead o.left.head) d (f []) r w.0 (λ l. sound_up w.0 (λ p. Err (NoPlace p)) wk)
      (λ l. let b = sound_end w.0 (f [] (commit_low r w.0) (high_of r w.0)) wk (ke.between [] (commit_low r w.0) (high_of r w.0) (ltb-false (high_of r w.0) (commit_low r w.0 + 2) l)).1 in record { under_top = b.0; in_book = b.1 })
    where
      wk : Working r w.0
      wk = working r (Commit w) refl ns
  sound_accepted (Abandon w) ns = sound_up w.0 (λ p. Ok (Ended p)) (working r (Abandon w) refl ns)

---- An entry can always be put in

-- one way to put an entry in: after all that are not above it
abbrev put_in : Entry → List Entry → List Entry
put_in e [] = e ∷ []
put_in e (x ∷ xs) = cond (leb x.place.0 e.place.0) (x ∷ put_in e xs) (e ∷ x ∷ xs)

record Split (e : Entry) (xs : List Entry) : Type 0 where
  front : List Entry
  back : List Entry
  was : xs ≡ front ++ back
  is : put_in e xs ≡ front ++ (e ∷ back)
  in_place : Ascending (front ++ back) → All (λ f. NotAbove f e) front × All (NotAbove e) back

split : (e : Entry) (xs : List Entry) → Split e xs
split e [] = record { front = []; back = []; was = refl; is = refl; in_place = λ c. (tt, tt) }
split e (x ∷ xs) = go (leb x.place.0 e.place.0) refl (split e xs)
  where
    joined : (b : Bool) → leb x.place.0 e.place.0 ≡ b → put_in e (x ∷ xs) ≡ cond b (x ∷ put_in e xs) (e ∷ x ∷ xs)
    joined b q = ap (λ (t : Bool). cond t (x ∷ put_in e xs) (e ∷ x ∷ xs)) q

    go : (b : Bool) → leb x.place.0 e.place.0 ≡ b → Split e xs → Split e (x ∷ xs)
    go true q s = record {
      front = x ∷ s.front;
      back = s.back;
      was = ap (λ (ys : List Entry). x ∷ ys) s.was;
      is = joined true q ∙ ap (λ (ys : List Entry). x ∷ ys) s.is;
      in_place = λ c. let p = s.in_place c.1 in ((leb-true x.place.0 e.place.0 q, p.0), p.1);
    }
    go false q s = let l = leb-false x.place.0 e.place.0 q in record { front = []; back = x ∷ xs; was = refl; is = joined false q; in_place = λ c. (tt, (omega arith, all_map (NotAbove x) (NotAbove e) xs (λ y a. omega (arith, a, l)) c.0)) }

length_put_in : (e : Entry) (xs : List Entry) → length (put_in e xs) ≡ length xs + 1
length_put_in e [] = refl
length_put_in e (x ∷ xs) =
    let ih = length_put_in e xs in
    cond_both (leb x.place.0 e.place.0) _ _ (λ (ys : List Entry). length ys ≡ suc (length xs) + 1) (λ _. omega (arith, ih)) (λ _. omega arith)

inserted : (k : ℕ) (e : Entry) (book : List Entry) → k < length book → (bk : List Entry) × Inserted k e book bk
inserted k e book l = (
  put_in e (take k book) ++ drop (k + 1) book,
  record {
    front = s.front;
    back = s.back;
    was = s.was;
    is = take_at (put_in e (take k book)) (drop (k + 1) book) (k + 1) len ∙ s.is;
    past_unaltered = drop_at (put_in e (take k book)) (drop (k + 1) book) (k + 1) len;
    same_length = length-append (put_in e (take k book)) (drop (k + 1) book) ∙ omega (arith, len, length-drop (k + 1) book);
    in_place = s.in_place;
  },
)
  where
    s : Split e (take k book)
    s = split e (take k book)

    len : length (put_in e (take k book)) ≡ k + 1
    len = length_put_in e (take k book) ∙ omega (arith, length-take-le k book (omega arith))

module _ {V : Type 0} (d : V) (f : Meaning) (r : Register V) (so : SoundHead r.head) where
  abbrev Can : Outcome V → Type 0
  Can o = (bk : List Entry) × Entered r.head.ended o.entry r.tables.book bk

  can_end : (w : ℕ) (e : Entry) → Working r w → length r.tables.book ≡ r.head.sizes.entries → (bk : List Entry) × Inserted r.head.ended e r.tables.book bk
  can_end w e k l = inserted r.head.ended e r.tables.book (omega (arith, so.in_book, k.counted))

  can : (k : Call V) → NoneOf (tests_of r k) → Can (accepted d (f []) r k)
  can (Open w) ns = (r.tables.book, refl)
  can (Read w c) ns = read_by Can d (f []) r w.0 c.0 (λ e. (r.tables.book, refl)) (λ e l. can_end w.0 _ (working r (Read w c) refl ns) (sized r (Read w c) ns).fits.book) (λ e l. (r.tables.book, refl))
  can (Write w c v) ns = (r.tables.book, refl)
  can (Commit w) ns = commit_by Can d (f []) r w.0 (λ l. can_end w.0 _ wk (sized r (Commit w) ns).fits.book) (λ l. can_end w.0 _ wk (sized r (Commit w) ns).fits.book)
    where
      wk : Working r w.0
      wk = working r (Commit w) refl ns
  can (Abandon w) ns = can_end w.0 _ (working r (Abandon w) refl ns) (sized r (Abandon w) ns).fits.book

  possible : (k : Call V) → (a : Result (Answer V) Refusal) × (r' : Register V) × (f' : Meaning) × Performs d r f k a r' f'
  possible k = let b = outcome_by Can d (f []) r k (λ e q. (r.tables.book, refl)) (can k) in
      ((outcome d (f []) r k).answer, with_book (outcome d (f []) r k).left b.0, moved_if f (outcome d (f []) r k).asked, record { answers = refl; leaves = refl; asks = refl; enters = b.1 })

pub every_call_can_be_performed : (V : Type 0) → EveryCallCanBePerformed V
every_call_can_be_performed V = record {
  stays_sound = λ d f r k ke so. outcome_by (λ (o : Outcome V). SoundHead o.left.head) d (f []) r k (λ e q. so) (sound_accepted d f r ke so k);
  performed = λ d f r k so. possible d f r so k;
}

---- L

some_at : (t : ℕ → Bool) (n c : ℕ) → 1 ≤ c → c ≤ n → t c ≡ true → some t n ≡ true
some_at t zero c a b e = absurd (omega arith)
some_at t (suc n) c a b e = ⊎_elim (λ q. or_left (t (suc n)) (some t n) (rw (← q) e)) (λ q. or_right (t (suc n)) (some t n) (some_at t n c a (omega (arith, q)) e)) (cases_eq c (suc n))

some_of : (t : ℕ → Bool) (n : ℕ) → some t n ≡ true → (c : ℕ) × (1 ≤ c) × (c ≤ n) × (t c ≡ true)
some_of t zero e = absurd (both_ways false refl e)
some_of t (suc n) e = ⊎_elim (λ q. (suc n, omega arith, omega arith, q)) (λ q. let k = some_of t n q in (k.0, k.1, omega (arith, k.2), k.3)) (or_cases (t (suc n)) (some t n) e)

module _ {V : Type 0} (r : Register V) (w : ℕ) where
  abbrev cell : ℕ → ℕ
  cell c = cond (has_written r w c) (max (at r.tables.written c 0) (at r.tables.read c 0)) 0

  abbrev crew : ℕ → ℕ
  crew u = cond (other_reader r w u) (low_of r u + 1) 0

  cell_up : (c : ℕ) → 1 ≤ c → c ≤ r.head.sizes.cells → has_written r w c ≡ true → (at r.tables.written c 0 ≤ commit_low r w) × (at r.tables.read c 0 ≤ commit_low r w)
  cell_up c a b e = let l : cell c ≤ most cell r.head.sizes.cells = most_at cell r.head.sizes.cells c a b in let m : max (at r.tables.written c 0) (at r.tables.read c 0) ≤ most cell r.head.sizes.cells = rw e at l in (omega arith, omega arith)

  crew_up : (u c : ℕ) → ReadsWritten r w u c → low_of r u + 1 ≤ commit_low r w
  crew_up u c h =
      let t : touches r w u ≡ true = some_at (λ c. has_read r u c && has_written r w c) r.head.sizes.cells c h.a_cell.0 h.a_cell.1 (and_from (has_read r u c) (has_written r w c) h.read h.written) in
      let e : other_reader r w u ≡ true = and_from (not (eqb w u)) (has_job r u && touches r w u) (ap not (ne_eqb w u (λ q. h.another (sym q)))) (and_from (has_job r u) (touches r w u) h.a_job t) in
      let l : crew u ≤ most crew r.head.sizes.crews = most_at crew r.head.sizes.crews u h.a_crew.0 h.a_crew.1 in
      let m : low_of r u + 1 ≤ most crew r.head.sizes.crews = rw e at l in omega arith

  bounded : (x : ℕ) → AtLeastEach r w x → commit_low r w ≤ x
  bounded x k =
      let l = k.own_low in
      let p = most_least cell r.head.sizes.cells x (λ c a b. cond_both (has_written r w c) _ _ (λ y. y ≤ x) (λ e. omega (arith, k.written_cells c a b e)) (λ _. omega arith)) in
      let q = most_least crew r.head.sizes.crews x (λ u a b. cond_both (other_reader r w u) _ _ (λ y. y ≤ x) (of u a b) (λ _. omega arith)) in omega arith
    where
      of : (u : ℕ) → 1 ≤ u → u ≤ r.head.sizes.crews → other_reader r w u ≡ true → low_of r u + 1 ≤ x
      of u a b e =
          let p = and_parts (not (eqb w u)) (has_job r u && touches r w u) e in
          let q = and_parts (has_job r u) (touches r w u) p.1 in
          let c = some_of (λ c. has_read r u c && has_written r w c) r.head.sizes.cells q.1 in
          let m = and_parts (has_read r u c.0) (has_written r w c.0) c.3 in
          k.other_readers u c.0 (record { a_crew = (a, b); another = λ z. eqb-false w u (not-true (eqb w u) p.0) (sym z); a_job = q.0; a_cell = (c.1, c.2); written = m.1; read = m.0 })

pub commit_bound_is_largest : (V : Type 0) → CommitBoundIsLargest V
commit_bound_is_largest V r w = record {
  at_least_each = record { own_low = omega arith; written_cells = cell_up r w; other_readers = crew_up r w };
  none_lower = bounded r w;
  none_written = λ none.
      let l = bounded r w (low_of r w) (record {
        own_low = omega arith;
        written_cells = λ c a b e. absurd (both_ways (has_written r w c) (none c a b) e);
        other_readers = λ u c h. absurd (both_ways (has_written r w c) (none c h.a_cell.0 h.a_cell.1) h.written);
      }) in omega arith;
}
