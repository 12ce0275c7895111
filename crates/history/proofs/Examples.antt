-- What specs/Examples says of its histories.
use Rattle.std.proofs.Common.{◌≡◌, ℕ, ◌+◌, ◌^◌, ◌≤◌, Bool, true, false, eqb, leb, T, ◌⊎◌, List, [], ◌∷◌, refl, subst, inl, inr, arith, lit≤}
use Rattle.std.proofs.Math.Logic.{⊎_map, ⊎_swap}
use Rattle.std.proofs.lemmas.Bool.{eqb-true, both_ways, cases_eq, cond_both}
use Rattle.choosers.specs.Meaning.{Meaning}
use Rattle.choosers.specs.Script.{script_meaning}
use Rattle.choosers.specs.Lawful.{script_lawful}
use Rattle.history.specs.Events.{Operation, Events, History, openings, by_jobs}
use Rattle.history.specs.Events.Operation.{opens, reads, writes, commits}
use Rattle.history.specs.Events.Event.{by}
use Rattle.history.specs.Projections.{projection}
use Rattle.history.specs.Precedence.{Extends, Wrote, Precedes, In, StandsBefore, SerializationOrder}
use Rattle.history.specs.Precedence.Extends.{here, later}
use Rattle.history.specs.Precedence.Precedes.{real_time, committed_read, read_committed}
use Rattle.history.specs.SerialExecution.{execute_job, execute_serially, SeriallyExplained}
use Rattle.history.specs.WellMade.{WellMade, Calls, calls_of}
use Rattle.history.specs.Bounds.{Placed, sort_key, Ascending, Bounds, bounds_by_job}
use Rattle.history.specs.Views.{RegisterView, bounds_of}
use Rattle.history.specs.Acceptance.{AtWork, RunWith, AcceptedWith}
use Rattle.history.specs.Acceptance.RunWith.{starts, goes_on}
use Rattle.history.specs.Examples.{first_values, small, crossed_reads, CrossedReadsHaveNoOrder, overtaking, OvertakingHasAnOrder, read_skew, ReadSkewIsNotExplained, in_turn, at_once, RealTimeIsKept}
use Rattle.history.proofs.Rows.{one_way, in_later, in_cases, in_nil, in_one, in_head}
use Rattle.history.proofs.Ordering.{ascending_is_order, orders_explain}
use Rattle.history.proofs.Crews.{well_formed}
use Rattle.history.proofs.Viewing.{views_agree}
use Rattle.history.proofs.Alike.{answers_aside}
use Rattle.history.proofs.Choosing.{run_with_view_run, chosen_has_order}

---- Two jobs that precede each other have no order

pub no_order : {V R P : Type 0} (h : Events V R P) → 2 ≤ openings h → Precedes h 1 2 → Precedes h 2 1 → (row : List ℕ) → SerializationOrder h row → ⊥
no_order h two p q row l =
    let i = l.all 1 (lit≤ tt) (omega arith) in
    let j = l.all 2 (lit≤ tt) two in
    one_way row l.once (l.rules 1 2 i j (λ e. omega arith) p) (l.rules 2 1 j i (λ e. omega arith) q)

---- Crossed reads

abbrev opened : Calls ℕ
opened = by 2 opens ∷ by 1 opens ∷ []

unwritten_1 : Wrote opened 1 1 → ⊥
unwritten_1 w = go w.occurs
  where
    go : {v : ℕ} {g : Calls ℕ} → Extends opened (by 1 (writes 1 v) ∷ g) → ⊥
    go (later (later s)) = elim s [ ]

unwritten_2 : Wrote (by 1 (reads 1 tt) ∷ opened) 2 2 → ⊥
unwritten_2 w = go w.occurs
  where
    go : {v : ℕ} {g : Calls ℕ} → Extends (by 1 (reads 1 tt) ∷ opened) (by 2 (writes 2 v) ∷ g) → ⊥
    go (later (later (later s))) = elim s [ ]

crossed_12 : Precedes (by_jobs crossed_reads) 1 2
crossed_12 =
    read_committed {c = 1} here (record { value = 6; before = _; occurs = later here }) (record { value = tt; before = opened; occurs = later (later (later (later here))); unwritten = unwritten_1 })

crossed_21 : Precedes (by_jobs crossed_reads) 2 1
crossed_21 =
    read_committed {c = 2} (later here) (record { value = 5; before = _; occurs = later here })
    (record { value = tt; before = by 1 (reads 1 tt) ∷ opened; occurs = later (later here); unwritten = unwritten_2 })

pub crossed_reads_lem : CrossedReadsHaveNoOrder
crossed_reads_lem = record {
  well_made = record {
    orderly = (lit≤ tt, (lit≤ tt, (lit≤ tt, (lit≤ tt, (lit≤ tt, (lit≤ tt, (refl, (refl, tt))))))));
    in_range = ((lit≤ tt, lit≤ tt), tt, ((lit≤ tt, lit≤ tt), tt, ((lit≤ tt, lit≤ tt), (lit≤ tt, lit≤ tt), ((lit≤ tt, lit≤ tt), (lit≤ tt, lit≤ tt), ((lit≤ tt, lit≤ tt), (lit≤ tt, lit≤ tt), ((lit≤ tt, lit≤ tt), (lit≤ tt, lit≤ tt), ((lit≤ tt, lit≤ tt), tt, ((lit≤ tt, lit≤ tt), tt, tt))))))));
    entries_suffice = lit≤ tt;
  };
  one_before_two = crossed_12;
  two_before_one = crossed_21;
  no_order = no_order (by_jobs crossed_reads) (lit≤ tt) crossed_12 crossed_21;
  never_accepted = λ f law a.
      let k = chosen_has_order small first_values (λ w c. 0) f law crossed_reads (lit≤ tt) a in
      no_order (by_jobs crossed_reads) (lit≤ tt) crossed_12 crossed_21 k.0 k.1;
}

---- Rows of two jobs

-- the second stands before the first, and no other pair stands so
pair_row : (a b x y : ℕ) → StandsBefore (a ∷ b ∷ []) x y → (x ≡ b) × (y ≡ a)
pair_row a b x y (earlier, here, i) = (in_one x b i, refl)
pair_row a b x y (earlier, later here, i) = absurd (in_nil x i)
pair_row a b x y (earlier, later (later s), i) = absurd (in_nil y (earlier, s))

pair_in : (a b x : ℕ) → (x ≡ a) ⊎ (x ≡ b) → In x (a ∷ b ∷ [])
pair_in a b x (inl e) = in_head x a (b ∷ []) e
pair_in a b x (inr e) = in_later x a (b ∷ []) (in_head x b [] e)

pair_cases : (a b x : ℕ) → In x (a ∷ b ∷ []) → (x ≡ a) ⊎ (x ≡ b)
pair_cases a b x i = ⊎_map (λ e. e) (in_one x b) (in_cases x a (b ∷ []) i)

one_or_two : (x : ℕ) → 1 ≤ x → x ≤ 2 → (x ≡ 1) ⊎ (x ≡ 2)
one_or_two x l u = ⊎_map (λ e. e) (λ n. omega (arith, n)) (cases_eq x 1)

up_to_two : (x : ℕ) → (x ≡ 1) ⊎ (x ≡ 2) → (1 ≤ x) × (x ≤ 2)
up_to_two x (inl e) = (omega arith, omega arith)
up_to_two x (inr e) = (omega arith, omega arith)

module _ (run : History ℕ) (numbers : List ℕ) {s : RegisterView ℕ} {f : Meaning} (r : RunWith (script_meaning numbers) small first_values (λ w c. 0) run s f) (two : openings (by_jobs run) ≡ 2) where
  -- the bounds by job after the run
  abbrev bounds : Bounds
  bounds = bounds_by_job (2 ^ 62) run (bounds_of s)

  placed : Placed (by_jobs run) bounds.low bounds.high
  placed = (views_agree first_values (λ w c. 0) (2 ^ 62) 2 run s (lit≤ tt) (run_with_view_run small first_values (λ w c. 0) (script_meaning numbers) (script_lawful numbers) r).0).tracked.placed

  ascending_pair : (a b : ℕ) → sort_key (by_jobs run) bounds.low b ≤ sort_key (by_jobs run) bounds.low a → Ascending (sort_key (by_jobs run) bounds.low) (a ∷ b ∷ [])
  ascending_pair a b l x y p = let k = pair_row a b x y p in rw (k.0, k.1) l

  two_then_one : sort_key (by_jobs run) bounds.low 2 ≤ sort_key (by_jobs run) bounds.low 1 → SerializationOrder (by_jobs run) (1 ∷ 2 ∷ [])
  two_then_one l = ascending_is_order (by_jobs run) bounds.low bounds.high placed (1 ∷ 2 ∷ [])
      (λ x p. let k = pair_row 1 2 x x p in omega (arith, k.0, k.1))
      (λ x u v. pair_in 1 2 x (one_or_two x u (omega arith)))
      (λ x i. let k = up_to_two x (pair_cases 1 2 x i) in (k.0, omega arith))
      (ascending_pair 1 2 l)

  one_then_two : sort_key (by_jobs run) bounds.low 1 ≤ sort_key (by_jobs run) bounds.low 2 → SerializationOrder (by_jobs run) (2 ∷ 1 ∷ [])
  one_then_two l = ascending_is_order (by_jobs run) bounds.low bounds.high placed (2 ∷ 1 ∷ [])
      (λ x p. let k = pair_row 2 1 x x p in omega (arith, k.0, k.1))
      (λ x u v. pair_in 2 1 x (⊎_swap (one_or_two x u (omega arith))))
      (λ x i. let k = up_to_two x (⊎_swap (pair_cases 2 1 x i)) in (k.0, omega arith))
      (ascending_pair 2 1 l)

---- Overtaking

-- by counting
works : {s : RegisterView ℕ} {w : ℕ} → T (leb 1 w) → T (leb w 2) → T (leb 1 (s.job w)) → T (leb (s.low w + 2) (s.high w)) → T (leb (s.high w) (2 ^ 62)) → AtWork small s w
works a b c d e = record { a_crew = (lit≤ a, lit≤ b); a_job = lit≤ c; room = lit≤ d; below_top = lit≤ e }

overtaking_accepted : AcceptedWith (script_meaning (6 ∷ 3 ∷ [])) small first_values (λ w c. 0) (calls_of overtaking)
overtaking_accepted = record {
  run = overtaking;
  view = _;
  meaning = _;
  same_calls = refl;
  run_with =
      goes_on (goes_on (goes_on (goes_on (goes_on (goes_on (goes_on (goes_on starts
      ((lit≤ tt, lit≤ tt), refl, lit≤ tt, lit≤ tt))
      ((lit≤ tt, lit≤ tt), refl, lit≤ tt, lit≤ tt))
      (works tt tt tt tt tt, (lit≤ tt, lit≤ tt)))
      (works tt tt tt tt tt, (lit≤ tt, lit≤ tt), refl, λ _. lit≤ tt))
      (works tt tt tt tt tt, (lit≤ tt, lit≤ tt)))
      (works tt tt tt tt tt, lit≤ tt, refl))
      (works tt tt tt tt tt, (lit≤ tt, lit≤ tt), refl, λ _. lit≤ tt))
      (works tt tt tt tt tt, lit≤ tt, refl);
}

overtaking_order : SerializationOrder (by_jobs overtaking) (1 ∷ 2 ∷ [])
unfolding overtaking_accepted
overtaking_order = two_then_one overtaking (6 ∷ 3 ∷ []) overtaking_accepted.run_with refl (lit≤ {m = 3} {n = 6} tt)

overtaking_well_made : WellMade overtaking
overtaking_well_made = (lit≤ tt, (lit≤ tt, (lit≤ tt, (lit≤ tt, (lit≤ tt, (lit≤ tt, (refl, (refl, tt))))))))

overtaking_explained : SeriallyExplained first_values (by_jobs overtaking) (1 ∷ 2 ∷ [])
overtaking_explained =
    let wf = well_formed overtaking overtaking_well_made in
    orders_explain first_values (by_jobs overtaking) (1 ∷ 2 ∷ []) wf (refl, (refl, tt)) overtaking_order

-- in the order of the commits job 2 is told 15
second_told_15 : SeriallyExplained first_values (by_jobs overtaking) (2 ∷ 1 ∷ []) → ⊥
second_told_15 ex = let e : ◌≡◌ {A = List ℕ} (25 ∷ 15 ∷ []) (25 ∷ 10 ∷ []) = ex.same_observed 2 (1 ∷ []) here in let f : ◌≡◌ {A = ℕ} 15 10 = cc in omega arith

pub overtaking_has_order : OvertakingHasAnOrder
unfolding overtaking_accepted
overtaking_has_order = record {
  accepted = overtaking_accepted;
  the_same_run = refl;
  order = overtaking_order;
  explained = overtaking_explained;
  not_as_committed = second_told_15;
  refused_one_at_a_time = λ a. let e : ◌≡◌ {A = ℕ} 1 0 = a.1.1.1.1.1.1.0 refl 1 in omega arith;
  admitted_in_turns = (
    λ e. absurd (both_ways false refl e),
    (
      λ e. absurd (both_ways false refl e),
      (
        λ e. absurd (both_ways false refl e),
        (
          λ e. absurd (both_ways false refl e),
          (λ e u. cond_both (eqb 1 u) _ _ (λ k. k ≡ 0) (λ _. refl) (λ q. rw q refl), (λ e. absurd (both_ways false refl e), (λ e. absurd (both_ways false refl e), (λ e u. refl, tt)))),
        ),
      ),
    ),
  );
}

---- Read skew

abbrev skewed : ℕ → List (Operation ℕ ℕ ℕ)
skewed = projection (by_jobs read_skew)

-- whatever row of jobs is executed, both cells have their first values, or both have those of job 1
abbrev BothOrNone : (ℕ → ℕ) → Type 0
BothOrNone cells = ((cells 1 ≡ 10) × (cells 2 ≡ 20)) ⊎ ((cells 1 ≡ 15) × (cells 2 ≡ 25))

both_or_none_step : (x : ℕ) (cells : ℕ → ℕ) → BothOrNone cells → BothOrNone (execute_job cells (skewed x)).cells
both_or_none_step x cells ih = go (eqb 1 x) (eqb 2 x) refl refl
  where
    go : (a b : Bool) → eqb 1 x ≡ a → eqb 2 x ≡ b → BothOrNone (execute_job cells (skewed x)).cells
    go true b e f = subst (λ z. BothOrNone (execute_job cells (skewed z)).cells) (eqb-true 1 x e) (inr (refl, refl))
    go false true e f = subst (λ z. BothOrNone (execute_job cells (skewed z)).cells) (eqb-true 2 x f) ih
    go false false e f = rw (e, f) ih

both_or_none : (row : List ℕ) → BothOrNone (execute_serially skewed first_values row)
both_or_none [] = inl (refl, refl)
both_or_none (x ∷ row) = both_or_none_step x (execute_serially skewed first_values row) (both_or_none row)

skew_unexplained : (row : List ℕ) → In 2 row → SeriallyExplained first_values (by_jobs read_skew) row → ⊥
skew_unexplained row (earlier, s) ex = go (both_or_none earlier)
  where
    told : ◌≡◌ {A = List ℕ} (execute_serially skewed first_values earlier 2 ∷ execute_serially skewed first_values earlier 1 ∷ []) (25 ∷ 10 ∷ [])
    told = ex.same_observed 2 earlier s

    go : BothOrNone (execute_serially skewed first_values earlier) → ⊥
    go (inl (a, b)) = let e : execute_serially skewed first_values earlier 2 ≡ 25 = cc told in omega arith
    go (inr (a, b)) = let e : execute_serially skewed first_values earlier 1 ≡ 10 = cc told in omega arith

unwritten_by_two : {v : ℕ} {g : History ℕ} → Extends (by 1 (commits 5) ∷ by 1 (writes 2 25) ∷ by 1 (writes 1 15) ∷ by 2 (reads 1 10) ∷ by 2 opens ∷ by 1 opens ∷ []) (by 2 (writes 2 v) ∷ g) → ⊥
unwritten_by_two (later (later (later (later (later (later s)))))) = elim s [ ]

unwritten_at_first : {v : ℕ} {g : History ℕ} → Extends (by 2 opens ∷ by 1 opens ∷ []) (by 2 (writes 1 v) ∷ g) → ⊥
unwritten_at_first (later (later s)) = elim s [ ]

skew_12 : Precedes (by_jobs read_skew) 1 2
skew_12 = committed_read {c = 2} here (λ w. unwritten_by_two w.occurs) (record { place = 5; before = _; occurs = here; wrote = record { value = 25; before = _; occurs = here } })

skew_21 : Precedes (by_jobs read_skew) 2 1
skew_21 =
    read_committed {c = 1} (later here) (record { value = 15; before = _; occurs = later here })
    (record { value = 10; before = _; occurs = later (later here); unwritten = λ w. unwritten_at_first w.occurs })

pub read_skew_lem : ReadSkewIsNotExplained
read_skew_lem = record {
  well_made = (lit≤ tt, (lit≤ tt, (lit≤ tt, (lit≤ tt, (lit≤ tt, (refl, (refl, tt)))))));
  reads_current = (refl, (refl, tt));
  one_before_two = skew_12;
  two_before_one = skew_21;
  not_explained = skew_unexplained;
  no_order = no_order (by_jobs read_skew) (lit≤ tt) skew_12 skew_21;
  never_accepted = λ f law a.
      let k = chosen_has_order small first_values (λ w c. 0) f law (calls_of read_skew) (lit≤ tt) a in
      no_order (by_jobs read_skew) (lit≤ tt) skew_12 skew_21 k.0 ((answers_aside read_skew k.0).1 k.1);
}

---- Real time

in_turn_accepted : AcceptedWith (script_meaning (1 ∷ 2 ∷ [])) small first_values (λ w c. 0) (calls_of in_turn)
in_turn_accepted = record {
  run = in_turn;
  view = _;
  meaning = _;
  same_calls = refl;
  run_with =
      goes_on (goes_on (goes_on (goes_on (goes_on (goes_on starts
      ((lit≤ tt, lit≤ tt), refl, lit≤ tt, lit≤ tt))
      (works tt tt tt tt tt, (lit≤ tt, lit≤ tt)))
      (works tt tt tt tt tt, lit≤ tt, refl))
      ((lit≤ tt, lit≤ tt), refl, lit≤ tt, lit≤ tt))
      (works tt tt tt tt tt, (lit≤ tt, lit≤ tt)))
      (works tt tt tt tt tt, lit≤ tt, refl);
}

at_once_accepted : AcceptedWith (script_meaning (1 ∷ 1 ∷ [])) small first_values (λ w c. 0) (calls_of at_once)
at_once_accepted = record {
  run = at_once;
  view = _;
  meaning = _;
  same_calls = refl;
  run_with =
      goes_on (goes_on (goes_on (goes_on (goes_on (goes_on starts
      ((lit≤ tt, lit≤ tt), refl, lit≤ tt, lit≤ tt))
      ((lit≤ tt, lit≤ tt), refl, lit≤ tt, lit≤ tt))
      (works tt tt tt tt tt, (lit≤ tt, lit≤ tt)))
      (works tt tt tt tt tt, (lit≤ tt, lit≤ tt)))
      (works tt tt tt tt tt, lit≤ tt, refl))
      (works tt tt tt tt tt, lit≤ tt, refl);
}

pub real_time_kept : RealTimeIsKept
unfolding in_turn_accepted at_once_accepted
real_time_kept = record {
  one_then_two = one_then_two in_turn (1 ∷ 2 ∷ []) in_turn_accepted.run_with refl (lit≤ {m = 1} {n = 2} tt);
  never_two_then_one = λ row l. l.rules 1 2 (l.all 1 (lit≤ tt) (lit≤ tt)) (l.all 2 (lit≤ tt) (lit≤ tt)) (λ e. omega arith)
      (real_time (later (later here)) (record { place = 1; before = _; occurs = inl here }));
  at_once_one_then_two = one_then_two at_once (1 ∷ 1 ∷ []) at_once_accepted.run_with refl (lit≤ {m = 1} {n = 1} tt);
  at_once_two_then_one = two_then_one at_once (1 ∷ 1 ∷ []) at_once_accepted.run_with refl (lit≤ {m = 1} {n = 1} tt);
}
