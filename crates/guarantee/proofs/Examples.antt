-- The two lists of specs/Examples.
use Rattle.std.proofs.Common.{ℕ, [], ◌∷◌, refl, lit≤}
use Rattle.choosers.specs.Lawful.{script_lawful}
use Rattle.choosers.specs.Script.{script_meaning}
use Rattle.history.proofs.Alike.{answers_aside}
use Rattle.history.proofs.Examples.{crossed_reads_lem, overtaking_has_order}
use Rattle.history.specs.Examples as H
use Rattle.rules.specs.Making.{JustStarted}
use Rattle.guarantee.specs.Permissiveness.{WellMadeCalls, IsOrderOf, EveryRunAccepts}
use Rattle.guarantee.specs.Examples.{small_register, small_sizes, overtaking, ExamplesStand}
use Rattle.guarantee.proofs.Permissiveness.{register_is_permissive, some_from_every}

started : JustStarted small_register.head small_register.tables
started = record {
  sizes_in_range = refl;
  head_fresh = refl;
  contents_fresh = refl;
  fits = record { values = refl; written = refl; read = refl; jobs = refl; own = refl; flags = refl; book = refl };
}

well_made : WellMadeCalls small_sizes overtaking
well_made = record {
  orderly = (lit≤ tt, (lit≤ tt, (lit≤ tt, (lit≤ tt, (lit≤ tt, (lit≤ tt, (refl, (refl, tt))))))));
  in_range = ((lit≤ tt, lit≤ tt), tt, ((lit≤ tt, lit≤ tt), (lit≤ tt, lit≤ tt), ((lit≤ tt, lit≤ tt), tt, ((lit≤ tt, lit≤ tt), (lit≤ tt, lit≤ tt), ((lit≤ tt, lit≤ tt), (lit≤ tt, lit≤ tt), ((lit≤ tt, lit≤ tt), (lit≤ tt, lit≤ tt), ((lit≤ tt, lit≤ tt), tt, ((lit≤ tt, lit≤ tt), tt, tt))))))));
  entries_suffice = lit≤ tt;
}

order : IsOrderOf overtaking (1 ∷ 2 ∷ [])
order = (answers_aside H.overtaking (1 ∷ 2 ∷ [])).0 overtaking_has_order.order

accepted : EveryRunAccepts 0 small_register (script_meaning (2 ∷ 1 ∷ [])) overtaking
accepted = (register_is_permissive ℕ 0 small_register started overtaking well_made).by_position (1 ∷ 2 ∷ []) order

pub examples_stand : ExamplesStand
examples_stand = record {
  just_started = started;
  crossed_well_made = crossed_reads_lem.well_made;
  overtaking_well_made = well_made;
  crossed_refused = λ f ke c.
      let l = (register_is_permissive ℕ 0 small_register started _ crossed_reads_lem.well_made).with_any_chooser f ke c in
      crossed_reads_lem.no_order l.0 l.1;
  overtaking_order = order;
  overtaking_accepted = accepted;
  overtaking_performed = some_from_every 0 small_register started overtaking (script_meaning (2 ∷ 1 ∷ [])) (script_lawful (2 ∷ 1 ∷ [])) accepted;
}
