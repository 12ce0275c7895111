-- The two kinds keep the laws that every kind of value owes.
use Rattle.std.proofs.Common.{◌≡◌, ℕ, ◌≤◌, true, Ok, length, refl, arith, rules}
use Rattle.std.proofs.lemmas.Bool.{and_parts, leb-true, cond-true}
use Rattle.std.specs.Prelude.{nat_le}
use Rattle.values.specs.declared.records.Card.{Card}
use Rattle.values.specs.declared.records.Dial.{Dial}
use Rattle.values.specs.Forms.{read_value, written}
use Rattle.values.specs.Kinds.{card_form, dial_form, serial_fits, litres_fit, gateway_fits}
use Rattle.values.specs.ReadsBack.{fields_read_back}

---- A card

pub card_width : (v : Card) → length (card_form.fields v) ≡ card_form.width
card_width = search rules

pub card_few : card_form.width ≤ 64
card_few = search rules

pub card_reads_back : (v : Card) (first : ℕ) → card_form.inside v ≡ true → read_value card_form first (written (card_form.fields v)) ≡ Ok v
card_reads_back v first h =
    let a = and_parts (serial_fits v.serial) _ h in
    let b = and_parts (litres_fit v.litres) (gateway_fits v.gateway) a.1 in
    let s = leb-true v.serial 99999999 (and_parts (nat_le 1 v.serial) _ a.0).1 in
    let l = leb-true v.litres 999999999 (and_parts (nat_le 0 v.litres) _ b.0).1 in
    let w = leb-true v.gateway 65535 (and_parts (nat_le 1 v.gateway) _ b.1).1 in
    fields_read_back card_form first 0 card_form.blank (card_form.fields v) v (
      omega arith,
      (
        record { serial = v.serial; litres = 0; gateway = 0 },
        cond-true _ _ _ a.0,
        (
          omega arith,
          (
            record { serial = v.serial; litres = v.litres; gateway = 0 },
            cond-true _ _ _ b.0,
            (omega arith, (v, cond-true _ _ _ b.1, refl)),
          ),
        ),
      ),
    )

---- A dial

pub dial_width : (v : Dial) → length (dial_form.fields v) ≡ dial_form.width
dial_width = search rules

pub dial_few : dial_form.width ≤ 64
dial_few = search rules

pub dial_reads_back : (v : Dial) (first : ℕ) → dial_form.inside v ≡ true → read_value dial_form first (written (dial_form.fields v)) ≡ Ok v
dial_reads_back v first h =
    let p = and_parts (nat_le 0 v.number) (nat_le v.number 999999999) h in
    let t = leb-true v.number 999999999 p.1 in
    fields_read_back dial_form first 0 dial_form.blank (dial_form.fields v) v
    (omega arith, (v, cond-true _ _ _ h, refl))
