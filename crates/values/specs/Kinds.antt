-- The two kinds of value.
use Rattle.std.specs.Prelude.{ℕ, zero, suc, Bool, cond, ◌&&◌, [], ◌∷◌, Some, None, Option, nat_le}
use Rattle.values.specs.declared.records.Card.{Card}
use Rattle.values.specs.declared.records.Dial.{Dial}
use Rattle.values.specs.Forms.{Form}

-- x is one of low to high
abbrev pub within : ℕ → ℕ → ℕ → Bool
within low high x = nat_le low x && nat_le x high

---- A card: serial, reading in litres, gateway

abbrev pub serial_fits : ℕ → Bool
serial_fits x = within 1 99999999 x

abbrev pub litres_fit : ℕ → Bool
litres_fit x = within 0 999999999 x

abbrev pub gateway_fits : ℕ → Bool
gateway_fits x = within 1 65535 x

abbrev pub card_with : Card → ℕ → ℕ → Option Card
card_with v zero x = cond (serial_fits x) (Some (record { serial = x; litres = v.litres; gateway = v.gateway })) None
card_with v (suc zero) x = cond (litres_fit x) (Some (record { serial = v.serial; litres = x; gateway = v.gateway })) None
card_with v (suc (suc zero)) x = cond (gateway_fits x) (Some (record { serial = v.serial; litres = v.litres; gateway = x })) None
card_with v (suc (suc (suc i))) x = None

abbrev pub card_form : Form Card
card_form = record {
  width = 3;
  fields = λ v. v.serial ∷ (v.litres ∷ (v.gateway ∷ []));
  inside = λ v. serial_fits v.serial && (litres_fit v.litres && gateway_fits v.gateway);
  blank = record { serial = 0; litres = 0; gateway = 0 };
  with_field = card_with;
}

---- A dial: one number

abbrev pub number_fits : ℕ → Bool
number_fits x = within 0 999999999 x

abbrev pub dial_with : Dial → ℕ → ℕ → Option Dial
dial_with v zero x = cond (number_fits x) (Some (record { number = x })) None
dial_with v (suc i) x = None

abbrev pub dial_form : Form Dial
dial_form = record {
  width = 1;
  fields = λ v. v.number ∷ [];
  inside = λ v. number_fits v.number;
  blank = record { number = 0 };
  with_field = dial_with;
}
