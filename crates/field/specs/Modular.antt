-- The integers modulo 251.
use Rattle.std.specs.Prelude.{ℕ, ◌+◌, ◌-◌, ◌*◌, ◌%◌}
use Rattle.field.specs.Meaning.{FieldMeaning, reciprocal}

abbrev pub times_modulo : ℕ → ℕ → ℕ
times_modulo a b = a * b % 251

abbrev pub modulo251 : FieldMeaning
modulo251 = record {
  size = 251;
  sum = λ a b. (a + b) % 251;
  product = times_modulo;
  negative = λ a. (251 - a) % 251;
  inverse = reciprocal 251 times_modulo;
}
