-- Laws of values, one for a path of the code.
use Prim.Native.Nat.{ℕ, ◌-◌, ◌≤◌, ◌<◌}
use mathlib.Core.Path.{◌≡◌, sym, ap, ◌∙◌}
use mathlib.Core.List.{List}
use mathlib.Core.Bool.{Bool, false}
use lib.IntN.{ℤ}
use Rattle.sheet.specs.Table.{look_up}
use Rattle.sheet_rules.specs.Fields.{components_of, ports_of, members_of}
use Rattle.sheet_rules.specs.DataTypes.{data_type_of}
use Rattle.sheet_rules.proofs.DataTypes.{type_no_data, type_enumerated}
use Rattle.machine.specs.Values.{fits32, is_below, in_data_type, in_type}

-- ---- values

module _ (s : List ℕ) (t : ℕ) (z : ℤ) where
  pub of_bool : t ≡ 0 → is_below z 2 ≡ in_type s t z
  unfolding in_type in_data_type data_type_of look_up
  of_bool e = sym (ap (λ t. in_type s t z) e)

  pub of_int_lem : t ≡ 1 → fits32 z ≡ in_type s t z
  unfolding in_type in_data_type data_type_of look_up
  of_int_lem e = sym (ap (λ t. in_type s t z) e)

  pub of_component : t ≡ 2 → is_below z (components_of s) ≡ in_type s t z
  unfolding in_type in_data_type data_type_of look_up
  of_component e = sym (ap (λ t. in_type s t z) e)

  pub of_port : t ≡ 3 → is_below z (ports_of s) ≡ in_type s t z
  unfolding in_type in_data_type data_type_of look_up
  of_port e = sym (ap (λ t. in_type s t z) e)

  pub no_value : 4 ≤ t → t < 8 → false ≡ in_type s t z
  unfolding in_type in_data_type
  no_value h k = sym (ap (λ d. in_data_type s d z) (type_no_data t h k))

  pub of_member : 8 ≤ t → is_below z (members_of s (t - 8)) ≡ in_type s t z
  unfolding in_type in_data_type
  of_member h = sym (ap (λ d. in_data_type s d z) (type_enumerated t h))

-- ---- words

pub below_same : (z : ℤ) (n m : ℕ) (b : Bool) → b ≡ is_below z n → n ≡ m → b ≡ is_below z m
below_same z n m b e p = e ∙ ap (is_below z) p
