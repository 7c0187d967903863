-- What a state of a passed sheet may hold is small: numbers, values of every type, a name with its data.
use Rattle.std.specs.Prelude.{Option, Some, None}
use Rattle.sheet.specs.declared.Record.{Record}
use Prim.Native.Nat.{ℕ, ◌+◌, ◌<◌, ◌≤◌}
use mathlib.Core.Path.{◌≡◌, refl, sym}
use mathlib.Core.List.{List}
use mathlib.Core.Bool.{Bool, true, false, true≢false}
use native.Mathlib.Omega.{arith}
use lib.Dec.{ltb}
use lib.IntN.{ℤ, pos, negsuc, nat_abs}
use borrow.Author.Tests.{ltb-true, leb-true, eqb-true, lt-ltb}
use Rattle.sheet.specs.declared.Range.{Range}
use Rattle.sheet.specs.Names.{enumerated_types, names, size}
use Rattle.sheet.specs.Sheet.{count_of, record_of}
use Rattle.sheet.proofs.All.{and_first, and_second, all-at}
use Rattle.sheet.proofs.Sheet.{count_limit}
use Rattle.sheet_rules.specs.declared.Checked.TheVariants.{Passed}
use Rattle.sheet_rules.specs.Fields.{number_or0, declared_so, components_of, ports_of, members_of}
use Rattle.sheet_rules.specs.DataTypes.{DataType, bool, int, component, port, enumerated_type, no_data, data_type_of}
use Rattle.sheet_rules.specs.Shape.{enumerated_shape}
use Rattle.sheet_rules.specs.Types.{name_range}
use Rattle.sheet_rules.specs.Check.{check_of}
use Rattle.machine.specs.Values.{fits32, is_below, is_zero, in_data_type, in_type}
use Rattle.machine.specs.Valid.{data_fit, name_fits}
use Rattle.machine_passed.proofs.Records.{type_shape, components_limit, ports_limit}
use Rattle.machine_passed.proofs.Declared.{declared_true}

pub below_word : (z : ℤ) (n : ℕ) → n ≤ 4095 → is_below z n ≡ true → fits32 z ≡ true
unfolding is_below fits32
below_word (pos k) n l h = lt-ltb k 2147483648 (omega (arith, ltb-true k n h))
below_word (negsuc k) n l h = absurd (true≢false (sym h))

pub zero_word : (z : ℤ) → is_zero z ≡ true → fits32 z ≡ true
unfolding is_zero fits32
zero_word (pos k) h = lt-ltb k 2147483648 (omega (arith, eqb-true k 0 h))
zero_word (negsuc k) h = absurd (true≢false (sym h))

module _ (s : List ℕ) (ok : check_of s ≡ Passed) where
  members_limit : (k : ℕ) → members_of s k ≤ 256
  unfolding members_of number_or0 enumerated_shape
  members_limit k = go (record_of s enumerated_types k) refl
    where
      go : (f : Option Record) → record_of s enumerated_types k ≡ f → number_or0 f size ≤ 256
      go (Some r) e = leb-true _ _ (and_first _ _ (and_second _ _ (type_shape s ok k r e)))
      go None e = omega arith

  -- "Every value is in its type", and every type's values are words
  data_word : (t : DataType) (z : ℤ) → in_data_type s t z ≡ true → fits32 z ≡ true
  unfolding in_data_type
  data_word bool z h = below_word z 2 (omega arith) h
  data_word int z h = h
  data_word component z h = below_word z (components_of s) (omega (arith, components_limit s ok)) h
  data_word port z h = below_word z (ports_of s) (omega (arith, ports_limit s ok)) h
  data_word (enumerated_type k) z h = below_word z (members_of s k) (omega (arith, members_limit k)) h
  data_word no_data z h = absurd (true≢false (sym h))

  pub value_word : (t : ℕ) (z : ℤ) → in_type s t z ≡ true → fits32 z ≡ true
  unfolding in_type
  value_word t z h = data_word (data_type_of t) z h

  -- "Data fit their name's types", "surplus data are zero"
  datum_word : (g : Range) (d : ℕ → ℤ) → data_fit s g d ≡ true → (j : ℕ) → j < 4 → fits32 (d j) ≡ true
  unfolding data_fit
  datum_word g d h j l = go (ltb j g.count) (all-at 4 _ h j l)
    where
      go : (b : Bool) → ◌≡◌ {A = Bool} (elim b [ true ↦ declared_so s (g.first + j) (λ t. in_type s t (d j)) | false ↦ is_zero (d j) ]) true → fits32 (d j) ≡ true
      go true q = value_word _ (d j) (declared_true s (g.first + j) (λ t. in_type s t (d j)) q)
      go false q = zero_word (d j) q

  -- a name and its data
  pub name-words : (c : ℕ) (n : ℤ) (d : ℕ → ℤ) → name_fits s c n d ≡ true → (fits32 n ≡ true) × ((j : ℕ) → j < 4 → fits32 (d j) ≡ true)
  unfolding name_fits
  name-words c n d h = (below_word n (count_of s names) (count_limit s names) (and_first _ _ h), datum_word (name_range s (nat_abs n)) d (and_second _ _ (and_second _ _ h)))
