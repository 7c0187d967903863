-- Laws of tests and of types, one for a path of the code.
use Rattle.std.specs.Prelude.{Option, Some, None}
use Prim.Native.Nat.{ℕ, ◌+◌, ◌-◌, ◌≤◌, ◌<◌}
use mathlib.Core.Path.{◌≡◌, refl, sym, ap, ◌∙◌}
use mathlib.Core.List.{List}
use mathlib.Core.Bool.{Bool, true, false, not}
use native.Mathlib.Omega.{arith}
use borrow.Author.Tests.{lt-ltb, le-ltb, eq-eqb, ne_eqb, not-true, not-false}
use Rattle.sheet.specs.declared.Record.{Record}
use Rattle.sheet.specs.Table.{look_up}
use Rattle.sheet.specs.Names.{range}
use Rattle.sheet.specs.Sheet.{record_of}
use Rattle.sheet_rules.specs.declared.Typed.{Typed}
use Rattle.sheet_rules.specs.declared.Typed.TheVariants.{Wrong}
use Rattle.sheet_rules.specs.Forms.{literal_of, called_body}
use Rattle.sheet_rules.specs.Types.{given, written_type, literal_type, variable_at, name_range, parameters_of}

pub given_false : (b : Bool) (t : Typed) → b ≡ false → Wrong ≡ given b t
unfolding given
given_false b t e = rw e refl

pub given_true_lem : (b : Bool) (t : Typed) → b ≡ true → t ≡ given b t
unfolding given
given_true_lem b t e = rw e refl

-- a test's negation was taken, or passed
pub no : {a b : Bool} → a ≡ b → not a ≡ true → b ≡ false
no e h = sym e ∙ not-true _ h

pub so : {a b : Bool} → a ≡ b → not a ≡ false → b ≡ true
so e h = sym e ∙ not-false _ h

module _ (r : Record) where
  pub literal_1 : r.f0 ≡ 1 → 0 ≡ literal_type r
  unfolding literal_type written_type literal_of look_up
  literal_1 e = sym (ap (λ n. written_type r (literal_of n)) e)

  pub literal_2 : r.f0 ≡ 2 → 1 ≡ literal_type r
  unfolding literal_type written_type literal_of look_up
  literal_2 e = sym (ap (λ n. written_type r (literal_of n)) e)

  pub literal_3 : r.f0 ≡ 3 → 8 + r.f1 ≡ literal_type r
  unfolding literal_type written_type literal_of look_up
  literal_3 e = sym (ap (λ n. written_type r (literal_of n)) e)

  pub literal_5 : r.f0 ≡ 5 → 3 ≡ literal_type r
  unfolding literal_type written_type literal_of look_up
  literal_5 e = sym (ap (λ n. written_type r (literal_of n)) e)

module _ (c b : Record) (place n : ℕ) where
  pub variable_0 : place ≡ 0 → c.f0 + n ≡ variable_at c b place n
  unfolding variable_at
  variable_0 e = rw (variable_at, e) refl

  pub variable_1 : place ≡ 1 → c.f2 + n ≡ variable_at c b place n
  unfolding variable_at
  variable_1 e = rw (variable_at, ne_eqb place 0 (λ z. omega arith), eq-eqb _ 1 e) refl

  pub variable_parameter : (place ≡ 0 → ⊥) → (place ≡ 1 → ⊥) → n < b.f4 → b.f3 + n ≡ variable_at c b place n
  unfolding variable_at
  variable_parameter h k l = rw (variable_at, ne_eqb _ _ h, ne_eqb _ _ k, lt-ltb _ _ l) refl

  pub variable_local : (place ≡ 0 → ⊥) → (place ≡ 1 → ⊥) → b.f4 ≤ n → b.f5 + (n - b.f4) ≡ variable_at c b place n
  unfolding variable_at
  variable_local h k l = rw (variable_at, ne_eqb _ _ h, ne_eqb _ _ k, le-ltb _ _ l) refl

pub range-present : (s : List ℕ) (n : ℕ) (r : Record) → record_of s 3 n ≡ Some r → range r.f0 r.f1 ≡ name_range s n
unfolding name_range
range-present s n r e = rw (name_range, e) refl

pub range_absent : (s : List ℕ) (n : ℕ) → record_of s 3 n ≡ None → range 0 0 ≡ name_range s n
unfolding name_range
range_absent s n e = rw (name_range, e) refl

pub parameters-present : (f : Option Record) (b : Record) → f ≡ Some b → range b.f3 b.f4 ≡ parameters_of f
unfolding parameters_of
parameters-present f b e = rw e refl

pub parameters_absent : (f : Option Record) → f ≡ None → range 0 0 ≡ parameters_of f
unfolding parameters_of
parameters_absent f e = rw e refl

pub called_past : (s : List ℕ) (c r : Record) → c.f5 ≤ r.f1 → None ≡ called_body s c r
unfolding called_body
called_past s c r h = rw (called_body, le-ltb r.f1 c.f5 h) refl

pub called-there : (s : List ℕ) (c r : Record) → r.f1 < c.f5 → record_of s 5 (c.f4 + r.f1) ≡ called_body s c r
unfolding called_body
called-there s c r h = rw (called_body, lt-ltb r.f1 c.f5 h) refl
