-- Laws of the types of forms that name a variable, one for a path of the code.
use Prim.Native.Nat.{ℕ, ◌+◌}
use mathlib.Core.Path.{◌≡◌, sym, ap, ◌∙◌}
use mathlib.Core.List.{List}
use mathlib.Core.Bool.{Bool, true, false, not}
use lib.Dec.{eqb}
use borrow.Author.Tests.{eq-eqb, ne_eqb}
use Rattle.sheet.specs.declared.Record.{Record}
use Rattle.sheet.specs.Names.{is_clock}
use Rattle.sheet.proofs.All.{and-true, and-false, false-and}
use Rattle.sheet_rules.specs.declared.Typed.{Typed}
use Rattle.sheet_rules.specs.declared.Typed.TheVariants.{Expression, Statement, Wrong}
use Rattle.sheet_rules.specs.Fields.{type_at}
use Rattle.sheet_rules.specs.Indices.{index_at, is_plain}
use Rattle.sheet_rules.specs.Types.{is_of, variable_at, read_type, clock_type, assign_type, clock_act_type}
use Rattle.sheet_types.proofs.Laws.{given_false, given_true_lem, no, so}

-- the variable that a node reads or assigns: a is whether it is a plain one
module _ (s : List ℕ) (c b r : Record) (d : ℕ) (p : d ≡ variable_at c b r.f1 r.f2) (a : Bool) (o : a ≡ is_plain (index_at s d)) where
  plain_here : a ≡ is_plain (index_at s (variable_at c b r.f1 r.f2))
  plain_here = o ∙ ap (λ d. is_plain (index_at s d)) p

  pub array_read : not a ≡ true → Wrong ≡ read_type s c b r
  unfolding read_type
  array_read h = given_false _ _ (and-false _ _ (no plain_here h))

  pub array_assigned : (x : Typed) → not a ≡ true → Wrong ≡ assign_type s c b r x
  unfolding assign_type
  array_assigned x h = given_false _ _ (and-false _ _ (false-and _ _ (no plain_here h)))

module _ (s : List ℕ) (c b r : Record) (d t : ℕ) (k : Bool) (p : d ≡ variable_at c b r.f1 r.f2) (q : t ≡ type_at s d) (e : k ≡ is_clock t) where
  read_here : t ≡ type_at s (variable_at c b r.f1 r.f2)
  read_here = q ∙ ap (type_at s) p

  pub clock-read : k ≡ true → Wrong ≡ read_type s c b r
  unfolding read_type
  clock-read h = given_false _ _ (false-and _ _ (ap not (sym (ap is_clock read_here) ∙ sym e ∙ h)))

  pub is_read : (a : Bool) → a ≡ is_plain (index_at s d) → k ≡ false → not a ≡ false → Expression t ≡ read_type s c b r
  unfolding read_type
  is_read a o h i = ap Expression read_here ∙ given_true_lem _ _ (and-true _ _ (ap not (sym (ap is_clock read_here) ∙ sym e ∙ h)) (so (plain_here s c b r d p a o) i))

pub to_parameter : (s : List ℕ) (c b r : Record) (x : Typed) → r.f1 ≡ 0 → Wrong ≡ assign_type s c b r x
unfolding assign_type
to_parameter s c b r x h = given_false _ _ (false-and _ _ (ap not (eq-eqb _ 0 h)))

module _ (s : List ℕ) (c b r : Record) (x : Typed) (d t : ℕ) (k : Bool) (p : d ≡ variable_at c b r.f1 r.f2) (q : t ≡ type_at s d) (e : k ≡ is_of x t) where
  assigned_here : k ≡ is_of x (type_at s (variable_at c b r.f1 r.f2))
  assigned_here = e ∙ ap (is_of x) (q ∙ ap (type_at s) p)

  pub not_its_type : not k ≡ true → Wrong ≡ assign_type s c b r x
  unfolding assign_type
  not_its_type h = given_false _ _ (and-false _ _ (and-false _ _ (no assigned_here h)))

  pub assigns : (a : Bool) → a ≡ is_plain (index_at s d) → (r.f1 ≡ 0 → ⊥) → not a ≡ false → not k ≡ false → Statement ≡ assign_type s c b r x
  unfolding assign_type
  assigns a o n i h = given_true_lem _ _ (and-true _ _ (ap not (ne_eqb _ 0 n)) (and-true _ _ (so (plain_here s c b r d p a o) i) (so assigned_here h)))

-- ---- clocks

module _ (s : List ℕ) (c r : Record) (t : ℕ) (q : t ≡ type_at s (c.f2 + r.f1)) where
  pub not_timer : r.f0 ≡ 38 → (t ≡ 4 → ⊥) → Wrong ≡ clock_act_type s c r
  unfolding clock_act_type
  not_timer h n = given_false _ _ (rw (eq-eqb _ 38 h) (ap (λ u. eqb u 4) (sym q) ∙ ne_eqb _ 4 n))

  pub timer_starts : r.f0 ≡ 38 → t ≡ 4 → Statement ≡ clock_act_type s c r
  unfolding clock_act_type
  timer_starts h n = given_true_lem _ _ (rw (eq-eqb _ 38 h) (eq-eqb _ 4 (sym q ∙ n)))

module _ (s : List ℕ) (c r : Record) (t : ℕ) (k : Bool) (q : t ≡ type_at s (c.f2 + r.f1)) (e : k ≡ is_clock t) where
  clock_here : k ≡ is_clock (type_at s (c.f2 + r.f1))
  clock_here = e ∙ ap is_clock q

  pub not_stopped : (r.f0 ≡ 38 → ⊥) → not k ≡ true → Wrong ≡ clock_act_type s c r
  unfolding clock_act_type
  not_stopped n h = given_false _ _ (rw (ne_eqb _ 38 n) (no clock_here h))

  pub stops : (r.f0 ≡ 38 → ⊥) → not k ≡ false → Statement ≡ clock_act_type s c r
  unfolding clock_act_type
  stops n h = given_true_lem _ _ (rw (ne_eqb _ 38 n) (so clock_here h))

  pub not_clock : not k ≡ true → Wrong ≡ clock_type s c r
  unfolding clock_type
  not_clock h = given_false _ _ (no clock_here h)

  pub clock_active : not k ≡ false → r.f0 ≡ 17 → Expression 0 ≡ clock_type s c r
  unfolding clock_type
  clock_active h n = rw (eq-eqb _ 17 n) (given_true_lem _ _ (so clock_here h))

  pub clock-value : not k ≡ false → (r.f0 ≡ 17 → ⊥) → Expression 1 ≡ clock_type s c r
  unfolding clock_type
  clock-value h n = rw (ne_eqb _ 17 n) (given_true_lem _ _ (so clock_here h))
