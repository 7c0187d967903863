-- Laws of fields by number and of tests on records.
use Rattle.std.specs.Prelude.{Option, Some, None}
use Prim.Native.Nat.{ℕ, ◌+◌, ◌≤◌}
use mathlib.Core.Path.{◌≡◌, refl}
use mathlib.Core.List.{[], ◌∷◌}
use mathlib.Core.Bool.{Bool, true, false}
use native.Mathlib.Numerals.{add-one}
use lib.ListN.{get_or-eq_default}
use Rattle.sheet.specs.declared.Record.{Record}
use Rattle.sheet.proofs.All.{true_false}
use Rattle.sheet_rules.specs.Fields.{field_of, holds, number_or0, sum_below}

pub field_past : (r : Record) (i : ℕ) → 8 ≤ i → field_of r i ≡ 0
unfolding field_of
field_past r i h = get_or-eq_default (r.f0 ∷ r.f1 ∷ r.f2 ∷ r.f3 ∷ r.f4 ∷ r.f5 ∷ r.f6 ∷ r.f7 ∷ []) 0 h

pub holds-present : (f : Option Record) (r : Record) (p : Record → Bool) → f ≡ Some r → holds f p ≡ p r
unfolding holds
holds-present f r p e = rw e refl

pub holds_absent : (f : Option Record) (p : Record → Bool) → f ≡ None → holds f p ≡ false
unfolding holds
holds_absent f p e = rw e refl

-- a test that holds is of a record that is there
pub held : (f : Option Record) (p : Record → Bool) → holds f p ≡ true → (r : Record) × (f ≡ Some r) × (p r ≡ true)
unfolding holds
held (Some r) p e = (r, refl, e)
held None p e = absurd (true_false e refl)

pub number-present : (f : Option Record) (r : Record) (g : Record → ℕ) → f ≡ Some r → number_or0 f g ≡ g r
unfolding number_or0
number-present f r g e = rw e refl

pub number_absent : (f : Option Record) (g : Record → ℕ) → f ≡ None → number_or0 f g ≡ 0
unfolding number_or0
number_absent f g e = rw e refl

pub sum_more : (n : ℕ) (f : ℕ → ℕ) → sum_below (n + 1) f ≡ sum_below n f + f n
unfolding sum_below
sum_more n f = rw add-one refl
