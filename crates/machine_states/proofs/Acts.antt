-- Each act of a statement leaves a state of the sheet.
use Rattle.std.specs.Prelude.{Some}
use Prim.Native.Nat.{ℕ, ◌+◌, ◌<◌}
use mathlib.Core.Path.{◌≡◌, refl}
use mathlib.Core.List.{List, ◌∷◌}
use mathlib.Core.Bool.{Bool, true, false}
use lib.ListN.{get_or, replicate}
use lib.Dec.{eqb}
use lib.IntN.{ℤ, pos}
use lib.Signed.{le_z}
use Rattle.sheet.specs.declared.Record.{Record}
use Rattle.sheet.specs.Names.{internal, chart_variables, timer_type, is_clock}
use Rattle.sheet_rules.specs.Fields.{type_at}
use Rattle.sheet_rules.specs.Indices.{cells_taken}
use Rattle.machine.specs.Values.{fits32, chart_of}
use Rattle.machine.specs.State.{cell_of}
use Rattle.machine.specs.Valid.{name_fits, reaction_awaits, OfSheet}
use Rattle.machine.specs.Run.{armed, clock_set}
use Rattle.machine_states.proofs.Kept.{cell_put}
use Rattle.machine_states.proofs.Clocks.{stopped_fits, started-fits, armed-fits, armed-value}

-- the variable j of element e
module _ (s : List ℕ) (st : List ℤ) (o : OfSheet s st) (e : ℕ) (c : Record) (p : chart_of s e ≡ Some c) (j : ℕ) (m : j < (chart_variables c).count) (has : 0 < cells_taken s ((chart_variables c).first + j)) where
  abbrev cell : ℕ
  cell = cell_of s e c j 0

  abbrev kind : ℕ
  kind = type_at s ((chart_variables c).first + j)

  pub armed_kept : is_clock kind ≡ true → eqb kind timer_type ≡ false → (period : ℤ) → fits32 period ≡ true → (n : ℕ) (zs : List ℤ) → name_fits s internal (pos n) (λ j. get_or zs j (pos 0)) ≡ true → reaction_awaits s e (pos n) ≡ true → (l : ℕ) (lo : List ℤ) → OfSheet s (armed cell kind period n zs l st lo).st
  unfolding armed
  armed_kept k t period f n zs h a l lo = go (le_z (pos 1) period) refl
    where
      go : (b : Bool) → le_z (pos 1) period ≡ b → OfSheet s (armed cell kind period n zs l st lo).st
      go true q = rw (armed, q) (cell_put s st o e c p j m 0 has _ refl (armed-fits s e kind k t _ period n zs (armed-value kind period f t q) h a))
      go false q = rw (armed, q) o

  pub stopped_kept : is_clock kind ≡ true → (l : ℕ) (lo : List ℤ) → OfSheet s (clock_set cell (pos 0) l st lo).st
  unfolding clock_set
  stopped_kept k l lo = cell_put s st o e c p j m 0 has (pos 0 ∷ replicate 7 (pos 0)) refl (stopped_fits s e kind k)

  pub started-kept : kind ≡ timer_type → (l : ℕ) (lo : List ℤ) → OfSheet s (clock_set cell (pos 1) l st lo).st
  unfolding clock_set
  started-kept k l lo = cell_put s st o e c p j m 0 has (pos 1 ∷ replicate 7 (pos 0)) refl (started-fits s e kind k)
