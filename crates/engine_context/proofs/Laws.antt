-- The numbers of a running body, and where an index leads.
use Rattle.std.specs.Prelude.{Some, None}
use Prim.Native.Nat.{ℕ, ◌+◌, ◌-◌, ◌<◌, ◌≤◌}
use mathlib.Core.Path.{◌≡◌, refl, sym, ap, ◌∙◌}
use mathlib.Core.List.{List}
use mathlib.Core.Bool.{Bool, true, false, not}
use native.Mathlib.Omega.{arith}
use native.Mathlib.Decide.{ℕ_discrete}
use lib.ListN.{length, get_or, set}
use lib.Seq.{get_or-set_same, get_or-set_other}
use lib.IntN.{ℤ, nat_abs}
use borrow.Author.Tests.{not-true, not-false}
use Rattle.sheet_rules.specs.Shape.{most_cells}
use Rattle.machine.specs.Values.{is_below}
use Rattle.machine.specs.State.{cell_at}
use Rattle.machine_states.proofs.Parts.{below_abs}
use Rattle.engine_context.specs.Context.{cell_in, Spans, leads_to}

-- ---- the numbers: five, then its element's part of the table, of which n are copied

module _ (w : List ℕ) (n x : ℕ) where
  pub copied-head : (m : ℕ) → m < 5 → get_or (set w (5 + n) x) m 0 ≡ get_or w m 0
  copied-head m l = get_or-set_other w (5 + n) m x 0 (λ q. omega arith)

  pub copied_more : (f : ℕ → ℕ) → length w ≡ 38 → n < 33 → x ≡ f n → ((m : ℕ) → m < n → get_or w (5 + m) 0 ≡ f m) → (m : ℕ) → m < n + 1 → get_or (set w (5 + n) x) (5 + m) 0 ≡ f m
  copied_more f s l e h m k = elim (ℕ_discrete m n) [
    | yes q ↦ rw q (get_or-set_same w (5 + n) x 0 (omega arith) ∙ e)
    | no q ↦ get_or-set_other w (5 + n) (5 + m) x 0 (λ r. q (omega arith)) ∙ h m (omega arith)
  ]

-- ---- an index, by the test that compares it

module _ (w : List ℕ) (n : ℕ) (i : ℤ) (t : Bool) (test : t ≡ is_below i (cell_in w (n + 1) - cell_in w n)) where
  pub goes_outside : not t ≡ true → None ≡ leads_to w n i
  unfolding leads_to
  goes_outside h = rw (leads_to, sym test ∙ not-true t h) refl

  pub goes_below : not t ≡ false → is_below i (cell_in w (n + 1) - cell_in w n) ≡ true
  goes_below h = sym test ∙ not-false t h

  module _ (h : not t ≡ false) (k : ℕ) (e : k ≡ nat_abs i) where
    pub goes_inside : (at : ℕ) → at ≡ cell_at (cell_in w n + k) → Some at ≡ leads_to w n i
    unfolding leads_to
    goes_inside at q = ap Some (q ∙ ap (λ (k : ℕ). cell_at (cell_in w n + k)) e) ∙ rw (leads_to, goes_below h) refl

    -- the cell is one of the few
    pub goes_few : Spans w n → cell_in w n + k ≤ most_cells
    goes_few l = omega (arith, below_abs i (cell_in w (n + 1) - cell_in w n) (goes_below h), l.rise, l.few)
