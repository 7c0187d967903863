-- The default cells of variables put into a state, one behind the other.
use Rattle.std.specs.Prelude.{Some}
use Prim.Native.Nat.{ℕ, zero, suc, ◌+◌, ◌*◌, ◌<◌, ◌≤◌}
use mathlib.Core.Path.{◌≡◌, refl, sym, ap, ◌∙◌}
use mathlib.Core.List.{List, ◌∷◌, ◌++◌, append_assoc, append-nil}
use native.Mathlib.Omega.{arith}
use native.Mathlib.Numerals.{add-one}
use lib.ListN.{length, replicate, length-append}
use lib.IntN.{ℤ, pos}
use Rattle.sheet.specs.declared.Record.{Record}
use Rattle.sheet.specs.Names.{chart_variables}
use Rattle.sheet_rules.specs.declared.Checked.TheVariants.{Passed}
use Rattle.sheet_rules.specs.Fields.{sum_below, type_at, externals_of, elements_of}
use Rattle.sheet_rules.specs.Indices.{cells_taken, cells_before}
use Rattle.sheet_rules.specs.Bindings.{chart_bound, first_binding}
use Rattle.sheet_rules.specs.Shape.{cells_bound, cells_of}
use Rattle.sheet_rules.specs.Check.{check_of}
use Rattle.machine.specs.Values.{default_of}
use Rattle.machine.specs.State.{places, cell_at, place_at, state_length, put_words}
use Rattle.machine.specs.Play.{default_cell, alike, default_cells, element_cells, cells_from, default_state}
use Rattle.machine_states.proofs.Elements.{cells-none, cells_next}
use Rattle.engine_store.proofs.Puts.{put_none, put_more, put_zeros}
use Rattle.engine_cells.proofs.Laws.{bound-chart, bound-inside}

-- ---- cells alike

-- a cell with word z
abbrev pub cell_of_word : ℤ → List ℤ
cell_of_word z = z ∷ replicate 7 (pos 0)

alike_length : (k : ℕ) (z : ℤ) → length (alike k (cell_of_word z)) ≡ 8 * k
unfolding alike
alike_length zero z = refl
alike_length (suc k) z = omega (arith, length-append (cell_of_word z) (alike k (cell_of_word z)), alike_length k z)

alike_more : (k : ℕ) (ws : List ℤ) → alike (suc k) ws ≡ alike k ws ++ ws
unfolding alike
alike_more zero ws = append-nil ws
alike_more (suc k) ws = ap (λ (r : List ℤ). ws ++ r) (alike_more k ws) ∙ sym (append_assoc ws (alike k ws) ws)

module _ (st₀ : List ℤ) (cell : ℕ) (z : ℤ) where
  pub alike-none : st₀ ≡ put_words st₀ (cell_at cell) (alike 0 (cell_of_word z))
  unfolding alike
  alike-none = sym (put_none st₀ (cell_at cell))

  pub alike_next : (k at : ℕ) (st st' : List ℤ) → cell_at (cell + k) ≤ length st₀ → at ≡ cell_at (cell + k) → st ≡ put_words st₀ (cell_at cell) (alike k (cell_of_word z)) → st' ≡ put_words st at (cell_of_word z) → st' ≡ put_words st₀ (cell_at cell) (alike (k + 1) (cell_of_word z))
  unfolding cell_at
  alike_next k at st st' l e h w =
      let n = alike_length k z in
      let more : alike (k + 1) (cell_of_word z) ≡ alike k (cell_of_word z) ++ cell_of_word z = rw add-one (alike_more k (cell_of_word z)) in
      put_more st₀ (cell_at cell) (alike k (cell_of_word z)) (cell_of_word z) (omega arith) st st' at (omega arith) h w ∙ ap (put_words st₀ (cell_at cell)) (sym more)

  pub alike_all : (n k : ℕ) (st : List ℤ) → k ≤ n → n ≤ k → st ≡ put_words st₀ (cell_at cell) (alike k (cell_of_word z)) → st ≡ put_words st₀ (cell_at cell) (alike n (cell_of_word z))
  alike_all n k st l m h = let e : k ≡ n = omega arith in h ∙ ap (λ (k : ℕ). put_words st₀ (cell_at cell) (alike k (cell_of_word z))) e

-- ---- the variables of a chart

module _ (s : List ℕ) where
  -- the cells of declaration d
  abbrev own : ℕ → List ℤ
  own d = alike (cells_taken s d) (default_cell s (type_at s d))

  own_length : (d : ℕ) → length (own d) ≡ 8 * cells_taken s d
  unfolding default_cell
  own_length d = alike_length (cells_taken s d) (default_of s (type_at s d))

  cells_more : (n d : ℕ) → default_cells s (suc n) d ≡ default_cells s n d ++ own (d + n)
  unfolding default_cells
  cells_more zero d = let e : d + 0 ≡ d = omega arith in rw e (append-nil (own d))
  cells_more (suc n) d = let e : d + suc n ≡ suc d + n = omega arith in rw e (ap (λ (r : List ℤ). own d ++ r) (cells_more n (suc d)) ∙ sym (append_assoc (own d) (default_cells s n (suc d)) (own (suc d + n))))

  module _ (c : Record) where
    cells_length : (j : ℕ) → length (default_cells s j (chart_variables c).first) ≡ 8 * cells_before s c j
    unfolding default_cells
    cells_length zero = omega (arith, cells-none s c)
    cells_length (suc j) =
        let d : ℕ = (chart_variables c).first in
        omega (arith, ap length (cells_more j d), length-append (default_cells s j d) (own (d + j)), own_length (d + j), cells_length j, cells_next s c j)

    module _ (st₀ : List ℤ) (cell : ℕ) where
      -- the cells of the chart's first j variables are put, from a cell on
      abbrev pub Written : List ℤ → ℕ → Type 0
      Written st j = st ≡ put_words st₀ (cell_at cell) (default_cells s j (chart_variables c).first)

      pub written_none : Written st₀ 0
      unfolding default_cells
      written_none = sym (put_none st₀ (cell_at cell))

      pub written_more_lem : (st st' : List ℤ) (j t x next : ℕ) (z : ℤ) → cell_at (cell + cells_before s c j) ≤ length st₀ →
          t ≡ type_at s ((chart_variables c).first + j) → z ≡ default_of s t → x ≡ cells_taken s ((chart_variables c).first + j) → next ≡ cell + cells_before s c j →
          st' ≡ put_words st (cell_at next) (alike x (cell_of_word z)) → Written st j → Written st' (j + 1)
      unfolding default_cell cell_at
      written_more_lem st st' j t x next z l p q u a w h =
          let d : ℕ = (chart_variables c).first in
          let n = cells_length j in
          let same : alike x (cell_of_word z) ≡ own (d + j) = rw (q, p, u) refl in
          let more : default_cells s (j + 1) d ≡ default_cells s j d ++ own (d + j) = rw add-one (cells_more j d) in
          put_more st₀ (cell_at cell) (default_cells s j d) (alike x (cell_of_word z)) (omega arith) st st' (cell_at next) (omega arith) h w
          ∙ ap (put_words st₀ (cell_at cell)) (ap (λ (r : List ℤ). default_cells s j d ++ r) same ∙ sym more)

      pub written_all : (st : List ℤ) (j next : ℕ) → j ≡ (chart_variables c).count → next ≡ cell + cells_before s c j → Written st j →
          (next ≡ cell + cells_before s c (chart_variables c).count) × Written st (chart_variables c).count
      written_all st j next e q h = (q ∙ ap (λ (k : ℕ). cell + cells_before s c k) e, h ∙ ap (λ (k : ℕ). put_words st₀ (cell_at cell) (default_cells s k (chart_variables c).first)) e)

-- ---- elements

-- the cells of the first i elements are put
pub record Filled (s : List ℕ) (st₀ st : List ℤ) (cell i : ℕ) : Type 0 where
  pub whole : length st₀ ≡ state_length s
  pub words : st ≡ put_words st₀ (cell_at 0) (cells_from s i (externals_of s))
  pub before : length (cells_from s i (externals_of s)) ≡ 8 * cell

module _ (s : List ℕ) (ok : check_of s ≡ Passed) where
  elements_more : (n e : ℕ) → cells_from s (suc n) e ≡ cells_from s n e ++ element_cells s (e + n)
  unfolding cells_from
  elements_more zero e = let q : e + 0 ≡ e = omega arith in rw q (append-nil (element_cells s e))
  elements_more (suc n) e = let q : e + suc n ≡ suc e + n = omega arith in rw q (ap (λ (r : List ℤ). element_cells s e ++ r) (elements_more n (suc e)) ∙ sym (append_assoc (element_cells s e) (cells_from s n (suc e)) (element_cells s (suc e + n))))

  module _ (st₀ : List ℤ) where
    pub filled_none : length st₀ ≡ state_length s → Filled s st₀ st₀ 0 0
    unfolding cells_from
    filled_none w = record { whole = w; words = sym (put_none st₀ (cell_at 0)); before = refl }

    pub filled_more : (st st' : List ℤ) (cell next i k : ℕ) (c : Record) → i < elements_of s → k ≡ first_binding s i → chart_bound s k ≡ Some c →
        cell ≡ sum_below i (cells_bound s) → st' ≡ put_words st (cell_at cell) (default_cells s (chart_variables c).count (chart_variables c).first) →
        next ≡ cell + cells_before s c (chart_variables c).count → Filled s st₀ st cell i → Filled s st₀ st' next (i + 1)
    unfolding element_cells cell_at state_length place_at
    filled_more st st' cell next i k c l at p q h x b =
        let done : List ℤ = cells_from s i (externals_of s) in
        let new : List ℤ = default_cells s (chart_variables c).count (chart_variables c).first in
        let inside = bound-inside s ok i k l at c p cell q in
        let own : element_cells s (externals_of s + i) ≡ new = rw (element_cells, bound-chart s ok i k l at c p) refl in
        let more : cells_from s (i + 1) (externals_of s) ≡ done ++ new = rw add-one (elements_more i (externals_of s)) ∙ ap (λ (r : List ℤ). done ++ r) own in
        record {
          whole = b.whole;
          words = put_more st₀ (cell_at 0) done new (omega (arith, b.whole, b.before)) st st' (cell_at cell) (omega (arith, b.before)) b.words h ∙ ap (put_words st₀ (cell_at 0)) (sym more);
          before = omega (arith, ap length more, length-append done new, cells_length s c (chart_variables c).count, b.before);
        }

    -- into a state all zero
    pub filled_all : (st : List ℤ) (n cell i : ℕ) → n ≡ state_length s → st₀ ≡ replicate n (pos 0) → i ≤ elements_of s → elements_of s ≤ i → cell ≡ sum_below i (cells_bound s) → Filled s st₀ st cell i → st ≡ default_state s
    unfolding default_state cells_of cell_at state_length place_at
    filled_all st n cell i w z l m q b =
        let done : List ℤ = cells_from s i (externals_of s) in
        let e : i ≡ elements_of s = omega arith in
        let f : n ≡ 8 + (length done + 8 * places) = omega (arith, b.before, ap (λ (k : ℕ). sum_below k (cells_bound s)) e) in
        b.words
        ∙ ap (λ (r : List ℤ). put_words r (cell_at 0) done) (z ∙ ap (λ (k : ℕ). replicate k (pos 0)) f)
        ∙ put_zeros 8 (8 * places) done
        ∙ ap (λ (k : ℕ). replicate 8 (pos 0) ++ cells_from s k (externals_of s) ++ replicate (8 * places) (pos 0)) e
