-- Every word of a state of a passed sheet fits 32 bits.
use Rattle.std.specs.Prelude.{Some}
use Prim.Native.Nat.{ℕ, ◌+◌, ◌*◌, ◌-◌, ◌/◌, ◌%◌, ◌<◌, ◌≤◌}
use mathlib.Core.Path.{◌≡◌, refl, sym, ap, subst, ◌∙◌}
use mathlib.Core.List.{List}
use mathlib.Core.Bool.{true}
use native.Mathlib.Omega.{arith}
use native.Mathlib.Decide.{dec_lt}
use lib.ListN.{length, get_or-eq_default}
use lib.IntN.{ℤ, pos}
use Rattle.sheet.specs.declared.Record.{Record}
use Rattle.sheet.specs.Names.{chart_variables}
use Rattle.sheet_rules.specs.declared.Checked.TheVariants.{Passed}
use Rattle.sheet_rules.specs.Fields.{sum_below, externals_of, elements_of}
use Rattle.sheet_rules.specs.Indices.{cells_taken, cells_before}
use Rattle.sheet_rules.specs.Shape.{cells_bound, cells_of}
use Rattle.sheet_rules.specs.Check.{check_of}
use Rattle.sheet_rules.proofs.Sums.{sum_within}
use Rattle.machine.specs.Values.{fits32, chart_of, first_cell}
use Rattle.machine.specs.State.{places, cell_at, cell_of, place_at, state_length, word_of, waiting, telegram_of}
use Rattle.machine.specs.Valid.{OfSheet}
use Rattle.machine_passed.proofs.Charts.{element-chart, number_bound, bound-element}
use Rattle.machine_states.proofs.Elements.{element-count}
use Rattle.machine_states.proofs.Parts.{is_counted_lem, head_zero, cell_of_lem, telegram_of_lem, unused_of}
use Rattle.machine_words.specs.Words.{Words}
use Rattle.machine_words.proofs.Values.{below_word}
use Rattle.machine_words.proofs.Rows.{Row, zero_row, first_rest, cell_row, telegram_row}

-- the row of eight that a number lies in, from n on
row_within : (n i : ℕ) → n ≤ i → (m : ℕ) × (k : ℕ) × (k < 8) × (n + 8 * m + k ≡ i)
row_within n i l = ((i - n) / 8, (i - n) % 8, omega arith, omega arith)

module _ (s : List ℕ) (ok : check_of s ≡ Passed) (st : List ℤ) (o : OfSheet s st) where
  head_row : Row st 0
  head_row = first_rest st 0 (below_word (word_of st 0) (places + 1) (omega arith) (is_counted_lem s st o)) (zero_row st 0 1 (head_zero s st o))

  -- cell i of an element
  element_row : (e : ℕ) (c : Record) → chart_of s e ≡ Some c → (i : ℕ) → i < cells_bound s (e - externals_of s) → Row st (cell_at (first_cell s e + i))
  unfolding cells_before cell_of
  element_row e c p i l =
      let v = sum_within (λ j. cells_taken s ((chart_variables c).first + j)) (chart_variables c).count i (omega (arith, element-count s e c p)) in
      let at : first_cell s e + cells_before s c v.0 + v.1 ≡ first_cell s e + i = omega (arith, v.4) in
      subst (λ n. Row st (cell_at n)) at (cell_row s ok st _ e _ (cell_of_lem s st o e c p v.0 v.2 v.1 v.3))

  -- cell i of the state
  cells_row_lem : (i : ℕ) → i < cells_of s → Row st (cell_at i)
  unfolding cells_of first_cell
  cells_row_lem i l =
      let r = sum_within (cells_bound s) (elements_of s) i l in
      let e : ℕ = externals_of s + r.0 in
      let x = bound-element s ok e (number_bound s r.0 r.2) in
      let number : e - externals_of s ≡ r.0 = omega arith in
      let at : first_cell s e + r.1 ≡ i = ap (λ n. sum_below n (cells_bound s) + r.1) number ∙ r.4 in
      subst (λ n. Row st (cell_at n)) at (element_row e x.1 (element-chart s e x.0 x.1 x.2) r.1 (subst (λ n. r.1 < cells_bound s n) (sym number) r.3))

  -- a telegram that waits, or a place that isn't used
  place_row : (j : ℕ) → j < places → Row st (place_at s j)
  unfolding telegram_of
  place_row j l = elim (dec_lt j (waiting st)) [
    | yes q ↦ telegram_row s ok st (place_at s j) (telegram_of_lem s st o j q)
    | no q ↦ (λ k m. zero_row st (place_at s j) 0 (unused_of s st o j (omega arith) l) k (omega arith) m)
  ]

  past_end : (i : ℕ) → length st ≤ i → fits32 (word_of st i) ≡ true
  unfolding word_of fits32
  past_end i l = subst (λ z. fits32 z ≡ true) (sym (get_or-eq_default st (pos 0) l)) refl

  in_row : (at : ℕ) → Row st at → (k i : ℕ) → k < 8 → at + k ≡ i → fits32 (word_of st i) ≡ true
  in_row at r k i l e = subst (λ i. fits32 (word_of st i) ≡ true) e (r k l)

  pub of_sheet-words : Words st
  unfolding cell_at place_at state_length
  of_sheet-words i = elim (dec_lt i 8) [
    | yes q ↦ in_row 0 head_row i i q (omega arith)
    | no q ↦ elim (dec_lt i (place_at s 0)) [
      | yes a ↦ (let r = row_within 8 i (omega arith) in let e = r.3 in let l = r.2 in in_row (cell_at r.0) (cells_row_lem r.0 (omega arith)) r.1 i l e)
      | no a ↦ elim (dec_lt i (state_length s)) [
        | yes b ↦ (let r = row_within (place_at s 0) i (omega arith) in let e = r.3 in let l = r.2 in in_row (place_at s r.0) (place_row r.0 (omega arith)) r.1 i l (omega arith))
        | no b ↦ past_end i (omega (arith, o.whole))
      ]
    ]
  ]
