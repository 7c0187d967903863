-- A running clock of a state of the sheet gets another value.
use Rattle.std.specs.Prelude.{Some}
use Prim.Native.Nat.{ℕ, ◌+◌, ◌<◌, ◌≤◌}
use mathlib.Core.Path.{◌≡◌, ap, ◌∙◌}
use mathlib.Core.List.{List, [], ◌∷◌}
use mathlib.Core.Bool.{true, false}
use native.Mathlib.Omega.{arith}
use lib.ListN.{length, set, length-set}
use lib.IntN.{ℤ, pos, ◌-ℤ◌}
use Rattle.sheet.specs.declared.Record.{Record}
use Rattle.sheet.specs.Names.{chart_variables, is_clock}
use Rattle.sheet_rules.specs.Fields.{type_at}
use Rattle.sheet_rules.specs.Indices.{cells_taken}
use Rattle.machine.specs.Values.{is_below, is_zero, chart_of}
use Rattle.machine.specs.State.{cell_of, word_of, put_words}
use Rattle.machine.specs.Valid.{running_clock, OfSheet}
use Rattle.machine_states.proofs.Words.{length-put, word_put_in, word_put_before, word_put_behind, word_set, word_set_other}
use Rattle.machine_states.proofs.Parts.{cell_of_lem}
use Rattle.machine_states.proofs.Kept.{cell_in_state, cell_kept}
use Rattle.machine_states.proofs.Clocks.{value_fits, running, running-below, clock-on}

-- a running clock in cell v of variable j of element e
module _ (s : List ℕ) (st : List ℤ) (o : OfSheet s st) (e : ℕ) (c : Record) (p : chart_of s e ≡ Some c) (j : ℕ) (l : j < (chart_variables c).count) (v : ℕ) (here : v < cells_taken s ((chart_variables c).first + j)) where
  abbrev cell : ℕ
  cell = cell_of s e c j v

  abbrev kind : ℕ
  kind = type_at s ((chart_variables c).first + j)

  module _ (clock : is_clock kind ≡ true) (runs : is_zero (word_of st cell) ≡ false) where
    pub is_running : running_clock s e kind st cell ≡ true
    is_running = running s e kind st cell (cell_of_lem s st o e c p j l v here) clock runs

    -- another value
    pub value_set : (z : ℤ) → value_fits kind z (word_of st (cell + 2)) ≡ true → OfSheet s (set st (cell + 1) z)
    value_set z w =
        cell_kept s st o e c p j l v here (set st (cell + 1) z) (length-set st (cell + 1) z) (λ i m. word_set_other st (cell + 1) i z (λ q. omega arith)) (λ i m. word_set_other st (cell + 1) i z (λ q. omega arith))
        (clock-on s e kind st cell (set st (cell + 1) z) is_running (λ k m n. word_set_other st (cell + 1) (cell + k) z (λ q. omega arith)) clock (ap is_zero first ∙ runs) (ap (λ (w : ℤ). is_below w 2) first ∙ running-below s e kind st cell (cell_of_lem s st o e c p j l v here) clock runs)
        (ap (λ (w : ℤ). value_fits kind w (word_of st (cell + 2))) (word_set st (cell + 1) z (omega (arith, cell_in_state s st o e c p j l v here))) ∙ w))
      where
        first : word_of (set st (cell + 1) z) cell ≡ word_of st cell
        first = word_set_other st (cell + 1) cell z (λ q. omega arith)

    -- "at 0 its telegram is appended and value becomes period − 1": this after the telegram
    pub put_again : (period : ℤ) → word_of st (cell + 2) ≡ period → value_fits kind (period -ℤ pos 1) period ≡ true → OfSheet s (put_words st cell (pos 1 ∷ (period -ℤ pos 1) ∷ []))
    unfolding is_zero is_below word_of
    put_again period q f =
        let inside : cell + 2 ≤ length st = omega (arith, cell_in_state s st o e c p j l v here) in
        let ws : List ℤ = pos 1 ∷ (period -ℤ pos 1) ∷ [] in
        let z : cell + 0 ≡ cell = omega arith in
        let first : word_of (put_words st cell ws) cell ≡ pos 1 = (rw z at (word_put_in st cell ws inside 0 (omega arith))) in
        let second : word_of (put_words st cell ws) (cell + 1) ≡ period -ℤ pos 1 = word_put_in st cell ws inside 1 (omega arith) in
        cell_kept s st o e c p j l v here (put_words st cell ws) (length-put st cell ws inside) (word_put_before st cell ws inside) (λ i m. word_put_behind st cell ws inside i (omega arith))
        (clock-on s e kind st cell (put_words st cell ws) is_running (λ k m n. word_put_behind st cell ws inside (cell + k) (omega arith)) clock (ap is_zero first) (ap (λ (w : ℤ). is_below w 2) first) (ap (λ (w : ℤ). value_fits kind w (word_of st (cell + 2))) second ∙ ap (value_fits kind (period -ℤ pos 1)) q ∙ f))
