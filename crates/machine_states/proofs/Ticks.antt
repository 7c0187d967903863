-- A time slice leaves a state of the sheet, or is refused.
use Rattle.std.specs.Prelude.{Some}
use Prim.Native.Nat.{ℕ, zero, suc, ◌+◌, ◌<◌, ◌≤◌}
use mathlib.Core.Path.{◌≡◌, refl, ap, ◌∙◌}
use mathlib.Core.List.{List, [], ◌∷◌}
use mathlib.Core.Bool.{Bool, true, false, not}
use native.Mathlib.Omega.{arith}
use lib.ListN.{set, replicate}
use lib.Dec.{eqb}
use lib.IntN.{ℤ, pos, ◌+ℤ◌, ◌-ℤ◌}
use lib.Signed.{le_z}
use borrow.Author.Tests.{not-true}
use Rattle.sheet.specs.declared.Record.{Record}
use Rattle.sheet.specs.All.{◌and◌}
use Rattle.sheet.specs.Names.{declarations, names, chart_variables, timer_type, timeout_type, is_clock}
use Rattle.sheet.specs.Sheet.{count_of}
use Rattle.sheet.proofs.All.{and_first, and_second}
use Rattle.machine.proofs.Appending.{appending}
use Rattle.sheet_rules.specs.declared.Checked.TheVariants.{Passed}
use Rattle.machine.specs.declared.Telegram.{Telegram}
use Rattle.sheet_rules.specs.Fields.{type_at, externals_of, elements_of}
use Rattle.sheet_rules.specs.Indices.{cells_taken, cells_before}
use Rattle.machine.specs.Values.{is_below, is_zero, chart_of, first_cell, same_word}
use Rattle.machine.specs.State.{places, cell_at, cell_of, place_at, word_of, waiting, put_words, with_telegram, Changed, on, off, lost, appended}
use Rattle.machine.specs.Valid.{OfSheet}
use Rattle.machine.specs.Play.{then_slice, fires, ticks, sliced_cell, sliced_each, sliced_variable, sliced_cells, sliced_element, sliced_from, clock_telegram}
use Rattle.sheet_rules.specs.Check.{check_of}
use Rattle.machine_passed.proofs.Charts.{element-chart, number_bound, bound-element}
use Rattle.machine_passed.proofs.Declared.{declared_record, element-declared}
use Rattle.machine_states.proofs.Words.{with_before}
use Rattle.machine_states.proofs.Parts.{is_counted_lem}
use Rattle.machine_states.proofs.Elements.{cells-none, cells_next}
use Rattle.machine_states.proofs.Kept.{cell_inside, cell_put, telegram-kept, ChangeKept}
use Rattle.machine_states.proofs.Running.{is_running, value_set, put_again}
use Rattle.machine_states.proofs.Clocks.{timer_value, timer_int, timeout_value, cycler_value, cycler_again, timer_fits, timeout_fits, cycler_fits, value-int, period-int, timer_runs, timeout_runs, cycler_runs, clock-named, clock-telegram, stopped_fits}

pub then_kept : (s : List ℕ) (r : Changed) (K : List ℤ → Changed) → ChangeKept s r → ((st : List ℤ) → OfSheet s st → ChangeKept s (K st)) → ChangeKept s (then_slice r K)
unfolding then_slice
then_kept s (on st) K h k = k st h
then_kept s (off n) K h k = h
then_kept s lost K h k = h

-- a clock whose name is there fires
pub fires-named : (s : List ℕ) (e at : ℕ) (ws st : List ℤ) → is_below (word_of st (at + 3)) (count_of s names) ≡ true → fires s e at ws st ≡ then_slice (appended s st (clock_telegram e st at)) (λ st'. on (put_words st' at ws))
unfolding fires
fires-named s e at ws st h = rw (fires, h) refl

-- a variable that is declared
pub sliced_variable_lem : (s : List ℕ) (e d i : ℕ) (st : List ℤ) → d < count_of s declarations → sliced_variable s e d i st ≡ sliced_each s e (type_at s d) (cells_taken s d) i st
unfolding sliced_variable
sliced_variable_lem s e d i st l = let r = declared_record s d l in rw (sliced_variable, r.1) (ap (λ (t : ℕ). sliced_each s e t (cells_taken s d) i st) r.2)

-- a running clock in cell v of variable j of element e
module _ (s : List ℕ) (st : List ℤ) (o : OfSheet s st) (e : ℕ) (c : Record) (p : chart_of s e ≡ Some c) (j : ℕ) (l : j < (chart_variables c).count) (v : ℕ) (here : v < cells_taken s ((chart_variables c).first + j)) where
  abbrev cell : ℕ
  cell = cell_of s e c j v

  abbrev kind : ℕ
  kind = type_at s ((chart_variables c).first + j)

  module _ (clock : is_clock kind ≡ true) (runs : is_zero (word_of st cell) ≡ false) where
    -- a clock's telegram is appended, then its words are set
    module _ (named : eqb kind timer_type ≡ false) where
      abbrev own : Telegram
      own = clock_telegram e st cell

      fires-kept : (ws : List ℤ) → (waiting st < places → OfSheet s (with_telegram s st own) → OfSheet s (put_words (with_telegram s st own) cell ws)) → ChangeKept s (fires s e cell ws st)
      unfolding then_slice
      fires-kept ws h =
          let running = is_running s st o e c p j l v here clock runs in
          rw (fires-named s e cell ws st (clock-named s e kind st cell running named))
          (appending s st own (is_counted_lem s st o) (λ r. ChangeKept s (then_slice r (λ st'. on (put_words st' cell ws)))) (λ room few. h room (telegram-kept s st o own room few (clock-telegram s e kind c st cell p running named))) (omega arith, omega arith) (omega arith, omega arith))

      -- the telegram lies behind the cells
      cell_word : waiting st < places → (k : ℕ) → k < 8 → word_of (with_telegram s st own) (cell + k) ≡ word_of st (cell + k)
      unfolding place_at cell_of cell_at
      cell_word room k m = with_before s st own o.whole room (cell + k) (omega arith) (omega (arith, cell_inside s st o e c p j l v here))

      stop_kept : ChangeKept s (fires s e cell (replicate 8 (pos 0)) st)
      stop_kept = fires-kept (replicate 8 (pos 0)) (λ room o₁. cell_put s (with_telegram s st own) o₁ e c p j l v here (replicate 8 (pos 0)) refl (stopped_fits s e kind clock))

      again_kept : eqb kind timeout_type ≡ false → ChangeKept s (fires s e cell (pos 1 ∷ (word_of st (cell + 2) -ℤ pos 1) ∷ []) st)
      again_kept q = fires-kept (pos 1 ∷ (word_of st (cell + 2) -ℤ pos 1) ∷ []) (λ room o₁.
          let f : cell + 0 ≡ cell = omega arith in
          let first : word_of (with_telegram s st own) cell ≡ word_of st cell = (rw f at (cell_word room 0 (omega arith))) in
          put_again s (with_telegram s st own) o₁ e c p j l v here clock (ap is_zero first ∙ runs) (word_of st (cell + 2)) (cell_word room 2 (omega arith))
          (cycler_fits kind _ _ (period-int s e kind st cell (is_running s st o e c p j l v here clock runs)) named q (cycler_again (word_of st (cell + 1)) (word_of st (cell + 2)) (cycler_runs s e kind st cell (is_running s st o e c p j l v here clock runs) named q))))

    tick_timer : eqb kind timer_type ≡ true → ChangeKept s (ticks s e kind cell st)
    unfolding ticks
    tick_timer a = go (same_word (word_of st (cell + 1)) (pos 2147483647)) refl
      where
        go : (b : Bool) → same_word (word_of st (cell + 1)) (pos 2147483647) ≡ b → ChangeKept s (ticks s e kind cell st)
        go true q = let f : ticks s e kind cell st ≡ off 6 = rw (ticks, a, q) refl in rw f (omega arith, omega arith)
        go false q =
            let f : ticks s e kind cell st ≡ on (set st (cell + 1) (word_of st (cell + 1) +ℤ pos 1)) = rw (ticks, a, q) refl in
            let running = is_running s st o e c p j l v here clock runs in
            let w : ℤ = word_of st (cell + 1) in
            let from : le_z (pos 0) w ≡ true = timer_runs s e kind st cell running a in
            rw f (value_set s st o e c p j l v here clock runs _ (timer_fits kind _ _ (period-int s e kind st cell running) a (timer_int w (value-int s e kind st cell running) from q) (timer_value w from)))

    tick_timeout : eqb kind timer_type ≡ false → eqb kind timeout_type ≡ true → ChangeKept s (ticks s e kind cell st)
    unfolding ticks
    tick_timeout a b = go (same_word (word_of st (cell + 1)) (pos 1)) refl
      where
        go : (t : Bool) → same_word (word_of st (cell + 1)) (pos 1) ≡ t → ChangeKept s (ticks s e kind cell st)
        go true q = let f : ticks s e kind cell st ≡ fires s e cell (replicate 8 (pos 0)) st = rw (ticks, a, b, q) refl in rw f (stop_kept a)
        go false q =
            let f : ticks s e kind cell st ≡ on (set st (cell + 1) (word_of st (cell + 1) -ℤ pos 1)) = rw (ticks, a, b, q) refl in
            rw f (value_set s st o e c p j l v here clock runs _ (timeout_fits kind _ _ (period-int s e kind st cell (is_running s st o e c p j l v here clock runs)) a b (timeout_value (word_of st (cell + 1)) (word_of st (cell + 2)) (timeout_runs s e kind st cell (is_running s st o e c p j l v here clock runs) a b) q)))

    tick_cycler : eqb kind timer_type ≡ false → eqb kind timeout_type ≡ false → ChangeKept s (ticks s e kind cell st)
    unfolding ticks
    tick_cycler a b = go (is_zero (word_of st (cell + 1))) refl
      where
        go : (t : Bool) → is_zero (word_of st (cell + 1)) ≡ t → ChangeKept s (ticks s e kind cell st)
        go true q = let f : ticks s e kind cell st ≡ fires s e cell (pos 1 ∷ (word_of st (cell + 2) -ℤ pos 1) ∷ []) st = rw (ticks, a, b, q) refl in rw f (again_kept a b)
        go false q =
            let f : ticks s e kind cell st ≡ on (set st (cell + 1) (word_of st (cell + 1) -ℤ pos 1)) = rw (ticks, a, b, q) refl in
            rw f (value_set s st o e c p j l v here clock runs _ (cycler_fits kind _ _ (period-int s e kind st cell (is_running s st o e c p j l v here clock runs)) a b (cycler_value (word_of st (cell + 1)) (word_of st (cell + 2)) (cycler_runs s e kind st cell (is_running s st o e c p j l v here clock runs) a b) q)))

    tick_kept : ChangeKept s (ticks s e kind cell st)
    tick_kept = go (eqb kind timer_type) (eqb kind timeout_type) refl refl
      where
        go : (a b : Bool) → eqb kind timer_type ≡ a → eqb kind timeout_type ≡ b → ChangeKept s (ticks s e kind cell st)
        go true b p q = tick_timer p
        go false true p q = tick_timeout p q
        go false false p q = tick_cycler p q

  -- "stopped ones passed over"
  cell_sliced : ChangeKept s (sliced_cell s e kind cell st)
  unfolding sliced_cell
  cell_sliced = go (is_clock kind and not (is_zero (word_of st cell))) refl
    where
      go : (b : Bool) → is_clock kind and not (is_zero (word_of st cell)) ≡ b → ChangeKept s (sliced_cell s e kind cell st)
      go true q = let f : sliced_cell s e kind cell st ≡ ticks s e kind cell st = rw (sliced_cell, q) refl in rw f (tick_kept (and_first _ _ q) (not-true _ (and_second _ _ q)))
      go false q = let f : sliced_cell s e kind cell st ≡ on st = rw (sliced_cell, q) refl in rw f o

-- ---- cells, elements, all

module _ (s : List ℕ) (ok : check_of s ≡ Passed) where
  -- n cells of variable j from number v on
  each_sliced : (e : ℕ) (c : Record) → chart_of s e ≡ Some c → (j : ℕ) → j < (chart_variables c).count → (n v : ℕ) → v + n ≤ cells_taken s ((chart_variables c).first + j) → (st : List ℤ) → OfSheet s st → ChangeKept s (sliced_each s e (type_at s ((chart_variables c).first + j)) n (first_cell s e + cells_before s c j + v) st)
  unfolding sliced_each cell_of
  each_sliced e c p j l zero v b st o = o
  each_sliced e c p j l (suc n) v b st o =
      then_kept s _ _ (cell_sliced s st o e c p j l v (omega arith)) (λ st' o'.
      let i : suc (first_cell s e + cells_before s c j + v) ≡ first_cell s e + cells_before s c j + suc v = omega arith in
      rw i (each_sliced e c p j l n (suc v) (omega arith) st' o'))

  cells_sliced : (e : ℕ) (c : Record) → chart_of s e ≡ Some c → ((j : ℕ) → j < (chart_variables c).count → (chart_variables c).first + j < count_of s declarations) → (n j : ℕ) → j + n ≤ (chart_variables c).count → (st : List ℤ) → OfSheet s st → ChangeKept s (sliced_cells s e n ((chart_variables c).first + j) (first_cell s e + cells_before s c j) st)
  unfolding sliced_cells
  cells_sliced e c p d zero j l st o = o
  cells_sliced e c p d (suc n) j l st o =
      let z : first_cell s e + cells_before s c j + 0 ≡ first_cell s e + cells_before s c j = omega arith in
      then_kept s _ _ (rw (sliced_variable_lem s e ((chart_variables c).first + j) (first_cell s e + cells_before s c j) st (d j (omega arith))) (rw z at (each_sliced e c p j (omega arith) (cells_taken s ((chart_variables c).first + j)) 0 (omega arith) st o))) (λ st' o'.
      let f : suc ((chart_variables c).first + j) ≡ (chart_variables c).first + suc j = omega arith in
      let i : first_cell s e + cells_before s c j + cells_taken s ((chart_variables c).first + j) ≡ first_cell s e + cells_before s c (suc j) = omega (arith, cells_next s c j) in
      rw (f, i) (cells_sliced e c p d n (suc j) (omega arith) st' o'))

  element_sliced : (i : ℕ) → i < elements_of s → (st : List ℤ) → OfSheet s st → ChangeKept s (sliced_element s (externals_of s + i) st)
  unfolding sliced_element
  element_sliced i l st o =
      let e : ℕ = externals_of s + i in
      let x = bound-element s ok e (number_bound s i l) in
      let c = x.1 in
      let p = element-chart s e x.0 c x.2 in
      let f : sliced_element s e st ≡ sliced_cells s e (chart_variables c).count (chart_variables c).first (first_cell s e) st = rw (sliced_element, p) refl in
      let d : (chart_variables c).first + 0 ≡ (chart_variables c).first = omega arith in
      let k : first_cell s e + cells_before s c 0 ≡ first_cell s e = omega (arith, cells-none s c) in
      rw f (rw (d, k) at (cells_sliced e c p (element-declared s ok e c p) (chart_variables c).count 0 (omega arith) st o))

  elements_sliced : (n i : ℕ) → i + n ≤ elements_of s → (st : List ℤ) → OfSheet s st → ChangeKept s (sliced_from s n (externals_of s + i) st)
  unfolding sliced_from
  elements_sliced zero i l st o = o
  elements_sliced (suc n) i l st o = then_kept s _ _ (element_sliced i (omega arith) st o) (λ st' o'. let f : suc (externals_of s + i) ≡ externals_of s + suc i = omega arith in rw f (elements_sliced n (suc i) (omega arith) st' o'))

  pub slice_kept : (st : List ℤ) → OfSheet s st → ChangeKept s (sliced_from s (elements_of s) (externals_of s) st)
  slice_kept st o = let f : externals_of s + 0 ≡ externals_of s = omega arith in rw f at (elements_sliced (elements_of s) 0 (omega arith) st o)
