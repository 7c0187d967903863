-- A tick leaves the cells behind its own as they were, so the pass finds each clock as the slice found it.
use Rattle.std.specs.Prelude.{Option, Some, None}
use Prim.Native.Nat.{ℕ, zero, suc, ◌+◌, ◌*◌, ◌-◌, ◌<◌, ◌≤◌}
use mathlib.Core.Path.{◌≡◌, refl, sym, ap, ◌∙◌}
use mathlib.Core.List.{List, [], ◌∷◌}
use mathlib.Core.Bool.{Bool, true, false, not}
use native.Mathlib.Omega.{arith}
use native.Mathlib.Numerals.{add-one}
use lib.ListN.{length, get_or, set, replicate, length-set}
use lib.Dec.{eqb}
use lib.IntN.{ℤ, pos, ◌+ℤ◌, ◌-ℤ◌}
use borrow.Author.Tests.{lt-ltb}
use Rattle.sheet.specs.declared.Record.{Record}
use Rattle.sheet.specs.All.{◌and◌}
use Rattle.sheet.specs.Names.{declarations, names, declared_type, chart_variables, timer_type, timeout_type, is_clock}
use Rattle.sheet.specs.Sheet.{count_of, record_of}
use Rattle.machine.proofs.Appending.{appending}
use Rattle.sheet_rules.specs.declared.Checked.TheVariants.{Passed}
use Rattle.machine.specs.declared.Telegram.{Telegram}
use Rattle.sheet_rules.specs.Fields.{type_at, externals_of}
use Rattle.sheet_rules.specs.Indices.{cells_taken, cells_before}
use Rattle.sheet_rules.specs.Shape.{cells_bound, cells_of}
use Rattle.sheet_rules.specs.Check.{check_of}
use Rattle.sheet_rules.proofs.Fields.{sum_more}
use Rattle.machine.specs.Values.{is_below, is_zero, chart_of, first_cell, same_word}
use Rattle.machine.specs.State.{places, cell_at, cell_of, place_at, state_length, word_of, waiting, counted, put_words, with_telegram, Changed, on, off, lost, appended}
use Rattle.machine.specs.Valid.{cell_fits, OfSheet}
use Rattle.machine.specs.Play.{then_slice, clock_telegram, fires, ticks, sliced_cell, sliced_each, sliced_variable, sliced_cells, sliced_element, sliced_from}
use Rattle.machine_passed.proofs.Declared.{element-declared}
use Rattle.machine_passed.proofs.Indices.{plain_cell, clock-plain}
use Rattle.machine_states.proofs.Words.{word_set_other, length-put, word_put_before, word_put_behind, with_length, with_head_lem, with_before}
use Rattle.machine_states.proofs.Frame.{cell_same}
use Rattle.machine_states.proofs.Parts.{is_counted_lem, cell_of_lem}
use Rattle.machine_states.proofs.Elements.{cells-none, cells_next, variable-cells, element-count, element-cells, cell_below}
use Rattle.machine_states.proofs.Ticks.{sliced_variable_lem}
use Rattle.engine_cells.specs.Cells.{CellTable}
use Rattle.engine_clocks.specs.Cells.{Cell, Cells}
use Rattle.engine_clocks.proofs.Cells.{cell_data}

-- as long as the sheet's states, no more waiting than there are places, and from a word on up to the places as before
pub record After (s : List ℕ) (from : ℕ) (old st : List ℤ) : Type 0 where
  pub whole : length st ≡ state_length s
  pub head : counted st ≡ true
  pub later : (k : ℕ) → from ≤ k → k < place_at s 0 → word_of st k ≡ word_of old k

abbrev pub Onward : List ℕ → ℕ → List ℤ → Changed → Type 0
Onward s from old (on st) = After s from old st
Onward s from old (off n) = Unit {0}
Onward s from old lost = Unit {0}

module _ (s : List ℕ) where
  pub after_none : (from : ℕ) (st : List ℤ) → length st ≡ state_length s → counted st ≡ true → After s from st st
  after_none from st w h = record { whole = w; head = h; later = λ k l m. refl }

  pub after_more : (from from' : ℕ) (a b c : List ℤ) → from ≤ from' → After s from a b → After s from' b c → After s from' a c
  after_more from from' a b c l h k = record { whole = k.whole; head = k.head; later = λ i m n. k.later i m n ∙ h.later i (omega arith) n }

  -- one word of the cell, or some of its words
  module _ (st : List ℤ) (at : ℕ) (whole : length st ≡ state_length s) (head : counted st ≡ true) (behind : 8 ≤ at) (inside : at + 8 ≤ place_at s 0) where
    set_onward : (z : ℤ) → After s (at + 8) st (set st (at + 1) z)
    set_onward z = record {
      whole = length-set st (at + 1) z ∙ whole;
      head = ap (λ (w : ℤ). is_below w (places + 1)) (word_set_other st (at + 1) 0 z (λ q. omega arith)) ∙ head;
      later = λ k l m. word_set_other st (at + 1) k z (λ q. omega arith);
    }

    put_onward : (ws : List ℤ) → length ws ≤ 8 → After s (at + 8) st (put_words st at ws)
    unfolding state_length place_at
    put_onward ws n =
        let fit : at + length ws ≤ length st = omega arith in
        record {
          whole = length-put st at ws fit ∙ whole;
          head = ap (λ (w : ℤ). is_below w (places + 1)) (word_put_before st at ws fit 0 (omega arith)) ∙ head;
          later = λ k l m. word_put_behind st at ws fit k (omega arith);
        }

  module _ (st : List ℤ) (e at : ℕ) (whole : length st ≡ state_length s) (head : counted st ≡ true) (behind : 8 ≤ at) (inside : at + 8 ≤ place_at s 0) where
    abbrev t : Telegram
    t = clock_telegram e st at

    fired_onward : (ws : List ℤ) → length ws ≤ 8 → Onward s (at + 8) st (then_slice (appended s st t) (λ st'. on (put_words st' at ws)))
    unfolding then_slice place_at is_below
    fired_onward ws n = appending s st t head (λ r. Onward s (at + 8) st (then_slice r (λ st'. on (put_words st' at ws))))
        (λ room few.
        let long : length (with_telegram s st t) ≡ state_length s = with_length s st t whole room ∙ whole in
        let first : counted (with_telegram s st t) ≡ true = ap (λ (w : ℤ). is_below w (places + 1)) (with_head_lem s st t whole room) ∙ lt-ltb (waiting st + 1) (places + 1) (omega arith) in
        let sent : After s (at + 8) st (with_telegram s st t) = record { whole = long; head = first; later = λ k l m. with_before s st t whole room k (omega arith) (omega arith) } in
        after_more (at + 8) (at + 8) st (with_telegram s st t) (put_words (with_telegram s st t) at ws) (omega arith) sent (put_onward (with_telegram s st t) at long first behind inside ws n))
        tt
        tt

    fires_onward : (ws : List ℤ) → length ws ≤ 8 → Onward s (at + 8) st (fires s e at ws st)
    unfolding fires
    fires_onward ws n = go (is_below (word_of st (at + 3)) (count_of s names))
      where
        go : (b : Bool) → Onward s (at + 8) st (elim b as (λ b. Changed) [ true ↦ then_slice (appended s st t) (λ st'. on (put_words st' at ws)) | false ↦ lost ])
        go true = fired_onward ws n
        go false = tt

    ticks_onward : (t : ℕ) → Onward s (at + 8) st (ticks s e t at st)
    unfolding ticks
    ticks_onward t = go (eqb t timer_type) (eqb t timeout_type) refl refl
      where
        timer : (b : Bool) → eqb t timer_type ≡ true → same_word (word_of st (at + 1)) (pos 2147483647) ≡ b → Onward s (at + 8) st (ticks s e t at st)
        timer true p r = let f : ticks s e t at st ≡ off 6 = rw (ticks, p, r) refl in rw f tt
        timer false p r = let f : ticks s e t at st ≡ on (set st (at + 1) (word_of st (at + 1) +ℤ pos 1)) = rw (ticks, p, r) refl in rw f (set_onward st at whole head behind inside (word_of st (at + 1) +ℤ pos 1))

        timeout : (b : Bool) → eqb t timer_type ≡ false → eqb t timeout_type ≡ true → same_word (word_of st (at + 1)) (pos 1) ≡ b → Onward s (at + 8) st (ticks s e t at st)
        timeout true p q r = let f : ticks s e t at st ≡ fires s e at (replicate 8 (pos 0)) st = rw (ticks, p, q, r) refl in rw f (fires_onward (replicate 8 (pos 0)) (omega arith))
        timeout false p q r = let f : ticks s e t at st ≡ on (set st (at + 1) (word_of st (at + 1) -ℤ pos 1)) = rw (ticks, p, q, r) refl in rw f (set_onward st at whole head behind inside (word_of st (at + 1) -ℤ pos 1))

        cycler : (b : Bool) → eqb t timer_type ≡ false → eqb t timeout_type ≡ false → is_zero (word_of st (at + 1)) ≡ b → Onward s (at + 8) st (ticks s e t at st)
        cycler true p q r = let f : ticks s e t at st ≡ fires s e at (pos 1 ∷ (word_of st (at + 2) -ℤ pos 1) ∷ []) st = rw (ticks, p, q, r) refl in rw f (fires_onward (pos 1 ∷ (word_of st (at + 2) -ℤ pos 1) ∷ []) (omega arith))
        cycler false p q r = let f : ticks s e t at st ≡ on (set st (at + 1) (word_of st (at + 1) -ℤ pos 1)) = rw (ticks, p, q, r) refl in rw f (set_onward st at whole head behind inside (word_of st (at + 1) -ℤ pos 1))

        go : (a b : Bool) → eqb t timer_type ≡ a → eqb t timeout_type ≡ b → Onward s (at + 8) st (ticks s e t at st)
        go true b p q = timer (same_word (word_of st (at + 1)) (pos 2147483647)) p refl
        go false true p q = timeout (same_word (word_of st (at + 1)) (pos 1)) p q refl
        go false false p q = cycler (is_zero (word_of st (at + 1))) p q refl

    cell_onward : (t : ℕ) → Onward s (at + 8) st (sliced_cell s e t at st)
    unfolding sliced_cell
    cell_onward t = go (is_clock t and not (is_zero (word_of st at))) refl
      where
        go : (b : Bool) → is_clock t and not (is_zero (word_of st at)) ≡ b → Onward s (at + 8) st (sliced_cell s e t at st)
        go true q = let f : sliced_cell s e t at st ≡ ticks s e t at st = rw (sliced_cell, q) refl in rw f (ticks_onward t)
        go false q = let f : sliced_cell s e t at st ≡ on st = rw (sliced_cell, q) refl in rw f (after_none (at + 8) st whole head)

  -- ---- one cell, the cells of a variable, of an element

  onward_more : (from from' : ℕ) (a b : List ℤ) (r : Changed) → from ≤ from' → After s from a b → Onward s from' b r → Onward s from' a r
  onward_more from from' a b (on c) l h k = after_more from from' a b c l h k
  onward_more from from' a b (off n) l h k = tt
  onward_more from from' a b lost l h k = tt

  then_onward : (from from' : ℕ) (st : List ℤ) (r : Changed) (K : List ℤ → Changed) → from ≤ from' → Onward s from st r → ((st' : List ℤ) → After s from st st' → Onward s from' st' (K st')) → Onward s from' st (then_slice r K)
  unfolding then_slice
  then_onward from from' st (on st') K l h k = onward_more from from' st st' (K st') l h (k st' h)
  then_onward from from' st (off n) K l h k = tt
  then_onward from from' st lost K l h k = tt

  each_onward : (e t n i : ℕ) (st : List ℤ) → length st ≡ state_length s → counted st ≡ true → i + n ≤ cells_of s → Onward s (cell_at (i + n)) st (sliced_each s e t n i st)
  unfolding sliced_each cell_at place_at
  each_onward e t zero i st w h l = after_none (cell_at (i + 0)) st w h
  each_onward e t (suc n) i st w h l =
      let f : cell_at i + 8 ≡ cell_at (i + 1) = omega arith in
      let g : suc i + n ≡ i + suc n = omega arith in
      then_onward (cell_at (i + 1)) (cell_at (i + suc n)) st (sliced_cell s e t (cell_at i) st) (sliced_each s e t n (suc i)) (omega arith)
      (rw f at (cell_onward st e (cell_at i) w h (omega arith) (omega arith) t))
      (λ st' a. rw g at (each_onward e t n (suc i) st' a.whole a.head (omega arith)))

  variable_onward : (e d i : ℕ) (st : List ℤ) → length st ≡ state_length s → counted st ≡ true → i + cells_taken s d ≤ cells_of s → Onward s (cell_at (i + cells_taken s d)) st (sliced_variable s e d i st)
  unfolding sliced_variable
  variable_onward e d i st w h l = go (record_of s declarations d)
    where
      go : (f : Option Record) → Onward s (cell_at (i + cells_taken s d)) st (elim f as (λ f. Changed) [ Some r ↦ sliced_each s e (declared_type r) (cells_taken s d) i st | None ↦ lost ])
      go (Some r) = each_onward e (declared_type r) (cells_taken s d) i st w h l
      go None = tt

  -- ---- a variable as the engine looks at it: "An array .. of clocks, gets 2", so that the first cell says all

  each_data : (e t n i : ℕ) (st : List ℤ) → is_clock t ≡ false → sliced_each s e t n i st ≡ on st
  unfolding sliced_each then_slice
  each_data e t zero i st q = refl
  each_data e t (suc n) i st q = ap (λ (r : Changed). then_slice r (sliced_each s e t n (suc i))) (cell_data s e t (cell_at i) st q) ∙ each_data e t n (suc i) st q

  then_on : (r : Changed) → then_slice r on ≡ r
  unfolding then_slice
  then_on (on st) = refl
  then_on (off n) = refl
  then_on lost = refl

  each-one : (e t i : ℕ) (st : List ℤ) → sliced_each s e t 1 i st ≡ sliced_cell s e t (cell_at i) st
  unfolding sliced_each
  each-one e t i st = then_on (sliced_cell s e t (cell_at i) st)

  variable_cell : (e t n i : ℕ) (st : List ℤ) → (is_clock t ≡ true → n ≡ 1) → sliced_each s e t n i st ≡ sliced_cell s e t (cell_at i) st
  variable_cell e t n i st plain = go (is_clock t) refl
    where
      go : (b : Bool) → is_clock t ≡ b → sliced_each s e t n i st ≡ sliced_cell s e t (cell_at i) st
      go true q = ap (λ (m : ℕ). sliced_each s e t m i st) (plain q) ∙ each-one e t i st
      go false q = each_data e t n i st q ∙ sym (cell_data s e t (cell_at i) st q)

  -- ---- the pass over the variables of an element

  cells_next_variable : (e n m d i : ℕ) (st : List ℤ) → m ≡ suc n → sliced_cells s e m d i st ≡ then_slice (sliced_variable s e d i st) (sliced_cells s e n (suc d) (i + cells_taken s d))
  unfolding sliced_cells
  cells_next_variable e n m d i st q = rw q refl

  pub cells-end : (e n j d i : ℕ) (st : List ℤ) → n ≤ j → sliced_cells s e (n - j) d i st ≡ on st
  unfolding sliced_cells
  cells-end e n j d i st l = let q : n - j ≡ 0 = omega arith in rw q refl

  -- a cell that the pass hasn't reached is as it was
  same_fits : (e t i : ℕ) (old st : List ℤ) → i < cells_of s → After s (cell_at i) old st → cell_fits s e t old (cell_at i) ≡ true → cell_fits s e t st (cell_at i) ≡ true
  unfolding cell_at place_at
  same_fits e t i old st l a h = cell_same st (cell_at i) old (cell_at i) (λ k m. a.later (cell_at i + k) (omega arith) (omega arith)) s e t ∙ h

  cell_rises : (i k : ℕ) → i ≤ k → cell_at i ≤ cell_at k
  unfolding cell_at
  cell_rises i k l = omega arith

  -- element e, whose chart is c
  module _ (e : ℕ) (c : Record) where
    -- where the cells of variable j begin, and its declaration
    abbrev begins : ℕ → ℕ
    begins j = first_cell s e + cells_before s c j

    abbrev own : ℕ → ℕ
    own j = (chart_variables c).first + j

    begins_next : (j : ℕ) → begins j + cells_taken s (own j) ≡ begins (suc j)
    begins_next j = omega (arith, cells_next s c j)

    cells_onward : (n j : ℕ) (st : List ℤ) → length st ≡ state_length s → counted st ≡ true → begins (j + n) ≤ cells_of s → Onward s (cell_at (begins (j + n))) st (sliced_cells s e n (own j) (begins j) st)
    unfolding sliced_cells
    cells_onward zero j st w h l = after_none (cell_at (begins (j + 0))) st w h
    cells_onward (suc n) j st w h l =
        let f : suc (own j) ≡ own (suc j) = omega arith in
        let g : suc j + n ≡ j + suc n = omega arith in
        let rest : begins j + cells_taken s (own j) ≤ begins (j + suc n) = omega (arith, variable-cells s c j (j + suc n) (omega arith)) in
        then_onward (cell_at (begins j + cells_taken s (own j))) (cell_at (begins (j + suc n))) st (sliced_variable s e (own j) (begins j) st) (sliced_cells s e n (suc (own j)) (begins j + cells_taken s (own j))) (cell_rises _ _ rest)
        (variable_onward e (own j) (begins j) st w h (omega arith))
        (λ st' a. rw (f, begins_next j) (rw g at (cells_onward n (suc j) st' a.whole a.head (rw g l))))

    pub cells_after_lem : (st st' : List ℤ) → length st ≡ state_length s → counted st ≡ true → begins (chart_variables c).count ≤ cells_of s → sliced_cells s e (chart_variables c).count (chart_variables c).first (first_cell s e) st ≡ on st' → After s (cell_at (begins (chart_variables c).count)) st st'
    cells_after_lem st st' w h l q =
        let a : own 0 ≡ (chart_variables c).first = omega arith in
        let b : begins 0 ≡ first_cell s e = omega (arith, cells-none s c) in
        let z : 0 + (chart_variables c).count ≡ (chart_variables c).count = omega arith in
        is_after (rw (z, a, b, q) at (cells_onward (chart_variables c).count 0 st w h (rw z l)))
      where
        is_after : Onward s (cell_at (begins (chart_variables c).count)) st (on st') → After s (cell_at (begins (chart_variables c).count)) st st'
        is_after a = a

    pub cells-first : (st : List ℤ) → sliced_cells s e (chart_variables c).count (chart_variables c).first (first_cell s e) st ≡ sliced_cells s e ((chart_variables c).count - 0) (own 0) (begins 0) st
    cells-first st = let q : (chart_variables c).count - 0 ≡ (chart_variables c).count = omega arith in let a : own 0 ≡ (chart_variables c).first = omega arith in let b : begins 0 ≡ first_cell s e = omega (arith, cells-none s c) in rw (q, a, b) refl

    pub pass_first_lem : (st : List ℤ) → Cells s e c st → After s (cell_at (begins 0)) st st
    pass_first_lem st k = after_none (cell_at (begins 0)) st k.whole k.head

    -- variable j, at its turn; the element's cells were as `old` has them before the pass
    module _ (old : List ℤ) (k : Cells s e c old) (j : ℕ) (l : j < (chart_variables c).count) where
      own_cells : begins j + cells_taken s (own j) ≤ cells_of s
      own_cells = omega (arith, k.inside, variable-cells s c j (chart_variables c).count l)

      pub cells_here : (st : List ℤ) → sliced_cells s e ((chart_variables c).count - j) (own j) (begins j) st ≡ then_slice (sliced_cell s e (type_at s (own j)) (cell_at (begins j)) st) (sliced_cells s e ((chart_variables c).count - (j + 1)) (own (j + 1)) (begins (j + 1)))
      cells_here st =
          let n : ℕ = (chart_variables c).count in
          let q : n - j ≡ suc (n - (j + 1)) = omega arith in
          let a : suc (own j) ≡ own (j + 1) = omega arith in
          let b : begins j + cells_taken s (own j) ≡ begins (j + 1) = rw add-one (begins_next j) in
          (rw (a, b) at (cells_next_variable e (n - (j + 1)) (n - j) (own j) (begins j) st q)) ∙ ap (λ (r : Changed). then_slice r (sliced_cells s e (n - (j + 1)) (own (j + 1)) (begins (j + 1)))) (sliced_variable_lem s e (own j) (begins j) st (k.declared j l) ∙ variable_cell e (type_at s (own j)) (cells_taken s (own j)) (begins j) st (k.plain j))

      pub pass_next : (st st' : List ℤ) → After s (cell_at (begins j)) old st → sliced_cell s e (type_at s (own j)) (cell_at (begins j)) st ≡ on st' → After s (cell_at (begins (j + 1))) old st'
      pass_next st st' a q =
          let b : begins j + cells_taken s (own j) ≡ begins (j + 1) = rw add-one (begins_next j) in
          let f : sliced_each s e (type_at s (own j)) (cells_taken s (own j)) (begins j) st ≡ on st' = variable_cell e (type_at s (own j)) (cells_taken s (own j)) (begins j) st (k.plain j) ∙ q in
          after_more (cell_at (begins j)) (cell_at (begins (j + 1))) old st st' (cell_rises _ _ (omega arith)) a (is_after (rw (f, b) at (each_onward e (type_at s (own j)) (cells_taken s (own j)) (begins j) st a.whole a.head own_cells)))
        where
          is_after : Onward s (cell_at (begins (j + 1))) st (on st') → After s (cell_at (begins (j + 1))) st st'
          is_after a = a

      pub cell_now : (st : List ℤ) → After s (cell_at (begins j)) old st → Cell s e (type_at s (own j)) st (begins j)
      cell_now st a = record {
        whole = a.whole;
        head = a.head;
        inside = omega (arith, own_cells);
        clock = λ q. let inside : begins j < cells_of s = omega (arith, own_cells, k.plain j q) in (inside, same_fits e (type_at s (own j)) (begins j) old st inside a (k.clocks j l q));
      }

-- ---- the pass over the elements

module _ (s : List ℕ) where
  from_next : (n m e : ℕ) (st : List ℤ) → m ≡ suc n → sliced_from s m e st ≡ then_slice (sliced_element s e st) (sliced_from s n (suc e))
  unfolding sliced_from
  from_next n m e st q = rw q refl

  pub from_none_lem : (n i e : ℕ) (st : List ℤ) → n ≤ i → sliced_from s (n - i) e st ≡ on st
  unfolding sliced_from
  from_none_lem n i e st l = let q : n - i ≡ 0 = omega arith in rw q refl

  pub from_first : (n e : ℕ) (st : List ℤ) → sliced_from s n e st ≡ sliced_from s (n - 0) (e + 0) st
  from_first n e st = let q : n - 0 ≡ n = omega arith in let a : e + 0 ≡ e = omega arith in rw (q, a) refl

  pub after_first : (from : ℕ) (st : List ℤ) → OfSheet s st → After s from st st
  after_first from st o = after_none s from st o.whole (is_counted_lem s st o)

  -- element number i, whose number is read from the head
  module _ (x i : ℕ) (c : Record) (head : x ≡ externals_of s) (p : chart_of s (externals_of s + i) ≡ Some c) where
    first_next : first_cell s (externals_of s + i) + cells_before s c (chart_variables c).count ≡ first_cell s (externals_of s + (i + 1))
    unfolding first_cell
    first_next =
        let a : externals_of s + i - externals_of s ≡ i = omega arith in
        let b : externals_of s + (i + 1) - externals_of s ≡ i + 1 = omega arith in
        let n : cells_bound s i ≡ cells_before s c (chart_variables c).count = rw a at (element-count s (externals_of s + i) c p) in
        rw (a, b) (omega (arith, sum_more i (cells_bound s)))

    pub from_here_lem : (n : ℕ) (st : List ℤ) → i < n → sliced_from s (n - i) (externals_of s + i) st ≡ then_slice (sliced_cells s (x + i) (chart_variables c).count (chart_variables c).first (first_cell s (x + i)) st) (sliced_from s (n - (i + 1)) (externals_of s + (i + 1)))
    unfolding sliced_element
    from_here_lem n st l =
        let f : n - i ≡ suc (n - (i + 1)) = omega arith in
        let a : suc (externals_of s + i) ≡ externals_of s + (i + 1) = omega arith in
        let own : sliced_element s (externals_of s + i) st ≡ sliced_cells s (x + i) (chart_variables c).count (chart_variables c).first (first_cell s (x + i)) st = rw (sliced_element, p, head) refl in
        (rw a at (from_next (n - (i + 1)) (n - i) (externals_of s + i) st f)) ∙ ap (λ (r : Changed). then_slice r (sliced_from s (n - (i + 1)) (externals_of s + (i + 1)))) own

    -- its cells hold what they held
    pub element_now : check_of s ≡ Passed → (old st : List ℤ) → OfSheet s old → After s (cell_at (first_cell s (externals_of s + i))) old st → Cells s (x + i) c st
    unfolding cell_of
    element_now ok old st o a =
        let e : ℕ = externals_of s + i in
        let plain : (j : ℕ) → is_clock (type_at s ((chart_variables c).first + j)) ≡ true → cells_taken s ((chart_variables c).first + j) ≡ 1 = λ j q. plain_cell s ((chart_variables c).first + j) (clock-plain s ok ((chart_variables c).first + j) q) in
        rw head (record {
          whole = a.whole;
          head = a.head;
          inside = element-cells s e c p;
          declared = element-declared s ok e c p;
          plain = plain;
          clocks = λ j m q.
              let b : first_cell s e + cells_before s c j + 0 ≡ first_cell s e + cells_before s c j = omega arith in
              let here : 0 < cells_taken s ((chart_variables c).first + j) = omega (arith, plain j q) in
              same_fits s e _ (first_cell s e + cells_before s c j) old st (omega (arith, cell_below s e c p j 0 m here)) (record { whole = a.whole; head = a.head; later = λ k n r. a.later k (omega (arith, cell_rises s (first_cell s e) (first_cell s e + cells_before s c j) (omega arith))) r }) (rw b at (cell_of_lem s old o e c p j m 0 here));
        })

    pub element_next : (old st st' : List ℤ) → After s (cell_at (first_cell s (externals_of s + i))) old st → sliced_cells s (x + i) (chart_variables c).count (chart_variables c).first (first_cell s (x + i)) st ≡ on st' → After s (cell_at (first_cell s (externals_of s + (i + 1)))) old st'
    element_next old st st' a q =
        let q' : sliced_cells s (externals_of s + i) (chart_variables c).count (chart_variables c).first (first_cell s (externals_of s + i)) st ≡ on st' = rw head at q in
        rw (sym first_next) (after_more s _ _ old st st' (cell_rises s _ _ (omega arith)) a (cells_after_lem s (externals_of s + i) c st st' a.whole a.head (element-cells s (externals_of s + i) c p) q'))

    -- what the table has of it
    pub element_row : (t : List ℕ) → CellTable s t → (n : ℕ) → n ≤ (chart_variables c).count → get_or t (34 * i + n) 0 ≡ first_cell s (x + i) + cells_before s c n
    element_row t h n l = let a : externals_of s + i - externals_of s ≡ i = omega arith in rw head (rw a at (h.right (externals_of s + i) c p n l))
