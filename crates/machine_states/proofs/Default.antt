-- The state that start begins with is of the sheet.
use Rattle.std.specs.Prelude.{Option, Some, None}
use Prim.Native.Nat.{ℕ, zero, suc, ◌+◌, ◌*◌, ◌-◌, ◌<◌, ◌≤◌}
use mathlib.Core.Path.{◌≡◌, refl, ap, ◌∙◌}
use mathlib.Core.List.{List, [], ◌++◌}
use mathlib.Core.Bool.{Bool, true, false}
use native.Mathlib.Omega.{arith}
use native.Mathlib.Decide.{dec_lt}
use lib.ListN.{length, replicate, length-append, length-replicate, get_or-replicate}
use lib.IntN.{ℤ, pos, nat_abs}
use borrow.Author.Tests.{leb-true}
use Rattle.sheet.specs.declared.Record.{Record}
use Rattle.sheet.specs.Names.{chart_variables, is_clock}
use Rattle.sheet.proofs.All.{true_false, and_first, and_second, and-true}
use Rattle.sheet_rules.specs.declared.Checked.TheVariants.{Passed}
use Rattle.sheet_rules.specs.Fields.{type_at, sum_below, externals_of, elements_of}
use Rattle.sheet_rules.specs.Indices.{cells_taken, cells_before}
use Rattle.sheet_rules.specs.Shape.{type_exists, cells_bound, cells_of}
use Rattle.sheet_rules.specs.Check.{check_of}
use Rattle.machine.specs.Values.{is_below, is_zero, default_in, default_of, chart_of, first_cell}
use Rattle.machine.specs.State.{places, cell_at, cell_of, place_at, state_length, word_of, waiting}
use Rattle.machine.specs.Valid.{zero_words, clock_cell, cell_fits, head_fits, OfSheet}
use Rattle.machine.specs.Play.{default_cell, alike, default_cells, element_cells, cells_from, default_state}
use Rattle.sheet_rules.proofs.Sums.{sum_rises}
use Rattle.sheet_rules.proofs.DataTypes.{type_no_data}
use Rattle.sheet_rules.proofs.Fields.{holds-present, holds_absent, sum_more}
use Rattle.machine_passed.proofs.Records.{declared-exists}
use Rattle.machine_passed.proofs.Charts.{element-chart, number_bound, bound-element}
use Rattle.machine_passed.proofs.Declared.{default_in_lem, element-declared}
use Rattle.machine_states.proofs.Frame.{Same, cell_same}
use Rattle.machine_states.proofs.Words.{word_front_lem, word_rest}
use Rattle.machine_states.proofs.Classes.{classes_fit_lem, none_like}
use Rattle.machine_states.proofs.Elements.{element-number, element-count, element_from, cell_below, variable-cells}
use Rattle.machine_states.proofs.Parts.{zeros, cells_fit_lem, telegrams_fit, rest-unused}

-- ---- a cell

cell_length : (s : List ℕ) (t : ℕ) → length (default_cell s t) ≡ 8
unfolding default_cell
cell_length s t = refl

cell_rest : (s : List ℕ) (t k : ℕ) → 1 ≤ k → k < 8 → word_of (default_cell s t) (0 + k) ≡ pos 0
unfolding default_cell word_of
cell_rest s t zero l m = absurd (omega arith)
cell_rest s t (suc k) l m = let e : 0 + suc k ≡ suc k = omega arith in rw e (get_or-replicate 7 k (pos 0) (pos 0) (omega arith))

clock_zero : (s : List ℕ) (t : ℕ) → is_clock t ≡ true → default_of s t ≡ pos 0
unfolding is_clock default_of default_in
clock_zero s t h =
    let l : 4 ≤ t = leb-true _ _ (and_first _ _ h) in
    let m : t ≤ 6 = leb-true _ _ (and_second _ _ h) in
    ap (default_in s) (type_no_data t l (omega arith))

cell_fits_lem : (s : List ℕ) (e t : ℕ) → check_of s ≡ Passed → type_exists s t ≡ true → cell_fits s e t (default_cell s t) 0 ≡ true
unfolding cell_fits clock_cell word_of default_cell is_zero
cell_fits_lem s e t ok h = go (is_clock t) refl
  where
    rest : zero_words (default_cell s t) 0 1 ≡ true
    rest = zeros (default_cell s t) 0 1 (cell_rest s t)

    go : (b : Bool) → is_clock t ≡ b → cell_fits s e t (default_cell s t) 0 ≡ true
    go true q = rw (cell_fits, q, clock_cell, clock_zero s t q) rest
    go false q = rw (cell_fits, q) (and-true _ _ (default_in_lem s ok t q h) rest)

-- ---- cells alike

alike_length : (n : ℕ) (ws : List ℤ) → length ws ≡ 8 → length (alike n ws) ≡ 8 * n
unfolding alike
alike_length zero ws e = refl
alike_length (suc n) ws e = omega (arith, length-append ws (alike n ws), alike_length n ws e)

alike_word : (n : ℕ) (ws : List ℤ) → length ws ≡ 8 → (v k : ℕ) → v < n → k < 8 → word_of (alike n ws) (8 * v + k) ≡ word_of ws k
unfolding alike
alike_word zero ws e v k l m = absurd (omega arith)
alike_word (suc n) ws e zero k l m = let f : 8 * 0 + k ≡ k = omega arith in rw f (word_front_lem ws (alike n ws) k (omega arith))
alike_word (suc n) ws e (suc v) k l m =
    let f : 8 * suc v + k ≡ 8 + (8 * v + k) = omega arith in
    rw f (word_rest ws (alike n ws) 8 (8 * v + k) e ∙ alike_word n ws e v k (omega arith) m)

-- ---- blocks one behind the other, block m of f m cells: n of them from number i on

module _ (block : ℕ → List ℤ) (f : ℕ → ℕ) (from : ℕ → ℕ → List ℤ) (none : (i : ℕ) → from 0 i ≡ []) (more : (n i : ℕ) → from (suc n) i ≡ block i ++ from n (i + 1)) where
  abbrev Whole : ℕ → ℕ → Type 0
  Whole n i = (m : ℕ) → i ≤ m → m < i + n → length (block m) ≡ 8 * f m

  blocks_length : (n i : ℕ) → Whole n i → length (from n i) + 8 * sum_below i f ≡ 8 * sum_below (i + n) f
  blocks_length zero i w = let e : i + 0 ≡ i = omega arith in rw (e, none i) (omega arith)
  blocks_length (suc n) i w =
      let e : i + suc n ≡ i + 1 + n = omega arith in
      rw (e, more n i) (omega (arith, length-append (block i) (from n (i + 1)), w i (omega arith) (omega arith), blocks_length n (i + 1) (λ m a b. w m (omega arith) (omega arith)), sum_more i f))

  -- word x of block m
  blocks_word : (n i m x y : ℕ) → Whole n i → i ≤ m → m < i + n → x < 8 * f m → y + 8 * sum_below i f ≡ 8 * sum_below m f + x → word_of (from n i) y ≡ word_of (block m) x
  blocks_word zero i m x y w a b q h = absurd (omega arith)
  blocks_word (suc n) i m x y w a b q h = elim (dec_lt i m) [
    | no here ↦
        (let e : m ≡ i = omega arith in
        let q' : x < 8 * f i = (rw e at q) in
        let h' : y + 8 * sum_below i f ≡ 8 * sum_below i f + x = (rw e at h) in
        let g : y ≡ x = omega arith in
        rw (e, g, more n i) (word_front_lem (block i) (from n (i + 1)) x (omega (arith, w i (omega arith) (omega arith)))))
    | yes later ↦
        (let rise = sum_rises f i m later in
        let g : y ≡ 8 * f i + (y - 8 * f i) = omega arith in
        rw (g, more n i) (word_rest (block i) (from n (i + 1)) (8 * f i) (y - 8 * f i) (w i (omega arith) (omega arith))
        ∙ blocks_word n (i + 1) m x (y - 8 * f i) (λ m a b. w m (omega arith) (omega arith)) (omega arith) (omega arith) q (omega (arith, sum_more i f))))
  ]

-- ---- the cells of an element

module _ (s : List ℕ) (c : Record) where
  abbrev variable_cells : ℕ → List ℤ
  variable_cells j = alike (cells_taken s ((chart_variables c).first + j)) (default_cell s (type_at s ((chart_variables c).first + j)))

  abbrev variables_from : ℕ → ℕ → List ℤ
  variables_from n j = default_cells s n ((chart_variables c).first + j)

  cells_more : (n j : ℕ) → variables_from (suc n) j ≡ variable_cells j ++ variables_from n (j + 1)
  unfolding default_cells
  cells_more n j = let e : suc ((chart_variables c).first + j) ≡ (chart_variables c).first + (j + 1) = omega arith in rw e refl

  cells-none-left : (j : ℕ) → variables_from 0 j ≡ []
  unfolding default_cells
  cells-none-left j = refl

  variable-whole : (j : ℕ) → length (variable_cells j) ≡ 8 * cells_taken s ((chart_variables c).first + j)
  variable-whole j = alike_length _ _ (cell_length s (type_at s ((chart_variables c).first + j)))

  from_zero : (chart_variables c).first + 0 ≡ (chart_variables c).first
  from_zero = omega arith

  cells_length : length (default_cells s (chart_variables c).count (chart_variables c).first) ≡ 8 * cells_before s c (chart_variables c).count
  unfolding cells_before sum_below
  cells_length =
      let e : 0 + (chart_variables c).count ≡ (chart_variables c).count = omega arith in
      let h = (rw (from_zero, e) at (blocks_length variable_cells (λ j. cells_taken s ((chart_variables c).first + j)) variables_from cells-none-left cells_more (chart_variables c).count 0 (λ j a b. variable-whole j))) in
      omega arith

  cells_word : (j v k : ℕ) → j < (chart_variables c).count → v < cells_taken s ((chart_variables c).first + j) → k < 8 → word_of (default_cells s (chart_variables c).count (chart_variables c).first) (8 * (cells_before s c j + v) + k) ≡ word_of (default_cell s (type_at s ((chart_variables c).first + j))) k
  unfolding cells_before sum_below
  cells_word j v k l h m =
      (rw from_zero at (blocks_word variable_cells (λ j. cells_taken s ((chart_variables c).first + j)) variables_from cells-none-left cells_more (chart_variables c).count 0 j (8 * v + k) (8 * (cells_before s c j + v) + k) (λ j a b. variable-whole j) (omega arith) (omega arith) (omega arith) (omega arith)))
      ∙ alike_word _ _ (cell_length s (type_at s ((chart_variables c).first + j))) v k h m

module _ (s : List ℕ) (e : ℕ) (c : Record) (p : chart_of s e ≡ Some c) where
  element-cells_are : element_cells s e ≡ default_cells s (chart_variables c).count (chart_variables c).first
  unfolding element_cells
  element-cells_are = rw (element_cells, p) refl

-- ---- all cells

module _ (s : List ℕ) (ok : check_of s ≡ Passed) where
  bound-chart : (i : ℕ) → i < elements_of s → chart_of s (externals_of s + i) ≡ None → ⊥
  bound-chart i l q =
      let x = bound-element s ok (externals_of s + i) (number_bound s i l) in
      true_false (holds-present (chart_of s (externals_of s + i)) x.1 (λ c. true) (element-chart s (externals_of s + i) x.0 x.1 x.2)) (holds_absent (chart_of s (externals_of s + i)) (λ c. true) q)

  element_length : (i : ℕ) → i < elements_of s → length (element_cells s (externals_of s + i)) ≡ 8 * cells_bound s i
  element_length i l = go (chart_of s (externals_of s + i)) refl
    where
      go : (f : Option Record) → chart_of s (externals_of s + i) ≡ f → length (element_cells s (externals_of s + i)) ≡ 8 * cells_bound s i
      go (Some c) p =
          let e : externals_of s + i - externals_of s ≡ i = omega arith in
          let count : cells_bound s i ≡ cells_before s c (chart_variables c).count = (rw e at (element-count s (externals_of s + i) c p)) in
          omega (arith, ap length (element-cells_are s (externals_of s + i) c p), cells_length s c)
      go None p = absurd (bound-chart i l p)

  abbrev element_of : ℕ → List ℤ
  element_of i = element_cells s (externals_of s + i)

  abbrev elements_from : ℕ → ℕ → List ℤ
  elements_from n i = cells_from s n (externals_of s + i)

  elements_more : (n i : ℕ) → elements_from (suc n) i ≡ element_of i ++ elements_from n (i + 1)
  unfolding cells_from
  elements_more n i = let e : suc (externals_of s + i) ≡ externals_of s + (i + 1) = omega arith in rw e refl

  elements-none : (i : ℕ) → elements_from 0 i ≡ []
  unfolding cells_from
  elements-none i = refl

  -- ---- the state

  abbrev all_cells : List ℤ
  all_cells = cells_from s (elements_of s) (externals_of s)

  from_first : externals_of s + 0 ≡ externals_of s
  from_first = omega arith

  cells_whole : length all_cells ≡ 8 * cells_of s
  unfolding cells_of sum_below
  cells_whole = let e : 0 + elements_of s ≡ elements_of s = omega arith in let h = (rw (from_first, e) at (blocks_length element_of (cells_bound s) elements_from elements-none elements_more (elements_of s) 0 (λ i a b. element_length i (omega arith)))) in omega arith

  front_whole : length (replicate 8 (pos 0) ++ all_cells) ≡ place_at s 0
  unfolding place_at
  front_whole = omega (arith, length-append (replicate 8 (pos 0)) all_cells, cells_whole)

  default_length : length (default_state s) ≡ state_length s
  unfolding default_state state_length place_at
  default_length = omega (arith, length-append (replicate 8 (pos 0) ++ all_cells) (replicate (8 * places) (pos 0)), front_whole, length-replicate (8 * places) (pos 0))

  head_word : (i : ℕ) → i < 8 → word_of (default_state s) i ≡ pos 0
  unfolding default_state word_of place_at
  head_word i l = word_front_lem (replicate 8 (pos 0) ++ all_cells) (replicate (8 * places) (pos 0)) i (omega (arith, front_whole)) ∙ word_front_lem (replicate 8 (pos 0)) all_cells i l ∙ get_or-replicate 8 i (pos 0) (pos 0) l

  place_word : (k : ℕ) → k < 8 * places → word_of (default_state s) (place_at s 0 + k) ≡ pos 0
  unfolding default_state word_of
  place_word k l = word_rest (replicate 8 (pos 0) ++ all_cells) (replicate (8 * places) (pos 0)) (place_at s 0) k front_whole ∙ get_or-replicate (8 * places) k (pos 0) (pos 0) l

  module _ (e : ℕ) (c : Record) (p : chart_of s e ≡ Some c) (j : ℕ) (l : j < (chart_variables c).count) (v : ℕ) (here : v < cells_taken s ((chart_variables c).first + j)) where
    abbrev kind : ℕ
    kind = type_at s ((chart_variables c).first + j)

    abbrev number : ℕ
    number = first_cell s e + cells_before s c j + v

    element_word_lem : (k : ℕ) → k < 8 → word_of all_cells (8 * number + k) ≡ word_of (default_cell s kind) k
    unfolding first_cell sum_below
    element_word_lem k m =
        let same : externals_of s + (e - externals_of s) ≡ e = omega (arith, element_from s e c p) in
        let inside : 8 * (cells_before s c j + v) + k < 8 * cells_bound s (e - externals_of s) = omega (arith, element-count s e c p, variable-cells s c j (chart_variables c).count l) in
        (rw (from_first, same) at (blocks_word element_of (cells_bound s) elements_from elements-none elements_more (elements_of s) 0 (e - externals_of s) (8 * (cells_before s c j + v) + k) (8 * number + k) (λ i a b. element_length i (omega arith)) (omega arith) (omega (arith, element-number s e c p)) inside (omega arith)))
        ∙ ap (λ (ws : List ℤ). word_of ws (8 * (cells_before s c j + v) + k)) (element-cells_are s e c p)
        ∙ cells_word s c j v k l here m

    default_cell_lem : Same (default_state s) (cell_of s e c j v) (default_cell s kind) 0
    unfolding default_state cell_of cell_at place_at
    default_cell_lem k m =
        let inside : 8 * number + k < 8 * cells_of s = omega (arith, cell_below s e c p j v l here) in
        let f : 8 + 8 * number + k ≡ 8 + (8 * number + k) = omega arith in
        let z : 0 + k ≡ k = omega arith in
        rw (f, z) (word_front_lem (replicate 8 (pos 0) ++ all_cells) (replicate (8 * places) (pos 0)) (8 + (8 * number + k)) (omega (arith, front_whole)) ∙ word_rest (replicate 8 (pos 0)) all_cells 8 (8 * number + k) refl ∙ element_word_lem k m)

    default_fits : cell_fits s e kind (default_state s) (cell_of s e c j v) ≡ true
    default_fits = cell_same (default_state s) (cell_of s e c j v) (default_cell s kind) 0 default_cell_lem s e kind ∙ cell_fits_lem s e kind ok (declared-exists s ok ((chart_variables c).first + j))

  nothing_waits_lem : waiting (default_state s) ≡ 0
  unfolding waiting
  nothing_waits_lem = ap nat_abs (head_word 0 (omega arith))

  default_head : head_fits (default_state s) ≡ true
  unfolding head_fits is_below
  default_head = and-true _ _ (ap (λ (z : ℤ). is_below z (places + 1)) (head_word 0 (omega arith))) (zeros (default_state s) 0 1 (λ k a b. head_word (0 + k) (omega arith)))

  place_zero : (n : ℕ) → n < places → zero_words (default_state s) (place_at s n) 0 ≡ true
  unfolding place_at
  place_zero n l = zeros (default_state s) (place_at s n) 0 (λ k a b. let e : place_at s n + k ≡ place_at s 0 + (8 * n + k) = omega arith in rw e (place_word (8 * n + k) (omega arith)))

  pub default_of_sheet : OfSheet s (default_state s)
  default_of_sheet = record {
    whole = default_length;
    head = default_head;
    cells = cells_fit_lem s (default_state s) bound-chart (element-declared s ok) default_fits;
    telegrams = telegrams_fit s (default_state s) 0 nothing_waits_lem (λ j l. absurd (omega arith));
    unused = rest-unused s (default_state s) 0 nothing_waits_lem (λ n a l. place_zero n l);
    classes = classes_fit_lem s (default_state s) (none_like s (default_state s) nothing_waits_lem);
  }
