-- What a state of the sheet says of each of its parts, and what is enough for a part.
use Rattle.std.specs.Prelude.{Option, Some, None}
use Prim.Native.Nat.{ℕ, ◌+◌, ◌-◌, ◌<◌, ◌≤◌}
use mathlib.Core.Path.{◌≡◌, refl, sym, ap, ◌∙◌}
use mathlib.Core.List.{List}
use mathlib.Core.Bool.{true, true≢false}
use native.Mathlib.Omega.{arith}
use lib.ListN.{length}
use lib.IntN.{ℤ, pos, negsuc, nat_abs}
use borrow.Author.Tests.{ltb-true, leb-true, lt-ltb}
use Rattle.sheet.specs.declared.Record.{Record}
use Rattle.sheet.specs.Names.{declarations, chart_variables}
use Rattle.sheet.specs.Sheet.{count_of}
use Rattle.sheet.proofs.All.{true_false, and_first, and_second, and-true, all-at}
use Rattle.sheet.specs.All.{all_below}
use Rattle.sheet_rules.specs.Fields.{declared_so, type_at, externals_of, elements_of}
use Rattle.sheet_rules.specs.Indices.{cells_taken}
use Rattle.machine.specs.Values.{is_below, is_zero, same_word, chart_of}
use Rattle.machine.specs.State.{places, cell_of, place_at, state_length, word_of, waiting, counted, telegram_of}
use Rattle.machine.specs.Valid.{zero_words, cell_fits, variable_fits, element_fits, telegram_fits, head_fits, cells_fit, waiting_fit, unused_zero, content_fits, OfSheet}
use Rattle.sheet_rules.proofs.Fields.{holds-present, holds_absent}
use Rattle.machine_passed.proofs.Declared.{declared_so_lem, declared-below, declared_true}
use Rattle.machine_states.proofs.Frame.{all_true}
use Rattle.machine_states.proofs.Elements.{element-number, element_from}

-- ---- words

pub below_abs : (z : ℤ) (n : ℕ) → is_below z n ≡ true → nat_abs z < n
unfolding is_below
below_abs (pos k) n h = ltb-true k n h
below_abs (negsuc k) n h = absurd (true≢false (sym h))

pub below_pos : (z : ℤ) (n : ℕ) → is_below z n ≡ true → z ≡ pos (nat_abs z)
unfolding is_below
below_pos (pos k) n h = refl
below_pos (negsuc k) n h = absurd (true≢false (sym h))

pub below_more : (z : ℤ) (n m : ℕ) → n ≤ m → is_below z n ≡ true → is_below z m ≡ true
unfolding is_below
below_more (pos k) n m l h = lt-ltb k m (omega (arith, ltb-true k n h))
below_more (negsuc k) n m l h = h

pub same_word_lem : (a b : ℤ) → same_word a b ≡ true → a ≡ b
same_word_lem (pos a) (pos b) e = ap pos (let h = leb-true a b (and_first _ _ e) in let k = leb-true b a (and_second _ _ e) in omega arith)
same_word_lem (pos a) (negsuc b) e = absurd (true_false (and_first _ _ e) refl)
same_word_lem (negsuc a) (pos b) e = absurd (true_false (and_second _ _ e) refl)
same_word_lem (negsuc a) (negsuc b) e = ap negsuc (let h = leb-true b a (and_first _ _ e) in let k = leb-true a b (and_second _ _ e) in omega arith)

pub zeros : (st : List ℤ) (at from : ℕ) → ((k : ℕ) → from ≤ k → k < 8 → word_of st (at + k) ≡ pos 0) → zero_words st at from ≡ true
unfolding zero_words is_zero
zeros st at from h = all_true (8 - from) _ (λ k l. let e : at + from + k ≡ at + (from + k) = omega arith in rw (e, h (from + k) (omega arith) (omega arith)) refl)

-- ---- the whole

module _ (s : List ℕ) (st : List ℤ) where
  pub content_of_lem : length st ≡ state_length s → content_fits s st ≡ true → OfSheet s st
  unfolding content_fits
  content_of_lem l h = record { whole = l; head = and_first _ _ h; cells = and_first _ _ (and_second _ _ h); telegrams = and_first _ _ (and_second _ _ (and_second _ _ h)); unused = and_first _ _ (and_second _ _ (and_second _ _ (and_second _ _ h))); classes = and_second _ _ (and_second _ _ (and_second _ _ (and_second _ _ h))) }

  pub of_content : OfSheet s st → content_fits s st ≡ true
  unfolding content_fits
  of_content o = and-true _ _ o.head (and-true _ _ o.cells (and-true _ _ o.telegrams (and-true _ _ o.unused o.classes)))

-- ---- what holds of a state of the sheet

module _ (s : List ℕ) (st : List ℤ) (o : OfSheet s st) where
  pub is_counted_lem : counted st ≡ true
  unfolding head_fits
  is_counted_lem = and_first _ _ o.head

  pub waiting_limit : waiting st ≤ places
  unfolding waiting
  waiting_limit = omega (arith, below_abs (word_of st 0) (places + 1) is_counted_lem)

  pub head_zero : zero_words st 0 1 ≡ true
  unfolding head_fits
  head_zero = and_second _ _ o.head

  element-fits : (i : ℕ) → i < elements_of s → element_fits s st (externals_of s + i) ≡ true
  unfolding cells_fit
  element-fits i l = all-at (elements_of s) _ o.cells i l

  -- every element has a chart
  pub has_chart : (i : ℕ) → i < elements_of s → chart_of s (externals_of s + i) ≡ None → ⊥
  unfolding element_fits
  has_chart i l q = true≢false (sym (element-fits i l) ∙ holds_absent (chart_of s (externals_of s + i)) _ q)

  variable_of : (e : ℕ) (c : Record) → chart_of s e ≡ Some c → (j : ℕ) → j < (chart_variables c).count → declared_so s ((chart_variables c).first + j) (λ t. all_below (cells_taken s ((chart_variables c).first + j)) (λ k. cell_fits s e t st (cell_of s e c j k))) ≡ true
  unfolding element_fits variable_fits
  variable_of e c p j l =
      let same : externals_of s + (e - externals_of s) ≡ e = omega (arith, element_from s e c p) in
      let fits : element_fits s st e ≡ true = rw same at (element-fits (e - externals_of s) (element-number s e c p)) in
      all-at (chart_variables c).count _ (sym (holds-present (chart_of s e) c _ p) ∙ fits) j l

  pub cell_of_lem : (e : ℕ) (c : Record) → chart_of s e ≡ Some c → (j : ℕ) → j < (chart_variables c).count → (k : ℕ) → k < cells_taken s ((chart_variables c).first + j) → cell_fits s e (type_at s ((chart_variables c).first + j)) st (cell_of s e c j k) ≡ true
  cell_of_lem e c p j l k m = all-at _ _ (declared_true s _ (λ t. all_below (cells_taken s ((chart_variables c).first + j)) (λ k. cell_fits s e t st (cell_of s e c j k))) (variable_of e c p j l)) k m

  -- it is declared
  pub has_declared : (e : ℕ) (c : Record) → chart_of s e ≡ Some c → (j : ℕ) → j < (chart_variables c).count → (chart_variables c).first + j < count_of s declarations
  has_declared e c p j l = declared-below s _ (λ t. all_below (cells_taken s ((chart_variables c).first + j)) (λ k. cell_fits s e t st (cell_of s e c j k))) (variable_of e c p j l)

  pub telegram_of_lem : (j : ℕ) → j < waiting st → telegram_fits s (telegram_of s st j) ≡ true
  unfolding waiting_fit
  telegram_of_lem j l = all-at (waiting st) _ o.telegrams j l

  pub unused_of : (j : ℕ) → waiting st ≤ j → j < places → zero_words st (place_at s j) 0 ≡ true
  unfolding unused_zero
  unused_of j l m = let e : waiting st + (j - waiting st) ≡ j = omega arith in rw e at (all-at (places - waiting st) (λ k. zero_words st (place_at s (waiting st + k)) 0) o.unused (j - waiting st) (omega arith))

-- ---- what is enough

module _ (s : List ℕ) (st : List ℤ) where
  pub cells_fit_lem : ((i : ℕ) → i < elements_of s → chart_of s (externals_of s + i) ≡ None → ⊥) →
      ((e : ℕ) (c : Record) → chart_of s e ≡ Some c → (j : ℕ) → j < (chart_variables c).count → (chart_variables c).first + j < count_of s declarations) →
      ((e : ℕ) (c : Record) → chart_of s e ≡ Some c → (j : ℕ) → j < (chart_variables c).count → (k : ℕ) → k < cells_taken s ((chart_variables c).first + j) →
      cell_fits s e (type_at s ((chart_variables c).first + j)) st (cell_of s e c j k) ≡ true) → cells_fit s st ≡ true
  unfolding cells_fit element_fits variable_fits
  cells_fit_lem some declared fits = all_true (elements_of s) _ (λ i l. go i l (chart_of s (externals_of s + i)) refl)
    where
      go : (i : ℕ) → i < elements_of s → (f : Option Record) → chart_of s (externals_of s + i) ≡ f → element_fits s st (externals_of s + i) ≡ true
      go i l (Some c) p = holds-present (chart_of s (externals_of s + i)) c _ p ∙ all_true (chart_variables c).count _ (λ j m. declared_so_lem s _ _ (declared (externals_of s + i) c p j m) ∙ all_true _ _ (fits (externals_of s + i) c p j m))
      go i l None p = absurd (some i l p)

  pub telegrams_fit : (n : ℕ) → waiting st ≡ n → ((j : ℕ) → j < n → telegram_fits s (telegram_of s st j) ≡ true) → waiting_fit s st ≡ true
  unfolding waiting_fit
  telegrams_fit n e h = all_true (waiting st) _ (λ j l. h j (omega arith))

  pub rest-unused : (n : ℕ) → waiting st ≡ n → ((j : ℕ) → n ≤ j → j < places → zero_words st (place_at s j) 0 ≡ true) → unused_zero s st ≡ true
  unfolding unused_zero
  rest-unused n e h = all_true (places - waiting st) _ (λ k l. h (waiting st + k) (omega arith) (omega arith))
