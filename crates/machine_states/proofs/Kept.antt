-- Each change of a state of the sheet leaves a state of the sheet.
use Rattle.std.specs.Prelude.{Some}
use Prim.Native.Nat.{ℕ, ◌+◌, ◌-◌, ◌<◌, ◌≤◌}
use mathlib.Core.Path.{◌≡◌, ap, ◌∙◌}
use mathlib.Core.List.{List}
use mathlib.Core.Bool.{true, false}
use native.Mathlib.Omega.{arith}
use native.Mathlib.Decide.{dec_lt, ℕ_discrete}
use lib.ListN.{length, set, length-set}
use lib.IntN.{ℤ, pos, nat_abs}
use borrow.Author.Tests.{lt-ltb}
use Rattle.sheet.specs.declared.Record.{Record}
use Rattle.sheet.specs.Names.{chart_variables, is_clock}
use Rattle.sheet.proofs.All.{and_second, and-true}
use Rattle.machine.proofs.Appending.{appending}
use Rattle.machine.specs.declared.Telegram.{Telegram}
use Rattle.sheet_rules.specs.Fields.{type_at}
use Rattle.sheet_rules.specs.Indices.{cells_taken, cells_before}
use Rattle.machine.specs.Values.{is_below, in_type, chart_of, first_cell}
use Rattle.machine.specs.State.{places, cell_at, cell_of, place_at, state_length, word_of, waiting, telegram_of, waiting_like, class_limit, put_words, with_telegram, without_telegram, last_refusal, Changed, on, off, lost, appended}
use Rattle.machine.specs.Valid.{cell_fits, telegram_fits, head_fits, cells_fit, OfSheet}
use Rattle.machine_states.proofs.Frame.{Same, zero_from_lem, zero_same, telegram_same, cell_same}
use Rattle.machine_states.proofs.Words.{length-put, word_put_in, word_put_before, word_put_behind, word_set, word_set_other, with_length, with_head_lem, with_waiting, with_before, with_behind, with_last_lem, with_earlier, without_length, without_head_lem, without_waiting, without_before, without_last_lem, without_closed, without_earlier, without_later}
use Rattle.machine_states.proofs.Classes.{at_most, classes_fit_lem, like_kept, with_most, without_most}
use Rattle.machine_states.proofs.Elements.{cell_below, cells_apart}
use Rattle.machine_states.proofs.Parts.{zeros, is_counted_lem, waiting_limit, head_zero, has_chart, has_declared, cell_of_lem, telegram_of_lem, unused_of, cells_fit_lem, telegrams_fit, rest-unused}

-- a change leaves a state of the sheet, or is refused
abbrev pub ChangeKept : List ℕ → Changed → Type 0
ChangeKept s (on st) = OfSheet s st
ChangeKept s (off n) = (6 ≤ n) × (n ≤ last_refusal)
ChangeKept s lost = ⊥

-- ---- a cell

module _ (s : List ℕ) (st : List ℤ) (o : OfSheet s st) (e : ℕ) (c : Record) (p : chart_of s e ≡ Some c) (j : ℕ) (l : j < (chart_variables c).count) (v : ℕ) (here : v < cells_taken s ((chart_variables c).first + j)) where
  abbrev cell : ℕ
  cell = cell_of s e c j v

  abbrev kind : ℕ
  kind = type_at s ((chart_variables c).first + j)

  pub cell_inside : cell + 8 ≤ place_at s 0
  unfolding cell_of cell_at place_at
  cell_inside = omega (arith, cell_below s e c p j v l here)

  cell_late : 8 ≤ cell
  unfolding cell_of cell_at
  cell_late = omega arith

  pub cell_in_state : cell + 8 ≤ length st
  unfolding state_length place_at
  cell_in_state = omega (arith, cell_inside, o.whole)

  module _ (st' : List ℤ) (whole : length st' ≡ length st) (before : (i : ℕ) → i < cell → word_of st' i ≡ word_of st i) (behind : (i : ℕ) → cell + 8 ≤ i → word_of st' i ≡ word_of st i) where
    head-kept : head_fits st' ≡ true
    unfolding head_fits
    head-kept = and-true _ _ (ap (λ (z : ℤ). is_below z (places + 1)) (before 0 (omega (arith, cell_late))) ∙ is_counted_lem s st o) (zero_same st' 0 st 0 (λ k m. before (0 + k) (omega (arith, cell_late))) 1 ∙ head_zero s st o)

    waiting_kept : waiting st' ≡ waiting st
    unfolding waiting
    waiting_kept = ap nat_abs (before 0 (omega (arith, cell_late)))

    place_kept : (n : ℕ) → Same st' (place_at s n) st (place_at s n)
    unfolding place_at
    place_kept n k m = behind (place_at s n + k) (omega (arith, cell_inside))

    -- another cell lies before or behind
    other_kept_lem : (i : ℕ) → (i ≡ first_cell s e + cells_before s c j + v → ⊥) → Same st' (cell_at i) st (cell_at i)
    unfolding cell_of cell_at
    other_kept_lem i n k m = elim (dec_lt i (first_cell s e + cells_before s c j + v)) [
      | yes q ↦ before (cell_at i + k) (omega arith)
      | no q ↦ behind (cell_at i + k) (omega arith)
    ]

    pub cell_kept : cell_fits s e kind st' cell ≡ true → OfSheet s st'
    unfolding telegram_of cell_of
    cell_kept fits = record {
      whole = whole ∙ o.whole;
      head = head-kept;
      cells = cells_fit_lem s st' (has_chart s st o) (has_declared s st o) each;
      telegrams = telegrams_fit s st' (waiting st) waiting_kept (λ n m. ap (telegram_fits s) (telegram_same st' (place_at s n) st (place_at s n) (place_kept n)) ∙ telegram_of_lem s st o n m);
      unused = rest-unused s st' (waiting st) waiting_kept (λ n m q. zero_same st' (place_at s n) st (place_at s n) (place_kept n) 0 ∙ unused_of s st o n m q);
      classes = classes_fit_lem s st' (like_kept s st st' waiting_kept (λ n. telegram_same st' (place_at s n) st (place_at s n) (place_kept n)) (at_most s st o.classes));
    }
      where
        each : (e' : ℕ) (c' : Record) → chart_of s e' ≡ Some c' → (j' : ℕ) → j' < (chart_variables c').count → (v' : ℕ) → v' < cells_taken s ((chart_variables c').first + j') → cell_fits s e' (type_at s ((chart_variables c').first + j')) st' (cell_of s e' c' j' v') ≡ true
        each e' c' p' j' l' v' m' = elim (ℕ_discrete (first_cell s e' + cells_before s c' j' + v') (first_cell s e + cells_before s c j + v)) [
          | yes q ↦ (let same = cells_apart s e' c' p' e c p j' j v' v l' l m' here q in rw (same.0, same.1, same.2, same.3) fits)
          | no q ↦ cell_same st' (cell_of s e' c' j' v') st (cell_of s e' c' j' v') (other_kept_lem (first_cell s e' + cells_before s c' j' + v') q) s e' _ ∙ cell_of_lem s st o e' c' p' j' l' v' m'
        ]

  -- a cell written anew
  pub cell_put : (ws : List ℤ) → length ws ≡ 8 → cell_fits s e kind ws 0 ≡ true → OfSheet s (put_words st cell ws)
  cell_put ws n fits =
      let inside : cell + length ws ≤ length st = omega (arith, cell_in_state) in
      cell_kept (put_words st cell ws) (length-put st cell ws inside) (word_put_before st cell ws inside) (λ i m. word_put_behind st cell ws inside i (omega arith))
      (cell_same (put_words st cell ws) cell ws 0 (λ k m. let z : 0 + k ≡ k = omega arith in rw z (word_put_in st cell ws inside k (omega arith))) s e kind ∙ fits)

  -- a value assigned
  pub data_set : (z : ℤ) → is_clock kind ≡ false → in_type s kind z ≡ true → OfSheet s (set st cell z)
  unfolding cell_fits
  data_set z n t =
      cell_kept (set st cell z) (length-set st cell z) (λ i m. word_set_other st cell i z (λ q. omega arith)) (λ i m. word_set_other st cell i z (λ q. omega arith))
      (rw (cell_fits, n) (and-true _ _ (ap (in_type s kind) (word_set st cell z (omega (arith, cell_in_state))) ∙ t) (zero_from_lem (set st cell z) cell st cell 1 (λ k m q. word_set_other st cell (cell + k) z (λ q. omega arith)) ∙ and_second _ _ (rw (cell_fits, n) at (cell_of_lem s st o e c p j l v here)))))

-- ---- telegrams

-- the head, with another number of telegrams
head_of : (s : List ℕ) (st : List ℤ) → OfSheet s st → (st' : List ℤ) (n : ℕ) → word_of st' 0 ≡ pos n → n ≤ places → ((i : ℕ) → 0 < i → i < 8 → word_of st' i ≡ word_of st i) → head_fits st' ≡ true
unfolding head_fits is_below
head_of s st o st' n e l h = and-true _ _ (ap (λ (z : ℤ). is_below z (places + 1)) e ∙ lt-ltb n (places + 1) (omega arith)) (zero_from_lem st' 0 st 0 1 (λ k m q. h (0 + k) (omega arith) (omega arith)) ∙ head_zero s st o)

-- the cells, where all their words are as they were
cells_of : (s : List ℕ) (st : List ℤ) → OfSheet s st → (st' : List ℤ) → ((i : ℕ) → 0 < i → i < place_at s 0 → word_of st' i ≡ word_of st i) → cells_fit s st' ≡ true
cells_of s st o st' h = cells_fit_lem s st' (has_chart s st o) (has_declared s st o) (λ e c p j l v m. cell_same st' (cell_of s e c j v) st (cell_of s e c j v) (λ k b. h (cell_of s e c j v + k) (omega (arith, cell_late s st o e c p j l v m)) (omega (arith, cell_inside s st o e c p j l v m))) s e _ ∙ cell_of_lem s st o e c p j l v m)

pub telegram-kept : (s : List ℕ) (st : List ℤ) → OfSheet s st → (t : Telegram) → waiting st < places → waiting_like s st t < class_limit → telegram_fits s t ≡ true → OfSheet s (with_telegram s st t)
unfolding place_at
telegram-kept s st o t room few fits = record {
  whole = with_length s st t o.whole room ∙ o.whole;
  head = head_of s st o (with_telegram s st t) (waiting st + 1) (with_head_lem s st t o.whole room) (omega arith) (λ i p l. with_before s st t o.whole room i p (omega arith));
  cells = cells_of s st o (with_telegram s st t) (λ i p l. with_before s st t o.whole room i p (omega arith));
  telegrams = telegrams_fit s (with_telegram s st t) (waiting st + 1) (with_waiting s st t o.whole room) (λ j l. elim (dec_lt j (waiting st)) [
    | yes q ↦ ap (telegram_fits s) (with_earlier s st t o.whole room j q) ∙ telegram_of_lem s st o j q
    | no q ↦ (let e : j ≡ waiting st = omega arith in rw e (ap (telegram_fits s) (with_last_lem s st t o.whole room) ∙ fits))
  ]);
  unused = rest-unused s (with_telegram s st t) (waiting st + 1) (with_waiting s st t o.whole room) (λ j m l. zero_same (with_telegram s st t) (place_at s j) st (place_at s j) (λ k n. with_behind s st t o.whole room (place_at s j + k) (omega arith)) 0 ∙ unused_of s st o j (omega arith) l);
  classes = classes_fit_lem s (with_telegram s st t) (with_most s st t o.whole room (at_most s st o.classes) few);
}

pub appended-kept : (s : List ℕ) (st : List ℤ) → OfSheet s st → (t : Telegram) → telegram_fits s t ≡ true → ChangeKept s (appended s st t)
appended-kept s st o t fits = appending s st t (is_counted_lem s st o) (ChangeKept s) (λ room few. telegram-kept s st o t room few fits) (omega arith, omega arith) (omega arith, omega arith)

pub removed_kept : (s : List ℕ) (st : List ℤ) → OfSheet s st → (j : ℕ) → j < waiting st → OfSheet s (without_telegram s st j)
unfolding place_at
removed_kept s st o j here = record {
  whole = without_length s st j o.whole here limit ∙ o.whole;
  head = head_of s st o (without_telegram s st j) (waiting st - 1) (without_head_lem s st j o.whole here limit) (omega (arith, limit)) (λ i p l. without_before s st j o.whole here limit i p (omega arith));
  cells = cells_of s st o (without_telegram s st j) (λ i p l. without_before s st j o.whole here limit i p (omega arith));
  telegrams = telegrams_fit s (without_telegram s st j) (waiting st - 1) (without_waiting s st j o.whole here limit) (λ k l. elim (dec_lt k j) [
    | yes q ↦ ap (telegram_fits s) (without_earlier s st j o.whole here limit k q) ∙ telegram_of_lem s st o k (omega arith)
    | no q ↦ ap (telegram_fits s) (without_later s st j o.whole here limit k (omega arith) (omega (arith, limit))) ∙ telegram_of_lem s st o (k + 1) (omega arith)
  ]);
  unused = rest-unused s (without_telegram s st j) (waiting st - 1) (without_waiting s st j o.whole here limit) (λ k m l. elim (dec_lt (k + 1) places) [
    | yes q ↦ zero_same (without_telegram s st j) (place_at s k) st (place_at s (k + 1)) (without_closed s st j o.whole here limit k (omega arith) q) 0 ∙ unused_of s st o (k + 1) (omega arith) q
    | no q ↦ (let e : k ≡ places - 1 = omega arith in rw e (zeros (without_telegram s st j) (place_at s (places - 1)) 0 (λ i a b. without_last_lem s st j o.whole here limit i b)))
  ]);
  classes = classes_fit_lem s (without_telegram s st j) (without_most s st j o.whole here limit (at_most s st o.classes));
}
  where
    limit : waiting st ≤ places
    limit = waiting_limit s st o
