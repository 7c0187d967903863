-- What the code of a clock's tick comes to.
use Rattle.std.specs.Prelude.{Ok, Err}
use Prim.Native.Nat.{ℕ, zero, suc, ◌+◌, ◌-◌, ◌<◌, ◌≤◌}
use mathlib.Core.Path.{◌≡◌, refl, sym, ap, ◌∙◌}
use mathlib.Core.List.{List, [], ◌∷◌}
use mathlib.Core.Bool.{Bool, true, false, true≢false}
use native.Mathlib.Omega.{arith}
use lib.ListN.{length, set, replicate}
use lib.Seq.{set-get_or, sets-eq}
use lib.IntN.{ℤ, pos, negsuc, nat_abs, ◌+ℤ◌, ◌-ℤ◌}
use lib.Signed.{mag, le_z}
use mir.Syntax.{w32}
use mir.Val.{of_z, to_z}
use borrow.Author.Tests.{ltb-true, lt-ltb, le-ltb, eq-eqb, ne_eqb}
use Rattle.sheet.specs.Names.{names}
use Rattle.sheet.specs.Sheet.{count_of}
use Rattle.sheet.proofs.All.{true_false}
use Rattle.machine.proofs.Appending.{appending}
use Rattle.machine.specs.Values.{fits32, is_below, is_zero, same_word}
use Rattle.machine.specs.State.{place_at, state_length, word_of, put_words, Changed, on, off, lost, appended}
use Rattle.machine.specs.Play.{then_slice, clock_telegram, ticks}
use Rattle.machine_states.proofs.Words.{with_length, with_before}
use Rattle.machine_states.proofs.Clocks.{timer_int}
use Rattle.machine_states.proofs.Ticks.{fires-named}
use Rattle.engine_queue.specs.Laid.{Laid}
use Rattle.engine_rows.proofs.Laws.{given}
use Rattle.engine_queue.specs.Changed.{changed_to}
use Rattle.engine_ticks.specs.Running.{Running}

-- ---- words

pub next_int : (w : ℤ) → mag w < 2147483648 → le_z (pos 0) w ≡ true → same_word w (pos 2147483647) ≡ false → mag (w +ℤ pos 1) < 2147483648
unfolding fits32
next_int w h from q = ltb-true _ _ (timer_int w (lt-ltb _ _ h) from q)

pub last-int : (w : ℤ) → mag w < 2147483648 → le_z (pos 0) w ≡ true → mag (w -ℤ pos 1) < 2147483648
last-int (pos zero) h from = omega arith
last-int (pos (suc a)) h from = let e : pos (suc a) -ℤ pos 1 ≡ pos (suc a - 1) = rw (le-ltb (suc a) 1 (omega arith)) refl in rw e (omega arith)
last-int (negsuc a) h from = absurd (true≢false (sym from))

-- a word read and written less 1
pub one_less : (w : ℤ) → mag w < 2147483648 → le_z (pos 0) w ≡ true → to_z w32 (of_z w32 (to_z w32 (of_z w32 w) -ℤ pos 1)) ≡ w -ℤ pos 1
one_less w h from = rw (given w h) (given (w -ℤ pos 1) (last-int w h from))

-- a word is 0 where its bits are
pub bits_zero : (z : ℤ) → mag z < 2147483648 → of_z w32 z ≡ 0 → is_zero z ≡ true
unfolding is_zero
bits_zero (pos k) h e = eq-eqb k 0 e
bits_zero (negsuc k) h e = absurd (omega arith)

pub bits_some : (z : ℤ) → mag z < 2147483648 → (of_z w32 z ≡ 0 → ⊥) → is_zero z ≡ false
unfolding is_zero
bits_some (pos k) h n = ne_eqb k 0 n
bits_some (negsuc k) h n = refl

pub number_back_lem : (z : ℤ) → le_z (pos 0) z ≡ true → z ≡ pos (nat_abs z)
number_back_lem (pos k) h = refl
number_back_lem (negsuc k) h = absurd (true≢false (sym h))

-- ---- what an answer says

pub then_refused : (r : Changed) (n : ℕ) (st st' : List ℤ) (K : List ℤ → Changed) → r ≡ changed_to (Err n) st → then_slice r K ≡ changed_to (Err n) st'
unfolding changed_to then_slice
then_refused r n st st' K e = rw e refl

pub then_done : (r : Changed) (u : Unit {0}) (st : List ℤ) (K : List ℤ → Changed) → r ≡ changed_to (Ok u) st → then_slice r K ≡ K st
unfolding changed_to then_slice
then_done r u st K e = rw e refl

pub goes_on_lem : (r : Changed) (u : Unit {0}) (st : List ℤ) → r ≡ changed_to (Ok u) st → r ≡ on st
unfolding changed_to
goes_on_lem r u st e = e

pub on-words : (a b : List ℤ) → on a ≡ on b → a ≡ b
on-words a b e = ap words e
  where
    words : Changed → List ℤ
    words (on st) = st
    words (off n) = a
    words lost = a

pub on-off : (a : List ℤ) (n : ℕ) → off n ≡ on a → ⊥
on-off a n e = true_false {b = true} refl (ap refusal (sym e))
  where
    refusal : Changed → Bool
    refusal (on st) = true
    refusal (off n) = false
    refusal lost = false

-- ---- the telegram of a clock

pub laid : (st : List ℤ) (at : ℕ) → Running st at → Laid st
laid st at r = record { long = let l = r.inside in omega arith; head = r.head }

module _ (s : List ℕ) (e at : ℕ) (st : List ℤ) where
  abbrev fired : Changed
  fired = appended s st (clock_telegram e st at)

  -- it lies behind the cells
  pub fired_word : length st ≡ state_length s → Running st at → (st' : List ℤ) → fired ≡ on st' → (word_of st' at ≡ pos 1) × (length st' ≡ length st)
  unfolding state_length place_at
  fired_word whole r st' = appending s st (clock_telegram e st at) r.head (λ x. x ≡ on st' → (word_of st' at ≡ pos 1) × (length st' ≡ length st))
      (λ room few f.
      rw (sym (on-words _ _ f)) (with_before s st (clock_telegram e st at) whole room at (let l = r.behind in omega arith) (let l = r.inside in omega arith) ∙ r.runs, with_length s st (clock_telegram e st at) whole room))
      (λ f. absurd (on-off st' 8 f))
      (λ f. absurd (on-off st' 12 f))

-- the two words of a Cycler that fires; the first is 1 already
pub put_two : (st : List ℤ) (at : ℕ) (z : ℤ) → at + 2 ≤ length st → word_of st at ≡ pos 1 → put_words st at (pos 1 ∷ z ∷ []) ≡ set st (at + 1) z
unfolding put_words word_of
put_two st at z l e =
    let f : at + 1 ≡ suc at = omega arith in
    let same : set st at (pos 1) ≡ st = rw (sym e) (set-get_or st at (pos 0)) in
    sym (sets-eq (pos 1 ∷ z ∷ []) st at l) ∙ rw (f, same) refl

-- ---- a tick

module _ (s : List ℕ) (e at : ℕ) (st : List ℤ) where
  -- the clock's name is one of the sheet
  abbrev Named : Type 0
  Named = is_below (word_of st (at + 3)) (count_of s names) ≡ true

  pub timer_last : same_word (word_of st (at + 1)) (pos 2147483647) ≡ true → ticks s e 4 at st ≡ off 6
  unfolding ticks
  timer_last q = rw (ticks, q) refl

  pub timer_goes : same_word (word_of st (at + 1)) (pos 2147483647) ≡ false → ticks s e 4 at st ≡ on (set st (at + 1) (word_of st (at + 1) +ℤ pos 1))
  unfolding ticks
  timer_goes q = rw (ticks, q) refl

  pub timeout_goes : same_word (word_of st (at + 1)) (pos 1) ≡ false → ticks s e 5 at st ≡ on (set st (at + 1) (word_of st (at + 1) -ℤ pos 1))
  unfolding ticks
  timeout_goes q = rw (ticks, q) refl

  pub timeout_fires : Named → same_word (word_of st (at + 1)) (pos 1) ≡ true → ticks s e 5 at st ≡ then_slice (appended s st (clock_telegram e st at)) (λ st'. on (put_words st' at (replicate 8 (pos 0))))
  unfolding ticks
  timeout_fires n q = rw (ticks, q) (fires-named s e at (replicate 8 (pos 0)) st n)

  pub cycler_goes : is_zero (word_of st (at + 1)) ≡ false → ticks s e 6 at st ≡ on (set st (at + 1) (word_of st (at + 1) -ℤ pos 1))
  unfolding ticks
  cycler_goes q = rw (ticks, q) refl

  pub cycler_fires : Named → is_zero (word_of st (at + 1)) ≡ true → ticks s e 6 at st ≡ then_slice (appended s st (clock_telegram e st at)) (λ st'. on (put_words st' at (pos 1 ∷ (word_of st (at + 2) -ℤ pos 1) ∷ [])))
  unfolding ticks
  cycler_fires n q = rw (ticks, q) (fires-named s e at (pos 1 ∷ (word_of st (at + 2) -ℤ pos 1) ∷ []) st n)
