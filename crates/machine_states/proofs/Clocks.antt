-- The words of a running clock, its telegram, and what its next value may be.
use Rattle.std.specs.Prelude.{Some}
use Prim.Native.Nat.{ℕ, zero, suc, ◌+◌, ◌-◌, ◌<◌, ◌≤◌}
use mathlib.Core.Path.{◌≡◌, refl, sym, ap, ◌∙◌}
use mathlib.Core.List.{List, [], ◌∷◌}
use mathlib.Core.Bool.{Bool, true, false, true≢false}
use native.Mathlib.Omega.{arith}
use lib.ListN.{get_or, replicate, get_or-replicate}
use lib.Dec.{ltb, leb, eqb}
use lib.IntN.{ℤ, pos, negsuc, nat_abs, ◌+ℤ◌, ◌-ℤ◌}
use lib.Signed.{le_z, lt_z}
use borrow.Author.Tests.{ltb-true, leb-true, lt-ltb, le-ltb, le-leb}
use Rattle.sheet.specs.declared.Record.{Record}
use Rattle.sheet.specs.All.{◌and◌, all_below}
use Rattle.sheet.specs.Names.{names, internal, timer_type, timeout_type, is_clock}
use Rattle.sheet.specs.Sheet.{count_of}
use Rattle.sheet.proofs.All.{true_false, and_first, and_second, and-true}
use Rattle.machine.specs.Values.{fits32, is_below, is_zero, chart_of, same_word}
use Rattle.machine.specs.State.{word_of}
use Rattle.machine.specs.Valid.{name_fits, reaction_awaits, zero_words, running_clock, clock_cell, cell_fits, telegram_fits}
use Rattle.machine.specs.Run.{telegram}
use Rattle.machine_states.proofs.Frame.{name_same, zero_from_lem}
use Rattle.machine_states.proofs.Telegrams.{own_telegram}
use Rattle.machine_states.proofs.Parts.{zeros, below_pos}

-- ---- values

minus_one : (a : ℕ) → 1 ≤ a → pos a -ℤ pos 1 ≡ pos (a - 1)
minus_one a l = rw (le-ltb a 1 l) refl

-- "Timer: plus 1"
pub timer_value : (w : ℤ) → le_z (pos 0) w ≡ true → le_z (pos 0) (w +ℤ pos 1) ≡ true
timer_value (pos a) h = le-leb 0 (a + 1) (omega arith)
timer_value (negsuc a) h = absurd (true≢false (sym h))

-- a Timer that isn't at the last of the Ints
pub timer_int : (w : ℤ) → fits32 w ≡ true → le_z (pos 0) w ≡ true → same_word w (pos 2147483647) ≡ false → fits32 (w +ℤ pos 1) ≡ true
unfolding fits32
timer_int (pos a) f h n =
    let m : a < 2147483648 = ltb-true a 2147483648 f in
    let k : 2147483647 ≤ a → ⊥ = (λ q. true_false (and-true (leb a 2147483647) (leb 2147483647 a) (le-leb a 2147483647 (omega arith)) (le-leb 2147483647 a q)) n) in
    lt-ltb (a + 1) 2147483648 (below_last a k)
  where
    below_last : (a : ℕ) → (2147483647 ≤ a → ⊥) → a + 1 < 2147483648
    below_last a k = omega arith
timer_int (negsuc a) f h n = absurd (true≢false (sym h))

-- "1 ≤ value ≤ period", above 1: minus 1
pub timeout_value : (w period : ℤ) → le_z (pos 1) w and le_z w period ≡ true → same_word w (pos 1) ≡ false → le_z (pos 1) (w -ℤ pos 1) and le_z (w -ℤ pos 1) period ≡ true
timeout_value (pos a) (pos b) h n =
    let l : 1 ≤ a = leb-true 1 a (and_first (leb 1 a) (leb a b) h) in
    let m : a ≤ b = leb-true a b (and_second (leb 1 a) (leb a b) h) in
    let k : a ≤ 1 → ⊥ = (λ q. true_false (and-true (leb a 1) (leb 1 a) (le-leb a 1 q) (le-leb 1 a l)) n) in
    let two : 2 ≤ a = from_two a k in
    rw (minus_one a l) (and-true (leb 1 (a - 1)) (leb (a - 1) b) (le-leb 1 (a - 1) (omega arith)) (le-leb (a - 1) b (omega arith)))
  where
    from_two : (a : ℕ) → (a ≤ 1 → ⊥) → 2 ≤ a
    from_two a k = omega arith
timeout_value (pos a) (negsuc b) h n = absurd (true≢false (sym (and_second (leb 1 a) false h)))
timeout_value (negsuc a) b h n = absurd (true≢false (sym (and_first false _ h)))

-- "0 ≤ value < period", above 0: minus 1
pub cycler_value : (w period : ℤ) → le_z (pos 0) w and lt_z w period ≡ true → is_zero w ≡ false → le_z (pos 0) (w -ℤ pos 1) and lt_z (w -ℤ pos 1) period ≡ true
unfolding is_zero
cycler_value (pos zero) b h n = absurd (true≢false n)
cycler_value (pos (suc a)) (pos b) h n =
    let m : suc a < b = ltb-true (suc a) b (and_second (leb 0 (suc a)) (ltb (suc a) b) h) in
    rw (minus_one (suc a) (omega arith)) (and-true (leb 0 (suc a - 1)) (ltb (suc a - 1) b) (le-leb 0 (suc a - 1) (omega arith)) (lt-ltb (suc a - 1) b (omega arith)))
cycler_value (pos (suc a)) (negsuc b) h n = absurd (true≢false (sym (and_second (leb 0 (suc a)) false h)))
cycler_value (negsuc a) b h n = absurd (true≢false (sym (and_first false _ h)))

-- "value becomes period − 1"
pub cycler_again : (w period : ℤ) → le_z (pos 0) w and lt_z w period ≡ true → le_z (pos 0) (period -ℤ pos 1) and lt_z (period -ℤ pos 1) period ≡ true
cycler_again (pos a) (pos b) h =
    let m : a < b = ltb-true a b (and_second (leb 0 a) (ltb a b) h) in
    rw (minus_one b (omega arith)) (and-true (leb 0 (b - 1)) (ltb (b - 1) b) (le-leb 0 (b - 1) (omega arith)) (lt-ltb (b - 1) b (omega arith)))
cycler_again (pos a) (negsuc b) h = absurd (true≢false (sym (and_second (leb 0 a) false h)))
cycler_again (negsuc a) b h = absurd (true≢false (sym (and_first false _ h)))

-- a value from 0 on, up to a period that is an Int
within : (n : ℕ) (value period : ℤ) → le_z (pos n) value ≡ true → le_z value period ≡ true → fits32 period ≡ true → fits32 value ≡ true
unfolding fits32
within n (pos a) (pos b) h m f = lt-ltb a 2147483648 (omega (arith, leb-true a b m, ltb-true b 2147483648 f))
within n (pos a) (negsuc b) h m f = absurd (true≢false (sym m))
within n (negsuc a) b h m f = absurd (true≢false (sym h))

less : (a b : ℤ) → lt_z a b ≡ true → le_z a b ≡ true
less (pos a) (pos b) h = le-leb a b (let l = ltb-true a b h in omega arith)
less (pos a) (negsuc b) h = absurd (true≢false (sym h))
less (negsuc a) (pos b) h = refl
less (negsuc a) (negsuc b) h = le-leb b a (let l = ltb-true b a h in omega arith)

-- ---- the words of a running clock

-- what a clock's value and period have to be, by its type
unfoldable pub value_fits : ℕ → ℤ → ℤ → Bool
value_fits t value period =
    fits32 value
    and fits32 period
    and elim (eqb t timer_type) [
      | true ↦ le_z (pos 0) value
      | false ↦ elim (eqb t timeout_type) [ true ↦ le_z (pos 1) value and le_z value period | false ↦ le_z (pos 0) value and lt_z value period ]
    ]

module _ (t : ℕ) (value period : ℤ) (int : fits32 period ≡ true) where
  pub timer_fits : eqb t timer_type ≡ true → fits32 value ≡ true → le_z (pos 0) value ≡ true → value_fits t value period ≡ true
  unfolding value_fits
  timer_fits q f h = rw (value_fits, q) (and-true _ _ f (and-true _ _ int h))

  pub timeout_fits : eqb t timer_type ≡ false → eqb t timeout_type ≡ true → le_z (pos 1) value and le_z value period ≡ true → value_fits t value period ≡ true
  unfolding value_fits
  timeout_fits n q h = rw (value_fits, n, q) (and-true _ _ (within 1 value period (and_first _ _ h) (and_second _ _ h) int) (and-true _ _ int h))

  pub cycler_fits : eqb t timer_type ≡ false → eqb t timeout_type ≡ false → le_z (pos 0) value and lt_z value period ≡ true → value_fits t value period ≡ true
  unfolding value_fits
  cycler_fits n q h = rw (value_fits, n, q) (and-true _ _ (within 0 value period (and_first _ _ h) (less value period (and_second _ _ h)) int) (and-true _ _ int h))

module _ (s : List ℕ) (e t : ℕ) (st : List ℤ) (at : ℕ) where
  pub running : cell_fits s e t st at ≡ true → is_clock t ≡ true → is_zero (word_of st at) ≡ false → running_clock s e t st at ≡ true
  unfolding cell_fits clock_cell
  running h c n = let k : clock_cell s e t st at ≡ true = (rw (cell_fits, c) at h) in and_second (is_below (word_of st at) 2) _ (rw (clock_cell, n) at k)

  pub running-below : cell_fits s e t st at ≡ true → is_clock t ≡ true → is_zero (word_of st at) ≡ false → is_below (word_of st at) 2 ≡ true
  unfolding cell_fits clock_cell
  running-below h c n = let k : clock_cell s e t st at ≡ true = (rw (cell_fits, c) at h) in and_first (is_below (word_of st at) 2) _ (rw (clock_cell, n) at k)

  module _ (h : running_clock s e t st at ≡ true) where
    pub value-int : fits32 (word_of st (at + 1)) ≡ true
    unfolding running_clock
    value-int = and_first _ _ h

    pub period-int : fits32 (word_of st (at + 2)) ≡ true
    unfolding running_clock
    period-int = and_first _ _ (and_second _ _ h)

    pub timer_runs : eqb t timer_type ≡ true → le_z (pos 0) (word_of st (at + 1)) ≡ true
    unfolding running_clock
    timer_runs q = and_first _ _ (and_second _ _ (and_second _ _ (rw (running_clock, q) at h)))

    pub timer_zeros : eqb t timer_type ≡ true → zero_words st at 2 ≡ true
    unfolding running_clock
    timer_zeros q = and_second _ _ (and_second _ _ (and_second _ _ (rw (running_clock, q) at h)))

    pub timeout_runs : eqb t timer_type ≡ false → eqb t timeout_type ≡ true → le_z (pos 1) (word_of st (at + 1)) and le_z (word_of st (at + 1)) (word_of st (at + 2)) ≡ true
    unfolding running_clock
    timeout_runs n q = and_first _ _ (and_second _ _ (and_second _ _ (rw (running_clock, n, q) at h)))

    pub cycler_runs : eqb t timer_type ≡ false → eqb t timeout_type ≡ false → le_z (pos 0) (word_of st (at + 1)) and lt_z (word_of st (at + 1)) (word_of st (at + 2)) ≡ true
    unfolding running_clock
    cycler_runs n q = and_first _ _ (and_second _ _ (and_second _ _ (rw (running_clock, n, q) at h)))

    pub clock-name : eqb t timer_type ≡ false → name_fits s internal (word_of st (at + 3)) (λ j. word_of st (at + 4 + j)) ≡ true
    unfolding running_clock
    clock-name n = and_first _ _ (and_second _ _ (and_second _ _ (and_second _ _ (rw (running_clock, n) at h))))

    -- it is a name of the sheet
    pub clock-named : eqb t timer_type ≡ false → is_below (word_of st (at + 3)) (count_of s names) ≡ true
    unfolding name_fits
    clock-named n = and_first _ _ (clock-name n)

    pub clock_awaits : eqb t timer_type ≡ false → reaction_awaits s e (word_of st (at + 3)) ≡ true
    unfolding running_clock
    clock_awaits n = and_second _ _ (and_second _ _ (and_second _ _ (and_second _ _ (rw (running_clock, n) at h))))

named-runs : (s : List ℕ) (e t : ℕ) (st : List ℤ) (at : ℕ) → eqb t timer_type ≡ false → value_fits t (word_of st (at + 1)) (word_of st (at + 2)) ≡ true → name_fits s internal (word_of st (at + 3)) (λ j. word_of st (at + 4 + j)) ≡ true → reaction_awaits s e (word_of st (at + 3)) ≡ true → running_clock s e t st at ≡ true
unfolding running_clock value_fits
named-runs s e t st at n v h a = go (eqb t timeout_type) refl
  where
    go : (b : Bool) → eqb t timeout_type ≡ b → running_clock s e t st at ≡ true
    go true q = let w = rw (value_fits, n, q) at v in rw (running_clock, n, q) (and-true _ _ (and_first _ _ w) (and-true _ _ (and_first _ _ (and_second _ _ w)) (and-true _ _ (and_second _ _ (and_second _ _ w)) (and-true _ _ h a))))
    go false q = let w = rw (value_fits, n, q) at v in rw (running_clock, n, q) (and-true _ _ (and_first _ _ w) (and-true _ _ (and_first _ _ (and_second _ _ w)) (and-true _ _ (and_second _ _ (and_second _ _ w)) (and-true _ _ h a))))

clock-fits : (s : List ℕ) (e t : ℕ) (st : List ℤ) (at : ℕ) → is_clock t ≡ true → is_zero (word_of st at) ≡ false → is_below (word_of st at) 2 ≡ true → running_clock s e t st at ≡ true → cell_fits s e t st at ≡ true
unfolding cell_fits clock_cell
clock-fits s e t st at c z b h = rw (cell_fits, c, clock_cell, z) (and-true _ _ b h)

-- a running clock has another value, its other words are as they were
module _ (s : List ℕ) (e t : ℕ) (st : List ℤ) (at : ℕ) (st' : List ℤ) (h : running_clock s e t st at ≡ true) (tail : (k : ℕ) → 2 ≤ k → k < 8 → word_of st' (at + k) ≡ word_of st (at + k)) where
  runs_on : value_fits t (word_of st' (at + 1)) (word_of st (at + 2)) ≡ true → running_clock s e t st' at ≡ true
  unfolding running_clock value_fits
  runs_on v = go (eqb t timer_type) refl
    where
      go : (b : Bool) → eqb t timer_type ≡ b → running_clock s e t st' at ≡ true
      go true q =
          let w = rw (value_fits, q) at v in
          rw (running_clock, q) (and-true _ _ (and_first _ _ w) (and-true _ _ (ap fits32 (tail 2 (omega arith) (omega arith)) ∙ and_first _ _ (and_second _ _ w)) (and-true _ _ (and_second _ _ (and_second _ _ w)) (zero_from_lem st' at st at 2 tail ∙ timer_zeros s e t st at h q))))
      go false q =
          named-runs s e t st' at q (ap (value_fits t (word_of st' (at + 1))) (tail 2 (omega arith) (omega arith)) ∙ v)
          (name_same s internal _ _ _ _ (tail 3 (omega arith) (omega arith)) (λ j l. let f : at + 4 + j ≡ at + (4 + j) = omega arith in rw f (tail (4 + j) (omega arith) (omega arith))) ∙ clock-name s e t st at h q)
          (ap (reaction_awaits s e) (tail 3 (omega arith) (omega arith)) ∙ clock_awaits s e t st at h q)

  pub clock-on : is_clock t ≡ true → is_zero (word_of st' at) ≡ false → is_below (word_of st' at) 2 ≡ true → value_fits t (word_of st' (at + 1)) (word_of st (at + 2)) ≡ true → cell_fits s e t st' at ≡ true
  clock-on c z b v = clock-fits s e t st' at c z b (runs_on v)

-- ---- the telegram of a clock

pub clock-telegram : (s : List ℕ) (e t : ℕ) (c : Record) (st : List ℤ) (at : ℕ) → chart_of s e ≡ Some c → running_clock s e t st at ≡ true → eqb t timer_type ≡ false → telegram_fits s (telegram (pos e) (pos e) (negsuc 0) (nat_abs (word_of st (at + 3))) (word_of st (at + 4) ∷ word_of st (at + 5) ∷ word_of st (at + 6) ∷ word_of st (at + 7) ∷ [])) ≡ true
clock-telegram s e t c st at p h n =
    own_telegram s e c p (nat_abs (word_of st (at + 3))) zs
    (name_same s internal (pos (nat_abs (word_of st (at + 3)))) (word_of st (at + 3)) (λ j. get_or zs j (pos 0)) (λ j. word_of st (at + 4 + j)) (sym name) same ∙ clock-name s e t st at h n)
    (ap (reaction_awaits s e) (sym name) ∙ clock_awaits s e t st at h n)
  where
    zs : List ℤ
    zs = word_of st (at + 4) ∷ word_of st (at + 5) ∷ word_of st (at + 6) ∷ word_of st (at + 7) ∷ []

    name : word_of st (at + 3) ≡ pos (nat_abs (word_of st (at + 3)))
    name = below_pos (word_of st (at + 3)) (count_of s names) (clock-named s e t st at h n)

    same : (j : ℕ) → j < 4 → get_or zs j (pos 0) ≡ word_of st (at + 4 + j)
    same zero l = let f : at + 4 + 0 ≡ at + 4 = omega arith in rw f refl
    same (suc zero) l = let f : at + 4 + 1 ≡ at + 5 = omega arith in rw f refl
    same (suc (suc zero)) l = let f : at + 4 + 2 ≡ at + 6 = omega arith in rw f refl
    same (suc (suc (suc zero))) l = let f : at + 4 + 3 ≡ at + 7 = omega arith in rw f refl
    same (suc (suc (suc (suc j)))) l = absurd (omega arith)

-- ---- cells written anew

-- "all zero if stopped"
pub stopped_fits : (s : List ℕ) (e t : ℕ) → is_clock t ≡ true → cell_fits s e t (replicate 8 (pos 0)) 0 ≡ true
unfolding cell_fits clock_cell word_of is_zero
stopped_fits s e t c = rw (cell_fits, c, clock_cell) (zeros (replicate 8 (pos 0)) 0 1 (λ k l m. get_or-replicate 8 (0 + k) (pos 0) (pos 0) (omega arith)))

-- "starting a Timer sets 0"
pub started-fits : (s : List ℕ) (e t : ℕ) → t ≡ timer_type → cell_fits s e t (pos 1 ∷ replicate 7 (pos 0)) 0 ≡ true
unfolding cell_fits clock_cell word_of is_zero is_below running_clock is_clock ◌and◌ zero_words all_below fits32
started-fits s e t q = rw q refl

-- an armed Timeout has its period as value, an armed Cycler 0
pub armed-fits : (s : List ℕ) (e t : ℕ) → is_clock t ≡ true → eqb t timer_type ≡ false → (value period : ℤ) (n : ℕ) (zs : List ℤ) → value_fits t value period ≡ true → name_fits s internal (pos n) (λ j. get_or zs j (pos 0)) ≡ true → reaction_awaits s e (pos n) ≡ true → cell_fits s e t (pos 1 ∷ value ∷ period ∷ pos n ∷ get_or zs 0 (pos 0) ∷ get_or zs 1 (pos 0) ∷ get_or zs 2 (pos 0) ∷ get_or zs 3 (pos 0) ∷ []) 0 ≡ true
unfolding is_zero is_below word_of
armed-fits s e t c k value period n zs v h a =
    clock-fits s e t ws 0 c refl refl (named-runs s e t ws 0 k v (name_same s internal (pos n) (pos n) (λ j. word_of ws (0 + 4 + j)) (λ j. get_or zs j (pos 0)) refl same ∙ h) a)
  where
    ws : List ℤ
    ws = pos 1 ∷ value ∷ period ∷ pos n ∷ get_or zs 0 (pos 0) ∷ get_or zs 1 (pos 0) ∷ get_or zs 2 (pos 0) ∷ get_or zs 3 (pos 0) ∷ []

    same : (j : ℕ) → j < 4 → word_of ws (0 + 4 + j) ≡ get_or zs j (pos 0)
    same zero l = refl
    same (suc zero) l = refl
    same (suc (suc zero)) l = refl
    same (suc (suc (suc zero))) l = refl
    same (suc (suc (suc (suc j)))) l = absurd (omega arith)

-- "Arming a Timeout sets its value to the period, a Cycler's to 0", where the period is at least 1
pub armed-value : (t : ℕ) (period : ℤ) → fits32 period ≡ true → eqb t timer_type ≡ false → le_z (pos 1) period ≡ true → value_fits t (elim (eqb t timeout_type) [ true ↦ period | false ↦ pos 0 ]) period ≡ true
armed-value t (negsuc k) f n h = absurd (true≢false (sym h))
armed-value t (pos k) f n h = go (eqb t timeout_type) refl
  where
    value : Bool → ℤ
    value b = elim b [ true ↦ pos k | false ↦ pos 0 ]

    go : (b : Bool) → eqb t timeout_type ≡ b → value_fits t (value (eqb t timeout_type)) (pos k) ≡ true
    go true q = ap (λ (b : Bool). value_fits t (value b) (pos k)) q ∙ timeout_fits t (pos k) (pos k) f n q (and-true (leb 1 k) (leb k k) h (le-leb k k (omega arith)))
    go false q = ap (λ (b : Bool). value_fits t (value b) (pos k)) q ∙ cycler_fits t (pos 0) (pos k) f n q (and-true true (ltb 0 k) refl (lt-ltb 0 k (leb-true 1 k h)))
