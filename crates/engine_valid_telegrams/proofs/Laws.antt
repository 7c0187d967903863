-- Laws of the test of a telegram, one for a path of the code.
use Prim.Native.Nat.{ℕ, zero, suc, ◌+◌, ◌<◌}
use mathlib.Core.Path.{◌≡◌, refl, ap}
use mathlib.Core.List.{List}
use mathlib.Core.Bool.{Bool, true, false, not}
use native.Mathlib.Omega.{arith}
use lib.IntN.{ℤ, pos}
use lib.Signed.{le_z}
use Rattle.sheet.specs.All.{◌and◌}
use Rattle.sheet.proofs.All.{true_false, and-true, and_first, and_second}
use Rattle.sheet_rules.specs.Fields.{components_of}
use Rattle.machine.specs.declared.Telegram.{Telegram}
use Rattle.machine.specs.Values.{is_below}
use Rattle.machine.specs.State.{word_of, telegram_in, is_internal}
use Rattle.machine.specs.Valid.{name_fits, datum_of, internal_fits, external_fits, telegram_fits}
use Rattle.machine_states.proofs.Frame.{name_same}
use Rattle.sheet_types.proofs.Laws.{no, so}
use Rattle.engine_valid_words.proofs.Laws.{below-from}

datum_of_lem : (st : List ℤ) (at j : ℕ) → j < 4 → word_of st (at + 3 + 1 + j) ≡ datum_of (telegram_in st at) j
unfolding telegram_in
datum_of_lem st at zero l = let e : at + 3 + 1 + 0 ≡ at + 4 = omega arith in ap (word_of st) e
datum_of_lem st at (suc zero) l = let e : at + 3 + 1 + 1 ≡ at + 5 = omega arith in ap (word_of st) e
datum_of_lem st at (suc (suc zero)) l = let e : at + 3 + 1 + 2 ≡ at + 6 = omega arith in ap (word_of st) e
datum_of_lem st at (suc (suc (suc zero))) l = let e : at + 3 + 1 + 3 ≡ at + 7 = omega arith in ap (word_of st) e
datum_of_lem st at (suc (suc (suc (suc j)))) l = absurd (omega arith)

pub name_of : (s : List ℕ) (k : ℕ) (st : List ℤ) (at : ℕ) → name_fits s k (word_of st (at + 3)) (λ j. word_of st (at + 3 + 1 + j)) ≡ name_fits s k (telegram_in st at).name (datum_of (telegram_in st at))
unfolding telegram_in
name_of s k st at = name_same s k _ _ _ _ refl (datum_of_lem st at)

-- a telegram whose ends are tested, b being the answer
module _ (s : List ℕ) (t : Telegram) (b : Bool) (p : b ≡ is_below t.sender (components_of s) and is_below t.receiver (components_of s)) where
  pub no_component : not b ≡ true → false ≡ telegram_fits s t
  unfolding telegram_fits ◌and◌
  no_component h = go (is_below t.sender (components_of s)) (is_below t.receiver (components_of s)) refl refl
    where
      go : (x y : Bool) → is_below t.sender (components_of s) ≡ x → is_below t.receiver (components_of s) ≡ y → false ≡ telegram_fits s t
      go true true e f = absurd (true_false (and-true _ _ e f) (no p h))
      go true false e f = rw (telegram_fits, e, f) refl
      go false y e f = rw (telegram_fits, e) refl

  module _ (h : not b ≡ false) where
    sender_in : is_below t.sender (components_of s) ≡ true
    sender_in = and_first _ _ (so p h)

    receiver_in : is_below t.receiver (components_of s) ≡ true
    receiver_in = and_second _ _ (so p h)

    pub receiver_from : le_z (pos 0) t.receiver ≡ true
    receiver_from = below-from t.receiver _ receiver_in

    pub internal-one : is_internal t ≡ true → internal_fits s t ≡ telegram_fits s t
    unfolding telegram_fits ◌and◌
    internal-one i = rw (telegram_fits, sender_in, receiver_in, i) refl

    pub external-one : is_internal t ≡ false → external_fits s t ≡ telegram_fits s t
    unfolding telegram_fits ◌and◌
    external-one i = rw (telegram_fits, sender_in, receiver_in, i) refl
