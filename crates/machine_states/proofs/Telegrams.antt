-- Telegrams that may wait in a state of the sheet.
use Rattle.std.specs.Prelude.{Some}
use Prim.Native.Nat.{ℕ, zero, suc, ◌<◌}
use mathlib.Core.Path.{◌≡◌, refl, sym, ap, ◌∙◌}
use mathlib.Core.List.{List}
use mathlib.Core.Bool.{true, false, not, true≢false}
use native.Mathlib.Omega.{arith}
use lib.ListN.{get_or}
use lib.Dec.{leb, ltb}
use lib.IntN.{ℤ, pos, negsuc}
use borrow.Author.Tests.{lt-ltb, le-ltb, le-leb}
use Rattle.sheet.specs.declared.Record.{Record}
use Rattle.sheet.specs.All.{◌and◌}
use Rattle.sheet.specs.Names.{external, internal}
use Rattle.sheet.proofs.All.{and_second, and-true, false-and}
use Rattle.machine.specs.declared.Telegram.{Telegram}
use Rattle.sheet_rules.specs.Fields.{components_of, externals_of, ports_of}
use Rattle.machine.specs.Values.{is_below, same_word, chart_of}
use Rattle.machine.specs.State.{is_internal}
use Rattle.machine.specs.Valid.{name_fits, reaction_awaits, datum_of, internal_fits, external_fits, telegram_fits}
use Rattle.machine.specs.Run.{telegram, datum}
use Rattle.machine_states.proofs.Frame.{name_same}
use Rattle.machine_states.proofs.Elements.{element-bound, element_from, element-below}

pub internal-fits : (s : List ℕ) (t : Telegram) → is_below t.sender (components_of s) ≡ true → is_below t.receiver (components_of s) ≡ true → is_internal t ≡ true → internal_fits s t ≡ true → telegram_fits s t ≡ true
unfolding telegram_fits
internal-fits s t a b i h = rw (telegram_fits, i) (and-true _ _ a (and-true _ _ b h))

pub internal_part : (s : List ℕ) (t : Telegram) → telegram_fits s t ≡ true → is_internal t ≡ true → internal_fits s t ≡ true
unfolding telegram_fits
internal_part s t h i = rw i at (and_second _ _ (and_second _ _ h))

-- a port is a number from 0 on
with_port : (t : Telegram) (n : ℕ) → is_below t.port n ≡ true → is_internal t ≡ false
unfolding is_below
with_port t n h = go t.port refl h
  where
    go : (z : ℤ) → t.port ≡ z → is_below z n ≡ true → is_internal t ≡ false
    go (pos k) e q = ap (λ (z : ℤ). same_word z (negsuc 0)) e ∙ false-and _ _ refl
    go (negsuc k) e q = absurd (true≢false (sym q))

pub external-fits : (s : List ℕ) (t : Telegram) → is_below t.sender (components_of s) ≡ true → is_below t.receiver (components_of s) ≡ true → is_below t.sender (externals_of s) and is_below t.receiver (externals_of s) ≡ false → is_below t.port (ports_of s) ≡ true → name_fits s external t.name (datum_of t) ≡ true → telegram_fits s t ≡ true
unfolding telegram_fits external_fits
external-fits s t a b n p h = rw (telegram_fits, with_port t (ports_of s) p) (and-true _ _ a (and-true _ _ b (and-true _ _ (ap not n) (and-true _ _ p h))))

same_data : (t : Telegram) (zs : List ℤ) → t.d0 ≡ datum zs 0 → t.d1 ≡ datum zs 1 → t.d2 ≡ datum zs 2 → t.d3 ≡ datum zs 3 → (j : ℕ) → j < 4 → datum_of t j ≡ get_or zs j (pos 0)
same_data t zs a b c d zero l = a
same_data t zs a b c d (suc zero) l = b
same_data t zs a b c d (suc (suc zero)) l = c
same_data t zs a b c d (suc (suc (suc zero))) l = d
same_data t zs a b c d (suc (suc (suc (suc j)))) l = absurd (omega arith)

-- an internal telegram of a bound element to itself
pub own_telegram : (s : List ℕ) (e : ℕ) (c : Record) → chart_of s e ≡ Some c → (n : ℕ) (zs : List ℤ) → name_fits s internal (pos n) (λ j. get_or zs j (pos 0)) ≡ true → reaction_awaits s e (pos n) ≡ true → telegram_fits s (telegram (pos e) (pos e) (negsuc 0) n zs) ≡ true
unfolding internal_fits is_below
own_telegram s e c p n zs h a =
    internal-fits s (telegram (pos e) (pos e) (negsuc 0) n zs) (lt-ltb e (components_of s) (element-below s e c p)) (lt-ltb e (components_of s) (element-below s e c p)) (and-true true true refl refl)
    (and-true _ _ (and-true (leb e e) (leb e e) (le-leb e e (omega arith)) (le-leb e e (omega arith))) (and-true _ _ (element-bound s e c p) (and-true _ _ (name_same s internal (pos n) (pos n) (datum_of (telegram (pos e) (pos e) (negsuc 0) n zs)) (λ j. get_or zs j (pos 0)) refl (same_data (telegram (pos e) (pos e) (negsuc 0) n zs) zs refl refl refl refl) ∙ h) a)))

-- an external telegram of a bound element
pub sent-telegram : (s : List ℕ) (e : ℕ) (c : Record) → chart_of s e ≡ Some c → (receiver port : ℤ) (n : ℕ) (zs : List ℤ) → is_below receiver (components_of s) ≡ true → is_below port (ports_of s) ≡ true → name_fits s external (pos n) (λ j. get_or zs j (pos 0)) ≡ true → telegram_fits s (telegram (pos e) receiver port n zs) ≡ true
unfolding is_below
sent-telegram s e c p receiver port n zs a b h =
    external-fits s (telegram (pos e) receiver port n zs) (lt-ltb e (components_of s) (element-below s e c p)) a (false-and (ltb e (externals_of s)) _ (le-ltb e (externals_of s) (element_from s e c p))) b
    (name_same s external (pos n) (pos n) (datum_of (telegram (pos e) receiver port n zs)) (λ j. get_or zs j (pos 0)) refl (same_data (telegram (pos e) receiver port n zs) zs refl refl refl refl) ∙ h)
