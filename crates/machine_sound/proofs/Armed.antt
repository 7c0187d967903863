-- Only operators 36 and 37 arm.
use Prim.Native.Nat.{ℕ, zero, suc, ◌<◌, ◌≤◌}
use mathlib.Core.Path.{◌≡◌, refl, ap}
use mathlib.Core.List.{List, [], ◌∷◌}
use mathlib.Core.Bool.{Bool, true, false, not, ◌&&◌}
use lib.ListN.{drop}
use native.Mathlib.Omega.{arith}
use lib.Dec.{ltb, eqb}
use borrow.Author.Tests.{ltb-true, ltb-false, eqb-false, not-true}
use Rattle.sheet.specs.All.{◌and◌}
use Rattle.sheet.specs.Table.{Line, look_up}
use Rattle.sheet.specs.Names.{timer_type, is_clock}
use Rattle.sheet.proofs.All.{true_false}
use Rattle.sheet_rules.specs.Forms.{Form, literal, read, unary, binary, clock, read_element, skip, assign, external_send, internal_send, arm, clock_act, call, choice, loop, sequence, assign_element, unknown, form_table, form_of}
use Rattle.sheet_rules.specs.Types.{clock_of}

is_arm : Form → Bool
is_arm literal = false
is_arm read = false
is_arm unary = false
is_arm binary = false
is_arm clock = false
is_arm read_element = false
is_arm skip = false
is_arm assign = false
is_arm external_send = false
is_arm internal_send = false
is_arm arm = true
is_arm clock_act = false
is_arm call = false
is_arm choice = false
is_arm loop = false
is_arm sequence = false
is_arm assign_element = false
is_arm unknown = false

-- a line of the table that is another's is passed
past : (b : Line Form) (bs : List (Line Form)) (op : ℕ) → is_arm b.means ≡ false → look_up (b ∷ bs) unknown op ≡ arm → (b.below ≤ op) × (look_up bs unknown op ≡ arm)
unfolding look_up is_arm
past b bs op n e = go (ltb op b.below) refl e
  where
    go : (t : Bool) → ltb op b.below ≡ t → ◌≡◌ {A = Form} (elim t [ true ↦ b.means | false ↦ look_up bs unknown op ]) arm → (b.below ≤ op) × (look_up bs unknown op ≡ arm)
    go true q h = absurd (true_false (ap is_arm h) n)
    go false q h = (ltb-false op b.below q, h)

-- a line that arms, or a later one
here : (b : Line Form) (bs : List (Line Form)) (op : ℕ) → look_up (b ∷ bs) unknown op ≡ arm → (look_up bs unknown op ≡ arm → ⊥) → op < b.below
unfolding look_up
here b bs op e n = go (ltb op b.below) refl e
  where
    go : (t : Bool) → ltb op b.below ≡ t → ◌≡◌ {A = Form} (elim t [ true ↦ b.means | false ↦ look_up bs unknown op ]) arm → op < b.below
    go true q h = ltb-true op b.below q
    go false q h = absurd (n h)

-- the first n lines are others'
abbrev others : ℕ → List (Line Form) → Bool
others zero l = true
others (suc n) [] = true
others (suc n) (b ∷ bs) = not (is_arm b.means) && others n bs

both : (a b : Bool) → a && b ≡ true → (a ≡ true) × (b ≡ true)
both true b q = (refl, q)
both false b q = absurd (true_false q refl)

pasts : (n : ℕ) (l : List (Line Form)) (op : ℕ) → others n l ≡ true → look_up l unknown op ≡ arm → look_up (drop n l) unknown op ≡ arm
pasts zero l op q e = e
pasts (suc n) [] op q e = e
pasts (suc n) (b ∷ bs) op q e = let p = both _ _ q in pasts n bs op p.1 (past b bs op (not-true _ p.0) e).1

arms : (op : ℕ) → form_of op ≡ arm → (36 ≤ op) × (op < 38)
unfolding form_of is_arm look_up
arms op e =
    let p = past (record { below = 36; means = internal_send }) (drop 12 form_table) op refl (pasts 11 form_table op refl e) in
    (p.0, here (record { below = 38; means = arm }) (drop 13 form_table) op p.1 (λ h. true_false (ap is_arm (pasts 6 (drop 13 form_table) op refl h)) refl))

-- it is a Timeout or a Cycler that is armed
pub armed-clock : (op : ℕ) → form_of op ≡ arm → (is_clock (clock_of op) ≡ true) × (eqb (clock_of op) timer_type ≡ false)
unfolding clock_of is_clock ◌and◌
armed-clock op e = go (eqb op 36) (eqb op 37) refl refl
  where
    go : (a b : Bool) → eqb op 36 ≡ a → eqb op 37 ≡ b → (is_clock (clock_of op) ≡ true) × (eqb (clock_of op) timer_type ≡ false)
    go true b p q = rw (clock_of, p) (refl, refl)
    go false true p q = rw (clock_of, p, q) (refl, refl)
    go false false p q = absurd (let a = arms op e in let h = a.0 in let k = a.1 in let n = eqb-false op 36 p in let m = eqb-false op 37 q in omega arith)
