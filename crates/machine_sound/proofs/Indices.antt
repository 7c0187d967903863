-- Where an index leads that has an array's index type.
use Prim.Native.Nat.{ℕ, ◌<◌}
use mathlib.Core.Path.{◌≡◌, refl, sym, subst}
use mathlib.Core.List.{List}
use mathlib.Core.Bool.{Bool, true, false}
use lib.Dec.{eqb}
use lib.IntN.{ℤ, nat_abs}
use borrow.Author.Tests.{eq-eqb}
use Rattle.sheet.specs.Names.{int_type, is_clock}
use Rattle.sheet.proofs.All.{true_false}
use Rattle.machine.specs.declared.Value.{Value}
use Rattle.sheet_rules.specs.declared.Typed.{Typed}
use Rattle.sheet_rules.specs.declared.Typed.TheVariants.{Expression}
use Rattle.sheet_rules.specs.declared.Checked.TheVariants.{Passed}
use Rattle.sheet_rules.specs.Fields.{type_at}
use Rattle.sheet_rules.specs.Indices.{Index, plain, over, no_index, index_at, is_plain, cells_by, cells_taken}
use Rattle.sheet_rules.specs.Types.{is_of, indexed_by}
use Rattle.sheet_rules.specs.Check.{check_of}
use Rattle.machine.specs.Values.{is_below, in_type}
use Rattle.machine.specs.Eval.{Reached, inside, out_of_range, unfit, reached}
use Rattle.machine_passed.proofs.Indices.{Covers, covers_at, clock-plain}
use Rattle.machine_states.proofs.Parts.{below_abs}
use Rattle.machine_sound.proofs.Leaves.{is_type_lem}

-- to one of n cells, or out of range
abbrev pub Leads : ℕ → Reached → Type 0
Leads n (inside k) = k < n
Leads n out_of_range = Unit {0}
Leads n unfit = ⊥

-- a number as an index of n cells
abbrev pub ranged : ℕ → ℤ → Reached
ranged n z = elim (is_below z n) [ true ↦ inside (nat_abs z) | false ↦ out_of_range ]

ranged_leads : (n : ℕ) (z : ℤ) → Leads n (ranged n z)
ranged_leads n z = go (is_below z n) refl
  where
    go : (b : Bool) → is_below z n ≡ b → Leads n (elim b [ true ↦ inside (nat_abs z) | false ↦ out_of_range ])
    go true e = below_abs z n e
    go false e = tt

module _ (s : List ℕ) where
  over-reached : (t n : ℕ) → Covers s (over t n) → (v : Value) → v.kind ≡ t → in_type s t v.word ≡ true → reached (over t n) v ≡ ranged n v.word
  unfolding reached
  over-reached t n c v k w = rw (reached, eq-eqb v.kind t k) (go (is_below v.word n) (eqb t int_type) refl refl)
    where
      go : (a b : Bool) → is_below v.word n ≡ a → eqb t int_type ≡ b → ◌≡◌ {A = Reached} (elim a [ true ↦ inside (nat_abs v.word) | false ↦ elim b [ true ↦ out_of_range | false ↦ unfit ] ]) (elim a [ true ↦ inside (nat_abs v.word) | false ↦ out_of_range ])
      go true b p q = refl
      go false true p q = refl
      go false false p q = absurd (true_false (c v.word q w) p)

  -- what a typed index is, and where each value of it leads: its type matters no more
  pub record Indexed (i : Index) (y : Typed) : Type 0 where
    pub kind : ℕ
    pub asked : is_of y kind ≡ true
    pub typed : y ≡ Expression kind
    pub goes : (v : Value) → v.kind ≡ kind → in_type s kind v.word ≡ true → reached i v ≡ ranged (cells_by i) v.word

  index_leads : (i : Index) → Covers s i → (y : Typed) → indexed_by i y ≡ true → Indexed i y
  unfolding indexed_by cells_by
  index_leads plain c y h = absurd (true_false h refl)
  index_leads (over t n) c y h = record { kind = t; asked = h; typed = is_type_lem y t h; goes = over-reached t n c }
  index_leads no_index c y h = absurd (true_false h refl)

  module _ (d : ℕ) (y : Typed) (h : indexed_by (index_at s d) y ≡ true) where
    pub array_index : Indexed (index_at s d) y
    array_index = index_leads (index_at s d) (covers_at s d) y h

    pub array_leads : (v : Value) → v.kind ≡ array_index.kind → in_type s array_index.kind v.word ≡ true → Leads (cells_taken s d) (reached (index_at s d) v)
    unfolding cells_taken
    array_leads v k w = subst (Leads (cells_taken s d)) (sym (array_index.goes v k w)) (ranged_leads (cells_taken s d) v.word)

-- an array is no plain variable
not_plain : (i : Index) (y : Typed) → indexed_by i y ≡ true → is_plain i ≡ false
unfolding indexed_by is_plain
not_plain plain y h = absurd (true_false h refl)
not_plain (over t n) y h = refl
not_plain no_index y h = refl

-- its elements are data
pub array_data : (s : List ℕ) → check_of s ≡ Passed → (d : ℕ) (y : Typed) → indexed_by (index_at s d) y ≡ true → is_clock (type_at s d) ≡ false
array_data s ok d y h = go (is_clock (type_at s d)) refl
  where
    go : (b : Bool) → is_clock (type_at s d) ≡ b → b ≡ false
    go true e = absurd (true_false (clock-plain s ok d e) (not_plain (index_at s d) y h))
    go false e = refl
