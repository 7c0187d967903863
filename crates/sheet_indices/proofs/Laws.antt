-- Which numbers are which index, and the index of a declaration.
use Rattle.std.specs.Prelude.{Some, None}
use Prim.Native.Nat.{ℕ, zero, suc, ◌-◌, ◌≤◌, ◌<◌}
use mathlib.Core.Path.{◌≡◌, refl, sym, ap, ◌∙◌}
use mathlib.Core.List.{List}
use mathlib.Core.Bool.{Bool, true, false, not}
use native.Mathlib.Omega.{arith}
use lib.ListN.{drop}
use lib.Dec.{T, ltb, eqb}
use borrow.Author.Tests.{ne_eqb, le-leb, lt-leb}
use Rattle.sheet.specs.declared.Record.{Record}
use Rattle.sheet.specs.Table.{look_up}
use Rattle.sheet.specs.Sheet.{count_of, record_of}
use Rattle.sheet.proofs.All.{true-and}
use Rattle.sheet.proofs.Table.{lines_past, line_at, all_meet_lem, all_meet}
use Rattle.sheet_rules.specs.Fields.{members_of}
use Rattle.sheet_rules.specs.Indices.{over, no_index, index_table, index_of, index_at, is_plain}
use Rattle.sheet_rules.specs.Shape.{type_exists, index_exists}

-- ---- numbers; 0 to 3 are read off the table

module _ (s : List ℕ) (i : ℕ) where
  pub index_none : 4 ≤ i → i < 8 → index_of s i ≡ no_index
  unfolding index_of
  index_none h l = line_at no_index (index_table s i) 4 4 i _ _ refl tt h l

  pub index_enumerated : 8 ≤ i → i < 60001 → index_of s i ≡ over i (members_of s (i - 8))
  unfolding index_of
  index_enumerated h l = line_at no_index (index_table s i) 5 8 i _ _ refl tt h l

  pub index_number : 60001 ≤ i → i < 60065 → index_of s i ≡ over 1 (i - 60000)
  unfolding index_of
  index_number h l = line_at no_index (index_table s i) 6 60001 i _ _ refl tt h l

  pub index_past_lem : 60065 ≤ i → index_of s i ≡ no_index
  unfolding index_of look_up
  index_past_lem h = lines_past no_index 7 (index_table s i) 60065 i tt h

-- "0 stays a plain variable", and nothing else is one
pub plain_zero : (s : List ℕ) (i : ℕ) → is_plain (index_of s i) ≡ eqb i 0
unfolding index_of is_plain look_up all_meet_lem
plain_zero s zero = refl
plain_zero s (suc i) = ap is_plain (lines_past no_index 1 (index_table s (suc i)) 1 (suc i) tt (omega arith)) ∙ no_T _ (all_meet no_index (λ x. not (is_plain x)) (drop 1 (index_table s (suc i))) (suc i) tt) ∙ sym (ne_eqb (suc i) 0 (λ z. omega arith))
  where
    no_T : (b : Bool) → T (not b) → b ≡ false
    no_T true q = absurd q
    no_T false q = refl

-- ---- indices that are there

-- none, Bool, Component, Port
pub low_exists : (s : List ℕ) (i : ℕ) → i < 4 → index_exists s (index_of s i) ≡ true
unfolding index_exists type_exists index_of look_up
low_exists s zero l = refl
low_exists s (suc zero) l = refl
low_exists s (suc (suc zero)) l = refl
low_exists s (suc (suc (suc zero))) l = refl
low_exists s (suc (suc (suc (suc i)))) l = absurd (omega arith)

pub type_there : (s : List ℕ) (t : ℕ) → 8 ≤ t → type_exists s t ≡ ltb (t - 8) (count_of s 1)
unfolding type_exists
type_there s t h = rw (type_exists, lt-leb t 6 (omega arith)) (true-and _ _ (le-leb 8 t h))

-- ---- declarations

pub index_present : (s : List ℕ) (d : ℕ) (r : Record) → record_of s 2 d ≡ Some r → index_at s d ≡ index_of s r.f1
unfolding index_at
index_present s d r e = rw (index_at, e) refl

pub index-absent : (s : List ℕ) (d : ℕ) → record_of s 2 d ≡ None → index_at s d ≡ no_index
unfolding index_at
index-absent s d e = rw (index_at, e) refl
