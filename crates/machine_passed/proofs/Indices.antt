-- Array variables on a passed sheet: what an index may be, and that a clock is a plain variable.
use Rattle.std.specs.Prelude.{Option, Some, None}
use Prim.Native.Nat.{ℕ, ◌-◌, ◌<◌, ◌≤◌}
use mathlib.Core.Path.{◌≡◌, refl, sym, ap, subst, ◌∙◌}
use mathlib.Core.List.{List, ◌∷◌}
use mathlib.Core.Bool.{Bool, true, false, not}
use native.Mathlib.Omega.{arith}
use native.Mathlib.Decide.{dec_lt}
use lib.ListN.{drop}
use lib.Dec.{T, eqb}
use lib.IntN.{ℤ}
use borrow.Author.Tests.{not-true}
use Rattle.sheet.specs.declared.Record.{Record}
use Rattle.sheet.specs.All.{◌and◌}
use Rattle.sheet.specs.Table.{Line, look_up}
use Rattle.sheet.specs.Names.{declarations, declared_type, declared_index, int_type, is_clock}
use Rattle.sheet.specs.Sheet.{record_of}
use Rattle.sheet.proofs.All.{true_false, and-true}
use Rattle.sheet.proofs.Table.{lines_below, lines_past, line_at}
use Rattle.sheet_rules.specs.declared.Checked.TheVariants.{Passed}
use Rattle.sheet_rules.specs.Fields.{number_or0, type_at, members_of}
use Rattle.sheet_rules.specs.DataTypes.{data_type_of}
use Rattle.sheet_rules.proofs.DataTypes.{type_enumerated}
use Rattle.sheet_rules.specs.Indices.{Index, plain, over, no_index, index_table, index_of, index_at, is_plain, cells_by, cells_taken}
use Rattle.sheet_rules.specs.Static.{declaration_static}
use Rattle.sheet_rules.specs.Check.{check_of}
use Rattle.machine.specs.Values.{is_below, in_data_type, in_type}
use Rattle.machine_passed.proofs.Records.{declaration_static_lem}

-- ---- "Only a number's index can be outside", whatever the index is over

module _ (s : List ℕ) where
  -- a value of an index's type, where that isn't Int, is one of its indices
  abbrev pub Covers : Index → Type 0
  Covers plain = Unit {0}
  Covers (over t n) = (z : ℤ) → eqb t int_type ≡ false → in_type s t z ≡ true → is_below z n ≡ true
  Covers no_index = Unit {0}

  module _ (i : ℕ) where
    index_at_lem : (k m : ℕ) (l : Line Index) (ls : List (Line Index)) → drop k (index_table s i) ≡ l ∷ ls → T (lines_below k (index_table s i) m) → m ≤ i → i < l.below → Covers l.means → Covers (index_of s i)
    unfolding index_of
    index_at_lem k m l ls e q h b c = subst Covers (sym (line_at no_index (index_table s i) k m i l ls e q h b)) c

    covers_member : 8 ≤ i → Covers (over i (members_of s (i - 8)))
    unfolding in_type in_data_type
    covers_member h z n e = sym (ap (λ d. in_data_type s d z) (type_enumerated i h)) ∙ e

    pub index_covers : Covers (index_of s i)
    unfolding index_of in_type in_data_type data_type_of look_up
    index_covers = elim (dec_lt i 1) [
      | yes a ↦ index_at_lem 0 0 _ _ refl tt (omega arith) a tt
      | no a ↦ elim (dec_lt i 2) [
        | yes b ↦ index_at_lem 1 1 _ _ refl tt (omega arith) b (λ z n e. e)
        | no b ↦ elim (dec_lt i 3) [
          | yes c ↦ index_at_lem 2 2 _ _ refl tt (omega arith) c (λ z n e. e)
          | no c ↦ elim (dec_lt i 4) [
            | yes d ↦ index_at_lem 3 3 _ _ refl tt (omega arith) d (λ z n e. e)
            | no d ↦ elim (dec_lt i 8) [
              | yes f ↦ index_at_lem 4 4 _ _ refl tt (omega arith) f tt
              | no f ↦ elim (dec_lt i 60001) [
                | yes g ↦ index_at_lem 5 8 _ _ refl tt (omega arith) g (covers_member (omega arith))
                | no g ↦ elim (dec_lt i 60065) [
                  | yes h ↦ index_at_lem 6 60001 _ _ refl tt (omega arith) h (λ z n e. absurd (true_false {b = true} refl n))
                  | no h ↦ subst Covers (sym (lines_past no_index 7 (index_table s i) 60065 i tt (omega arith))) tt
                ]
              ]
            ]
          ]
        ]
      ]
    ]

  pub covers_at : (d : ℕ) → Covers (index_at s d)
  unfolding index_at
  covers_at d = go (record_of s declarations d)
    where
      go : (f : Option Record) → Covers (elim f [ Some r ↦ index_of s (declared_index r) | None ↦ no_index ])
      go (Some r) = index_covers (declared_index r)
      go None = tt

-- ---- plain variables

one_cell : (i : Index) → is_plain i ≡ true → cells_by i ≡ 1
unfolding is_plain cells_by
one_cell plain h = refl
one_cell (over t n) h = absurd (true_false h refl)
one_cell no_index h = refl

-- a plain variable takes one cell
pub plain_cell : (s : List ℕ) (d : ℕ) → is_plain (index_at s d) ≡ true → cells_taken s d ≡ 1
unfolding cells_taken
plain_cell s d h = one_cell (index_at s d) h

-- "An array .. of clocks, gets 2"
array_no_clock : (s : List ℕ) (r : Record) → declaration_static s r ≡ true → is_clock (declared_type r) ≡ true → is_plain (index_of s (declared_index r)) ≡ true
unfolding declaration_static
array_no_clock s r h c = go (is_plain (index_of s (declared_index r))) refl
  where
    go : (b : Bool) → is_plain (index_of s (declared_index r)) ≡ b → b ≡ true
    go true e = refl
    go false e = absurd (true_false (and-true (is_clock (declared_type r)) (not (is_plain (index_of s (declared_index r)))) c (ap not e)) (not-true _ h))

pub has_cell : (s : List ℕ) (d : ℕ) → is_plain (index_at s d) ≡ true → 0 < cells_taken s d
has_cell s d h = omega (arith, plain_cell s d h)

module _ (s : List ℕ) (ok : check_of s ≡ Passed) where
  pub clock-plain : (d : ℕ) → is_clock (type_at s d) ≡ true → is_plain (index_at s d) ≡ true
  unfolding type_at index_at number_or0 is_clock ◌and◌
  clock-plain d = go (record_of s declarations d) refl
    where
      go : (f : Option Record) → record_of s declarations d ≡ f → is_clock (number_or0 f declared_type) ≡ true → is_plain (elim f [ Some r ↦ index_of s (declared_index r) | None ↦ no_index ]) ≡ true
      go (Some r) e h = array_no_clock s r (declaration_static_lem s ok d r e) h
      go None e h = absurd (true_false h refl)
