-- What tests of lengths come to.
use Prim.Native.Nat.{ℕ, ◌*◌, ◌/◌, ◌%◌}
use mathlib.Core.Path.{◌≡◌, refl, sym, ap, ◌∙◌}
use mathlib.Core.List.{List}
use mathlib.Core.Bool.{Bool, true, false}
use native.Mathlib.Omega.{arith}
use lib.Dec.{eqb}
use borrow.Author.Tests.{eqb-true, eqb-false, eq-eqb, ne_eqb}
use Rattle.sheet.specs.All.{◌and◌}
use Rattle.sheet.proofs.All.{first_fails_lem, rest_fails, first_holds}
use Rattle.sheet_rules.specs.Shape.{cells_of}
use Rattle.machine.specs.State.{state_length}
use Rattle.machine.specs.Play.{words_of_event}
use Rattle.engine_store.specs.Layout.{words_with}
use Rattle.engine_store.proofs.Lies.{words_with_lem}
use Rattle.machine_lists.specs.Words.{words_of_answer}

-- a test by a sheet's cells is one by the sheet
pub by_cells : (s : List ℕ) (cells n : ℕ) (b t : Bool) → cells ≡ cells_of s → b ≡ eqb n (words_with cells) → b ≡ t → eqb n (state_length s) ≡ t
by_cells s cells n b t e d h = ap (eqb n) (sym (words_with_lem s cells e)) ∙ sym d ∙ h

-- ---- lengths by quotients

module _ (events answers : ℕ) where
  abbrev whole : Bool
  whole = eqb (events % words_of_event) 0 and eqb answers (words_of_answer * (events / words_of_event))

  pub part_of_event : (events % words_of_event ≡ 0 → ⊥) → false ≡ whole
  part_of_event h = first_fails_lem _ _ (ne_eqb (events % words_of_event) 0 h)

  pub part_of_answer : (answers % words_of_answer ≡ 0 → ⊥) → false ≡ whole
  part_of_answer h = rest_fails _ _ (sym (ne_eqb answers (words_of_answer * (events / words_of_event)) (λ e. h (omega arith))))

  pub whole-answers : events % words_of_event ≡ 0 → answers % words_of_answer ≡ 0 → eqb (answers / words_of_answer) (events / words_of_event) ≡ whole
  whole-answers u v = first_holds _ _ (eqb (answers / words_of_answer) (events / words_of_event)) (eq-eqb (events % words_of_event) 0 u) (go (eqb (answers / words_of_answer) (events / words_of_event)) refl)
    where
      go : (b : Bool) → eqb (answers / words_of_answer) (events / words_of_event) ≡ b → b ≡ eqb answers (words_of_answer * (events / words_of_event))
      go true e = let q : answers / words_of_answer ≡ events / words_of_event = eqb-true _ _ e in sym (eq-eqb answers (words_of_answer * (events / words_of_event)) (omega arith))
      go false e = sym (ne_eqb answers (words_of_answer * (events / words_of_event)) (λ q. eqb-false (answers / words_of_answer) (events / words_of_event) e (omega arith)))
