use mathlib.Core.Path.{◌≡◌, refl, sym, ◌∙◌}
use mathlib.Core.Bool.{Bool, true, false}
use Prim.Native.Nat.{ℕ, ◌≤◌, ◌<◌}
use lib.Dec.{leb}
use borrow.Author.Tests.{le-leb, lt-leb}
use borrow.Author.Rules.{rules}
use Rattle.sheet.proofs.All.{first_fails_lem, rest_fails, first_holds}
use Rattle.sheet_rules.specs.Shape.{records_shape}
use Rattle.checker_bindings.proofs.records_fit.Goals as goal

-- whether there is a second record
one : (n : ℕ) (b : Bool) → n ≤ 7 → true ≡ elim (leb n 7) as (λ x. Bool) [ true ↦ true | false ↦ b ]
one n b l = rw (le-leb n 7 l) refl

two : (n : ℕ) (x b : Bool) → 7 < n → x ≡ b → x ≡ elim (leb n 7) as (λ x. Bool) [ true ↦ true | false ↦ b ]
two n x b l e = rw (lt-leb n 7 l) e

pub returns-then-not-constants_fit : goal.returns-then-not-constants_fit
unfolding records_shape
returns-then-not-constants_fit c = first_fails_lem _ _ (sym c.constants_fit.ensures ∙ c.if-not-constants_fit.true)

pub returns-then-not-zero_from : goal.returns-then-not-zero_from
unfolding records_shape
returns-then-not-zero_from c = rest_fails _ _ (first_fails_lem _ _ (sym c.zero_from.ensures ∙ c.if-not-zero_from.true))

pub returns-then-count-le7 : goal.returns-then-count-le7
unfolding records_shape
returns-then-count-le7 c = first_holds _ _ _ (sym c.constants_fit.ensures ∙ c.if-not-constants_fit.false) (first_holds _ _ _ (sym c.zero_from.ensures ∙ c.if-not-zero_from.false) (one _ _ c.if-count-le7.true))

pub second_fits-requires : goal.second_fits-requires
second_fits-requires c = (search rules)

pub returns : goal.returns
unfolding records_shape
returns c = first_holds _ _ _ (sym c.constants_fit.ensures ∙ c.if-not-constants_fit.false) (first_holds _ _ _ (sym c.zero_from.ensures ∙ c.if-not-zero_from.false) (two _ _ _ c.if-count-le7.false c.second_fits.ensures))
