-- Going on from a word, and the way out where there is none.
use Rattle.std.specs.Prelude.{Result, Ok, Err}
use Rattle.std.specs.Result.{IsErrAnd}
use Rattle.std.proofs.lemmas.Result.{err_from_is_err_and}
use Prim.Native.Nat.{ℕ}
use mathlib.Core.Path.{◌≡◌, ap, ◌∙◌}
use lib.IntN.{ℤ}
use Rattle.engine_ints.specs.declared.Stop.{Stop}
use Rattle.engine_ints.specs.Work.{Work, then_work}

-- what a `?` returns
pub handed_on : {X : Type 0} {e : Stop} (r : Result X Stop) → IsErrAnd r (λ d. d ≡ e) → r ≡ Err e
handed_on r h = let p = err_from_is_err_and r h in p.1 ∙ ap Err p.2

module _ (x : Work) (K : ℤ → ℕ → Work) where
  pub word_then : (z : ℤ) (l : ℕ) → Ok (z, l) ≡ x → K z l ≡ then_work x K
  unfolding then_work
  word_then z l e = ap (λ x. then_work x K) e

  pub stop_then : (d : Stop) → Err d ≡ x → Err d ≡ then_work x K
  unfolding then_work
  stop_then d e = ap (λ x. then_work x K) e
