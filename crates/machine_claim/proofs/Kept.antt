-- The state stays of the sheet from call to call, by the promise.
use Prim.Native.Nat.{ℕ}
use mathlib.Core.Path.{◌≡◌, refl, sym, subst}
use mathlib.Core.List.{List}
use mathlib.Core.Bool.{Bool, true, false}
use mathlib.Core.Logic.{⊎_elim}
use native.Mathlib.Omega.{arith}
use lib.ListN.{length}
use lib.Dec.{eqb}
use lib.IntN.{ℤ}
use borrow.Author.Tests.{eqb-false}
use Rattle.machine.specs.declared.Answer.{Answer}
use Rattle.sheet_rules.specs.declared.Checked.TheVariants.{Passed}
use Rattle.machine.specs.State.{state_length}
use Rattle.machine.specs.Valid.{OfSheet}
use Rattle.sheet_rules.specs.Check.{check_of}
use Rattle.machine.specs.Play.{ended, limit_of}
use Rattle.machine.specs.Lists.{goes_on, StartGives, EventGives}
use Rattle.machine_promise.specs.Promise.{StartKept, EventKept}
use Rattle.machine_promise.proofs.Promise.{promise}

pub begun : (s : List ℕ) → check_of s ≡ Passed → (lent : List ℤ) (a : Answer) (st : List ℤ) → length lent ≡ state_length s → StartGives s (limit_of s) lent a st → a.number ≡ 0 → OfSheet s st
begun s ok lent a st l g z = (subst (StartKept s) (sym g) ((promise s ok).start lent l)).1 z

module _ (s : List ℕ) (ok : check_of s ≡ Passed) (old ev : List ℤ) (a : Answer) (st : List ℤ) (o : OfSheet s old) (g : EventGives s (limit_of s) old old ev a st) where
  kept : EventKept s old (ended a st)
  kept = subst (EventKept s old) (sym g) ((promise s ok).event old ev o)

  pub goes_on_lem : OfSheet s st
  goes_on_lem = ⊎_elim (λ z. kept.1 z) (λ b. subst (OfSheet s) (sym (kept.2 (λ z. omega arith))) o) kept.0

  -- a refused event left the old state
  pub goes_on_is : goes_on a old st ≡ st
  unfolding goes_on
  goes_on_is = go (eqb a.number 0) refl
    where
      go : (b : Bool) → eqb a.number 0 ≡ b → ◌≡◌ {A = List ℤ} (elim b [ true ↦ st | false ↦ old ]) st
      go true q = refl
      go false q = sym (kept.2 (eqb-false _ _ q))
