-- Start's answer.
use Rattle.std.specs.Prelude.{None}
use Prim.Native.Nat.{ℕ}
use mathlib.Core.Path.{◌≡◌, refl, sym, ◌∙◌}
use mathlib.Core.List.{List}
use lib.ListN.{length, replicate, length-replicate}
use lib.IntN.{ℤ, pos}
use Rattle.machine.specs.declared.Answer.{Answer}
use Rattle.sheet_rules.specs.declared.Checked.TheVariants.{Passed, Shape, Static}
use Rattle.machine.specs.State.{state_length}
use Rattle.sheet_rules.specs.Check.{check_of}
use Rattle.machine.specs.Play.{answer, limit_of}
use Rattle.machine.specs.Lists.{StartGives}
use Rattle.machine_events.proofs.Laws.{start-shape, start-static, start_is}
use Rattle.program_runs.specs.Start.{StartAnswers}

module _ (s : List ℕ) where
  abbrev fresh : List ℤ
  fresh = replicate (state_length s) (pos 0)

  pub shape-answers : check_of s ≡ Shape → StartAnswers s 1
  shape-answers h = (answer 1 0 None, fresh, sym (start-shape s fresh h), refl)

  pub static-answers : check_of s ≡ Static → StartAnswers s 2
  static-answers h = (answer 2 0 None, fresh, sym (start-static s fresh h), refl)

  -- what start answers doesn't depend on the words of the state that is lent
  pub start_answers : (lent : List ℤ) (a : Answer) (st : List ℤ) → check_of s ≡ Passed → length lent ≡ state_length s → StartGives s (limit_of s) lent a st → StartAnswers s a.number
  start_answers lent a st ok l g = (a, st, g ∙ start_is s lent ok l ∙ sym (start_is s fresh ok (length-replicate (state_length s) (pos 0))), refl)
