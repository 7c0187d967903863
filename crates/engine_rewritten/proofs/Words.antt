-- A sheet of bytes is rewritten in bytes, and on any sheet an accepted call leaves words.
use Rattle.std.specs.Prelude.{Option, Some, None}
use Rattle.sheet.specs.declared.Record.{Record}
use Prim.Native.Nat.{ℕ, ◌+◌, ◌/◌, ◌%◌, ◌<◌}
use mathlib.Core.Path.{◌≡◌, refl, sym, subst}
use mathlib.Core.List.{List}
use mathlib.Core.Bool.{Bool, true, false}
use native.Mathlib.Omega.{arith}
use native.Mathlib.Decide.{dec_lt, ℕ_discrete}
use lib.ListN.{length, get_or, set, length-set, get_or-eq_default}
use lib.Seq.{get_or-set_same, get_or-set_other}
use lib.Dec.{eqb}
use lib.IntN.{ℤ}
use borrow.Author.Tests.{eqb-true}
use Rattle.sheet.specs.Names.{head}
use Rattle.sheet.specs.Sheet.{record_of}
use Rattle.sheet_rules.specs.declared.Checked.TheVariants.{Passed}
use Rattle.sheet_rules.specs.Check.{check_of}
use Rattle.sheet_limits.specs.ButLimit.{put_number, limit_place, with_limit}
use Rattle.machine.specs.declared.Answer.{Answer}
use Rattle.machine.specs.Play.{Outcome, ended, stuck, start_call, event_call, limit_of}
use Rattle.machine.specs.Lists.{goes_on, StartGives, EventGives}
use Rattle.machine_words.specs.Words.{Bytes, Words}
use Rattle.machine_words.proofs.Words.{of_sheet-words}
use Rattle.machine_promise.specs.Promise.{StartKept, EventKept}
use Rattle.machine_promise.proofs.Promise.{promise}
use Rattle.machine_claim.proofs.Machine.{start_either, event_either}
use Rattle.engine_rewritten.specs.Rewritten.{rewritten}

-- ---- bytes

set_byte : (s : List ℕ) (at x : ℕ) → x < 256 → Bytes s → Bytes (set s at x)
set_byte s at x l y i = elim (ℕ_discrete i at) [
  | no n ↦ subst (λ b. b < 256) (sym (get_or-set_other s at i x 0 n)) (y i)
  | yes e ↦ elim (dec_lt at (length s)) [
    | yes q ↦ omega (arith, subst (λ i. get_or (set s at x) i 0 ≡ x) (sym e) (get_or-set_same s at x 0 q))
    | no q ↦ omega (arith, get_or-eq_default (set s at x) 0 {n = i} (omega (arith, length-set s at x)))
  ]
]

put_bytes : (s : List ℕ) (at n : ℕ) → n < 65536 → Bytes s → Bytes (put_number s at n)
unfolding put_number
put_bytes s at n l y = set_byte (set s at (n % 256)) (at + 1) (n / 256) (omega arith) (set_byte s at (n % 256) (omega arith) y)

limit_bytes : (n : ℕ) (s : List ℕ) → Bytes s → n < 65536 → Bytes (with_limit n s)
unfolding with_limit
limit_bytes n s y l = go (record_of s head 0)
  where
    go : (f : Option Record) → Bytes (elim f [ Some r ↦ put_number s (limit_place s) n | None ↦ s ])
    go (Some r) = put_bytes s (limit_place s) n l y
    go None = y

pub rewritten_bytes : (s : List ℕ) → Bytes s → Bytes (rewritten s)
rewritten_bytes s y = limit_bytes _ s y (omega arith)

-- ---- words

-- after answer 0 the state is words
abbrev Left : Outcome → Type 0
Left (ended a st) = a.number ≡ 0 → Words st
Left stuck = Unit {0}

module _ (s : List ℕ) where
  start_left : check_of s ≡ Passed → (w : Outcome) → StartKept s w → Left w
  start_left ok (ended a st) k = λ z. of_sheet-words s ok st (k.1 z)
  start_left ok stuck k = tt

  event-left : check_of s ≡ Passed → (old : List ℤ) (w : Outcome) → EventKept s old w → Left w
  event-left ok old (ended a st) k = λ z. of_sheet-words s ok st (k.1 z)
  event-left ok old stuck k = tt

  -- whatever the sheet and the lengths: only on a passed sheet, with states that fit, the answer is 0
  pub start-words : (lent : List ℤ) (a : Answer) (st : List ℤ) → StartGives s (limit_of s) lent a st → a.number ≡ 0 → Words st
  start-words lent a st g = subst Left (sym g) (start_either Left s lent (λ n z. absurd (omega arith)) (λ ok l. start_left ok (start_call s (limit_of s) lent) ((promise s ok).start lent l)))

  pub event-words : (old lent ev : List ℤ) (a : Answer) (st : List ℤ) → EventGives s (limit_of s) old lent ev a st → a.number ≡ 0 → Words st
  event-words old lent ev a st g = subst Left (sym g) (event_either Left s old lent ev (λ n z. absurd (omega arith)) (λ ok o. event-left ok old (event_call s (limit_of s) old old ev) ((promise s ok).event old ev o)))

-- after another answer the old state goes on
pub goes_on-words : (a : Answer) (old new : List ℤ) → Words old → (a.number ≡ 0 → Words new) → Words (goes_on a old new)
unfolding goes_on
goes_on-words a old new u h = go (eqb a.number 0) refl
  where
    go : (b : Bool) → eqb a.number 0 ≡ b → Words (elim b [ true ↦ new | false ↦ old ])
    go true q = h (eqb-true _ _ q)
    go false q = u
