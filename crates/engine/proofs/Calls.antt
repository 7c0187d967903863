-- What calls come to, path by path.
use Rattle.std.specs.Prelude.{None}
use Prim.Native.Nat.{ℕ}
use mathlib.Core.Path.{◌≡◌, sym, ap, subst, ◌∙◌}
use mathlib.Core.List.{List}
use mathlib.Core.Bool.{Bool, true, false, not}
use lib.ListN.{length}
use lib.Dec.{eqb}
use lib.IntN.{ℤ}
use borrow.Author.Tests.{eqb-false}
use Rattle.machine.specs.declared.Answer.{Answer}
use Rattle.sheet_rules.specs.declared.Checked.TheVariants.{Passed, Shape, Static}
use Rattle.machine.specs.State.{state_length}
use Rattle.machine.specs.Valid.{content_fits, OfSheet}
use Rattle.machine.specs.Play.{ended, answer, is_event, limit_of}
use Rattle.sheet_rules.specs.Check.{check_of}
use Rattle.machine.specs.Lists.{EventGives}
use Rattle.machine.proofs.Calls.{event-played}
use Rattle.machine_states.proofs.Parts.{of_content, content_of_lem}
use Rattle.machine_events.proofs.Laws.{event-shape, event-static, event-old_length, event_result_length, event_content, event_malformed}
use Rattle.machine_events.specs.declared.Event.{Event}
use Rattle.machine_events.specs.Event.{event_of, is_malformed, happens_by}
use Rattle.machine_events.proofs.Apart.{malformed_is, happens_by_lem, event_by}
use Rattle.engine_kinds.proofs.Calls.{down}

-- ---- the next event of a list

pub next_gives_lem : (s : List ℕ) → check_of s ≡ Passed → (st ev : List ℤ) → OfSheet s st → (e : Event) → e ≡ event_of s ev → (a : Answer) (new : List ℤ) → ended a new ≡ happens_by s (limit_of s) st e → EventGives s (limit_of s) st st ev a new
next_gives_lem s ok st ev o e q a new h = h ∙ ap (happens_by s (limit_of s) st) q ∙ event_by s ev ok st o.whole (of_content s st o)

-- ---- any state and words, on a passed sheet

not_of_lem : (a b : Bool) → not a ≡ b → a ≡ not b
not_of_lem true b e = ap not e
not_of_lem false b e = ap not e

module _ (s : List ℕ) (old result ev : List ℤ) (ok : check_of s ≡ Passed) where
  pub old-long : eqb (length old) (state_length s) ≡ false → (a : Answer) → a ≡ answer 3 0 None → EventGives s (limit_of s) old result ev a result
  old-long h a e = down a 3 0 result _ e (event-old_length s old result ev ok (eqb-false _ _ h))

  pub result_long : eqb (length result) (state_length s) ≡ false → (a : Answer) → a ≡ answer 3 0 None → EventGives s (limit_of s) old result ev a result
  result_long h a e = down a 3 0 result _ e (event_result_length s old result ev ok (eqb-false _ _ h))

  module _ (h : length old ≡ state_length s) (k : length result ≡ state_length s) where
    pub other_content : (a : Answer) → a ≡ answer 3 0 None → content_fits s old ≡ false → EventGives s (limit_of s) old result ev a result
    other_content a e c = down a 3 0 result _ e (event_content s old result ev ok h k c)

    -- the event taken apart
    module _ (c : content_fits s old ≡ true) (e : Event) (q : e ≡ event_of s ev) where
      formed : (b : Bool) → is_malformed e ≡ b → is_event s ev ≡ not b
      formed b m = not_of_lem (is_event s ev) b (sym (malformed_is s ev) ∙ ap is_malformed (sym q) ∙ m)

      pub malformed_event : is_malformed e ≡ true → (a : Answer) → a ≡ answer 4 0 None → EventGives s (limit_of s) old result ev a result
      malformed_event m a g = down a 4 0 result _ g (event_malformed s old result ev ok h k c (formed true m))

      pub happened_event : is_malformed e ≡ false → (st : List ℤ) → st ≡ old → (a : Answer) (new : List ℤ) → ended a new ≡ happens_by s (limit_of s) st e → EventGives s (limit_of s) old result ev a new
      happened_event m st o a new g =
          g
          ∙ ap (λ o. happens_by s (limit_of s) o e) o
          ∙ ap (happens_by s (limit_of s) old) q
          ∙ sym (event-played s (limit_of s) old result ev ok h k c (formed false m) ∙ happens_by_lem s ev (limit_of s) old (formed false m))

    pub copy_plays : content_fits s old ≡ true → (st : List ℤ) → st ≡ old → OfSheet s st
    copy_plays c st o = subst (OfSheet s) (sym o) (content_of_lem s old h c)

-- ---- any sheet

pub shape-event : (s : List ℕ) (old result ev : List ℤ) (a : Answer) → a ≡ answer 1 0 None → check_of s ≡ Shape → EventGives s (limit_of s) old result ev a result
shape-event s old result ev a e h = down a 1 0 result _ e (event-shape s old result ev h)

pub static-event : (s : List ℕ) (old result ev : List ℤ) (a : Answer) → a ≡ answer 2 0 None → check_of s ≡ Static → EventGives s (limit_of s) old result ev a result
static-event s old result ev a e h = down a 2 0 result _ e (event-static s old result ev h)
