-- What sending a telegram comes to.
use Rattle.std.specs.Prelude.{Result, Ok, Err}
use Prim.Native.Nat.{ℕ, zero, suc, ◌<◌}
use mathlib.Core.Path.{◌≡◌, refl, sym, ap, ◌∙◌}
use mathlib.Core.List.{List}
use native.Mathlib.Omega.{arith}
use lib.ListN.{get_or}
use lib.IntN.{ℤ, pos}
use lib.Signed.{mag}
use mir.Syntax.{w32}
use mir.Val.{SFits, of_z, to_z}
use borrow.Author.Tests.{ltb-true}
use Rattle.sheet.proofs.All.{and_second}
use Rattle.engine_queue.specs.Changed.{changed_to}
use Rattle.machine.specs.declared.Ran.TheVariants.{Done, Refused, Stuck}
use Rattle.machine.specs.declared.Telegram.{Telegram}
use Rattle.sheet_rules.specs.Fields.{components_of}
use Rattle.machine.specs.Values.{is_bound}
use Rattle.machine.specs.State.{on, off, lost, appended}
use Rattle.machine.specs.Run.{World, world, telegram, append}
use Rattle.machine_passed.proofs.Records.{components_limit}
use Rattle.engine_ints.proofs.Range.{back}
use Rattle.engine_context.specs.Context.{element_in}
use Rattle.engine_ready.specs.Ready.{context_at, Running}
use Rattle.engine_ready.specs.Words.{four_words}

-- ---- where things are

module _ (s w : List ℕ) (run : Running s w) where
  pub element-small : element_in w < 64
  unfolding is_bound context_at
  element-small = let h : element_in w < components_of s = ltb-true _ _ (and_second _ _ run.placed.element.bound) in omega (arith, components_limit s run.passed)

-- ---- a telegram appended

module _ (s : List ℕ) (t : Telegram) (l : ℕ) (st lo : List ℤ) where
  pub append_done : (r : Result (Unit {0}) ℕ) (v : Unit {0}) (st' : List ℤ) → appended s st t ≡ changed_to r st' → r ≡ Ok v → world (Done l) st' lo ≡ append s t l st lo
  unfolding append changed_to
  append_done r v st' e h = sym (ap (λ r. elim r as (λ r. World) [ on st' ↦ world (Done l) st' lo | off n ↦ world (Refused n l) st lo | lost ↦ world Stuck st lo ]) (e ∙ ap (λ r. changed_to r st') h))

  pub append-refused : (r : Result (Unit {0}) ℕ) (n : ℕ) (st' : List ℤ) → appended s st t ≡ changed_to r st' → r ≡ Err n → st' ≡ st → world (Refused n l) st' lo ≡ append s t l st lo
  unfolding append changed_to
  append-refused r n st' e h q = ap (λ st. world (Refused n l) st lo) q ∙ sym (ap (λ r. elim r as (λ r. World) [ on st' ↦ world (Done l) st' lo | off n ↦ world (Refused n l) st lo | lost ↦ world Stuck st lo ]) (e ∙ ap (λ r. changed_to r st') h))

-- ---- a telegram as code makes it

abbrev pub word : ℤ → ℤ
word z = to_z w32 (of_z w32 z)

pub telegram_made : (e : ℕ) (receiver port : ℤ) (name : ℕ) (d zs : List ℤ) → e < 64 → SFits w32 receiver → SFits w32 port → name < 65536 → mag (get_or d 0 (pos 0)) < 2147483648 → mag (get_or d 1 (pos 0)) < 2147483648 → mag (get_or d 2 (pos 0)) < 2147483648 → mag (get_or d 3 (pos 0)) < 2147483648 → d ≡ four_words zs →
    ◌≡◌ {A = Telegram} (record { sender = word (pos e); receiver = word receiver; port = word port; name = word (pos name); d0 = word (get_or d 0 (pos 0)); d1 = word (get_or d 1 (pos 0)); d2 = word (get_or d 2 (pos 0)); d3 = word (get_or d 3 (pos 0)) }) (telegram (pos e) receiver port name zs)
telegram_made e receiver port name d zs h r p n d0 d1 d2 d3 q =
    rw (given_word (pos e) (omega arith), back r, back p, given_word (pos name) (omega arith), given_word (get_or d 0 (pos 0)) d0, given_word (get_or d 1 (pos 0)) d1, given_word (get_or d 2 (pos 0)) d2, given_word (get_or d 3 (pos 0)) d3) (rw q refl)
  where
    given_word : (z : ℤ) → mag z < 2147483648 → word z ≡ z
    given_word z h = back (record { sfits = h })
