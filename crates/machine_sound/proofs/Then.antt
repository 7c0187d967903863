-- How parts of a statement follow each other: each keeps what `Ends` says.
use Rattle.std.specs.Prelude.{Option, Some, None}
use Prim.Native.Nat.{ℕ, ◌+◌, ◌<◌, ◌≤◌}
use mathlib.Core.Path.{◌≡◌, refl, sym, ap, subst}
use mathlib.Core.List.{List}
use mathlib.Core.Bool.{Bool, true, false}
use lib.IntN.{ℤ}
use native.Mathlib.Omega.{arith}
use Rattle.sheet.specs.declared.Record.{Record}
use Rattle.sheet.specs.declared.Range.{Range}
use Rattle.sheet.proofs.All.{true_false}
use Rattle.machine.specs.declared.Value.{Value}
use Rattle.machine.specs.declared.Out.{Out}
use Rattle.machine.specs.declared.Out.TheVariants as out
use Rattle.machine.specs.declared.Ran.{Ran}
use Rattle.machine.specs.declared.Ran.TheVariants.{Done, Refused, Stuck}
use Rattle.machine.specs.declared.Telegram.{Telegram}
use Rattle.machine.specs.Values.{in_type}
use Rattle.machine.specs.State.{Changed, on, off, lost, appended}
use Rattle.machine.specs.Valid.{telegram_fits, OfSheet}
use Rattle.machine.specs.Eval.{Context}
use Rattle.machine.specs.Run.{World, world, go_on, then_operand, with_record, provided, Values, given, refused, stuck, then_values, are_of, words_in, append}
use Rattle.machine_equations.proofs.Left.{Within, ValuesWithin, RanWithin}
use Rattle.machine_passed.specs.Places.{Locals}
use Rattle.machine_states.proofs.Kept.{ChangeKept, appended-kept}
use Rattle.machine_sound.specs.Gives.{Gives, WordsOf, DataGive, Ends, Refusal}

module _ (s : List ℕ) (x : Context) where
  abbrev pub Good : World → Type 0
  Good w = Ends s x w.ran w.st w.lo

  pub operand_ends : (o : Out) (t l : ℕ) (st lo : List ℤ) (K : Value → ℕ → World) → Gives s t o → Within l o → ((v : Value) (m : ℕ) → v.kind ≡ t → in_type s t v.word ≡ true → m < l → Good (K v m)) → Good (then_operand o st lo K)
  unfolding then_operand
  operand_ends (out.Val v m) t l st lo K h w k = k v m h.0 h.1 w
  operand_ends (out.Refused n m) t l st lo K h w k = h
  operand_ends out.Stuck t l st lo K h w k = absurd h

  pub values_ends : (g : Range) (n l : ℕ) (d : Values) (st lo : List ℤ) (K : List Value → ℕ → World) → DataGive s g n 0 d → ValuesWithin l d → ((vs : List Value) (m : ℕ) → are_of s g.first vs ≡ true → WordsOf s g n 0 (words_in vs) → m ≤ l → Good (K vs m)) → Good (then_values d st lo K)
  unfolding then_values
  values_ends g n l (given vs m) st lo K h w k = let z : g.first + 0 ≡ g.first = omega arith in k vs m (rw z at h.0) h.1 w
  values_ends g n l (refused q m) st lo K h w k = h
  values_ends g n l stuck st lo K h w k = absurd h

  pub run_ends : (l : ℕ) (o : Ran) (st lo : List ℤ) (K : ℕ → List ℤ → List ℤ → World) → Ends s x o st lo → RanWithin l o → ((m : ℕ) → OfSheet s st → Locals s x lo → m < l → Good (K m st lo)) → Good (go_on o st lo K)
  unfolding go_on
  run_ends l (Done m) st lo K h w k = k m h.0 h.1 w
  run_ends l (Refused q m) st lo K h w k = h
  run_ends l Stuck st lo K h w k = absurd h

  pub record_ends : (f : Option Record) (r : Record) (st lo : List ℤ) (K : Record → World) → f ≡ Some r → Good (K r) → Good (with_record f st lo K)
  unfolding with_record
  record_ends (Some q) r st lo K e h = subst (λ r. Good (K r)) (sym (ap (get r) e)) h
    where
      get : Record → Option Record → Record
      get d (Some a) = a
      get d None = d
  record_ends None r st lo K e h = absurd (true_false {b = false} (ap there e) refl)
    where
      there : Option Record → Bool
      there (Some a) = true
      there None = false

  pub provided_ends : (b : Bool) (st lo : List ℤ) (w : World) → b ≡ true → Good w → Good (provided b st lo w)
  unfolding provided
  provided_ends true st lo w e h = h
  provided_ends false st lo w e h = absurd (true_false e refl)

  pub either_ends : (b : Bool) (w w' : World) → (b ≡ true → Good w) → (b ≡ false → Good w') → Good (elim b [ true ↦ w | false ↦ w' ])
  either_ends true w w' h k = h refl
  either_ends false w w' h k = k refl

  -- "Sends append"
  pub append_ends : (t : Telegram) (l : ℕ) (st lo : List ℤ) → OfSheet s st → Locals s x lo → telegram_fits s t ≡ true → Good (append s t l st lo)
  unfolding append
  append_ends t l st lo o k h = go (appended s st t) (appended-kept s st o t h)
    where
      go : (r : Changed) → ChangeKept s r → Good (elim r as (λ r. World) [ on st' ↦ world (Done l) st' lo | off n ↦ world (Refused n l) st lo | lost ↦ world Stuck st lo ])
      go (on st') q = (q, k)
      go (off n) q = q
      go lost q = q

  -- done with a state that is kept, or refused
  pub kept_ends : (b : Bool) (l k : ℕ) (st st' lo : List ℤ) → OfSheet s (elim b as (λ b. World) [ true ↦ world (Done l) st' lo | false ↦ world (Refused k l) st lo ]).st → Locals s x lo → Refusal k → Good (elim b [ true ↦ world (Done l) st' lo | false ↦ world (Refused k l) st lo ])
  kept_ends true l k st st' lo o h r = (o, h)
  kept_ends false l k st st' lo o h r = r
