-- What typed expressions, data and statements come to.
use Rattle.std.specs.Prelude.{ℕ, ◌+◌, ◌<◌, ◌≤◌, ◌≡◌, List, true, length, ℤ}
use Rattle.sheet.specs.declared.Range.{Range}
use Rattle.machine.specs.declared.Out.{Out}
use Rattle.machine.specs.declared.Out.TheVariants as out
use Rattle.machine.specs.declared.Ran.{Ran}
use Rattle.machine.specs.declared.Ran.TheVariants.{Done, Refused, Stuck}
use Rattle.sheet_rules.specs.Fields.{type_at}
use Rattle.machine.specs.Values.{in_type}
use Rattle.machine.specs.State.{last_refusal}
use Rattle.machine.specs.Valid.{OfSheet}
use Rattle.machine.specs.Eval.{Context}
use Rattle.machine.specs.Run.{Values, given, refused, stuck, are_of, words_in, datum}
use Rattle.machine_passed.specs.Places.{Locals}

-- "6 to 10, the first met", 11 and 12
abbrev pub Refusal : ℕ → Type 0
Refusal k = (6 ≤ k) × (k ≤ last_refusal)

-- an expression of type t gives a value of the type, or is refused; it is not stuck
abbrev pub Gives : List ℕ → ℕ → Out → Type 0
Gives s t (out.Val v m) = (v.kind ≡ t) × (in_type s t v.word ≡ true)
Gives s t (out.Refused k m) = Refusal k
Gives s t out.Stuck = ⊥

-- n words of the types of a range's declarations from number j on
abbrev pub WordsOf : List ℕ → Range → ℕ → ℕ → List ℤ → Type 0
WordsOf s g n j zs = (length zs ≡ n) × ((i : ℕ) → i < n → in_type s (type_at s (g.first + (j + i))) (datum zs i) ≡ true)

-- n data for the declarations of a range from number j on are of their types
abbrev pub DataGive : List ℕ → Range → ℕ → ℕ → Values → Type 0
DataGive s g n j (given vs m) = (are_of s (g.first + j) vs ≡ true) × WordsOf s g n j (words_in vs)
DataGive s g n j (refused k m) = Refusal k
DataGive s g n j stuck = ⊥

-- a statement leaves a state of the sheet and variables of their types, or is refused; it is not stuck
abbrev pub Ends : List ℕ → Context → Ran → List ℤ → List ℤ → Type 0
Ends s x (Done m) st lo = OfSheet s st × Locals s x lo
Ends s x (Refused k m) st lo = Refusal k
Ends s x Stuck st lo = ⊥
