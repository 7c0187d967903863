-- Arrays of bodies by name: a body's number plus 1, or 0. They are not cleared between charts, so what they hold is said of
-- any bodies of the sheet.
use Rattle.std.specs.Prelude.{ℕ, ◌+◌, ◌-◌, ◌<◌, ◌≤◌, ◌≡◌, List, Bool, true, false, length, get_or, ltb, eqb}
use Rattle.sheet.specs.declared.Record.{Record}
use Rattle.checker_reactions.specs.declared.Tables.{Tables}
use Rattle.sheet.specs.All.{◌and◌}
use Rattle.sheet.specs.Names.{bodies, role, reaction_name}
use Rattle.sheet.specs.Sheet.{record_of}
use Rattle.sheet_rules.specs.Fields.{holds}
use Rattle.sheet_rules.specs.Shape.{is_reaction}
use Rattle.sheet_rules.specs.Types.{reacts_to}

-- body i is there and meets a test
abbrev pub is_a : List ℕ → ℕ → (Record → Bool) → Bool
is_a s i p = holds (record_of s bodies i) p

-- what stands at name n is a body that meets the test `p n`
pub record Entries (s : List ℕ) (p : ℕ → Record → Bool) (t : List ℕ) : Type 0 where
  pub size : length t ≡ 4096
  pub told : (n : ℕ) → 0 < get_or t n 0 → is_a s (get_or t n 0 - 1) (p n) ≡ true

-- body i was entered at the names whose test it meets
pub record Entered (s : List ℕ) (p : ℕ → Record → Bool) (i : ℕ) (t t' : List ℕ) : Type 0 where
  pub size : length t' ≡ 4096
  pub new : (n : ℕ) → n < 4096 → is_a s i (p n) ≡ true → get_or t' n 0 ≡ i + 1
  pub old : (n : ℕ) → n < 4096 → is_a s i (p n) ≡ false → get_or t' n 0 ≡ get_or t n 0

-- ---- the reactions to a name, from the latest one back

-- an external or internal reaction to name n
abbrev pub named : ℕ → Record → Bool
named n b = is_reaction (role b) and eqb (reaction_name b) n

-- an entry, if it is a body before body i
unfoldable pub up_to : ℕ → ℕ → ℕ
up_to i e = elim (ltb i e) [ true ↦ 0 | false ↦ e ]

-- entry e is the latest reaction to name n of the bodies from `first` on and before body i
pub record Latest (s : List ℕ) (first i n e : ℕ) : Type 0 where
  pub none : (m : ℕ) → first ≤ m → up_to i e ≤ m → m < i → is_a s m (named n) ≡ false
  pub one : first < up_to i e → is_a s (up_to i e - 1) (named n) ≡ true

-- every body from `first` on and before body i is entered
pub record Chains (s : List ℕ) (first i : ℕ) (last previous : List ℕ) : Type 0 where
  pub entries : Entries s named last
  pub size : length previous ≡ 4096
  pub latest : (n : ℕ) → n < 4096 → Latest s first i n (get_or last n 0)
  pub earlier : (m n : ℕ) → first ≤ m → m < i → n < 4096 → is_a s m (named n) ≡ true → Latest s first m n (get_or previous m 0)
  pub present : (m : ℕ) → first ≤ m → m < i → is_a s m (λ b. true) ≡ true

-- body i, which is b, was entered
pub record Linked (b : Record) (i : ℕ) (last last' previous previous' : List ℕ) : Type 0 where
  pub size : length last' ≡ 4096
  pub previous_size : length previous' ≡ 4096
  pub new : (n : ℕ) → n < 4096 → named n b ≡ true → get_or last' n 0 ≡ i + 1
  pub old : (n : ℕ) → n < 4096 → named n b ≡ false → get_or last' n 0 ≡ get_or last n 0
  pub before : (n : ℕ) → n < 4096 → named n b ≡ true → get_or previous' i 0 ≡ get_or last n 0
  pub others : (m : ℕ) → (m ≡ i → ⊥) → get_or previous' m 0 ≡ get_or previous m 0

-- the arrays as they are handed from chart to chart
pub record Ready (s : List ℕ) (t : Tables) : Type 0 where
  pub table_entries : Entries s reacts_to t.internal
  pub last_entries : Entries s named t.last
  pub previous_size : length t.previous ≡ 4096
