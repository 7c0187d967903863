-- "A state is of the sheet when all this paragraph holds": a test for each sentence of the paper's State paragraph.
use Rattle.std.specs.Prelude.{ℕ, ◌+◌, ◌-◌, List, [], ◌∷◌, ◌≡◌, Bool, true, false, not, length, get_or, ltb, leb, eqb, ℤ, pos, nat_abs}
use Rattle.std.specs.Int.Signed.{le_z, lt_z}
use Rattle.sheet.specs.declared.Record.{Record}
use Rattle.sheet.specs.declared.Range.{Range}
use Rattle.sheet.specs.All.{◌and◌, all_below}
use Rattle.sheet.specs.Names.{names, external, internal, chart_variables, timer_type, timeout_type, is_clock}
use Rattle.sheet.specs.Sheet.{count_of}
use Rattle.machine.specs.declared.Telegram.{Telegram}
use Rattle.sheet_rules.specs.Fields.{holds, declared_so, components_of, externals_of, ports_of, elements_of}
use Rattle.sheet_rules.specs.Indices.{cells_taken}
use Rattle.sheet_rules.specs.Types.{has_class, has_reaction, name_range}
use Rattle.machine.specs.Values.{fits32, is_below, is_zero, same_word, in_type, is_bound, chart_of}
use Rattle.machine.specs.State.{places, cell_of, place_at, state_length, word_of, waiting, counted, telegram_of, is_internal, waiting_like, class_limit}

-- ---- data: "Surplus data are zero." "Data, also a clock's, fit their name's types"

unfoldable pub data_fit : List ℕ → Range → (ℕ → ℤ) → Bool
data_fit s g d = all_below 4 (λ j. elim (ltb j g.count) [ true ↦ declared_so s (g.first + j) (λ t. in_type s t (d j)) | false ↦ is_zero (d j) ])

-- the name exists, is of a class, and the data fit it
unfoldable pub name_fits : List ℕ → ℕ → ℤ → (ℕ → ℤ) → Bool
name_fits s k n d = is_below n (count_of s names) and has_class s (nat_abs n) k and data_fit s (name_range s (nat_abs n)) d

-- "an internal name that waits or is armed has one reaction in its element's chart" (two are refused by the checker)
unfoldable pub reaction_awaits : List ℕ → ℕ → ℤ → Bool
reaction_awaits s e n = holds (chart_of s e) (λ c. has_reaction s c (nat_abs n))

-- words from `at + from` on, up to `at + 8`, are zero
unfoldable pub zero_words : List ℤ → ℕ → ℕ → Bool
zero_words st at from = all_below (8 - from) (λ k. is_zero (word_of st (at + from + k)))

-- ---- cells: "A data variable: its value, zeros. A clock: running 0 or 1, value, period, name, four data; all zero if stopped."

-- "A running Timer has value at least 0 and zeros after; a Timeout 1 ≤ value ≤ period; a Cycler 0 ≤ value < period." Value and period are Ints
unfoldable pub running_clock : List ℕ → ℕ → ℕ → List ℤ → ℕ → Bool
running_clock s e t st at =
    fits32 (word_of st (at + 1))
    and fits32 (word_of st (at + 2))
    and elim (eqb t timer_type) [
      | true ↦ le_z (pos 0) (word_of st (at + 1)) and zero_words st at 2
      | false ↦
          elim (eqb t timeout_type) [ true ↦ le_z (pos 1) (word_of st (at + 1)) and le_z (word_of st (at + 1)) (word_of st (at + 2)) | false ↦ le_z (pos 0) (word_of st (at + 1)) and lt_z (word_of st (at + 1)) (word_of st (at + 2)) ]
          and name_fits s internal (word_of st (at + 3)) (λ j. word_of st (at + 4 + j))
          and reaction_awaits s e (word_of st (at + 3))
    ]

unfoldable pub clock_cell : List ℕ → ℕ → ℕ → List ℤ → ℕ → Bool
clock_cell s e t st at = elim (is_zero (word_of st at)) [ true ↦ zero_words st at 1 | false ↦ is_below (word_of st at) 2 and running_clock s e t st at ]

-- a cell of a variable of type t of element e
unfoldable pub cell_fits : List ℕ → ℕ → ℕ → List ℤ → ℕ → Bool
cell_fits s e t st at = elim (is_clock t) [ true ↦ clock_cell s e t st at | false ↦ in_type s t (word_of st at) and zero_words st at 1 ]

-- the cells of variable j of element e, whose chart is c: each "per index in order"
unfoldable pub variable_fits : List ℕ → List ℤ → ℕ → Record → ℕ → Bool
variable_fits s st e c j = declared_so s ((chart_variables c).first + j) (λ t. all_below (cells_taken s ((chart_variables c).first + j)) (λ k. cell_fits s e t st (cell_of s e c j k)))

-- the cells of element e, "variables in order"
unfoldable pub element_fits : List ℕ → List ℤ → ℕ → Bool
element_fits s st e = holds (chart_of s e) (λ c. all_below (chart_variables c).count (variable_fits s st e c))

-- ---- telegrams

abbrev pub datum_of : Telegram → ℕ → ℤ
datum_of t j = get_or (t.d0 ∷ t.d1 ∷ t.d2 ∷ t.d3 ∷ []) j (pos 0)

-- "internal ones go from a bound element to itself"
unfoldable pub internal_fits : List ℕ → Telegram → Bool
internal_fits s t = same_word t.sender t.receiver and is_bound s (nat_abs t.receiver) and name_fits s internal t.name (datum_of t) and reaction_awaits s (nat_abs t.receiver) t.name

-- "Waiting telegrams never have both ends external"
unfoldable pub external_fits : List ℕ → Telegram → Bool
external_fits s t = not (is_below t.sender (externals_of s) and is_below t.receiver (externals_of s)) and is_below t.port (ports_of s) and name_fits s external t.name (datum_of t)

unfoldable pub telegram_fits : List ℕ → Telegram → Bool
telegram_fits s t = is_below t.sender (components_of s) and is_below t.receiver (components_of s) and elim (is_internal t) [ true ↦ internal_fits s t | false ↦ external_fits s t ]

-- ---- the whole state

unfoldable pub head_fits : List ℤ → Bool
head_fits st = counted st and zero_words st 0 1

unfoldable pub cells_fit : List ℕ → List ℤ → Bool
cells_fit s st = all_below (elements_of s) (λ i. element_fits s st (externals_of s + i))

unfoldable pub waiting_fit : List ℕ → List ℤ → Bool
waiting_fit s st = all_below (waiting st) (λ j. telegram_fits s (telegram_of s st j))

-- "unused ones zero"
unfoldable pub unused_zero : List ℕ → List ℤ → Bool
unused_zero s st = all_below (places - waiting st) (λ k. zero_words st (place_at s (waiting st + k)) 0)

-- at most 16 of a class: of the class of each telegram that waits
unfoldable pub classes_fit : List ℕ → List ℤ → Bool
classes_fit s st = all_below (waiting st) (λ j. leb (waiting_like s st (telegram_of s st j)) class_limit)

unfoldable pub content_fits : List ℕ → List ℤ → Bool
content_fits s st = head_fits st and cells_fit s st and waiting_fit s st and unused_zero s st and classes_fit s st

pub record OfSheet (s : List ℕ) (st : List ℤ) : Type 0 where
  pub whole : length st ≡ state_length s
  pub head : head_fits st ≡ true
  pub cells : cells_fit s st ≡ true
  pub telegrams : waiting_fit s st ≡ true
  pub unused : unused_zero s st ≡ true
  pub classes : classes_fit s st ≡ true
