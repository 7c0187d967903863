-- The state's words: head, the cells of the variables, 128 places for telegrams.
use Rattle.std.specs.Prelude.{ℕ, ◌+◌, ◌*◌, ◌-◌, List, [], ◌∷◌, ◌++◌, Bool, true, false, length, get_or, take, drop, set, replicate, ltb, eqb, ℤ, pos, negsuc, nat_abs}
use Rattle.sheet.specs.declared.Record.{Record}
use Rattle.sheet.specs.All.{◌and◌}
use Rattle.sheet.specs.Names.{external, internal}
use Rattle.machine.specs.declared.Telegram.{Telegram}
use Rattle.sheet_rules.specs.Fields.{count_below}
use Rattle.sheet_rules.specs.Indices.{cells_before}
use Rattle.sheet_rules.specs.Shape.{cells_of}
use Rattle.machine.specs.Values.{is_below, same_word, first_cell}

-- ---- where things lie: "8 head words ..; 8 words per variable ..; 128 telegram places of 8 words"

abbrev pub places : ℕ
places = 128

unfoldable pub cell_at : ℕ → ℕ
cell_at i = 8 + 8 * i

-- the first word of cell k of variable n of element e, whose chart is c; a plain variable has cell 0 only
unfoldable pub cell_of : List ℕ → ℕ → Record → ℕ → ℕ → ℕ
cell_of s e c n k = cell_at (first_cell s e + cells_before s c n + k)

unfoldable pub place_at : List ℕ → ℕ → ℕ
place_at s j = 8 + 8 * cells_of s + 8 * j

unfoldable pub state_length : List ℕ → ℕ
state_length s = place_at s places

unfoldable pub word_of : List ℤ → ℕ → ℤ
word_of st i = get_or st i (pos 0)

-- ---- "the number of waiting telegrams"

unfoldable pub waiting : List ℤ → ℕ
waiting st = nat_abs (word_of st 0)

unfoldable pub set_waiting : List ℤ → ℕ → List ℤ
set_waiting st n = set st 0 (pos n)

-- ---- "A telegram: sender, receiver, port (−1 if internal), name, four data."

unfoldable pub telegram_in : List ℤ → ℕ → Telegram
telegram_in st at = record { sender = word_of st at; receiver = word_of st (at + 1); port = word_of st (at + 2); name = word_of st (at + 3); d0 = word_of st (at + 4); d1 = word_of st (at + 5); d2 = word_of st (at + 6); d3 = word_of st (at + 7) }

-- the waiting telegram numbered j, "oldest first"
unfoldable pub telegram_of : List ℕ → List ℤ → ℕ → Telegram
telegram_of s st j = telegram_in st (place_at s j)

abbrev pub is_internal : Telegram → Bool
is_internal t = same_word t.port (negsuc 0)

abbrev pub words_of : Telegram → List ℤ
words_of t = t.sender ∷ t.receiver ∷ t.port ∷ t.name ∷ t.d0 ∷ t.d1 ∷ t.d2 ∷ t.d3 ∷ []

-- words from a place on, put in the place of as many
unfoldable pub put_words : List ℤ → ℕ → List ℤ → List ℤ
put_words st at ws = take at st ++ ws ++ drop (at + length ws) st

-- "Sends append": the telegram after the last one that waits
unfoldable pub with_telegram : List ℕ → List ℤ → Telegram → List ℤ
with_telegram s st t = set_waiting (put_words st (place_at s (waiting st)) (words_of t)) (waiting st + 1)

-- the last number of the table of answers: a run is refused with one from 6 to this
abbrev pub last_refusal : ℕ
last_refusal = 12

-- what a change of the state comes to: the new state, or the number of its refusal; or the machine is stuck
pub data Changed : Type 0 where
  on : List ℤ → Changed
  off : ℕ → Changed
  lost : Changed

-- the state's first word is a number of telegrams that can wait
abbrev pub counted : List ℤ → Bool
counted st = is_below (word_of st 0) (places + 1)

-- "one sender, receiver and class, the class being internal or external"; the class has the number that it has in a telegram name
unfoldable pub class_of : Telegram → ℕ
class_of t = elim (is_internal t) [ true ↦ internal | false ↦ external ]

unfoldable pub same_class : Telegram → Telegram → Bool
same_class t u = same_word t.sender u.sender and same_word t.receiver u.receiver and eqb (class_of t) (class_of u)

-- how many wait that have t's sender, receiver and class
unfoldable pub waiting_like : List ℕ → List ℤ → Telegram → ℕ
waiting_like s st t = count_below (waiting st) (λ j. same_class t (telegram_of s st j))

-- "At most 16 telegrams may wait for one sender, receiver and class"
abbrev pub class_limit : ℕ
class_limit = 16

-- "128 telegrams wait and one more is appended": 8; "a seventeenth of its class, tested after 8": 12. Sends, Outside and slices all append by this
unfoldable pub appended : List ℕ → List ℤ → Telegram → Changed
appended s st t =
    elim (counted st) [
      | true ↦ elim (ltb (waiting st) places) [ true ↦ elim (ltb (waiting_like s st t) class_limit) [ true ↦ on (with_telegram s st t) | false ↦ off 12 ] | false ↦ off 8 ]
      | false ↦ lost
    ]

-- the words of the places from number i to the last
unfoldable pub places_from : List ℕ → List ℤ → ℕ → List ℤ
places_from s st i = take (8 * (places - i)) (drop (place_at s i) st)

-- telegram j "is removed, later ones close up"; "unused ones zero". What stands behind the places stays
unfoldable pub without_telegram : List ℕ → List ℤ → ℕ → List ℤ
without_telegram s st j = set_waiting (put_words st (place_at s j) (places_from s st (j + 1) ++ replicate 8 (pos 0))) (waiting st - 1)
