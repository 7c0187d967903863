-- Answers as text.
use Rattle.std.specs.Prelude.{ℕ, List, [], ◌∷◌, ◌++◌, ℤ, Option, Some, None}
use Rattle.machine.specs.declared.Telegram.{Telegram}
use Rattle.machine.specs.declared.Answer.{Answer}
use Rattle.program_text.specs.Decimal.{decimal, signed}

abbrev pub space : List ℕ
space = 32 ∷ []

abbrev pub newline : List ℕ
newline = 10 ∷ []

-- "answer and steps"
unfoldable pub counts_text : ℕ → ℕ → List ℕ
counts_text number steps = decimal number ++ space ++ decimal steps

-- a number behind a separator
unfoldable pub after_text : ℕ → ℤ → List ℕ
after_text sep z = (sep ∷ []) ++ signed z

-- "the receiver, port, name and four data"
unfoldable pub telegram_text : ℕ → Telegram → List ℕ
telegram_text sep t = signed t.receiver ++ after_text sep t.port ++ after_text sep t.name ++ after_text sep t.d0 ++ after_text sep t.d1 ++ after_text sep t.d2 ++ after_text sep t.d3

-- "after "to" .. handed outside": 116 and 111 are t and o
unfoldable pub handed_text : Option Telegram → List ℕ
handed_text None = []
handed_text (Some t) = (32 ∷ 116 ∷ 111 ∷ 32 ∷ []) ++ telegram_text 32 t

-- "it prints "start" with answer and steps"
unfoldable pub start_line : ℕ → ℕ → List ℕ
start_line number steps = (115 ∷ 116 ∷ 97 ∷ 114 ∷ 116 ∷ 32 ∷ []) ++ counts_text number steps ++ newline

-- "then for each event its number from 1, answer and steps, and after "to" the receiver, port, name and four data handed outside": a line is made from the event's kind and its answer
unfoldable pub event_line : ℕ → ℤ → Answer → List ℕ
event_line k kind a = decimal k ++ space ++ counts_text a.number a.steps ++ handed_text a.handed ++ newline

-- the most that such a line takes: a number of 20 digits, a space, answer and steps, what is handed, and the newline
abbrev pub longest_line : ℕ
longest_line = 220
