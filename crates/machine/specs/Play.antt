-- Start and the five kinds of event.
use Rattle.std.specs.Prelude.{ℕ, zero, suc, ◌+◌, ◌*◌, ◌-◌, List, [], ◌∷◌, ◌++◌, Bool, true, false, not, length, set, replicate, ltb, leb, eqb, ℤ, pos, negsuc, nat_abs, ◌+ℤ◌, ◌-ℤ◌, Option, Some, None}
use Rattle.sheet.specs.declared.Record.{Record}
use Rattle.sheet.specs.All.{◌and◌, all_below}
use Rattle.sheet.specs.Names.{head, declarations, names, bodies, declared_type, data_of, step_limit, external, chart_variables, chart_bodies, role, initial, panic, external_reaction, reaction_port, reaction_name, body_parameters, root, timer_type, timeout_type, is_clock}
use Rattle.sheet.specs.Sheet.{count_of, record_of}
use Rattle.sheet_rules.specs.declared.Checked.{Checked}
use Rattle.sheet_rules.specs.declared.Checked.TheVariants.{Passed, Shape, Static}
use Rattle.machine.specs.declared.Telegram.{Telegram}
use Rattle.machine.specs.declared.Answer.{Answer}
use Rattle.machine.specs.declared.Ran.{Ran}
use Rattle.machine.specs.declared.Ran.TheVariants.{Done, Refused, Stuck}
use Rattle.sheet_rules.specs.Fields.{holds, number_or0, declared_so, type_at, components_of, externals_of, ports_of, elements_of, in_section}
use Rattle.sheet_rules.specs.Indices.{cells_taken}
use Rattle.sheet_rules.specs.Types.{reacts_to}
use Rattle.machine.specs.Values.{is_below, record_by, is_zero, same_word, default_of, has_default, binding_at, chart_of, first_cell}
use Rattle.machine.specs.State.{places, cell_at, state_length, word_of, waiting, telegram_of, put_words, Changed, on, off, lost, counted, appended, without_telegram, is_internal}
use Rattle.machine.specs.Valid.{data_fit, name_fits, datum_of, content_fits}
use Rattle.machine.specs.Run.{World, with_record, provided, locals_of, locals_there, telegram, run_of}
use Rattle.machine.specs.Kinds as kind
use Rattle.machine.specs.Kinds.{Kind, kind_of}
use Rattle.sheet_rules.specs.Check.{check_of}

-- What a call comes to: an answer and what the result state then holds; or the machine is stuck.
pub data Outcome : Type 0 where
  ended : Answer → List ℤ → Outcome
  stuck : Outcome

-- an answer by which no telegram was dropped
abbrev pub answer : ℕ → ℕ → Option Telegram → Answer
answer n k h = record { number = n; steps = k; dropped = 0; handed = h }

-- ---- the step limit: how many steps each body of start and each event may take

-- the head's f3; 0 where there is no head
abbrev pub written_limit : List ℕ → ℕ
written_limit s = number_or0 (record_of s head 0) step_limit

-- "f3 step limit": 0 stands for the machine's default
unfoldable pub limit_by : ℕ → List ℕ → ℕ
limit_by default s = elim (eqb (written_limit s) 0) [ true ↦ default | false ↦ written_limit s ]

-- "Head f3 of 0 now means 2,000 steps"
abbrev pub default_limit : ℕ
default_limit = 2000

abbrev pub limit_of : List ℕ → ℕ
limit_of s = limit_by default_limit s

-- ---- bodies, within a limit

-- the first of n records of section 5 from number i on that meets a test
unfoldable pub body_from : List ℕ → (Record → Bool) → ℕ → ℕ → Option Record
body_from s p zero i = None
body_from s p (suc n) i = elim (holds (record_of s bodies i) p) [ true ↦ record_of s bodies i | false ↦ body_from s p n (suc i) ]

unfoldable pub body_where : List ℕ → Record → (Record → Bool) → Option Record
body_where s c p = body_from s p (chart_bodies c).count (chart_bodies c).first

abbrev pub has_panic : Record → Bool
has_panic b = eqb (role b) panic

abbrev pub is_initial : Record → Bool
is_initial b = eqb (role b) initial

abbrev pub reacts_on : ℕ → ℕ → Record → Bool
reacts_on p n b = eqb (role b) external_reaction and eqb (reaction_port b) p and eqb (reaction_name b) n

-- a body of element e runs, with data for its parameters: what is left of the limit, and the state
unfoldable pub ran_body : List ℕ → ℕ → ℕ → Option Record → List ℤ → List ℤ → World
ran_body s limit e f zs st =
    with_record (chart_of s e) st [] (λ c.
    with_record f st [] (λ d.
    provided (locals_there s d) st []
    (run_of s 0 (record { element = e; chart = c; binding = binding_at s e; body = d }) (root d) limit st (locals_of s d zs))))

-- the body of element e's chart that meets a test
unfoldable pub element_body : List ℕ → ℕ → (Record → Bool) → Option Record
element_body s e p = elim (chart_of s e) [ Some c ↦ body_where s c p | None ↦ None ]

-- a body that runs without data has no parameters
unfoldable pub alone : Option Record → Option Record
alone (Some b) = elim (eqb (body_parameters b).count 0) [ true ↦ Some b | false ↦ None ]
alone None = None

-- an event's body: 6 to 12 leave a copy of the old state
unfoldable pub event_end : ℕ → List ℤ → Ran → List ℤ → Outcome
event_end limit old (Done l) st = ended (answer 0 (limit - l) None) st
event_end limit old (Refused n l) st = ended (answer n (limit - l) None) old
event_end limit old Stuck st = stuck

abbrev pub body_event : List ℕ → ℕ → List ℤ → ℕ → Option Record → List ℤ → List ℤ → Outcome
body_event s limit old e f zs st = let w = ran_body s limit e f zs st in event_end limit old w.ran w.st

-- ---- start: "all defaults, nothing waiting, then the initial bodies in element order"

-- a cell of a variable of type t
unfoldable pub default_cell : List ℕ → ℕ → List ℤ
default_cell s t = default_of s t ∷ replicate 7 (pos 0)

-- n cells alike
unfoldable pub alike : ℕ → List ℤ → List ℤ
alike zero ws = []
alike (suc n) ws = ws ++ alike n ws

-- of n variables from declaration d on
unfoldable pub default_cells : List ℕ → ℕ → ℕ → List ℤ
default_cells s zero d = []
default_cells s (suc n) d = alike (cells_taken s d) (default_cell s (type_at s d)) ++ default_cells s n (suc d)

-- of element e
unfoldable pub element_cells : List ℕ → ℕ → List ℤ
element_cells s e = elim (chart_of s e) [ Some c ↦ default_cells s (chart_variables c).count (chart_variables c).first | None ↦ [] ]

unfoldable pub cells_from : List ℕ → ℕ → ℕ → List ℤ
cells_from s zero e = []
cells_from s (suc n) e = element_cells s e ++ cells_from s n (suc e)

unfoldable pub default_state : List ℕ → List ℤ
default_state s = replicate 8 (pos 0) ++ cells_from s (elements_of s) (externals_of s) ++ replicate (8 * places) (pos 0)

-- the head is there
unfoldable pub has_head : List ℕ → Bool
has_head s = holds (record_of s head 0) (λ h. true)

-- element e has its binding and chart, and its variables have defaults
unfoldable pub element_there : List ℕ → ℕ → Bool
element_there s e = holds (chart_of s e) (λ c. all_below (chart_variables c).count (λ j. has_default s ((chart_variables c).first + j)))

unfoldable pub elements_there : List ℕ → Bool
elements_there s = has_head s and all_below (elements_of s) (λ i. element_there s (externals_of s + i))

-- a body of start ended after earlier ones took k steps; after 6 to 12 "its state is all zeros"
unfoldable pub start_next : List ℕ → ℕ → ℕ → Ran → List ℤ → (ℕ → List ℤ → Outcome) → Outcome
start_next s limit k (Done l) st K = K (k + (limit - l)) st
start_next s limit k (Refused n l) st K = ended (answer n (k + (limit - l)) None) (replicate (state_length s) (pos 0))
start_next s limit k Stuck st K = stuck

-- n elements from e on
unfoldable pub start_from : List ℕ → ℕ → ℕ → ℕ → ℕ → List ℤ → Outcome
start_from s limit zero e k st = ended (answer 0 k None) st
start_from s limit (suc n) e k st = let w = ran_body s limit e (alone (element_body s e is_initial)) [] st in start_next s limit k w.ran w.st (λ k st. start_from s limit n (suc e) k st)

unfoldable pub started : List ℕ → ℕ → Outcome
started s limit = elim (elements_there s) [ true ↦ start_from s limit (elements_of s) (externals_of s) 0 (default_state s) | false ↦ stuck ]

-- ---- telegrams that wait

-- the oldest of n telegrams from number j on that meets a test; none is the number behind them
unfoldable pub oldest_from : List ℕ → List ℤ → (Telegram → Bool) → ℕ → ℕ → ℕ
oldest_from s st p zero j = j
oldest_from s st p (suc n) j = elim (p (telegram_of s st j)) [ true ↦ j | false ↦ oldest_from s st p n (suc j) ]

unfoldable pub oldest : List ℕ → List ℤ → (Telegram → Bool) → ℕ
oldest s st p = oldest_from s st p (waiting st) 0

abbrev pub goes_from : ℤ → ℤ → Telegram → Bool
goes_from a b t = not (is_internal t) and same_word t.sender a and same_word t.receiver b

abbrev pub inner_of : ℤ → Telegram → Bool
inner_of r t = is_internal t and same_word t.receiver r

-- the telegram found is removed and taken on; "no such telegram waits": 5
unfoldable pub taking : List ℕ → List ℤ → (Telegram → Bool) → (Telegram → List ℤ → Outcome) → Outcome
taking s st p K = elim (counted st) [ true ↦ elim (ltb (oldest s st p) (waiting st)) [ true ↦ K (telegram_of s st (oldest s st p)) (without_telegram s st (oldest s st p)) | false ↦ ended (answer 5 0 None) st ] | false ↦ stuck ]

-- two declarations are there and are of one type
unfoldable pub same_declared : List ℕ → ℕ → ℕ → Bool
same_declared s d d' = declared_so s d (λ t. declared_so s d' (eqb t))

-- the data that a telegram brings to a body: values of its name's types, as many as the body has parameters and of their types
unfoldable pub brought : List ℕ → Telegram → Record → Bool
brought s t b =
    holds (record_by s names t.name) (λ n.
    eqb (data_of n).count (body_parameters b).count
    and leb (data_of n).count 4
    and all_below (data_of n).count (λ j. same_declared s ((data_of n).first + j) ((body_parameters b).first + j))
    and data_fit s (data_of n) (datum_of t))

unfoldable pub reacting : List ℕ → ℕ → List ℤ → ℕ → Option Record → Telegram → List ℤ → Outcome
reacting s limit old e f t st = elim (holds f (brought s t)) [ true ↦ body_event s limit old e f (t.d0 ∷ t.d1 ∷ t.d2 ∷ t.d3 ∷ []) st | false ↦ stuck ]

unfoldable pub panicking : List ℕ → ℕ → List ℤ → ℕ → List ℤ → Outcome
panicking s limit old e st = body_event s limit old e (alone (element_body s e has_panic)) [] st

-- a word that has to be a number
unfoldable pub with_number : ℤ → (ℕ → Outcome) → Outcome
with_number (pos n) K = K n
with_number (negsuc n) K = stuck

-- ---- the five kinds

-- an event that runs no body has no steps; refused, it leaves a copy of the old state
unfoldable pub change_end : List ℤ → Changed → Outcome
change_end old (on st) = ended (answer 0 0 None) st
change_end old (off n) = ended (answer n 0 None) old
change_end old lost = stuck

-- 1: "external s sends to bound r on port p external name n; appended"
unfoldable pub outside : List ℕ → List ℤ → Telegram → Outcome
outside s st t = change_end st (appended s st t)

-- every body of element e's chart is there
unfoldable pub bodies_there : List ℕ → ℕ → Bool
bodies_there s e = holds (chart_of s e) (λ c. in_section s bodies (chart_bodies c))

-- a telegram for bound element e: "the reaction for its port and name runs, or without one the panic body"
unfoldable pub received : List ℕ → ℕ → List ℤ → Telegram → List ℤ → ℕ → ℕ → ℕ → Outcome
received s limit old t st e p n =
    elim (element_body s e (reacts_on p n)) [
      | Some b ↦ reacting s limit old e (Some b) t st
      | None ↦ elim (bodies_there s e) [ true ↦ panicking s limit old e st | false ↦ stuck ]
    ]

-- 2: "If r is external it is handed outside. If bound, .."
unfoldable pub delivered : List ℕ → ℕ → List ℤ → Telegram → List ℤ → Outcome
delivered s limit old t st =
    elim (is_below t.receiver (externals_of s)) [
      | true ↦ ended (answer 0 0 (Some t)) st
      | false ↦ with_number t.receiver (λ e. with_number t.port (λ p. with_number t.name (λ n. received s limit old t st e p n)))
    ]

unfoldable pub deliver : List ℕ → ℕ → List ℤ → ℤ → ℤ → Outcome
deliver s limit st a r = taking s st (goes_from a r) (delivered s limit st)

-- 3: "as 2 with bound r, but the panic body runs"
unfoldable pub corrupt : List ℕ → ℕ → List ℤ → ℤ → ℤ → Outcome
corrupt s limit st a r = taking s st (goes_from a r) (λ t st'. with_number r (λ e. panicking s limit st e st'))

-- 4: "the oldest internal telegram of r is removed and its reaction runs"
unfoldable pub inner : List ℕ → ℕ → List ℤ → ℤ → Outcome
inner s limit st r = taking s st (inner_of r) (λ t st'. with_number r (λ e. with_number t.name (λ n. reacting s limit st e (element_body s e (reacts_to n)) t st')))

-- 5: "clocks in state order, stopped ones passed over"

unfoldable pub then_slice : Changed → (List ℤ → Changed) → Changed
then_slice (on st) K = K st
then_slice (off n) K = off n
then_slice lost K = lost

-- the telegram of a clock of element e
abbrev pub clock_telegram : ℕ → List ℤ → ℕ → Telegram
clock_telegram e st at = telegram (pos e) (pos e) (negsuc 0) (nat_abs (word_of st (at + 3))) (word_of st (at + 4) ∷ word_of st (at + 5) ∷ word_of st (at + 6) ∷ word_of st (at + 7) ∷ [])

-- its name is there; it is appended, then the clock's words are set
unfoldable pub fires : List ℕ → ℕ → ℕ → List ℤ → List ℤ → Changed
fires s e at ws st = elim (is_below (word_of st (at + 3)) (count_of s names)) [ true ↦ then_slice (appended s st (clock_telegram e st at)) (λ st'. on (put_words st' at ws)) | false ↦ lost ]

-- "Timer: plus 1, or 6 at 2,147,483,647. Timeout: at 1 its telegram is appended and it stops, otherwise minus 1. Cycler: at 0 its telegram is appended and value becomes period − 1, otherwise minus 1."
unfoldable pub ticks : List ℕ → ℕ → ℕ → ℕ → List ℤ → Changed
ticks s e t at st =
    elim (eqb t timer_type) [
      | true ↦ elim (same_word (word_of st (at + 1)) (pos 2147483647)) [ true ↦ off 6 | false ↦ on (set st (at + 1) (word_of st (at + 1) +ℤ pos 1)) ]
      | false ↦ elim (eqb t timeout_type) [
        | true ↦ elim (same_word (word_of st (at + 1)) (pos 1)) [ true ↦ fires s e at (replicate 8 (pos 0)) st | false ↦ on (set st (at + 1) (word_of st (at + 1) -ℤ pos 1)) ]
        | false ↦ elim (is_zero (word_of st (at + 1))) [ true ↦ fires s e at (pos 1 ∷ (word_of st (at + 2) -ℤ pos 1) ∷ []) st | false ↦ on (set st (at + 1) (word_of st (at + 1) -ℤ pos 1)) ]
      ]
    ]

unfoldable pub sliced_cell : List ℕ → ℕ → ℕ → ℕ → List ℤ → Changed
sliced_cell s e t at st = elim (is_clock t and not (is_zero (word_of st at))) [ true ↦ ticks s e t at st | false ↦ on st ]

-- n cells of a variable of type t, from cell i on
unfoldable pub sliced_each : List ℕ → ℕ → ℕ → ℕ → ℕ → List ℤ → Changed
sliced_each s e t zero i st = on st
sliced_each s e t (suc n) i st = then_slice (sliced_cell s e t (cell_at i) st) (sliced_each s e t n (suc i))

-- the variable of declaration d, whose first cell is i
unfoldable pub sliced_variable : List ℕ → ℕ → ℕ → ℕ → List ℤ → Changed
sliced_variable s e d i st = elim (record_of s declarations d) [ Some r ↦ sliced_each s e (declared_type r) (cells_taken s d) i st | None ↦ lost ]

-- n variables of element e, from declaration d and cell i on
unfoldable pub sliced_cells : List ℕ → ℕ → ℕ → ℕ → ℕ → List ℤ → Changed
sliced_cells s e zero d i st = on st
sliced_cells s e (suc n) d i st = then_slice (sliced_variable s e d i st) (sliced_cells s e n (suc d) (i + cells_taken s d))

unfoldable pub sliced_element : List ℕ → ℕ → List ℤ → Changed
sliced_element s e st = elim (chart_of s e) [ Some c ↦ sliced_cells s e (chart_variables c).count (chart_variables c).first (first_cell s e) st | None ↦ lost ]

unfoldable pub sliced_from : List ℕ → ℕ → ℕ → List ℤ → Changed
sliced_from s zero e st = on st
sliced_from s (suc n) e st = then_slice (sliced_element s e st) (sliced_from s n (suc e))

unfoldable pub slice : List ℕ → List ℤ → Outcome
slice s st = change_end st (elim (has_head s) [ true ↦ sliced_from s (elements_of s) (externals_of s) st | false ↦ lost ])

-- ---- events: "nine words: kind, s, r, p, n, four data"

abbrev pub words_of_event : ℕ
words_of_event = 9

-- the words from number i on are 0
unfoldable pub rest_zero : List ℤ → ℕ → Bool
rest_zero ev i = all_below (words_of_event - i) (λ k. is_zero (word_of ev (i + k)))

abbrev pub bound_word : List ℕ → ℤ → Bool
bound_word s z = is_below z (components_of s) and not (is_below z (externals_of s))

unfoldable pub well_formed : List ℕ → List ℤ → Kind → Bool
well_formed s ev kind.outside = is_below (word_of ev 1) (externals_of s) and bound_word s (word_of ev 2) and is_below (word_of ev 3) (ports_of s) and name_fits s external (word_of ev 4) (λ j. word_of ev (5 + j))
well_formed s ev kind.deliver = is_below (word_of ev 1) (components_of s) and is_below (word_of ev 2) (components_of s) and not (is_below (word_of ev 1) (externals_of s) and is_below (word_of ev 2) (externals_of s)) and rest_zero ev 3
well_formed s ev kind.corrupt = is_below (word_of ev 1) (components_of s) and bound_word s (word_of ev 2) and rest_zero ev 3
well_formed s ev kind.inner = is_zero (word_of ev 1) and is_below (word_of ev 2) (components_of s) and rest_zero ev 3
well_formed s ev kind.slice = rest_zero ev 1
well_formed s ev kind.no_kind = false

unfoldable pub is_event : List ℕ → List ℤ → Bool
is_event s ev = eqb (length ev) words_of_event and well_formed s ev (kind_of (word_of ev 0))

abbrev pub telegram_of_event : List ℤ → Telegram
telegram_of_event ev = record { sender = word_of ev 1; receiver = word_of ev 2; port = word_of ev 3; name = word_of ev 4; d0 = word_of ev 5; d1 = word_of ev 6; d2 = word_of ev 7; d3 = word_of ev 8 }

-- a well formed event; another is turned down before
unfoldable pub happens_as : List ℕ → ℕ → List ℤ → List ℤ → Kind → Outcome
happens_as s limit st ev kind.outside = outside s st (telegram_of_event ev)
happens_as s limit st ev kind.deliver = deliver s limit st (word_of ev 1) (word_of ev 2)
happens_as s limit st ev kind.corrupt = corrupt s limit st (word_of ev 1) (word_of ev 2)
happens_as s limit st ev kind.inner = inner s limit st (word_of ev 2)
happens_as s limit st ev kind.slice = slice s st
happens_as s limit st ev kind.no_kind = stuck

unfoldable pub happens : List ℕ → ℕ → List ℤ → List ℤ → Outcome
happens s limit st ev = happens_as s limit st ev (kind_of (word_of ev 0))

-- ---- the answers of start and event, with what the result state then holds: "1 to 5 in that order"; 6 to 12, "the first met"

abbrev pub turned_down : ℕ → List ℤ → Outcome
turned_down n result = ended (answer n 0 None) result

unfoldable pub if_passed : Checked → List ℤ → (List ℤ → Outcome) → Outcome
if_passed Passed result K = K result
if_passed Shape result K = turned_down 1 result
if_passed Static result K = turned_down 2 result

-- within a limit; "the result state" is lent
unfoldable pub start_call : List ℕ → ℕ → List ℤ → Outcome
start_call s limit result = if_passed (check_of s) result (λ result. elim (eqb (length result) (state_length s)) [ true ↦ started s limit | false ↦ turned_down 3 result ])

unfoldable pub event_call : List ℕ → ℕ → List ℤ → List ℤ → List ℤ → Outcome
event_call s limit old result ev =
    if_passed (check_of s) result (λ result.
    elim (eqb (length old) (state_length s) and eqb (length result) (state_length s)) [
      | true ↦ elim (content_fits s old) [ true ↦ elim (is_event s ev) [ true ↦ happens s limit old ev | false ↦ turned_down 4 result ] | false ↦ turned_down 3 result ]
      | false ↦ turned_down 3 result
    ])
