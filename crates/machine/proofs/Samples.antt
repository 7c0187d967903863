-- What samples are made of: the machine with every definition open, on sheets that are given by their records. It "reads any sheet, passed or not", so a sample's sheet has no more than the sample needs: by these the edits of the definitions are refused. Samples on whole sheets, among them the paper's starred ones, are in `machine_samples`.
use Prim.Native.Nat.{ℕ}
use mathlib.Core.List.{List, [], ◌∷◌}
use mathlib.Core.Path.{◌≡◌, refl}
use lib.ListN.{replicate}
use lib.IntN.{ℤ, pos, negsuc}
use Rattle.sheet.specs.All.{◌and◌}
use Rattle.sheet.specs.Table.{look_up}
use Rattle.sheet.specs.declared.Record.{Record}
use Rattle.sheet_rules.specs.Forms.{binary_of}
use Rattle.sheet_rules.proofs.Samples.{sheet_of, check}
use Rattle.machine_division.specs.Division.{quotient, remainder}
use Rattle.machine.specs.Values.{fits32, is_below, record_by, is_zero, in_data_type, in_type, default_in, default_of, has_default, is_bound, binding_at, binding_of, chart_of, first_cell}
use Rattle.machine.specs.State.{cell_at, cell_of, place_at, state_length, word_of, waiting, set_waiting, telegram_in, telegram_of, put_words, with_telegram, class_of, same_class, waiting_like, appended, places_from, without_telegram}
use Rattle.machine.specs.Valid.{data_fit}
use Rattle.machine.specs.Eval.{Context, val, is_variable, is_plain_variable, and_then, needs, on_record, int_out, dividing, not_val, on_ints, combined, binary_val, written, literal_value, within, of_type, parameter_val, variable_at_cell, reached, element_as, element_val, read_as, read_val, clock_word, clock_val, eval_in, eval_step, eval_f, eval_of}
use Rattle.machine.specs.Run.{World, go_on, then_operand, with_record, provided, before, next_value, values_from, then_values, are_of, words_in, local_at, list_from, locals_of, locals_there, append, armed, clock_set, fewer, assigned, has_variable, assign_of, element_assigned, assign_element_of, name_values, external_send_of, internal_send_of, arm_of, clock_act_of, entered, call_of, choice_of, run_in, run_step, run_f, run_of}
use Rattle.machine.specs.Kinds.{kind_of}
use Rattle.machine.specs.Play.{Outcome, ended, stuck, limit_by, body_from, body_where, ran_body, element_body, alone, event_end, limit_of}
use Rattle.machine.specs.Play.{default_cell, alike, default_cells, element_cells, cells_from, default_state, has_head, element_there, elements_there}
use Rattle.machine.specs.Play.{start_next, start_from, started, oldest_from, oldest, taking, same_declared, brought, reacting}
use Rattle.machine.specs.Play.{panicking, with_number, outside, bodies_there, received, delivered, deliver, corrupt}
use Rattle.machine.specs.Play.{inner, then_slice, fires, ticks, sliced_cell, sliced_each, sliced_variable, sliced_cells, sliced_element, sliced_from}
use Rattle.machine.specs.Play.{change_end, slice, happens_as, happens}
use Rattle.machine.specs.declared.Out.{Out}
use Rattle.machine.specs.declared.Out.TheVariants.{Val, Refused}

-- ---- Int: operator 15 div, 16 mod, with l steps left

unfoldable pub int : ℤ → ℕ → Out
int z l = Val (val 1 z) l

-- an operator on two Ints
unfoldable pub on_ints_lem : ℕ → ℤ → ℤ → ℕ → Out
unfolding ◌and◌ fits32 is_zero needs int_out quotient remainder dividing binary_of look_up on_ints combined binary_val
on_ints_lem op a b l = binary_val op (val 1 a) (val 1 b) l

pub mod-zero : (l : ℕ) → on_ints_lem 16 (pos 7) (pos 0) l ≡ Refused 6 l
unfolding on_ints_lem
mod-zero l = refl

-- ---- expressions and statements, in a body that runs

-- a record by its fields
abbrev pub fields : ℕ → ℕ → ℕ → ℕ → ℕ → ℕ → ℕ → ℕ → Record
fields a b c d e f g h = record { f0 = a; f1 = b; f2 = c; f3 = d; f4 = e; f5 = f; f6 = g; f7 = h }

-- element 0, whose chart has parameters and variables, all from declaration 0 on, and one body, which is the one that runs: its parameters and locals, from there on too
abbrev pub in_body : ℕ → ℕ → ℕ → ℕ → Context
in_body parameters variables body_parameters locals = record { element = 0; chart = fields 0 parameters 0 variables 0 1 0 0; binding = 0; body = fields 0 0 0 0 body_parameters 0 locals 0 }

-- a sheet without head and charts: declarations, names, bodies, nodes, bindings
abbrev pub headless : List ℕ → List ℕ → List ℕ → List ℕ → List ℕ → List (List ℕ)
headless declarations names bodies nodes bindings = [] ∷ [] ∷ declarations ∷ names ∷ [] ∷ bodies ∷ nodes ∷ bindings ∷ []

-- what node n gives, with l steps left; the body's variables are 0
unfoldable pub gives : List (List ℕ) → Context → List ℤ → ℕ → ℕ → Out
unfolding check fits32 is_below record_by is_zero in_data_type in_type default_in default_of has_default is_bound binding_at binding_of chart_of first_cell cell_at cell_of
    place_at state_length word_of waiting set_waiting telegram_in telegram_of put_words with_telegram class_of same_class waiting_like appended places_from without_telegram and_then
    needs on_record int_out quotient remainder dividing not_val on_ints combined binary_val written literal_value within of_type parameter_val is_variable
    is_plain_variable variable_at_cell reached element_as element_val read_as read_val clock_word clock_val eval_in eval_step eval_f eval_of
gives ss x st n l = eval_of (sheet_of ss) x st (replicate 16 (pos 0)) n l

-- what it does
unfoldable pub runs : List (List ℕ) → Context → List ℤ → ℕ → ℕ → World
unfolding gives go_on then_operand with_record provided before next_value values_from then_values are_of words_in local_at list_from locals_of locals_there append armed
    clock_set fewer assigned has_variable assign_of element_assigned assign_element_of name_values external_send_of internal_send_of arm_of clock_act_of entered call_of
    choice_of run_in run_step run_f run_of
runs ss x st n l = run_of (sheet_of ss) 0 x n l st (replicate 16 (pos 0))

-- ---- start and events, without the tests of sheet, state and event that a call makes before

unfoldable pub begun : List (List ℕ) → Outcome
unfolding runs limit_by body_from body_where ran_body element_body alone default_cell alike default_cells element_cells cells_from default_state has_head
    element_there elements_there start_next start_from started
begun ss = started (sheet_of ss) (limit_of (sheet_of ss))

unfoldable pub event : List (List ℕ) → List ℤ → List ℤ → Outcome
unfolding begun data_fit event_end oldest_from oldest taking same_declared brought reacting panicking with_number outside bodies_there
    received delivered deliver corrupt inner then_slice fires ticks sliced_cell sliced_each sliced_variable sliced_cells sliced_element
    sliced_from change_end slice kind_of happens_as happens
event ss st ev = happens (sheet_of ss) (limit_of (sheet_of ss)) st ev

-- kind, s and r; the other words are 0, which also is port 0 and name 0 of an Outside
unfoldable pub words : ℕ → ℕ → ℕ → List ℤ
words kind sender receiver = pos kind ∷ pos sender ∷ pos receiver ∷ replicate 6 (pos 0)

-- a telegram of external name 0 on port 0
unfoldable pub sent : ℕ → ℕ → List ℤ
sent sender receiver = pos sender ∷ pos receiver ∷ replicate 6 (pos 0)

-- one of internal name 0
unfoldable pub fired : ℕ → List ℤ
fired e = pos e ∷ pos e ∷ negsuc 0 ∷ replicate 5 (pos 0)

-- the answer's number, its steps, and how many telegrams wait then
unfoldable pub row : ℕ → ℕ → ℕ → List ℕ
row number steps count = number ∷ steps ∷ count ∷ []

-- that of what isn't stuck
unfoldable pub told : Outcome → List ℕ
unfolding row waiting
told (ended a st) = row a.number a.steps (waiting st)
told stuck = []
