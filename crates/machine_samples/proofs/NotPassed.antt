-- Samples about the machine on sheets and states that aren't passed, which no call of check, start or event reaches, as a table of theorems: "It reads any sheet, passed or not. .. It is stuck when a record, name, variable or body that it needs is absent, a value has another type than the place needs or lies outside its type, or data differ in number." In `machine` are those by which the edits of the definitions are refused, on sheets that have still less.
use Prim.Native.Nat.{ℕ, zero, suc, ◌+◌, ◌/◌}
use mathlib.Core.List.{List, [], ◌∷◌, ◌++◌}
use mathlib.Core.Path.{◌≡◌, refl}
use lib.ListN.{length, replicate}
use lib.IntN.{ℤ, pos, negsuc}
use Rattle.machine.specs.Play.{Outcome, stuck, is_initial, ran_body, element_body, limit_of}
use Rattle.machine.specs.declared.Ran.{Ran}
use Rattle.machine.specs.declared.Ran.TheVariants.{Done, Stuck}
use Rattle.sheet_rules.proofs.Samples.{sheet_of, rec3, rec6, body}
use Rattle.machine.proofs.Samples.{begun, event, row, sent, told}
use Rattle.machine_samples.proofs.Plays.{answered, waits}

-- ---- sheets

-- nodes 0 to 6 are Int 1, Int 0, 1 div 0, Log, log, false, skip; a field that is 0 so stands for Int 1. Nodes that are given come after, and the last one is a root
abbrev tools : List ℕ
tools = rec3 2 1 0 ++ rec3 2 0 0 ++ rec3 15 0 1 ++ rec3 4 0 0 ++ rec3 5 0 0 ++ rec3 1 0 0 ++ rec3 32 0 0

abbrev last : List ℕ → ℕ
last nodes = 6 + length nodes / 8

-- one bound element, component 2: step limit, enumerated types, declarations, names, its chart, bodies, nodes
abbrev one : ℕ → List ℕ → List ℕ → List ℕ → List ℕ → List ℕ → List ℕ → List (List ℕ)
one limit enumerated declarations names chart bodies nodes = rec6 3 2 2 limit 0 0 ∷ enumerated ∷ declarations ∷ names ∷ chart ∷ bodies ∷ (tools ++ nodes) ∷ rec3 0 0 0 ∷ []

-- declarations 0 to 16 are Ints, 17 is a Bool, 18 a Timeout
abbrev ints : ℕ → List ℕ
ints zero = []
ints (suc n) = rec3 1 0 0 ++ ints n

abbrev declared : List ℕ
declared = ints 17 ++ rec3 0 0 0 ++ rec3 5 0 0

-- a body by role, parameters as first declaration and count, number of locals, which are from declaration 0 on, and root
abbrev ranged : ℕ → ℕ → ℕ → ℕ → ℕ → List ℕ
ranged role first parameters locals root = role ∷ 0 ∷ 0 ∷ first ∷ parameters ∷ 0 ∷ locals ∷ root ∷ []

-- a condition, the last of some nodes, and skip whether it holds or not
abbrev testing : List ℕ → List ℕ
testing condition = condition ++ rec6 41 (last condition) 6 6 0 0

-- a variable is read, in five steps whatever its type: 0 chart parameter, 1 chart variable, 2 body parameter or local; its number
abbrev reading : ℕ → ℕ → List ℕ
reading place n = testing (rec3 7 place n ++ rec3 10 7 7)

-- ---- states and events

-- a state: its first word, "the number of waiting telegrams"; the variables' words; a telegram in the first place
abbrev state : ℤ → List ℤ → List ℤ → List ℤ
state count cells telegram = count ∷ replicate 7 (pos 0) ++ cells ++ telegram ++ replicate 1016 (pos 0)

-- an event by kind and r, where s is Log, on a state
happened : ℕ → ℤ → List (List ℕ) → ℤ → List ℤ → List ℤ → Outcome
unfolding event sent
happened kind r ss count cells telegram = event ss (state count cells telegram) (pos kind ∷ pos 0 ∷ r ∷ replicate 6 (pos 0))

-- a telegram of name 0 on port 0 waits from Log to element 2, and 2 Deliver or 3 Corrupt takes it
abbrev meets : ℕ → List (List ℕ) → List ℤ → Outcome
meets kind ss cells = happened kind (pos 2) ss (pos 1) cells (sent 0 2)

-- a Slice, nothing waiting
abbrev sliced : List (List ℕ) → List ℤ → Outcome
sliced ss cells = happened 5 (pos 0) ss (pos 0) cells (replicate 8 (pos 0))

-- the words of a data variable
abbrev cell : ℕ → List ℤ
cell n = pos n ∷ replicate 7 (pos 0)

-- ---- declarations that are absent, or whose type has no default

-- v chart variables, l locals of the initial body and of a procedure (the chart's third body), all from declaration 0 on; the panic body's nodes are given
abbrev declaring : List ℕ → List ℕ → ℕ → ℕ → List ℕ → List (List ℕ)
declaring enumerated declarations v l nodes = one 0 enumerated declarations [] (rec6 0 0 0 v 0 3) (ranged 0 0 0 l 6 ++ body 1 0 (last nodes) ++ ranged 4 0 0 l 6) nodes

-- "Start: all defaults": an Int is 0, and without its declaration start is stuck
variable : begun (declaring [] (rec3 1 0 0) 1 0 []) ≡ answered 0 1 (waits 0 (cell 0) [])
unfolding begun answered waits
variable = refl

variable_absent : begun (declaring [] [] 1 0 []) ≡ stuck
unfolding begun
variable_absent = refl

-- "the declared member": 1 of an enumerated type of two; the type is absent; it has no member 2
member : begun (declaring (rec3 2 1 0) (rec3 8 0 0) 1 0 []) ≡ answered 0 1 (waits 0 (cell 1) [])
unfolding begun answered waits
member = refl

member_type_absent : begun (declaring [] (rec3 8 0 0) 1 0 []) ≡ stuck
unfolding begun
member_type_absent = refl

member_past : begun (declaring (rec3 2 2 0) (rec3 8 0 0) 1 0 []) ≡ stuck
unfolding begun
member_past = refl

-- there is no type 7
type_seven : begun (declaring [] (rec3 7 0 0) 1 0 []) ≡ stuck
unfolding begun
type_seven = refl

-- "Each run of a body has fresh default locals": the same of a local
local : told (begun (declaring [] (rec3 1 0 0) 0 1 [])) ≡ row 0 1 0
unfolding told begun
local = refl

local_member : told (begun (declaring (rec3 2 1 0) (rec3 8 0 0) 0 1 [])) ≡ row 0 1 0
unfolding told begun
local_member = refl

local_member_type_absent : begun (declaring [] (rec3 8 0 0) 0 1 []) ≡ stuck
unfolding begun
local_member_type_absent = refl

local_member_past : begun (declaring (rec3 2 2 0) (rec3 8 0 0) 0 1 []) ≡ stuck
unfolding begun
local_member_past = refl

local_type_seven : begun (declaring [] (rec3 7 0 0) 0 1 []) ≡ stuck
unfolding begun
local_type_seven = refl

local_absent : begun (declaring [] [] 0 1 []) ≡ stuck
unfolding begun
local_absent = refl

-- and of a local of a called body
called_local : told (meets 3 (declaring [] (rec3 1 0 0) 0 1 (rec3 40 2 0)) []) ≡ row 0 2 0
unfolding told happened
called_local = refl

called_local_absent : meets 3 (declaring [] [] 0 1 (rec3 40 2 0)) [] ≡ stuck
unfolding happened
called_local_absent = refl

-- the variable is read
read : told (meets 3 (declaring [] (rec3 1 0 0) 1 0 (reading 1 0)) (cell 0)) ≡ row 0 5 0
unfolding told happened
read = refl

read_absent : meets 3 (declaring [] [] 1 0 (reading 1 0)) (cell 0) ≡ stuck
unfolding happened
read_absent = refl

-- it is assigned
assigned : told (meets 3 (declaring [] (rec3 1 0 0) 1 0 (rec6 33 1 0 0 0 0)) (cell 0)) ≡ row 0 2 0
unfolding told happened
assigned = refl

assigned_absent : meets 3 (declaring [] [] 1 0 (rec6 33 1 0 0 0 0)) (cell 0) ≡ stuck
unfolding happened
assigned_absent = refl

-- a clock: 17 active; 39 stop
active : told (meets 3 (declaring [] (rec3 4 0 0) 1 0 (testing (rec3 17 0 0))) (cell 1)) ≡ row 0 3 0
unfolding told happened
active = refl

active_absent : meets 3 (declaring [] [] 1 0 (testing (rec3 17 0 0))) (cell 1) ≡ stuck
unfolding happened
active_absent = refl

stopped : told (meets 3 (declaring [] (rec3 4 0 0) 1 0 (rec3 39 0 0)) (cell 1)) ≡ row 0 1 0
unfolding told happened
stopped = refl

stopped_absent : meets 3 (declaring [] [] 1 0 (rec3 39 0 0)) (cell 1) ≡ stuck
unfolding happened
stopped_absent = refl

-- 18 "its value, 0 when stopped", whatever the word there is: 1 div it is 6
value_stopped : told (meets 3 (declaring [] (rec3 4 0 0) 1 0 (testing (rec3 18 0 0 ++ rec3 15 0 7 ++ rec3 10 8 8))) (pos 0 ∷ pos 5 ∷ replicate 6 (pos 0))) ≡ row 6 5 1
unfolding told happened
value_stopped = refl

-- "Slice: clocks in state order": without its declaration it is unknown whether it is one
slice-variable : told (sliced (declaring [] (rec3 1 0 0) 1 0 []) (cell 0)) ≡ row 0 0 0
unfolding told happened
slice-variable = refl

slice-variable_absent : sliced (declaring [] [] 1 0 []) (cell 0) ≡ stuck
unfolding happened
slice-variable_absent = refl

-- ---- "one initial and one panic body, both without parameters"

-- name 0, how many bodies the chart has, and the bodies that are there. Root 6 is skip; 7, for a panic body, has three steps
abbrev bodied : List ℕ → ℕ → List ℕ → List (List ℕ)
bodied name count bodies = one 0 [] declared name (rec6 0 0 0 0 0 count) bodies (rec3 43 6 6)

-- an initial body that would want a datum: start is stuck
initial : told (begun (bodied (rec3 0 0 0) 2 (ranged 0 0 0 0 6 ++ ranged 1 0 0 0 7))) ≡ row 0 1 0
unfolding told begun
initial = refl

initial_parameter : begun (bodied (rec3 0 0 0) 2 (ranged 0 0 1 0 6 ++ ranged 1 0 0 0 7)) ≡ stuck
unfolding begun
initial_parameter = refl

-- a panic body that would: Corrupt is stuck, and Deliver without a reaction
panic : told (meets 3 (bodied (rec3 0 0 0) 2 (ranged 0 0 0 0 6 ++ ranged 1 0 0 0 7)) []) ≡ row 0 3 0
unfolding told happened
panic = refl

panic_parameter : meets 3 (bodied (rec3 0 0 0) 2 (ranged 0 0 0 0 6 ++ ranged 1 0 1 0 7)) [] ≡ stuck
unfolding happened
panic_parameter = refl

panic_parameter_deliver : meets 2 (bodied (rec3 0 0 0) 2 (ranged 0 0 0 0 6 ++ ranged 1 0 1 0 7)) [] ≡ stuck
unfolding happened
panic_parameter_deliver = refl

-- ---- "reaction parameters have the name's types"

-- name 0, and its reaction: 2 external or 3 internal, and its parameters as first declaration and count
abbrev reacting : List ℕ → ℕ → ℕ → ℕ → List (List ℕ)
reacting name role first count = bodied name 3 (body 0 0 6 ++ body 1 0 7 ++ ranged role first count 0 6)

-- sender, receiver, port, name, first datum of a telegram
abbrev telegram : ℤ → ℤ → ℤ → ℤ → ℤ → List ℤ
telegram sender receiver port name datum = sender ∷ receiver ∷ port ∷ name ∷ datum ∷ replicate 3 (pos 0)

-- an internal one of element 2
abbrev internal : List ℤ
internal = telegram (pos 2) (pos 2) (negsuc 0) (pos 0) (pos 0)

-- a parameter of the datum's type; of another, though 0 fits both; whose declaration is absent
parameter : told (meets 2 (reacting (rec3 0 1 0) 2 0 1) []) ≡ row 0 1 0
unfolding told happened
parameter = refl

parameter_other : meets 2 (reacting (rec3 0 1 0) 2 17 1) [] ≡ stuck
unfolding happened
parameter_other = refl

parameter_absent : meets 2 (reacting (rec3 0 1 0) 2 19 1) [] ≡ stuck
unfolding happened
parameter_absent = refl

-- "data differ in number": a datum and no parameter; and two
parameters_more : meets 2 (reacting (rec3 0 1 0) 2 0 2) [] ≡ stuck
unfolding happened
parameters_more = refl

parameters-fewer : meets 2 (reacting (rec3 0 1 0) 2 0 0) [] ≡ stuck
unfolding happened
parameters-fewer = refl

-- four data, and five, which no telegram has
parameters_four : told (meets 2 (reacting (rec3 0 4 0) 2 0 4) []) ≡ row 0 1 0
unfolding told happened
parameters_four = refl

parameters_five : meets 2 (reacting (rec3 0 5 0) 2 0 5) [] ≡ stuck
unfolding happened
parameters_five = refl

-- Inner: the same of an internal reaction; and without one it is never the panic body
inner_parameter : told (happened 4 (pos 2) (reacting (rec3 0 1 1) 3 0 1) (pos 1) [] internal) ≡ row 0 1 0
unfolding told happened
inner_parameter = refl

inner_parameter_other : happened 4 (pos 2) (reacting (rec3 0 1 1) 3 17 1) (pos 1) [] internal ≡ stuck
unfolding happened
inner_parameter_other = refl

inner_unmet : happened 4 (pos 2) (reacting (rec3 0 1 1) 2 0 1) (pos 1) [] internal ≡ stuck
unfolding happened
inner_unmet = refl

-- "lies outside its type": a Bool datum of 1, and of 2
datum-one : told (happened 2 (pos 2) (reacting (rec3 17 1 0) 2 17 1) (pos 1) [] (telegram (pos 0) (pos 2) (pos 0) (pos 0) (pos 1))) ≡ row 0 1 0
unfolding told happened
datum-one = refl

datum_two : happened 2 (pos 2) (reacting (rec3 17 1 0) 2 17 1) (pos 1) [] (telegram (pos 0) (pos 2) (pos 0) (pos 0) (pos 2)) ≡ stuck
unfolding happened
datum_two = refl

-- ---- data, parameters and variables past those that a record or a body has room for

-- the declaration of the chart's variable; how many data names 0 and 1 and a procedure (the chart's third body) have, Ints; what the initial and the panic body do
abbrev doing : ℕ → ℕ → List ℕ → List (List ℕ)
doing variable d nodes = one 0 [] declared (rec3 0 d 0 ++ rec3 0 d 1) (rec6 0 0 variable 1 0 3) (body 0 0 (last nodes) ++ body 1 0 (last nodes) ++ ranged 4 0 d 0 6) nodes

-- 34 external send with four data, f4 to f7; with five; with five of which the first is 1 div 0, which is met before
send_four : told (begun (doing 18 4 (rec6 34 3 4 0 0 0))) ≡ row 0 7 1
unfolding told begun
send_four = refl

send_five : begun (doing 18 5 (rec6 34 3 4 0 0 0)) ≡ stuck
unfolding begun
send_five = refl

send_five_refused : told (begun (doing 18 5 (rec6 34 3 4 0 2 0))) ≡ row 6 6 0
unfolding told begun
send_five_refused = refl

-- 35 internal send
inner_four : told (begun (doing 18 4 (rec6 35 0 0 0 0 0))) ≡ row 0 5 1
unfolding told begun
inner_four = refl

inner_five : begun (doing 18 5 (rec6 35 0 0 0 0 0)) ≡ stuck
unfolding begun
inner_five = refl

inner_five_refused : told (begun (doing 18 5 (rec6 35 0 0 0 2 0))) ≡ row 6 4 0
unfolding told begun
inner_five_refused = refl

-- 36 arm Timeout
arm_four : told (begun (doing 18 4 (rec6 36 0 0 0 0 0))) ≡ row 0 6 0
unfolding told begun
arm_four = refl

arm_five : begun (doing 18 5 (rec6 36 0 0 0 0 0)) ≡ stuck
unfolding begun
arm_five = refl

arm_five_refused : told (begun (doing 18 5 (rec6 36 0 0 0 2 0))) ≡ row 6 5 0
unfolding told begun
arm_five_refused = refl

-- 40 call
call_four : told (begun (doing 18 4 (rec6 40 2 0 0 0 0))) ≡ row 0 6 0
unfolding told begun
call_four = refl

call_five : begun (doing 18 5 (rec6 40 2 0 0 0 0)) ≡ stuck
unfolding begun
call_five = refl

call_five_refused : told (begun (doing 18 5 (rec6 40 2 0 0 2 0))) ≡ row 6 4 0
unfolding told begun
call_five_refused = refl

-- a chart with so many parameters, Ints, and an initial body with so many locals; what it does
abbrev holding : ℕ → ℕ → List ℕ → List (List ℕ)
holding parameters locals nodes = one 0 [] declared [] (rec6 0 parameters 0 0 0 1) (ranged 0 0 0 locals (last nodes)) nodes

-- 7 read of a chart's seventh parameter, where the eighth's binding record is absent; and of that
parameter_seventh : told (begun (holding 8 0 (reading 0 6))) ≡ row 0 5 0
unfolding told begun
parameter_seventh = refl

parameter_eighth : begun (holding 8 0 (reading 0 7)) ≡ stuck
unfolding begun
parameter_eighth = refl

-- the same with two binding records: the constants of the first are node 0, Int 1, and the first one of the second is node 1, Int 0
abbrev bound_twice : ℕ → List ℕ → List (List ℕ)
bound_twice parameters nodes = rec3 3 2 2 ∷ [] ∷ declared ∷ [] ∷ rec6 0 parameters 0 0 0 1 ∷ ranged 0 0 0 0 (last nodes) ∷ (tools ++ nodes) ∷ (rec3 0 0 0 ++ rec3 65535 1 0) ∷ []

-- 1 div a parameter
abbrev dividing : ℕ → List ℕ
dividing n = testing (rec3 7 0 n ++ rec3 15 0 7 ++ rec3 10 8 8)

-- the seventh, and the eighth, which is 0
seventh_first : told (begun (bound_twice 8 (dividing 6))) ≡ row 0 9 0
unfolding told begun
seventh_first = refl

eighth_second : told (begun (bound_twice 8 (dividing 7))) ≡ row 6 5 0
unfolding told begun
eighth_second = refl

-- the fourteenth, and the fifteenth, for which the second record has no field
parameter_fourteenth : told (begun (bound_twice 14 (reading 0 13))) ≡ row 0 5 0
unfolding told begun
parameter_fourteenth = refl

parameter_fifteenth : begun (bound_twice 15 (reading 0 14)) ≡ stuck
unfolding begun
parameter_fifteenth = refl

-- "Parameters and locals together at most 16": 7 read, and 33 assign, of the sixteenth and the seventeenth
read_sixteenth : told (begun (holding 0 17 (reading 2 15))) ≡ row 0 5 0
unfolding told begun
read_sixteenth = refl

assign_sixteenth : told (begun (holding 0 17 (rec6 33 2 15 0 0 0))) ≡ row 0 2 0
unfolding told begun
assign_sixteenth = refl

read_seventeenth : begun (holding 0 17 (reading 2 16)) ≡ stuck
unfolding begun
read_seventeenth = refl

assign_seventeenth : begun (holding 0 17 (rec6 33 2 16 0 0 0)) ≡ stuck
unfolding begun
assign_seventeenth = refl

-- ---- nodes, variables and bodies that are absent, values of another type or outside it

-- an initial body of some nodes, with a step limit
abbrev limited : ℕ → List ℕ → List (List ℕ)
limited limit nodes = one limit [] [] [] (rec6 0 0 0 0 0 1) (body 0 0 (last nodes)) nodes

-- 41 if: the branch that isn't taken may be absent, the one taken not, nor the condition
branch : told (begun (limited 0 (rec6 41 5 30 6 0 0))) ≡ row 0 3 0
unfolding told begun
branch = refl

branch_absent : begun (limited 0 (rec6 41 5 6 30 0 0)) ≡ stuck
unfolding begun
branch_absent = refl

condition_absent : begun (limited 0 (rec6 41 30 6 6 0 0)) ≡ stuck
unfolding begun
condition_absent = refl

-- conditions Bool: true; 1; a Bool of 2
condition : told (begun (limited 0 (testing (rec3 1 1 0)))) ≡ row 0 3 0
unfolding told begun
condition = refl

condition_int : begun (limited 0 (testing (rec3 2 1 0))) ≡ stuck
unfolding begun
condition_int = refl

condition_two : begun (limited 0 (testing (rec3 1 2 0))) ≡ stuck
unfolding begun
condition_two = refl

-- 8 not of 1; 9 and of false and 1; 10 equal of 1 and false; 11 less of false and false; 12 plus of 1 and false
not_int : begun (limited 0 (testing (rec3 8 0 0))) ≡ stuck
unfolding begun
not_int = refl

and_int : begun (limited 0 (testing (rec3 9 5 0))) ≡ stuck
unfolding begun
and_int = refl

equal_other : begun (limited 0 (testing (rec3 10 0 5))) ≡ stuck
unfolding begun
equal_other = refl

less_bools : begun (limited 0 (testing (rec3 11 5 5))) ≡ stuck
unfolding begun
less_bools = refl

plus-bool : begun (limited 0 (testing (rec3 12 0 5 ++ rec3 10 7 7))) ≡ stuck
unfolding begun
plus-bool = refl

-- 7 read of a Bool; past the chart's variables; of a clock, which is no value
read-bool : told (begun (doing 17 0 (reading 1 0))) ≡ row 0 5 0
unfolding told begun
read-bool = refl

read_past : begun (doing 17 0 (reading 1 1)) ≡ stuck
unfolding begun
read_past = refl

read-clock : begun (doing 18 0 (reading 1 0)) ≡ stuck
unfolding begun
read-clock = refl

-- of a Bool whose word is 1, and 2
read_one : told (meets 3 (declaring [] (rec3 0 0 0) 1 0 (reading 1 0)) (cell 1)) ≡ row 0 5 0
unfolding told happened
read_one = refl

read_two : meets 3 (declaring [] (rec3 0 0 0) 1 0 (reading 1 0)) (cell 2) ≡ stuck
unfolding happened
read_two = refl

-- 40 call of the chart's third body, and of a fourth
call : told (begun (doing 18 0 (rec3 40 2 0))) ≡ row 0 2 0
unfolding told begun
call = refl

call_absent : begun (doing 18 0 (rec3 40 3 0)) ≡ stuck
unfolding begun
call_absent = refl

-- ---- "One record per bound element"

-- a head, bindings, and one chart: its initial and panic body and its internal reaction to name 0 all skip
abbrev elements : List ℕ → List ℕ → List (List ℕ)
elements head bindings = head ∷ [] ∷ [] ∷ rec3 0 0 1 ∷ rec6 0 0 0 0 0 3 ∷ (body 0 0 0 ++ body 1 0 0 ++ body 3 0 0) ∷ rec3 32 0 0 ∷ bindings ∷ []

-- bound elements 2 and 3, with the chart of 3
abbrev both : ℕ → List (List ℕ)
both chart = elements (rec3 4 2 2) (rec3 0 0 0 ++ rec3 chart 0 0)

-- without a binding for 3
abbrev half : List (List ℕ)
half = elements (rec3 4 2 2) (rec3 0 0 0)

-- without a head
abbrev headless : List (List ℕ)
headless = elements [] (rec3 0 0 0 ++ rec3 0 0 0)

-- a telegram waits at element e, and Corrupt takes it
abbrev corrupted : ℕ → List (List ℕ) → Outcome
corrupted e ss = happened 3 (pos e) ss (pos 1) [] (sent 0 e)

-- start: both bound; a binding absent; a binding's chart absent; the head absent
start-both : told (begun (both 0)) ≡ row 0 2 0
unfolding told begun
start-both = refl

start_half : begun half ≡ stuck
unfolding begun
start_half = refl

start-chart_absent : begun (both 1) ≡ stuck
unfolding begun
start-chart_absent = refl

start_headless : begun headless ≡ stuck
unfolding begun
start_headless = refl

-- a body of the second element; one of the first needs no binding but its own
second_both : told (corrupted 3 (both 0)) ≡ row 0 1 0
unfolding told happened
second_both = refl

second_half : corrupted 3 half ≡ stuck
unfolding happened
second_half = refl

second_chart_absent : corrupted 3 (both 1) ≡ stuck
unfolding happened
second_chart_absent = refl

first_half_lem : told (corrupted 2 half) ≡ row 0 1 0
unfolding told happened
first_half_lem = refl

first_headless : corrupted 2 headless ≡ stuck
unfolding happened
first_headless = refl

-- a Slice
slice-both : told (sliced (both 0) []) ≡ row 0 0 0
unfolding told happened
slice-both = refl

slice_half : sliced half [] ≡ stuck
unfolding happened
slice_half = refl

slice-chart_absent : sliced (both 1) [] ≡ stuck
unfolding happened
slice-chart_absent = refl

slice_headless : sliced headless [] ≡ stuck
unfolding happened
slice_headless = refl

-- ---- a chart has more bodies than are there

-- Deliver "without [a reaction] the panic body": an absent body might be the reaction
deliver_unmet : told (meets 2 (bodied (rec3 0 0 0) 2 (body 0 0 6 ++ body 1 0 7)) []) ≡ row 0 3 0
unfolding told happened
deliver_unmet = refl

deliver_unmet_past : meets 2 (bodied (rec3 0 0 0) 3 (body 0 0 6 ++ body 1 0 7)) [] ≡ stuck
unfolding happened
deliver_unmet_past = refl

-- a body that is there is found: the reaction; in Corrupt, the panic body; in start, the initial one
deliver_past : told (meets 2 (bodied (rec3 0 0 0) 4 (body 0 0 6 ++ body 1 0 7 ++ body 2 0 6)) []) ≡ row 0 1 0
unfolding told happened
deliver_past = refl

corrupt_past : told (meets 3 (bodied (rec3 0 0 0) 3 (body 0 0 6 ++ body 1 0 7)) []) ≡ row 0 3 0
unfolding told happened
corrupt_past = refl

start-past : told (begun (bodied (rec3 0 0 0) 3 (body 0 0 6 ++ body 1 0 7))) ≡ row 0 1 0
unfolding told begun
start-past = refl

-- and one that is needed is not: "the panic body"; "the initial bodies"
corrupt_absent : meets 3 (bodied (rec3 0 0 0) 3 (body 0 0 6)) [] ≡ stuck
unfolding happened
corrupt_absent = refl

start_absent : begun (bodied (rec3 0 0 0) 3 (body 1 0 7)) ≡ stuck
unfolding begun
start_absent = refl

-- ---- stuck only where "then its own act" comes to it: operands before, whatever they refuse

-- not of an operand with a higher number, false; not of itself, until the step limit; the same of 43 sequence
not_higher : told (begun (limited 20 (rec3 8 8 0 ++ rec3 1 0 0 ++ rec6 41 7 6 6 0 0))) ≡ row 0 4 0
unfolding told begun
not_higher = refl

not_itself : told (begun (limited 20 (testing (rec3 8 7 0)))) ≡ row 10 20 0
unfolding told begun
not_itself = refl

sequence-itself : told (begun (limited 20 (rec3 43 7 7))) ≡ row 10 20 0
unfolding told begun
sequence-itself = refl

-- 36 arm Timeout, period 1; a Bool; a variable past the chart's; name 2, which is absent. With period 1 div 0: 6
timeout : told (begun (doing 18 0 (rec6 36 0 0 0 0 0))) ≡ row 0 2 0
unfolding told begun
timeout = refl

arm-bool : begun (doing 17 0 (rec6 36 0 0 0 0 0)) ≡ stuck
unfolding begun
arm-bool = refl

arm-bool-refused : told (begun (doing 17 0 (rec6 36 0 2 0 0 0))) ≡ row 6 4 0
unfolding told begun
arm-bool-refused = refl

arm_past : begun (doing 18 0 (rec6 36 1 0 0 0 0)) ≡ stuck
unfolding begun
arm_past = refl

arm_past_refused : told (begun (doing 18 0 (rec6 36 1 2 0 0 0))) ≡ row 6 4 0
unfolding told begun
arm_past_refused = refl

arm-name_absent : begun (doing 18 0 (rec6 36 0 0 2 0 0)) ≡ stuck
unfolding begun
arm-name_absent = refl

arm-name_absent_refused : told (begun (doing 18 0 (rec6 36 0 2 2 0 0))) ≡ row 6 4 0
unfolding told begun
arm-name_absent_refused = refl

-- 33 assign false to a Bool; 1; 1 to a variable past the chart's. With 1 div 0: 6
bool : told (begun (doing 17 0 (rec6 33 1 0 5 0 0))) ≡ row 0 2 0
unfolding told begun
bool = refl

assign-int : begun (doing 17 0 (rec6 33 1 0 0 0 0)) ≡ stuck
unfolding begun
assign-int = refl

assign-int-refused : told (begun (doing 17 0 (rec6 33 1 0 2 0 0))) ≡ row 6 4 0
unfolding told begun
assign-int-refused = refl

assign_past : begun (doing 17 0 (rec6 33 1 1 0 0 0)) ≡ stuck
unfolding begun
assign_past = refl

assign_past_refused : told (begun (doing 17 0 (rec6 33 1 1 2 0 0))) ≡ row 6 4 0
unfolding told begun
assign_past_refused = refl

-- but "all defaults, nothing waiting, then the initial bodies": a declaration that is absent is met before
defaults_before : begun (doing 19 0 (rec6 33 1 0 2 0 0)) ≡ stuck
unfolding begun
defaults_before = refl

-- 34 external send to Log on log; of name 2, which is absent; to 1, which is no Component. With 1 div 0 for the receiver, or for the port: 6
send : told (begun (doing 18 0 (rec6 34 3 4 0 0 0))) ≡ row 0 3 1
unfolding told begun
send = refl

send_name_absent : begun (doing 18 0 (rec6 34 3 4 2 0 0)) ≡ stuck
unfolding begun
send_name_absent = refl

send_name_absent_refused : told (begun (doing 18 0 (rec6 34 2 4 2 0 0))) ≡ row 6 4 0
unfolding told begun
send_name_absent_refused = refl

send_to_int : begun (doing 18 0 (rec6 34 0 4 0 0 0)) ≡ stuck
unfolding begun
send_to_int = refl

send_to_int-refused : told (begun (doing 18 0 (rec6 34 0 2 0 0 0))) ≡ row 6 5 0
unfolding told begun
send_to_int-refused = refl

-- with two data, Ints; the first is false; the second besides 1 div 0: 6
data_ints : told (begun (doing 18 2 (rec6 34 3 4 0 0 0))) ≡ row 0 5 1
unfolding told begun
data_ints = refl

data_bool : begun (doing 18 2 (rec6 34 3 4 0 5 0)) ≡ stuck
unfolding begun
data_bool = refl

data_bool-refused : told (begun (doing 18 2 (rec6 34 3 4 0 5 2))) ≡ row 6 7 0
unfolding told begun
data_bool-refused = refl

-- ---- words of a state that can't be

-- the words of a Timeout that is about to fire with a name
abbrev firing : ℤ → List ℤ
firing name = pos 1 ∷ pos 1 ∷ pos 1 ∷ name ∷ replicate 4 (pos 0)

-- the initial body of element 2 sends: how it ends
sends : ℤ → Ran
unfolding begun sent
sends count = let ss = sheet_of (doing 18 0 (rec6 34 3 4 0 0 0)) in (ran_body ss (limit_of ss) 2 (element_body ss 2 is_initial) [] (state count (cell 0) (sent 0 2))).ran

-- "the number of waiting telegrams" is 1; −1; 129, for which there are no places: Outside
outside-counted : told (happened 1 (pos 2) (both 0) (pos 1) [] (sent 0 2)) ≡ row 0 0 2
unfolding told happened
outside-counted = refl

outside_uncounted : happened 1 (pos 2) (both 0) (negsuc 0) [] (sent 0 2) ≡ stuck
unfolding happened
outside_uncounted = refl

outside_overcounted : happened 1 (pos 2) (both 0) (pos 129) [] (sent 0 2) ≡ stuck
unfolding happened
outside_overcounted = refl

-- it is 1; −1: Deliver, Corrupt, Inner
deliver-counted : told (happened 2 (pos 2) (both 0) (pos 1) [] (sent 0 2)) ≡ row 0 1 0
unfolding told happened
deliver-counted = refl

deliver_uncounted : happened 2 (pos 2) (both 0) (negsuc 0) [] (sent 0 2) ≡ stuck
unfolding happened
deliver_uncounted = refl

corrupt-counted : told (happened 3 (pos 2) (both 0) (pos 1) [] (sent 0 2)) ≡ row 0 1 0
unfolding told happened
corrupt-counted = refl

corrupt_uncounted : happened 3 (pos 2) (both 0) (negsuc 0) [] (sent 0 2) ≡ stuck
unfolding happened
corrupt_uncounted = refl

inner-counted : told (happened 4 (pos 2) (both 0) (pos 1) [] internal) ≡ row 0 1 0
unfolding told happened
inner-counted = refl

inner_uncounted : happened 4 (pos 2) (both 0) (negsuc 0) [] internal ≡ stuck
unfolding happened
inner_uncounted = refl

-- a clock that fires; a send
fires-counted : told (happened 5 (pos 0) (doing 18 0 []) (pos 1) (firing (pos 0)) (sent 0 2)) ≡ row 0 0 2
unfolding told happened
fires-counted = refl

fires_uncounted : happened 5 (pos 0) (doing 18 0 []) (negsuc 0) (firing (pos 0)) (sent 0 2) ≡ stuck
unfolding happened
fires_uncounted = refl

sends_counted : sends (pos 1) ≡ Done 1997
unfolding sends
sends_counted = refl

sends_uncounted : sends (negsuc 0) ≡ Stuck
unfolding sends
sends_uncounted = refl

-- a Deliver finds a telegram whose port is −2, name −1, receiver −3
deliver-port : happened 2 (pos 2) (both 0) (pos 1) [] (telegram (pos 0) (pos 2) (negsuc 1) (pos 0) (pos 0)) ≡ stuck
unfolding happened
deliver-port = refl

deliver-name : happened 2 (pos 2) (both 0) (pos 1) [] (telegram (pos 0) (pos 2) (pos 0) (negsuc 0) (pos 0)) ≡ stuck
unfolding happened
deliver-name = refl

deliver-receiver : happened 2 (negsuc 2) (both 0) (pos 1) [] (telegram (pos 0) (negsuc 2) (pos 0) (pos 0) (pos 0)) ≡ stuck
unfolding happened
deliver-receiver = refl

-- a Corrupt one whose receiver is −3; an Inner one whose receiver is, or whose name is −1
corrupt-receiver : happened 3 (negsuc 2) (both 0) (pos 1) [] (telegram (pos 0) (negsuc 2) (pos 0) (pos 0) (pos 0)) ≡ stuck
unfolding happened
corrupt-receiver = refl

inner-receiver : happened 4 (negsuc 2) (both 0) (pos 1) [] (telegram (negsuc 2) (negsuc 2) (negsuc 0) (pos 0) (pos 0)) ≡ stuck
unfolding happened
inner-receiver = refl

inner_name : happened 4 (pos 2) (both 0) (pos 1) [] (telegram (pos 2) (pos 2) (negsuc 0) (negsuc 0) (pos 0)) ≡ stuck
unfolding happened
inner_name = refl

-- a Timeout fires with name 1; −1; 2, which is absent
fires-name : told (happened 5 (pos 0) (doing 18 0 []) (pos 1) (firing (pos 1)) (sent 0 2)) ≡ row 0 0 2
unfolding told happened
fires-name = refl

fires-name-below : happened 5 (pos 0) (doing 18 0 []) (pos 1) (firing (negsuc 0)) (sent 0 2) ≡ stuck
unfolding happened
fires-name-below = refl

fires-name_absent : happened 5 (pos 0) (doing 18 0 []) (pos 1) (firing (pos 2)) (sent 0 2) ≡ stuck
unfolding happened
fires-name_absent = refl
