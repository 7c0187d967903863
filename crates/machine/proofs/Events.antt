-- Samples of start and of events.
use Prim.Native.Nat.{ℕ, zero, suc}
use mathlib.Core.List.{List, [], ◌∷◌, ◌++◌}
use mathlib.Core.Bool.{false}
use mathlib.Core.Path.{◌≡◌, refl}
use lib.ListN.{replicate}
use lib.IntN.{ℤ, pos, negsuc}
use Rattle.sheet_rules.proofs.Samples.{sheet_of, rec3, rec6, body}
use Rattle.machine.specs.declared.Telegram.{Telegram}
use Rattle.machine.specs.Values.{has_default}
use Rattle.machine.specs.Play.{stuck, limit_of, brought}
use Rattle.machine.proofs.Samples.{fields, headless, begun, event, words, sent, fired, row, told}

-- ---- states, as far as they are read: the number of telegrams that wait, the words after the head

abbrev waits : ℤ → List ℤ → List ℤ
waits count more = count ∷ replicate 7 (pos 0) ++ more

copies : ℕ → List ℤ → List ℤ
copies zero ws = []
copies (suc n) ws = ws ++ copies n ws

-- ---- on the empty sheet: 1 Outside. "At most 16 telegrams may wait for one sender, receiver and class"

-- 16 of a kind wait, and one more comes
one_more : List ℤ → ℕ → ℕ → List ℕ
unfolding copies told event words
one_more telegram sender receiver = told (event [] (waits (pos 16) (copies 16 telegram)) (words 1 sender receiver))

class_of_16 : one_more (sent 0 2) 0 2 ≡ row 12 0 16
unfolding one_more sent row
class_of_16 = refl

-- another sender; another receiver; internal ones between the same ends
other_sender : one_more (sent 0 2) 1 2 ≡ row 0 0 17
unfolding one_more sent row
other_sender = refl

other_receiver : one_more (sent 0 2) 0 3 ≡ row 0 0 17
unfolding one_more sent row
other_receiver = refl

internal-class : one_more (fired 2) 2 2 ≡ row 0 0 17
unfolding one_more fired row
internal-class = refl

-- −1 wait
outside_uncounted : event [] (waits (negsuc 0) []) (words 1 0 2) ≡ stuck
unfolding event words
outside_uncounted = refl

-- 4 Inner: a telegram to oneself that is external isn't found
to_oneself : told (event [] (waits (pos 1) (sent 2 2)) (words 4 0 2)) ≡ row 5 0 1
unfolding told row event words sent
to_oneself = refl

-- start needs the head
start_headless : begun [] ≡ stuck
unfolding begun
start_headless = refl

-- ---- on a sheet that has but its head: two externals, element 2

only_head : ℕ → List (List ℕ)
only_head limit = rec6 3 2 2 limit 0 0 ∷ [] ∷ [] ∷ [] ∷ [] ∷ [] ∷ [] ∷ [] ∷ []

-- "Head f3 of 0 now means 2,000 steps"; another number means itself
limit_default : limit_of (sheet_of (only_head 0)) ≡ 2000
unfolding begun only_head
limit_default = refl

limit_given : limit_of (sheet_of (only_head 1)) ≡ 1
unfolding begun only_head
limit_given = refl

-- 2 Deliver to Log of the oldest of 128, and of 16 of its class: it is removed before anything is tested for room
deliver_full : told (event (only_head 0) (waits (pos 128) (sent 2 0)) (words 2 2 0)) ≡ row 0 0 127
unfolding told row event words sent only_head
deliver_full = refl

deliver-class_full : told (event (only_head 0) (waits (pos 16) (copies 16 (sent 2 0))) (words 2 2 0)) ≡ row 0 0 15
unfolding told row event words sent copies only_head
deliver-class_full = refl

-- 5 Slice: element 2 has no chart
slice-chart_absent : event (only_head 0) (waits (pos 0) []) (words 5 0 0) ≡ stuck
unfolding event words only_head
slice-chart_absent = refl

-- ---- "all defaults": a declaration that is absent has none, nor one of an absent type, of a type without its member, of type 7

declaring : List ℕ → List ℕ → List (List ℕ)
declaring enumerated declarations = [] ∷ enumerated ∷ declarations ∷ [] ∷ [] ∷ [] ∷ [] ∷ [] ∷ []

variable_absent : has_default (sheet_of (declaring [] [])) 0 ≡ false
unfolding begun declaring
variable_absent = refl

member_type_absent : has_default (sheet_of (declaring [] (rec3 8 0 0))) 0 ≡ false
unfolding begun declaring
member_type_absent = refl

member_past : has_default (sheet_of (declaring (rec3 2 2 0) (rec3 8 0 0))) 0 ≡ false
unfolding begun declaring
member_past = refl

type_seven : has_default (sheet_of (declaring [] (rec3 7 0 0))) 0 ≡ false
unfolding begun declaring
type_seven = refl

-- ---- "reaction parameters have the name's types": what a telegram of name 0 brings to a body

-- its first datum
bringing : ℤ → Telegram
bringing datum = record { sender = pos 0; receiver = pos 2; port = pos 0; name = pos 0; d0 = datum; d1 = pos 0; d2 = pos 0; d3 = pos 0 }

-- declarations 0 to 4 are Ints, 5 is a Bool; the name's data
named : List ℕ → List (List ℕ)
named name = headless (rec3 1 0 0 ++ rec3 1 0 0 ++ rec3 1 0 0 ++ rec3 1 0 0 ++ rec3 1 0 0 ++ rec3 0 0 0) name [] [] []

-- an Int for a Bool, though 0 fits both
parameter_other : brought (sheet_of (named (rec3 0 1 0))) (bringing (pos 0)) (fields 2 0 0 5 1 0 0 0) ≡ false
unfolding event named bringing
parameter_other = refl

-- "data differ in number": a datum and no parameter
parameters-fewer : brought (sheet_of (named (rec3 0 1 0))) (bringing (pos 0)) (fields 2 0 0 0 0 0 0 0) ≡ false
unfolding event named bringing
parameters-fewer = refl

-- five, which no telegram has
parameters_five : brought (sheet_of (named (rec3 0 5 0))) (bringing (pos 0)) (fields 2 0 0 0 5 0 0 0) ≡ false
unfolding event named bringing
parameters_five = refl

-- "lies outside its type": a Bool of 2
datum_two : brought (sheet_of (named (rec3 5 1 0))) (bringing (pos 2)) (fields 2 0 0 5 1 0 0 0) ≡ false
unfolding event named bringing
datum_two = refl

-- ---- one bound element, 2: declarations, names, its chart, bodies, nodes

one : List ℕ → List ℕ → List ℕ → List ℕ → List ℕ → List (List ℕ)
one declarations names chart bodies nodes = rec3 3 2 2 ∷ [] ∷ declarations ∷ names ∷ chart ∷ bodies ∷ nodes ∷ rec3 0 0 0 ∷ []

-- a body by role, parameters and locals, from declaration 0 on; its root is node 0
wanting : ℕ → ℕ → ℕ → List ℕ
wanting role parameters locals = role ∷ 0 ∷ 0 ∷ 0 ∷ parameters ∷ 0 ∷ locals ∷ 0 ∷ []

-- how many bodies its chart has, and those that are there; node 0 is skip, and node 1 has three steps
bodied : ℕ → List ℕ → List (List ℕ)
unfolding one
bodied count bodies = one [] (rec3 0 0 0) (rec6 0 0 0 0 0 count) bodies (rec3 32 0 0 ++ rec3 43 0 0)

-- a panic body of three steps, and a reaction to name 0 of one: 2 to an external telegram on port 0, 3 to an internal one
reacting : ℕ → List (List ℕ)
unfolding bodied
reacting role = bodied 3 (body 0 0 0 ++ body 1 0 1 ++ body role 0 0)

-- Deliver: the reaction runs
deliver_reaction : told (event (reacting 2) (waits (pos 1) (sent 0 2)) (words 2 0 2)) ≡ row 0 1 0
unfolding told row event words sent reacting
deliver_reaction = refl

-- Inner: an internal telegram has its reaction, never the panic body
inner_reaction : told (event (reacting 3) (waits (pos 1) (fired 2)) (words 4 0 2)) ≡ row 0 1 0
unfolding told row event words fired reacting
inner_reaction = refl

-- a Deliver finds a telegram whose port is −2
deliver-port : event (reacting 2) (waits (pos 1) (pos 0 ∷ pos 2 ∷ negsuc 1 ∷ replicate 5 (pos 0))) (words 2 0 2) ≡ stuck
unfolding event words reacting
deliver-port = refl

-- "without [a reaction] the panic body": an absent body might be the reaction
deliver_absent : event (bodied 3 (body 0 0 0 ++ body 1 0 1)) (waits (pos 1) (sent 0 2)) (words 2 0 2) ≡ stuck
unfolding event words sent bodied
deliver_absent = refl

-- "one initial and one panic body, both without parameters": one that would want a datum
panic_parameter : event (bodied 2 (body 0 0 0 ++ wanting 1 1 0)) (waits (pos 1) (sent 0 2)) (words 3 0 2) ≡ stuck
unfolding event words sent bodied wanting
panic_parameter = refl

initial_parameter : begun (bodied 1 (wanting 0 1 0)) ≡ stuck
unfolding begun bodied wanting
initial_parameter = refl

-- "Each run of a body has fresh default locals": one that isn't declared
local_absent : begun (bodied 1 (wanting 0 0 1)) ≡ stuck
unfolding begun bodied wanting
local_absent = refl

-- 3 Corrupt, where the panic body sends twice and then divides by 0: nothing of the refused body's work is kept
refusing : List (List ℕ)
unfolding one
refusing = one [] (rec3 0 0 1) (rec6 0 0 0 0 0 1) (body 1 0 6) (rec3 2 1 0 ++ rec3 2 0 0 ++ rec3 15 0 1 ++ rec3 35 0 0 ++ rec6 41 2 3 3 0 0 ++ rec3 43 3 4 ++ rec3 43 3 5)

corrupt-refused : told (event refusing (waits (pos 1) (sent 0 2)) (words 3 0 2)) ≡ row 6 8 1
unfolding told row event words sent refusing
corrupt-refused = refl

-- Slice: one variable, a Timeout or undeclared; names 0 and 1
clocked : List ℕ → List (List ℕ)
unfolding one
clocked declarations = one declarations (rec3 0 0 1 ++ rec3 0 0 1) (rec6 0 0 0 1 0 0) [] []

slice-variable_absent : event (clocked []) (waits (pos 0) (replicate 8 (pos 0))) (words 5 0 0) ≡ stuck
unfolding event words clocked
slice-variable_absent = refl

-- "Timeout: at 1 its telegram is appended and it stops, otherwise minus 1": at 2
timeout_two : told (event (clocked (rec3 5 0 0)) (waits (pos 0) (pos 1 ∷ pos 2 ∷ pos 2 ∷ replicate 5 (pos 0))) (words 5 0 0)) ≡ row 0 0 0
unfolding told row event words clocked
timeout_two = refl

-- at 1, with name −1
timeout_name-below : event (clocked (rec3 5 0 0)) (waits (pos 0) (pos 1 ∷ pos 1 ∷ pos 1 ∷ negsuc 0 ∷ replicate 4 (pos 0))) (words 5 0 0) ≡ stuck
unfolding event words clocked
timeout_name-below = refl
