-- Samples about the uses of nodes: what a test with a mark for each node has to tell, by the definitions.
use Prim.Native.Nat.{ℕ, zero, suc}
use mathlib.Core.List.{List, [], ◌∷◌, ◌++◌}
use mathlib.Core.Path.{◌≡◌, refl}
use mathlib.Core.Bool.{true, false}
use Rattle.sheet_rules.specs.Uses.{uses_of, mark_of, calls_in_one_body, gone_over}
use Rattle.sheet_rules.specs.Check.{otherwise_in_shape}
use Rattle.sheet_rules.proofs.Samples.{sheet_of, rec3, rec6, body, check}

-- the marks of the first n nodes
marks : ℕ → List (List ℕ) → List ℕ
unfolding check
marks zero ss = []
marks (suc n) ss = marks n ss ++ (mark_of (uses_of (sheet_of ss) n) ∷ [])

-- ---- a node that hangs in a body and below a node that nothing uses

-- Two charts, of one body and of two. The second chart's procedure has a parameter, so that a call of body 1 has an operand there and none in the first chart. Node 0 is Int 1, 1 skip, 2 the call, 3 and 4 sequences of both, 5 and 6 skips. Node 3 is the root of the second chart's initial body; nothing uses node 4
hanging : List (List ℕ)
unfolding check
hanging =
    rec3 3 2 2
    ∷ []
    ∷ rec3 1 0 0
    ∷ []
    ∷ (rec6 0 0 0 0 0 1 ++ rec6 0 0 0 0 1 2)
    ∷ (body 0 0 6 ++ body 0 0 3 ++ (4 ∷ 0 ∷ 0 ∷ 0 ∷ 1 ∷ 0 ∷ 0 ∷ 5 ∷ []))
    ∷ (rec3 2 1 0 ++ rec3 32 0 0 ++ rec6 40 1 0 0 0 0 ++ rec3 43 1 2 ++ rec3 43 2 1 ++ rec3 32 0 0 ++ rec3 32 0 0)
    ∷ rec3 1 0 0
    ∷ []

hanging_otherwise : otherwise_in_shape (sheet_of hanging) ≡ true
unfolding check hanging
hanging_otherwise = refl

hanging_calls : calls_in_one_body (sheet_of hanging) ≡ true
unfolding check hanging
hanging_calls = refl

-- the call's operand is used once, by the chart of the body that the call lies in
hanging_marks : marks 7 hanging ≡ 1 ∷ 2 ∷ 2 ∷ 1 ∷ 0 ∷ 1 ∷ 1 ∷ []
unfolding check hanging marks
hanging_marks = refl

-- three bodies, seven nodes, one binding
hanging_gone : gone_over (sheet_of hanging) ≡ 11
unfolding check hanging
hanging_gone = refl

hanging_check : check hanging ≡ 1
unfolding check hanging
hanging_check = refl

-- ---- a constant of two parameters, and a node of three uses

-- one element whose chart has two Int parameters; node 0 is the constant of both, node 1 skip, 2 a sequence of node 1 twice, which is the panic body's root too
shared : ℕ → List (List ℕ)
unfolding check
shared second =
    rec3 3 2 2
    ∷ []
    ∷ (rec3 1 0 0 ++ rec3 1 0 0)
    ∷ []
    ∷ rec6 0 2 0 0 0 2
    ∷ (body 0 0 2 ++ body 1 0 1)
    ∷ (rec3 2 1 0 ++ rec3 32 0 0 ++ rec3 43 1 1 ++ rec3 2 1 0)
    ∷ rec3 0 0 second
    ∷ []

shared_marks : marks 4 (shared 0) ≡ 2 ∷ 2 ∷ 1 ∷ 0 ∷ []
unfolding check shared marks
shared_marks = refl

shared_other : marks 4 (shared 3) ≡ 1 ∷ 2 ∷ 1 ∷ 1 ∷ []
unfolding check shared marks
shared_other = refl

-- ---- a call in bodies of two charts

-- both charts have the call, node 1 of body 0 with no operand, as root of their first bodies
doubled : List (List ℕ)
unfolding check
doubled =
    rec3 3 2 2
    ∷ []
    ∷ []
    ∷ []
    ∷ (rec6 0 0 0 0 0 1 ++ rec6 0 0 0 0 1 1)
    ∷ (body 0 0 0 ++ body 0 0 0)
    ∷ rec6 40 0 0 0 0 0
    ∷ rec3 0 0 0
    ∷ []

doubled_calls : calls_in_one_body (sheet_of doubled) ≡ false
unfolding check doubled
doubled_calls = refl
