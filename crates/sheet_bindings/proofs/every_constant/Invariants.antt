use Prim.Native.Nat.{ℕ, ◌<◌}
use mathlib.Core.Path.{◌≡◌}
use mathlib.Core.List.{List}
use mathlib.Core.Bool.{Bool, true}
use Rattle.sheet.specs.All.{all_below}
use Rattle.sheet_rules.specs.Fields.{holds}
use Rattle.sheet_rules.specs.Bindings.{constant_binding, constant_of}
use Rattle.sheet_bindings.specs.Tests.{TestsBoth}
use Rattle.sheet_bindings.proofs.every_constant.Given as goal

-- constant j of the element whose first record is k is there and meets the test
abbrev pub meets : List ℕ → ℕ → (ℕ → ℕ → Bool) → ℕ → Bool
meets s k p j = holds (constant_binding s k j) (λ b. p j (constant_of b j))

abbrev pub invariant-loop-j : goal.invariant-loop-j
invariant-loop-j g l = (l.count < 65536) × ((p : ℕ → ℕ → Bool) → TestsBoth (goal.F-post g l.fits) p → all_below l.j (meets l.sheet.sheet.now l.k p) ≡ true)
