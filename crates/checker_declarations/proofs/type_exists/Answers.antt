use mathlib.Core.Path.{◌≡◌, refl, sym, ap, ◌∙◌}
use borrow.Author.Tests.{le-leb, lt-leb}
use mathlib.Core.Bool.{true, false}
use mathlib.Core.List.{List}
use Prim.Native.Nat.{ℕ, ◌≤◌, ◌<◌}
use lib.Dec.{ltb}
use Rattle.sheet.proofs.All.{false-and}
use Rattle.sheet_rules.specs.Shape.{type_exists}
use Rattle.sheet_indices.proofs.Laws.{type_there}
use Rattle.checker_declarations.proofs.type_exists.Goals as goal

basic : (s : List ℕ) (t : ℕ) → t ≤ 6 → type_exists s t ≡ true
unfolding type_exists
basic s t h = rw (type_exists, le-leb t 6 h) refl

seven : (s : List ℕ) (t : ℕ) → 6 < t → t < 8 → type_exists s t ≡ false
unfolding type_exists
seven s t h k = rw (type_exists, lt-leb t 6 h) (false-and _ _ (lt-leb 8 t k))

pub returns-then-t-le6 : goal.returns-then-t-le6
returns-then-t-le6 c = sym (basic _ _ c.if-t-le6.true)

pub returns-then-t-lt8 : goal.returns-then-t-lt8
returns-then-t-lt8 c = sym (seven _ _ c.if-t-le6.false c.if-t-lt8.true)

pub returns : goal.returns
returns c = ap (ltb _) c.count.ensures ∙ sym (type_there _ _ c.if-t-lt8.false)
