use Rattle.std.specs.Prelude.{Some, None}
use native.Mathlib.Omega.{arith}
use mathlib.Core.Path.{◌≡◌, refl, sym, ap, ◌∙◌}
use mathlib.Core.Bool.{Bool, true, false}
use mathlib.Core.List.{List}
use Prim.Native.Nat.{ℕ, suc, ◌+◌, ◌-◌, ◌≤◌, ◌<◌}
use borrow.Author.Tests.{lt-ltb, le-ltb}
use mir.Syntax.{w64}
use mir.Val.{Fits}
use Rattle.sheet.specs.All.{◌and◌, all_below}
use Rattle.sheet.proofs.All.{first_fails_lem, rest_fails, first_holds, false-and, true-and, all_more, loop_fails, loop_ends}
use Rattle.sheet.specs.declared.Record.{Record}
use Rattle.sheet.specs.Sheet.{record_of}
use Rattle.sheet_rules.specs.declared.Operands.{Operands}
use Rattle.sheet_rules.specs.Fields.{holds}
use Rattle.sheet_rules.specs.Forms.{form_of, operands_of, operand_count, operand_at}
use Rattle.sheet_rules.proofs.Fields.{holds-present, holds_absent}
use Rattle.sheet_fields.specs.Small.{Small}
use Rattle.sheet_rules.specs.Shape.{fields_shape, tree_shape}
use Rattle.checker_trees.proofs.+tree_fits.Invariants.{operandFits}
use Rattle.checker_trees.proofs.+tree_fits.Goals as goal

small-sum : (o : Operands) → Small o → Fits w64 (o.count + o.tail)
small-sum o h = record { fits = omega arith }

small-index : (o : Operands) (j : ℕ) → Small o → j < o.count + o.tail → j < 100000
small-index o j h l = omega arith

-- operand j of a node fits
tree-none : (s : List ℕ) (c b : Record) (levels n : ℕ) → levels ≡ 0 → false ≡ tree_shape s c b levels n
unfolding tree_shape
tree-none s c b levels n e = rw e refl

module _ (s : List ℕ) (c b : Record) (levels n : ℕ) (some : levels ≡ 0 → ⊥) where
  tree-step : tree_shape s c b levels n ≡ holds (record_of s 6 n) (λ r. fields_shape s c b r (form_of r.f0) and all_below (operand_count (operands_of s c r)) (operandFits s c b (levels - 1) n r))
  unfolding tree_shape operandFits
  tree-step = let e : levels ≡ suc (levels - 1) = omega arith in go (levels - 1) e
    where
      go : (k : ℕ) → levels ≡ suc k → tree_shape s c b levels n ≡ holds (record_of s 6 n) (λ r. fields_shape s c b r (form_of r.f0) and all_below (operand_count (operands_of s c r)) (operandFits s c b k n r))
      go k e = rw e refl

  tree-absent : record_of s 6 n ≡ None → false ≡ tree_shape s c b levels n
  tree-absent e = sym (tree-step ∙ holds_absent _ _ e)

  module _ (r : Record) (here : record_of s 6 n ≡ Some r) where
    tree-at : tree_shape s c b levels n ≡ fields_shape s c b r (form_of r.f0) and all_below (operand_count (operands_of s c r)) (operandFits s c b (levels - 1) n r)
    tree-at = tree-step ∙ holds-present _ _ _ here

    module _ (o : Operands) (e : o ≡ operands_of s c r) (j : ℕ) where
      one-fails : j < o.count + o.tail → operandFits s c b (levels - 1) n r j ≡ false → false ≡ tree_shape s c b levels n
      one-fails l f = rest_fails _ _ (loop_fails _ _ _ _ (ap operand_count e) l f) ∙ sym tree-at

      all_fit : fields_shape s c b r (form_of r.f0) ≡ true → j ≤ o.count + o.tail → o.count + o.tail ≤ j → all_below j (operandFits s c b (levels - 1) n r) ≡ true → true ≡ tree_shape s c b levels n
      all_fit p a d h = first_holds _ _ _ p (loop_ends _ _ _ _ (ap operand_count e) a d h) ∙ sym tree-at

operand-high : (s : List ℕ) (c b : Record) (k n : ℕ) (r : Record) (o : Operands) (j : ℕ) {m : ℕ} → o ≡ operands_of s c r → m ≡ operand_at r o j → n ≤ m → operandFits s c b k n r j ≡ false
unfolding operandFits
operand-high s c b k n r o j {m} e p h = false-and _ _ (le-ltb _ _ (rw (p, e) at h))

operand-tree : (s : List ℕ) (c b : Record) (k n : ℕ) (r : Record) (o : Operands) (j : ℕ) (x : Bool) {m : ℕ} → o ≡ operands_of s c r → m ≡ operand_at r o j → m < n → x ≡ tree_shape s c b k m → operandFits s c b k n r j ≡ x
unfolding operandFits
operand-tree s c b k n r o j x {m} e p h q = true-and _ _ (lt-ltb _ _ (rw (p, e) at h)) ∙ sym (rw (p, e) at q)

pub returns-then-levels-eq0 : goal.returns-then-levels-eq0
returns-then-levels-eq0 t c = tree-none _ _ _ _ _ c.if-levels-eq0.true

pub returns-in_default : goal.returns-in_default
returns-in_default t c = tree-absent _ _ _ _ _ c.if-levels-eq0.false (sym c.record.ensures ∙ c.in_default.is)

pub returns-then-not-fields_fit : goal.returns-then-not-fields_fit
returns-then-not-fields_fit t c = first_fails_lem _ _ (sym c.fields_fit.ensures ∙ c.if-not-fields_fit.true) ∙ sym (tree-at _ _ _ _ _ c.if-levels-eq0.false _ (sym c.record.ensures ∙ c.in-Some.is))

pub overflow_add-count : goal.overflow_add-count
overflow_add-count t c = small-sum c.operands-o.result c.operands-o.ensures.1

pub loop-j-init : goal.loop-j-init
unfolding all_below
loop-j-init t c = (omega arith, refl)

pub operand-m-requires : goal.operand-m-requires
operand-m-requires t c = (c.operands-o.ensures.1, small-index _ _ c.operands-o.ensures.1 c.loop-j-test.true)

pub returns-then-n-m : goal.returns-then-n-m
returns-then-n-m t c = let r-here-is = sym c.record.ensures ∙ c.in-Some.is in
    let operand-high-here = operand-high _ _ _ _ _ _ _ _ c.operands-o.ensures.0 c.operand-m.ensures.0 c.if-n-m.true in
    one-fails _ _ _ _ _ c.if-levels-eq0.false _ r-here-is _ c.operands-o.ensures.0 _ c.loop-j-test.true operand-high-here

pub tree_fits-requires : goal.tree_fits-requires
tree_fits-requires t c = (omega arith, c.requires)

pub returns-then-not-tree_fits : goal.returns-then-not-tree_fits
returns-then-not-tree_fits t c = let r-here-is = sym c.record.ensures ∙ c.in-Some.is in
    one-fails _ _ _ _ _ c.if-levels-eq0.false _ r-here-is _ c.operands-o.ensures.0 _ c.loop-j-test.true
    (operand-tree _ _ _ _ _ _ _ _ _ c.operands-o.ensures.0 c.operand-m.ensures.0 c.if-n-m.false c.tree_fits.ensures
    ∙ c.if-not-tree_fits.true)

pub loop-j-preserved : goal.loop-j-preserved
loop-j-preserved t c = (omega arith, all_more c.loop-j.j _ c.loop-j.invariant.1 (operand-tree _ _ _ _ _ _ _ _ _ c.operands-o.ensures.0 c.operand-m.ensures.0 c.if-n-m.false c.tree_fits.ensures ∙ c.if-not-tree_fits.false))

pub returns : goal.returns
returns t c = let r-here-is = sym c.record.ensures ∙ c.in-Some.is in
    let fields-fit-is = sym c.fields_fit.ensures ∙ c.if-not-fields_fit.false in
    all_fit _ _ _ _ _ c.if-levels-eq0.false _ r-here-is _ c.operands-o.ensures.0 _ fields-fit-is c.loop-j.invariant.0 c.loop-j-test.false
    c.loop-j.invariant.1
