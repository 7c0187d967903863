use Prim.Native.Nat.{◌+◌}
use mathlib.Core.Path.{sym, subst, ◌∙◌}
use native.Mathlib.Omega.{arith}
use Rattle.engine_classes.proofs.Laws.{Looked, looked_none, class-few, looked_few, looked_found, looked_full, looked_passed}
use Rattle.engine_classes.proofs.class_full.Goals as goal
use Rattle.engine_classes.proofs.class_full.Goals.{then-same_class+else-last-end, else-same_class}

pub returns-then-n-lt-CLASS_LIMIT : goal.returns-then-n-lt-CLASS_LIMIT
returns-then-n-lt-CLASS_LIMIT c = class-few _ _ c.requires.0 c.requires.1 c.requires.2 _ c.if-n-lt-CLASS_LIMIT.true

pub loop-at-init : goal.loop-at-init
loop-at-init c = looked_none _ _ c.requires.0 c.requires.1 c.requires.2 _ (let h = c.if-n-lt-CLASS_LIMIT.false in omega arith) _ _ c.place_at-last.ensures c.place_at-at.ensures

pub returns-then-last-end : goal.returns-then-last-end
returns-then-last-end c = let end = c.place_at-end.ensures in
    let args = c.args in
    looked_full _ _ c.requires.0 c.requires.1 c.requires.2 _ _ _ c.loop-at.invariant c.loop-at-test.true (sym c.same_class.ensures ∙ c.if-same_class.true) (c.if-last-end.true ∙ end)

pub loop-at-preserved : goal.loop-at-preserved
loop-at-preserved c =
    let end = c.place_at-end.ensures in
    let args = c.args in
    let same = c.same_class.ensures in
    elim c.if-same_class.branch [
      | then-same_class+else-last-end w ↦ subst (λ last. Looked args.st.now args.n args.t last (c.loop-at.at + 8)) (sym w.last-is)
          (looked_found _ _ c.requires.0 c.requires.1 c.requires.2 _ _ _ c.loop-at.invariant c.loop-at-test.true (sym same ∙ w.if-same_class.true) (λ q. w.if-last-end.false (q ∙ sym end)))
      | else-same_class w ↦ subst (λ last. Looked args.st.now args.n args.t last (c.loop-at.at + 8)) (sym w.last-is)
          (looked_passed _ _ c.requires.0 c.requires.1 c.requires.2 _ _ _ c.loop-at.invariant c.loop-at-test.true (sym same ∙ w.if-same_class.false))
    ]

pub returns : goal.returns
returns c = looked_few _ _ c.requires.0 c.requires.1 c.requires.2 _ _ _ c.loop-at.invariant (let h = c.loop-at-test.false in omega arith)
