-- What an assignment comes to.
use Rattle.std.specs.Prelude.{Option, Some, None}
use Prim.Native.Nat.{ℕ, ◌+◌, ◌<◌}
use mathlib.Core.Path.{◌≡◌, refl, sym, ap, subst, ◌∙◌}
use mathlib.Core.List.{List}
use mathlib.Core.Bool.{true}
use native.Mathlib.Omega.{arith}
use lib.ListN.{set}
use lib.IntN.{ℤ}
use borrow.Author.Tests.{ne_eqb}
use Rattle.sheet.specs.declared.Record.{Record}
use Rattle.sheet.specs.Names.{body_parameters, body_locals, chart_variables}
use Rattle.machine.specs.declared.Ran.TheVariants.{Done, Refused, Stuck}
use Rattle.sheet_rules.specs.Forms.{assign, assign_element}
use Rattle.sheet_rules.specs.Shape.{variables_at}
use Rattle.sheet_rules.specs.Indices.{index_at, is_plain}
use Rattle.sheet_rules.specs.Types.{variable_at}
use Rattle.machine.specs.State.{cell_at}
use Rattle.machine.specs.Eval.{Context, variable_at_cell}
use Rattle.machine.specs.Run.{world, assigned}
use Rattle.machine_sound.proofs.Locals.{few}
use Rattle.engine_context.specs.Context.{cell_in}
use Rattle.engine_ready.specs.Ready.{context_at, Lies, Reaches, IsExpression}
use Rattle.engine_ready.specs.Words.{put_at}
use Rattle.engine_ready.proofs.Cells.{plain_is_lem, lies, reaches}
use Rattle.engine_ready.proofs.Statements.{assign-inside, assign-plain, element-below, index_operand, element_operand}
use Rattle.engine_data.specs.Visit.{Visit}

-- ---- a value to a variable

module _ (s : List ℕ) (x : Context) (place n : ℕ) (z : ℤ) (l : ℕ) (st lo : List ℤ) where
  pub to_chart : place ≡ 1 → (c k : ℕ) → k ≡ c → (place ≡ 1 → variable_at_cell s x n 0 ≡ c) → world (Done l) (set st k z) lo ≡ assigned s x place n z l st lo
  unfolding assigned
  to_chart e c k q h = ap (λ k. world (Done l) (set st k z) lo) (q ∙ sym (h e)) ∙ rw e refl

  pub to_body : place ≡ 2 → world (Done l) st (set lo n z) ≡ assigned s x place n z l st lo
  unfolding assigned
  to_body e = rw e refl

  pub to_none : (place ≡ 1 → ⊥) → (place ≡ 2 → ⊥) → world Stuck st lo ≡ assigned s x place n z l st lo
  unfolding assigned
  to_none a b = rw (assigned, ne_eqb place 1 a, ne_eqb place 2 b) refl

-- ---- where things are

module _ (s w : List ℕ) (st lo : List ℤ) (n : ℕ) (r : Record) where
  module _ (v : Visit s w st lo n r assign) where
    inside : r.f2 < variables_at (context_at s w).chart (context_at s w).body r.f1
    inside = assign-inside s w st lo v.ready n r v.there v.statement v.form

    assign_below : r.f1 ≡ 1 → r.f2 < (chart_variables (context_at s w).chart).count
    unfolding variables_at
    assign_below e = subst (λ p. r.f2 < variables_at (context_at s w).chart (context_at s w).body p) e inside

    pub assign_lies : r.f1 ≡ 1 → Lies w st r.f2
    unfolding variable_at
    assign_lies e = lies s w st lo v.ready r.f2 (assign_below e) (subst (λ p. is_plain (index_at s (variable_at (context_at s w).chart (context_at s w).body p r.f2)) ≡ true) e (assign-plain s w st lo v.ready n r v.there v.statement v.form))

    pub assign_at : r.f1 ≡ 1 → variable_at_cell s (context_at s w) r.f2 0 ≡ cell_at (cell_in w r.f2)
    unfolding variable_at_cell
    assign_at e = plain_is_lem s w v.ready.running r.f2 (assign_below e)

    pub assign_local : r.f1 ≡ 2 → r.f2 < 16
    unfolding variables_at
    assign_local e = let h : r.f2 < (body_parameters (context_at s w).body).count + (body_locals (context_at s w).body).count = subst (λ p. r.f2 < variables_at (context_at s w).chart (context_at s w).body p) e inside in omega (arith, few s v.ready.running.passed (context_at s w) v.ready.running.placed)

  pub element-operands : (v : Visit s w st lo n r assign_element) → IsExpression s w r.f2 × IsExpression s w r.f3
  element-operands v = (index_operand s w st lo v.ready n r v.there v.statement v.form, element_operand s w st lo v.ready n r v.there v.statement v.form)

  pub element_reaches : (v : Visit s w st lo n r assign_element) → Reaches w st r.f1
  element_reaches v = reaches s w st lo v.ready r.f1 (element-below s w st lo v.ready n r v.there v.statement v.form)

-- ---- a value to an element, by where its index was found to lead

module _ (p q : Option ℕ) (z : ℤ) (l : ℕ) (st lo : List ℤ) (found : q ≡ p) where
  pub put_there : (k : ℕ) → q ≡ Some k → world (Done l) (set st k z) lo ≡ put_at p z l st lo
  unfolding put_at
  put_there k e = ap (λ p. put_at p z l st lo) (sym e ∙ found)

  pub put_outside : q ≡ None → world (Refused 11 l) st lo ≡ put_at p z l st lo
  unfolding put_at
  put_outside e = ap (λ p. put_at p z l st lo) (sym e ∙ found)
