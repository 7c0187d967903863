-- The same laws in the code's terms: words found by the numbers of a body.
use Rattle.std.specs.Prelude.{Some, None, Option, Ok, Err}
use Prim.Native.Nat.{ℕ, suc, ◌+◌, ◌<◌, ◌≤◌}
use mathlib.Core.Path.{◌≡◌, sym, ap, ◌∙◌}
use mathlib.Core.List.{List}
use native.Mathlib.Omega.{arith}
use lib.ListN.{get_or}
use lib.IntN.{ℤ, pos}
use borrow.Author.Tests.{ltb-true}
use Rattle.sheet.specs.declared.Record.{Record}
use Rattle.sheet.specs.Names.{nodes, bindings, operator}
use Rattle.sheet.specs.Sheet.{record_of}
use Rattle.sheet.proofs.All.{and_second}
use Rattle.sheet_rules.specs.Fields.{field_of, components_of}
use Rattle.sheet_rules.specs.Forms.{read, form_of}
use Rattle.sheet_rules.specs.Bindings.{constant_record, constant_field, constant_of}
use Rattle.machine.specs.Values.{is_bound}
use Rattle.machine.specs.State.{cell_at, word_of}
use Rattle.machine.specs.Eval.{literal_value, eval_of}
use Rattle.machine_passed.proofs.Records.{components_limit}
use Rattle.machine_passed.proofs.Charts.{element_low as binding-low}
use Rattle.engine_ints.specs.declared.Stop.TheVariants.{Refused, Stuck}
use Rattle.engine_ints.specs.Work.{Work, work_of}
use Rattle.engine_context.specs.Context.{element_in, binding_in, cell_in}
use Rattle.engine_ready.specs.Ready.{context_at, Ready, IsExpression}
use Rattle.engine_ready.specs.Words.{element_word}
use Rattle.engine_ready.proofs.Expressions as laws

-- ---- an element, by where its index was found to lead

module _ (st : List ℤ) (p q : Option ℕ) (l : ℕ) (found : q ≡ p) where
  pub word_there : (k : ℕ) → q ≡ Some k → Ok (get_or st k (pos 0), l) ≡ element_word st p l
  unfolding element_word word_of
  word_there k e = ap (λ p. element_word st p l) (sym e ∙ found)

  pub word_outside : q ≡ None → Err (Refused 11 l) ≡ element_word st p l
  unfolding element_word
  word_outside e = ap (λ p. element_word st p l) (sym e ∙ found)

module _ (s w : List ℕ) (st lo : List ℤ) (ready : Ready s w st lo) where
  pub element_low : element_in w < 65536
  unfolding is_bound context_at
  element_low = let h : element_in w < components_of s = ltb-true _ _ (and_second _ _ ready.running.placed.element.bound) in omega (arith, components_limit s ready.running.passed)

  -- the number of the element's first binding record
  pub bound_low : binding_in w ≤ 131072
  unfolding context_at
  bound_low = omega (arith, ready.running.placed.binding, binding-low s ready.running.passed _ _ _ ready.running.placed.element)

  module _ (n : ℕ) (r : Record) (there : record_of s nodes n ≡ Some r) (e : IsExpression s w n) where
    abbrev given : ℕ → Work
    given l = work_of (eval_of s (context_at s w) st lo n (suc l))

    module _ (q : form_of (operator r) ≡ read) where
      pub variable_at_lem : r.f1 ≡ 1 → (l : ℕ) → Ok (word_of st (cell_at (cell_in w r.f2) + 0), l) ≡ given l
      variable_at_lem one l = sym (laws.variable_word s w st lo ready n r there e q one l ∙ ap (λ k. Ok (word_of st k, l)) (let k : cell_at (cell_in w r.f2) ≡ cell_at (cell_in w r.f2) + 0 = omega arith in k))

      pub local_at : r.f1 ≡ 2 → (l : ℕ) → Ok (get_or lo r.f2 (pos 0), l) ≡ given l
      unfolding word_of
      local_at two l = sym (laws.local_word s w st lo ready n r there e q two l)

      -- the record that was read for the constant, and the constant in it
      module _ (none : r.f1 ≡ 0) (k : ℕ) (k-is : k ≡ constant_record (binding_in w) r.f2) where
        pub constant_unbound : record_of s bindings k ≡ None → (l : ℕ) → Err Stuck ≡ given l
        unfolding context_at
        constant_unbound h l = sym (laws.parameter_unbound s w st lo ready n r there e q none (ap (record_of s bindings) (sym k-is) ∙ h) l)

        module _ (b : Record) (bound : record_of s bindings k ≡ Some b) (f m : ℕ) (f-is : f ≡ constant_field r.f2) (m-is : m ≡ field_of b f) where
          constant : record_of s nodes (constant_of b r.f2) ≡ record_of s nodes m
          constant = ap (record_of s nodes) (sym (m-is ∙ ap (field_of b) f-is))

          pub constant_at : (c : Record) → record_of s nodes m ≡ Some c → (l : ℕ) → Ok ((literal_value (element_in w) c).word, l) ≡ given l
          unfolding context_at
          constant_at c h l = sym (laws.parameter_word s w st lo ready n r there e q none b (ap (record_of s bindings) (sym k-is) ∙ bound) c (constant ∙ h) l)

          pub constant_none : record_of s nodes m ≡ None → (l : ℕ) → Err Stuck ≡ given l
          unfolding context_at
          constant_none h l = sym (laws.parameter_stuck s w st lo ready n r there e q none b (ap (record_of s bindings) (sym k-is) ∙ bound) (constant ∙ h) l)
