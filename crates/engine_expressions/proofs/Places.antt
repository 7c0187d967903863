-- The same laws in the code's terms: words found by the numbers of a body, steps counted down.
use Rattle.std.specs.Prelude.{Some, Ok, Err}
use Prim.Native.Nat.{ℕ, suc, ◌+◌, ◌-◌, ◌<◌}
use mathlib.Core.Path.{◌≡◌, sym, ap, ◌∙◌}
use mathlib.Core.List.{List}
use native.Mathlib.Omega.{arith}
use lib.IntN.{ℤ}
use Rattle.sheet.specs.declared.Record.{Record}
use Rattle.sheet.specs.Names.{nodes, operator}
use Rattle.sheet.specs.Sheet.{record_of}
use Rattle.sheet.specs.Table.{look_up}
use Rattle.sheet_rules.specs.Forms.{literal, read, unary, binary, clock, read_element, form_of}
use Rattle.machine.specs.State.{cell_at, word_of}
use Rattle.machine.specs.Eval.{literal_value, eval_of}
use Rattle.engine_ints.specs.declared.Stop.TheVariants.{Refused}
use Rattle.engine_ints.specs.Work.{Work, work_of, then_work, not_work, binary_work}
use Rattle.engine_context.specs.Context.{element_in, cell_in, leads_to}
use Rattle.engine_ready.specs.Ready.{context_at, Ready, Reaches, IsExpression}
use Rattle.engine_ready.specs.Words.{element_word}
use Rattle.engine_ready.proofs.Cells.{reaches}
use Rattle.engine_ready.proofs.Expressions as laws

pub form-read : (op : ℕ) → op ≡ 7 → form_of op ≡ read
unfolding form_of look_up
form-read op e = ap form_of e

pub form-element : (op : ℕ) → op ≡ 19 → form_of op ≡ read_element
unfolding form_of look_up
form-element op e = ap form_of e

pub form-unary : (op : ℕ) → op ≡ 8 → form_of op ≡ unary
unfolding form_of look_up
form-unary op e = ap form_of e

-- a visit takes one step
pub visit : (s w : List ℕ) (st lo : List ℤ) (n l : ℕ) → (l ≡ 0 → ⊥) → (o : Work) → o ≡ work_of (eval_of s (context_at s w) st lo n (suc (l - 1))) → o ≡ work_of (eval_of s (context_at s w) st lo n l)
visit s w st lo n l some o h = h ∙ ap (λ l. work_of (eval_of s (context_at s w) st lo n l)) (let k : suc (l - 1) ≡ l = omega arith in k)

module _ (s w : List ℕ) (st lo : List ℤ) (ready : Ready s w st lo) where
  pub refused_at_lem : (n l : ℕ) → l ≡ 0 → Err (Refused 10 0) ≡ work_of (eval_of s (context_at s w) st lo n l)
  refused_at_lem n l none = sym (ap (λ l. work_of (eval_of s (context_at s w) st lo n l)) none ∙ laws.none_left s w st lo ready n)

  module _ (n : ℕ) (r : Record) (there : record_of s nodes n ≡ Some r) (e : IsExpression s w n) where
    abbrev given : ℕ → Work
    given l = work_of (eval_of s (context_at s w) st lo n (suc l))

    pub literal-at : form_of (operator r) ≡ literal → (l : ℕ) → Ok ((literal_value (element_in w) r).word, l) ≡ given l
    unfolding context_at
    literal-at q l = sym (laws.literal_word s w st lo ready n r there e q l)

    module _ (q : form_of (operator r) ≡ clock) where
      pub running_at_lem : operator r ≡ 17 → (l : ℕ) → Ok (word_of st (cell_at (cell_in w r.f1) + 0), l) ≡ given l
      running_at_lem h l = sym (laws.running_word s w st lo ready n r there e q h l ∙ ap (λ k. Ok (word_of st k, l)) (let k : cell_at (cell_in w r.f1) ≡ cell_at (cell_in w r.f1) + 0 = omega arith in k))

      pub value_at_lem : operator r ≡ 18 → (l : ℕ) → Ok (word_of st (cell_at (cell_in w r.f1) + 1), l) ≡ given l
      value_at_lem h l = sym (laws.value_word s w st lo ready n r there e q (λ z. omega arith) l)

    module _ (q : form_of (operator r) ≡ read_element) where
      pub index_at_lem : (r.f2 < n) × IsExpression s w r.f2
      index_at_lem = (laws.index_low s w st lo ready n r there e q, laws.index_operand s w st lo ready n r there e q)

      pub reaches_at : Reaches w st r.f1
      reaches_at = reaches s w st lo ready r.f1 (laws.element-below s w st lo ready n r there e q)

      pub element_at : (l : ℕ) → then_work (work_of (eval_of s (context_at s w) st lo r.f2 l)) (λ i. element_word st (leads_to w r.f1 i)) ≡ given l
      element_at l = sym (laws.element_word_lem s w st lo ready n r there e q l)

    pub not_at : form_of (operator r) ≡ unary → (l : ℕ) → then_work (work_of (eval_of s (context_at s w) st lo r.f1 l)) not_work ≡ given l
    not_at q l = sym (laws.not_word_lem s w st lo ready n r there e q l)

    -- both operands are lower, and expressions
    pub operands_at : form_of (operator r) ≡ binary → (r.f1 < n) × (r.f2 < n) × IsExpression s w r.f1 × IsExpression s w r.f2
    operands_at q = (laws.first_low_lem s w st lo ready n r there e q, laws.second_low s w st lo ready n r there e q, laws.first_operand s w st lo ready n r there e q, laws.second_operand s w st lo ready n r there e q)

    pub two_at : form_of (operator r) ≡ binary → (l : ℕ) → then_work (work_of (eval_of s (context_at s w) st lo r.f1 l)) (λ a m. then_work (work_of (eval_of s (context_at s w) st lo r.f2 m)) (λ b l. binary_work (operator r) a b l)) ≡ given l
    two_at q l = sym (laws.two_words s w st lo ready n r there e q l)
