-- On a sheet none of whose charts has more than seven parameters each definition that changed with M-105 gives what its text of before gives.
use Rattle.std.specs.Prelude.{Option, Some, None}
use Prim.Native.Nat.{ℕ, zero, suc, ◌+◌, ◌-◌, ◌<◌}
use mathlib.Core.Path.{◌≡◌, refl, ap, ◌∙◌}
use mathlib.Core.List.{List}
use mathlib.Core.Bool.{Bool, true, false}
use native.Mathlib.Omega.{arith}
use lib.Dec.{ltb}
use lib.IntN.{ℤ}
use borrow.Author.Tests.{ltb-true, ne_eqb}
use Rattle.sheet.specs.declared.Record.{Record}
use Rattle.sheet.specs.Names.{charts, nodes, bindings, chart_parameters, bound_chart, operator, is_literal}
use Rattle.sheet.specs.Sheet.{record_of}
use Rattle.sheet.proofs.All.{and_first, true_false}
use Rattle.sheet_rules.specs.Fields.{is_field, field_of, externals_of}
use Rattle.sheet_rules.specs.Bindings.{constant_binding}
use Rattle.sheet_rules.specs.Shape.{variables_at}
use Rattle.sheet_rules.proofs.Fields.{holds-present, holds_absent}
use Rattle.sheet_rules.proofs.Bindings.{constant_first}
use Rattle.sheet_rules.proofs.Sums.{sum_same}
use Rattle.sheet_seven.specs.Kept.{up_to_seven}
use Rattle.sheet_seven.proofs.Kept.{sheet-kept, few}
use Rattle.machine.specs.declared.Out.{Out}
use Rattle.machine.specs.Values.{is_bound, binding_at, binding_of, chart_of, first_cell}
use Rattle.machine.specs.Eval.{Context, needs, on_record, literal_value, within, of_type, parameter_val, read_as, read_val}
use Rattle.machine_seven.specs.Before as before
use Rattle.machine_seven.specs.Kept.{StoredKept, EveryStored}

-- what a test needs is worked out only where it holds
needs_same : (b : Bool) (p q : Out) → (b ≡ true → p ≡ q) → needs b p ≡ needs b q
unfolding needs
needs_same true p q h = h refl
needs_same false p q h = refl

record_same : (f : Option Record) (p q : Record → Out) → ((r : Record) → p r ≡ q r) → on_record f p ≡ on_record f q
unfolding on_record
record_same (Some r) p q h = h r
record_same None p q h = refl

module _ (s : List ℕ) (h : up_to_seven s ≡ true) where
  at : (e : ℕ) → binding_at s e ≡ e - externals_of s
  unfolding binding_at
  at e = (sheet-kept s h).first (e - externals_of s)

  kept-binding : (e : ℕ) → binding_of s e ≡ before.binding_of s e
  unfolding binding_of before.binding_of
  kept-binding e = ap (λ (k : ℕ). elim (is_bound s e) as (λ b. Option Record) [ true ↦ record_of s bindings k | false ↦ None ]) (at e)

  kept-chart : (e : ℕ) → chart_of s e ≡ before.chart_of s e
  unfolding chart_of before.chart_of
  kept-chart e = ap (λ (f : Option Record). elim f as (λ f. Option Record) [ Some b ↦ record_of s charts (bound_chart b) | None ↦ None ]) (kept-binding e)

  kept-first : (e : ℕ) → first_cell s e ≡ before.first_cell s e
  unfolding first_cell before.first_cell
  kept-first e = sum_same (e - externals_of s) _ _ (λ i l. (sheet-kept s h).cells_of_one i)

  kept-held : (e : ℕ) (b : Record) → before.binding_of s e ≡ Some b → record_of s bindings (binding_at s e) ≡ Some b
  unfolding before.binding_of
  kept-held e b p = ap (record_of s bindings) (at e) ∙ go (is_bound s e) p
    where
      go : (t : Bool) → ◌≡◌ {A = Option Record} (elim t [ true ↦ record_of s bindings (e - externals_of s) | false ↦ None ]) (Some b) → record_of s bindings (e - externals_of s) ≡ Some b
      go true q = q
      go false q = absurd (true_false (holds-present _ b (λ r. true) q) (holds_absent _ (λ r. true) refl))

  module _ (x : Context) (b : Record) (k : ℕ) (chart : record_of s charts k ≡ Some x.chart) (bound : record_of s bindings x.binding ≡ Some b) where
    kept_parameter : (n t l : ℕ) → n < (chart_parameters x.chart).count → parameter_val s x n t l ≡ before.parameter_val s x b n t l
    unfolding parameter_val before.parameter_val on_record
    kept_parameter n t l m =
        let z = constant_first x.binding n (omega (arith, few s h k x.chart chart)) in
        let node : ℕ → Out = λ (i : ℕ). on_record (record_of s nodes i) (λ r. needs (is_literal (operator r)) (of_type t (literal_value x.element r) (within s (literal_value x.element r) l))) in
        ap (λ (i : ℕ). needs (is_field i) (on_record (constant_binding s x.binding n) (λ b. node (field_of b i)))) z.1
        ∙ ap (λ (f : Option Record). needs (is_field (1 + n)) (on_record f (λ b. node (field_of b (1 + n))))) (ap (record_of s bindings) z.0 ∙ bound)

    kept_as : (st lo : List ℤ) (place n t l : ℕ) → ltb n (variables_at x.chart x.body place) ≡ true → read_as s x st lo place n t l ≡ before.read_as s x b st lo place n t l
    unfolding read_as before.read_as variables_at
    kept_as st lo zero n t l m = kept_parameter n t l (ltb-true _ _ m)
    kept_as st lo (suc place) n t l m = rw (read_as, before.read_as, ne_eqb (suc place) 0 (λ q. absurd (omega arith))) refl

    kept-reading : (st lo : List ℤ) (place n l : ℕ) → read_val s x st lo place n l ≡ before.read_val s x b st lo place n l
    unfolding read_val before.read_val
    kept-reading st lo place n l = needs_same _ _ _ (λ m. record_same _ _ _ (λ r. kept_as st lo place n _ l (and_first _ _ m)))

  all-kept : StoredKept s
  all-kept = record { sheet = sheet-kept s h; binding = kept-binding; chart = kept-chart; first = kept-first; held = kept-held; reading = λ x b k chart bound. kept-reading x b k chart bound }

pub every_stored : EveryStored
every_stored = all-kept
