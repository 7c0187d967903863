-- Operands.
use Rattle.std.specs.Prelude.{None}
use Prim.Native.Nat.{ℕ, ◌+◌}
use mathlib.Core.List.{List}
use mathlib.Core.Bool.{true, false}
use mathlib.Core.Path.{◌≡◌, refl}
use lib.Dec.{ltb}
use Rattle.sheet.specs.declared.Record.{Record}
use Rattle.sheet.specs.Names.{operator, data_of, chart_bodies, body_parameters}
use Rattle.sheet_rules.specs.Fields.{number_or0}
use Rattle.sheet_rules.specs.Forms.{form_of, operands, name_data, called_body, call_data, operands_in, operands_of, Form, literal, read, unary, binary, clock, read_element, skip, assign, external_send, internal_send, arm, clock_act, call, choice, loop, sequence, assign_element, unknown}
use Rattle.sheet_limits.specs.ButLimit.{ButLimit}
use Rattle.sheet_limits.proofs.Records.{same_bodies, same_names}

module _ {s s' : List ℕ} (h : ButLimit s s') where
  pub same_name_data : name_data s ≡ name_data s'
  unfolding name_data
  same_name_data = λ q r. number_or0 (same_names h q r.f3) (λ n. (data_of n).count)

  pub same_called_body : called_body s ≡ called_body s'
  unfolding called_body
  same_called_body = λ q c r. elim (ltb r.f1 (chart_bodies c).count) [ true ↦ same_bodies h q ((chart_bodies c).first + r.f1) | false ↦ None ]

  pub same_call_data : call_data s ≡ call_data s'
  unfolding call_data
  same_call_data = λ q c r. number_or0 (same_called_body q c r) (λ b. (body_parameters b).count)

  operands_in_at : (c r : Record) (a : Form) → operands_in s c r a ≡ operands_in s' c r a
  unfolding operands_in
  operands_in_at c r literal = refl
  operands_in_at c r read = refl
  operands_in_at c r unary = refl
  operands_in_at c r binary = refl
  operands_in_at c r clock = refl
  operands_in_at c r read_element = refl
  operands_in_at c r skip = refl
  operands_in_at c r assign = refl
  operands_in_at c r external_send = λ q. operands 1 2 (same_name_data q r)
  operands_in_at c r internal_send = λ q. operands 1 0 (same_name_data q r)
  operands_in_at c r arm = λ q. operands 2 1 (same_name_data q r)
  operands_in_at c r clock_act = refl
  operands_in_at c r call = λ q. operands 1 0 (same_call_data q c r)
  operands_in_at c r choice = refl
  operands_in_at c r loop = refl
  operands_in_at c r sequence = refl
  operands_in_at c r assign_element = refl
  operands_in_at c r unknown = refl

  pub same_operands_in : operands_in s ≡ operands_in s'
  same_operands_in = λ q c r a. operands_in_at c r a q

  pub same_operands_of : operands_of s ≡ operands_of s'
  unfolding operands_of
  same_operands_of = λ q c r. same_operands_in q c r (form_of (operator r))
