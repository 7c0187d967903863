-- Types of expressions and statements.
use Rattle.std.specs.Prelude.{Some, None}
use Prim.Native.Nat.{ℕ, zero, suc, ◌+◌}
use mathlib.Core.List.{List}
use mathlib.Core.Bool.{true, false, not}
use mathlib.Core.Path.{◌≡◌, refl}
use lib.Dec.{eqb}
use Rattle.sheet.specs.declared.Record.{Record}
use Rattle.sheet.specs.All.{◌and◌, all_below}
use Rattle.sheet.specs.Names.{data_of, class, external, internal, chart_variables, chart_bodies, role, procedure, operator, bool_type, int_type, component_type, port_type, timer_type, is_clock}
use Rattle.sheet.specs.Names
use Rattle.sheet_rules.specs.declared.Typed.{Typed}
use Rattle.sheet_rules.specs.declared.Typed.TheVariants.{Expression, Statement, Wrong}
use Rattle.sheet_rules.specs.Fields.{field_of, holds}
use Rattle.sheet_rules.specs.Forms.{Form, literal, read, unary, binary, clock, read_element, skip, assign, external_send, internal_send, arm, clock_act, call, choice, loop, sequence, assign_element, unknown, form_of}
use Rattle.sheet_rules.specs.Indices.{is_plain}
use Rattle.sheet_rules.specs.Types.{given, is_of, variable_at, has_class, reacts_to, has_reaction, internal_name, name_range, parameters_of, clock_of, chart_variable_type, data_match, lower_type, read_type, clock_type, assign_type, indexed_by, chart_variable_index, read_element_type, assign_element_type, external_type, internal_type, arm_type, clock_act_type, call_type, type_in, type_step, type_f, type_of}
use Rattle.sheet_limits.specs.ButLimit.{ButLimit}
use Rattle.sheet_limits.proofs.Fields.{same_type_at}
use Rattle.sheet_limits.proofs.Forms.{same_called_body}
use Rattle.sheet_limits.proofs.Indices.{same_index_at}
use Rattle.sheet_limits.proofs.Records.{same_bodies, same_names, same_nodes}

module _ {s s' : List ℕ} (h : ButLimit s s') where
  pub same_has_class : has_class s ≡ has_class s'
  unfolding has_class
  same_has_class = λ q n k. holds (same_names h q n) (λ r. eqb (class r) k)

  pub same_has_reaction : has_reaction s ≡ has_reaction s'
  unfolding has_reaction
  same_has_reaction = λ q c n. not (all_below (chart_bodies c).count (λ j. not (holds (same_bodies h q ((chart_bodies c).first + j)) (reacts_to n))))

  pub same_internal_name : internal_name s ≡ internal_name s'
  unfolding internal_name
  same_internal_name = λ q c n. same_has_class q n internal and same_has_reaction q c n

  pub same_name_range : name_range s ≡ name_range s'
  unfolding name_range
  same_name_range = λ q n. elim (same_names h q n) [ Some r ↦ data_of r | None ↦ Names.range 0 0 ]

  pub same_chart_variable_type : chart_variable_type s ≡ chart_variable_type s'
  same_chart_variable_type = λ q c n. same_type_at h q ((chart_variables c).first + n)

  pub same_data_match : data_match s ≡ data_match s'
  unfolding data_match
  same_data_match = λ q f g r. all_below g.count (λ j. is_of (f (field_of r (4 + j))) (same_type_at h q (g.first + j)))

  pub same_read_type : read_type s ≡ read_type s'
  unfolding read_type
  same_read_type = λ q c b r. given (not (is_clock (same_type_at h q (variable_at c b r.f1 r.f2))) and is_plain (same_index_at h q (variable_at c b r.f1 r.f2))) (Expression (same_type_at h q (variable_at c b r.f1 r.f2)))

  pub same_clock_type : clock_type s ≡ clock_type s'
  unfolding clock_type
  same_clock_type = λ q c r. given (is_clock (same_chart_variable_type q c r.f1)) (Expression (elim (eqb (operator r) 17) [ true ↦ bool_type | false ↦ int_type ]))

  pub same_assign_type : assign_type s ≡ assign_type s'
  unfolding assign_type
  same_assign_type = λ q c b r x. given (not (eqb r.f1 Names.chart_parameter) and is_plain (same_index_at h q (variable_at c b r.f1 r.f2)) and is_of x (same_type_at h q (variable_at c b r.f1 r.f2))) Statement

  pub same_chart_variable_index : chart_variable_index s ≡ chart_variable_index s'
  same_chart_variable_index = λ q c n. same_index_at h q ((chart_variables c).first + n)

  pub same_read_element_type : read_element_type s ≡ read_element_type s'
  unfolding read_element_type
  same_read_element_type = λ q c r x. given (indexed_by (same_chart_variable_index q c r.f1) x) (Expression (same_chart_variable_type q c r.f1))

  pub same_assign_element_type : assign_element_type s ≡ assign_element_type s'
  unfolding assign_element_type
  same_assign_element_type = λ q c r x y. given (indexed_by (same_chart_variable_index q c r.f1) x and is_of y (same_chart_variable_type q c r.f1)) Statement

  pub same_external_type : external_type s ≡ external_type s'
  unfolding external_type
  same_external_type = λ q r x y d. given (is_of x component_type and is_of y port_type and same_has_class q r.f3 external and d) Statement

  pub same_internal_type : internal_type s ≡ internal_type s'
  unfolding internal_type
  same_internal_type = λ q c r d. given (same_internal_name q c r.f3 and d) Statement

  pub same_arm_type : arm_type s ≡ arm_type s'
  unfolding arm_type
  same_arm_type = λ q c r x d. given (eqb (same_chart_variable_type q c r.f1) (clock_of (operator r)) and is_of x int_type and same_internal_name q c r.f3 and d) Statement

  pub same_clock_act_type : clock_act_type s ≡ clock_act_type s'
  unfolding clock_act_type
  same_clock_act_type = λ q c r. given (elim (eqb (operator r) 38) [ true ↦ eqb (same_chart_variable_type q c r.f1) timer_type | false ↦ is_clock (same_chart_variable_type q c r.f1) ]) Statement

  pub same_call_type : call_type s ≡ call_type s'
  unfolding call_type
  same_call_type = λ q c r d. given (holds (same_called_body h q c r) (λ p. eqb (role p) procedure) and d) Statement

  type_in_at : (c b : Record) (f : (ℕ → Typed)) (r : Record) (a : Form) → type_in s c b f r a ≡ type_in s' c b f r a
  unfolding type_in
  type_in_at c b f r literal = refl
  type_in_at c b f r read = λ q. same_read_type q c b r
  type_in_at c b f r unary = refl
  type_in_at c b f r binary = refl
  type_in_at c b f r clock = λ q. same_clock_type q c r
  type_in_at c b f r read_element = λ q. same_read_element_type q c r (f r.f2)
  type_in_at c b f r skip = refl
  type_in_at c b f r assign = λ q. same_assign_type q c b r (f r.f3)
  type_in_at c b f r external_send = λ q. same_external_type q r (f r.f1) (f r.f2) (same_data_match q f (same_name_range q r.f3) r)
  type_in_at c b f r internal_send = λ q. same_internal_type q c r (same_data_match q f (same_name_range q r.f3) r)
  type_in_at c b f r arm = λ q. same_arm_type q c r (f r.f2) (same_data_match q f (same_name_range q r.f3) r)
  type_in_at c b f r clock_act = λ q. same_clock_act_type q c r
  type_in_at c b f r call = λ q. same_call_type q c r (same_data_match q f (parameters_of (same_called_body h q c r)) r)
  type_in_at c b f r choice = refl
  type_in_at c b f r loop = refl
  type_in_at c b f r sequence = refl
  type_in_at c b f r assign_element = λ q. same_assign_element_type q c r (f r.f2) (f r.f3)
  type_in_at c b f r unknown = refl

  pub same_type_in : type_in s ≡ type_in s'
  same_type_in = λ q c b f r a. type_in_at c b f r a q

  pub same_type_step : type_step s ≡ type_step s'
  unfolding type_step
  same_type_step = λ q c b f n. elim (same_nodes h q n) [ Some r ↦ same_type_in q c b f r (form_of (operator r)) | None ↦ Wrong ]

  type_f_at : (c b : Record) (a : ℕ) → type_f s c b a ≡ type_f s' c b a
  unfolding type_f
  type_f_at c b zero = λ q n. Wrong
  type_f_at c b (suc k) = λ q n. same_type_step q c b (lower_type n (type_f_at c b k q)) n

  pub same_type_f : type_f s ≡ type_f s'
  same_type_f = λ q c b a. type_f_at c b a q

  pub same_type_of : type_of s ≡ type_of s'
  unfolding type_of
  same_type_of = λ q c b n. same_type_f q c b (suc n) n
