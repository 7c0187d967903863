-- Which operators have which form, and which literal.
use Prim.Native.Nat.{ℕ, zero, suc, ◌<◌, ◌≤◌}
use mathlib.Core.Path.{◌≡◌, refl, sym, ap, subst, ◌∙◌}
use mathlib.Core.List.{List, ◌∷◌}
use mathlib.Core.Bool.{Bool, true, false, not, true≢false}
use native.Mathlib.Omega.{arith}
use native.Mathlib.Decide.{dec_lt}
use lib.ListN.{drop}
use lib.Dec.{T}
use Rattle.sheet.specs.declared.Record.{Record}
use Rattle.sheet.specs.Names.{operator}
use Rattle.sheet.specs.Table.{Line, look_up}
use Rattle.sheet.proofs.Table.{beyond, lines_below, lines_past, line_at, all_meet_lem, all_meet, all_meet_below, all_meet_below_lem}
use Rattle.sheet_rules.specs.Forms.{Form, literal, read, unary, binary, clock, read_element, skip, assign, external_send, internal_send, arm, clock_act, call, choice, loop, sequence, assign_element, unknown, form_table, form_of, literal_table, self, literal_of, Binary, both, equal, less, plus, minus, times, div, modulo, binary_table, binary_of, operands_in, operands_of}

no_T : (b : Bool) → T (not b) → b ≡ false
no_T true q = absurd q
no_T false q = refl

-- an operator from m on, below the bound of the line that follows the first k
form_at : (k m op : ℕ) (l : Line Form) (ls : List (Line Form)) → drop k form_table ≡ l ∷ ls → T (lines_below k form_table m) → m ≤ op → op < l.below → form_of op ≡ l.means
unfolding form_of
form_at k m op = line_at unknown form_table k m op

module _ (op : ℕ) where
  pub form-literal : 1 ≤ op → op ≤ 6 → form_of op ≡ literal
  form-literal h l = form_at 1 1 op _ _ refl tt h (omega arith)

  pub form-binary : 9 ≤ op → op ≤ 16 → form_of op ≡ binary
  form-binary h l = form_at 4 9 op _ _ refl tt h (omega arith)

  pub form-clock : 17 ≤ op → op ≤ 18 → form_of op ≡ clock
  form-clock h l = form_at 5 17 op _ _ refl tt h (omega arith)

  pub form-arm : 36 ≤ op → op ≤ 37 → form_of op ≡ arm
  form-arm h l = form_at 12 36 op _ _ refl tt h (omega arith)

  pub form-clock_act : 38 ≤ op → op ≤ 39 → form_of op ≡ clock_act
  form-clock_act h l = form_at 13 38 op _ _ refl tt h (omega arith)

  pub form-unknown : (1 ≤ op → op ≤ 19 → ⊥) → (32 ≤ op → op ≤ 44 → ⊥) → form_of op ≡ unknown
  unfolding form_of look_up
  form-unknown u v = elim (dec_lt op 1) [
    | yes l ↦ form_at 0 0 op _ _ refl tt (omega arith) l
    | no g ↦ elim (dec_lt op 20) [
      | yes l ↦ absurd (u (omega arith) (omega arith))
      | no h ↦ elim (dec_lt op 32) [
        | yes l ↦ form_at 7 20 op _ _ refl tt (omega arith) l
        | no k ↦ elim (dec_lt op 45) [ yes l ↦ absurd (v (omega arith) (omega arith)) | no m ↦ lines_past unknown 19 form_table 45 op tt (omega arith) ]
      ]
    ]
  ]

abbrev pub is_expression_form : Form → Bool
is_expression_form literal = true
is_expression_form read = true
is_expression_form unary = true
is_expression_form binary = true
is_expression_form clock = true
is_expression_form read_element = true
is_expression_form skip = false
is_expression_form assign = false
is_expression_form external_send = false
is_expression_form internal_send = false
is_expression_form arm = false
is_expression_form clock_act = false
is_expression_form call = false
is_expression_form choice = false
is_expression_form loop = false
is_expression_form sequence = false
is_expression_form assign_element = false
is_expression_form unknown = false

-- only operators 1 to 19 are expressions
pub form_expression : (op : ℕ) → (1 ≤ op → op ≤ 19 → ⊥) → is_expression_form (form_of op) ≡ false
unfolding form_of all_meet_lem
form_expression op n = elim (dec_lt op 1) [
  | yes l ↦ ap is_expression_form (form_at 0 0 op _ _ refl tt (omega arith) l)
  | no g ↦ elim (dec_lt op 20) [
    | yes l ↦ absurd (n (omega arith) (omega arith))
    | no h ↦ ap is_expression_form (lines_past unknown 7 form_table 20 op tt (omega arith)) ∙ no_T _ (all_meet unknown (λ f. not (is_expression_form f)) (drop 7 form_table) op tt)
  ]
]

abbrev pub is_call_form : Form → Bool
is_call_form literal = false
is_call_form read = false
is_call_form unary = false
is_call_form binary = false
is_call_form clock = false
is_call_form read_element = false
is_call_form skip = false
is_call_form assign = false
is_call_form external_send = false
is_call_form internal_send = false
is_call_form arm = false
is_call_form clock_act = false
is_call_form call = true
is_call_form choice = false
is_call_form loop = false
is_call_form sequence = false
is_call_form assign_element = false
is_call_form unknown = false

-- only operator 40 is a call
form-call : (op : ℕ) → (op ≡ 40 → ⊥) → is_call_form (form_of op) ≡ false
unfolding form_of all_meet_lem all_meet_below
form-call op n = elim (dec_lt op 40) [
  | yes l ↦ no_T _ (all_meet_below_lem unknown (λ f. not (is_call_form f)) 40 form_table op tt l)
  | no h ↦ ap is_call_form (lines_past unknown 15 form_table 41 op tt (beyond (from_40 op h) n)) ∙ no_T _ (all_meet unknown (λ f. not (is_call_form f)) (drop 15 form_table) op tt)
]
  where
    from_40 : (op : ℕ) → (op < 40 → ⊥) → 40 ≤ op
    from_40 op h = omega arith

-- the operands of another node don't depend on its chart
pub operands-plain : (s : List ℕ) (c c' r : Record) → (operator r ≡ 40 → ⊥) → operands_of s c r ≡ operands_of s c' r
unfolding operands_of operands_in
operands-plain s c c' r n = go (form_of (operator r)) (form-call (operator r) n)
  where
    go : (f : Form) → is_call_form f ≡ false → operands_in s c r f ≡ operands_in s c' r f
    go literal q = refl
    go read q = refl
    go unary q = refl
    go binary q = refl
    go clock q = refl
    go read_element q = refl
    go skip q = refl
    go assign q = refl
    go external_send q = refl
    go internal_send q = refl
    go arm q = refl
    go clock_act q = refl
    go call q = absurd (true≢false q)
    go choice q = refl
    go loop q = refl
    go sequence q = refl
    go assign_element q = refl
    go unknown q = refl

-- what is none of the first five literals is taken for the sixth
pub literal-self : (op : ℕ) → (op ≡ 1 → ⊥) → (op ≡ 2 → ⊥) → (op ≡ 3 → ⊥) → (op ≡ 4 → ⊥) → (op ≡ 5 → ⊥) → literal_of op ≡ self
unfolding literal_of look_up
literal-self zero a b c d e = refl
literal-self (suc zero) a b c d e = absurd (a refl)
literal-self (suc (suc zero)) a b c d e = absurd (b refl)
literal-self (suc (suc (suc zero))) a b c d e = absurd (c refl)
literal-self (suc (suc (suc (suc zero)))) a b c d e = absurd (d refl)
literal-self (suc (suc (suc (suc (suc zero))))) a b c d e = absurd (e refl)
literal-self (suc (suc (suc (suc (suc (suc n)))))) a b c d e = lines_past self 6 literal_table 6 (suc (suc (suc (suc (suc (suc n)))))) tt (omega arith)

-- operators on two values: those below 9, which nobody asks for, and those from 16 on are taken for mod
binary_at_lem : (k m op : ℕ) (l : Line Binary) (ls : List (Line Binary)) → drop k binary_table ≡ l ∷ ls → T (lines_below k binary_table m) → m ≤ op → op < l.below → binary_of op ≡ l.means
unfolding binary_of
binary_at_lem k m op = line_at modulo binary_table k m op

from_9 : (op : ℕ) → (op < 9 → ⊥) → 9 ≤ op
from_9 op h = omega arith

pub binary_mod : (op : ℕ) → (op ≡ 9 → ⊥) → (op ≡ 10 → ⊥) → (op ≡ 11 → ⊥) → (op ≡ 12 → ⊥) → (op ≡ 13 → ⊥) → (op ≡ 14 → ⊥) → (op ≡ 15 → ⊥) → binary_of op ≡ modulo
unfolding binary_of look_up
binary_mod op a b c d e f g = elim (dec_lt op 9) [ yes l ↦ binary_at_lem 0 0 op _ _ refl tt (omega arith) l | no h ↦ lines_past modulo 8 binary_table 16 op tt (beyond (beyond (beyond (beyond (beyond (beyond (beyond (from_9 op h) a) b) c) d) e) f) g) ]

-- all but the first three give an Int
abbrev pub is_arithmetic : Binary → Bool
is_arithmetic both = false
is_arithmetic equal = false
is_arithmetic less = false
is_arithmetic plus = true
is_arithmetic minus = true
is_arithmetic times = true
is_arithmetic div = true
is_arithmetic modulo = true

pub binary_arithmetic : (op : ℕ) → (op ≡ 9 → ⊥) → (op ≡ 10 → ⊥) → (op ≡ 11 → ⊥) → T (is_arithmetic (binary_of op))
unfolding binary_of look_up all_meet_lem
binary_arithmetic op a b c = elim (dec_lt op 9) [
  | yes l ↦ subst (λ o. T (is_arithmetic o)) (sym (binary_at_lem 0 0 op _ _ refl tt (omega arith) l)) tt
  | no h ↦ subst (λ o. T (is_arithmetic o)) (sym (lines_past modulo 4 binary_table 12 op tt (omega arith))) (all_meet modulo is_arithmetic (drop 4 binary_table) op tt)
]
