-- Laws of the types of nodes, one for a path of the code.
use Rattle.std.specs.Prelude.{Some, None}
use Prim.Native.Nat.{ℕ, ◌+◌, ◌≤◌, ◌<◌}
use mathlib.Core.Path.{◌≡◌, refl, sym, ap, ◌∙◌}
use mathlib.Core.List.{List}
use mathlib.Core.Bool.{Bool, true, false}
use native.Mathlib.Omega.{arith}
use Rattle.sheet.specs.declared.Record.{Record}
use Rattle.sheet.specs.declared.Range.{Range}
use Rattle.sheet.specs.All.{all_below}
use Rattle.sheet.specs.Sheet.{record_of}
use Rattle.sheet.proofs.All.{all_fails_lem}
use Rattle.sheet_rules.specs.declared.Typed.{Typed}
use Rattle.sheet_rules.specs.declared.Typed.TheVariants.{Expression, Statement, Wrong}
use Rattle.sheet_rules.specs.Fields.{field_of, type_at}
use Rattle.sheet.specs.Table.{look_up}
use Rattle.sheet_rules.specs.Forms.{Form, literal, binary, clock, arm, clock_act, unknown, form_of, called_body}
use Rattle.sheet_rules.proofs.Forms.{form-literal, form-binary, form-clock, form-arm, form-clock_act, form-unknown}
use Rattle.sheet_rules.specs.Types.{is_of, literal_type, binary_type, name_range, parameters_of, data_match, lower_type, read_type, not_type, clock_type, assign_type, read_element_type, assign_element_type, external_type, internal_type, arm_type, clock_act_type, call_type, choice_type, loop_type, sequence_type, type_in, type_step, type_of}
use Rattle.sheet_rules.proofs.Types.{type_step_lem}

-- ---- data

-- datum j is of the type of declaration first + j, where f types a node
abbrev pub datum_matches : List ℕ → (ℕ → Typed) → ℕ → Record → ℕ → Bool
datum_matches s f first r j = is_of (f (field_of r (4 + j))) (type_at s (first + j))

-- the test of datum j of node n, by what the code has in hand
pub datum : (s : List ℕ) (c b : Record) (n : ℕ) (r : Record) (first j m t : ℕ) (x : Typed) (a : Bool) → m ≡ field_of r (4 + j) → x ≡ lower_type n (type_of s c b) m → t ≡ type_at s (first + j) → a ≡ is_of x t → a ≡ datum_matches s (lower_type n (type_of s c b)) first r j
datum s c b n r first j m t x a p q e h = h ∙ ap (λ y. is_of y t) (q ∙ ap (lower_type n (type_of s c b)) p) ∙ ap (is_of _) e

module _ (s : List ℕ) (f : ℕ → Typed) (g : Range) (r : Record) where
  pub data_fail : (j : ℕ) → j < g.count → datum_matches s f g.first r j ≡ false → false ≡ data_match s f g r
  unfolding data_match
  data_fail j l h = sym (all_fails_lem g.count (datum_matches s f g.first r) j l h)

  pub data_all : (j : ℕ) → g.count ≡ j → all_below j (datum_matches s f g.first r) ≡ true → true ≡ data_match s f g r
  unfolding data_match
  data_all j e h = sym (rw e h)

-- ---- a node

module _ (s : List ℕ) (c b : Record) (n : ℕ) where
  abbrev lower : ℕ → Typed
  lower = lower_type n (type_of s c b)

  pub typed_absent : record_of s 6 n ≡ None → Wrong ≡ type_of s c b n
  unfolding type_step
  typed_absent p = sym (type_step_lem s c b n ∙ rw (type_step, p) refl)

  module _ (r : Record) (p : record_of s 6 n ≡ Some r) where
    typed_at : (f : Form) → form_of r.f0 ≡ f → type_in s c b lower r f ≡ type_of s c b n
    unfolding type_step
    typed_at f e = sym (type_step_lem s c b n ∙ rw (type_step, p, e) refl)

    typed : (o : ℕ) → r.f0 ≡ o → type_in s c b lower r (form_of o) ≡ type_of s c b n
    typed o e = typed_at (form_of o) (ap form_of e)

    pub typed-literal : (x : ℕ) → 1 ≤ r.f0 → r.f0 < 7 → x ≡ literal_type r → Expression x ≡ type_of s c b n
    unfolding type_in
    typed-literal x h k q = ap Expression q ∙ typed_at literal (form-literal r.f0 h (omega arith))

    pub typed-read : (t : Typed) → r.f0 ≡ 7 → t ≡ read_type s c b r → t ≡ type_of s c b n
    unfolding type_in form_of look_up
    typed-read t e q = q ∙ typed 7 e

    pub typed_not : (t x : Typed) → r.f0 ≡ 8 → x ≡ lower r.f1 → t ≡ not_type x → t ≡ type_of s c b n
    unfolding type_in form_of look_up
    typed_not t x e p₁ q = q ∙ ap not_type p₁ ∙ typed 8 e

    pub typed-binary : (t x y : Typed) → 7 ≤ r.f0 → (r.f0 ≡ 7 → ⊥) → (r.f0 ≡ 8 → ⊥) → r.f0 < 17 → x ≡ lower r.f1 → y ≡ lower r.f2 → t ≡ binary_type r.f0 x y → t ≡ type_of s c b n
    unfolding type_in
    typed-binary t x y h n₇ n₈ k p₁ p₂ q = q ∙ rw (p₁, p₂) (typed_at binary (form-binary r.f0 (omega arith) (omega arith)))

    pub typed-clock : (t : Typed) → 17 ≤ r.f0 → r.f0 < 19 → t ≡ clock_type s c r → t ≡ type_of s c b n
    unfolding type_in
    typed-clock t h k q = q ∙ typed_at clock (form-clock r.f0 h (omega arith))

    pub typed-element : (t x : Typed) → r.f0 ≡ 19 → x ≡ lower r.f2 → t ≡ read_element_type s c r x → t ≡ type_of s c b n
    unfolding type_in form_of look_up
    typed-element t x e p₁ q = q ∙ rw p₁ (typed 19 e)

    pub typed-skip : r.f0 ≡ 32 → Statement ≡ type_of s c b n
    unfolding type_in form_of look_up
    typed-skip e = typed 32 e

    pub typed-assign : (t x : Typed) → r.f0 ≡ 33 → x ≡ lower r.f3 → t ≡ assign_type s c b r x → t ≡ type_of s c b n
    unfolding type_in form_of look_up
    typed-assign t x e p₁ q = q ∙ rw p₁ (typed 33 e)

    pub typed-external : (t x y : Typed) (g : Range) (d : Bool) → r.f0 ≡ 34 → x ≡ lower r.f1 → y ≡ lower r.f2 → g ≡ name_range s r.f3 → d ≡ data_match s lower g r → t ≡ external_type s r x y d → t ≡ type_of s c b n
    unfolding type_in form_of look_up
    typed-external t x y g d e p₁ p₂ p₃ p₄ q = q ∙ rw (p₄, p₃, p₁, p₂) (typed 34 e)

    pub typed-internal : (t : Typed) (g : Range) (d : Bool) → r.f0 ≡ 35 → g ≡ name_range s r.f3 → d ≡ data_match s lower g r → t ≡ internal_type s c r d → t ≡ type_of s c b n
    unfolding type_in form_of look_up
    typed-internal t g d e p₃ p₄ q = q ∙ rw (p₄, p₃) (typed 35 e)

    pub typed-arm : (t x : Typed) (g : Range) (d : Bool) → 32 ≤ r.f0 → (r.f0 ≡ 32 → ⊥) → (r.f0 ≡ 33 → ⊥) → (r.f0 ≡ 34 → ⊥) → (r.f0 ≡ 35 → ⊥) → r.f0 < 38 → x ≡ lower r.f2 → g ≡ name_range s r.f3 → d ≡ data_match s lower g r → t ≡ arm_type s c r x d → t ≡ type_of s c b n
    unfolding type_in
    typed-arm t x g d h n₁ n₂ n₃ n₄ k p₁ p₃ p₄ q = q ∙ rw (p₄, p₃, p₁) (typed_at arm (form-arm r.f0 (omega arith) (omega arith)))

    pub typed_act : (t : Typed) → 38 ≤ r.f0 → r.f0 < 40 → t ≡ clock_act_type s c r → t ≡ type_of s c b n
    unfolding type_in
    typed_act t h k q = q ∙ typed_at clock_act (form-clock_act r.f0 h (omega arith))

    pub typed_call : (t : Typed) (g : Range) (d : Bool) → r.f0 ≡ 40 → g ≡ parameters_of (called_body s c r) → d ≡ data_match s lower g r → t ≡ call_type s c r d → t ≡ type_of s c b n
    unfolding type_in form_of look_up
    typed_call t g d e p₃ p₄ q = q ∙ rw (p₄, p₃) (typed 40 e)

    pub typed-choice : (t x y z : Typed) → r.f0 ≡ 41 → x ≡ lower r.f1 → y ≡ lower r.f2 → z ≡ lower r.f3 → t ≡ choice_type x y z → t ≡ type_of s c b n
    unfolding type_in form_of look_up
    typed-choice t x y z e p₁ p₂ p₃ q = q ∙ rw (p₁, p₂, p₃) (typed 41 e)

    pub typed-loop : (t x y : Typed) → r.f0 ≡ 42 → x ≡ lower r.f1 → y ≡ lower r.f2 → t ≡ loop_type x y → t ≡ type_of s c b n
    unfolding type_in form_of look_up
    typed-loop t x y e p₁ p₂ q = q ∙ rw (p₁, p₂) (typed 42 e)

    pub typed-sequence : (t x y : Typed) → r.f0 ≡ 43 → x ≡ lower r.f1 → y ≡ lower r.f2 → t ≡ sequence_type x y → t ≡ type_of s c b n
    unfolding type_in form_of look_up
    typed-sequence t x y e p₁ p₂ q = q ∙ rw (p₁, p₂) (typed 43 e)

    pub typed-assigned : (t x y : Typed) → r.f0 ≡ 44 → x ≡ lower r.f2 → y ≡ lower r.f3 → t ≡ assign_element_type s c r x y → t ≡ type_of s c b n
    unfolding type_in form_of look_up
    typed-assigned t x y e p₁ p₂ q = q ∙ rw (p₁, p₂) (typed 44 e)

    -- the numbers that are no operator: 0, 20 to 31, 45 and more
    typed-unknown : (1 ≤ r.f0 → r.f0 ≤ 19 → ⊥) → (32 ≤ r.f0 → r.f0 ≤ 44 → ⊥) → Wrong ≡ type_of s c b n
    unfolding type_in
    typed-unknown u v = typed_at unknown (form-unknown r.f0 u v)

    pub typed_zero : r.f0 < 1 → Wrong ≡ type_of s c b n
    typed_zero h = typed-unknown (λ u v. omega arith) (λ u v. omega arith)

    pub typed_gap : 19 ≤ r.f0 → (r.f0 ≡ 19 → ⊥) → r.f0 < 32 → Wrong ≡ type_of s c b n
    typed_gap h d k = typed-unknown (λ u v. omega arith) (λ u v. omega arith)

    pub typed_past : 40 ≤ r.f0 → (r.f0 ≡ 40 → ⊥) → (r.f0 ≡ 41 → ⊥) → (r.f0 ≡ 42 → ⊥) → (r.f0 ≡ 43 → ⊥) → (r.f0 ≡ 44 → ⊥) → Wrong ≡ type_of s c b n
    typed_past h n₁ n₂ n₃ n₄ n₅ = typed-unknown (λ u v. omega arith) (λ u v. omega arith)
