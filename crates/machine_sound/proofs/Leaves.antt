-- Literals, variables and operators give values of their types.
use Prim.Native.Nat.{ℕ, suc, ◌+◌, ◌*◌, ◌-◌, ◌<◌, ◌≤◌}
use mathlib.Core.Path.{◌≡◌, refl, sym, ap, subst, ◌∙◌}
use mathlib.Core.List.{List}
use mathlib.Core.Bool.{Bool, true, false}
use native.Mathlib.Omega.{arith}
use lib.Dec.{ltb, eqb}
use lib.IntN.{ℤ, pos, ◌+ℤ◌, ◌-ℤ◌, ◌*ℤ◌}
use lib.Signed.{mag, lt_z}
use mir.Syntax.{w32}
use mir.Val.{to_z}
use borrow.Author.Tests.{ltb-true, ltb-false, leb-true, eqb-true, lt-ltb, eq-eqb}
use Rattle.sheet.specs.declared.Record.{Record}
use Rattle.sheet.specs.All.{◌and◌}
use Rattle.sheet.specs.Table.{look_up}
use Rattle.sheet.specs.Names.{operator, bool_type, int_type, enumerated}
use Rattle.sheet.proofs.All.{true_false, and_first, and_second, and-true}
use Rattle.machine.specs.declared.Value.{Value}
use Rattle.machine.specs.declared.Out.{Out}
use Rattle.machine.specs.declared.Out.TheVariants.{Val, Refused, Stuck}
use Rattle.sheet_rules.specs.declared.Typed.{Typed}
use Rattle.sheet_rules.specs.declared.Typed.TheVariants.{Expression, Statement, Wrong}
use Rattle.sheet_rules.specs.Fields.{components_of, members_of}
use Rattle.sheet_rules.specs.Forms.{Literal, bool, int, member, component, port, self, literal_of, Binary, both, equal, less, plus, minus, times, div, modulo, binary_of}
use Rattle.sheet_rules.specs.DataTypes.{enumerated_type, data_type_of}
use Rattle.sheet_rules.proofs.DataTypes.{type_enumerated}
use Rattle.sheet_rules.specs.Shape.{literal_fields, literal_shape}
use Rattle.sheet_rules.specs.Types.{given, is_of, same_type, written_type, literal_type, of_ints, combined_type, binary_type, not_type}
use Rattle.machine.specs.Values.{fits32, is_below, is_zero, same_word, in_data_type, in_type}
use Rattle.machine_division.specs.Division.{quotient, remainder}
use Rattle.machine.specs.Eval.{and_then, needs, val, bool_word, int_out, dividing, is_one, not_val, on_ints, combined, binary_val, written, literal_value, within}
use Rattle.machine_sound.specs.Gives.{Gives}

-- ---- tests that the type asks

type_number : Typed → ℕ
type_number (Expression t) = suc t
type_number Statement = 0
type_number Wrong = 0

pub no_statement : {t : ℕ} {X : Type 0} → Statement ≡ Expression t → X
unfolding type_number
no_statement e = absurd (let z = ap type_number e in omega arith)

pub not_wrong : {t : ℕ} {X : Type 0} → Wrong ≡ Expression t → X
unfolding type_number
not_wrong e = absurd (let z = ap type_number e in omega arith)

pub one_type : {t u : ℕ} → Expression t ≡ Expression u → t ≡ u
unfolding type_number
one_type e = let z = ap type_number e in omega arith

pub asked : {t : ℕ} (b : Bool) (y : Typed) → given b y ≡ Expression t → (b ≡ true) × (y ≡ Expression t)
unfolding given
asked true y e = (refl, e)
asked false y e = not_wrong e

-- a test that holds of what an operand is
pub is_type_lem : (y : Typed) (u : ℕ) → is_of y u ≡ true → y ≡ Expression u
unfolding is_of
is_type_lem (Expression t) u e = ap Expression (eqb-true t u e)
is_type_lem Statement u e = absurd (true_false e refl)
is_type_lem Wrong u e = absurd (true_false e refl)

pub same_types_lem : (y z : Typed) → same_type y z ≡ true → (u : ℕ) × (y ≡ Expression u) × (z ≡ Expression u)
unfolding same_type
same_types_lem (Expression t) z e = (t, refl, is_type_lem z t e)
same_types_lem Statement z e = absurd (true_false e refl)
same_types_lem Wrong z e = absurd (true_false e refl)

-- ---- what a part gives, and what follows

module _ (s : List ℕ) where
  pub then : (t u : ℕ) (o : Out) (K : Value → ℕ → Out) → Gives s u o → ((v : Value) (l : ℕ) → v.kind ≡ u → in_type s u v.word ≡ true → Gives s t (K v l)) → Gives s t (and_then o K)
  unfolding and_then
  then t u (Val v l) K h p = p v l h.0 h.1
  then t u (Refused k l) K h p = h
  then t u Stuck K h p = absurd h

  pub met : (t : ℕ) (b : Bool) (o : Out) → b ≡ true → Gives s t o → Gives s t (needs b o)
  unfolding needs
  met t true o e h = h
  met t false o e h = absurd (true_false e refl)

  pub value-within : (t : ℕ) (v : Value) (l : ℕ) → v.kind ≡ t → in_type s t v.word ≡ true → Gives s t (within s v l)
  unfolding within
  value-within t v l e h = met t _ (Val v l) (ap (λ k. in_type s k v.word) e ∙ h) (e, h)

  -- ---- Bool and Int

  bool_in : (b : Bool) → in_type s bool_type (bool_word b) ≡ true
  unfolding in_type in_data_type data_type_of look_up is_below
  bool_in true = refl
  bool_in false = refl

  pub gives-bool : (b : Bool) (l : ℕ) → Gives s bool_type (Val (val bool_type (bool_word b)) l)
  gives-bool b l = (refl, bool_in b)

  pub int_in : (z : ℤ) → fits32 z ≡ true → in_type s int_type z ≡ true
  unfolding in_type in_data_type data_type_of look_up
  int_in z h = h

  pub gives-int : (z : ℤ) (l : ℕ) → Gives s int_type (int_out z l)
  unfolding int_out
  gives-int z l = go (fits32 z) refl
    where
      go : (b : Bool) → fits32 z ≡ b → Gives s int_type (elim b [ true ↦ Val (val int_type z) l | false ↦ Refused 6 l ])
      go true e = (refl, int_in z e)
      go false e = (omega arith, omega arith)

  branch : (t : ℕ) (b : Bool) (o o' : Out) → Gives s t o → Gives s t o' → Gives s t (elim b [ true ↦ o | false ↦ o' ])
  branch t true o o' h k = h
  branch t false o o' h k = k

  gives-dividing : (b z : ℤ) (l : ℕ) → Gives s int_type (dividing b z l)
  unfolding dividing
  gives-dividing b z l = branch int_type (is_zero b) (Refused 6 l) (int_out z l) (omega arith, omega arith) (gives-int z l)

  -- ---- operators

  pub not_gives : (t : ℕ) (y : Typed) → not_type y ≡ Expression t → (y ≡ Expression bool_type) × ((v : Value) (l : ℕ) → v.kind ≡ bool_type → Gives s t (not_val v l))
  unfolding not_type not_val
  not_gives t y e =
      let a = asked _ _ e in
      (is_type_lem y bool_type a.0, λ v l k. subst (λ u. Gives s u (not_val v l)) (one_type a.1) (met bool_type _ _ (eq-eqb _ _ k) (gives-bool (is_zero v.word) l)))

  -- what an operator on two values needs of its operands' types, and what it then gives
  abbrev pub Both : (Value → Value → ℕ → Out) → ℕ → Typed → Typed → Type 0
  Both f t y z = (u : ℕ) × (w : ℕ) × (y ≡ Expression u) × (z ≡ Expression w) × ((a b : Value) (l : ℕ) → a.kind ≡ u → b.kind ≡ w → Gives s t (f a b l))

  -- two of types u and w, of which a test of values asks just that
  two_gives : (t r u w : ℕ) (y z : Typed) (o : Value → Value → ℕ → Out) (test : Value → Value → Bool) → ((a b : Value) → a.kind ≡ u → b.kind ≡ w → test a b ≡ true) → y ≡ Expression u → z ≡ Expression w → Expression r ≡ Expression t → ((a b : Value) (l : ℕ) → Gives s r (o a b l)) → Both (λ a b l. needs (test a b) (o a b l)) t y z
  two_gives t r u w y z o test k p q e g = (u, w, p, q, λ a b l i j. subst (λ v. Gives s v (needs (test a b) (o a b l))) (one_type e) (met r _ _ (k a b i j) (g a b l)))

  ints_gives : (t r : ℕ) (y z : Typed) (o : Value → Value → ℕ → Out) → of_ints y z (Expression r) ≡ Expression t → ((a b : Value) (l : ℕ) → Gives s r (o a b l)) → Both (λ a b l. on_ints a b (o a b l)) t y z
  unfolding of_ints on_ints
  ints_gives t r y z o e g =
      let a = asked _ _ e in
      two_gives t r int_type int_type y z o (λ a b. eqb a.kind int_type and eqb b.kind int_type) (λ a b i j. and-true _ _ (eq-eqb _ _ i) (eq-eqb _ _ j)) (is_type_lem y _ (and_first _ _ a.0)) (is_type_lem z _ (and_second _ _ a.0)) a.1 g

  combined-gives : (o : Binary) (t : ℕ) (y z : Typed) → combined_type o y z ≡ Expression t → Both (combined o) t y z
  unfolding combined_type combined
  combined-gives both t y z e =
      let a = asked _ _ e in
      two_gives t bool_type bool_type bool_type y z (λ a b l. Val (val bool_type (bool_word (is_one a.word and is_one b.word))) l) (λ a b. eqb a.kind bool_type and eqb b.kind bool_type) (λ a b i j. and-true _ _ (eq-eqb _ _ i) (eq-eqb _ _ j)) (is_type_lem y _ (and_first _ _ a.0)) (is_type_lem z _ (and_second _ _ a.0)) a.1 (λ a b l. gives-bool (is_one a.word and is_one b.word) l)
  combined-gives equal t y z e =
      let a = asked _ _ e in
      let m = same_types_lem y z a.0 in
      two_gives t bool_type m.0 m.0 y z (λ a b l. Val (val bool_type (bool_word (same_word a.word b.word))) l) (λ a b. eqb a.kind b.kind) (λ a b i j. eq-eqb _ _ (i ∙ sym j)) m.1 m.2 a.1 (λ a b l. gives-bool (same_word a.word b.word) l)
  combined-gives less t y z e = ints_gives t bool_type y z _ e (λ a b l. gives-bool (lt_z a.word b.word) l)
  combined-gives plus t y z e = ints_gives t int_type y z _ e (λ a b l. gives-int (a.word +ℤ b.word) l)
  combined-gives minus t y z e = ints_gives t int_type y z _ e (λ a b l. gives-int (a.word -ℤ b.word) l)
  combined-gives times t y z e = ints_gives t int_type y z _ e (λ a b l. gives-int (a.word *ℤ b.word) l)
  combined-gives div t y z e = ints_gives t int_type y z _ e (λ a b l. gives-dividing b.word (quotient a.word b.word) l)
  combined-gives modulo t y z e = ints_gives t int_type y z _ e (λ a b l. gives-dividing b.word (remainder a.word b.word) l)

  pub binary-gives : (op t : ℕ) (y z : Typed) → binary_type op y z ≡ Expression t → Both (binary_val op) t y z
  unfolding binary_type binary_val
  binary-gives op t y z e = combined-gives (binary_of op) t y z e

  -- ---- literals

  below_in : (k n : ℕ) → k < n → is_below (pos k) n ≡ true
  unfolding is_below
  below_in k n h = lt-ltb k n h

  -- 32 bits read as a signed number fit 32 bits
  literal-fits : (n : ℕ) → fits32 (to_z w32 n) ≡ true
  unfolding fits32
  literal-fits n = go (ltb n 2147483648) refl
    where
      go : (b : Bool) → ltb n 2147483648 ≡ b → ltb (mag (to_z w32 n)) 2147483648 ≡ true
      go true e = rw e e
      go false e = rw e (let h = ltb-false n 2147483648 e in lt-ltb (4294967296 - suc n) 2147483648 (omega arith))

  enumerated_in : (k : ℕ) (z : ℤ) → is_below z (members_of s k) ≡ true → in_type s (enumerated k) z ≡ true
  unfolding in_type in_data_type
  enumerated_in k z h =
      let n : 8 + k - 8 ≡ k = omega arith in
      ap (λ d. in_data_type s d z) (type_enumerated (8 + k) (omega arith) ∙ ap enumerated_type n) ∙ h

  module _ (e : ℕ) (r : Record) (bound : e < components_of s) where
    -- the value that a literal writes down has the literal's type
    written_fine : (l : Literal) → literal_fields s r l ≡ true → ((written e r l).kind ≡ written_type r l) × (in_type s (written_type r l) (written e r l).word ≡ true)
    unfolding written written_type literal_fields members_of in_type in_data_type data_type_of look_up
    written_fine bool h = (refl, below_in r.f1 2 (let m : r.f1 ≤ 1 = leb-true _ _ (and_first _ _ h) in omega arith))
    written_fine int h = (refl, int_in (to_z w32 (r.f1 + 65536 * r.f2)) (literal-fits (r.f1 + 65536 * r.f2)))
    written_fine member h = (refl, enumerated_in r.f1 (pos r.f2) (below_in _ _ (ltb-true _ _ (and_first _ _ h))))
    written_fine component h = (refl, below_in _ _ (ltb-true _ _ (and_first _ _ h)))
    written_fine port h = (refl, below_in _ _ (ltb-true _ _ (and_first _ _ h)))
    written_fine self h = (refl, below_in e _ bound)

    pub literal_fine : literal_shape s r ≡ true → ((literal_value e r).kind ≡ literal_type r) × (in_type s (literal_type r) (literal_value e r).word ≡ true)
    unfolding literal_shape literal_type literal_value
    literal_fine h = written_fine (literal_of (operator r)) h
