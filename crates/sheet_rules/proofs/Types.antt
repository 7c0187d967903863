-- The type of a literal that is a component; the recursion equation of `type_of`: enough fuel is enough.
use Prim.Native.Nat.{ℕ, zero, suc, ◌≤◌, ◌<◌}
use mathlib.Core.Path.{◌≡◌, refl, sym, ap, fun_ext}
use mathlib.Core.List.{List}
use mathlib.Core.Bool.{Bool, true, false}
use native.Mathlib.Omega.{arith}
use native.Mathlib.Decide.{ℕ_discrete}
use lib.Dec.{ltb}
use borrow.Author.Tests.{ltb-true, lt-ltb, le-ltb}
use Rattle.sheet.specs.declared.Record.{Record}
use Rattle.sheet.specs.Table.{look_up}
use Rattle.sheet_rules.specs.declared.Typed.{Typed}
use Rattle.sheet_rules.specs.declared.Typed.TheVariants.{Wrong}
use Rattle.sheet_rules.specs.Forms.{literal_of}
use Rattle.sheet_rules.proofs.Forms.{literal-self}
use Rattle.sheet_rules.specs.Types.{written_type, literal_type, lower_type, type_step, type_f, type_of}

-- 4 and 6 are components
pub literal-component : (r : Record) → (r.f0 ≡ 1 → ⊥) → (r.f0 ≡ 2 → ⊥) → (r.f0 ≡ 3 → ⊥) → (r.f0 ≡ 5 → ⊥) → 2 ≡ literal_type r
unfolding literal_type written_type literal_of look_up
literal-component r a b c d = elim (ℕ_discrete r.f0 4) [ yes e ↦ sym (ap (λ n. written_type r (literal_of n)) e) | no e ↦ sym (ap (written_type r) (literal-self r.f0 a b c e d)) ]

-- what types the operands matters at lower nodes only
lower_same : (n : ℕ) (f g : ℕ → Typed) → ((m : ℕ) → m < n → f m ≡ g m) → lower_type n f ≡ lower_type n g
unfolding lower_type
lower_same n f g h = fun_ext (λ m. go m (ltb m n) (ltb-true m n))
  where
    go : (m : ℕ) (t : Bool) → (t ≡ true → m < n) → ◌≡◌ {A = Typed} (elim t [ true ↦ f m | false ↦ Wrong ]) (elim t [ true ↦ g m | false ↦ Wrong ])
    go m true q = h m (q refl)
    go m false q = refl

pub lower_type_lem : (n m : ℕ) (f : ℕ → Typed) → m < n → lower_type n f m ≡ f m
unfolding lower_type
lower_type_lem n m f h = rw (lower_type, lt-ltb m n h) refl

pub not_lower_type : (n m : ℕ) (f : ℕ → Typed) → n ≤ m → lower_type n f m ≡ Wrong
unfolding lower_type
not_lower_type n m f h = rw (lower_type, le-ltb m n h) refl

module _ (s : List ℕ) (c b : Record) where
  enough : (k k' n : ℕ) → n < k → n < k' → type_f s c b k n ≡ type_f s c b k' n
  unfolding type_f
  enough zero k' n h h' = absurd (omega arith)
  enough (suc k) zero n h h' = absurd (omega arith)
  enough (suc k) (suc k') n h h' = ap (λ f. type_step s c b f n) (lower_same n (type_f s c b k) (type_f s c b k') (λ m l. enough k k' m (omega arith) (omega arith)))

  pub type_step_lem : (n : ℕ) → type_of s c b n ≡ type_step s c b (lower_type n (type_of s c b)) n
  unfolding type_f type_of
  type_step_lem n = ap (λ f. type_step s c b f n) (lower_same n (type_f s c b n) (type_of s c b) (λ m l. enough n (suc m) m l (omega arith)))
