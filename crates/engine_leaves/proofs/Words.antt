-- Words of literals.
use Prim.Native.Nat.{ℕ, ◌+◌, ◌*◌}
use mathlib.Core.Path.{◌≡◌, sym, ap}
use lib.IntN.{pos}
use mir.Syntax.{w32}
use mir.Val.{to_z}
use Rattle.sheet.specs.declared.Record.{Record}
use Rattle.sheet.specs.Table.{look_up}
use Rattle.sheet_rules.specs.Forms.{literal_of}
use Rattle.sheet_rules.proofs.Forms.{literal-self}
use Rattle.machine.specs.Eval.{written, literal_value}

module _ (e : ℕ) (r : Record) where
  by_operator : (op : ℕ) → r.f0 ≡ op → (written e r (literal_of op)).word ≡ (literal_value e r).word
  unfolding literal_value
  by_operator op q = sym (ap (λ op. (written e r (literal_of op)).word) q)

  pub literal_1 : r.f0 ≡ 1 → pos r.f1 ≡ (literal_value e r).word
  unfolding literal_value written literal_of look_up
  literal_1 q = by_operator 1 q

  pub literal_2 : r.f0 ≡ 2 → to_z w32 (r.f1 + 65536 * r.f2) ≡ (literal_value e r).word
  unfolding literal_value written literal_of look_up
  literal_2 q = by_operator 2 q

  pub literal_3 : r.f0 ≡ 3 → pos r.f2 ≡ (literal_value e r).word
  unfolding literal_value written literal_of look_up
  literal_3 q = by_operator 3 q

  pub literal_4 : r.f0 ≡ 4 → pos r.f1 ≡ (literal_value e r).word
  unfolding literal_value written literal_of look_up
  literal_4 q = by_operator 4 q

  pub literal_5 : r.f0 ≡ 5 → pos r.f1 ≡ (literal_value e r).word
  unfolding literal_value written literal_of look_up
  literal_5 q = by_operator 5 q

  pub literal-rest : (r.f0 ≡ 1 → ⊥) → (r.f0 ≡ 2 → ⊥) → (r.f0 ≡ 3 → ⊥) → (r.f0 ≡ 4 → ⊥) → (r.f0 ≡ 5 → ⊥) → pos e ≡ (literal_value e r).word
  unfolding literal_value written
  literal-rest n₁ n₂ n₃ n₄ n₅ = sym (ap (λ l. (written e r l).word) (literal-self r.f0 n₁ n₂ n₃ n₄ n₅))
