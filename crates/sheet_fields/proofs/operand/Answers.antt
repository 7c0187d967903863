use mathlib.Core.Path.{◌≡◌, refl, sym, ◌∙◌}
use Prim.Native.Nat.{ℕ, ◌+◌, ◌-◌, ◌<◌, ◌≤◌}
use borrow.Author.Tests.{lt-ltb, le-ltb}
use Rattle.sheet.specs.declared.Record.{Record}
use Rattle.sheet_rules.specs.declared.Operands.{Operands}
use Rattle.sheet_rules.specs.Fields.{field_of}
use Rattle.sheet_rules.specs.Forms.{operand_at}
use Rattle.sheet_fields.proofs.operand.Goals as goal

leading : (r : Record) (o : Operands) (j : ℕ) → j < o.count → operand_at r o j ≡ field_of r (o.first + j)
unfolding operand_at
leading r o j h = rw (operand_at, lt-ltb j o.count h) refl

following : (r : Record) (o : Operands) (j : ℕ) → o.count ≤ j → operand_at r o j ≡ field_of r (4 + (j - o.count))
unfolding operand_at
following r o j h = rw (operand_at, le-ltb j o.count h) refl

pub returns-then-j-o : goal.returns-then-j-o
returns-then-j-o c = (c.field.ensures.0 ∙ sym (leading _ _ _ c.if-j-o.true), c.field.ensures.1)

pub returns-else-j-o : goal.returns-else-j-o
returns-else-j-o c = (c.field-else-j-o.ensures.0 ∙ sym (following _ _ _ c.if-j-o.false), c.field-else-j-o.ensures.1)
