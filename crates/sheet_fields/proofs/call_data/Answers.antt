use native.Mathlib.Omega.{arith}
use mathlib.Core.Path.{◌≡◌, refl, sym, ◌∙◌}
use mathlib.Core.List.{List}
use Prim.Native.Nat.{ℕ, ◌+◌, ◌<◌, ◌≤◌}
use borrow.Author.Tests.{lt-ltb, le-ltb}
use Rattle.sheet.specs.declared.Record.{Record}
use Rattle.sheet_rules.specs.Fields.{field_of, field_at, number_or0}
use Rattle.sheet_rules.specs.Forms.{called_body, call_data}
use Rattle.sheet_fields.proofs.call_data.Goals as goal

none-called : (s : List ℕ) (c r : Record) → c.f5 ≤ r.f1 → call_data s c r ≡ 0
unfolding call_data called_body number_or0
none-called s c r h = rw (call_data, called_body, le-ltb r.f1 c.f5 h) refl

called : (s : List ℕ) (c r : Record) → r.f1 < c.f5 → call_data s c r ≡ field_at s 5 (c.f4 + r.f1) 4
unfolding call_data called_body field_at field_of
called s c r h = rw (call_data, called_body, lt-ltb r.f1 c.f5 h) refl

pub returns-then-c-r : goal.returns-then-c-r
returns-then-c-r c = (sym (none-called _ _ _ c.if-c-r.true), omega arith)

pub returns : goal.returns
returns c = (c.field_at.ensures.0 ∙ sym (called _ _ _ c.if-c-r.false), c.field_at.ensures.1)
