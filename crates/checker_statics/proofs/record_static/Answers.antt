use mathlib.Core.Path.{◌≡◌, refl, sym, ap, ◌∙◌}
use mathlib.Core.Bool.{true}
use mathlib.Core.List.{List}
use Prim.Native.Nat.{ℕ}
use native.Mathlib.Decide.{dec_lt}
use native.Mathlib.Omega.{arith}
use Rattle.sheet.specs.declared.Record.{Record}
use Rattle.sheet.specs.Table.{look_up}
use Rattle.sheet.proofs.Table.{lines_past, line_at}
use Rattle.sheet_rules.specs.Static.{static_table, record_static}
use Rattle.checker_statics.proofs.record_static.Goals as goal

other : (s : List ℕ) (k : ℕ) (r : Record) → (k ≡ 2 → ⊥) → (k ≡ 3 → ⊥) → (k ≡ 4 → ⊥) → record_static s k r ≡ true
unfolding record_static look_up
other s k r a b d = elim (dec_lt k 2) [ yes l ↦ line_at true (static_table s r) 0 0 k _ _ refl tt (omega arith) l | no l ↦ lines_past true 4 (static_table s r) 5 k tt (omega arith) ]

pub returns-in-2 : goal.returns-in-2
unfolding record_static look_up
returns-in-2 c = (c.declaration_static.ensures _ ∙ sym (ap (λ n. record_static c.args.sheet.now.sheet.now n c.args.r) c.in-2.is), c.requires)

pub returns-in-3 : goal.returns-in-3
unfolding record_static look_up
returns-in-3 c = (c.name_static.ensures ∙ sym (ap (λ n. record_static c.args.sheet.now.sheet.now n c.args.r) c.in-3.is), c.requires)

pub returns-in-4 : goal.returns-in-4
unfolding record_static look_up
returns-in-4 c = (c.chart_static.ensures.0 ∙ sym (ap (λ n. record_static c.args.sheet.now.sheet.now n c.args.r) c.in-4.is), c.chart_static.ensures.1)

pub returns-in_default : goal.returns-in_default
returns-in_default c = (sym (other _ _ _ c.in_default.in_default-own.rest.0.0.1 c.in_default.in_default-own.rest.0.1 c.in_default.in_default-own.rest.1), c.requires)
