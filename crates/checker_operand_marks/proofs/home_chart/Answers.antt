use mathlib.Core.Path.{◌≡◌, sym, ◌∙◌}
use Prim.Native.Nat.{ℕ, ◌-◌}
use mathlib.Core.List.{List}
use Rattle.std.specs.Prelude.{Option, Some, None}
use Rattle.std.specs.Option.{UnwrapsOrElse}
use Rattle.sheet.specs.declared.Record.{Record}
use Rattle.sheet.specs.Sheet.{record_of}
use Rattle.sheet_rules.specs.Uses.{no_chart, home_chart}
use Rattle.checker_pass.proofs.Added.{home-none, home_absent, home-there}
use Rattle.checker_operand_marks.proofs.home_chart.Goals as goal

abbrev Zero : Record → Type 0
Zero r = (r.f0 ≡ 0) × ((r.f1 ≡ 0) × ((r.f2 ≡ 0) × ((r.f3 ≡ 0) × ((r.f4 ≡ 0) × ((r.f5 ≡ 0) × ((r.f6 ≡ 0) × (r.f7 ≡ 0)))))))

zero : (r : Record) → Zero r → r ≡ no_chart
zero r z = λ i. record { f0 = z.0 i; f1 = z.1.0 i; f2 = z.1.1.0 i; f3 = z.1.1.1.0 i; f4 = z.1.1.1.1.0 i; f5 = z.1.1.1.1.1.0 i; f6 = z.1.1.1.1.1.1.0 i; f7 = z.1.1.1.1.1.1.1 i }

taken : (s : List ℕ) (k : ℕ) (r : Record) (o : Option Record) (P : Record → Type 0) → (P r → Zero r) → (k ≡ 0 → ⊥) → o ≡ record_of s 4 (k - 1) → UnwrapsOrElse o P r → r ≡ home_chart s k
taken s k r (Some c) P z n e u = u ∙ home-there s k c n (sym e)
taken s k r None P z n e u = zero r (z u) ∙ home_absent s k (sym e)

pub returns : goal.returns
returns c = taken _ _ c.unwrap_or_default.result _ _ (λ p. p) c.if-k-eq0.false c.record.ensures c.unwrap_or_default.ensures

pub returns-then-k-eq0 : goal.returns-then-k-eq0
returns-then-k-eq0 c = zero c.default.result c.default.ensures ∙ home-none _ _ c.if-k-eq0.true
