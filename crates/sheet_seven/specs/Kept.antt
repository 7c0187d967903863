-- "Stored sheets keep their bytes and meaning": what is compared of shape, uses, static rules and check, definition by definition.
use Rattle.std.specs.Prelude.{ℕ, ◌≡◌, List, Bool, leb, Some}
use Rattle.sheet.specs.declared.Record.{Record}
use Rattle.sheet.specs.All.{all_below}
use Rattle.sheet.specs.Names.{charts, bindings, chart_parameters}
use Rattle.sheet.specs.Sheet.{count_of, record_of}
use Rattle.sheet_rules.specs.Fields.{holds}
use Rattle.sheet_rules.specs.Bindings.{first_binding, elements_bound_in}
use Rattle.sheet_rules.specs.Shape.{chart_shape, binding_shape, elements_bound, cells_bound, cells_of, section_shape}
use Rattle.sheet_rules.specs.Uses.{constant_uses, uses_of, used_once}
use Rattle.sheet_rules.specs.Static.{binding_static, section_static, static}
use Rattle.sheet_rules.specs.Check.{shape_with, shape, check_of}
use Rattle.sheet_seven.specs.Before as before

-- a sheet none of whose charts has more than seven parameters
unfoldable pub up_to_seven : List ℕ → Bool
up_to_seven s = all_below (count_of s charts) (λ k. holds (record_of s charts k) (λ c. leb (chart_parameters c).count 7))

-- each definition that changed gives what its text of before gives, over today's definitions of what did not change
pub record SheetKept (s : List ℕ) : Type 0 where
  -- record i binds element i
  pub first : (i : ℕ) → first_binding s i ≡ i
  pub elements : elements_bound_in s ≡ count_of s bindings
  -- of a chart and of a binding that are there
  pub chart : (k : ℕ) (c : Record) → record_of s charts k ≡ Some c → chart_shape s k c ≡ before.chart_shape s k c
  pub binding : (k : ℕ) (b : Record) → record_of s bindings k ≡ Some b → binding_shape s k ≡ before.binding_shape s b
  pub binding_rule : (k : ℕ) (b : Record) → record_of s bindings k ≡ Some b → binding_static s k ≡ before.binding_static s b
  pub constants : (n k : ℕ) (b : Record) → record_of s bindings k ≡ Some b → constant_uses s n k ≡ before.constant_uses s n b
  -- of the sheet: the sums, sections and lists of rules over these
  pub bound : elements_bound s ≡ before.elements_bound s
  pub cells_of_one : (i : ℕ) → cells_bound s i ≡ before.cells_bound s i
  pub cells : cells_of s ≡ before.cells_of s
  pub section : (k : ℕ) → section_shape s k ≡ before.section_shape s k
  pub rules : (k : ℕ) → section_static s k ≡ before.section_static s k
  pub uses : (n : ℕ) → uses_of s n ≡ before.uses_of s n
  pub once : used_once s ≡ before.used_once s
  pub otherwise : (b : Bool) → shape_with b s ≡ before.shape_with b s
  pub whole : shape s ≡ before.shape s
  pub ruled : static s ≡ before.static s
  pub check : check_of s ≡ before.check_of s
