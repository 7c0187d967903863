-- What an engine knows while a body runs.
use Rattle.std.specs.Prelude.{ℕ, ◌+◌, ◌-◌, ◌<◌, ◌≤◌, ◌≡◌, List, true, length, ℤ, Option, Some, None}
use Rattle.sheet.specs.declared.Record.{Record}
use Rattle.sheet.specs.declared.Range.{Range}
use Rattle.sheet.specs.Names.{charts, bodies, chart_variables, chart_bodies}
use Rattle.sheet.specs.Sheet.{record_of}
use Rattle.sheet_rules.specs.declared.Typed.TheVariants.{Expression, Statement}
use Rattle.sheet_rules.specs.declared.Checked.TheVariants.{Passed}
use Rattle.sheet_rules.specs.Fields.{field_of, type_at}
use Rattle.sheet_rules.specs.Indices.{cells_before}
use Rattle.sheet_rules.specs.Shape.{tree_shape}
use Rattle.sheet_rules.specs.Types.{type_of}
use Rattle.machine.specs.Values.{first_cell}
use Rattle.machine.specs.State.{cell_at}
use Rattle.machine.specs.Valid.{OfSheet}
use Rattle.machine.specs.Eval.{Context, eval_of}
use Rattle.sheet_rules.specs.Check.{check_of}
use Rattle.machine_passed.specs.Places.{Placed, Locals}
use Rattle.engine_store.specs.Layout.{longest}
use Rattle.engine_context.specs.Context.{element_in, binding_in, chart_in, first_body_in, body_in, cell_in, Spans}
use Rattle.machine_sound.specs.Gives.{Gives}

-- a record, all zero where there is none
unfoldable pub record_or0 : Option Record → Record
record_or0 (Some r) = r
record_or0 None = record { f0 = 0; f1 = 0; f2 = 0; f3 = 0; f4 = 0; f5 = 0; f6 = 0; f7 = 0 }

-- where a body runs, by its numbers
unfoldable pub context_at : List ℕ → List ℕ → Context
context_at s w = record { element = element_in w; binding = binding_in w; chart = record_or0 (record_of s charts (chart_in w)); body = record_or0 (record_of s bodies (body_in w)) }

-- the numbers are those of a body of an element on a passed sheet
pub record Running (s w : List ℕ) : Type 0 where
  pub whole : length w ≡ 38
  pub passed : check_of s ≡ Passed
  pub placed : Placed s (context_at s w)
  pub cells : (n : ℕ) → n ≤ (chart_variables (context_at s w).chart).count → cell_in w n ≡ first_cell s (element_in w) + cells_before s (context_at s w).chart n
  pub first : first_body_in w ≡ (chart_bodies (context_at s w).chart).first

-- a state of the sheet, and the body's variables of their types
pub record Ready (s w : List ℕ) (st lo : List ℤ) : Type 0 where
  pub running : Running s w
  pub state : OfSheet s st
  pub locals : Locals s (context_at s w) lo

-- the cell of plain variable n lies in the state, which is short
pub record Lies (w : List ℕ) (st : List ℤ) (n : ℕ) : Type 0 where
  pub whole : length w ≡ 38
  pub number : n < 32
  pub inside : cell_at (cell_in w n) + 8 ≤ length st
  pub short : length st ≤ longest

-- the cells of variable n lie in the state
pub record Reaches (w : List ℕ) (st : List ℤ) (n : ℕ) : Type 0 where
  pub spans : Spans w n
  pub inside : (k : ℕ) → k < cell_in w (n + 1) - cell_in w n → cell_at (cell_in w n + k) + 8 ≤ length st

-- node n is an expression of the body
pub record IsExpression (s w : List ℕ) (n : ℕ) : Type 0 where
  pub levels : ℕ
  pub kind : ℕ
  pub tree : tree_shape s (context_at s w).chart (context_at s w).body levels n ≡ true
  pub typed : type_of s (context_at s w).chart (context_at s w).body n ≡ Expression kind

-- node n is a statement of the body
pub record IsStatement (s w : List ℕ) (n : ℕ) : Type 0 where
  pub levels : ℕ
  pub tree : tree_shape s (context_at s w).chart (context_at s w).body levels n ≡ true
  pub typed : type_of s (context_at s w).chart (context_at s w).body n ≡ Statement

-- each datum of node record r, for the declarations of a range, is an expression and gives a value of its declared type
pub record HasData (s w : List ℕ) (st lo : List ℤ) (r : Record) (g : Range) : Type 0 where
  pub each : (j : ℕ) → j < g.count → IsExpression s w (field_of r (4 + j))
  pub gives : (j m : ℕ) → j < g.count → Gives s (type_at s (g.first + j)) (eval_of s (context_at s w) st lo (field_of r (4 + j)) m)
