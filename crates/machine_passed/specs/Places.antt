-- Where a body runs on a passed sheet, and what its variables hold.
use Rattle.std.specs.Prelude.{ℕ, ◌+◌, ◌<◌, ◌≤◌, ◌≡◌, List, Bool, true, false, length, ltb, ℤ, Some, None}
use Rattle.sheet.specs.declared.Record.{Record}
use Rattle.sheet.specs.Names.{charts, bodies, bindings, chart_variables, chart_bodies, body_parameters, body_locals, bound_chart, body_variable}
use Rattle.sheet.specs.Sheet.{record_of}
use Rattle.sheet_rules.specs.Fields.{type_at}
use Rattle.sheet_rules.specs.Indices.{cells_taken}
use Rattle.sheet_rules.specs.Types.{variable_at}
use Rattle.sheet_rules.specs.Static.{body_of}
use Rattle.machine.specs.Values.{in_type, is_bound, binding_at}
use Rattle.machine.specs.State.{cell_of, word_of}
use Rattle.machine.specs.Valid.{cell_fits}
use Rattle.machine.specs.Eval.{Context}
use Rattle.machine.specs.Play.{body_where}

-- body b stands in chart c
pub record InChart (s : List ℕ) (c b : Record) : Type 0 where
  pub number : ℕ
  pub below : number < (chart_bodies c).count
  pub there : body_of s c number ≡ Some b

-- element e with its first binding record and its chart
pub record Element (s : List ℕ) (e : ℕ) (b c : Record) : Type 0 where
  pub bound : is_bound s e ≡ true
  pub binding : record_of s bindings (binding_at s e) ≡ Some b
  pub chart : record_of s charts (bound_chart b) ≡ Some c

-- a body of an element's chart
pub record Placed (s : List ℕ) (x : Context) : Type 0 where
  pub bound : Record
  pub element : Element s x.element bound x.chart
  pub binding : x.binding ≡ binding_at s x.element
  pub body : InChart s x.chart x.body

-- the body's variables, parameters first, each of its declared type; they have 16 words
pub record Locals (s : List ℕ) (x : Context) (lo : List ℤ) : Type 0 where
  pub sixteen : length lo ≡ 16
  pub holds : (i : ℕ) → i < (body_parameters x.body).count + (body_locals x.body).count → in_type s (type_at s (variable_at x.chart x.body body_variable i)) (word_of lo i) ≡ true

-- the cells of a body's element
abbrev pub Cells : List ℕ → Context → List ℤ → Type 0
Cells s x st = (j k : ℕ) → j < (chart_variables x.chart).count → k < cells_taken s ((chart_variables x.chart).first + j) → cell_fits s x.element (type_at s ((chart_variables x.chart).first + j)) st (cell_of s x.element x.chart j k) ≡ true

-- number j of chart c is the first body that meets a test; the count of its bodies if none does
pub record StandsAt (s : List ℕ) (c : Record) (p : Record → Bool) (j : ℕ) : Type 0 where
  pub within : j ≤ (chart_bodies c).count
  pub there : body_where s c p ≡ elim (ltb j (chart_bodies c).count) [ true ↦ record_of s bodies ((chart_bodies c).first + j) | false ↦ None ]
