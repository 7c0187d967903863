-- "Stored sheets keep their bytes and meaning", definition by definition: each definition that changed with M-105 gives, on a sheet none of whose charts has more than seven parameters, what its text of before gives (`Before`, here and of sheet_seven).
-- A definition that did not change is today's on both sides, and nothing is said of it. What a run gives is said in no one theorem: its definitions are the same text over those compared here, with the number of the element's first binding record where they had the record.
use Rattle.std.specs.Prelude.{ℕ, ◌≡◌, List, true, ℤ, Some}
use Rattle.sheet.specs.declared.Record.{Record}
use Rattle.sheet.specs.Names.{charts, bindings}
use Rattle.sheet.specs.Sheet.{record_of}
use Rattle.sheet_seven.specs.Kept.{up_to_seven, SheetKept}
use Rattle.machine.specs.Values.{binding_at, binding_of, chart_of, first_cell}
use Rattle.machine.specs.Eval.{Context, read_val}
use Rattle.machine_seven.specs.Before as before

pub record StoredKept (s : List ℕ) : Type 0 where
  -- shape, uses, static rules, check
  pub sheet : SheetKept s
  -- an element's binding, chart and first cell
  pub binding : (e : ℕ) → binding_of s e ≡ before.binding_of s e
  pub chart : (e : ℕ) → chart_of s e ≡ before.chart_of s e
  pub first : (e : ℕ) → first_cell s e ≡ before.first_cell s e
  -- the record by whose number a run finds its constants is the one that it held
  pub held : (e : ℕ) (b : Record) → before.binding_of s e ≡ Some b → record_of s bindings (binding_at s e) ≡ Some b
  -- 7 read in a chart of the sheet, of any place and number
  pub reading : (x : Context) (b : Record) (k : ℕ) → record_of s charts k ≡ Some x.chart → record_of s bindings x.binding ≡ Some b → (st lo : List ℤ) (place n l : ℕ) → read_val s x st lo place n l ≡ before.read_val s x b st lo place n l

-- for every sheet none of whose charts has more than seven parameters, passed or not
abbrev pub EveryStored : Type 0
EveryStored = (s : List ℕ) → up_to_seven s ≡ true → StoredKept s
