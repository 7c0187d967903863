-- A statement's node as an engine meets it.
use Rattle.std.specs.Prelude.{ℕ, ◌≡◌, List, ℤ, Some}
use Rattle.sheet.specs.declared.Record.{Record}
use Rattle.sheet.specs.Names.{nodes, operator}
use Rattle.sheet.specs.Sheet.{record_of}
use Rattle.sheet_rules.specs.Forms.{Form, form_of}
use Rattle.engine_ready.specs.Ready.{Ready, IsStatement}

-- node n, a statement of the body, has record r and form F
pub record Visit (s w : List ℕ) (st lo : List ℤ) (n : ℕ) (r : Record) (F : Form) : Type 0 where
  pub ready : Ready s w st lo
  pub statement : IsStatement s w n
  pub there : record_of s nodes n ≡ Some r
  pub form : form_of (operator r) ≡ F
