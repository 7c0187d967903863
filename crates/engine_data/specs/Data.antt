-- A node's word and its data, as an engine works them out.
use Rattle.std.specs.Prelude.{ℕ, List, ℤ}
use Rattle.sheet.specs.declared.Record.{Record}
use Rattle.sheet.specs.declared.Range.{Range}
use Rattle.machine.specs.Eval.{eval_of}
use Rattle.engine_ints.specs.Work.{Work, work_of}
use Rattle.engine_ready.specs.Ready.{context_at}
use Rattle.engine_ready.specs.Words.{Data, data_from}

module _ (s w : List ℕ) (st lo : List ℤ) where
  -- the word of node n
  abbrev pub work_at : ℕ → ℕ → Work
  work_at n l = work_of (eval_of s (context_at s w) st lo n l)

  -- the data of a node's record r, for the declarations of a range
  abbrev pub data_at : Record → Range → ℕ → Data
  data_at r g l = data_from (eval_of s (context_at s w) st lo) r g.count 0 l
