-- The kinds of event, by an event's first word.
use Rattle.std.specs.Prelude.{List, [], ◌∷◌, ℤ, pos, negsuc}
use Rattle.sheet.specs.Table.{Line, up_to, look_up}

pub data Kind : Type 0 where
  outside deliver corrupt inner slice : Kind
  no_kind : Kind

abbrev pub kind_table : List (Line Kind)
kind_table =
    up_to 0 no_kind
    ∷ up_to 1 outside
    ∷ up_to 2 deliver
    ∷ up_to 3 corrupt
    ∷ up_to 4 inner
    ∷ up_to 5 slice
    ∷ []

-- "its kind isn't 1 to 5": none
unfoldable pub kind_of : ℤ → Kind
kind_of (pos n) = look_up kind_table no_kind n
kind_of (negsuc n) = no_kind
