-- Where things lie in a state, by how many cells or words it has, so that code needs no sheet to find them.
use Rattle.std.specs.Prelude.{ℕ, ◌+◌, ◌*◌, ◌-◌}
use Rattle.sheet_rules.specs.Shape.{most_cells}
use Rattle.machine.specs.State.{places}

-- the words behind a state's cells
abbrev pub behind_cells : ℕ
behind_cells = 8 * places

-- how many words a state with that many cells has
abbrev pub words_with : ℕ → ℕ
words_with cells = 8 + 8 * cells + behind_cells

-- states of sheets have at least and at most so many words
abbrev pub shortest : ℕ
shortest = words_with 0

abbrev pub longest : ℕ
longest = words_with most_cells

-- where the place numbered j begins in a state of n words
abbrev pub place_in : ℕ → ℕ → ℕ
place_in n j = n - behind_cells + 8 * j
