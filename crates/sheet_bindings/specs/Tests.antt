-- Code that tests an element by its first binding record, or a constant by its parameter and its node.
use Rattle.std.specs.Prelude.{◌≡◌, ℕ, ◌≤◌, ◌<◌, Bool}

-- an element's first record is at most at twice its number, which has 16 bits
abbrev pub most : ℕ
most = 131072

-- it may be asked about any element ..
abbrev pub Asked : (ℕ → Type 0) → Type 0
Asked may = (k : ℕ) → k ≤ most → may k

-- .. and returns nothing but what the test p says of it
abbrev pub Tests : (ℕ → Bool → Type 0) → (ℕ → Bool) → Type 0
Tests returns p = (k : ℕ) (r : Bool) → k ≤ most → returns k r → r ≡ p k

-- the same of a parameter's number and the node that its constant names, which have 16 bits
abbrev pub AskedBoth : (ℕ → ℕ → Type 0) → Type 0
AskedBoth may = (j n : ℕ) → j < 65536 → n < 65536 → may j n

abbrev pub TestsBoth : (ℕ → ℕ → Bool → Type 0) → (ℕ → ℕ → Bool) → Type 0
TestsBoth returns p = (j n : ℕ) (r : Bool) → j < 65536 → n < 65536 → returns j n r → r ≡ p j n
