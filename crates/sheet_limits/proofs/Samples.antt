-- A limit written into a sheet's bytes.
use mathlib.Core.Path.{◌≡◌, refl}
use mathlib.Core.List.{[]}
use Rattle.sheet_rules.proofs.Samples.{sheet_of, check, assigning}
use Rattle.sheet_limits.specs.ButLimit.{put_number, with_limit}

-- a sheet with limit 0, and the one that it becomes
rewritten : with_limit 10000 (sheet_of (assigning 1 0)) ≡ sheet_of (assigning 1 10000)
unfolding check assigning put_number with_limit
rewritten = refl

-- there is no head to write it into
no_head_lem : with_limit 10000 [] ≡ []
unfolding check with_limit
no_head_lem = refl
