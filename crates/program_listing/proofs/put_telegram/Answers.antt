use native.Mathlib.Omega.{arith}
use Prim.Native.Nat.{◌<◌}
use mathlib.Core.Path.{◌≡◌, ◌∙◌}
use lib.IntN.{ℤ}
use lib.Signed.{mag}
use mir.Syntax.{w32}
use mir.Val.{to_z, of_z}
use mir.ValLaws.{to_z-of_z}
use Rattle.program_text.proofs.Laws.{put_then}
use Rattle.program_listing.specs.Listing.{telegram_text}
use Rattle.program_listing.proofs.put_telegram.Goals as goal

-- a field of a struct, as code reads it
given : (z : ℤ) → mag z < 2147483648 → to_z w32 (of_z w32 z) ≡ z
given z h = to_z-of_z w32 z (record { sfits = h })

pub put_after-e-requires : goal.put_after-e-requires
put_after-e-requires c = omega arith

pub put_after-f-requires : goal.put_after-f-requires
put_after-f-requires c = omega arith

pub put_after-requires : goal.put_after-requires
put_after-requires c = omega arith

pub shape_of-out : goal.shape_of-out
shape_of-out c = c.put_after.auto.out ∙ c.put_after-f.auto.out ∙ c.put_after-e.auto.out ∙ c.put_after-d.auto.out ∙ c.put_after-c.auto.out ∙ c.put_after-b.auto.out ∙ c.put_signed-a.auto.out

pub returns : goal.returns
unfolding telegram_text
returns c = let t = c.args.t in
    let told = c.struct_told-7-1.given.1 in
    let to_one = put_then c.put_signed-a.ensures.0 (omega arith) c.put_after-b.ensures.0 in
    let to-two = put_then to_one (omega arith) c.put_after-c.ensures.0 in
    let to-three = put_then to-two (omega arith) c.put_after-d.ensures.0 in
    let to-four = put_then to-three (omega arith) c.put_after-e.ensures.0 in
    let to-five = put_then to-four (omega arith) c.put_after-f.ensures.0 in
    let to-six = put_then to-five (omega arith) c.put_after.ensures.0 in
    let addressed = rw (given t.receiver told.0.1, given t.port told.1.0.1, given t.name told.1.1.0.1) at to-six in
    let first = rw (given t.d0 told.1.1.1.0.1, given t.d1 told.1.1.1.1.0.1) at addressed in
    (rw (given t.d2 told.1.1.1.1.1.0.1, given t.d3 told.1.1.1.1.1.1.0.1) at first, omega arith)
