-- Lines on their way to a writer: some are written out, the others wait in the buffer.
use Rattle.std.proofs.Common.{◌≡◌, Bool, true, false, leb, ℕ, ◌+◌, ◌-◌, ◌≤◌, ◌<◌, ◌++◌, List, [], length, take, drop, Option, refl, sym, ap, ◌∙◌, arith, append_assoc, append-nil, length-append, length-take-le}
use Rattle.std.proofs.Math.Seq.{take-append_seam}
use Rattle.std.specs.Io.KnownBytes.{Appends}
use Rattle.std.proofs.KnownBytes.{Appends-trans, Appends-nil}
use native.Mathlib.Decide.{ℕ_discrete}
use Rattle.program_text.specs.Decimal.{placed, Put, place_with_room}

-- of `lines`, what doesn't wait before `at` is behind what the writer had
abbrev pub Pending : Option (List ℕ) → Option (List ℕ) → List ℕ → ℕ → List ℕ → Type 0
Pending before now lines at out = (bs : List ℕ) × Appends before now bs × (lines ≡ bs ++ take at out)

-- what stands before the place behind a text
placed_before : (xs : List ℕ) (at : ℕ) (t : List ℕ) → at ≤ length xs → take (at + length t) (placed xs at t) ≡ take at xs ++ t
unfolding placed
placed_before xs at t within =
    let front = take at xs ++ t in
    let rest = drop (at + length t) xs in
    let len : length front ≡ at + length t = length-append (take at xs) t ∙ ap (λ k. k + length t) (length-take-le at xs within) in
    ap (λ k. take k (front ++ rest)) (sym len) ∙ take-append_seam front rest

put_before : (before : List ℕ) (at : ℕ) (t after : List ℕ) (behind : ℕ) → at ≤ length before → Put before at t after behind → take behind after ≡ take at before ++ t
put_before before at t after behind within p = ap (λ k. take k after) p.end ∙ ap (take (at + length t)) p.text ∙ placed_before before at t within

-- one line more
pub line_put : (a b : Option (List ℕ)) (lines : List ℕ) (at : ℕ) (out t after : List ℕ) (behind : ℕ) → at ≤ length out → Pending a b lines at out → Put out at t after behind → Pending a b (lines ++ t) behind after
line_put a b lines at out t after behind within (bs, appended, split) p =
    (bs, appended, ap (λ l. l ++ t) split ∙ append_assoc bs (take at out) t ∙ ap (λ l. bs ++ l) (sym (put_before out at t after behind within p)))

-- what goes out is behind what the writer had
taken_out : (out : List ℕ) (at next : ℕ) → next ≤ at → (0 < next → next ≡ at) → take (at - next) out ++ take next out ≡ take at out
taken_out out at next within whole = elim (ℕ_discrete next 0) [
  | yes q ↦ rw q (append-nil (take (at - 0) out) ∙ ap (λ k. take k out) (omega arith))
  | no q ↦ let e = whole (omega arith) in let none : at - next ≡ 0 = omega arith in ap (λ k. take k out ++ take next out) none ∙ ap (λ k. take k out) e
]

chosen : Bool → ℕ → ℕ
chosen b at = elim b [ true ↦ at | false ↦ 0 ]

chosen_before : (b : Bool) (at : ℕ) → (chosen b at ≤ at) × (0 < chosen b at → chosen b at ≡ at)
unfolding chosen
chosen_before true at = (omega arith, λ h. refl)
chosen_before false at = (omega arith, λ h. absurd (omega arith))

-- a text goes on where it ended or at the buffer's start
goes_on : (size at room : ℕ) → (place_with_room size at room ≤ at) × (0 < place_with_room size at room → place_with_room size at room ≡ at)
unfolding place_with_room chosen
goes_on size at room = chosen_before (leb (at + room) size) at

-- what there is no room for is written out
pub room_left : (a b c : Option (List ℕ)) (lines : List ℕ) (at room next : ℕ) (out : List ℕ) → Pending a b lines at out → next ≡ place_with_room (length out) at room → Appends b c (take (at - next) out) → Pending a c lines next out
room_left a b c lines at room next out (bs, appended, split) q more =
    let on = goes_on (length out) at room in
    let below : next ≤ at = omega (arith, q, on.0) in
    let whole : 0 < next → next ≡ at = λ h. q ∙ on.1 (omega (arith, q, h)) in
    let gone = take (at - next) out in
    (bs ++ gone, Appends-trans a b c bs gone appended more, split ∙ ap (λ l. bs ++ l) (sym (taken_out out at next below whole)) ∙ sym (append_assoc bs gone (take next out)))

-- no line yet
pub none_pending : (a : Option (List ℕ)) (out : List ℕ) → Pending a a [] 0 out
none_pending a out = ([], Appends-nil a, refl)
