-- A sheet that is read behind its length, where the reader's bytes are known.
use Rattle.std.proofs.Common.{◌≡◌, ℕ, ◌<◌, ◌≤◌, ◌++◌, List, [], ◌∷◌, length, take, drop, min, None, Some, IfSome, Option, Ok, Err, IfOk, MatchResult, Result, subst, refl, sym, ap, ◌∙◌, arith, append_assoc, append-nil, length-take-le, take_all, length-append}
use Rattle.std.specs.Io.KnownBytes.{Consumes, IsAtEnd}
use native.Mathlib.Decide.{ℕ_discrete}
use lib.ListN.{get_or-append}
use lib.Seq.{take-append-le}
use Rattle.std.proofs.Math.Seq.{take-append_seam, drop-append_seam}
use Rattle.engine_words.specs.Words.{number_at}
use Rattle.program_input.specs.declared.Unread.{Unread}
use Rattle.program_input.specs.Input.{sheet_size, sheet_in}
use Rattle.program_input.proofs.Answers.{size_cut, size_whole}

-- fewer bytes than a length has: there is no sheet
sheet_short : (xs : List ℕ) → length xs < 4 → sheet_in xs ≡ []
unfolding sheet_in
sheet_short xs h = rw (sym (size_cut xs (length xs) h)) refl

same_number : (front ys : List ℕ) → length front ≡ 4 → number_at (front ++ ys) 0 ≡ number_at front 0
unfolding number_at
same_number front ys e = rw (get_or-append front ys 0 0 (omega arith), get_or-append front ys 0 1 (omega arith), get_or-append front ys 0 2 (omega arith), get_or-append front ys 0 3 (omega arith)) refl

-- the sheet is what stands behind a whole length
sheet_whole : (front ys : List ℕ) → length front ≡ 4 → sheet_in (front ++ ys) ≡ take (sheet_size front 4) ys
unfolding sheet_in
sheet_whole front ys e =
    let all = front ++ ys in
    let long : 4 ≤ length all = omega (arith, length-append front ys) in
    let size : sheet_size all (length all) ≡ sheet_size front 4 = sym (size_whole all (length all) long) ∙ ap (λ k. min k 65536) (same_number front ys e) ∙ size_whole front 4 (omega arith) in
    let rest : drop 4 all ≡ ys = ap (λ k. drop k all) (sym e) ∙ drop-append_seam front ys in
    ap (λ k. take k (drop 4 all)) size ∙ ap (take (sheet_size front 4)) rest

-- what came is all that was asked for, or all that there was
part_came : (n : ℕ) (s zs : List ℕ) → length s ≤ n → (length s < n → zs ≡ []) → take n (s ++ zs) ≡ s
part_came n s zs fits end = elim (ℕ_discrete (length s) n) [
  | yes q ↦ ap (λ k. take k (s ++ zs)) (sym q) ∙ take-append_seam s zs
  | no q ↦ ap (take n) (ap (λ z. s ++ z) (end (omega arith)) ∙ append-nil s) ∙ take_all n s fits
]

-- no part of an empty list has bytes
nothing : (xs ys : List ℕ) → [] ≡ xs ++ ys → (xs ≡ []) × (ys ≡ [])
nothing [] ys e = (refl, sym e)
nothing (x ∷ xs) ys e = absurd (let n = ap length e in omega arith)

module _ (xs ys zs head s : List ℕ) (came : ℕ) (four : length head ≡ 4) (first : xs ≡ take came head ++ ys) (second : ys ≡ s ++ zs) where
  abbrev Read : Type 0
  Read = (s ≡ sheet_in xs) × (xs ≡ (take 4 xs ++ sheet_in xs) ++ zs)

  read_short : came < 4 → ys ≡ [] → Read
  read_short h end =
      let (none, left) = nothing s zs (sym end ∙ second) in
      let front : xs ≡ take came head = first ∙ ap (λ l. take came head ++ l) end ∙ append-nil (take came head) in
      let len : length xs ≡ came = ap length front ∙ length-take-le came head (omega arith) in
      let sheet = sheet_short xs (omega arith) in (
        none ∙ sym sheet,
        sym (ap (λ t. (take 4 xs ++ t) ++ zs) sheet ∙ ap (λ z. (take 4 xs ++ []) ++ z) left ∙ append-nil (take 4 xs ++ []) ∙ append-nil (take 4 xs) ∙ take_all 4 xs (omega arith)),
      )

  read_whole : came ≡ 4 → length s ≤ sheet_size head came → (length s < sheet_size head came → zs ≡ []) → Read
  read_whole q fits end =
      let front : take came head ≡ head = take_all came head (omega arith) in
      let split : xs ≡ head ++ ys = first ∙ ap (λ l. l ++ ys) front in
      let size : sheet_size head 4 ≡ sheet_size head came = ap (sheet_size head) (sym q) in
      let sheet : sheet_in xs ≡ s = ap sheet_in split ∙ sheet_whole head ys four ∙ ap (λ k. take k ys) size ∙ ap (take (sheet_size head came)) second ∙ part_came (sheet_size head came) s zs fits end in
      let begins : take 4 xs ≡ head = ap (λ k. take k xs) (sym four) ∙ ap (take (length head)) split ∙ take-append_seam head ys in (
        sym sheet,
        split ∙ ap (λ l. head ++ l) second ∙ sym (append_assoc head s zs) ∙ sym (ap (λ l. (l ++ sheet_in xs) ++ zs) begins ∙ ap (λ l. (head ++ l) ++ zs) sheet),
      )

sheet_read : (a b c : Option (List ℕ)) (head s : List ℕ) (came : ℕ) → length head ≡ 4 → came ≤ 4
    → Consumes a b (take came head) → (came < 4 → IsAtEnd b) → length s ≤ sheet_size head came → Consumes b c s → (length s < sheet_size head came → IsAtEnd c)
    → IfSome a (λ xs. (s ≡ sheet_in xs) × Consumes (Some xs) c (take 4 xs ++ sheet_in xs))
sheet_read None b c head s came four within first end fits second last = tt
sheet_read (Some xs) None c head s came four within first end fits second last = absurd first
sheet_read (Some xs) (Some ys) None head s came four within first end fits second last = absurd second
sheet_read (Some xs) (Some ys) (Some zs) head s came four within first end fits second last = elim (ℕ_discrete came 4) [
  | yes q ↦ read_whole xs ys zs head s came four first second q fits last
  | no q ↦ let h : came < 4 = omega arith in read_short xs ys zs head s came four first second h (end h)
]

-- the bytes of a sheet that came, in the front of their room, whether or not a read failed then
pub sheet_came : (a b c : Option (List ℕ)) (head asked room rest : List ℕ) (came : ℕ) (r : Result ℕ Unread) → length head ≡ 4 → came ≤ 4
    → Consumes a b (take came head) → (came < 4 → IsAtEnd b) → length asked ≡ sheet_size head came → length room ≡ length asked
    → IfOk r (λ n. n ≤ length asked) → MatchResult r (λ n. Consumes b c (take n room)) (λ e. Consumes b c (take e.count room)) → IfOk r (λ n. n < length asked → IsAtEnd c)
    → IfOk r (λ n. IfSome a (λ xs. (take n (room ++ rest) ≡ sheet_in xs) × Consumes (Some xs) c (take 4 xs ++ sheet_in xs)))
sheet_came a b c head asked room rest came (Err e) four within first end size long fits second last = tt
sheet_came a b c head asked room rest came (Ok n) four within first end size long fits second last =
    let front : n ≤ length room = omega arith in
    let same : take n room ≡ take n (room ++ rest) = sym (take-append-le n room rest front) in
    let all : length (take n (room ++ rest)) ≡ n = ap length (sym same) ∙ length-take-le n room front in
    sheet_read a b c head (take n (room ++ rest)) came four within first end (omega arith) (subst (Consumes b c) same second) (λ h. last (omega arith))

-- the same where the answer to the read of the length is known to be that so many bytes came
pub sheet_came_if : (a b c : Option (List ℕ)) (head asked room rest : List ℕ) (came : ℕ) (h r : Result ℕ Unread) → h ≡ Ok came → length head ≡ 4 → IfOk h (λ n. n ≤ 4)
    → MatchResult h (λ n. Consumes a b (take n head)) (λ e. Consumes a b (take e.count head)) → IfOk h (λ n. n < 4 → IsAtEnd b) → length asked ≡ sheet_size head came → length room ≡ length asked
    → IfOk r (λ n. n ≤ length asked) → MatchResult r (λ n. Consumes b c (take n room)) (λ e. Consumes b c (take e.count room)) → IfOk r (λ n. n < length asked → IsAtEnd c)
    → IfOk r (λ n. IfSome a (λ xs. (take n (room ++ rest) ≡ sheet_in xs) × Consumes (Some xs) c (take 4 xs ++ sheet_in xs)))
sheet_came_if a b c head asked room rest came h r is four within first end size long fits second last =
    subst
    (λ h. IfOk h (λ n. n ≤ 4) → MatchResult h (λ n. Consumes a b (take n head)) (λ e. Consumes a b (take e.count head)) → IfOk h (λ n. n < 4 → IsAtEnd b)
    → IfOk r (λ n. IfSome a (λ xs. (take n (room ++ rest) ≡ sheet_in xs) × Consumes (Some xs) c (take 4 xs ++ sheet_in xs))))
    (sym is) (λ w f e. sheet_came a b c head asked room rest came r four w f e size long fits second last) within first end
