-- What an expression gives in code: the word of its value. The static rules know its type, so no type is carried.
use Rattle.std.specs.Prelude.{ℕ, ℤ, ◌+ℤ◌, ◌-ℤ◌, ◌*ℤ◌, Result, Ok, Err}
use Rattle.std.specs.Int.Signed.{lt_z}
use Rattle.sheet.specs.All.{◌and◌}
use Rattle.sheet_rules.specs.Forms.{Binary, both, equal, less, plus, minus, times, div, modulo, binary_of}
use Rattle.machine_division.specs.Division.{quotient, remainder}
use Rattle.machine.specs.declared.Out.{Out}
use Rattle.machine.specs.declared.Out.TheVariants as out
use Rattle.machine.specs.Values.{is_zero, same_word}
use Rattle.machine.specs.Eval.{bool_word, int_out, dividing, is_one}
use Rattle.machine.specs.declared.Ran.{Ran}
use Rattle.machine.specs.declared.Ran.TheVariants as ran
use Rattle.engine_ints.specs.declared.Stop.{Stop}
use Rattle.engine_ints.specs.declared.Stop.TheVariants.{Refused, Stuck}

-- a word and the steps left, or why there is none
abbrev pub Work : Type 0
Work = Result (ℤ × ℕ) Stop

unfoldable pub work_of : Out → Work
work_of (out.Val v l) = Ok (v.word, l)
work_of (out.Refused n l) = Err (Refused n l)
work_of out.Stuck = Err Stuck

-- how a statement ran, of which code gives the steps left
abbrev pub ran_of : Result ℕ Stop → Ran
ran_of (Ok l) = ran.Done l
ran_of (Err (Refused n l)) = ran.Refused n l
ran_of (Err Stuck) = ran.Stuck

-- a word goes on; a refusal and stuck are the answer
unfoldable pub then_work : Work → (ℤ → ℕ → Work) → Work
then_work (Ok (z, l)) K = K z l
then_work (Err e) K = Err e

unfoldable pub combined_work : Binary → ℤ → ℤ → ℕ → Work
combined_work both a b l = Ok (bool_word (is_one a and is_one b), l)
combined_work equal a b l = Ok (bool_word (same_word a b), l)
combined_work less a b l = Ok (bool_word (lt_z a b), l)
combined_work plus a b l = work_of (int_out (a +ℤ b) l)
combined_work minus a b l = work_of (int_out (a -ℤ b) l)
combined_work times a b l = work_of (int_out (a *ℤ b) l)
combined_work div a b l = work_of (dividing b (quotient a b) l)
combined_work modulo a b l = work_of (dividing b (remainder a b) l)

unfoldable pub binary_work : ℕ → ℤ → ℤ → ℕ → Work
binary_work op a b l = combined_work (binary_of op) a b l

-- 8 not
unfoldable pub not_work : ℤ → ℕ → Work
not_work z l = Ok (bool_word (is_zero z), l)
