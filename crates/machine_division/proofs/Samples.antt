-- Samples of div and mod.
use mathlib.Core.Path.{◌≡◌, refl}
use lib.IntN.{pos, negsuc}
use Rattle.machine_division.specs.Division.{quotient, remainder}

-- "−7 div 2 is −4 and −7 mod 2 is 1"
minus_seven_div_two : quotient (negsuc 6) (pos 2) ≡ negsuc 3
unfolding quotient
minus_seven_div_two = refl

minus_seven_mod_two : remainder (negsuc 6) (pos 2) ≡ pos 1
unfolding quotient remainder
minus_seven_mod_two = refl

-- 7 div −2 is −4, 7 mod −2 is −1
seven_div-minus_two : quotient (pos 7) (negsuc 1) ≡ negsuc 3
unfolding quotient
seven_div-minus_two = refl

seven_mod_minus_two : remainder (pos 7) (negsuc 1) ≡ negsuc 0
unfolding quotient remainder
seven_mod_minus_two = refl

-- equal signs, and divisions without a rest, round nothing
seven_div_two : quotient (pos 7) (pos 2) ≡ pos 3
unfolding quotient
seven_div_two = refl

minus_seven_div-minus_two : quotient (negsuc 6) (negsuc 1) ≡ pos 3
unfolding quotient
minus_seven_div-minus_two = refl

minus_seven_mod_minus_two : remainder (negsuc 6) (negsuc 1) ≡ negsuc 0
unfolding quotient remainder
minus_seven_mod_minus_two = refl

minus_six_div_two : quotient (negsuc 5) (pos 2) ≡ negsuc 2
unfolding quotient
minus_six_div_two = refl

six_div-minus_two : quotient (pos 6) (negsuc 1) ≡ negsuc 2
unfolding quotient
six_div-minus_two = refl
