-- Worked examples, each computed.
use Rattle.std.specs.Prelude.{◌≡◌, ◌-◌, ◌^◌, true, false, refl}
use Rattle.value.specs.Number.{some, amount_of}
use Rattle.value.specs.Rounding.{rounded, rescaled}

-- 12.5 is 12, 0.5 is 0, 1.5 is 2; what is above or below a half by 1 / 1000 is not at it
half_down : rounded 125 10 ≡ 12
unfolding rounded
half_down = refl

half-none : rounded 1 2 ≡ 0
unfolding rounded
half-none = refl

half_up : rounded 3 2 ≡ 2
unfolding rounded
half_up = refl

above_half : rounded 2501 1000 ≡ 3
unfolding rounded
above_half = refl

below_half : rounded 3499 1000 ≡ 3
unfolding rounded
below_half = refl

-- -0.5 is 0 and has no minus; the greatest size of scale 18 is 1, and of scale 17 is 10
scale-none : amount_of true (rescaled 1 0 5) ≡ some false 0
unfolding rescaled rounded
scale-none = refl

scale-all : rescaled 18 0 (10 ^ 18 - 1) ≡ 1
unfolding rescaled rounded
scale-all = refl

scale-most : rescaled 17 0 (10 ^ 18 - 1) ≡ 10
unfolding rescaled rounded
scale-most = refl
