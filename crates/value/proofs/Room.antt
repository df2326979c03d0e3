-- Whether a size has room in so many places.
use Rattle.std.proofs.Common.{◌≡◌, ℕ, ◌^◌, ◌<◌, ◌≤◌, true, ltb, ◌∙◌, lt_of_lt_of_le, arith, lit<, lit≤, ltb-true, le-ltb, lt-ltb}
use mathlib.Core.Bool.{false≢true}
use native.Mathlib.Nat.{pow-le-pow_right}
use native.Mathlib.Decide.{dec_lt}
use Rattle.value.specs.Digits.{room_for}
use Rattle.value.specs.Word.{power_ten}
use Rattle.value.proofs.Word.{power-is}

pub room_fits : (places size : ℕ) → 0 < places → size < 10 ^ places → room_for places size ≡ true
room_fits places size h k = rw (lt-ltb 0 places h, lt-ltb size (10 ^ places) k)

pub room-ample : (places size : ℕ) → 20 ≤ places → size < 2 ^ 64 → room_for places size ≡ true
room-ample places size h f =
    let b : size < 10 ^ places = lt_of_lt_of_le (lt_of_lt_of_le f (lit≤ tt)) (pow-le-pow_right {n = 10} (lit< tt) {i = 20} h) in
    room_fits places size (omega arith) b

pub room-is : (places size p : ℕ) → 0 < places → places < 20 → p ≡ power_ten places → ltb size p ≡ room_for places size
room-is places size p h k e = rw (lt-ltb 0 places h, e ∙ power-is places k)

pub room-some : (places size : ℕ) → room_for places size ≡ true → 0 < places
room-some places size h = go (dec_lt 0 places)
  where
    go : Dec (0 < places) → 0 < places
    go (yes k) = k
    go (no k) = absurd (false≢true (rw (le-ltb 0 places (omega arith)) at h))

pub room-below : (places size : ℕ) → room_for places size ≡ true → size < 10 ^ places
room-below places size h = ltb-true size (10 ^ places) (rw (lt-ltb 0 places (room-some places size h)) at h)
