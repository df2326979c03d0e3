-- A signed number that a call hands on.
use Rattle.std.proofs.Common.{◌≡◌, ◌^◌, ◌<◌, ℤ, w64, to_z, of_z}
use lib.Signed.{mag}
use mir.ValLaws.{to_z-of_z}

pub back : (z : ℤ) → mag z < 2 ^ 63 → to_z w64 (of_z w64 z) ≡ z
back z h = to_z-of_z w64 z (record { sfits = h })
