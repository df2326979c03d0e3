-- A single entry reserves its width.
use mathlib.Core.Path.{◌≡◌}
use mathlib.Core.Bool.{Bool, true, false, not, ◌&&◌, cond, false≢true}
use Prim.Native.Nat.{◌*◌}
use native.Mathlib.Omega.{arith}
use lib.Dec.{eqb}
use Rattle.layout.specs.declared.Entry.{Entry}
use Rattle.layout.specs.Layout.{absent, reserved_width, unrepeated}

pub single-reserves : (e : Entry) → unrepeated e ≡ true → reserved_width e ≡ e.width
unfolding unrepeated reserved_width
single-reserves e h = go (eqb e.occurs absent) (eqb e.depending absent) h
  where
    go : (o d : Bool) → (not (not o) && not (not d)) ≡ true → cond (not d) 0 (e.width * cond o 1 e.occurs) ≡ e.width
    go true true h = omega arith
    go true false h = absurd (false≢true h)
    go false d h = absurd (false≢true h)
