-- The bytes that are written for a value that fits fill the field.
use mathlib.Core.Path.{◌≡◌, sym, ◌∙◌}
use mathlib.Core.List.{List}
use mathlib.Core.Bool.{true, ◌&&◌}
use Prim.Native.Nat.{ℕ, ◌%◌, ◌^◌}
use lib.Dec.{ltb}
use lib.ListN.{length}
use borrow.Author.Tests.{lt-ltb}
use Rattle.lists.proofs.Logic.{and}
use Rattle.value.specs.declared.Scalar.{Scalar}
use Rattle.value.proofs.Room.{room_fits}
use Rattle.text.proofs.Back.{written-length}
use Rattle.display.specs.Display as Display
use Rattle.display.proofs.Back.{fits-decimal}
use Rattle.float.proofs.Back.{exact-lt}
use Rattle.hex_field.proofs.Back as HexBack
use Rattle.packed.proofs.Writing.{fits_below}
use Rattle.edited.proofs.Round as EditedRound
use Rattle.decode_scalar.specs.Decode.{flag}
use Rattle.encode_scalar.specs.Encode.{int_fit, decimal_fit, bytes_of, number_bytes}
use Rattle.fits.specs.Fits.{Fits, text-fits, int-fits, embedded-fits, binary-fits, float_fits, hex-fits, bool-fits, display-fits, packed-fits, zoned-fits, edited-fits}
use Rattle.fits.proofs.Back.{minus_is, digits-minus, digits-fit, same_scale, floated}
use Rattle.encode_scalar.proofs.Parts.{int-length, binary-length, float-length, decimal-length}

pub bytes-long : {p q r s : ℕ} {mask : List ℕ} {w kind : ℕ} {v : Scalar} {t : List ℕ} (page : ℕ) → Fits p q r s mask w kind v t → length (bytes_of kind p q r mask page w v t) ≡ w
unfolding bytes_of number_bytes
bytes-long {p} {q} {r} {s} {mask} {w} page (text-fits start count t f) = written-length page (flag p) (r % 256) w t f.room
bytes-long {p} {q} {r} {s} {mask} {w} page (int-fits negative size t e d l) =
    let f : int_fit p q w negative size ≡ true = rw e (digits-fit (flag p) d) in
    rw (minus_is negative size (digits-minus d)) (int-length p q page w negative size f)
bytes-long {p} {q} {r} {s} {mask} {w} page (embedded-fits negative size t e h k l m) =
    let f : int_fit p q w negative size ≡ true = rw e (and (lt-ltb size (2 ^ 63) l) (room_fits w size h k)) in
    rw (minus_is negative size m) (int-length p q page w negative size f)
bytes-long {p} {q} {r} {s} {mask} {w} page (binary-fits negative size t ok f) = binary-length p w (ltb 0 size && negative) size
bytes-long {p} {q} {r} {s} {mask} {w} page (float_fits x t f e) = rw (floated p q r s mask page w t x (exact-lt f)) (float-length p q w x)
bytes-long {p} {q} {r} {s} {mask} {w} page (hex-fits start count t f) = HexBack.bytes-length p w t (HexBack.hex-fits w t f)
bytes-long page (bool-fits b t e) = sym e
bytes-long {p} {q} {r} {s} {mask} {w} page (display-fits negative size t e d k l) =
    let f : decimal_fit p q s w negative size ≡ true = rw e (fits-decimal w s negative size q k (digits-fit (Display.has_sign q) d)) in
    rw (same_scale negative size r l (digits-minus d)) (decimal-length p q s page w negative size f)
bytes-long {p} {q} {r} {s} {mask} {w} page (packed-fits negative size t e h k l g) =
    let f : decimal_fit p q s w negative size ≡ true = rw e (fits_below w size h k) in
    rw (same_scale negative size r l g.1) (decimal-length p q s page w negative size f)
bytes-long {p} {q} {r} {s} {mask} {w} page (zoned-fits negative size t e h k l g) =
    let f : decimal_fit p q s w negative size ≡ true = rw e (room_fits w size h k) in
    rw (same_scale negative size r l g.1) (decimal-length p q s page w negative size f)
bytes-long {p} {q} {r} {s} {mask} {w} page (edited-fits negative size t e f l m) =
    rw (same_scale negative size r l m) (EditedRound.page-length page negative size mask ∙ e)
