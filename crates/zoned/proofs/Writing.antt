-- How a zoned field is written: the digits above the units, then the last byte.
use mathlib.Core.Path.{◌≡◌, sym, ap, ◌∙◌}
use mathlib.Core.List.{List, ◌++◌, map}
use mathlib.Core.Bool.{Bool, cond}
use Prim.Native.Nat.{ℕ, ◌+◌, ◌-◌, ◌/◌, ◌%◌, ◌<◌}
use native.Mathlib.Nat.{div-one}
use lib.ListN.{length, take, drop, set}
use Rattle.lists.proofs.Lists.{map-append}
use Rattle.ebcdic.specs.Ebcdic.{onto_page}
use Rattle.value.specs.Digits.{digit_at, digit_text}
use Rattle.numerals.proofs.Writing.{text-length, set-behind, last-piece, last-left}
use Rattle.zoned.specs.Zoned.{overpunch, encoded_of}

-- the part after its first bytes were lent and written, and the last one was stored
pub written : (page : ℕ) (part new : List ℕ) (size d : ℕ) (negative signed : Bool) (b x : ℕ) → 0 < length part
    → new ≡ map (onto_page page) (digit_text (length (take (length part - 1) part)) (size / 10)) → d ≡ size % 10 → x ≡ cond signed (overpunch d negative) (48 + d) → b ≡ onto_page page x
    → set (new ++ drop (length part - 1) part) (length part - 1) b ≡ map (onto_page page) (encoded_of (length part) negative size signed)
written page part new size d negative signed b x h n e f g =
    let m : new ≡ map (onto_page page) (digit_text (length part - 1) (size / 10)) = last-piece (onto_page page) part new (size / 10) n in
    let l : length part - 1 ≡ length new = sym (ap length m ∙ text-length (onto_page page) (length part - 1) (size / 10)) in
    let u : digit_at 0 size ≡ size % 10 = ap (λ (v : ℕ). v % 10) (div-one size) in
    set-behind new (drop (length part - 1) part) b (length part - 1) l (last-left part h) ∙ rw (map-append, g, f, e, ← u, m)
