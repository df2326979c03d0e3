-- What spells a number is ASCII, and so a text.
use Rattle.std.proofs.Common.{◌≡◌, ℕ, ◌<◌, ◌≤◌, Bool, true, false, cond, List, [], ◌∷◌, drop, eqb, refl, arith}
use borrow.Author.Tests.{eqb-true}
use Rattle.std.proofs.lemmas.Bool.Decides.{nat_tests}
use Rattle.std.specs.Char.{digit_value}
use Rattle.std.specs.Str.{IsUtf8, IsAscii}
use Rattle.std.specs.Str.Parse.{AllDigits}
use Rattle.std.proofs.lemmas.Str.{IsUtf8-from_ascii}
use Rattle.std.proofs.lemmas.Str.Ascii.{IsAscii-nil, IsAscii-cons}
use Rattle.testing.specs.Numbers.{Spells, Parses}

digit-small : (c : ℕ) → digit_value c < 36 → c < 128
digit-small c h = grind (arith, nat_tests)

digits-ascii : (radix : ℕ) (bs : List ℕ) → radix ≤ 36 → AllDigits radix bs → IsAscii bs
digits-ascii radix [] h d = IsAscii-nil
digits-ascii radix (c ∷ bs) h d = IsAscii-cons c bs (digit-small c (omega (arith, d.0))) (digits-ascii radix bs h d.1)

pub spells_text : (radix : ℕ) (bs : List ℕ) → radix ≤ 36 → Spells radix bs → IsUtf8 bs
spells_text radix [] h s = IsUtf8-from_ascii [] IsAscii-nil
spells_text radix (c ∷ bs) h s = by (eqb c 43) refl s.0.1
  where
    by : (t : Bool) → eqb c 43 ≡ t → AllDigits radix (drop (cond t 1 0) (c ∷ bs)) → IsUtf8 (c ∷ bs)
    by true e d = IsUtf8-from_ascii (c ∷ bs) (IsAscii-cons c bs (let q : c ≡ 43 = eqb-true c 43 e in omega arith) (digits-ascii radix bs h d))
    by false e d = IsUtf8-from_ascii (c ∷ bs) (digits-ascii radix (c ∷ bs) h d)

pub parses_text : (radix : ℕ) (bs : List ℕ) → Parses radix bs → IsUtf8 bs
parses_text radix bs p = spells_text radix bs p.1 p.2
