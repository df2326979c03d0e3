-- `float::scaled` meets its contract: the table's rule is tested at each entry, and the product is exact.
use Rattle.std.proofs.Common.{ℕ, zero, suc, ◌+◌, ◌^◌, List, [], ◌∷◌, get_or, arith, le→leb}
use lib.Ieee.{Float, nan, binary64, of_bits, in_float}
use Rattle.float.proofs.Powers.{at, power, product-exact}
use Rattle.float.proofs.scaled.Goals as goal

-- k powers of two from the pattern p on: each adds one to the exponent's field
abbrev run : ℕ → ℕ → List Float
run zero p = []
run (suc k) p = of_bits binary64 p ∷ run k (p + 2 ^ 52)

abbrev table : List Float
table = of_bits binary64 0x3e70_0000_0000_0000 ∷ run 30 0x3e70_0000_0000_0000

pub int_to_float-result : goal.int_to_float-result
unfolding in_float
int_to_float-result c = le→leb c.args.m (2 ^ 53) (omega arith)

pub returns : goal.returns
unfolding of_bits
returns c =
    let a = c.args in
    let h = c.requires in
    product-exact a.m a.e (get_or table a.e nan) h.0 h.1 (at power table tt a.e h.1)
