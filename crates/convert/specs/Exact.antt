-- What sameness means, on its own terms; proved in proofs/Exact.antt.
use Rattle.std.specs.Prelude.{◌≡◌, Bool, true, not, ◌&&◌, List, ◌↔◌, ℕ, ◌^◌, ◌<◌, eqb, ℤ, pos, ◌*ℤ◌, length}
use Rattle.std.specs.Float.{binary64}
use Rattle.std.specs.Float.Ieee.{nan_bits}
use Rattle.codes.specs.Codes.{tag_float}
use Rattle.items.specs.declared.Item.{Item}
use Rattle.items.specs.Items.{Values, list_ok}
use Rattle.spans.specs.Tree.{none, node}
use Rattle.value.specs.Digits.{signed_of}
use Rattle.walks.specs.Decide.{same}
use Rattle.convert.specs.Same.{Exact, exact_in, same_decimal, same_all, same_value}

-- the whole number that a decimal is without its scale
abbrev pub whole_of : Exact → ℤ
whole_of x = signed_of x.minus x.size

-- "exact decimals": of items whose words are below 2^64, the test says that a / 10^k is b / 10^m as fractions, and nothing else
abbrev pub DecimalsExact : Type 0
DecimalsExact = (x y : Item) → x.a < 2 ^ 64 → y.a < 2 ^ 64
    → (same_decimal (exact_in x) (exact_in y) ≡ true) ↔ (whole_of (exact_in x) *ℤ pos (10 ^ (exact_in y).scale) ≡ whole_of (exact_in y) *ℤ pos (10 ^ (exact_in x).scale))

-- "texts by their bytes"
abbrev pub BytesExact : Type 0
BytesExact = (xs ys : List ℕ) → (same xs ys ≡ true) ↔ (xs ≡ ys)

-- either way round
abbrev pub Symmetric : Type 0
Symmetric = (t u : List ℕ) (vs ws : Values) → same_all t u vs ws ≡ same_all u t ws vs

-- whether an item is a NaN
abbrev pub is_nan : Item → Bool
is_nan x = eqb x.tag tag_float && nan_bits binary64 x.a

-- whether a sequence holds no NaN
unfoldable pub no_nan : Values → Bool
no_nan none = true
no_nan (node x ms r) = not (is_nan x) && no_nan ms && no_nan r

-- a lawful sequence is the same as itself, unless it holds a NaN
abbrev pub Reflexive : Type 0
Reflexive = (t : List ℕ) (in_list : Bool) (levels : ℕ) (vs : Values) → list_ok (length t) in_list levels vs ≡ true → no_nan vs ≡ true → same_all t t vs vs ≡ true

-- "never NaN": what is the same as anything holds none
abbrev pub NeverNan : Type 0
NeverNan = (t u : List ℕ) (vs ws : Values) → same_all t u vs ws ≡ true → no_nan vs ≡ true

-- two values are the same exactly if they are as sequences of one, whatever stands behind them
abbrev pub ValueAlone : Type 0
ValueAlone = (t u : List ℕ) (x y : Item) (ms ns r s : Values) → same_value t u (node x ms r) (node y ns s) ≡ same_all t u (node x ms none) (node y ns none)

-- so the same holds of values: either way round, a lawful one and itself, never NaN
abbrev pub ValueSymmetric : Type 0
ValueSymmetric = (t u : List ℕ) (v w : Values) → same_value t u v w ≡ same_value u t w v

abbrev pub ValueReflexive : Type 0
ValueReflexive = (t : List ℕ) (in_list : Bool) (levels : ℕ) (x : Item) (ms r s : Values)
    → list_ok (length t) in_list levels (node x ms none) ≡ true → no_nan (node x ms none) ≡ true → same_value t t (node x ms r) (node x ms s) ≡ true

abbrev pub ValueNeverNan : Type 0
ValueNeverNan = (t u : List ℕ) (x : Item) (ms r w : Values) → same_value t u (node x ms r) w ≡ true → no_nan (node x ms none) ≡ true
