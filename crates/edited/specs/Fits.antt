-- The numbers that fit an Edited field: "lawful mask without 0, enough digit positions (0 needs one); minus only if signed with a + or - first or last, or CR or DB last".
use Rattle.std.specs.Prelude.{◌≡◌, Bool, true, false, List, [], ◌∷◌, ◌++◌, ℕ, ◌^◌, ◌<◌}
use Rattle.edited.specs.Edited.{count_of, positions, is_floating, is_lawful}

-- "a + or - first or last, or CR or DB last"
pub data Tells : List ℕ → Type 0 where
  first-plus : (m : List ℕ) → Tells (43 ∷ m)
  first-minus : (m : List ℕ) → Tells (45 ∷ m)
  last-plus : (m : List ℕ) → Tells (m ++ (43 ∷ []))
  last-minus : (m : List ℕ) → Tells (m ++ (45 ∷ []))
  credit : (m : List ℕ) → Tells (m ++ (67 ∷ 82 ∷ []))
  debit : (m : List ℕ) → Tells (m ++ (68 ∷ 66 ∷ []))

pub record Fits (signed negative : Bool) (size : ℕ) (mask : List ℕ) : Type 0 where
  pub lawful : is_lawful mask ≡ true
  pub fixed : is_floating mask ≡ false
  pub no_zero : count_of 48 mask ≡ 0
  pub some : 0 < positions mask
  pub enough : size < 10 ^ positions mask
  pub has-sign : negative ≡ true → signed ≡ true
  pub tells : negative ≡ true → Tells mask
