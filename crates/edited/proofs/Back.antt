-- The digits of what is edited are the number's.
use mathlib.Core.Path.{◌≡◌, refl, sym, ap, ◌∙◌}
use mathlib.Core.Logic.{◌⊎◌, inl, inr, ⊎_elim}
use mathlib.Core.Bool.{Bool, true, false, ◌&&◌, cond, false≢true, true≢false}
use mathlib.Core.List.{List, [], ◌∷◌, map}
use Prim.Native.Nat.{ℕ, suc, ◌+◌, ◌*◌, ◌^◌, ◌<◌}
use native.Mathlib.Numerals.{add-one}
use native.Mathlib.Omega.{arith}
use lib.Dec.{eqb, ltb}
use borrow.Author.Tests.{le-leb, eqb-true}
use Rattle.lists.specs.Scan.{keep_by}
use Rattle.value.specs.Digits.{value_from, value_of, digit_at, digits_of, is_digit, digit_in}
use Rattle.value.proofs.Digits.{digit-below, value-of-digits}
use Rattle.edited.specs.Edited.{count_by, count_of, is_digit_pos, positions, edit_byte, sup_after, digit_byte, edit_from, pad_of, edited}
use Rattle.edited.proofs.Marks.{All, Mark}
use Rattle.edited.proofs.Marks.All.{end, one}
use Rattle.edited.proofs.Marks.Mark.{nine, zed, star, comma, point, slash, blank, nought, dollar, plus, minus, cee, arr, dee}

-- ---- a mark that is no 0 shows no digit, or takes one and shows it or suppresses a zero

module _ (pad : ℕ) (hp : is_digit pad ≡ false) where
  record Skips (c : ℕ) : Type 0 where
    none : is_digit_pos c ≡ false
    hides : (negative : Bool) (prev d : ℕ) (sup : Bool) → is_digit (edit_byte negative pad prev c d sup) ≡ false
    still : (d : ℕ) (sup : Bool) → sup_after c d sup ≡ true → sup ≡ true

  record Shown (c prev d : ℕ) (negative sup : Bool) : Type 0 where
    is : edit_byte negative pad prev c d sup ≡ d
    ends : sup_after c d sup ≡ true → ⊥

  record Hidden (c prev d : ℕ) (negative sup : Bool) : Type 0 where
    zero_is : d ≡ 48
    still : sup ≡ true
    hides : is_digit (edit_byte negative pad prev c d sup) ≡ false

  record Takes (c : ℕ) : Type 0 where
    some : is_digit_pos c ≡ true
    shows : (negative : Bool) (prev d : ℕ) (sup : Bool) → Shown c prev d negative sup ⊎ Hidden c prev d negative sup

  picks : (a b : ℕ) → is_digit a ≡ false → is_digit b ≡ false → (t : Bool) → is_digit (cond t a b) ≡ false
  picks a b p q true = p
  picks a b p q false = q

  by-zed : (negative : Bool) (prev d : ℕ) (sup t : Bool) → eqb d 48 ≡ t → Shown 90 prev d negative sup ⊎ Hidden 90 prev d negative sup
  unfolding edit_byte sup_after
  by-zed negative prev d false t e = inl (record { is = refl; ends = λ q. false≢true q })
  by-zed negative prev d true true e = inr (record { zero_is = eqb-true d 48 e; still = refl; hides = rw e })
  by-zed negative prev d true false e = inl (record { is = rw e; ends = λ q. false≢true (sym e ∙ q) })

  by-star : (negative : Bool) (prev d : ℕ) (sup t : Bool) → eqb d 48 ≡ t → Shown 42 prev d negative sup ⊎ Hidden 42 prev d negative sup
  unfolding edit_byte sup_after
  by-star negative prev d false t e = inl (record { is = refl; ends = λ q. false≢true q })
  by-star negative prev d true true e = inr (record { zero_is = eqb-true d 48 e; still = refl; hides = rw e })
  by-star negative prev d true false e = inl (record { is = rw e; ends = λ q. false≢true (sym e ∙ q) })

  kind : {c : ℕ} → Mark c → eqb c 48 ≡ false → Skips c ⊎ Takes c
  unfolding edit_byte sup_after
  kind nine z = inr (record { some = refl; shows = λ negative prev d sup. inl (record { is = refl; ends = λ q. false≢true q }) })
  kind zed z = inr (record { some = refl; shows = λ negative prev d sup. by-zed negative prev d sup (eqb d 48) refl })
  kind star z = inr (record { some = refl; shows = λ negative prev d sup. by-star negative prev d sup (eqb d 48) refl })
  kind comma z = inl (record { none = refl; hides = λ negative prev d sup. picks pad 44 hp refl sup; still = λ d sup e. e })
  kind point z = inl (record { none = refl; hides = λ negative prev d sup. refl; still = λ d sup e. absurd (false≢true e) })
  kind slash z = inl (record { none = refl; hides = λ negative prev d sup. refl; still = λ d sup e. e })
  kind blank z = inl (record { none = refl; hides = λ negative prev d sup. picks 66 32 refl refl (negative && eqb prev 68); still = λ d sup e. e })
  kind nought z = absurd (true≢false z)
  kind dollar z = inl (record { none = refl; hides = λ negative prev d sup. refl; still = λ d sup e. e })
  kind plus z = inl (record { none = refl; hides = λ negative prev d sup. picks 45 43 refl refl negative; still = λ d sup e. e })
  kind minus z = inl (record { none = refl; hides = λ negative prev d sup. picks 45 32 refl refl negative; still = λ d sup e. e })
  kind cee z = inl (record { none = refl; hides = λ negative prev d sup. picks 67 32 refl refl negative; still = λ d sup e. e })
  kind arr z = inl (record { none = refl; hides = λ negative prev d sup. picks 82 32 refl refl negative; still = λ d sup e. e })
  kind dee z = inl (record { none = refl; hides = λ negative prev d sup. picks 68 32 refl refl negative; still = λ d sup e. e })

  -- ---- one mark of the walk: what is edited spells what the digits of the places spell

  module _ (negative : Bool) (size : ℕ) where
    abbrev spelt : ℕ → ℕ → List ℕ → Bool → ℕ
    spelt v prev mask sup = value_from v (map digit_in (keep_by is_digit (edit_from negative pad size prev mask sup)))

    abbrev Spells : List ℕ → Type 0
    Spells mask = (prev v : ℕ) (sup : Bool) → (sup ≡ true → v ≡ 0) → spelt v prev mask sup ≡ value_from v (digits_of (positions mask) size)

    module _ (c : ℕ) (m : List ℕ) (prev v : ℕ) (sup : Bool) where
      abbrev d : ℕ
      d = digit_byte size (positions m)

      hide-step : is_digit (edit_byte negative pad prev c d sup) ≡ false → spelt v prev (c ∷ m) sup ≡ spelt v c m (sup_after c d sup)
      unfolding edit_from keep_by
      hide-step n = rw n

      show-step : edit_byte negative pad prev c d sup ≡ d → is_digit d ≡ true → spelt v prev (c ∷ m) sup ≡ spelt (v * 10 + digit_in d) c m (sup_after c d sup)
      unfolding edit_from keep_by
      show-step n g = rw (n, g)

    digit-is : (place : ℕ) → is_digit (digit_byte size place) ≡ true
    digit-is place =
        let b = digit-below place size in
        rw (le-leb 48 (digit_byte size place) (omega arith), le-leb (digit_byte size place) 57 (omega arith))

    at-end : Spells []
    unfolding count_by edit_from keep_by
    at-end prev v sup s = refl

    skip-case : (c : ℕ) (m : List ℕ) → Skips c → Spells m → Spells (c ∷ m)
    unfolding count_by
    skip-case c m k ih prev v sup s =
        let dg = digit_byte size (positions m) in
        rw k.none (hide-step c m prev v sup (k.hides negative prev dg sup) ∙ ih c v (sup_after c dg sup) (λ e. s (k.still dg sup e)))

    take-case : (c : ℕ) (m : List ℕ) → Takes c → Spells m → Spells (c ∷ m)
    unfolding count_by
    take-case c m k ih prev v sup s =
        let n = positions m in
        let dg = digit_byte size n in
        let after = sup_after c dg sup in
        let goal : Shown c prev dg negative sup ⊎ Hidden c prev dg negative sup → spelt v prev (c ∷ m) sup ≡ value_from v (digits_of (suc n) size) = ⊎_elim
        (λ w. let e : digit_in dg ≡ digit_at n size = omega arith in
        show-step c m prev v sup w.is (digit-is n) ∙ ih c (v * 10 + digit_in dg) after (λ e. absurd (w.ends e)) ∙ ap (λ (x : ℕ). value_from (v * 10 + x) (digits_of n size)) e)
        (λ w. let z = w.zero_is in
        let y = s w.still in
        let e : v ≡ v * 10 + digit_at n size = omega arith in
        hide-step c m prev v sup w.hides ∙ ih c v after (λ e. y) ∙ ap (λ (x : ℕ). value_from x (digits_of n size)) e) in
        rw (k.some, add-one) (goal (k.shows negative prev dg sup))

    no-nought : (c : ℕ) (m : List ℕ) → count_of 48 (c ∷ m) ≡ 0 → (eqb c 48 ≡ false) × (count_of 48 m ≡ 0)
    unfolding count_by
    no-nought c m e = by (eqb c 48) e
      where
        by : (t : Bool) → cond t (count_of 48 m + 1) (count_of 48 m) ≡ 0 → (t ≡ false) × (count_of 48 m ≡ 0)
        by true q = absurd (omega arith)
        by false q = (refl, q)

    spells : {mask : List ℕ} → All Mark mask → count_of 48 mask ≡ 0 → Spells mask
    spells end z = at-end
    spells (one {x = c} {s = m} k l) z =
        let n = no-nought c m z in
        ⊎_elim (λ w. skip-case c m w (spells l n.1)) (λ w. take-case c m w (spells l n.1)) (kind k n.0)

pad-no-digit : (t : Bool) → is_digit (cond t 42 32) ≡ false
pad-no-digit true = refl
pad-no-digit false = refl

-- the number itself, where the mask has enough positions
pub edited-spells : (negative : Bool) (size : ℕ) {mask : List ℕ} → All Mark mask → count_of 48 mask ≡ 0 → size < 10 ^ positions mask
    → value_of (map digit_in (keep_by is_digit (edited negative size mask))) ≡ size
edited-spells negative size {mask} l z h =
    spells (pad_of mask) (pad-no-digit (ltb 0 (count_of 42 mask))) negative size l z 0 0 true (λ e. refl) ∙ value-of-digits (positions mask) size h
