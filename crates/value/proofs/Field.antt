-- How a reader from the left finds out what a field of digits answers.
use Rattle.std.proofs.Common.{◌≡◌, ℕ, ◌+◌, ◌-◌, ◌*◌, ◌<◌, ◌≤◌, min, Bool, true, false, cond, ◌&&◌, ltb, List, [], ◌∷◌, ◌++◌, length, get_or, take, refl, ap, ◌∙◌, arith, length-append, take_at, le-ltb, lt-ltb}
use mathlib.Core.Bool.{and-false}
use lib.ListN.{get_or-append}
use lib.Seq.{get_or_at}
use Rattle.value.specs.Digits.{value_of, digits_ok, spread}
use Rattle.value.specs.Field.{last_of, digits_by, field_of}
use Rattle.value.proofs.Digits.{ok-append, bad-at, value-append, spread-more}

-- what is known after the first i bytes: their digits are lawful, and the size is what they spell, up to a limit
pub record Read (limit : ℕ) (f : ℕ → List ℕ) (part : List ℕ) (i size : ℕ) : Type 0 where
  pub lawful : digits_ok (spread f (take i part)) ≡ true
  pub spells : size ≡ min (value_of (spread f (take i part))) limit

module _ (limit : ℕ) (f : ℕ → List ℕ) (part : List ℕ) (i size : ℕ) (below : i < length part) (r : Read limit f part i size) where
  -- a byte of one digit
  pub read_one : (d next : ℕ) → f (get_or part i 0) ≡ d ∷ [] → d < 10 → next ≡ min (size * 10 + d) limit → Read limit f part (i + 1) next
  read_one d next fe h en =
      let more : spread f (take (i + 1) part) ≡ spread f (take i part) ++ (d ∷ []) = spread-more f part i below ∙ rw fe in
      record {
        lawful = rw (more, ok-append, r.lawful, lt-ltb d 10 h);
        spells =
            let e = ap value_of more ∙ value-append 0 (spread f (take i part)) (d ∷ []) in
            let v = r.spells in
            omega arith;
      }

  -- a byte of two digits
  pub read-two : (d e mid next : ℕ) → f (get_or part i 0) ≡ d ∷ e ∷ [] → d < 10 → e < 10 → mid ≡ min (size * 10 + d) limit → next ≡ min (mid * 10 + e) limit
      → Read limit f part (i + 1) next
  read-two d e mid next fe h k em en =
      let more : spread f (take (i + 1) part) ≡ spread f (take i part) ++ (d ∷ e ∷ []) = spread-more f part i below ∙ rw fe in
      record {
        lawful = rw (more, ok-append, r.lawful, lt-ltb d 10 h, lt-ltb e 10 k);
        spells =
            let x = ap value_of more ∙ value-append 0 (spread f (take i part)) (d ∷ e ∷ []) in
            let v = r.spells in
            omega arith;
      }

module _ {X : Type 0} (f : ℕ → List ℕ) (g : ℕ → ℕ) (ok : ℕ → Bool) (answer : ℕ → ℕ → X) (bad : X) (part : List ℕ) where
  pub bad-empty : length part ≡ 0 → field_of f g ok answer bad part ≡ bad
  unfolding field_of
  bad-empty h = rw h

  pub bad-body : (i : ℕ) → i < length part - 1 → digits_ok (f (get_or part i 0)) ≡ false → field_of f g ok answer bad part ≡ bad
  unfolding field_of
  bad-body i below h =
      rw (ok-append (spread f (take (length part - 1) part)) (g (last_of part) ∷ []), bad-at f part i (length part - 1) below (omega arith) h, and-false (ltb 0 (length part)))

  pub bad_last : 10 ≤ g (last_of part) → field_of f g ok answer bad part ≡ bad
  unfolding field_of
  bad_last h =
      rw (ok-append (spread f (take (length part - 1) part)) (g (last_of part) ∷ []), le-ltb (g (last_of part)) 10 h, and-false (digits_ok (spread f (take (length part - 1) part))), and-false (ltb 0 (length part)))

  pub bad-sign : ok (last_of part) ≡ false → field_of f g ok answer bad part ≡ bad
  unfolding field_of
  bad-sign h = rw (h, and-false (digits_ok (digits_by f g part)), and-false (ltb 0 (length part)))

  -- a lawful field answers its size
  pub read-lawful : 0 < length part → digits_ok (digits_by f g part) ≡ true → ok (last_of part) ≡ true → field_of f g ok answer bad part ≡ answer (last_of part) (value_of (digits_by f g part))
  unfolding field_of
  read-lawful some d s = rw (lt-ltb 0 (length part) some, d, s)

  -- an answer that does not tell sizes past the limit apart
  pub read_all : (limit : ℕ) → ((b v : ℕ) → answer b (min v limit) ≡ answer b v) → (size total : ℕ) → 0 < length part → Read limit f part (length part - 1) size
      → g (last_of part) < 10 → ok (last_of part) ≡ true → total ≡ min (size * 10 + g (last_of part)) limit
      → answer (last_of part) total ≡ field_of f g ok answer bad part
  read_all limit same size total some r h s et =
      let e = value-append 0 (spread f (take (length part - 1) part)) (g (last_of part) ∷ []) in
      let v = r.spells in
      let c : total ≡ min (value_of (digits_by f g part)) limit = omega arith in
      let d : digits_ok (digits_by f g part) ≡ true = rw (ok-append (spread f (take (length part - 1) part)) (g (last_of part) ∷ []), r.lawful, lt-ltb (g (last_of part)) 10 h) in
      rw (c, read-lawful some d s) (same (last_of part) (value_of (digits_by f g part)))

  -- what holds of every answer to a lawful field, and of the refusal, holds of the field
  pub field-all : (P : X → Type 0) → ((v : ℕ) → P (answer (last_of part) v)) → P bad → P (field_of f g ok answer bad part)
  unfolding field_of
  field-all P a b = go (ltb 0 (length part) && (digits_ok (digits_by f g part) && ok (last_of part)))
    where
      go : (t : Bool) → P (cond t (answer (last_of part) (value_of (digits_by f g part))) bad)
      go true = a (value_of (digits_by f g part))
      go false = b

-- ---- the last byte, and those before it

pub last_snoc : (t : List ℕ) (x : ℕ) → last_of (t ++ (x ∷ [])) ≡ x
last_snoc t x =
    let e : length (t ++ (x ∷ [])) - 1 ≡ length t = let l = length-append t (x ∷ []) in omega arith in
    rw e (get_or_at t x [] 0 (length t) refl)

pub front-snoc : (t : List ℕ) (x : ℕ) → take (length (t ++ (x ∷ [])) - 1) (t ++ (x ∷ [])) ≡ t
front-snoc t x =
    let e : length (t ++ (x ∷ [])) - 1 ≡ length t = let l = length-append t (x ∷ []) in omega arith in
    rw e (take_at t (x ∷ []) (length t) refl)

-- a part that is split before its last byte
pub split-front : (part front : List ℕ) (last i : ℕ) → part ≡ front ++ (last ∷ []) → i < length front → get_or part i 0 ≡ get_or front i 0
split-front part front last i e h = ap (λ (l : List ℕ). get_or l i 0) e ∙ get_or-append front (last ∷ []) 0 i h

pub split-last : (part front : List ℕ) (last : ℕ) → part ≡ front ++ (last ∷ []) → last_of part ≡ last
split-last part front last e = ap last_of e ∙ last_snoc front last
