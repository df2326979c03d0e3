-- The loop that writes a byte for each two digits of a text.
use mathlib.Core.Path.{◌≡◌, refl, sym, ap, ◌∙◌}
use mathlib.Core.Bool.{Bool, true, false, ◌&&◌, false≢true}
use mathlib.Core.List.{List, ◌∷◌, ◌++◌, append-nil, append_assoc}
use Prim.Native.Nat.{ℕ, suc, ◌+◌, ◌-◌, ◌*◌, ◌/◌, ◌≤◌, ◌<◌}
use native.Mathlib.Nat.{sub-zero}
use native.Mathlib.Numerals.{add-one}
use native.Mathlib.Omega.{arith}
use lib.ListN.{length, get_or, set, take, drop, replicate, take-append-drop}
use lib.Seq.{take-suc-set}
use Rattle.std.proofs.Common.{Option, Some, None}
use Rattle.lists.specs.Scan.{every_by}
use Rattle.lists.proofs.Lists.{drop-replicate, behind}
use Rattle.numerals.specs.Numerals.{is_blank}
use Rattle.hex_field.specs.Hex.{is_hex, digits_in, pair_of, pair_up, judged_of, bytes_of}
use Rattle.hex_field.proofs.Laws.{skip, keep, none, fine}

-- the digits still to be written: the one that waits for its second, and those to come
abbrev pub waiting : Option ℕ → List ℕ → List ℕ
waiting None rest = rest
waiting (Some a) rest = a ∷ rest

pub record Pairing (order : ℕ) (text part : List ℕ) (w : ℕ) (first : Option ℕ) (j i : ℕ) : Type 0 where
  pub count : 2 * j + length (waiting first (digits_in (drop i text))) ≡ length (digits_in text)
  pub done : pair_up order (digits_in text) ≡ take j part ++ pair_up order (waiting first (digits_in (drop i text)))
  pub zeros : drop j part ≡ replicate (w - j) 0
  pub lawful : every_by is_hex (waiting first (digits_in (drop i text))) ≡ true

pub pairing-start : (order : ℕ) (text part : List ℕ) (w : ℕ) → part ≡ replicate w 0 → judged_of w text ≡ 0 → Pairing order text part w None 0 0
pairing-start order text part w e z = record { count = omega arith; done = refl; zeros = rw sub-zero e; lawful = (fine w text z).0 }

module _ (order : ℕ) (text part : List ℕ) (w j i : ℕ) (h : i < length text) where
  pub pairing-skip : (first : Option ℕ) → is_blank (get_or text i 0) ≡ true → Pairing order text part w first j i → Pairing order text part w first j (i + 1)
  pairing-skip first e r =
      let s = skip text i h e in
      record { count = rw (← s) r.count; done = rw (← s) r.done; zeros = r.zeros; lawful = rw (← s) r.lawful }

  pub pairing-wait : is_blank (get_or text i 0) ≡ false → Pairing order text part w None j i → Pairing order text part w (Some (get_or text i 0)) j (i + 1)
  pairing-wait e r =
      let k = keep text i h e in
      let l : length (digits_in (drop i text)) ≡ suc (length (digits_in (drop (i + 1) text))) = ap length k in
      let c = r.count in
      record { count = omega arith; done = r.done ∙ rw k; zeros = r.zeros; lawful = rw k at r.lawful }

  -- the two digits of a pair are lawful, and have a place
  pub pair-lawful : (a : ℕ) → is_blank (get_or text i 0) ≡ false → Pairing order text part w (Some a) j i → (is_hex a ≡ true) × (is_hex (get_or text i 0) ≡ true)
  unfolding every_by
  pair-lawful a e r = by (is_hex a) (is_hex (get_or text i 0)) (rw (keep text i h e) at r.lawful)
    where
      by : (a b : Bool) → (a && (b && every_by is_hex (digits_in (drop (i + 1) text)))) ≡ true → (a ≡ true) × (b ≡ true)
      by true true q = (refl, refl)
      by true false q = absurd (false≢true q)
      by false b q = absurd (false≢true q)

  pub pair-room : (a : ℕ) → judged_of w text ≡ 0 → is_blank (get_or text i 0) ≡ false → Pairing order text part w (Some a) j i → j < w
  pair-room a z e r =
      let l : length (digits_in (drop i text)) ≡ suc (length (digits_in (drop (i + 1) text))) = ap length (keep text i h e) in
      let c = r.count in
      let f = (fine w text z).1.1 in
      omega arith

  pub pairing-pair : (a b : ℕ) → length part ≡ w → j < w → is_blank (get_or text i 0) ≡ false → b ≡ pair_of order a (get_or text i 0)
      → Pairing order text part w (Some a) j i → Pairing order text (set part j b) w None (j + 1) (i + 1)
  unfolding every_by
  pairing-pair a b s m e q r =
      let k = keep text i h e in
      let l : length (digits_in (drop i text)) ≡ suc (length (digits_in (drop (i + 1) text))) = ap length k in
      let c = r.count in
      record {
        count = omega arith;
        done = r.done ∙ rw (k, add-one j, take-suc-set part j b (omega arith), append_assoc, q);
        zeros = behind part (replicate w 0) j b (r.zeros ∙ sym (drop-replicate j w 0)) ∙ drop-replicate (j + 1) w 0;
        lawful = last-two (is_hex a) (is_hex (get_or text i 0)) (rw k at r.lawful);
      }
    where
      last-two : (x y : Bool) → (x && (y && every_by is_hex (digits_in (drop (i + 1) text)))) ≡ true → every_by is_hex (digits_in (drop (i + 1) text)) ≡ true
      last-two true true t = t
      last-two true false t = absurd (false≢true t)
      last-two false y t = absurd (false≢true t)

pub pairing-end : (order : ℕ) (text part : List ℕ) (w : ℕ) (first : Option ℕ) (j i : ℕ) → length text ≤ i → Pairing order text part w first j i → part ≡ bytes_of order w text
unfolding bytes_of
pairing-end order text part w (Some a) j i h r =
    let n = none text i h in
    let c : 2 * j + 1 ≡ length (digits_in text) = rw n at r.count in
    let e : w - length (digits_in text) / 2 ≡ w - j = omega arith in
    sym (rw (r.done, n, append-nil, e, ← r.zeros) (take-append-drop j part))
pairing-end order text part w None j i h r =
    let n = none text i h in
    let c : 2 * j + 0 ≡ length (digits_in text) = rw n at r.count in
    let e : w - length (digits_in text) / 2 ≡ w - j = omega arith in
    sym (rw (r.done, n, append-nil, e, ← r.zeros) (take-append-drop j part))
