-- One turn of each loop over hex digits, and its ends.
use mathlib.Core.Path.{◌≡◌, refl, sym, ap, ◌∙◌}
use mathlib.Core.Bool.{Bool, true, false, cond}
use mathlib.Core.List.{List, [], ◌∷◌, ◌++◌}
use Prim.Native.Nat.{ℕ, suc, ◌+◌, ◌*◌, ◌/◌, ◌%◌, ◌≤◌, ◌<◌}
use native.Mathlib.Numerals.{add-one}
use native.Mathlib.Omega.{arith}
use lib.Dec.{eqb, leb}
use lib.ListN.{length, get_or, take, drop, drop_of_length-le, take-append-drop, length-append}
use lib.Seq.{drop-cons, take_all}
use borrow.Rule.Slice.PartMut.{put_mid}
use Rattle.std.proofs.lemmas.Slice.{take-put_mid, drop-put_mid}
use borrow.Author.Tests.{eq-eqb, ne_eqb, le-leb, lt-leb, eqb-true, leb-true}
use Rattle.lists.specs.Scan.{keep_by, every_by}
use Rattle.lists.proofs.Lists.{later}
use Rattle.value.specs.Digits.{spread}
use Rattle.value.proofs.Digits.{spread-more}
use Rattle.numerals.specs.Numerals.{is_blank}
use Rattle.hex_field.specs.Hex.{hex_digit, hex_pair, hex_of, is_hex, digits_in, judged_of}

-- ---- digits from bytes

pair-length : (order b : ℕ) → length (hex_pair order b) ≡ 2
pair-length order b = by (eqb order 0)
  where
    by : (t : Bool) → length (cond t (hex_digit (b / 16) ∷ hex_digit (b % 16) ∷ []) (hex_digit (b % 16) ∷ hex_digit (b / 16) ∷ [])) ≡ 2
    by true = refl
    by false = refl

pub hex-length : (order : ℕ) (s : List ℕ) → length (hex_of order s) ≡ length s * 2
unfolding hex_of
hex-length order [] = refl
hex-length order (b ∷ s) =
    let h = hex-length order s in
    let p = pair-length order b in
    length-append (hex_pair order b) (spread (hex_pair order) s) ∙ omega arith

-- the digits of i bytes stand in front, and what was behind them is left
pub record Spelt (order : ℕ) (part out₀ out : List ℕ) (i : ℕ) : Type 0 where
  pub front : take (2 * i) out ≡ hex_of order (take i part)
  pub back : drop (2 * i) out ≡ drop (2 * i) out₀

pub spelt-none : (order : ℕ) (part out : List ℕ) → Spelt order part out out 0
unfolding hex_of
spelt-none order part out = record { front = refl; back = refl }

module _ (order : ℕ) (part out₀ out : List ℕ) (i : ℕ) where
  pub spelt-more : (k : ℕ) (ys : List ℕ) → i < length part → length part * 2 ≤ length out → k ≡ 2 → ys ≡ hex_pair order (get_or part i 0) → Spelt order part out₀ out i
      → Spelt order part out₀ (put_mid (2 * i) k out ys) (i + 1)
  unfolding hex_of
  spelt-more k ys h r z e s =
      let l : length ys ≡ 2 = ap length e ∙ pair-length order (get_or part i 0) in
      let t : take (2 * (i + 1)) (put_mid (2 * i) k out ys) ≡ take (2 * i) out ++ ys = take-put_mid (2 * i) k out ys (2 * (i + 1)) (omega arith) (omega arith) in
      let d : drop (2 * (i + 1)) (put_mid (2 * i) k out ys) ≡ drop (2 * (i + 1)) out = drop-put_mid (2 * i) k out ys (2 * (i + 1)) (omega arith) (omega arith) (omega arith) in
      record {
        front = t ∙ rw (s.front, e) (sym (spread-more (hex_pair order) part i h));
        back = d ∙ later out out₀ (2 * i) (2 * (i + 1)) (omega arith) s.back;
      }

  pub spelt-all : length part ≤ i → i ≤ length part → Spelt order part out₀ out i → out ≡ hex_of order part ++ drop (length part * 2) out₀
  spelt-all h m s =
      let z : 2 * i ≡ length part * 2 = omega arith in
      let p : take i part ≡ part = take_all i part h in
      sym (take-append-drop (2 * i) out) ∙ rw (s.front, s.back, p, z)

-- ---- bytes from digits

module _ (text : List ℕ) (i : ℕ) (h : i < length text) where
  pub skip : is_blank (get_or text i 0) ≡ true → digits_in (drop i text) ≡ digits_in (drop (i + 1) text)
  unfolding digits_in keep_by
  skip e = rw (add-one, drop-cons text i 0, e)

  pub keep : is_blank (get_or text i 0) ≡ false → digits_in (drop i text) ≡ get_or text i 0 ∷ digits_in (drop (i + 1) text)
  unfolding digits_in keep_by
  keep e = rw (add-one, drop-cons text i 0, e)

pub none : (text : List ℕ) (i : ℕ) → length text ≤ i → digits_in (drop i text) ≡ []
unfolding digits_in keep_by
none text i h = rw (drop_of_length-le text h)

-- how far a text is judged: n digits have been seen, each lawful
pub record Judged (text : List ℕ) (i n : ℕ) : Type 0 where
  pub within : i ≤ length text
  pub few : n ≤ i
  pub seen : n + length (digits_in (drop i text)) ≡ length (digits_in text)
  pub lawful : every_by is_hex (digits_in text) ≡ every_by is_hex (digits_in (drop i text))

pub judged-skip : (text : List ℕ) (i n : ℕ) → i < length text → is_blank (get_or text i 0) ≡ true → Judged text i n → Judged text (i + 1) n
judged-skip text i n h e j =
    let s = skip text i h e in
    record { within = omega arith; few = let f = j.few in omega arith; seen = rw (← s) j.seen; lawful = rw (← s) j.lawful }

pub judged-more : (text : List ℕ) (i n : ℕ) → i < length text → is_blank (get_or text i 0) ≡ false → is_hex (get_or text i 0) ≡ true → Judged text i n → Judged text (i + 1) (n + 1)
unfolding every_by
judged-more text i n h e x j =
    let k = keep text i h e in
    let l : length (digits_in (drop i text)) ≡ suc (length (digits_in (drop (i + 1) text))) = ap length k in
    let w = j.seen in
    record { within = omega arith; few = let f = j.few in omega arith; seen = omega arith; lawful = j.lawful ∙ rw (k, x) }

pub judged-bad : (width : ℕ) (text : List ℕ) (i n : ℕ) → i < length text → is_blank (get_or text i 0) ≡ false → is_hex (get_or text i 0) ≡ false → Judged text i n → 13 ≡ judged_of width text
unfolding judged_of every_by
judged-bad width text i n h e x j =
    let b : every_by is_hex (digits_in text) ≡ false = j.lawful ∙ rw (keep text i h e, x) in
    rw b

even : (n : ℕ) → (n % 2 ≡ 1 → ⊥) → n % 2 ≡ 0
even n o = omega arith

module _ (width : ℕ) (text : List ℕ) (i n : ℕ) (h : length text ≤ i) (j : Judged text i n) where
  all-lawful : every_by is_hex (digits_in text) ≡ true
  unfolding every_by
  all-lawful = j.lawful ∙ rw (none text i h)

  all_seen : length (digits_in text) ≡ n
  all_seen = let e : length (digits_in (drop i text)) ≡ 0 = ap length (none text i h) in let s = j.seen in omega arith

  pub judged-odd : n % 2 ≡ 1 → 13 ≡ judged_of width text
  unfolding judged_of
  judged-odd o = rw (all-lawful, all_seen, ne_eqb (n % 2) 0 (omega arith))

  pub judged-long : (n % 2 ≡ 1 → ⊥) → width < n / 2 → 14 ≡ judged_of width text
  unfolding judged_of
  judged-long o l = rw (all-lawful, all_seen, eq-eqb (n % 2) 0 (even n o), lt-leb n (2 * width) (omega arith))

  pub judged-fine : (n % 2 ≡ 1 → ⊥) → n / 2 ≤ width → 0 ≡ judged_of width text
  unfolding judged_of
  judged-fine o l = let e : n % 2 ≡ 0 = even n o in rw (all-lawful, all_seen, eq-eqb (n % 2) 0 e, le-leb n (2 * width) (omega arith))

-- what a text that is not refused has
pub fine : (width : ℕ) (text : List ℕ) → judged_of width text ≡ 0 → (every_by is_hex (digits_in text) ≡ true) × ((length (digits_in text) % 2 ≡ 0) × (length (digits_in text) ≤ 2 * width))
unfolding judged_of
fine width text e = by (every_by is_hex (digits_in text)) (eqb (length (digits_in text) % 2) 0) (leb (length (digits_in text)) (2 * width)) refl refl refl e
  where
    by : (a b c : Bool) → every_by is_hex (digits_in text) ≡ a → eqb (length (digits_in text) % 2) 0 ≡ b → leb (length (digits_in text)) (2 * width) ≡ c → ◌≡◌ {A = ℕ} (cond a (cond b (cond c 0 14) 13) 13) 0
        → (every_by is_hex (digits_in text) ≡ true) × ((length (digits_in text) % 2 ≡ 0) × (length (digits_in text) ≤ 2 * width))
    by true true true p q r z = (p, (eqb-true (length (digits_in text) % 2) 0 q, leb-true (length (digits_in text)) (2 * width) r))
    by true true false p q r z = absurd (omega arith)
    by true false c p q r z = absurd (omega arith)
    by false b c p q r z = absurd (omega arith)
