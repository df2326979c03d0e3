-- From the walk to the public function.
use mathlib.Core.Path.{◌≡◌, refl, sym, ap, ap₂, ◌∙◌, subst, subst⁻¹}
use mathlib.Core.Bool.{Bool, true, false, cond, false≢true}
use mathlib.Core.List.{List, [], ◌∷◌, ◌++◌}
use Prim.Native.Nat.{ℕ, zero, suc, ◌+◌, ◌-◌, ◌≤◌, min, max}
use native.Mathlib.Omega.{arith}
use native.Mathlib.Nat.{le_refl}
use lib.Dec.{leb}
use lib.IntN.{ℤ, pos}
use lib.ListN.{length, take, drop, replicate, length-replicate}
use lib.Seq.{take-append-le}
use borrow.Author.Tests.{leb-true}
use Rattle.std.specs.Prelude.{Result, Ok, Err}
use Rattle.std.specs.Result.{IsErrAnd, result_unwrap_or}
use Rattle.codes.specs.declared.Refusal.{Refusal}
use Rattle.codes.specs.Refusals.{number_of, number_in}
use Rattle.layout.specs.Layout.{part, entries, entry_count, checked_of, record_length, layout_asks}
use Rattle.layout.proofs.Laws.{asked-lawful}
use Rattle.items.specs.Items.{item_count, values, well_formed}
use Rattle.walks.specs.Records.{most, filled, supplied, Encoded, refused, finish, writer_asks, encode_record, refusal_of, bytes_of, RecordWritten, asking, list_asks}
use Rattle.walks.proofs.Asked.{asking-none, asking-some, both-passed}
use Rattle.walks.specs.Writing as W
use Rattle.walks.specs.Writing.{Put, reach, lay, apply, Wrote, wrote}
use Rattle.walks.proofs.Puts.{apply-length}
use Rattle.encode_leaf.specs.Laying as L
use Rattle.encode_leaf.specs.Laying.{Laid, laid, start}
use Rattle.encode_leaf.specs.Machine.{codec, room_in}
use Rattle.encode.proofs.Spread.{In, lies-reach, seq_in}
use Rattle.encode.proofs.Joined.{stretch-reach, done, start-does}
use Rattle.encode.proofs.Fairly.{fair-part}

-- ---- puts on a longer buffer of zeros

take-over : (n : ℕ) (b c : List ℕ) → n ≤ length b → take n (b ++ c) ≡ take n b
take-over n b c h = take-append-le n b c h

drop-over : (n : ℕ) (b c : List ℕ) → n ≤ length b → drop n (b ++ c) ≡ drop n b ++ c
drop-over zero b c h = refl
drop-over (suc n) [] c h = absurd (omega (arith, h))
drop-over (suc n) (x ∷ b) c h = drop-over n b c (omega arith)

assoc : (a b c : List ℕ) → a ++ (b ++ c) ≡ (a ++ b) ++ c
assoc [] b c = refl
assoc (x ∷ a) b c = ap (λ l. x ∷ l) (assoc a b c)

lay-over : (b c : List ℕ) (at : ℕ) (bs : List ℕ) → at + length bs ≤ length b → lay (b ++ c) at bs ≡ lay b at bs ++ c
lay-over b c at bs h =
    ap₂ (λ x y. x ++ (bs ++ y)) (take-over at b c (omega arith)) (drop-over (at + length bs) b c h)
    ∙ ap (λ l. take at b ++ l) (assoc bs (drop (at + length bs) b) c) ∙ assoc (take at b) (bs ++ drop (at + length bs) b) c

apply-over : (ps : List Put) (b c : List ℕ) → reach ps ≤ length b → apply ps (b ++ c) ≡ apply ps b ++ c
apply-over [] b c h = refl
apply-over (p ∷ ps) b c h =
    let l : length (lay b p.at p.bs) ≡ length b = apply-length (p ∷ []) b (omega arith) in
    ap (apply ps) (lay-over b c p.at p.bs (omega arith)) ∙ apply-over ps (lay b p.at p.bs) c (omega arith)

zeros-over : (m n : ℕ) → replicate (m + n) 0 ≡ replicate m 0 ++ replicate {A = ℕ} n 0
zeros-over zero n = let z : zero + n ≡ n = omega arith in ap (λ k. replicate k 0) z
zeros-over (suc m) n = let z : suc m + n ≡ suc (m + n) = omega arith in ap (λ k. replicate k 0) z ∙ ap (λ l. 0 ∷ l) (zeros-over m n)

record-filled : (ps : List Put) (m n : ℕ) → reach ps ≤ m → m ≤ n → apply ps (replicate n 0) ≡ filled n (apply ps (replicate m 0))
record-filled ps m n h k =
    let z : n ≡ m + (n - m) = omega arith in
    let l : length {A = ℕ} (replicate m 0) ≡ m = length-replicate m 0 in
    let a : length (apply ps (replicate m 0)) ≡ m = apply-length ps (replicate m 0) (omega arith) ∙ l in
    ap (λ i. apply ps (replicate i 0)) z ∙ ap (apply ps) (zeros-over m (n - m)) ∙ apply-over ps (replicate m 0) (replicate (n - m) 0) (omega arith)
    ∙ ap (λ i. apply ps (replicate m 0) ++ replicate (n - i) 0) (sym a)

-- ---- the answers

abbrev pub Answer : Encoded → ℕ → ℕ → ℕ → List ℕ → Type 0
Answer e n number long b = (number ≡ refusal_of e) × ((long ≡ length (bytes_of e)) × (b ≡ filled n (bytes_of e)))

-- with the work space, all that the call leaves
pub with-counts : {e : Encoded} {number long : ℕ} {r b : List ℕ} {counts cs : List ℤ} → Answer e (length r) number long b → cs ≡ replicate (length counts) (pos 0)
    → RecordWritten e number long r b counts cs
with-counts a c = record { numbered = a.0; record_bytes = a.1.0; record_left = a.1.1; counts_left = c }

-- a refusal that is passed on
pub passed-on : (e : Encoded) (n : ℕ) (b : List ℕ) (r : Result ℕ Refusal) (q : Refusal) → IsErrAnd r (λ x. x ≡ q) → Answer e n (number_of q) 0 b → Answer e n (number_in r) (result_unwrap_or r 0) b
passed-on e n b (Err x) q h a = subst⁻¹ (λ y. Answer e n (number_of y) 0 b) h a
passed-on e n b (Ok x) q h a = absurd h

refused-answer : (e : Encoded) (m n : ℕ) (b : List ℕ) → e ≡ refused m → b ≡ replicate n 0 → Answer e n m 0 b
refused-answer e m n b p q =
    let z : n ≡ n - 0 = omega arith in
    (ap refusal_of (sym p), (ap (λ x. length (bytes_of x)) (sym p), q ∙ ap (λ k. replicate k 0) z ∙ ap (λ x. filled n (bytes_of x)) (sym p)))

abbrev buffer_of : Laid → List ℕ
buffer_of (L.refused n) = []
buffer_of (laid b past t) = b

abbrev past_of : Laid → ℕ
past_of (L.refused n) = 0
past_of (laid b past t) = past

abbrev question_of : Laid → ℕ
question_of (L.refused n) = n
question_of (laid b past t) = 0

abbrev fine : Laid → Bool
fine (L.refused n) = false
fine (laid b past t) = true

-- what the loops refuse, the walk refuses
refused-walk : (z : List ℕ) (least m : ℕ) (o : Wrote) → done z o ≡ L.refused m → finish least o ≡ refused m
refused-walk z least m (W.refused n) h = ap refused (ap question_of h)
refused-walk z least m (wrote ps t) h = absurd (false≢true (sym (ap fine h)))

laid-walk : (n least room past taken : ℕ) (b : List ℕ) (o : Wrote) → In room 0 o → least ≤ room → room ≤ n → done (replicate n 0) o ≡ laid b past taken
    → Answer (finish least o) n 0 (max least (past - 1)) b
laid-walk n least room past taken b (W.refused m) lies h k q = absurd (false≢true (ap fine q))
laid-walk n least room past taken b (wrote ps t) lies h k q =
    let r : reach ps ≤ room = lies-reach room 0 (0 + t) ps lies in
    let p : past - 1 ≡ reach ps = ap (λ x. x - 1) (sym (ap past_of q)) ∙ stretch-reach ps in
    let m = max least (reach ps) in
    let l : length {A = ℕ} (replicate m 0) ≡ m = length-replicate m 0 in
    let a : length (apply ps (replicate m 0)) ≡ m = apply-length ps (replicate m 0) (omega arith) ∙ l in
    (refl, (ap (max least) p ∙ sym a, sym (ap buffer_of q) ∙ record-filled ps m n (omega arith) (omega arith)))

module _ (l masks : List ℕ) (page : ℕ) (items text : List ℕ) (n work number : ℕ) (asked : number ≡ writer_asks l masks page items text n work) where
  abbrev pub E : Encoded
  E = encode_record l masks page items text n work

  abbrev O : Wrote
  O = W.seq (codec masks page text) (min n most) (entries l) (values items 0 (item_count items)) 0 0

  asked_is : E ≡ asking refused (writer_asks l masks page items text n work) (finish (record_length l) O)
  unfolding encode_record
  asked_is = refl

  pub not-asked : (number ≡ 0 → ⊥) → (b : List ℕ) → b ≡ replicate n 0 → Answer E n number 0 b
  not-asked h b q = refused-answer E number n b (asked_is ∙ rw (← asked) (asking-some refused (finish (record_length l) O) number h)) q

  module _ (zero : number ≡ 0) where
    passed : (layout_asks l masks page work ≡ 0) × (list_asks l items text n ≡ 0)
    unfolding writer_asks
    passed = both-passed (layout_asks l masks page work) (list_asks l items text n) (sym asked ∙ zero)

    lawful : checked_of l masks page ≡ 0
    lawful = (asked-lawful l masks page work passed.0).0

    room-enough : record_length l ≤ min n most
    room-enough = go (well_formed items (length text)) (supplied (entries l) (values items 0 (item_count items))) (leb (record_length l) (min n most)) refl passed.1
      where
        go : (a s r : Bool) → leb (record_length l) (min n most) ≡ r → ◌≡◌ {A = ℕ} (cond a (cond s (cond r 0 16) 12) 11) 0 → record_length l ≤ min n most
        go true true true e h = leb-true (record_length l) (min n most) e
        go true true false e h = absurd (omega (arith, h))
        go true false r e h = absurd (omega (arith, h))
        go false s r e h = absurd (omega (arith, h))

    walked : E ≡ finish (record_length l) O
    walked = asked_is ∙ asking-none refused (finish (record_length l) O) (writer_asks l masks page items text n work) (sym asked ∙ zero)

    module _ (b₀ : List ℕ) (q : b₀ ≡ replicate n 0) (hi to : ℕ) (entire : hi ≡ entry_count l) (all : to ≡ item_count items) where
      loops : start (codec masks page text) (room_in b₀) (part l 0 hi) (values items 0 to) 0 b₀ ≡ done (replicate n 0) O
      loops =
          ap₂ (λ h k. start (codec masks page text) (room_in b₀) (part l 0 h) (values items 0 k) 0 b₀) entire all
          ∙ ap (λ b. start (codec masks page text) (room_in b) (entries l) (values items 0 (item_count items)) 0 b) q
          ∙ ap (λ k. start (codec masks page text) (min k most) (entries l) (values items 0 (item_count items)) 0 (replicate n 0)) (length-replicate {A = ℕ} n 0)
          ∙ start-does (codec masks page text) (min n most) (omega arith) (entries l)
          (fair-part masks text page l lawful 0 (entry_count l) (le_refl (entry_count l))) (values items 0 (item_count items)) (replicate n 0)

      pub not-walked : (m : ℕ) → start (codec masks page text) (room_in b₀) (part l 0 hi) (values items 0 to) 0 b₀ ≡ L.refused m
          → (b : List ℕ) → b ≡ replicate n 0 → Answer E n m 0 b
      not-walked m w b r = refused-answer E m n b (walked ∙ refused-walk (replicate n 0) (record_length l) m O (sym loops ∙ w)) r

      pub all-walked : (b : List ℕ) (past taken least less long : ℕ)
          → start (codec masks page text) (room_in b₀) (part l 0 hi) (values items 0 to) 0 b₀ ≡ laid b past taken
          → least ≡ record_length l → less ≡ past - 1 → long ≡ max least less → Answer E n 0 long b
      all-walked b past taken least less long w u v x =
          subst (λ e. Answer e n 0 long b) (sym walked)
          (subst (λ k. Answer (finish (record_length l) O) n 0 k b) (sym (x ∙ ap₂ max u v))
          (laid-walk n (record_length l) (min n most) past taken b O
          (seq_in (codec masks page text) (min n most) (entries l) (fair-part masks text page l lawful 0 (entry_count l) (le_refl (entry_count l)))
          (values items 0 (item_count items)) 0 0)
          room-enough (omega arith) (sym loops ∙ w)))
