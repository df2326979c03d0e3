-- What the buffers hold after writing and reading back; demand 3 for it.
use mathlib.Core.Path.{◌≡◌, refl, sym, ap, ap₂, ◌∙◌}
use mathlib.Core.Bool.{true, false}
use mathlib.Core.List.{List, []}
use Prim.Native.Nat.{ℕ, ◌+◌, ◌-◌, ◌≤◌, min}
use native.Mathlib.Omega.{arith}
use borrow.Author.Tests.{eq-eqb, ne_eqb}
use lib.IntN.{ℤ, pos}
use lib.ListN.{length, take, replicate, length-take, length-replicate}
use Rattle.layout.specs.Layout.{work_for}
use Rattle.std.specs.Prelude.{Result, Ok, Err}
use Rattle.codes.specs.declared.Refusal.{Refusal}
use Rattle.codes.specs.Refusals.{number_of, number_in}
use Rattle.codes.proofs.Refusals.{some_number}
use Rattle.decode.specs.declared.Reading.{Reading}
use Rattle.decode.specs.Answered.{words_used, bytes_used}
use Rattle.walks.specs.Records as Records
use Rattle.walks.specs.Records.{most, filled, Decoded, decoded, decode_record, items_of, texts_of, Encoded, refused, encoded, encode_record, refusal_of, bytes_of, read_into, RecordRead, RecordWritten}
use Rattle.walks.specs.Plain.{plain}
use Rattle.walks.specs.Decide.{fitting}
use Rattle.walks.specs.Needs.{needed}
use Rattle.walks.specs.Demand.{Kept}
use Rattle.walks.proofs.Demand3.{demand-3}
use Rattle.walks.proofs.Decided.{fitting-sound}
use Rattle.roundtrip.specs.declared.Trip.{Trip}
use Rattle.roundtrip.specs.Same.{length_in, read_in, words_in, bytes_in, writing, accepted, stands, reading, Same, Returns, RoundTrip}
use Rattle.roundtrip.proofs.Behind.{Stood}

no_bytes : (e : Encoded) → (refusal_of e ≡ 0 → ⊥) → bytes_of e ≡ []
no_bytes (refused n) f = refl
no_bytes (encoded bs) f = absurd (f refl)

zeros : (s₀ : List ℕ) {s : List ℕ} → s ≡ replicate (length s₀) 0 → (s ≡ filled (length s₀) []) × (length s ≡ length s₀)
zeros s₀ p =
    let z : length s₀ - 0 ≡ length s₀ = omega arith in
    (p ∙ ap (λ m. replicate m 0) (sym z), ap (λ (l : List ℕ). length l) p ∙ length-replicate (length s₀) 0)

module _ (l masks : List ℕ) (page : ℕ) (items text behind : List ℕ) (room work : ℕ) where
  abbrev pub E : Encoded
  E = encode_record l masks page items text room work

  abbrev W : Encoded
  W = writing l masks page items text behind room work

  abbrev S : List ℕ
  S = stands l masks page items text behind room work

  abbrev R : ℕ → ℕ → Decoded
  R item_room text_room = reading l masks page items text behind room work item_room text_room

  writing-is : W ≡ E
  unfolding writing
  writing-is = refl

  module _ (number : ℕ) (n : number ≡ refusal_of E) where
    yes : number ≡ 0 → accepted l masks page items text behind room work ≡ true
    unfolding accepted writing
    yes z = eq-eqb (refusal_of E) 0 (sym n ∙ z)

    no : (number ≡ 0 → ⊥) → accepted l masks page items text behind room work ≡ false
    unfolding accepted writing
    no f = ne_eqb (refusal_of E) 0 (λ z. f (n ∙ z))

    stands-yes : number ≡ 0 → S ≡ Stood room (bytes_of E) behind
    unfolding stands writing
    stands-yes z = rw (yes z) refl

    stands-no : (number ≡ 0 → ⊥) → S ≡ []
    unfolding stands
    stands-no f = rw (no f) refl

    reading-yes : number ≡ 0 → (item_room text_room : ℕ) → R item_room text_room ≡ decode_record l masks page S item_room text_room work
    unfolding reading
    reading-yes z item_room text_room = rw (yes z) refl

    reading-no : (number ≡ 0 → ⊥) → (item_room text_room : ℕ) → R item_room text_room ≡ decoded [] []
    unfolding reading
    reading-no f item_room text_room = rw (no f) refl

  -- the buffers as they were lent
  module _ (rec back said : List ℕ) (counts : List ℤ) (roomy : length rec ≡ room) (worky : length counts ≡ work) where
    abbrev D : Decoded
    D = R (length back) (length said)

    abbrev Left : Result Trip Refusal → List ℕ → List ℕ → List ℕ → List ℤ → Type 0
    Left r rec' back' said' counts' =
        RoundTrip l masks page items text behind room work (number_in r) (length_in r) (read_in r) (words_in r) (bytes_in r) rec rec' back back' said said' counts counts'

    -- demand 3 follows from what is left
    module _ (r : Result Trip Refusal) (rec' back' said' : List ℕ) (counts' : List ℤ) (a : Left r rec' back' said' counts') (b : length back' ≡ length back) (t : length said' ≡ length said) where
      module _ (p : plain l masks page ≡ true) (f : fitting l masks items text ≡ true) (small : needed l items + length behind ≤ most) (enough : needed l items ≤ room)
          (works : work_for l ≤ work) (is : length items ≤ length back) (ts : length text ≤ length said) where
        k : Kept l masks page items text
        k = demand-3 l masks page items text p (fitting-sound l masks items text f) (omega arith)

        written : E ≡ encoded k.bytes
        written = k.written room work enough works

        stood : S ≡ Stood room k.bytes behind
        stood = stands-yes 0 (sym (ap refusal_of written)) refl ∙ ap (λ e. Stood room (bytes_of e) behind) written

        read_is : D ≡ decoded items text
        read_is =
            let m : length (take (room - length k.bytes) behind) ≡ min (room - length k.bytes) (length behind) = length-take (room - length k.bytes) behind in
            reading-yes 0 (sym (ap refusal_of written)) refl (length back) (length said) ∙ ap (λ s. decode_record l masks page s (length back) (length said) work) stood
            ∙ k.read_back (take (room - length k.bytes) behind) (length back) (length said) work (omega (arith, k.long)) is ts works

        same : Same l items text r back' said'
        same = record {
          accepts = a.writes ∙ ap refusal_of (writing-is ∙ written);
          long = a.record_bytes ∙ ap (λ e. length (bytes_of e)) (writing-is ∙ written) ∙ k.long;
          reads = a.reads.numbered ∙ ap Records.number_of read_is;
          many_items = a.reads.words_read ∙ ap (λ d. length (items_of d)) read_is;
          many_bytes = a.reads.text_bytes ∙ ap (λ d. length (texts_of d)) read_is;
          same_items = a.reads.items_left ∙ ap₂ (λ n d. filled n (items_of d)) (sym b) read_is;
          same_text = a.reads.text_left ∙ ap₂ (λ n d. filled n (texts_of d)) (sym t) read_is;
        }

      returns-same : Returns l masks page items text behind room work r back' said'
      returns-same p f small enough works is ts = same p f small enough works (omega arith) (omega arith)

    abbrev pub All : Result Trip Refusal → List ℕ → List ℕ → List ℕ → List ℤ → Type 0
    All r rec' back' said' counts' = Left r rec' back' said' counts' × Returns l masks page items text behind room work r back' said'

    with-demand : {r : Result Trip Refusal} {rec' back' said' : List ℕ} {counts' : List ℤ} → Left r rec' back' said' counts' → length back' ≡ length back → length said' ≡ length said
        → All r rec' back' said' counts'
    with-demand {r} {rec'} {back'} {said'} {counts'} a b t = (a, returns-same r rec' back' said' counts' a b t)

    pub refused_all : (q : Refusal) (long : ℕ) {rec' back' said' : List ℕ} {counts' : List ℤ} → RecordWritten E (number_of q) long rec rec' counts counts'
        → back' ≡ replicate (length back) 0 → said' ≡ replicate (length said) 0 → All (Err q) rec' back' said' counts'
    refused_all q long w x y =
        let number = number_of q in
        let f = some_number q in
        let n = w.numbered in
        let e : bytes_of E ≡ [] = no_bytes E (λ r. f (n ∙ r)) in
        let d : D ≡ decoded [] [] = reading-no number n f (length back) (length said) in
        let u = zeros back x in
        let v = zeros said y in
        with-demand (record {
          writes = n ∙ ap refusal_of (sym writing-is);
          record_bytes = sym (ap (λ w. length (bytes_of w)) writing-is ∙ ap (λ (w : List ℕ). length w) e);
          record_left = w.record_left ∙ ap (filled (length rec)) (e ∙ sym (stands-no number n f));
          reads = record {
            numbered = sym (ap Records.number_of d);
            words_read = sym (ap (λ w. length (items_of w)) d);
            text_bytes = sym (ap (λ w. length (texts_of w)) d);
            items_left = u.0 ∙ ap (λ w. filled (length back) (items_of w)) (sym d);
            text_left = v.0 ∙ ap (λ w. filled (length said) (texts_of w)) (sym d);
            counts_left = w.counts_left;
          };
        }) u.1 v.1

    pub read_all : (long : ℕ) (read : Result Reading Refusal) {rec₁ rec' back' said' : List ℕ} {counts₁ counts' : List ℤ}
        → RecordWritten E 0 long rec rec₁ counts counts₁ → length counts₁ ≡ length counts
        → rec' ≡ filled room (Stood room (bytes_of E) behind) → (bytes : List ℕ) → bytes ≡ Stood room (bytes_of E) behind
        → RecordRead (read_into l masks page bytes back said counts₁) (number_in read) (words_used read) (bytes_used read) back back' said said' counts₁ counts'
        → length back' ≡ length back → length said' ≡ length said
        → All (Ok (record { length = long; read = read })) rec' back' said' counts'
    read_all long read {rec₁} {rec'} {back'} {said'} {counts₁} w o p bytes s g u v =
        let n = w.numbered in
        let e : decode_record l masks page bytes (length back) (length said) (length counts₁) ≡ D =
        ap₂ (λ k j. decode_record l masks page k (length back) (length said) j) (s ∙ sym (stands-yes 0 n refl)) (o ∙ worky) ∙ sym (reading-yes 0 n refl (length back) (length said)) in
        with-demand (record {
          writes = n ∙ ap refusal_of (sym writing-is);
          record_bytes = w.record_bytes ∙ ap (λ k. length (bytes_of k)) (sym writing-is);
          record_left = p ∙ ap₂ filled (sym roomy) (sym (stands-yes 0 n refl));
          reads = record {
            numbered = g.numbered ∙ ap Records.number_of e;
            words_read = g.words_read ∙ ap (λ k. length (items_of k)) e;
            text_bytes = g.text_bytes ∙ ap (λ k. length (texts_of k)) e;
            items_left = g.items_left ∙ ap (λ k. filled (length back) (items_of k)) e;
            text_left = g.text_left ∙ ap (λ k. filled (length said) (texts_of k)) e;
            counts_left = g.counts_left ∙ ap (λ j. replicate j (pos 0)) o;
          };
        }) u v
