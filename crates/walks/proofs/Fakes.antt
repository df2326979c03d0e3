-- What a reader or writer that meets these definitions can't be: "the fixed list"; "the constant refuser"; "the writer that leaves its buffer alone".
use mathlib.Core.Path.{◌≡◌, sym, ap, ◌∙◌}
use mathlib.Core.List.{List, [], ◌∷◌}
use Prim.Native.Nat.{ℕ, suc}
use native.Mathlib.Omega.{arith}
use lib.ListN.{length}
use Rattle.walks.specs.Records.{Decoded, decode_record, items_of, Encoded, encode_record, refusal_of, bytes_of}
use Rattle.walks.specs.Worked.{shown, shown_read, boxes, boxed, boxes-read, boxes-written}

-- no outcome is the reader's on every input
pub no-fixed-list : (o : Decoded) → ((l masks : List ℕ) (page : ℕ) (r : List ℕ) (items text work : ℕ) → decode_record l masks page r items text work ≡ o) → ⊥
no-fixed-list o f =
    let a : length (items_of o) ≡ 20 = ap (λ (d : Decoded). length (items_of d)) (sym (f shown [] 0 (0x30 ∷ 0x32 ∷ 0x01 ∷ 0x2C ∷ 0x34 ∷ 0x5D ∷ 0x4F ∷ 0x4B ∷ []) 20 2 6) ∙ shown_read) in
    let b : length (items_of o) ≡ 44 = ap (λ (d : Decoded). length (items_of d)) (sym (f boxes [] 0 (0x31 ∷ 0x5C ∷ 0x61 ∷ 0x30 ∷ 0x62 ∷ 0x37 ∷ []) 44 2 10) ∙ boxes-read) in
    omega arith

-- no number refuses every list
pub no-constant-refuser : (n : ℕ) → ((l masks : List ℕ) (page : ℕ) (items text : List ℕ) (room work : ℕ) → refusal_of (encode_record l masks page items text room work) ≡ suc n) → ⊥
no-constant-refuser n f =
    let a : ◌≡◌ {A = ℕ} 0 (suc n) = ap refusal_of (sym boxes-written) ∙ f boxes [] 0 boxed (0x61 ∷ 0x62 ∷ []) 6 10 in
    omega arith

-- an accepted list puts bytes into the record: no bytes serve for every list
pub no-idle-writer : ((l masks : List ℕ) (page : ℕ) (items text : List ℕ) (room work : ℕ) → bytes_of (encode_record l masks page items text room work) ≡ []) → ⊥
no-idle-writer f =
    let a : ◌≡◌ {A = ℕ} 6 0 = ap (λ (d : Encoded). length (bytes_of d)) (sym boxes-written) ∙ ap (λ (l : List ℕ). length l) (f boxes [] 0 boxed (0x61 ∷ 0x62 ∷ []) 6 10) in
    omega arith
