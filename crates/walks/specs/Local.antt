-- "each field is given only its own stretch of the record, the bytes its elements take": reading depends only on the bytes of its stretch.
use Rattle.std.specs.Prelude.{◌≡◌, Bool, false, List, ℕ, ◌+◌, ◌≤◌, length, take, drop}
use Rattle.layout.specs.declared.Entry.{Entry}
use Rattle.layout.specs.Layout.{is_group}
use Rattle.spans.specs.Tree.{Tree}
use Rattle.walks.specs.Walk.{Codec}
use Rattle.walks.specs.Reading.{read, Reader, one, field, seq}

-- two records have the same n bytes from a position on
abbrev pub Same : List ℕ → List ℕ → ℕ → ℕ → Type 0
Same r r' at n = take n (drop at r) ≡ take n (drop at r')

-- a scalar or Pad: two records that both reach so far, and have the same bytes there, come to the same, a refusal too
abbrev pub LocalOne : Type 1
LocalOne = (S : Type 0) (k : Codec S) (r r' : List ℕ) (e : Entry) (inner : Reader S) (name : ℕ) (once : Bool) (at room : ℕ) (s : S) → is_group e ≡ false
    → at + e.width ≤ length r → at + e.width ≤ length r' → Same r r' at e.width
    → one k r e inner name once at room s ≡ one k r' e inner name once at room s

-- a field, be it a group or a table: what is read of the bytes it takes is read of any record as long that has them
abbrev pub LocalField : Type 1
LocalField = (S : Type 0) (k : Codec S) (r r' : List ℕ) → length r ≡ length r' → (e : Entry) (members : Tree Entry) (at room : ℕ) (s : S)
    → (ws : List ℕ) (m taken : ℕ) (s' : S) → field ◌+◌ k r e (λ b n s. seq ◌+◌ k r members b 0 n s) at room s ≡ read ws m taken s' → Same r r' at taken
    → field ◌+◌ k r' e (λ b n s. seq ◌+◌ k r' members b 0 n s) at room s ≡ read ws m taken s'

-- a sequence: "those from its base through its members, gaps counted"
abbrev pub LocalSeq : Type 1
LocalSeq = (S : Type 0) (k : Codec S) (r r' : List ℕ) → length r ≡ length r' → (t : Tree Entry) (base shift room : ℕ) (s : S)
    → (ws : List ℕ) (m far : ℕ) (s' : S) → seq ◌+◌ k r t base shift room s ≡ read ws m far s' → Same r r' base far
    → seq ◌+◌ k r' t base shift room s ≡ read ws m far s'
