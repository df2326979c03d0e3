-- The members of a value, and the elements of an entry.
use mathlib.Core.Path.{◌≡◌, refl, sym, ap, ◌∙◌}
use mathlib.Core.Bool.{Bool, true, false, ◌||◌, cond, false≢true}
use mathlib.Core.List.{List}
use Prim.Native.Nat.{ℕ, ◌+◌, min}
use lib.Dec.{eqb}
use borrow.Author.Tests.{eqb-true}
use Rattle.value.specs.Answer.{Answer, given, refused as not_given}
use Rattle.spans.specs.Tree.{none, end_of}
use Rattle.layout.specs.declared.Entry.{Entry}
use Rattle.items.specs.declared.Item.{Item}
use Rattle.items.specs.Items as Items
use Rattle.items.specs.Items.{Values, values, head_of, members_of, rest_of}
use Rattle.items.proofs.Items.{members-is, members-null, rest-is}
use Rattle.layout.specs.Layout.{unrepeated}
use Rattle.walks.specs.Writing.{table_length}
use Rattle.encode_leaf.specs.declared.Run.{Run}
use Rattle.encode_leaf.specs.Laying.{Laid, refused, container}
use Rattle.encode_leaf.specs.Machine.{taking, end_in, run, members_in, elements_in}

-- ---- the members of a value

module _ (tag : ℕ) (f : Values → Laid) (v : List ℕ) (i to : ℕ) (it : Item) (p : it ≡ head_of (values v i to)) where
  pub inside-not : taking it.tag tag ≡ false → container tag f (values v i to) ≡ refused 13
  unfolding container
  inside-not h = rw (← p) (go (eqb it.tag tag) (eqb it.tag 0) h)
    where
      go : (x y : Bool) → (x || y) ≡ false → cond x (f (members_of (values v i to))) (cond y (f none) (refused 13)) ≡ refused 13
      go true y h = absurd (false≢true (sym h))
      go false true h = absurd (false≢true (sym h))
      go false false h = refl

  pub inside_is : (en m : ℕ) → taking it.tag tag ≡ true → en ≡ end_of (Items.span_of (head_of (values v i to))) i to → m ≡ min en (i + 1) → container tag f (values v i to) ≡ f (values v m en)
  unfolding container
  inside_is en m h q r = rw (← p) (go (eqb it.tag tag) (eqb it.tag 0) refl h)
    where
      go : (x y : Bool) → eqb it.tag 0 ≡ y → (x || y) ≡ true → cond x (f (members_of (values v i to))) (cond y (f none) (refused 13)) ≡ f (values v m en)
      go true y z h = ap f (members-is v i to (head_of (values v i to)) (Items.span_of (head_of (values v i to))) en refl refl q m r)
      go false true z h = ap f (sym (members-null v i to (head_of (values v i to)) (Items.span_of (head_of (values v i to))) en refl refl q m r (ap (λ (x : Item). x.tag) (sym p) ∙ eqb-true it.tag 0 z)))
      go false false z h = absurd (false≢true h)

-- ---- the values behind an entry's own

pub item_behind : (v : List ℕ) (j to : ℕ) → values v (end_in v j to) to ≡ rest_of (values v j to)
item_behind v j to = sym (rest-is v j to (head_of (values v j to)) (Items.span_of (head_of (values v j to))) (end_in v j to) refl refl refl)

-- ---- the elements of an entry

-- f of how many elements an entry has and of what they are: one, the value itself, or the members of a List
unfoldable pub spread : Entry → (ℕ → Values → Laid) → Values → Laid
spread e f vs = cond (unrepeated e) (f 1 vs) (container 6 (λ ms. f (table_length e ms) ms) vs)

-- f of the elements that an answer tells
abbrev pub ran : List ℕ → (ℕ → Values → Laid) → Answer Run → Laid
ran v f (given r) = f r.n (values v r.from r.end)
ran v f (not_given n) = refused n

pub spread_is : (e : Entry) (v : List ℕ) (i to : ℕ) (f : ℕ → Values → Laid) → spread e f (values v i to) ≡ ran v f (elements_in v e i to)
unfolding elements_in spread
spread_is e v i to f = go (unrepeated e) (taking (head_of (values v i to)).tag 6) refl
  where
    go : (x t : Bool) → taking (head_of (values v i to)).tag 6 ≡ t
        → cond x (f 1 (values v i to)) (container 6 (λ ms. f (table_length e ms) ms) (values v i to))
        ≡ ran v f (cond x (given (run 1 i to)) (cond t (given (members_in v e (min (end_in v i to) (i + 1)) (end_in v i to))) (not_given 13)))
    go true t h = refl
    go false true h = inside_is 6 (λ ms. f (table_length e ms) ms) v i to (head_of (values v i to)) refl (end_in v i to) (min (end_in v i to) (i + 1)) h refl refl
    go false false h = inside-not 6 (λ ms. f (table_length e ms) ms) v i to (head_of (values v i to)) refl h
