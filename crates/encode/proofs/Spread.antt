-- Where the puts of a part of the walk lie: from its position on, within the bytes it takes, and inside the room.
use mathlib.Core.Path.{◌≡◌, refl}
use mathlib.Core.Bool.{Bool, true, false, cond}
use mathlib.Core.List.{List, [], ◌∷◌, ◌++◌}
use Prim.Native.Nat.{ℕ, zero, suc, ◌+◌, ◌-◌, ◌≤◌, max}
use native.Mathlib.Omega.{arith}
use lib.Dec.{eqb, leb}
use lib.ListN.{length}
use borrow.Author.Tests.{leb-true}
use Rattle.layout.specs.declared.Entry.{Entry}
use Rattle.layout.specs.Layout.{is_group, reserved_width, unrepeated}
use Rattle.spans.specs.Tree.{Tree, none, node}
use Rattle.items.specs.declared.Item.{Item}
use Rattle.items.specs.Items.{Values, head_of, members_of, rest_of, lookup}
use Rattle.walks.specs.Walk.{Coded, unfit, bytes, Codec}
use Rattle.walks.specs.Writing.{Put, reach, Wrote, refused, wrote, Writer, bind, then_element, then_entry, coded, one, elements, table_length, table, field, seq}

-- what the laws of the walk take of an entry
pub record Fair {S : Type 0} (k : Codec S) (e : Entry) : Type 0 where
  pub reserved : reserved_width e ≤ 4294836225
  pub width : e.width ≤ 65535
  pub within : (it : Item) (bs : List ℕ) → k.enc e it ≡ bytes bs → length bs ≤ e.width

abbrev pub AllFair : {S : Type 0} → Codec S → Tree Entry → Type 0
AllFair k none = Unit {0}
AllFair k (node e members rest) = Fair k e × (AllFair k members × AllFair k rest)

abbrev pub Lies : ℕ → ℕ → ℕ → List Put → Type 0
Lies room lo hi [] = Unit {0}
Lies room lo hi (p ∷ ps) = ((lo ≤ p.at) × ((p.at + length p.bs ≤ hi) × (p.at + length p.bs ≤ room))) × Lies room lo hi ps

pub lies_more : (room lo hi lo' hi' : ℕ) (ps : List Put) → lo' ≤ lo → hi ≤ hi' → Lies room lo hi ps → Lies room lo' hi' ps
lies_more room lo hi lo' hi' [] a b h = tt
lies_more room lo hi lo' hi' (p ∷ ps) a b h = ((omega (arith, h.0.0), (omega (arith, h.0.1.0), h.0.1.1)), lies_more room lo hi lo' hi' ps a b h.1)

lies-append : (room lo hi : ℕ) (ps qs : List Put) → Lies room lo hi ps → Lies room lo hi qs → Lies room lo hi (ps ++ qs)
lies-append room lo hi [] qs a b = b
lies-append room lo hi (p ∷ ps) qs a b = (a.0, lies-append room lo hi ps qs a.1 b)

pub lies-reach : (room lo hi : ℕ) (ps : List Put) → Lies room lo hi ps → reach ps ≤ room
lies-reach room lo hi [] h = omega arith
lies-reach room lo hi (p ∷ ps) h = omega (arith, h.0.1.1, lies-reach room lo hi ps h.1)

abbrev pub In : ℕ → ℕ → Wrote → Type 0
In room at (refused n) = Unit {0}
In room at (wrote ps t) = Lies room at (at + t) ps

abbrev pub Keeps : ℕ → Writer → Type 0
Keeps room f = (vs : Values) (at : ℕ) → In room at (f vs at)

in-cond : (room at : ℕ) (b : Bool) (x y : Wrote) → In room at x → In room at y → In room at (cond b x y)
in-cond room at true x y h k = h
in-cond room at false x y h k = k

coded_in : (room w at : ℕ) (c : Coded) → ((bs : List ℕ) → c ≡ bytes bs → length bs ≤ w) → In room at (coded room w at c)
coded_in room w at (unfit n) h = tt
coded_in room w at (bytes bs) h = by (leb (at + length bs) room) refl
  where
    by : (b : Bool) → leb (at + length bs) room ≡ b → In room at (cond b (wrote (record { at = at; bs = bs } ∷ []) w) (refused 16))
    by true e = ((omega arith, (omega (arith, h bs refl), leb-true (at + length bs) room e)), tt)
    by false e = tt

behind-in : (room at t : ℕ) (ps : List Put) (o : Wrote) → Lies room at (at + t) ps → In room (at + t) o → In room at (then_element ps t o)
behind-in room at t ps (refused n) h k = tt
behind-in room at t ps (wrote qs t') h k =
    lies-append room at (at + (t + t')) ps qs (lies_more room at (at + t) at (at + (t + t')) ps (omega arith) (omega arith) h)
    (lies_more room (at + t) (at + t + t') at (at + (t + t')) qs (omega arith) (omega arith) k)

follow-in : (room base off t : ℕ) (ps : List Put) (o : Wrote) → Lies room (base + off) (base + off + t) ps → In room base o → In room base (then_entry ps (off + t) o)
follow-in room base off t ps (refused n) h k = tt
follow-in room base off t ps (wrote qs far) h k =
    lies-append room base (base + max (off + t) far) ps qs (lies_more room (base + off) (base + off + t) base (base + max (off + t) far) ps (omega arith) (omega arith) h)
    (lies_more room base (base + far) base (base + max (off + t) far) qs (omega arith) (omega arith) k)

pub one_in : {S : Type 0} (k : Codec S) (room : ℕ) (e : Entry) (f : Writer) → Fair k e → Keeps room f → Keeps room (one k room e f)
unfolding one
one_in k room e f fair h vs at =
    in-cond room at (is_group e) _ _
    (in-cond room at (eqb (head_of vs).tag 7) (f (members_of vs) at) _ (h (members_of vs) at) (in-cond room at (eqb (head_of vs).tag 0) (f none at) (refused 13) (h none at) tt))
    (coded_in room e.width at (k.enc e (head_of vs)) (fair.within (head_of vs)))

pub elements-in : (room : ℕ) (f : Writer) → Keeps room f → (n : ℕ) → Keeps room (elements f n)
unfolding elements
elements-in room f h zero vs at = tt
elements-in room f h (suc n) vs at = go (f vs at) (h vs at) (λ t. elements-in room f h n (rest_of vs) (at + t))
  where
    go : (o : Wrote) → In room at o → ((t : ℕ) → In room (at + t) (elements f n (rest_of vs) (at + t))) → In room at (bind o (λ ps t. then_element ps t (elements f n (rest_of vs) (at + t))))
    go (refused m) k ih = tt
    go (wrote ps t) k ih = behind-in room at t ps (elements f n (rest_of vs) (at + t)) k (ih t)

table-in : (room : ℕ) (e : Entry) (f : Writer) → Keeps room f → Keeps room (table e f)
unfolding table
table-in room e f h vs at =
    in-cond room at (eqb (head_of vs).tag 6) (elements f (table_length e (members_of vs)) (members_of vs) at) _ (elements-in room f h (table_length e (members_of vs)) (members_of vs) at)
    (in-cond room at (eqb (head_of vs).tag 0) (elements f (table_length e none) none at) (refused 13) (elements-in room f h (table_length e none) none at) tt)

pub field_in : {S : Type 0} (k : Codec S) (room : ℕ) (e : Entry) (f : Writer) → Fair k e → Keeps room f → Keeps room (field k room e f)
unfolding field
field_in k room e f fair h vs at =
    in-cond room at (unrepeated e) (one k room e f vs at) (table e (one k room e f) vs at) (one_in k room e f fair h vs at) (table-in room e (one k room e f) (one_in k room e f fair h) vs at)

pub seq_in : {S : Type 0} (k : Codec S) (room : ℕ) (t : Tree Entry) → AllFair k t → (all : Values) (base shift : ℕ) → In room base (seq k room t all base shift)
unfolding seq
seq_in k room none fair all base shift = tt
seq_in k room (node e members rest) fair all base shift =
    go (field k room e (λ vs base'. seq k room members vs base' 0) (lookup e.name all) (base + (e.offset + shift)))
    (field_in k room e (λ vs base'. seq k room members vs base' 0) fair.0 (λ vs at. seq_in k room members fair.1.0 vs at 0) (lookup e.name all) (base + (e.offset + shift)))
    (λ s. seq_in k room rest fair.1.1 all base s)
  where
    go : (o : Wrote) → In room (base + (e.offset + shift)) o → ((s : ℕ) → In room base (seq k room rest all base s))
        → In room base (bind o (λ ps t. then_entry ps (e.offset + shift + t) (seq k room rest all base (shift + (t - reserved_width e)))))
    go (refused n) h ih = tt
    go (wrote ps t) h ih = follow-in room base (e.offset + shift) t ps (seq k room rest all base (shift + (t - reserved_width e))) h (ih (shift + (t - reserved_width e)))
