-- Worked examples, each with a text buffer of 5 bytes.
use Rattle.std.specs.Prelude.{◌≡◌, refl, Bool, true, false, List, [], ◌∷◌, ℕ, zero, suc}
use Rattle.spans.specs.Tree.{none, tree, tree_in, size}
use Rattle.items.specs.Items.{values, scalar_ok, holder_ok, item_ok, count, list_ok, well_formed, head_of, members_of, lookup}

abbrev fine : List ℕ → Bool
fine items = well_formed items 5

-- name 3 is a List of two Structs: one of the Text 2..5 and an Int -1, one of a Bool; then name 4, a Decimal 12.5
abbrev good : List ℕ
good =
    3 ∷ 6 ∷ 2 ∷ 6 ∷
    65536 ∷ 7 ∷ 2 ∷ 3 ∷
    0 ∷ 1 ∷ 2 ∷ 3 ∷
    1 ∷ 2 ∷ 18446744073709551615 ∷ 0 ∷
    65536 ∷ 7 ∷ 1 ∷ 2 ∷
    0 ∷ 5 ∷ 1 ∷ 0 ∷
    4 ∷ 3 ∷ 125 ∷ 1 ∷ []

good-fine : fine good ≡ true
unfolding well_formed list_ok values tree tree_in size count item_ok scalar_ok holder_ok
good-fine = refl

-- lookup gives the suffix from the name on, and none for a name below the top level
found : head_of (lookup 4 (values good 0 7)) ≡ record { name = 4; tag = 3; a = 125; b = 1 }
unfolding lookup values tree tree_in
found = refl

not_found : lookup 1 (values good 0 7) ≡ none
unfolding lookup values tree tree_in
not_found = refl

member : head_of (lookup 1 (members_of (members_of (values good 0 7)))) ≡ record { name = 1; tag = 2; a = 18446744073709551615; b = 0 }
unfolding lookup values tree tree_in
member = refl

-- no item at all is well formed, and part of one is not
empty-fine : fine [] ≡ true
unfolding well_formed list_ok values tree tree_in
empty-fine = refl

part : fine (0 ∷ 0 ∷ 0 ∷ 0 ∷ 0 ∷ []) ≡ false
unfolding well_formed
part = refl

-- one item, by its tag and words
abbrev one : ℕ → ℕ → ℕ → Bool
one tag a b = fine (0 ∷ tag ∷ a ∷ b ∷ [])

null-fine : one 0 0 0 ≡ true
unfolding well_formed list_ok values tree tree_in size count item_ok scalar_ok holder_ok
null-fine = refl

null_word : one 0 1 0 ≡ false
unfolding well_formed list_ok values tree tree_in size count item_ok scalar_ok holder_ok
null_word = refl

text-at-end : one 1 5 0 ≡ true
unfolding well_formed list_ok values tree tree_in size count item_ok scalar_ok holder_ok
text-at-end = refl

text-past-end : one 1 4 2 ≡ false
unfolding well_formed list_ok values tree tree_in size count item_ok scalar_ok holder_ok
text-past-end = refl

-- the sum of start and length is no word
text-far : one 1 18446744073709551615 1 ≡ false
unfolding well_formed list_ok values tree tree_in size count item_ok scalar_ok holder_ok
text-far = refl

int-second-word : one 2 7 1 ≡ false
unfolding well_formed list_ok values tree tree_in size count item_ok scalar_ok holder_ok
int-second-word = refl

decimal-least : one 3 17446744073709551617 18 ≡ true
unfolding well_formed list_ok values tree tree_in size count item_ok scalar_ok holder_ok
decimal-least = refl

decimal-size : one 3 1000000000000000000 0 ≡ false
unfolding well_formed list_ok values tree tree_in size count item_ok scalar_ok holder_ok
decimal-size = refl

decimal-size-minus : one 3 17446744073709551616 0 ≡ false
unfolding well_formed list_ok values tree tree_in size count item_ok scalar_ok holder_ok
decimal-size-minus = refl

decimal-scale : one 3 1 19 ≡ false
unfolding well_formed list_ok values tree tree_in size count item_ok scalar_ok holder_ok
decimal-scale = refl

float-second-word : one 4 0 1 ≡ false
unfolding well_formed list_ok values tree tree_in size count item_ok scalar_ok holder_ok
float-second-word = refl

bool-two : one 5 2 0 ≡ false
unfolding well_formed list_ok values tree tree_in size count item_ok scalar_ok holder_ok
bool-two = refl

bool-second-word : one 5 1 1 ≡ false
unfolding well_formed list_ok values tree tree_in size count item_ok scalar_ok holder_ok
bool-second-word = refl

empty-list : one 6 0 1 ≡ true
unfolding well_formed list_ok values tree tree_in size count item_ok scalar_ok holder_ok
empty-list = refl

span-zero : one 6 0 0 ≡ false
unfolding well_formed list_ok values tree tree_in size count item_ok scalar_ok holder_ok
span-zero = refl

span-past-end : one 7 0 2 ≡ false
unfolding well_formed list_ok values tree tree_in size count item_ok scalar_ok holder_ok
span-past-end = refl

member-count : one 7 1 1 ≡ false
unfolding well_formed list_ok values tree tree_in size count item_ok scalar_ok holder_ok
member-count = refl

tag-eight : one 8 0 1 ≡ false
unfolding well_formed list_ok values tree tree_in size count item_ok scalar_ok holder_ok
tag-eight = refl

-- 65536 stands in a List and nowhere else
name-at-top : fine (65536 ∷ 0 ∷ 0 ∷ 0 ∷ []) ≡ false
unfolding well_formed list_ok values tree tree_in size count item_ok scalar_ok holder_ok
name-at-top = refl

name-greatest : fine (65535 ∷ 0 ∷ 0 ∷ 0 ∷ []) ≡ true
unfolding well_formed list_ok values tree tree_in size count item_ok scalar_ok holder_ok
name-greatest = refl

name-in-list : fine (0 ∷ 6 ∷ 1 ∷ 2 ∷ 7 ∷ 0 ∷ 0 ∷ 0 ∷ []) ≡ false
unfolding well_formed list_ok values tree tree_in size count item_ok scalar_ok holder_ok
name-in-list = refl

name-in-struct : fine (0 ∷ 7 ∷ 1 ∷ 2 ∷ 65536 ∷ 0 ∷ 0 ∷ 0 ∷ []) ≡ false
unfolding well_formed list_ok values tree tree_in size count item_ok scalar_ok holder_ok
name-in-struct = refl

-- Structs of n levels, the innermost without members
abbrev nest : ℕ → List ℕ
nest zero = []
nest (suc zero) = 0 ∷ 7 ∷ 0 ∷ 1 ∷ []
nest (suc (suc n)) = 0 ∷ 7 ∷ 1 ∷ suc (suc n) ∷ nest (suc n)

sixteen : fine (nest 16) ≡ true
unfolding well_formed list_ok values tree tree_in size count item_ok scalar_ok holder_ok
sixteen = refl

seventeen : fine (nest 17) ≡ false
unfolding well_formed list_ok values tree tree_in size count item_ok scalar_ok holder_ok
seventeen = refl
