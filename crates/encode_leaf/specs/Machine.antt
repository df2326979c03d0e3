-- What the writer's inner functions promise, by their own answer.
use Rattle.std.specs.Prelude.{Result, Ok, Err, Bool, ◌||◌, cond, List, [], ℕ, zero, suc, ◌+◌, min, eqb, leb, length}
use Rattle.codes.specs.Codes.{kind_bool, kind_edited, tag_null, tag_list}
use Rattle.codes.specs.declared.Refusal.{Refusal}
use Rattle.codes.specs.Refusals.{number_of}
use Rattle.value.specs.Answer.{Answer, given, refused as not_given}
use Rattle.layout.specs.declared.Entry.{Entry}
use Rattle.items.specs.declared.Item.{Item}
use Rattle.encode_scalar.specs.Encode.{judged_of, bytes_of}
use Rattle.spans.specs.Tree.{end_of}
use Rattle.items.specs.Items.{Values, values, head_of, rest_of, span_of, text_of, scalar_in}
use Rattle.walks.specs.Walk.{Codec}
use Rattle.layout.specs.Layout.{is_pad, unrepeated}
use Rattle.walks.specs.Writing.{table_length}
use Rattle.walks.specs.Kinds.{State, kinds, mask_of}
use Rattle.walks.specs.Records.{most}
use Rattle.encode_leaf.specs.declared.Out.{Out}
use Rattle.encode_leaf.specs.declared.Run.{Run}
use Rattle.encode_leaf.specs.Laying.{Laid, refused, laid, Layer, settled}
use Rattle.positions.specs.Positions.{sat}

-- what an answer says that a part of the walk came to, the buffer as it is left
abbrev pub laid_in : Result Out Refusal → List ℕ → Laid
laid_in (Ok o) b = laid b o.past o.taken
laid_in (Err e) b = refused (number_of e)

-- the buffer behind what was put; what is refused leaves it as it was
abbrev pub behind : List ℕ → Laid → List ℕ
behind b (refused n) = b
behind b (laid b' past t) = b'

-- the buffer as f goes on from what was put; what is refused leaves it as it was
abbrev pub onward : List ℕ → (List ℕ → ℕ → ℕ → List ℕ) → Laid → List ℕ
onward b f (refused n) = b
onward b f (laid b' past t) = f b' past t

-- the buffer behind the elements that are left, as `elements` goes: those in front of a refused one stay in it
unfoldable pub buffer_behind : Layer → ℕ → Values → ℕ → List ℕ → List ℕ
buffer_behind f zero vs at b = b
buffer_behind f (suc n) vs at b = onward b (λ b' past t. cond (settled vs past t) b' (buffer_behind f n (rest_of vs) (sat (at + t)) b')) (f vs at b)

-- whether a value of this tag, or Null, is taken
abbrev pub taking : ℕ → ℕ → Bool
taking tag wanted = eqb tag wanted || eqb tag tag_null

-- where the first of the items i up to `to` ends
abbrev pub end_in : List ℕ → ℕ → ℕ → ℕ
end_in v i to = end_of (span_of (head_of (values v i to))) i to

-- the place behind the item of an entry, which is at j: a Pad has none
abbrev pub place_after : List ℕ → Entry → ℕ → ℕ → ℕ
place_after v e j to = cond (is_pad e) j (end_in v j to)

abbrev pub run : ℕ → ℕ → ℕ → Run
run n from end = record { n = n; from = from; end = end }

abbrev pub members_in : List ℕ → Entry → ℕ → ℕ → Run
members_in v e from end = run (table_length e (values v from end)) from end

-- the elements of an entry by the first of the items i up to `to`: that value alone, or those of a table, the members of a List or Null
unfoldable pub elements_in : List ℕ → Entry → ℕ → ℕ → Answer Run
elements_in v e i to =
    cond (unrepeated e) (given (run 1 i to))
    (cond (taking (head_of (values v i to)).tag tag_list) (given (members_in v e (min (end_in v i to) (i + 1)) (end_in v i to))) (not_given 13))

-- the writer's codec, and the bytes that the record may have in a buffer
abbrev pub codec : List ℕ → ℕ → List ℕ → Codec State
codec masks page text = kinds masks page text 0

abbrev pub room_in : List ℕ → ℕ
room_in b = min (length b) most

-- the bytes that a scalar or Pad puts: "Bool sets one byte"; no lawful kind is above 9
abbrev pub putting : ℕ → ℕ → ℕ
putting kind width = cond (eqb kind kind_bool) 1 (cond (leb kind kind_edited) width 0)

abbrev pub put_width : Entry → ℕ
put_width e = putting e.kind e.width

-- only an Edited, kind 8, has a mask
abbrev pub masking : ℕ → List ℕ → List ℕ
masking kind mask = cond (eqb kind kind_edited) mask []

abbrev pub mask_for : List ℕ → Entry → List ℕ
mask_for masks e = masking e.kind (mask_of masks e)

-- the number that refuses an item for an entry, and its bytes there
abbrev pub judged : List ℕ → List ℕ → Entry → Item → ℕ
judged masks text e it = judged_of e.kind e.p e.q e.r e.s (mask_of masks e) e.width it.tag (scalar_in it) (text_of text it)

-- the number that refuses an item whose bytes are not inside the room
abbrev pub outside : ℕ → ℕ
outside judged = cond (eqb judged 0) 16 judged

abbrev pub bytes_in : List ℕ → ℕ → List ℕ → Entry → Item → List ℕ
bytes_in masks page text e it = bytes_of e.kind e.p e.q e.r (mask_of masks e) page e.width (scalar_in it) (text_of text it)
