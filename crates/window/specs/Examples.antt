-- Worked examples: windows, what values contribute, entries by their number, one record's call, the order of its questions, and a changeover between records.
use Rattle.std.specs.Prelude.{◌≡◌, ℕ, true, false, List, [], ◌∷◌, ◌++◌, map, replicate, refl}
use Rattle.spans.specs.Tree.{tree, tree_in, size, nested}
use Rattle.layout.specs.Layout.{absent, entry_at, entries, all_below, some_below, words_ok, up_to, plain_ok, kind_ok, option_ok, place_ok, entry_ok, entries_ok, spans_ok, checked_of, layout_asks, reserved_width, furthest, record_length, depends_in, unrepeated, is_pad, controls}
use Rattle.items.specs.Items.{values}
use Rattle.value.specs.Field.{field_of}
use Rattle.value.specs.Rounding.{rounded}
use Rattle.packed.specs.Packed as Packed
use Rattle.decode_scalar.specs.Decode.{says}
use Rattle.walks.specs.Kinds.{dec}
use Rattle.walks.specs.Reading as R
use Rattle.walks.specs.Records.{decode_record}
use Rattle.walks.specs.Worked.{entry, once}
use Rattle.window.specs.Window.{pair, laid, lawful_in, started, changed, accepted, cutting, half_even, contributed}
use Rattle.window.specs.Pair.{is_top, items_before, is_summable, summed, pair_ok, pair_asks, values_from, word_at, pair_in}
use Rattle.window.specs.Calls.{window_asks, before_asks, added, add_record, number_of}
use Rattle.window.specs.Runs.{Event, comes, changeover, run}

-- ---- a window of W = 2 in eleven words, the last two behind it

abbrev lent : List ℕ
lent = 7 ∷ 7 ∷ 7 ∷ 7 ∷ 7 ∷ 7 ∷ 7 ∷ 7 ∷ 7 ∷ 8 ∷ 9 ∷ []

-- 6 and -2, then 7 and 3
abbrev full : List ℕ
full = 2 ∷ 13 ∷ 1 ∷ 0 ∷ 0 ∷ 6 ∷ 18446744073709551614 ∷ 7 ∷ 3 ∷ 8 ∷ 9 ∷ []

starts : started 2 0 lent ≡ 0 ∷ 0 ∷ 0 ∷ 0 ∷ 0 ∷ 0 ∷ 0 ∷ 0 ∷ 0 ∷ 8 ∷ 9 ∷ []
unfolding started
starts = refl

fills : accepted 2 (pair 7 3) (accepted 2 (pair 6 18446744073709551614) (started 2 0 lent)) ≡ full
unfolding accepted laid started
fills = refl

-- the oldest goes
rolls : accepted 2 (pair 1 1) full ≡ 2 ∷ 8 ∷ 4 ∷ 0 ∷ 0 ∷ 7 ∷ 3 ∷ 1 ∷ 1 ∷ 8 ∷ 9 ∷ []
unfolding accepted laid
rolls = refl

-- lawful, the second with 10^12 - 1 and its minus; then a count above W, a display word above the scale, a word of the rule above 1, a number of size 10^12 in
-- either half, a sum of either half that is not that of the pairs
judged : lawful_in 2 0 full ∷ lawful_in 2 0 (1 ∷ 999999999999 ∷ 18446743073709551617 ∷ 0 ∷ 0 ∷ 999999999999 ∷ 18446743073709551617 ∷ [])
    ∷ lawful_in 1 0 full
    ∷ lawful_in 2 0 (0 ∷ 0 ∷ 0 ∷ 1 ∷ 0 ∷ []) ∷ lawful_in 2 0 (0 ∷ 0 ∷ 0 ∷ 0 ∷ 2 ∷ [])
    ∷ lawful_in 2 0 (1 ∷ 18446743073709551616 ∷ 0 ∷ 0 ∷ 0 ∷ 18446743073709551616 ∷ 0 ∷ [])
    ∷ lawful_in 2 0 (1 ∷ 0 ∷ 1000000000000 ∷ 0 ∷ 0 ∷ 0 ∷ 1000000000000 ∷ [])
    ∷ lawful_in 2 0 (1 ∷ 6 ∷ 7 ∷ 0 ∷ 0 ∷ 5 ∷ 7 ∷ []) ∷ lawful_in 2 0 (1 ∷ 5 ∷ 6 ∷ 0 ∷ 0 ∷ 5 ∷ 7 ∷ [])
    ∷ []
    ≡ true ∷ true ∷ false ∷ false ∷ false ∷ false ∷ false ∷ false ∷ false ∷ []
unfolding lawful_in
judged = refl

-- entries of scale 3: display words up to 3, and both rules, are lawful
shown : map (lawful_in 1 3) ((0 ∷ 0 ∷ 0 ∷ 3 ∷ 0 ∷ []) ∷ (0 ∷ 0 ∷ 0 ∷ 3 ∷ 1 ∷ []) ∷ (0 ∷ 0 ∷ 0 ∷ 4 ∷ 1 ∷ []) ∷ (0 ∷ 0 ∷ 0 ∷ 0 ∷ 2 ∷ []) ∷ []) ≡ true ∷ true ∷ false ∷ false ∷ []
unfolding lawful_in
shown = refl

displayed : started 1 3 (7 ∷ 7 ∷ 7 ∷ 7 ∷ 7 ∷ 7 ∷ 7 ∷ 8 ∷ []) ≡ 0 ∷ 0 ∷ 0 ∷ 3 ∷ 0 ∷ 0 ∷ 0 ∷ 8 ∷ []
unfolding started
displayed = refl

-- a changeover writes one word, and a second one nothing; what is held stays
passes : changed full ∷ changed (changed full) ∷ []
    ≡ (2 ∷ 13 ∷ 1 ∷ 0 ∷ 1 ∷ 6 ∷ 18446744073709551614 ∷ 7 ∷ 3 ∷ 8 ∷ 9 ∷ []) ∷ (2 ∷ 13 ∷ 1 ∷ 0 ∷ 1 ∷ 6 ∷ 18446744073709551614 ∷ 7 ∷ 3 ∷ 8 ∷ 9 ∷ []) ∷ []
unfolding changed
passes = refl

-- ---- what values contribute

-- 0.5, 1.5, 2.5, 1.6, -0.5, -1.5 and -1.4, as words of scale 1
abbrev tenths : List ℕ
tenths = 5 ∷ 15 ∷ 25 ∷ 16 ∷ 18446744073709551611 ∷ 18446744073709551601 ∷ 18446744073709551602 ∷ []

cuts : map (contributed 1 1 cutting) tenths ≡ 0 ∷ 1 ∷ 2 ∷ 1 ∷ 0 ∷ 18446744073709551615 ∷ 18446744073709551615 ∷ []
unfolding contributed
cuts = refl

rounds : map (contributed 1 1 half_even) tenths ≡ 0 ∷ 2 ∷ 2 ∷ 2 ∷ 0 ∷ 18446744073709551614 ∷ 18446744073709551615 ∷ []
unfolding contributed rounded
rounds = refl

-- scale 3 at scale 1 (1.249, 1.250, 1.350); without a display scale the value itself; from 20 digits lost on nothing
scales : map (contributed 3 2 half_even) (1249 ∷ 1250 ∷ 1350 ∷ []) ++ map (contributed 3 0 half_even) (1249 ∷ []) ++ map (contributed 31 1 half_even) (999999999999 ∷ 18446743073709551617 ∷ [])
    ≡ 12 ∷ 12 ∷ 14 ∷ 1249 ∷ 0 ∷ 0 ∷ []
unfolding contributed rounded
scales = refl

-- ---- entries: a Pad, a group of a packed field, a packed field, a Pad, and a packed field of the same name

abbrev scrap : List ℕ
scrap = once 0 0 1 6 0 0 0x20 ++ entry 1 1 1 9 absent absent 2 0 0 0 ++ once 2 0 1 7 1 1 1 ++ once 5 2 1 7 1 1 1 ++ once 6 3 1 6 0 0 0x20 ++ once 5 4 1 7 1 1 1

-- which are at the top level, and how many items stand before theirs
tops : map (is_top (entries scrap)) (0 ∷ 1 ∷ 2 ∷ 3 ∷ 4 ∷ 5 ∷ 6 ∷ []) ≡ true ∷ true ∷ false ∷ true ∷ true ∷ true ∷ false ∷ []
unfolding is_top tree tree_in size entry_at
tops = refl

befores : map (items_before (entries scrap)) (1 ∷ 3 ∷ 5 ∷ []) ≡ 0 ∷ 1 ∷ 2 ∷ []
unfolding items_before tree tree_in size entry_at is_pad
befores = refl

-- question 18: 3 and 5 are such a pair; a member, a Pad, one entry twice and a number past the end are not
pairs :
    pair_asks scrap 2 3 5 0 ∷ pair_asks scrap 2 2 5 0 ∷ pair_asks scrap 2 3 4 0 ∷ pair_asks scrap 2 3 3 0 ∷ pair_asks scrap 2 3 6 0 ∷ pair_asks scrap 0 3 5 0
    ∷ pair_asks scrap 4097 3 5 0 ∷ []
    ≡ 0 ∷ 18 ∷ 18 ∷ 18 ∷ 18 ∷ 18 ∷ 18 ∷ []
unfolding pair_asks pair_ok summed is_summable is_top tree tree_in size entry_at unrepeated
pairs = refl

-- packed fields of scales 1 and 2, one with occurs, one under depending, an Int, and a zoned field of scale 1
abbrev others : List ℕ
others = once 0 0 1 7 1 1 1 ++ once 1 1 1 7 1 1 2 ++ entry 2 2 1 7 2 absent 1 1 1 1 ++ entry 3 4 1 7 absent 0 1 1 1 1 ++ once 4 5 1 1 0 0 0 ++ once 5 6 1 7 2 1 1

-- W of 1 and of 4,096; another scale, either table, and an Int
more-pairs : pair_asks others 1 0 5 0 ∷ pair_asks others 4096 5 0 0 ∷ map (λ i. pair_asks others 2 0 i 0) (1 ∷ 2 ∷ 3 ∷ 4 ∷ []) ≡ 0 ∷ 0 ∷ 18 ∷ 18 ∷ 18 ∷ 18 ∷ []
unfolding pair_asks pair_ok summed is_summable is_top tree tree_in size entry_at unrepeated
more-pairs = refl

-- display words of entries of scale 1: none and scale 0; scale 1, equal to the entries', and above it
displays : map (pair_asks scrap 2 3 5) (0 ∷ 1 ∷ 2 ∷ 3 ∷ []) ≡ 0 ∷ 0 ∷ 18 ∷ 18 ∷ []
unfolding pair_asks pair_ok summed is_summable is_top tree tree_in size entry_at unrepeated
displays = refl

-- 9 in the group, then 2, then -3: the pair is each entry's own item, though both have one name
takes : add_record scrap [] 0 (0x20 ∷ 0x9C ∷ 0x2C ∷ 0x20 ∷ 0x3D ∷ []) 2 3 5 full 16 0 12 ≡ added (pair 2 18446744073709551613)
unfolding add_record before_asks window_asks pair_asks pair_ok summed is_summable is_top items_before lawful_in pair_in word_at values_from values layout_asks checked_of words_ok entries_ok all_below entry_ok place_ok option_ok kind_ok plain_ok up_to spans_ok nested size tree tree_in entry_at record_length furthest reserved_width depends_in some_below decode_record R.seq R.field R.one R.pad R.scalar R.container unrepeated is_pad controls dec says field_of Packed.decode_of
takes = refl

-- ---- the order of the questions: each with its neighbour, both failing; at last that 19 judges a value as it is read: 10^12 of scale 1 would contribute 10^11 at scale 0

-- two packed fields of 7 bytes; 10^12, and a byte that is none of a sign
abbrev two : List ℕ
two = once 0 0 7 7 1 1 0 ++ once 1 7 7 7 1 1 0

abbrev large : List ℕ
large = 0x10 ∷ 0 ∷ 0 ∷ 0 ∷ 0 ∷ 0 ∷ 0x0C ∷ []

abbrev spoiled : List ℕ
spoiled = 0 ∷ 0 ∷ 0 ∷ 0 ∷ 0 ∷ 0 ∷ 0x11 ∷ []

abbrev empty : List ℕ
empty = replicate 9 0

abbrev number : List ℕ → ℕ → List ℕ → ℕ → List ℕ → ℕ → ℕ → ℕ
number l page r w window items work = number_of (add_record l [] page r w 0 1 window items 0 work)

orders :
    number (once 0 0 1 10 0 0 0) 2 [] 2 empty 8 4
    ∷ number (entry 0 0 1 10 absent absent 9 0 0 0) 0 [] 2 empty 8 4
    ∷ number (entry 0 0 0 9 absent absent 9 0 0 0) 0 [] 2 empty 8 0
    ∷ number two 0 [] 0 empty 8 3
    ∷ number two 0 [] 0 [] 8 4
    ∷ number two 0 [] 2 (9 ∷ []) 8 4
    ∷ number two 0 [] 2 (replicate 9 9) 8 4
    ∷ number two 0 spoiled 2 empty 8 4
    ∷ number two 0 (spoiled ++ large) 2 empty 8 4
    ∷ number two 0 (large ++ large) 2 empty 7 4
    ∷ number two 0 (large ++ large) 2 empty 8 4
    ∷ number (once 0 0 7 7 1 1 1 ++ once 1 7 7 7 1 1 1) 0 (large ++ large) 2 (0 ∷ 0 ∷ 0 ∷ 1 ∷ 0 ∷ 0 ∷ 0 ∷ 0 ∷ 0 ∷ []) 8 4
    ∷ []
    ≡ 1 ∷ 2 ∷ 3 ∷ 16 ∷ 18 ∷ 16 ∷ 24 ∷ 4 ∷ 8 ∷ 16 ∷ 19 ∷ 19 ∷ []
unfolding add_record before_asks window_asks pair_asks pair_ok summed is_summable is_top items_before lawful_in pair_in word_at values_from values layout_asks checked_of words_ok entries_ok all_below entry_ok place_ok option_ok kind_ok plain_ok up_to spans_ok nested size tree tree_in entry_at record_length furthest reserved_width depends_in some_below decode_record R.seq R.field R.one R.pad R.scalar R.container unrepeated is_pad controls dec says field_of Packed.decode_of
orders = refl

-- the same questions before a changeover, as far as 24; and of a start a display scale that is not below the entries' before the window's length
changes :
    before_asks (once 0 0 1 10 0 0 0) [] 2 2 0 1 empty 4
    ∷ before_asks (entry 0 0 1 10 absent absent 9 0 0 0) [] 0 2 0 1 empty 4
    ∷ before_asks (entry 0 0 0 9 absent absent 9 0 0 0) [] 0 2 0 1 empty 0
    ∷ before_asks two [] 0 0 0 1 empty 3
    ∷ before_asks two [] 0 0 0 1 [] 4
    ∷ before_asks two [] 0 2 0 1 (9 ∷ []) 4
    ∷ before_asks two [] 0 2 0 1 (replicate 9 9) 4
    ∷ before_asks two [] 0 2 0 1 empty 4
    ∷ window_asks two [] 0 2 0 1 1 0 4
    ∷ window_asks two [] 0 2 0 1 0 0 4
    ∷ []
    ≡ 1 ∷ 2 ∷ 3 ∷ 16 ∷ 18 ∷ 16 ∷ 24 ∷ 0 ∷ 18 ∷ 16 ∷ []
unfolding before_asks window_asks pair_asks pair_ok summed is_summable is_top lawful_in layout_asks checked_of words_ok entries_ok all_below entry_ok place_ok option_ok kind_ok plain_ok up_to spans_ok nested size tree tree_in entry_at unrepeated
changes = refl

-- ---- a run: two packed fields of scale 1 in a window of W = 3, shown at scale 0

abbrev shop : List ℕ
shop = once 0 0 2 7 1 1 1 ++ once 1 2 2 7 1 1 1

-- 1.5 and -0.5; 2.5 and 3.5
abbrev half : Event
half = comes (record { bytes = 0x01 ∷ 0x5C ∷ 0x00 ∷ 0x5D ∷ []; items = 8; text = 0; work = 4 })

abbrev next : Event
next = comes (record { bytes = 0x02 ∷ 0x5C ∷ 0x03 ∷ 0x5C ∷ []; items = 8; text = 0; work = 4 })

-- -1.5 and -0.6
abbrev taken_back : Event
taken_back = comes (record { bytes = 0x01 ∷ 0x5D ∷ 0x00 ∷ 0x6D ∷ []; items = 8; text = 0; work = 4 })

-- a record that is too short
abbrev short : Event
short = comes (record { bytes = 0x01 ∷ []; items = 8; text = 0; work = 4 })

abbrev after : List Event → List ℕ
after es = run shop [] 0 3 0 1 es (started 3 1 (replicate 11 7))

-- cut before the changeover, half-even behind it; one that is refused (its work space is too short) changes nothing, and a second one neither; at last the first that
-- is accepted comes behind refusals, between -1.5 cut to -1 and -1.5 rounded to -2
runs :
    after (half ∷ changeover 4 ∷ half ∷ short ∷ changeover 4 ∷ next ∷ [])
    ∷ after (changeover 3 ∷ next ∷ [])
    ∷ after (changeover 4 ∷ half ∷ next ∷ [])
    ∷ after (taken_back ∷ changeover 3 ∷ short ∷ changeover 4 ∷ taken_back ∷ [])
    ∷ []
    ≡ (3 ∷ 5 ∷ 4 ∷ 1 ∷ 1 ∷ 1 ∷ 0 ∷ 2 ∷ 0 ∷ 2 ∷ 4 ∷ [])
    ∷ (1 ∷ 2 ∷ 3 ∷ 1 ∷ 0 ∷ 2 ∷ 3 ∷ 0 ∷ 0 ∷ 0 ∷ 0 ∷ [])
    ∷ (2 ∷ 4 ∷ 4 ∷ 1 ∷ 1 ∷ 2 ∷ 0 ∷ 2 ∷ 4 ∷ 0 ∷ 0 ∷ [])
    ∷ (2 ∷ 18446744073709551613 ∷ 18446744073709551615 ∷ 1 ∷ 1 ∷ 18446744073709551615 ∷ 0 ∷ 18446744073709551614 ∷ 18446744073709551615 ∷ 0 ∷ 0 ∷ [])
    ∷ []
unfolding started changed accepted laid contributed rounded add_record before_asks window_asks pair_asks pair_ok summed is_summable is_top items_before lawful_in pair_in word_at values_from values layout_asks checked_of words_ok entries_ok all_below entry_ok place_ok option_ok kind_ok plain_ok up_to spans_ok nested size tree tree_in entry_at record_length furthest reserved_width depends_in some_below decode_record R.seq R.field R.one R.pad R.scalar R.container unrepeated is_pad controls dec says field_of Packed.decode_of
runs = refl
