-- What holds of any run of records and changeovers. 02, S-2: "From a start that zeroes it, with only these calls writing it under one W and pair, the two sums equal
-- after each record those of the last W values, or of all while there are fewer." S-7: "Values already inside keep what they contributed; later ones come in by the
-- new rule. After every record the sums equal those of a fresh window that was told, value by value, which rule applied. A second changeover has no effect."
use Rattle.std.specs.Prelude.{◌≡◌, ℕ, ◌+◌, ◌-◌, ◌*◌, ◌^◌, ◌<◌, ◌≤◌, true, cond, ◌↔◌, List, [], ◌∷◌, ◌++◌, map, length, ◌==◌, ◌≢◌, slice_index}
use Rattle.value.specs.Digits.{signed_of}
use Rattle.value.specs.Rounding.{Nearest}
use Rattle.value.specs.Word.{minus_in, size_in}
use Rattle.layout.specs.Layout.{entries, depends_in}
use Rattle.walks.specs.Kinds.{kinds, start}
use Rattle.walks.specs.Reading as R
use Rattle.walks.specs.Records.{asking, outcome, decode_record}
use Rattle.walks.specs.Records as Records
use Rattle.window.specs.Window.{Pair, firsts, seconds, last_of, sum_in, whole_of, sum_of, held_in, laid, small, started, changed, accepted, Rule, cutting, half_even, contributed, contributed_pair}
use Rattle.window.specs.Pair.{scale_at}
use Rattle.window.specs.Calls.{lawful_asks, window_asks, before_asks, Added, refused, added, add_record, window_after, sum_after}

-- a record of the run, with the lengths of the buffers that are lent for it
pub record Given : Type 0 where
  pub bytes : List ℕ
  pub items : ℕ
  pub text : ℕ
  pub work : ℕ

-- what happens to a window: a record comes, or the changeover is called with a work space of some length
pub data Event : Type 0 where
  comes : Given → Event
  changeover : ℕ → Event

-- the pair of an accepted record
abbrev pub pairs_in : Added → List (Pair ℕ)
pairs_in (refused n) = []
pairs_in (added p) = p ∷ []

-- a window that is told, one behind the other, what the values contribute
abbrev pub tell : ℕ → List (Pair ℕ) → List ℕ → List ℕ
tell w [] window = window
tell w (p ∷ ps) window = tell w ps (accepted w p window)

-- a fresh window under a rule
abbrev pub under : Rule → List ℕ → List ℕ
under cutting window = window
under half_even window = changed window

-- one layout, its masks and its page, one W and pair
module _ (l masks : List ℕ) (page w first second : ℕ) where
  -- the call on one record; the questions of a changeover
  abbrev pub call : Given → List ℕ → Added
  call g window = add_record l masks page g.bytes w first second window g.items g.text g.work

  abbrev pub asked : ℕ → List ℕ → ℕ
  asked work window = before_asks l masks page w first second window work

  -- the window behind one event, and behind the events of a run, accepted and refused mixed
  abbrev pub behind : Event → List ℕ → List ℕ
  behind (comes g) window = window_after (scale_at l first) w window (call g window)
  behind (changeover work) window = cond (asked work window == 0) (changed window) window

  abbrev pub run : List Event → List ℕ → List ℕ
  run [] window = window
  run (e ∷ es) window = run es (behind e window)

  -- the pair that an event brings, as it is read
  abbrev pub brings : Event → List ℕ → List (Pair ℕ)
  brings (comes g) window = pairs_in (call g window)
  brings (changeover work) window = []

  -- the rule behind one event, and behind a run: half-even from the first changeover that is accepted on
  abbrev pub rule_behind : Event → List ℕ → Rule → Rule
  rule_behind (comes g) window rule = rule
  rule_behind (changeover work) window rule = cond (asked work window == 0) half_even rule

  abbrev pub rule_after : List Event → List ℕ → Rule → Rule
  rule_after [] window rule = rule
  rule_after (e ∷ es) window rule = rule_after es (behind e window) (rule_behind e window rule)

  -- what was accepted in a run, as it was read; and what it contributed, value by value under the rule that applied
  abbrev pub accepted_in : List Event → List ℕ → List (Pair ℕ)
  accepted_in [] window = []
  accepted_in (e ∷ es) window = brings e window ++ accepted_in es (behind e window)

  abbrev pub told_in : ℕ → List Event → List ℕ → Rule → List (Pair ℕ)
  told_in display [] window rule = []
  told_in display (e ∷ es) window rule =
      map (contributed_pair (scale_at l first) display rule) (brings e window) ++ told_in display es (behind e window) (rule_behind e window rule)

  -- After a run from a window that was lent and started: it is a fresh one, under the rule by now, that was told these contributions; so every word, what it holds, its
  -- sums as whole numbers; each sum that the next accepted record's call returns (`half`: `firsts`, `seconds`); question 24 is answered yes, so that what is asked before
  -- the next event is not up to the window's words; and a changeover behind an accepted one changes no word.
  module _ (display : ℕ) (lent : List ℕ) (es : List Event) where
    abbrev pub ended : List ℕ
    ended = run es (started w display lent)

    abbrev pub told : List (Pair ℕ)
    told = told_in display es (started w display lent) cutting

    abbrev pub rule_now : Rule
    rule_now = rule_after es (started w display lent) cutting

    abbrev pub fresh : List ℕ
    fresh = under rule_now (started w display lent)

    -- told one pair more, as it is read
    abbrev pub told_with : Pair ℕ → List (Pair ℕ)
    told_with p = told ++ (contributed_pair (scale_at l first) display rule_now p ∷ [])

    pub record Kept : Type 0 where
      pub as_told : ended ≡ tell w told fresh
      pub words : ended ≡ laid (last_of w told) fresh
      pub held : held_in ended ≡ last_of w told
      pub first_sum : whole_of (slice_index ended 1) ≡ sum_of (firsts (last_of w told))
      pub second_sum : whole_of (slice_index ended 2) ≡ sum_of (seconds (last_of w told))
      pub returned : (half : List (Pair ℕ) → List ℕ) (g : Given) (p : Pair ℕ) → call g ended ≡ added p
          → sum_after half (scale_at l first) w ended (call g ended) ≡ sum_of (half (last_of w (told_with p)))
      pub lawful : lawful_asks w (scale_at l first) ended ≡ 0
      pub asks : (work : ℕ) → asked work ended ≡ window_asks l masks page w first second 0 (length lent) work
      pub again : rule_now ≡ half_even → changed ended ≡ ended

-- Of every run: only that the start was accepted is asked.
abbrev pub RunsKept : Type 0
RunsKept = (l masks : List ℕ) (page w first second display work : ℕ) (lent : List ℕ) (es : List Event)
    → window_asks l masks page w first second display (length lent) work ≡ 0 → Kept l masks page w first second display lent es

-- Without a display scale each value contributes itself, by either rule: so these are S-2's sums.
abbrev pub WithoutDisplay : Type 0
WithoutDisplay = (l masks : List ℕ) (page w first second : ℕ) (es : List Event) (window : List ℕ) (rule : Rule)
    → told_in l masks page w first second 0 es window rule ≡ accepted_in l masks page w first second es window

-- "Values already inside keep what they contributed": a changeover leaves each word but that of the rule.
abbrev pub ChangeKeeps : Type 0
ChangeKeeps = (window : List ℕ) (k : ℕ) → (k ≢ 4) → slice_index (changed window) k ≡ slice_index window k

-- ---- what each rule takes

-- q is n / d cut: the greatest whole number that is not above it
pub record Cut (n d q : ℕ) : Type 0 where
  pub within : q * d ≤ n
  pub greatest : (m : ℕ) → m * d ≤ n → m ≤ q

-- What a value that 19 lets pass contributes at a display scale: by cutting the greatest size not above its own, by half-even rounding the nearest; and its sign.
pub record Contributes (scale display x : ℕ) : Type 0 where
  pub cut : Cut (size_in x) (10 ^ (scale - (display - 1))) (size_in (contributed scale display cutting x))
  pub nearest : Nearest (size_in x) (10 ^ (scale - (display - 1))) (size_in (contributed scale display half_even x))
  pub signed : (rule : Rule) → whole_of (contributed scale display rule x) ≡ signed_of (minus_in x) (size_in (contributed scale display rule x))

abbrev pub EachContributes : Type 0
EachContributes = (scale display x : ℕ) → 0 < display → small x ≡ true → Contributes scale display x

-- ---- the questions

-- Behind the questions before 24 the layout's are passed, so the reader refuses by its own alone: 4 of the record, or what its walk says.
abbrev pub ReaderOwn : Type 0
ReaderOwn = (l masks : List ℕ) (page w first second display words : ℕ) (r : List ℕ) (items text work : ℕ) → window_asks l masks page w first second display words work ≡ 0
    → decode_record l masks page r items text work
    ≡ asking Records.refused (Records.record_asks l (length r) (depends_in l)) (outcome (R.seq ◌+◌ (kinds masks page [] text) r (entries l) 0 0 items start))

-- Question 24 on a sum's word says that the word is the sum of the whole numbers, and nothing else: of at most 4,096 words of a lawful window.
abbrev pub SumsExact : Type 0
SumsExact = (xs : List ℕ) (s : ℕ) → s < 2 ^ 64 → length xs ≤ 4096 → ((k : ℕ) → k < length xs → small (slice_index xs k) ≡ true)
    → ((s == sum_in xs) ≡ true) ↔ (whole_of s ≡ sum_of xs)
