-- What the reader of a line answers, by what was found behind its word: as `line_by`, `number_line` and `option_line` say.
use mathlib.Core.Path.{◌≡◌, refl, ap, ◌∙◌}
use mathlib.Core.Bool.{Bool, true, false, ◌&&◌, ◌||◌, cond}
use mathlib.Core.List.{List}
use Prim.Native.Nat.{ℕ, ◌-◌}
use native.Mathlib.Omega.{arith}
use lib.Dec.{ltb}
use lib.ListN.{take, drop}
use Rattle.lists.specs.Scan.{every_by}
use Rattle.value.specs.Digits.{is_digit}
use Rattle.codes.specs.Codes.{absent}
use Rattle.value.specs.Answer.{Answer, refused, given}
use Rattle.lines.specs.declared.Found.{Found}
use Rattle.lines.specs.Lines.{Place, place, value_at, leads, spelled, number_of}
use Rattle.layout_text.specs.Form.{is_none, is_value, worth, is_number, optional}
use Rattle.layout_text.specs.Reading.{or_absent}
use Rattle.layout_text.specs.Walk.{bytes_of, passed_by, line_by, with_next, read_by, number_by, numbered, option_of, number_line, option_line}

-- a number is refused by 17
number_of-17 : (s : List ℕ) (q : ℕ) → refused q ≡ number_of s → q ≡ 17
unfolding number_of
number_of-17 s q e = by (leads s && (every_by is_digit s && ltb (spelled s) absent)) e
  where
    by : (t : Bool) → refused q ≡ cond t (given (spelled s)) (refused 17) → q ≡ 17
    by true r = let z : ◌≡◌ {A = ℕ} 0 1 = cc in absurd (omega arith)
    by false r = cc

module _ (word text : List ℕ) (at : ℕ) where
  pub by_refused : (test : List ℕ → Bool) (q : ℕ) → refused q ≡ value_at word text at → refused q ≡ line_by test word text at
  unfolding line_by
  by_refused test q e = rw (← e) refl

  pub read_refused : (reads : List ℕ → Answer ℕ) (q : ℕ) → refused q ≡ value_at word text at → refused q ≡ number_by reads word text at
  unfolding number_by
  read_refused reads q e = rw (← e) refl

  module _ (f : Found) (e : given (place f.start f.end f.next) ≡ value_at word text at) where
    pub by_passed : (test : List ℕ → Bool) → test (bytes_of text f) ≡ true → given f ≡ line_by test word text at
    unfolding line_by
    by_passed test t = rw (← e, t) refl

    pub by_failed : (test : List ℕ → Bool) → test (bytes_of text f) ≡ false → refused 17 ≡ line_by test word text at
    unfolding line_by
    by_failed test t = rw (← e, t) refl

    pub read_found : (reads : List ℕ → Answer ℕ) (v : ℕ) → given v ≡ reads (bytes_of text f) → given (record { value = v; next = f.next }) ≡ number_by reads word text at
    unfolding number_by
    read_found reads v q = rw (← e, ← q) refl

    pub read_failed : (reads : List ℕ → Answer ℕ) (q : ℕ) → refused q ≡ reads (bytes_of text f) → refused q ≡ number_by reads word text at
    unfolding number_by
    read_failed reads q r = rw (← e, ← r) refl

  -- a value that a reader reads is one that a test passes, with its number
  same : (reads : List ℕ → Answer ℕ) (test : List ℕ → Bool) (value : List ℕ → ℕ) (p : Answer Place)
      → ((s : List ℕ) (n : ℕ) → with_next n (reads s) ≡ cond (test s) (given (record { value = value s; next = n })) (refused 17))
      → read_by reads text p ≡ numbered (λ f. value (bytes_of text f)) (passed_by test text p)
  same reads test value (refused q) h = refl
  same reads test value (given (place a e n)) h = h (take (e - a) (drop a text)) n ∙ by (test (take (e - a) (drop a text)))
    where
      by : (t : Bool) → cond t (given (record { value = value (take (e - a) (drop a text)); next = n })) (refused 17)
          ≡ numbered (λ f. value (bytes_of text f)) (cond t (given (record { start = a; end = e; next = n })) (refused 17))
      by true = refl
      by false = refl

  -- the same of one value
  one : (s : List ℕ) (n : ℕ) (r : Answer ℕ) → r ≡ number_of s → with_next n r ≡ cond (is_value r) (given (record { value = worth r; next = n })) (refused 17)
  one s n (given v) e = refl
  one s n (refused q) e = ap refused (number_of-17 s q e)

  pub number_is : number_by number_of word text at ≡ number_line word text at
  unfolding number_by line_by
  number_is = same number_of is_number (λ s. worth (number_of s)) (value_at word text at) (λ s n. one s n (number_of s) refl)

  pub option_is : number_by option_of word text at ≡ option_line word text at
  unfolding number_by line_by
  option_is = same option_of (optional is_number) (λ s. or_absent s (worth (number_of s))) (value_at word text at) (λ s n. by s n (is_none s))
    where
      by : (s : List ℕ) (n : ℕ) (t : Bool) → with_next n (cond t (given absent) (number_of s))
          ≡ cond (t || is_number s) (given (record { value = cond t absent (worth (number_of s)); next = n })) (refused 17)
      by s n true = refl
      by s n false = one s n (number_of s) refl
