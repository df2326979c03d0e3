-- How a reader from the left finds out what a text of digits alone spells: one turn of the loop, and its end.
use mathlib.Core.Path.{◌≡◌, sym, ap}
use mathlib.Core.List.{List, map}
use mathlib.Core.Bool.{Bool, true, false, cond}
use Prim.Native.Nat.{ℕ, suc, ◌+◌, ◌*◌, ◌<◌, ◌≤◌, min}
use native.Mathlib.Numerals.{add-one}
use lib.ListN.{length, get_or, drop, drop_of_length-le, length-map}
use lib.Seq.{drop-cons}
use borrow.Author.Tests.{lt-ltb}
use Rattle.value.specs.Answer.{Answer}
use Rattle.value.specs.Digits.{value_from, is_digit, digit_in}
use Rattle.value.specs.declared.Whole.{Whole}
use Rattle.value.specs.Number.{read_in, unlawful}
use Rattle.value.proofs.Digits.{cap-answer}
use Rattle.value.proofs.Answers.{read-capped}
use Rattle.lists.specs.Scan.{every_by}
use Rattle.display.specs.Display.{digits_in}

-- ---- digits alone, behind a size that is read already

unfoldable pub whole_from : ℕ → Bool → ℕ → List ℕ → Answer Whole
whole_from bound negative v s = cond (every_by is_digit s) (read_in bound negative (value_from v (map digit_in s))) unlawful

module _ (g : ℕ → ℕ) (s : List ℕ) (bound : ℕ) (negative : Bool) where
  pub digits-none : length s ≡ 0 → digits_in bound negative (map g s) ≡ unlawful
  unfolding digits_in
  digits-none h = rw (length-map s g, h)

  pub digits-some : 0 < length s → digits_in bound negative (map g s) ≡ whole_from bound negative 0 (map g s)
  unfolding digits_in whole_from
  digits-some h = rw (length-map s g, lt-ltb 0 (length s) h)

  pub whole-bad : (i v : ℕ) → i < length s → is_digit (g (get_or s i 0)) ≡ false → whole_from bound negative v (map g (drop i s)) ≡ unlawful
  unfolding whole_from every_by
  whole-bad i v below e = rw (drop-cons s i 0 below, e)

  pub whole-go : (i v next : ℕ) → i < length s → is_digit (g (get_or s i 0)) ≡ true → next ≡ min (v * 10 + digit_in (g (get_or s i 0))) bound
      → whole_from bound negative v (map g (drop i s)) ≡ whole_from bound negative next (map g (drop (i + 1) s))
  unfolding whole_from every_by
  whole-go i v next below e n =
      rw (add-one, n, drop-cons s i 0 below, e)
      (ap (λ (m : Answer Whole). cond (every_by is_digit (map g (drop (suc i) s))) m unlawful)
      (sym (cap-answer (read_in bound negative) bound (read-capped bound negative) (v * 10 + digit_in (g (get_or s i 0))) (map digit_in (map g (drop (suc i) s))))))

  pub whole-end : (i v : ℕ) → length s ≤ i → whole_from bound negative v (map g (drop i s)) ≡ read_in bound negative v
  unfolding whole_from every_by
  whole-end i v h = rw (drop_of_length-le s h)
