-- A refusal's number is not 0: a result is Ok exactly where its number is 0. What the exit of a `?` returns is the refusal as it is.
use mathlib.Core.Path.{◌≡◌, refl, sym, ap}
use mathlib.Core.Bool.{true, false, false≢true}
use native.Mathlib.Omega.{arith}
use Rattle.std.specs.Prelude.{Result, Ok, Err, is_err}
use Rattle.std.specs.Result.{IsErrAnd}
use Rattle.codes.specs.declared.Refusal.{Refusal}
use Rattle.codes.specs.declared.Refusal.TheVariants.{LayoutWords, EntryWords, Nesting, RecordLength, NoController, CountRange, OutsideRecord, UnlawfulBytes, OutOfRange, EmptyElement}
use Rattle.codes.specs.declared.Refusal.TheVariants.{IllFormedList, MissingName, WrongKind, Misfit, Mask, NoRoom, LayoutText, PairOrDisplay, LargeValue, NotKept, WindowWords}
use Rattle.codes.specs.Refusals.{number_of, number_in}

pub some_number : (e : Refusal) → number_of e ≡ 0 → ⊥
some_number LayoutWords h = absurd (omega arith)
some_number EntryWords h = absurd (omega arith)
some_number Nesting h = absurd (omega arith)
some_number RecordLength h = absurd (omega arith)
some_number NoController h = absurd (omega arith)
some_number CountRange h = absurd (omega arith)
some_number OutsideRecord h = absurd (omega arith)
some_number UnlawfulBytes h = absurd (omega arith)
some_number OutOfRange h = absurd (omega arith)
some_number EmptyElement h = absurd (omega arith)
some_number IllFormedList h = absurd (omega arith)
some_number MissingName h = absurd (omega arith)
some_number WrongKind h = absurd (omega arith)
some_number Misfit h = absurd (omega arith)
some_number Mask h = absurd (omega arith)
some_number NoRoom h = absurd (omega arith)
some_number LayoutText h = absurd (omega arith)
some_number PairOrDisplay h = absurd (omega arith)
some_number LargeValue h = absurd (omega arith)
some_number NotKept h = absurd (omega arith)
some_number WindowWords h = absurd (omega arith)

pub refused : {A : Type 0} (r : Result A Refusal) → is_err r ≡ true → number_in r ≡ 0 → ⊥
refused (Ok x) e h = false≢true e
refused (Err x) e h = some_number x h

pub accepted : {A : Type 0} (r : Result A Refusal) → is_err r ≡ false → number_in r ≡ 0
accepted (Ok x) e = refl
accepted (Err x) e = absurd (false≢true (sym e))

pub passed-on : {A : Type 0} (r : Result A Refusal) (e : Refusal) → IsErrAnd r (λ x. x ≡ e) → r ≡ Err e
passed-on (Err x) e h = ap Err h
passed-on (Ok x) e h = absurd h
