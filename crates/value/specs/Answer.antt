-- What is answered where a question may refuse.
use Rattle.std.specs.Prelude.{ℕ, Result, Ok, Err}
use Rattle.codes.specs.declared.Refusal.{Refusal}
use Rattle.codes.specs.Refusals.{number_of}

-- the number of the question that refuses, or a value
pub data Answer (A : Type 0) : Type 0 where
  refused : ℕ → Answer A
  given : A → Answer A

-- what a function's result answers: "the promises use a definition that gives this paper's number and values for each of its cases"
abbrev pub answered : {A : Type 0} → Result A Refusal → Answer A
answered (Ok x) = given x
answered (Err e) = refused (number_of e)
