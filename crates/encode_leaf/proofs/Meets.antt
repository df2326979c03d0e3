-- How a function comes to what its answer says.
use mathlib.Core.Path.{◌≡◌, sym, ap, ◌∙◌}
use mathlib.Core.List.{List}
use Prim.Native.Nat.{ℕ}
use Rattle.std.specs.Prelude.{Result, Ok, Err}
use Rattle.std.specs.Result.{IsErrAnd}
use Rattle.codes.specs.declared.Refusal.{Refusal}
use Rattle.codes.specs.Refusals.{number_of}
use Rattle.encode_leaf.specs.declared.Out.{Out}
use Rattle.encode_leaf.specs.Laying.{Laid, refused}
use Rattle.encode_leaf.specs.Machine.{laid_in}

-- an inner refusal is passed on
pub stopped : {o : Laid} (r : Result Out Refusal) (e : Refusal) (b : List ℕ) → IsErrAnd r (λ x. x ≡ e) → o ≡ refused (number_of e) → laid_in r b ≡ o
stopped (Err x) e b h p = ap (λ y. refused (number_of y)) h ∙ sym p
stopped (Ok x) e b h p = absurd h
