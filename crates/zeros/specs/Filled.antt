-- What a lent buffer of so many cells holds behind what a call gives: "unused output is zero".
use Rattle.std.specs.Prelude.{List, ◌++◌, ℕ, ◌-◌, length, replicate}

abbrev pub filled : ℕ → List ℕ → List ℕ
filled room given = given ++ replicate (room - length given) 0
