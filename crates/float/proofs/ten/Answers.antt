-- `float::ten` meets its contract: each entry of the table is the f64 nearest to its power of ten, which antt computes.
use Rattle.std.proofs.Common.{◌≡◌, ℕ, ◌^◌, List, [], ◌∷◌, pos, refl}
use lib.Ieee.{Float, binary64, of_bits, of_int}
use Rattle.float.proofs.Powers.{entry}
use Rattle.float.proofs.ten.Goals as goal

abbrev f : ℕ → Float
f b = of_bits binary64 b

abbrev tens : List Float
tens =
    f 4607182418800017408 ∷ f 4621819117588971520 ∷ f 4636737291354636288 ∷ f 4652007308841189376 ∷ f 4666723172467343360 ∷ f 4681608360884174848 ∷ f 4696837146684686336 ∷ f 4711630319722168320 ∷ f 4726483295884279808 ∷ f 4741671816366391296 ∷ f 4756540486875873280 ∷ f 4771362005757984768 ∷ f 4786511204640096256 ∷ f 4801453603149578240 ∷ f 4816244402031689728 ∷ f 4831355200913801216 ∷ f 4846369599423283200 ∷ f 4861130398305394688 ∷ f 4876203697187506176 ∷ []

pub returns : goal.returns
unfolding of_bits of_int
returns c =
    entry (λ (k : ℕ) (x : Float). x ≡ of_int binary64 (pos (10 ^ k))) tens
    (refl, (refl, (refl, (refl, (refl, (refl, (refl, (refl, (refl, (refl, (refl, (refl, (refl, (refl, (refl, (refl, (refl, (refl, (refl, tt)))))))))))))))))))
    c.args.k c.requires
