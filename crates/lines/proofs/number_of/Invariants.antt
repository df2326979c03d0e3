use Rattle.std.proofs.Common.{◌≡◌, ◌<◌, drop}
use Rattle.codes.specs.Codes.{absent}
use Rattle.lines.specs.Lines.{number_of}
use Rattle.lines.proofs.Laws.{number_from}
use Rattle.lines.proofs.number_of.Given as goal

abbrev pub invariant-loop-x : goal.invariant-loop-x
invariant-loop-x l = record { below : l.v < absent; so_far : number_of l.part ≡ number_from l.v (drop l.x-index l.part) }
