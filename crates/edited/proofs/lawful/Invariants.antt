use Rattle.std.proofs.Common.{◌≡◌, drop}
use Rattle.edited.specs.Edited.{lawful_from, is_lawful}
use Rattle.edited.proofs.lawful.Given as goal

abbrev pub invariant-loop-c : goal.invariant-loop-c
invariant-loop-c l = is_lawful l.mask ≡ lawful_from l.prev (drop l.c-index l.mask)
