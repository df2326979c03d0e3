-- Demand 3 speaks of something: a layout of every kind, and a table under depending in a repeated group, each with a fitting list.
use mathlib.Core.List.{[], ◌∷◌}
use native.Mathlib.Omega.{arith}
use Prim.Native.Nat.{◌≤◌}
use Rattle.spans.specs.Tree.{tree, tree_in}
use Rattle.layout.specs.Layout.{entry_at, reserved_width, furthest, record_length, unrepeated, is_pad}
use Rattle.items.specs.Items.{values, count, lookup}
use Rattle.walks.specs.Records.{most}
use Rattle.walks.specs.Needs as N
use Rattle.walks.specs.Needs.{needed}
use Rattle.walks.specs.Demand.{Kept}
use Rattle.walks.specs.Worked.{boxes, boxed, boxes-plain, boxes-fit, every, every_mask, every_item, every_text, every-plain, every-fits}
use Rattle.walks.proofs.Decided.{fitting-sound}
use Rattle.walks.proofs.Demand3.{demand-3}

every-small : needed every every_item ≤ most
unfolding needed N.seq N.field N.long N.elements N.one record_length furthest reserved_width tree tree_in entry_at values count lookup unrepeated is_pad
every-small = omega arith

pub every-kept : Kept every every_mask 1 every_item every_text
every-kept = demand-3 every every_mask 1 every_item every_text every-plain (fitting-sound every every_mask every_item every_text every-fits) every-small

boxes-small : needed boxes boxed ≤ most
unfolding needed N.seq N.field N.long N.elements N.one record_length furthest reserved_width tree tree_in entry_at values count lookup unrepeated is_pad
boxes-small = omega arith

pub boxes-kept : Kept boxes [] 1 boxed (0x61 ∷ 0x62 ∷ [])
boxes-kept = demand-3 boxes [] 1 boxed (0x61 ∷ 0x62 ∷ []) boxes-plain (fitting-sound boxes [] boxed (0x61 ∷ 0x62 ∷ []) boxes-fit) boxes-small
