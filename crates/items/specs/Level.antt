-- What an iterator over a level still has to yield.
use Rattle.std.specs.Prelude.{List, ℕ}
use Rattle.items.specs.declared.Item.{Item}
use Rattle.items.specs.declared.Level.{Level}
use Rattle.items.specs.Items.{values}
use Rattle.spans.specs.Tree.{level}

unfoldable pub items_left : Level → List (ℕ × Item)
items_left s = level s.at (values s.list.items.now s.at s.to)
