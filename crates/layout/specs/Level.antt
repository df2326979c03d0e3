-- What an iterator over a level still has to yield.
use Rattle.std.specs.Prelude.{List, ℕ}
use Rattle.layout.specs.declared.Entry.{Entry}
use Rattle.layout.specs.declared.Level.{Level}
use Rattle.layout.specs.Layout.{part}
use Rattle.spans.specs.Tree.{level}

unfoldable pub entries_left : Level → List (ℕ × Entry)
entries_left s = level s.at (part s.layout.words.now s.at s.to)
