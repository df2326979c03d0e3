-- A good item's text ends inside the texts, so that the sum is small.
use Rattle.std.proofs.Common.{sym, arith}
use Rattle.items.specs.Items.{values}
use Rattle.fitting.proofs.Turns.{leaf-not, leaf-within, leaf-is}
use Rattle.fitting.proofs.fit_leaf.Goals as goal

pub returns-then-not-is_good : goal.returns-then-not-is_good
returns-then-not-is_good c = sym (leaf-not _ _ _ _ _ _ _ _ c.is_unrepeated.ensures _ c.element_name-name.ensures _ c.is_good.ensures c.if-not-is_good.true)

pub overflow_add-result : goal.overflow_add-result
overflow_add-result c =
    let a = c.args in
    omega (
      arith,
      leaf-within a.layout.now.words.now a.layout.now.masks.now a.list.now.text.now a.e (values a.list.now.items.now a.j a.to) a.counts.now a.told _ c.is_unrepeated.ensures _
          c.element_name-name.ensures
          _ c.is_good.ensures c.if-not-is_good.false _ c.fetch-it.ensures _ c.text_size.ensures,
    )

pub returns : goal.returns
returns c =
    sym (leaf-is _ _ _ _ _ _ _ _ c.is_unrepeated.ensures _ c.element_name-name.ensures _ c.is_good.ensures c.if-not-is_good.false c.fetch-it.result c.fetch-it.ensures
    _ c.text_size.ensures _ c.scalar.ensures _ c.note.ensures)
