-- Refused, or the front cleared with the words behind it kept, and the display word set: `write_done`, `start-cleared`.
use Rattle.std.proofs.Common.{sym, refl, length-take-le}
use Rattle.window.proofs.Asked.{asks-few, asks-long}
use Rattle.window.proofs.Parts.{write_done, start-long, start-cleared}
use Rattle.window.proofs.window_start.Goals as goal

pub words-requires : goal.words-requires
words-requires c = (asks-few _ _ _ _ _ _ _ _ _ (sym c.in_ok-asked.ensures)).1

pub slice_bounds-fill-end : goal.slice_bounds-fill-end
slice_bounds-fill-end c = rw c.words.ensures (asks-long _ _ _ _ _ _ _ _ _ (sym c.in_ok-asked.ensures))

pub slice_bounds-fill-end-2 : goal.slice_bounds-fill-end-2
slice_bounds-fill-end-2 c = sym (length-take-le _ _ (rw c.words.ensures (asks-long _ _ _ _ _ _ _ _ _ (sym c.in_ok-asked.ensures))))

pub bounds-window-3 : goal.bounds-window-3
bounds-window-3 c = start-long _ _ _ _ c.words.ensures (asks-long _ _ _ _ _ _ _ _ _ (sym c.in_ok-asked.ensures)) (c.fill-2.ensures.after (λ y e. e))

pub returns : goal.returns
returns c =
    write_done _ _ _ _ _ _ c.in_ok-asked.ensures (c.fill.ensures.after (λ y e. e)) refl _
    (start-cleared _ _ _ _ c.words.ensures (asks-long _ _ _ _ _ _ _ _ _ (sym c.in_ok-asked.ensures)) (c.fill-2.ensures.after (λ y e. e)) _)
