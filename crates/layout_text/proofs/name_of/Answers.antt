-- A text that is read has lines to the last entry (`names_last`); the check finds the rest.
use Rattle.layout_text.proofs.Spellings.{names_last}
use Rattle.layout_text.proofs.name_of.Goals as goal

pub spelled-requires : goal.spelled-requires
spelled-requires c = names_last c.args.text.now c.in-Ok.reading c.in-Ok.ensures.value c.in-Ok.ensures.short
