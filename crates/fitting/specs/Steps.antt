-- The walk that decides a fit, as its loops go: the run of counts and the number of text bytes so far are carried along. A law joins it to `fitted`.
use Rattle.std.specs.Prelude.{Bool, true, false, ◌&&◌, cond, List, [], ℕ, ◌+◌, eqb, ℤ, replicate}
use Rattle.codes.specs.Codes.{tag_text, tag_list, tag_struct, element}
use Rattle.layout.specs.declared.Entry.{Entry}
use Rattle.layout.specs.Layout.{is_group, unrepeated, is_pad}
use Rattle.spans.specs.Tree.{Tree, none, node}
use Rattle.items.specs.declared.Item.{Item}
use Rattle.items.specs.Items.{Values, count, head_of, members_of, scalar_in}
use Rattle.walks.specs.Walk.{values_after, how_many}
use Rattle.walks.specs.Kinds.{State}
use Rattle.walks.specs.Decide.{Fit, misfit, fit, bind, guard, holds, good_of, numbers}
use Rattle.decode_leaf.specs.Counts.{note_in, held_in}

-- the run of counts, and the number of text bytes so far
pub record Progress : Type 0 where
  pub run : List ℤ
  pub told : ℕ

abbrev pub fits : List ℤ → ℕ → Fit Progress
fits run told = fit (record { run = run; told = told })

abbrev pub Fitter : Type 0
Fitter = Values → List ℤ → ℕ → Fit Progress

-- the first item is a List or Struct of its members, under this name
abbrev pub headed : ℕ → ℕ → Values → Bool
headed name tag none = false
headed name tag (node it ns vs) = holds name tag it ns

-- a state with so many text bytes: how many is all that an item asks of it
abbrev pub saying : ℕ → State
saying told = record { counts = []; text = replicate told 0 }

-- the name of an entry's element
abbrev pub name_of : Entry → ℕ
name_of e = cond (unrepeated e) e.name element

abbrev pub told_after : Item → ℕ → ℕ
told_after it told = told + cond (eqb it.tag tag_text) it.b 0

-- the first item is a List of as many elements as a table has
unfoldable pub tabled : List ℕ → Entry → Values → List ℤ → Bool
tabled l e vs run = headed e.name tag_list vs && numbers (how_many (λ name r. held_in l name r) e run) (count (members_of vs))

-- the first item is a scalar that fits an entry, under this name
abbrev pub good : List ℕ → List ℕ → Entry → ℕ → Values → ℕ → Bool
good masks source e name none told = false
good masks source e name (node it ns vs) told = good_of masks source e name it ns (saying told)

module _ (l masks source : List ℕ) where
  unfoldable pub leaf : Entry → Fitter
  leaf e vs run told =
      guard (good masks source e (name_of e) vs told) (fits (note_in l true e (scalar_in (head_of vs)) run) (told_after (head_of vs) told))

  unfoldable pub one : Entry → Fitter → Fitter
  one e inner vs run told = cond (is_group e) (guard (headed (name_of e) tag_struct vs) (inner (members_of vs) run told)) (leaf e vs run told)

  unfoldable pub each : Entry → Fitter → Fitter
  each e inner none run told = fits run told
  each e inner (node it ns vs) run told = bind (one e inner (node it ns vs) run told) (λ s. each e inner vs s.run s.told)

  unfoldable pub field : Entry → Fitter → Fitter
  field e inner vs run told =
      cond (is_pad e) (fits run told)
      (cond (unrepeated e) (one e inner vs run told)
      (guard (tabled l e vs run) (each e inner (members_of vs) run told)))

  unfoldable pub seq : Tree Entry → Fitter
  seq none none run told = fits run told
  seq none (node it ns vs) run told = misfit
  seq (node e ms rest) vs run told = bind (field e (λ ns r n. seq ms ns r n) vs run told) (λ s. seq rest (values_after e vs) s.run s.told)
