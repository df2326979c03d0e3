-- Fitting lists decided by a function.
use Rattle.std.specs.Prelude.{Bool, true, false, ◌&&◌, ◌||◌, not, cond, List, [], ◌∷◌, ℕ, suc, ◌^◌, eqb, ltb, length}
use Rattle.codes.specs.Codes.{tag_text, tag_list, tag_struct, element}
use Rattle.layout.specs.declared.Entry.{Entry}
use Rattle.layout.specs.Layout.{is_group, is_pad, unrepeated, entries}
use Rattle.spans.specs.Tree.{Tree, none, node, size}
use Rattle.items.specs.declared.Item.{Item}
use Rattle.items.specs.Items.{Values, item_count, scalar_in, text_of, missing, values, count, scalar_ok, well_formed}
use Rattle.fits.specs.Decide.{fits_of}
use Rattle.walks.specs.Walk.{Many, never, times, how_many}
use Rattle.walks.specs.Kinds.{State, start, held, mask_of}
use Rattle.walks.specs.Fitting.{after}

-- no fit; or the state behind what fits
pub data Fit (S : Type 0) : Type 0 where
  misfit : Fit S
  fit : S → Fit S

abbrev pub bind : {S : Type 0} → Fit S → (S → Fit S) → Fit S
bind misfit f = misfit
bind (fit s) f = f s

abbrev pub guard : {S : Type 0} → Bool → Fit S → Fit S
guard true x = x
guard false x = misfit

abbrev pub numbers : Many → ℕ → Bool
numbers (never m) n = false
numbers (times m) n = eqb m n

-- a List or Struct of these members, under this name
unfoldable pub holds : ℕ → ℕ → Item → Values → Bool
holds name tag it members = eqb it.name name && (eqb it.tag tag && (eqb it.a (count members) && eqb it.b (suc (size members))))

module _ (masks source : List ℕ) where
  -- a scalar item that fits an entry, under this name
  unfoldable pub good_of : Entry → ℕ → Item → Values → State → Bool
  good_of e name it members s =
      eqb it.name name && (missing members && (scalar_ok (length source) it && (ltb it.a (2 ^ 64)
      && (fits_of e.p e.q e.r e.s (mask_of masks e) e.width e.kind (scalar_in it) (text_of source it)
      && (not (eqb it.tag tag_text) || eqb it.a (length s.text))))))

  unfoldable pub each_fits : Entry → (Values → State → Fit State) → Values → State → Fit State
  each_fits e inner none s = fit s
  each_fits e inner (node it ns vs) s =
      cond (is_group e) (guard (holds element tag_struct it ns) (bind (inner ns s) (λ s₁. each_fits e inner vs s₁)))
      (guard (good_of e element it ns s) (each_fits e inner vs (after source e it s)))

  unfoldable pub first : Entry → (Values → State → Fit State) → Values → State → (Values → State → Fit State) → Fit State
  first e inner none s next = misfit
  first e inner (node it ns vs) s next =
      cond (unrepeated e)
      (cond (is_group e) (guard (holds e.name tag_struct it ns) (bind (inner ns s) (next vs))) (guard (good_of e e.name it ns s) (next vs (after source e it s))))
      (guard (holds e.name tag_list it ns && numbers (how_many held e s) (count ns)) (bind (each_fits e inner ns s) (next vs)))

  unfoldable pub fitted : Tree Entry → Values → State → Fit State
  fitted none none s = fit s
  fitted none (node it ns vs) s = misfit
  fitted (node e ms rest) vs s =
      cond (is_pad e) (fitted rest vs s) (first e (λ ns s₁. fitted ms ns s₁) vs s (λ vs₁ s₁. fitted rest vs₁ s₁))

abbrev pub same : List ℕ → List ℕ → Bool
same [] [] = true
same [] (y ∷ ys) = false
same (x ∷ xs) [] = false
same (x ∷ xs) (y ∷ ys) = eqb x y && same xs ys

abbrev pub text_is : List ℕ → Fit State → Bool
text_is text misfit = false
text_is text (fit s) = same s.text text

-- the layout's words, its masks, the items' words, the texts
unfoldable pub fitting : List ℕ → List ℕ → List ℕ → List ℕ → Bool
fitting l masks items text = well_formed items (length text) && text_is text (fitted masks text (entries l) (values items 0 (item_count items)) start)
