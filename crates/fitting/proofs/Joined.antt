-- The walk as its loops go is the walk that decides: the run stands for the counts set, and the texts so far are the first bytes of the texts.
use mathlib.Core.Path.{◌≡◌, refl, sym, ap, ap₂, ◌∙◌, subst, subst⁻¹}
use mathlib.Core.Bool.{Bool, true, false, ◌&&◌, ◌||◌, not, cond, true≢false}
use mathlib.Core.List.{List, [], ◌∷◌, ◌++◌}
use Prim.Native.Nat.{ℕ, zero, suc, ◌+◌, ◌-◌, ◌^◌, ◌<◌, ◌≤◌}
use native.Mathlib.Omega.{arith}
use lib.Dec.{eqb, leb, ltb}
use lib.IntN.{ℤ, pos}
use lib.Ieee.{binary64, of_bits, nan_bits}
use lib.ListN.{length, take, drop, replicate, length-replicate, take-append-drop}
use lib.Seq.{length-take-le, take-append-add}
use borrow.Author.Tests.{eq-eqb, ne_eqb, eqb-true, eqb-false, lt-ltb, ltb-true, leb-false, le-leb}
use Rattle.spans.specs.Tree.{Tree, none, node, end_of, tree_in, tree}
use Rattle.lists.proofs.Logic.{and_left, and_right}
use Rattle.layout.specs.declared.Entry.{Entry}
use Rattle.std.specs.Prelude.{⊤, Result, is_err}
use Rattle.codes.specs.declared.Refusal.{Refusal}
use Rattle.codes.specs.Refusals.{number_in}
use Rattle.codes.proofs.Refusals as Refusals
use Rattle.layout.specs.Layout.{part, work_for, present, entry_at, entry_count, span_of, is_group, entries, unrepeated, is_pad, controls}
use Rattle.items.specs.declared.Item.{Item}
use Rattle.items.specs.Items.{Values, item_count, values, count, head_of, members_of, rest_of, scalar_ok, well_formed, text_of, scalar_in, missing}
use Rattle.value.specs.declared.Scalar.{Scalar}
use Rattle.value.specs.declared.Scalar.TheVariants.{Null, Text, Int, Decimal, Float as FloatV, FloatBits, Bool as BoolV}
use Rattle.value.specs.Scalar.{scalar_of, float_of}
use Rattle.value.specs.Word.{minus_in, size_in}
use Rattle.decode_scalar.specs.Decode.{value}
use Rattle.fits.specs.Decide.{fits_of}
use Rattle.walks.specs.Walk.{times, at_most, how_many}
use Rattle.walks.specs.Kinds.{Count, State, start, held, mask_of, noted}
use Rattle.walks.specs.Fitting.{after}
use Rattle.walks.specs.Decide.{Fit, misfit, fit, bind, guard, numbers, holds, good_of, each_fits, first, fitted, same, text_is, fitting}
use Rattle.decode_leaf.specs.Counts as Counts
use Rattle.decode_leaf.specs.Counts.{note_in, held_in}
use Rattle.decode_leaf.proofs.Stands.{Stands, stands-none, first_some}
use Rattle.decode_leaf.proofs.Joined.{Ranged, noted-stands}
use Rattle.fitting.specs.Steps.{Progress, fits, Fitter, saying, name_of, told_after, tabled, leaf, one, each, field, seq}
use Rattle.fitting.proofs.Asks.{text-within}

-- ---- a number that is not negative is below 2^63

by : (b : Bool) (x y : Scalar) → Ranged (value x) → Ranged (value y) → Ranged (value (cond b x y))
by true x y f g = f
by false x y f g = g

size_small : (a : ℕ) → a < 2 ^ 64 → (minus_in a && ltb 0 (size_in a)) ≡ false → size_in a < 9223372036854775808
size_small a h e = go (leb (2 ^ 63) a) refl e
  where
    go : (b : Bool) → leb (2 ^ 63) a ≡ b → (b && ltb 0 (cond b (2 ^ 64 - a) a)) ≡ false → cond b (2 ^ 64 - a) a < 9223372036854775808
    go true q f = absurd (true≢false (sym (lt-ltb 0 (2 ^ 64 - a) (omega (arith, h))) ∙ f))
    go false q f = omega (arith, leb-false (2 ^ 63) a q)

scalar-ranged : (tag a b : ℕ) → a < 2 ^ 64 → Ranged (value (scalar_of tag a b))
unfolding scalar_of
scalar-ranged tag a b h =
    by (eqb tag 1) (Text a b) _ tt
    (by (eqb tag 2) (Int (minus_in a) (size_in a)) _ (size_small a h)
    (by (eqb tag 3) (Decimal (minus_in a) (size_in a) b) _ (size_small a h)
    (by (eqb tag 4) (float_of a) _ (by (nan_bits binary64 a) (FloatBits a) (FloatV (of_bits binary64 a)) tt tt)
    (by (eqb tag 5) (BoolV (eqb a 1)) Null tt tt))))

-- ---- the two answers

module _ (l masks source : List ℕ) where
  pub record Rel (s : State) (run : List ℤ) (told : ℕ) : Type 0 where
    pub stands : Stands l s.counts run
    pub text : s.text ≡ take told source
    pub within : told ≤ length source

  pub data Alike : Fit State → Fit Progress → Type 0 where
    misfits : Alike misfit misfit
    both-fit : {s : State} {run : List ℤ} {told : ℕ} → Rel s run told → Alike (fit s) (fits run told)

  -- the walk behind what fits, as the loops go
  abbrev behind : (List ℤ → ℕ → Fit Progress) → Progress → Fit Progress
  behind g s = g s.run s.told

  bind-alike : {x : Fit State} {y : Fit Progress} (f : State → Fit State) (g : List ℤ → ℕ → Fit Progress) → Alike x y
      → ((s : State) (run : List ℤ) (told : ℕ) → Rel s run told → Alike (f s) (g run told)) → Alike (bind x f) (bind y (behind g))
  bind-alike f g misfits h = misfits
  bind-alike f g (both-fit {s} {run} {told} r) h = h s run told r

  guard-both : (a : Bool) (x : Fit State) (y : Fit Progress) → (a ≡ true → Alike x y) → Alike (guard a x) (guard a y)
  guard-both true x y h = h refl
  guard-both false x y h = misfits

  guard-alike : (a b : Bool) (x : Fit State) (y : Fit Progress) → a ≡ b → (a ≡ true → Alike x y) → Alike (guard a x) (guard b y)
  guard-alike a b x y p h = subst (λ c. Alike (guard a x) (guard c y)) p (guard-both a x y h)

  cond-alike : (b : Bool) (x u : Fit State) (y v : Fit Progress) → Alike x y → Alike u v → Alike (cond b x u) (cond b y v)
  cond-alike true x u y v p q = p
  cond-alike false x u y v p q = q

  -- ---- a scalar

  long : {s : State} {run : List ℤ} {told : ℕ} → Rel s run told → length s.text ≡ told
  long {s} {run} {told} r = ap length r.text ∙ length-take-le told source r.within

  good-alike : (e : Entry) (name : ℕ) (it : Item) (ns : Values) {s : State} {run : List ℤ} {told : ℕ} → Rel s run told → good_of masks source e name it ns s ≡ good_of masks source e name it ns (saying told)
  unfolding good_of
  good-alike e name it ns {s} {run} {told} r = rw (long r, length-replicate {A = ℕ} told 0) refl

  joined-texts : (a b told : ℕ) → told ≤ length source → a ≡ told → take told source ++ take b (drop a source) ≡ take (told + b) source
  joined-texts a b told h q =
      ap (λ k. take told source ++ take b (drop k source)) q ∙ sym (take-append-add (take told source) (drop told source) b)
      ∙ ap₂ (λ k xs. take (k + b) xs) (length-take-le told source h) (take-append-drop told source)

  -- every entry but a Pad
  abbrev loop_field : Entry → Fitter → Fitter
  loop_field e loop vs run told = cond (unrepeated e) (one l masks source e loop vs run told) (guard (tabled l e vs run) (each l masks source e loop (members_of vs) run told))

  module _ (e : Entry) (found : Counts.first l e.name < entry_count l) where
    text-stands : (tag a b : ℕ) {cs : List Count} {run : List ℤ} → tag ≡ 1 → Stands l cs run → Stands l cs (note_in l true e (scalar_of tag a b) run)
    unfolding scalar_of
    text-stands tag a b {cs} {run} q s =
        rw q (subst (λ xs. Stands l (xs ++ cs) (note_in l true e (Text a b) run)) (none-either (controls e)) (noted-stands l masks 0 0 true e found (Text a b) cs run (λ _. tt) refl s))
      where
        none-either : (b : Bool) → ◌≡◌ {A = List Count} (cond b [] []) []
        none-either true = refl
        none-either false = refl

    module _ (it : Item) {s : State} {run : List ℤ} {told : ℕ} (r : Rel s run told) where
      after_text : eqb it.tag 1 ≡ true → scalar_ok (length source) it ≡ true → it.a ≡ told
          → Rel (record { counts = s.counts; text = s.text ++ take it.b (drop it.a source) }) (note_in l true e (scalar_in it) run) (told + it.b)
      after_text t k q = record {
        stands = text-stands it.tag it.a it.b (eqb-true it.tag 1 t) r.stands;
        text = ap (λ (x : List ℕ). x ++ take it.b (drop it.a source)) r.text ∙ joined-texts it.a it.b told r.within q;
        within = omega (arith, q, text-within (length source) it k t);
      }

      after-other : it.a < 2 ^ 64 → Rel (noted e (scalar_in it) s) (note_in l true e (scalar_in it) run) (told + 0)
      after-other w =
          let z : told ≡ told + 0 = omega arith in
          subst (λ n. Rel (noted e (scalar_in it) s) (note_in l true e (scalar_in it) run) n) z
          (record {
            stands = noted-stands l masks 0 0 true e found (scalar_in it) s.counts run (λ _. scalar-ranged it.tag it.a it.b w) refl r.stands;
            text = r.text;
            within = r.within;
          })

      after-alike : (name : ℕ) (ns : Values) → good_of masks source e name it ns s ≡ true → Rel (after source e it s) (note_in l true e (scalar_in it) run) (told_after it told)
      unfolding good_of
      after-alike name ns h = go (eqb it.tag 1) refl (and_right f p d)
        where
          f : Bool
          f = fits_of e.p e.q e.r e.s (mask_of masks e) e.width e.kind (scalar_in it) (text_of source it)

          p : Bool
          p = not (eqb it.tag 1) || eqb it.a (length s.text)

          b : (scalar_ok (length source) it && (ltb it.a (2 ^ 64) && (f && p))) ≡ true
          b = and_right (missing ns) (scalar_ok (length source) it && (ltb it.a (2 ^ 64) && (f && p)))
              (and_right (eqb it.name name) (missing ns && (scalar_ok (length source) it && (ltb it.a (2 ^ 64) && (f && p)))) h)

          c : (ltb it.a (2 ^ 64) && (f && p)) ≡ true
          c = and_right (scalar_ok (length source) it) (ltb it.a (2 ^ 64) && (f && p)) b

          d : (f && p) ≡ true
          d = and_right (ltb it.a (2 ^ 64)) (f && p) c

          go : (t : Bool) → eqb it.tag 1 ≡ t → (not t || eqb it.a (length s.text)) ≡ true
              → Rel (cond t (record { counts = s.counts; text = s.text ++ cond t (take it.b (drop it.a source)) [] }) (noted e (scalar_in it) s)) (note_in l true e (scalar_in it) run) (told + cond t it.b 0)
          go true t k = after_text t (and_left (scalar_ok (length source) it) (ltb it.a (2 ^ 64) && (f && p)) b) (eqb-true it.a (length s.text) k ∙ long r)
          go false t k = after-other (ltb-true it.a (2 ^ 64) (and_left (ltb it.a (2 ^ 64)) (f && p) c))

    -- ---- an element

    -- one element of the deciding walk, under a name
    abbrev element_fits : (Values → State → Fit State) → ℕ → Item → Values → State → Fit State
    element_fits inner name it ns s = cond (is_group e) (guard (holds name 7 it ns) (inner ns s)) (guard (good_of masks source e name it ns s) (fit (after source e it s)))

    behind-one : (g h k : Bool) (x : Fit State) (s : State) (f : State → Fit State) → cond g (guard h (bind x f)) (guard k (f s)) ≡ bind (cond g (guard h x) (guard k (fit s))) f
    behind-one true true k x s f = refl
    behind-one true false k x s f = refl
    behind-one false h true x s f = refl
    behind-one false h false x s f = refl

    behind-table : (b : Bool) (x : Fit State) (f : State → Fit State) → guard b (bind x f) ≡ bind (guard b x) f
    behind-table true x f = refl
    behind-table false x f = refl

    module _ (inner : Values → State → Fit State) (loop : Fitter)
        (ih : (ns : Values) (s : State) (run : List ℤ) (told : ℕ) → Rel s run told → Alike (inner ns s) (loop ns run told)) where
      one_alike : (name : ℕ) → name_of e ≡ name → (it : Item) (ns vs : Values) (s : State) (run : List ℤ) (told : ℕ) → Rel s run told
          → Alike (element_fits inner name it ns s) (one l masks source e loop (node it ns vs) run told)
      unfolding one leaf
      one_alike name q it ns vs s run told r =
          subst (λ n. Alike (element_fits inner n it ns s) (one l masks source e loop (node it ns vs) run told)) q
          (cond-alike (is_group e) _ _ _ _
          (guard-both (holds (name_of e) 7 it ns) (inner ns s) (loop ns run told) (λ _. ih ns s run told r))
          (guard-alike (good_of masks source e (name_of e) it ns s) (good_of masks source e (name_of e) it ns (saying told)) (fit (after source e it s))
          (fits (note_in l true e (scalar_in it) run) (told_after it told)) (good-alike e (name_of e) it ns r)
          (λ h. both-fit (after-alike it r (name_of e) ns h))))

      each-alike : unrepeated e ≡ false → (vs : Values) (s : State) (run : List ℤ) (told : ℕ) → Rel s run told → Alike (each_fits masks source e inner vs s) (each l masks source e loop vs run told)
      unfolding each_fits each
      each-alike u none s run told r = both-fit r
      each-alike u (node it ns vs) s run told r =
          subst⁻¹ (λ x. Alike x (bind (one l masks source e loop (node it ns vs) run told) (behind (λ q n. each l masks source e loop vs q n))))
          (behind-one (is_group e) (holds 65536 7 it ns) (good_of masks source e 65536 it ns s) (inner ns s) (after source e it s) (λ s₁. each_fits masks source e inner vs s₁))
          (bind-alike (λ s₁. each_fits masks source e inner vs s₁) (λ q n. each l masks source e loop vs q n)
          (one_alike 65536 (ap (λ b. cond b e.name 65536) u) it ns vs s run told r) (λ s₁ q n. each-alike u vs s₁ q n))

      many-alike : (s : State) (run : List ℤ) (told : ℕ) → Rel s run told → how_many held e s ≡ how_many (λ name q. held_in l name q) e run
      unfolding how_many
      many-alike s run told r = go (present e.depending)
        where
          go : (b : Bool) → cond b (at_most e.occurs (held e.depending s)) (times e.occurs) ≡ cond b (at_most e.occurs (held_in l e.depending run)) (times e.occurs)
          go true = ap (at_most e.occurs) (sym (r.stands.same e.depending))
          go false = refl

      no_item : (b g : Bool) (next : Progress → Fit Progress) (x y z : Fit Progress) → Alike misfit (bind (cond b (cond g (guard false x) (guard false y)) (guard false z)) next)
      no_item true true next x y z = misfits
      no_item true false next x y z = misfits
      no_item false g next x y z = misfits

      module _ (next : Values → State → Fit State) (more : Fitter)
          (ih' : (vs : Values) (s : State) (run : List ℤ) (told : ℕ) → Rel s run told → Alike (next vs s) (more vs run told)) where
        table-alike : unrepeated e ≡ false → (it : Item) (ns vs : Values) (s : State) (run : List ℤ) (told : ℕ) → Rel s run told
            → Alike (guard (holds e.name 6 it ns && numbers (how_many held e s) (count ns)) (bind (each_fits masks source e inner ns s) (next vs)))
            (bind (guard (tabled l e (node it ns vs) run) (each l masks source e loop ns run told)) (behind (λ q n. more vs q n)))
        unfolding tabled
        table-alike u it ns vs s run told r =
            subst⁻¹ (λ x. Alike x (bind (guard (holds e.name 6 it ns && numbers (how_many (λ name q. held_in l name q) e run) (count ns)) (each l masks source e loop ns run told)) (behind (λ q n. more vs q n))))
            (behind-table (holds e.name 6 it ns && numbers (how_many held e s) (count ns)) (each_fits masks source e inner ns s) (next vs))
            (bind-alike (next vs) (λ q n. more vs q n)
            (guard-alike (holds e.name 6 it ns && numbers (how_many held e s) (count ns)) (holds e.name 6 it ns && numbers (how_many (λ name q. held_in l name q) e run) (count ns))
            (each_fits masks source e inner ns s) (each l masks source e loop ns run told)
            (ap (λ m. holds e.name 6 it ns && numbers m (count ns)) (many-alike s run told r)) (λ _. each-alike u ns s run told r))
            (λ s₁ q n. ih' vs s₁ q n))

        first_alike : (vs : Values) (s : State) (run : List ℤ) (told : ℕ) → Rel s run told
            → Alike (first masks source e inner vs s next) (bind (loop_field e loop vs run told) (behind (λ q n. more (rest_of vs) q n)))
        unfolding first one leaf tabled
        first_alike none s run told r = no_item (unrepeated e) (is_group e) (behind (λ q n. more none q n)) (loop none run told) (fits (note_in l true e (scalar_in (head_of none)) run) (told_after (head_of none) told)) (each l masks source e loop none run told)
        first_alike (node it ns vs) s run told r = go (unrepeated e) refl
          where
            go : (b : Bool) → unrepeated e ≡ b
                → Alike
                (cond b (cond (is_group e) (guard (holds e.name 7 it ns) (bind (inner ns s) (next vs))) (guard (good_of masks source e e.name it ns s) (next vs (after source e it s))))
                (guard (holds e.name 6 it ns && numbers (how_many held e s) (count ns)) (bind (each_fits masks source e inner ns s) (next vs))))
                (bind (cond b (one l masks source e loop (node it ns vs) run told) (guard (tabled l e (node it ns vs) run) (each l masks source e loop ns run told))) (behind (λ q n. more vs q n)))
            go true u =
                subst⁻¹ (λ x. Alike x (bind (one l masks source e loop (node it ns vs) run told) (behind (λ q n. more vs q n))))
                (behind-one (is_group e) (holds e.name 7 it ns) (good_of masks source e e.name it ns s) (inner ns s) (after source e it s) (next vs))
                (bind-alike (next vs) (λ q n. more vs q n) (one_alike e.name (ap (λ b. cond b e.name 65536) u) it ns vs s run told r) (λ s₁ q n. ih' vs s₁ q n))
            go false u = table-alike u it ns vs s run told r

  -- ---- a sequence of entries whose names the layout has

  abbrev Named : Tree Entry → Type 0
  Named none = Unit {0}
  Named (node e ms rest) = (Counts.first l e.name < entry_count l) × (Named ms × Named rest)

  seq-alike : (t : Tree Entry) → Named t → (vs : Values) (s : State) (run : List ℤ) (told : ℕ) → Rel s run told → Alike (fitted masks source t vs s) (seq l masks source t vs run told)
  unfolding fitted seq field
  seq-alike none n none s run told r = both-fit r
  seq-alike none n (node it ns vs) s run told r = misfits
  seq-alike (node e ms rest) n vs s run told r = go (is_pad e) (λ us s₁ q k. seq-alike rest n.1.1 us s₁ q k)
      (first_alike e n.0 (λ us s₁. fitted masks source ms us s₁) (λ us q k. seq l masks source ms us q k) (λ us s₁ q k. seq-alike ms n.1.0 us s₁ q k)
      (λ us s₁. fitted masks source rest us s₁) (λ us q k. seq l masks source rest us q k) (λ us s₁ q k. seq-alike rest n.1.1 us s₁ q k) vs s run told r)
    where
      go : (b : Bool) → ((us : Values) (s₁ : State) (q : List ℤ) (k : ℕ) → Rel s₁ q k → Alike (fitted masks source rest us s₁) (seq l masks source rest us q k))
          → Alike (first masks source e (λ us s₁. fitted masks source ms us s₁) vs s (λ us s₁. fitted masks source rest us s₁))
          (bind (loop_field e (λ us q k. seq l masks source ms us q k) vs run told) (behind (λ q k. seq l masks source rest (rest_of vs) q k)))
          → Alike (cond b (fitted masks source rest vs s) (first masks source e (λ us s₁. fitted masks source ms us s₁) vs s (λ us s₁. fitted masks source rest us s₁)))
          (bind (cond b (fits run told) (loop_field e (λ us q k. seq l masks source ms us q k) vs run told))
          (behind (λ q k. seq l masks source rest (cond b vs (rest_of vs)) q k)))
      go true a f = a vs s run told r
      go false a f = f

  named_in : (n lo hi : ℕ) → hi ≤ entry_count l → Named (tree_in n (entry_at l) span_of lo hi)
  unfolding tree_in entry_at
  named_in zero lo hi h = tt
  named_in (suc n) lo hi h = go (ltb lo hi) refl (λ k. named_in n (suc lo) (end_of (span_of (entry_at l lo)) lo hi) k) (named_in n (end_of (span_of (entry_at l lo)) lo hi) hi h)
    where
      go : (b : Bool) → ltb lo hi ≡ b → (end_of (span_of (entry_at l lo)) lo hi ≤ entry_count l → Named (tree_in n (entry_at l) span_of (suc lo) (end_of (span_of (entry_at l lo)) lo hi)))
          → Named (tree_in n (entry_at l) span_of (end_of (span_of (entry_at l lo)) lo hi) hi)
          → Named (cond b (node (entry_at l lo) (tree_in n (entry_at l) span_of (suc lo) (end_of (span_of (entry_at l lo)) lo hi)) (tree_in n (entry_at l) span_of (end_of (span_of (entry_at l lo)) lo hi) hi)) none)
      go true e a b = (first_some l lo (entry_at l lo).name (omega (arith, ltb-true lo hi e)) refl, (a (omega arith), b))
      go false e a b = tt

  named-all : Named (entries l)
  unfolding tree
  named-all = named_in (entry_count l - 0) 0 (entry_count l) (omega arith)

  starts : (n : ℕ) → work_for l ≤ n → Rel start (replicate n (pos 0)) 0
  starts n h = record { stands = stands-none l n h; text = refl; within = omega arith }

  pub joined : (vs : Values) (n : ℕ) → work_for l ≤ n → Alike (fitted masks source (entries l) vs start) (seq l masks source (entries l) vs (replicate n (pos 0)) 0)
  joined vs n h = seq-alike (entries l) named-all vs start (replicate n (pos 0)) 0 (starts n h)

  -- ---- the texts

  abbrev answer : Fit Progress → Bool
  answer misfit = false
  answer (fit s) = eqb s.told (length source)

eqb-next : (m n : ℕ) → eqb m n ≡ eqb (suc m) (suc n)
eqb-next m n = go (eqb m n) refl
  where
    go : (b : Bool) → eqb m n ≡ b → b ≡ eqb (suc m) (suc n)
    go true e = sym (eq-eqb (suc m) (suc n) (ap suc (eqb-true m n e)))
    go false e = sym (ne_eqb (suc m) (suc n) (λ z. eqb-false m n e (omega (arith, z))))

told_same : (xs : List ℕ) (n : ℕ) → n ≤ length xs → same (take n xs) xs ≡ eqb n (length xs)
told_same [] zero h = refl
told_same [] (suc n) h = absurd (omega (arith, h))
told_same (x ∷ xs) zero h = sym (ne_eqb 0 (length (x ∷ xs)) (λ z. omega (arith, z)))
told_same (x ∷ xs) (suc n) h = rw (eq-eqb x x refl) (told_same xs n (omega arith) ∙ eqb-next n (length xs))

text-alike : (l masks source : List ℕ) {x : Fit State} {y : Fit Progress} → Alike l masks source x y → text_is source x ≡ answer l masks source y
text-alike l masks source misfits = refl
text-alike l masks source (both-fit {s} {run} {told} r) = ap (λ t. same t source) r.text ∙ told_same source told r.within

-- ---- the answers of the whole

-- question 11 by its answer
list-not : (r : Result ⊤ Refusal) (w : Bool) → number_in r ≡ cond w 0 11 → is_err r ≡ true → w ≡ false
list-not r true q f = absurd (Refusals.refused r f q)
list-not r false q f = refl

list-so : (r : Result ⊤ Refusal) (w : Bool) → number_in r ≡ cond w 0 11 → is_err r ≡ false → w ≡ true
list-so r true q f = refl
list-so r false q f = let z : number_in r ≡ 0 = Refusals.accepted r f in absurd (omega arith)

module _ (l masks items text : List ℕ) (n : ℕ) where
  abbrev pub Answer : Bool
  Answer = leb (work_for l) n && fitting l masks items text

  module _ (h : work_for l ≤ n) (r : Result ⊤ Refusal) (q : number_in r ≡ cond (well_formed items (length text)) 0 11) where
    pub no-list : is_err r ≡ true → false ≡ Answer
    unfolding fitting
    no-list f = rw (le-leb (work_for l) n h, list-not r (well_formed items (length text)) q f) refl

    module _ (t : is_err r ≡ false) (run₀ : List ℤ) (z : run₀ ≡ replicate n (pos 0)) (hi to : ℕ) (entire : hi ≡ entry_count l) (all : to ≡ item_count items) where
      abbrev Walk : List ℤ → ℕ → ℕ → Fit Progress
      Walk run j k = seq l masks text (part l 0 j) (values items 0 k) run 0

      walked : Answer ≡ answer l masks text (Walk run₀ hi to)
      unfolding fitting
      walked =
          rw (le-leb (work_for l) n h, list-so r (well_formed items (length text)) q t)
          (text-alike l masks text (joined l masks text (values items 0 (item_count items)) n h)
          ∙ ap (λ run. answer l masks text (Walk run (entry_count l) (item_count items))) (sym z)
          ∙ ap₂ (λ j k. answer l masks text (Walk run₀ j k)) (sym entire) (sym all))

      pub no-fit : misfit ≡ Walk run₀ hi to → false ≡ Answer
      no-fit f = sym (walked ∙ ap (answer l masks text) (sym f))

      pub all_fit : (run : List ℤ) (told : ℕ) → fits run told ≡ Walk run₀ hi to → eqb told (length text) ≡ Answer
      all_fit run told f = sym (walked ∙ ap (answer l masks text) (sym f))
