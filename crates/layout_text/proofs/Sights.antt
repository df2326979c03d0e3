-- The names of one entry, seen one after the other.
use mathlib.Core.Path.{◌≡◌, refl, ap, ◌∙◌}
use mathlib.Core.Bool.{Bool, true, false, cond}
use mathlib.Core.List.{List, map}
use Prim.Native.Nat.{ℕ, ◌+◌, ◌≤◌, ◌<◌, min}
use native.Mathlib.Omega.{arith}
use Rattle.std.specs.Prelude.{Option, Some, None, MatchOption, ⊤}
use lib.ListN.{length, set, take, drop, length-set, length-map, length-take}
use Rattle.layout.specs.Layout.{absent}
use Rattle.lines.specs.Lines.{line_from}
use Rattle.lines.specs.Names.{index_in, names_at, see_at, number_at, is_new, count_after, starts_after}
use Rattle.lines.proofs.Sight.{index-most, seen-after, seen-names}
use Rattle.lists.proofs.Lists.{behind, later}
use Rattle.layout_text.specs.Firsts.{see_both, depending_in}

names-most : (text starts : List ℕ) (count : ℕ) → length (names_at text starts count) ≤ length starts
names-most text starts count =
    let a : length (names_at text starts count) ≡ length (take count starts) = length-map (take count starts) (line_from text) in
    let b : length (take count starts) ≡ min count (length starts) = length-take count starts in
    omega arith

pub number_small : (text starts : List ℕ) (count at n : ℕ) → n ≡ number_at text starts count at → n ≤ length starts
number_small text starts count at n e = omega (arith, index-most (line_from text at) (names_at text starts count), names-most text starts count)

module _ (text starts : List ℕ) (count at c : ℕ) (s : List ℕ) (e : c ≡ count_after text starts count at) (q : s ≡ starts_after text starts count at) where
  pub count_most : (count ≤ c) × (c ≤ count + 1)
  count_most = by (is_new text starts count at) e
    where
      by : (t : Bool) → c ≡ cond t (count + 1) count → (count ≤ c) × (c ≤ count + 1)
      by true x = (omega arith, omega arith)
      by false x = (omega arith, omega arith)

  pub starts-same : length s ≡ length starts
  starts-same = by (is_new text starts count at) q
    where
      by : (t : Bool) → s ≡ cond t (set starts count at) starts → length s ≡ length starts
      by true x = ap length x ∙ length-set starts count at
      by false x = ap length x

  pub seen_one : count < length starts → at < 4294967296 → take c s ≡ see_at text (take count starts) at
  seen_one h k = rw (e, q) (seen-after text starts count at h k)

  -- the table behind those that are seen
  pub kept-one : drop c s ≡ drop c starts
  kept-one = by (is_new text starts count at) e q
    where
      by : (t : Bool) → c ≡ cond t (count + 1) count → s ≡ cond t (set starts count at) starts → drop c s ≡ drop c starts
      by true x y = rw (x, y) (behind starts starts count at refl)
      by false x y = ap (drop c) y

-- what is known when an entry's names are seen: the first, and the second if there is one
pub record Both (text starts : List ℕ) (count name : ℕ) (o : Option ℕ) (n d : ℕ) (s : List ℕ) (c : ℕ) : Type 0 where
  pub name_value : n ≡ index_in (line_from text name) (names_at text starts count)
  pub depending_value : d ≡ depending_in text (names_at text starts count) name o
  pub starts_after : take c s ≡ see_both text (take count starts) name o
  pub starts_unchanged : drop c s ≡ drop c starts
  pub count_le_count : (count ≤ c) × (c ≤ count + 2)
  pub starts_len_unchanged : length s ≡ length starts

module _ (text starts : List ℕ) (count name : ℕ) (h : count + 2 ≤ length starts) (u : name < 4294967296)
    (n c : ℕ) (s : List ℕ) (a : n ≡ number_at text starts count name) (e : c ≡ count_after text starts count name) (q : s ≡ starts_after text starts count name) where
  pub one_name : Both text starts count name None n absent s c
  one_name =
      let k = count_most text starts count name c s e q in
      record {
        name_value = a;
        depending_value = refl;
        starts_after = seen_one text starts count name c s e q (omega arith) u;
        starts_unchanged = kept-one text starts count name c s e q;
        count_le_count = (k.0, omega arith);
        starts_len_unchanged = starts-same text starts count name c s e q;
      }

  -- the second name is seen in the same text
  pub two-names : (same : List ℕ) → same ≡ text → (depending : ℕ) → depending < 4294967296 → (m d : ℕ) (t : List ℕ)
      → m ≡ number_at same s c depending → d ≡ count_after same s c depending → t ≡ starts_after same s c depending
      → Both text starts count name (Some depending) n m t d
  two-names same z depending v m d t b' f' g' =
      let b : m ≡ number_at text s c depending = b' ∙ ap (λ x. number_at x s c depending) z in
      let f : d ≡ count_after text s c depending = f' ∙ ap (λ x. count_after x s c depending) z in
      let g : t ≡ starts_after text s c depending = g' ∙ ap (λ x. starts_after x s c depending) z in
      let k = count_most text starts count name c s e q in
      let j = count_most text s c depending d t f g in
      let l : length s ≡ length starts = starts-same text starts count name c s e q in
      let w : take c s ≡ see_at text (take count starts) name = seen_one text starts count name c s e q (omega arith) u in
      record {
        name_value = a;
        depending_value = b ∙ ap (index_in (line_from text depending)) (ap (map (line_from text)) w ∙ seen-names text (take count starts) name);
        starts_after = seen_one text s c depending d t f g (omega arith) v ∙ ap (λ (x : List ℕ). see_at text x depending) w;
        starts_unchanged = kept-one text s c depending d t f g ∙ later s starts c d j.0 (kept-one text starts count name c s e q);
        count_le_count = (omega arith, omega arith);
        starts_len_unchanged = starts-same text s c depending d t f g ∙ l;
      }

pub some_bound : (o : Option ℕ) (x : ℕ) → o ≡ Some x → MatchOption o ⊤ (λ d. d < 4294967296) → x < 4294967296
some_bound None x e h = let z : ◌≡◌ {A = ℕ} 0 1 = cc in absurd (omega arith)
some_bound (Some y) x e h = let z : y ≡ x = cc in omega (arith, h)
