-- The eleven lines of an entry: what reading them one after the other tells.
use mathlib.Core.Path.{◌≡◌, refl, sym, ap, ◌∙◌, subst}
use mathlib.Core.Bool.{Bool, true, false, ◌&&◌, cond, false≢true}
use mathlib.Core.List.{List, [], ◌∷◌}
use Prim.Native.Nat.{ℕ, suc, ◌+◌, ◌-◌, ◌*◌, ◌≤◌, ◌<◌}
use native.Mathlib.Omega.{arith}
use native.Mathlib.Nat.{suc-ne-zero}
use lib.Dec.{eqb}
use lib.ListN.{length, drop}
use borrow.Author.Tests.{ne_eqb, eqb-true, eqb-false}
use Rattle.std.specs.Prelude.{Some, None}
use Rattle.value.specs.Answer.{refused, given}
use Rattle.lines.specs.declared.Found.{Found}
use Rattle.lines.specs.Lines.{name_ok, mask_ok}
use Rattle.layout_text.specs.declared.Number.{Number}
use Rattle.layout_text.specs.declared.Said.{Said}
use Rattle.layout_text.specs.Form.{lines_of, ended, is_none, is_number, optional, mask_for, kind_said, all, tests, entry_lawful, name_word, offset_word, width_word, kind_word, occurs_word}
use Rattle.layout_text.specs.Form.{depending_word, span_word, p_word, q_word, r_word, mask_word}
use Rattle.layout_text.specs.Reading.{depending_said, mask_said}
use Rattle.layout_text.specs.Walk.{Here, line_by, number_in, option_in, number_line, option_line, start_of, DependsOn, Told}
use Rattle.layout_text.proofs.Place.{here-at}
use Rattle.layout_text.proofs.Step.{Track, Goes, GoesNumber, line-goes, line-stops, number-goes, number-stops, lined-long}
use Rattle.layout_text.proofs.Lines.{number-said, option-said, next-is, number-reach, option-reach, name-reach, depending-reach}

-- the tests of the lines from the j-th on
abbrev left : List (List ℕ) → ℕ → ℕ → Bool
left l k j = all (drop j (tests l k))

no-mask : (kind : ℕ) (s : List ℕ) → (kind ≡ 8 → ⊥) → mask_for kind s ≡ true → length s ≡ 0
no-mask kind s z e = by s (ap (λ (t : Bool). cond t (mask_ok s) (is_none s)) (sym (ne_eqb kind 8 z)) ∙ e)
  where
    by : (s : List ℕ) → is_none s ≡ true → length s ≡ 0
    by [] q = refl
    by (x ∷ s) q = absurd (false≢true q)

-- ---- the lines one after the other, from the place where the k-th entry starts. A line that is refused ends it.

none-said : (s : List ℕ) → length s ≡ 0 → is_none s ≡ true
none-said [] h = refl
none-said (x ∷ s) h = absurd (suc-ne-zero (length s) h)

some-said : (s : List ℕ) → (length s ≡ 0 → ⊥) → is_none s ≡ false
some-said [] h = absurd (h refl)
some-said (x ∷ s) h = refl

module _ (text : List ℕ) (at k : ℕ) (h : Here text (k * 11 + 1) at) where
  abbrev l : List (List ℕ)
  l = lines_of text

  abbrev b : Bool
  b = entry_lawful l k

  t0 : Track b (left l k 0) text (k * 11 + 1 + 0) at
  unfolding entry_lawful
  t0 =
      let z : k * 11 + 1 ≡ k * 11 + 1 + 0 = omega arith in
      record { here = subst (λ (i : ℕ). Here text i at) z h; left = refl }

  pub stop0 : (n : ℕ) → refused n ≡ line_by name_ok name_word text at → (ended text && b) ≡ false
  unfolding all
  stop0 n q = line-stops b (left l k 1) name_ok 0x6E (0x61 ∷ 0x6D ∷ 0x65 ∷ 0x3D ∷ []) text (k * 11 + 1 + 0) (k * 11 + 1 + 1) at (omega arith) t0 n q

  module _ (n0 : Found) (e0 : given n0 ≡ line_by name_ok name_word text at) where
    g0 : Goes b (left l k 1) name_ok name_word text (k * 11 + 1 + 0) (k * 11 + 1 + 1) at n0
    unfolding all
    g0 = line-goes b (left l k 1) name_ok 0x6E (0x61 ∷ 0x6D ∷ 0x65 ∷ 0x3D ∷ []) text (k * 11 + 1 + 0) (k * 11 + 1 + 1) at (omega arith) t0 n0 e0

    pub stop1 : (n : ℕ) → refused n ≡ number_line offset_word text n0.next → (ended text && b) ≡ false
    unfolding all
    stop1 n q = number-stops b (left l k 2) is_number (number_in text) 0x6F (0x66 ∷ 0x66 ∷ 0x73 ∷ 0x65 ∷ 0x74 ∷ 0x3D ∷ []) text (k * 11 + 1 + 1) (k * 11 + 1 + 2) n0.next (omega arith) g0.track n q

    module _ (n1 : Number) (e1 : given n1 ≡ number_line offset_word text n0.next) where
      g1 : GoesNumber b (left l k 2) is_number (number_in text) offset_word text (k * 11 + 1 + 1) (k * 11 + 1 + 2) n0.next n1
      unfolding all
      g1 = number-goes b (left l k 2) is_number (number_in text) 0x6F (0x66 ∷ 0x66 ∷ 0x73 ∷ 0x65 ∷ 0x74 ∷ 0x3D ∷ []) text (k * 11 + 1 + 1) (k * 11 + 1 + 2) n0.next (omega arith) g0.track n1 e1

      pub stop2 : (n : ℕ) → refused n ≡ number_line width_word text n1.next → (ended text && b) ≡ false
      unfolding all
      stop2 n q = number-stops b (left l k 3) is_number (number_in text) 0x77 (0x69 ∷ 0x64 ∷ 0x74 ∷ 0x68 ∷ 0x3D ∷ []) text (k * 11 + 1 + 2) (k * 11 + 1 + 3) n1.next (omega arith) g1.track n q

      module _ (n2 : Number) (e2 : given n2 ≡ number_line width_word text n1.next) where
        g2 : GoesNumber b (left l k 3) is_number (number_in text) width_word text (k * 11 + 1 + 2) (k * 11 + 1 + 3) n1.next n2
        unfolding all
        g2 = number-goes b (left l k 3) is_number (number_in text) 0x77 (0x69 ∷ 0x64 ∷ 0x74 ∷ 0x68 ∷ 0x3D ∷ []) text (k * 11 + 1 + 2) (k * 11 + 1 + 3) n1.next (omega arith) g1.track n2 e2

        pub stop3 : (n : ℕ) → refused n ≡ number_line kind_word text n2.next → (ended text && b) ≡ false
        unfolding all
        stop3 n q = number-stops b (left l k 4) is_number (number_in text) 0x6B (0x69 ∷ 0x6E ∷ 0x64 ∷ 0x3D ∷ []) text (k * 11 + 1 + 3) (k * 11 + 1 + 4) n2.next (omega arith) g2.track n q

        module _ (n3 : Number) (e3 : given n3 ≡ number_line kind_word text n2.next) where
          g3 : GoesNumber b (left l k 4) is_number (number_in text) kind_word text (k * 11 + 1 + 3) (k * 11 + 1 + 4) n2.next n3
          unfolding all
          g3 = number-goes b (left l k 4) is_number (number_in text) 0x6B (0x69 ∷ 0x6E ∷ 0x64 ∷ 0x3D ∷ []) text (k * 11 + 1 + 3) (k * 11 + 1 + 4) n2.next (omega arith) g2.track n3 e3

          pub stop4 : (n : ℕ) → refused n ≡ option_line occurs_word text n3.next → (ended text && b) ≡ false
          unfolding all
          stop4 n q = number-stops b (left l k 5) (optional is_number) (option_in text) 0x6F (0x63 ∷ 0x63 ∷ 0x75 ∷ 0x72 ∷ 0x73 ∷ 0x3D ∷ []) text (k * 11 + 1 + 4) (k * 11 + 1 + 5) n3.next (omega arith) g3.track n q

          module _ (n4 : Number) (e4 : given n4 ≡ option_line occurs_word text n3.next) where
            g4 : GoesNumber b (left l k 5) (optional is_number) (option_in text) occurs_word text (k * 11 + 1 + 4) (k * 11 + 1 + 5) n3.next n4
            unfolding all
            g4 = number-goes b (left l k 5) (optional is_number) (option_in text) 0x6F (0x63 ∷ 0x63 ∷ 0x75 ∷ 0x72 ∷ 0x73 ∷ 0x3D ∷ []) text (k * 11 + 1 + 4) (k * 11 + 1 + 5) n3.next (omega arith) g3.track n4 e4

            pub stop5 : (n : ℕ) → refused n ≡ line_by (optional name_ok) depending_word text n4.next → (ended text && b) ≡ false
            unfolding all
            stop5 n q = line-stops b (left l k 6) (optional name_ok) 0x64 (0x65 ∷ 0x70 ∷ 0x65 ∷ 0x6E ∷ 0x64 ∷ 0x69 ∷ 0x6E ∷ 0x67 ∷ 0x3D ∷ []) text (k * 11 + 1 + 5) (k * 11 + 1 + 6) n4.next (omega arith) g4.track n q

            module _ (n5 : Found) (e5 : given n5 ≡ line_by (optional name_ok) depending_word text n4.next) where
              g5 : Goes b (left l k 6) (optional name_ok) depending_word text (k * 11 + 1 + 5) (k * 11 + 1 + 6) n4.next n5
              unfolding all
              g5 = line-goes b (left l k 6) (optional name_ok) 0x64 (0x65 ∷ 0x70 ∷ 0x65 ∷ 0x6E ∷ 0x64 ∷ 0x69 ∷ 0x6E ∷ 0x67 ∷ 0x3D ∷ []) text (k * 11 + 1 + 5) (k * 11 + 1 + 6) n4.next (omega arith) g4.track n5 e5

              pub stop6 : (n : ℕ) → refused n ≡ number_line span_word text n5.next → (ended text && b) ≡ false
              unfolding all
              stop6 n q = number-stops b (left l k 7) is_number (number_in text) 0x73 (0x70 ∷ 0x61 ∷ 0x6E ∷ 0x3D ∷ []) text (k * 11 + 1 + 6) (k * 11 + 1 + 7) n5.next (omega arith) g5.track n q

              module _ (n6 : Number) (e6 : given n6 ≡ number_line span_word text n5.next) where
                g6 : GoesNumber b (left l k 7) is_number (number_in text) span_word text (k * 11 + 1 + 6) (k * 11 + 1 + 7) n5.next n6
                unfolding all
                g6 = number-goes b (left l k 7) is_number (number_in text) 0x73 (0x70 ∷ 0x61 ∷ 0x6E ∷ 0x3D ∷ []) text (k * 11 + 1 + 6) (k * 11 + 1 + 7) n5.next (omega arith) g5.track n6 e6

                pub stop7 : (n : ℕ) → refused n ≡ number_line p_word text n6.next → (ended text && b) ≡ false
                unfolding all
                stop7 n q = number-stops b (left l k 8) is_number (number_in text) 0x70 (0x3D ∷ []) text (k * 11 + 1 + 7) (k * 11 + 1 + 8) n6.next (omega arith) g6.track n q

                module _ (n7 : Number) (e7 : given n7 ≡ number_line p_word text n6.next) where
                  g7 : GoesNumber b (left l k 8) is_number (number_in text) p_word text (k * 11 + 1 + 7) (k * 11 + 1 + 8) n6.next n7
                  unfolding all
                  g7 = number-goes b (left l k 8) is_number (number_in text) 0x70 (0x3D ∷ []) text (k * 11 + 1 + 7) (k * 11 + 1 + 8) n6.next (omega arith) g6.track n7 e7

                  pub stop8 : (n : ℕ) → refused n ≡ number_line q_word text n7.next → (ended text && b) ≡ false
                  unfolding all
                  stop8 n q = number-stops b (left l k 9) is_number (number_in text) 0x71 (0x3D ∷ []) text (k * 11 + 1 + 8) (k * 11 + 1 + 9) n7.next (omega arith) g7.track n q

                  module _ (n8 : Number) (e8 : given n8 ≡ number_line q_word text n7.next) where
                    g8 : GoesNumber b (left l k 9) is_number (number_in text) q_word text (k * 11 + 1 + 8) (k * 11 + 1 + 9) n7.next n8
                    unfolding all
                    g8 = number-goes b (left l k 9) is_number (number_in text) 0x71 (0x3D ∷ []) text (k * 11 + 1 + 8) (k * 11 + 1 + 9) n7.next (omega arith) g7.track n8 e8

                    pub stop9 : (n : ℕ) → refused n ≡ number_line r_word text n8.next → (ended text && b) ≡ false
                    unfolding all
                    stop9 n q = number-stops b (left l k 10) is_number (number_in text) 0x72 (0x3D ∷ []) text (k * 11 + 1 + 9) (k * 11 + 1 + 10) n8.next (omega arith) g8.track n q

                    module _ (n9 : Number) (e9 : given n9 ≡ number_line r_word text n8.next) where
                      g9 : GoesNumber b (left l k 10) is_number (number_in text) r_word text (k * 11 + 1 + 9) (k * 11 + 1 + 10) n8.next n9
                      unfolding all
                      g9 = number-goes b (left l k 10) is_number (number_in text) 0x72 (0x3D ∷ []) text (k * 11 + 1 + 9) (k * 11 + 1 + 10) n8.next (omega arith) g8.track n9 e9

                      kind-read : n3.value ≡ kind_said l k
                      kind-read = number-said kind_word text (k * 11 + 1 + 3) n2.next g3.found g3.goes.lined n3 g3.worth

                      pub stop10 : (n : ℕ) → refused n ≡ line_by (mask_for n3.value) mask_word text n9.next → (ended text && b) ≡ false
                      unfolding all
                      stop10 n q = line-stops b (left l k 11) (mask_for (kind_said l k)) 0x6D (0x61 ∷ 0x73 ∷ 0x6B ∷ 0x3D ∷ []) text (k * 11 + 1 + 10) (k * 11 + 1 + 11) n9.next (omega arith) g9.track n (q ∙ ap (λ (m : ℕ). line_by (mask_for m) mask_word text n9.next) kind-read)

                      module _ (n10 : Found) (e10 : given n10 ≡ line_by (mask_for n3.value) mask_word text n9.next) where
                        g10 : Goes b (left l k 11) (mask_for (kind_said l k)) mask_word text (k * 11 + 1 + 10) (k * 11 + 1 + 11) n9.next n10
                        unfolding all
                        g10 = line-goes b (left l k 11) (mask_for (kind_said l k)) 0x6D (0x61 ∷ 0x73 ∷ 0x6B ∷ 0x3D ∷ []) text (k * 11 + 1 + 10) (k * 11 + 1 + 11) n9.next (omega arith) g9.track n10 (e10 ∙ ap (λ (m : ℕ). line_by (mask_for m) mask_word text n9.next) kind-read)

                        abbrev said : Said
                        said = record {
                          name = n0.start;
                          offset = n1.value;
                          width = n2.value;
                          kind = n3.value;
                          occurs = n4.value;
                          depending = start_of n5;
                          span = n6.value;
                          p = n7.value;
                          q = n8.value;
                          r = n9.value;
                          mask = n10.start;
                          length = n10.end - n10.start;
                          next = n10.next;
                        }

                        mask-long : n10.end - n10.start ≡ length (mask_said l k)
                        mask-long =
                            let e : n10.end ≡ n10.start + length (mask_said l k) = lined-long mask_word text (k * 11 + 1 + 10) n9.next n10 g10.lined in
                            omega (arith, e)

                        depending-read : DependsOn text k (start_of n5)
                        depending-read = by (eqb n5.start n5.end) refl
                          where
                            size : n5.end ≡ n5.start + length (depending_said l k)
                            size = lined-long depending_word text (k * 11 + 1 + 5) n4.next n5 g5.lined

                            by : (t : Bool) → eqb n5.start n5.end ≡ t → DependsOn text k (cond t None (Some n5.start))
                            by true q = let z : n5.start ≡ n5.end = eqb-true n5.start n5.end q in none-said (depending_said l k) (omega (arith, size, z))
                            by false q = let z : n5.start ≡ n5.end → ⊥ = eqb-false n5.start n5.end q in record {
                              named = some-said (depending_said l k) (λ x. z (omega (arith, size, x)));
                              name = g5.lined.name;
                              place = g5.lined.start ∙ ap (λ (n : ℕ). n + length depending_word) (here-at text (k * 11 + 1 + 5) n4.next g4.track.here);
                              inside = omega (arith, g5.lined.order, g5.lined.inside);
                            }

                        ends : (at + length (mask_said l k) < n10.next) × (n10.next ≤ at + 207 + length (mask_said l k))
                        ends =
                            let m0 = name-reach b (left l k 1) name_word text (k * 11 + 1 + 0) (k * 11 + 1 + 1) at n0 g0 in
                            let m1 = number-reach b (left l k 2) offset_word text (k * 11 + 1 + 1) (k * 11 + 1 + 2) n0.next (number_in text) n1 g1 in
                            let m2 = number-reach b (left l k 3) width_word text (k * 11 + 1 + 2) (k * 11 + 1 + 3) n1.next (number_in text) n2 g2 in
                            let m3 = number-reach b (left l k 4) kind_word text (k * 11 + 1 + 3) (k * 11 + 1 + 4) n2.next (number_in text) n3 g3 in
                            let m4 = option-reach b (left l k 5) occurs_word text (k * 11 + 1 + 4) (k * 11 + 1 + 5) n3.next (option_in text) n4 g4 in
                            let m5 = depending-reach b (left l k 6) depending_word text (k * 11 + 1 + 5) (k * 11 + 1 + 6) n4.next n5 g5 in
                            let m6 = number-reach b (left l k 7) span_word text (k * 11 + 1 + 6) (k * 11 + 1 + 7) n5.next (number_in text) n6 g6 in
                            let m7 = number-reach b (left l k 8) p_word text (k * 11 + 1 + 7) (k * 11 + 1 + 8) n6.next (number_in text) n7 g7 in
                            let m8 = number-reach b (left l k 9) q_word text (k * 11 + 1 + 8) (k * 11 + 1 + 9) n7.next (number_in text) n8 g8 in
                            let m9 = number-reach b (left l k 10) r_word text (k * 11 + 1 + 9) (k * 11 + 1 + 10) n8.next (number_in text) n9 g9 in
                            let m10 = next-is b (left l k 11) mask_word text (k * 11 + 1 + 10) (k * 11 + 1 + 11) n9.next (mask_for (kind_said l k)) n10 g10 in
                            (omega (arith, m0, m1, m2, m3, m4, m5, m6, m7, m8, m9, m10), omega (arith, m0, m1, m2, m3, m4, m5, m6, m7, m8, m9, m10))

                        pub told : Told text k at said
                        unfolding all
                        told = record {
                          fine = g10.track.left;
                          here = let e : k * 11 + 1 + 11 ≡ suc k * 11 + 1 = omega arith in subst (λ (i : ℕ). Here text i n10.next) e g10.track.here;
                          name = g0.lined.name;
                          name-at = g0.lined.start ∙ ap (λ (n : ℕ). n + length name_word) (here-at text (k * 11 + 1 + 0) at t0.here);
                          name-inside = omega (arith, g0.lined.order, g0.lined.inside);
                          offset = number-said offset_word text (k * 11 + 1 + 1) n0.next g1.found g1.goes.lined n1 g1.worth;
                          width = number-said width_word text (k * 11 + 1 + 2) n1.next g2.found g2.goes.lined n2 g2.worth;
                          kind = kind-read;
                          occurs = option-said occurs_word text (k * 11 + 1 + 4) n3.next g4.found g4.goes.lined n4 g4.worth;
                          depending = depending-read;
                          span = number-said span_word text (k * 11 + 1 + 6) n5.next g6.found g6.goes.lined n6 g6.worth;
                          p = number-said p_word text (k * 11 + 1 + 7) n6.next g7.found g7.goes.lined n7 g7.worth;
                          q = number-said q_word text (k * 11 + 1 + 8) n7.next g8.found g8.goes.lined n8 g8.worth;
                          r = number-said r_word text (k * 11 + 1 + 9) n8.next g9.found g9.goes.lined n9 g9.worth;
                          mask = g10.lined.bytes;
                          mask-inside = omega (arith, g10.lined.order, g10.lined.inside);
                          long = mask-long;
                          empty = λ x. mask-long ∙ no-mask n3.value (mask_said l k) x (ap (λ (m : ℕ). mask_for m (mask_said l k)) kind-read ∙ g10.passes);
                          room = omega (arith, mask-long, ends.0);
                          short = omega (arith, mask-long, ends.1);
                        }
