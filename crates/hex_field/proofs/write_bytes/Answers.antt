-- Each turn leaves the digits to come and the one that waits; the laws of one turn are in Pairing.
use Rattle.std.proofs.Common.{◌≡◌, ℕ, Option, ◌<◌, sym, ◌∙◌, subst, false, length, get_or, replicate, rules, arith}
use Rattle.numerals.specs.Numerals.{is_blank}
use Rattle.hex_field.proofs.Pairing.{Pairing, pairing-start, pairing-skip, pairing-wait, pairing-pair, pairing-end, pair-lawful, pair-room}
use Rattle.hex_field.proofs.write_bytes.Goals as goal
use Rattle.hex_field.proofs.write_bytes.Goals.{then-not-is_blank+in-Some, then-not-is_blank+in_default, else-not-is_blank}

pub loop-x-init : goal.loop-x-init
loop-x-init c =
    let n = length c.args.part.now in
    let e : c.fill.new.self ≡ replicate n 0 = search rules in
    pairing-start c.args.order c.args.text.now c.fill.new.self n e c.requires

pub pair_of-requires : goal.pair_of-requires
pair_of-requires c =
    let l = c.loop-x in
    let n = length c.args.part.now in
    let P : Option ℕ → Type 0 = λ f. Pairing c.args.order c.args.text.now l.part n f l.j l.x-index in
    let r = subst P c.in-Some.is l.invariant in
    pair-lawful c.args.order c.args.text.now l.part n l.j l.x-index c.loop-x-test.true c.in-Some.a (sym c.is_blank.ensures ∙ c.if-not-is_blank.true) r

pub bounds-part-j : goal.bounds-part-j
bounds-part-j c =
    let l = c.loop-x in
    let n = length c.args.part.now in
    let P : Option ℕ → Type 0 = λ f. Pairing c.args.order c.args.text.now l.part n f l.j l.x-index in
    let r = subst P c.in-Some.is l.invariant in
    let m : l.j < n = pair-room c.args.order c.args.text.now l.part n l.j l.x-index c.loop-x-test.true c.in-Some.a c.requires (sym c.is_blank.ensures ∙ c.if-not-is_blank.true) r in
    omega (arith, l.auto.part, c.fill.ensures.len)

pub overflow_add-j : goal.overflow_add-j
overflow_add-j c =
    let l = c.loop-x in
    let n = length c.args.part.now in
    let P : Option ℕ → Type 0 = λ f. Pairing c.args.order c.args.text.now l.part n f l.j l.x-index in
    let r = subst P c.in-Some.is l.invariant in
    let m : l.j < n = pair-room c.args.order c.args.text.now l.part n l.j l.x-index c.loop-x-test.true c.in-Some.a c.requires (sym c.is_blank.ensures ∙ c.if-not-is_blank.true) r in
    record { fits = omega arith }

pub loop-x-preserved : goal.loop-x-preserved
loop-x-preserved c =
    let l = c.loop-x in
    let s = c.args.text.now in
    let n = length c.args.part.now in
    let h = c.loop-x-test.true in
    let b = c.is_blank.ensures in
    let z : length l.part ≡ n = omega (arith, l.auto.part, c.fill.ensures.len) in
    let P : Option ℕ → Type 0 = λ f. Pairing c.args.order s l.part n f l.j l.x-index in
    elim c.if-not-is_blank.branch [
      | then-not-is_blank+in-Some w ↦
          let r = subst P w.in-Some.is l.invariant in
          let e : is_blank (get_or s l.x-index 0) ≡ false = sym b ∙ w.if-not-is_blank.true in
          let m : l.j < n = pair-room c.args.order s l.part n l.j l.x-index h w.in-Some.a c.requires e r in
          let q = pairing-pair c.args.order s l.part n l.j l.x-index h w.in-Some.a w.pair_of.result z m e w.pair_of.ensures r in
          rw (w.part-is, w.first-is, w.j-is) q
      | then-not-is_blank+in_default w ↦
          let r = subst P w.in_default.is l.invariant in
          let q = pairing-wait c.args.order s l.part n l.j l.x-index h (sym b ∙ w.if-not-is_blank.true) r in
          rw (w.part-is, w.first-is, w.j-is) q
      | else-not-is_blank w ↦
          let q = pairing-skip c.args.order s l.part n l.j l.x-index h l.first (sym b ∙ w.if-not-is_blank.false) l.invariant in
          rw (w.part-is, w.first-is, w.j-is) q
    ]

pub returns : goal.returns
returns c =
    let l = c.loop-x in
    pairing-end c.args.order c.args.text.now l.part (length c.args.part.now) l.first l.j l.x-index c.loop-x-test.false l.invariant
