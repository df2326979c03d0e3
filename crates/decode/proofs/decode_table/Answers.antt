-- How many elements there are refuses, or is the number of turns; each turn is a law of Turns, whether or not some table depends on a count.
use Rattle.std.proofs.Common.{ℕ, cond, ◌||◌, true, false, [], refl, sym, ap, ◌∙◌, eqb, arith}
use borrow.Author.Tests.{eq-eqb, ne_eqb}
use Rattle.items.specs.Items.{item_words}
use Rattle.codes.proofs.Refusals.{passed-on}
use Rattle.decode.proofs.Turns.{turns-starts, turns-stop, turns-nothing, turns_go, returned-written}
use Rattle.decode.proofs.Around.{listed-met, head-is, scalars-small, scalars-are, scalars-refused}
use Rattle.decode.proofs.decode_table.Goals as goal

pub returns-then-items-head : goal.returns-then-items-head
returns-then-items-head c =
    let head = c.head_words-head.ensures ∙ ap (λ b. cond {A = ℕ} (false || b) 0 item_words) c.is.ensures in
    record { met = λ deps. scalars-small _ _ _ _ _ _ _ c.in_ok-n.ensures _ c.requires.e_value head c.if-items-head.true }

pub loop-k-init : goal.loop-k-init
loop-k-init c = λ deps. turns-starts _ _ _ _ _ _ _ _ _ c.requires.told_in_bounds c.if-items-head.false

pub offset_bounds-items-all : goal.offset_bounds-items-all
offset_bounds-items-all c = let w = (c.loop-k.invariant true).written in omega (arith, w.within, w.same, c.well_formed)

pub slice_bounds-rest-count : goal.slice_bounds-rest-count
slice_bounds-rest-count c = let w = (c.loop-k.invariant true).written in omega (arith, w.within, w.same)

pub slice_bounds-rest-start : goal.slice_bounds-rest-start
slice_bounds-rest-start c = let w = (c.loop-k.invariant true).written in omega (arith, w.within, w.same)

pub decode_element-requires-clause-told_in_bounds : goal.decode_element-requires-clause-told_in_bounds
decode_element-requires-clause-told_in_bounds c = (c.loop-k.invariant true).fits

pub returns-in_err-o : goal.returns-in_err-o
returns-in_err-o c =
    let head = c.head_words-head.ensures ∙ ap (λ b. cond {A = ℕ} (false || b) 0 item_words) c.is.ensures in
    rw (passed-on c.from_residual-in_err-o.result c.in_err-o.field-0.0 c.from_residual-in_err-o.ensures.1) (record {
      met = λ deps. scalars-refused _ _ _ _ _ _ _ c.in_ok-n.ensures _ c.requires.e_value head c.if-items-head.false _
          (turns-stop (c.loop-k.invariant deps) c.loop-k-test.true c.decode_element.new.items c.decode_element.auto.items _ (c.in_err-o.ensures.element.met c.args.layout.now.words.now deps c.args.counts.now));
    })

pub returns-then-o-eq0 : goal.returns-then-o-eq0
returns-then-o-eq0 c =
    let head = c.head_words-head.ensures ∙ ap (λ b. cond {A = ℕ} (false || b) 0 item_words) c.is.ensures in
    record {
      met = λ deps. scalars-refused _ _ _ _ _ _ _ c.in_ok-n.ensures _ c.requires.e_value head c.if-items-head.false _
          (turns-nothing (c.loop-k.invariant deps) c.loop-k-test.true c.decode_element.new.items c.decode_element.auto.items c.in_ok-o.o c.decode_element.new.text c.args.counts.now
          (c.in_ok-o.ensures.element.met c.args.layout.now.words.now deps c.args.counts.now) (eqb c.in_ok-o.o.taken 0) refl (eq-eqb c.in_ok-o.o.taken 0 c.if-o-eq0.true));
    }

pub then-all-requires-clause-used_fits : goal.then-all-requires-clause-used_fits
then-all-requires-clause-used_fits c =
    let f = c.in_ok-o.ensures.element.met [] true [] in
    omega (arith, (returned-written (c.loop-k.invariant true).written c.decode_element.new.items c.decode_element.auto.items _ f.within).within, c.well_formed)

pub then-all-requires-clause-members_fit : goal.then-all-requires-clause-members_fit
then-all-requires-clause-members_fit c =
    let f = c.in_ok-o.ensures.element.met [] true [] in
    omega (arith, (returned-written (c.loop-k.invariant true).written c.decode_element.new.items c.decode_element.auto.items _ f.within).within, c.well_formed, (c.loop-k.invariant true).few, f.few)

pub loop-k-preserved : goal.loop-k-preserved
loop-k-preserved c =
    λ deps. rw c.then-all.ensures (turns_go (c.loop-k.invariant deps) c.loop-k-test.true c.decode_element.new.items c.decode_element.auto.items c.in_ok-o.o c.decode_element.new.text c.args.counts.now
    (c.in_ok-o.ensures.element.met c.args.layout.now.words.now deps c.args.counts.now) (eqb c.in_ok-o.o.taken 0) refl _ _ c.decode_element.auto.text refl (ne_eqb c.in_ok-o.o.taken 0 c.if-o-eq0.false)
    c.sat_add-place.ensures c.sat_add.ensures)

pub listed-requires-clause-head_le_used : goal.listed-requires-clause-head_le_used
listed-requires-clause-head_le_used c = omega (arith, (c.loop-k.invariant true).few)

pub listed-requires-clause-used_in_bounds : goal.listed-requires-clause-used_in_bounds
listed-requires-clause-used_in_bounds c = let w = (c.loop-k.invariant true).written in omega (arith, w.within, w.same)

pub returns : goal.returns
returns c =
    let head = c.head_words-head.ensures ∙ ap (λ b. cond {A = ℕ} (false || b) 0 item_words) c.is.ensures in
    record {
      met = λ deps. listed-met c.args.e (c.loop-k.invariant deps) c.loop-k-test.false (head-is c.args.e false c.head_words-head.result (sym c.requires.e_value) head)
          (scalars-are _ _ _ _ _ _ _ c.in_ok-n.ensures _ c.requires.e_value head c.if-items-head.false) c.listed.ensures;
    }
