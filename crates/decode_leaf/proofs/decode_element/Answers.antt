-- As one scalar or Pad that is no element, for any layout and any counts, since an element sets none.
use Rattle.std.proofs.Common.{refl, sym, false, length, arith, []}
use Rattle.codes.proofs.Refusals.{passed-on}
use Rattle.decode_leaf.proofs.Scalars.{leaf-outside, leaf-inside, leaf-pad, leaf-scalar, text-outside, text-pad, text-scalar}
use Rattle.decode_leaf.proofs.Scalars.{value-refuses, value_read, element-reads}
use Rattle.decode_leaf.proofs.decode_element.Goals as goal

pub returns-then-not-inside : goal.returns-then-not-inside
returns-then-not-inside c =
    let a = c.args in
    let t = c.inside in
    record {
      element = record {
        met = λ l deps run. leaf-outside l a.«record».now a.page deps a.e 65536 false a.at (length a.items.now) run a.told a.text.now t.result t.ensures c.if-not-inside.true;
        rest = refl;
      };
      text_after = text-outside a.«record».now a.page a.e a.at a.told a.text.now t.result t.ensures c.if-not-inside.true;
    }

pub returns-then-is : goal.returns-then-is
returns-then-is c =
    let a = c.args in
    let t = c.inside in
    record {
      element = record {
        met = λ l deps run. leaf-pad l a.«record».now a.page deps a.e 65536 false a.at (length a.items.now) run a.told a.text.now t.result t.ensures c.if-not-inside.false (sym c.if-is.ensures) c.requires.told_in_bounds
            c.passed.ensures;
        rest = refl;
      };
      text_after = text-pad a.«record».now a.page a.e a.at a.told a.text.now t.result t.ensures c.if-not-inside.false (sym c.if-is.ensures);
    }

pub returns-in_err-v-clause-element : goal.returns-in_err-v-clause-element
returns-in_err-v-clause-element c =
    let a = c.args in
    let t = c.inside in
    let width = leaf-inside [] a.«record».now a.page false a.e 65536 false a.at (length a.items.now) [] a.told a.text.now t.result t.ensures c.if-not-inside.false in
    rw (passed-on c.from_residual.result c.in_err-v.field-0.0 c.from_residual.ensures.1) (record {
      met = λ l deps run. rw (leaf-scalar l a.«record».now a.page deps a.e 65536 false a.at (length a.items.now) run a.told a.text.now (sym c.if-is.ensures))
          (value-refuses l a.«record».now a.page deps a.e 65536 false a.at (length a.items.now) run a.told
          a.text.now width c.requires.told_in_bounds _ (rw c.field_of.ensures at c.in_err-v.ensures.result_value));
      rest = refl;
    })

pub returns-in_err-v-clause-text_after : goal.returns-in_err-v-clause-text_after
returns-in_err-v-clause-text_after c =
    let a = c.args in
    let t = c.inside in
    text-scalar a.«record».now a.page a.e a.at a.told a.text.now t.result t.ensures c.if-not-inside.false (sym c.if-is.ensures)
    (rw c.field_of.ensures at c.in_err-v.ensures.text_after)

pub place_element-requires : goal.place_element-requires
place_element-requires c =
    let a = c.args in
    let t = c.inside in
    let width = leaf-inside [] a.«record».now a.page false a.e 65536 false a.at (length a.items.now) [] a.told a.text.now t.result t.ensures c.if-not-inside.false in
    let read = value_read [] a.«record».now a.page false a.e 65536 false a.at (length a.items.now) [] a.told
    a.text.now width c.requires.told_in_bounds c.in_ok-v.v (rw c.field_of.ensures at c.in_ok-v.ensures.result_value) c.read_part.new.text (rw c.field_of.ensures at c.in_ok-v.ensures.text_after) in
    omega (arith, read.within, read.same, c.well_formed)

pub returns-clause-element : goal.returns-clause-element
returns-clause-element c =
    let a = c.args in
    let t = c.inside in
    let width = leaf-inside [] a.«record».now a.page false a.e 65536 false a.at (length a.items.now) [] a.told a.text.now t.result t.ensures c.if-not-inside.false in
    record {
      met = λ l deps run. rw (leaf-scalar l a.«record».now a.page deps a.e 65536 false a.at (length a.items.now) run a.told a.text.now (sym c.if-is.ensures))
          (element-reads l a.«record».now a.page deps a.e 65536 false a.at (length a.items.now) run a.told
          a.text.now width c.requires.told_in_bounds c.in_ok-v.v (rw c.field_of.ensures at c.in_ok-v.ensures.result_value) c.read_part.new.text (rw c.field_of.ensures at c.in_ok-v.ensures.text_after)
          c.place_element.result c.requires.e_value c.place_element.ensures);
      rest = c.place_element.ensures.rest;
    }

pub returns-clause-text_after : goal.returns-clause-text_after
returns-clause-text_after c =
    let a = c.args in
    let t = c.inside in
    text-scalar a.«record».now a.page a.e a.at a.told a.text.now t.result t.ensures c.if-not-inside.false (sym c.if-is.ensures)
    (rw c.field_of.ensures at c.in_ok-v.ensures.text_after)
